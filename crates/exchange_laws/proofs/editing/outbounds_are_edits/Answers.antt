use Rattle.exchange_laws.proofs.Bases.{outbound_bases}
use Rattle.exchange_laws.proofs.PolicyEdits.{outbounds_are_edits}
use Rattle.exchange_laws.proofs.editing.outbounds_are_edits.Goals as goal

pub returns : goal.returns
returns c = record { bases = outbound_bases; edits = outbounds_are_edits }
