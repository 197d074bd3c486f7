use Rattle.exchange_laws.proofs.Bases.{inbound_bases}
use Rattle.exchange_laws.proofs.PolicyEdits.{inbounds_are_edits}
use Rattle.exchange_laws.proofs.editing.inbounds_are_edits.Goals as goal

pub returns : goal.returns
returns c = record { bases = inbound_bases; edits = inbounds_are_edits }
