use Rattle.exchange_laws.proofs.Edited.{reroutings_are_changes}
use Rattle.exchange_laws.proofs.PolicyEdits.{inbounds_are_changes, outbounds_are_changes}
use Rattle.exchange_laws.proofs.editing.edits_are_changes.Goals as goal

pub returns : goal.returns
returns c = record { reroutings = reroutings_are_changes; outbounds = outbounds_are_changes; inbounds = inbounds_are_changes }
