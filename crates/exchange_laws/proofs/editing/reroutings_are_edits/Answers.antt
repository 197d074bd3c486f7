use Rattle.exchange_laws.proofs.Edited.{reroutings_are_edits}
use Rattle.exchange_laws.proofs.editing.reroutings_are_edits.Goals as goal

pub returns : goal.returns
returns c = reroutings_are_edits
