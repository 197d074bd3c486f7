use Rattle.exchange_laws.proofs.Edited.{edits_are_accepted}
use Rattle.exchange_laws.proofs.editing.edits_are_accepted.Goals as goal

pub returns : goal.returns
returns c = edits_are_accepted
