use Rattle.text_laws.proofs.ReadEvents.{outputs_name_replies}
use Rattle.text_laws.proofs.outputs_name_replies.Goals as goal

pub returns : goal.returns
returns c = outputs_name_replies
