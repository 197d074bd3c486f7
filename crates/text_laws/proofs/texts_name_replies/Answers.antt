use Rattle.text_laws.proofs.LegalReplies.{texts_name_replies}
use Rattle.text_laws.proofs.texts_name_replies.Goals as goal

pub returns : goal.returns
returns c = texts_name_replies
