use Rattle.text_laws.proofs.Replies.{writable_texts_name_replies}
use Rattle.text_laws.proofs.writable_texts_name_replies.Goals as goal

pub returns : goal.returns
returns c = writable_texts_name_replies
