use Rattle.reply_laws.proofs.EveryLine.{lines_have_replies}
use Rattle.reply_laws.proofs.replying.lines_have_replies.Goals as goal

pub returns : goal.returns
returns c = lines_have_replies
