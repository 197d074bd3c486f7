use Rattle.reply_laws.proofs.PortMacs.{ports_keep_macs}
use Rattle.reply_laws.proofs.replying.ports_keep_macs.Goals as goal

pub returns : goal.returns
returns c = ports_keep_macs
