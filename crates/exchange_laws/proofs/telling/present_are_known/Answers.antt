use Rattle.exchange_laws.proofs.ToldAnew.{present_are_known}
use Rattle.exchange_laws.proofs.telling.present_are_known.Goals as goal

pub returns : goal.returns
returns c = present_are_known
