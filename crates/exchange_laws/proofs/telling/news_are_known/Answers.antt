use Rattle.exchange_laws.proofs.ToldAnew.{news_are_known}
use Rattle.exchange_laws.proofs.telling.news_are_known.Goals as goal

pub returns : goal.returns
returns c = news_are_known
