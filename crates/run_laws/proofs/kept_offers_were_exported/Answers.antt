use Rattle.run_laws.proofs.Giving.{kept_offers_were_exported}
use Rattle.run_laws.proofs.kept_offers_were_exported.Goals as goal

pub returns : goal.returns
returns c = kept_offers_were_exported
