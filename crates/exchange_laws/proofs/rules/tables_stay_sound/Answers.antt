use Rattle.exchange_laws.proofs.RulesAfter.{tables_stay_sound}
use Rattle.exchange_laws.proofs.rules.tables_stay_sound.Goals as goal

pub returns : goal.returns
returns c = tables_stay_sound
