use Rattle.exchange_laws.proofs.RulesAfter.{live_pairs_keep_parts}
use Rattle.exchange_laws.proofs.rules.live_pairs_keep_parts.Goals as goal

pub returns : goal.returns
returns c = live_pairs_keep_parts
