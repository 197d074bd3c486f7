-- A text has one value.
use Rattle.export_rules.proofs.TextValue.{value_spelled, spelled_value, place_wrong, wrong_place}
use Rattle.export_rules.proofs.laws.reading_is_spelling.Goals as goal

pub returns-clause-spelled : goal.returns-clause-spelled
returns-clause-spelled c = λ text rs. (value_spelled text rs, spelled_value text rs)

pub returns-clause-failed : goal.returns-clause-failed
returns-clause-failed c = λ text at. (place_wrong text at, wrong_place text at)
