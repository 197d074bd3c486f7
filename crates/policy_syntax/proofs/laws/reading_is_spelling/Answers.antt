-- A text has one value.
use Rattle.policy_syntax.proofs.TextValue.{value_spelled, spelled_value, place_wrong, wrong_place, place_deep, deep_place}
use Rattle.policy_syntax.proofs.laws.reading_is_spelling.Goals as goal

pub returns-clause-spelled : goal.returns-clause-spelled
returns-clause-spelled c = λ text p. (value_spelled text p, spelled_value text p)

pub returns-clause-wrong : goal.returns-clause-wrong
returns-clause-wrong c = λ text at. (place_wrong text at, wrong_place text at)

pub returns-clause-deep : goal.returns-clause-deep
returns-clause-deep c = λ text at. (place_deep text at, deep_place text at)
