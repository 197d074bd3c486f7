-- What is left makes the whole.
use Rattle.std.proofs.Common.{◌≡◌, drop}
use Rattle.net_types.specs.Answers.{is_offered}
use Rattle.table_cases.proofs.building.is_offered.Given as goal

abbrev pub invariant-loop-offer : goal.invariant-loop-offer
invariant-loop-offer l = is_offered (drop l.offer-index l.offers) l.who ≡ is_offered l.offers l.who
