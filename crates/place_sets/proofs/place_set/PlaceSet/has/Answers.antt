use Rattle.std.proofs.Common.{rules, sym}
use Rattle.place_sets.proofs.PlaceLemmas.{has_none, has_shift}
use Rattle.place_sets.proofs.place_set.PlaceSet.has.Goals as goal

pub returns-in-Some : goal.returns-in-Some
returns-in-Some c = has_shift c.args.self.now c.in-Some.word.now c.args.place (search rules)

pub returns-in-None : goal.returns-in-None
returns-in-None c = sym (has_none c.args.self.now c.args.place (search rules))
