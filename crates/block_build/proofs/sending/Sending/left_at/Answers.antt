-- The rule at the place is the first one that holds the cube.
use Rattle.std.proofs.Common.{sym, ap, ◌∙◌}
use Rattle.block_build.specs.Offers.{has_one_left}
use Rattle.block_build.proofs.ByCellLemmas.{held-at, held-none}
use Rattle.block_build.proofs.sending.Sending.left_at.Goals as goal

pub returns-in-Some : goal.returns-in-Some
returns-in-Some c = λ cube known.
    let at = held-at cube c.args.self.now.rules.now c.in-Some.place (sym known ∙ c.in-Some.is) in
    c.is_left.ensures at.rule at.stands ∙ ap (has_one_left c.args.self.now.offers.now) at.gives

pub returns-in-None : goal.returns-in-None
returns-in-None c = λ cube known. sym (ap (has_one_left c.args.self.now.offers.now) (held-none cube c.args.self.now.rules.now (sym known ∙ c.in-None.is)))
