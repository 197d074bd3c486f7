-- The first rule that holds the cell is the one at the place.
use Rattle.std.proofs.Common.{Some, ap, sym, ◌∙◌}
use Rattle.block_build.proofs.ByCellLemmas.{held-at, held-none}
use Rattle.block_build.proofs.given.Given.number_at.Goals as goal

pub returns-in-Some : goal.returns-in-Some
returns-in-Some c = λ ys cell are known.
    let at = held-at cell ys c.in-Some.place (sym known ∙ c.in-Some.is) in
    c.number_of.ensures ys at.rule are at.stands ∙ ap Some at.gives

pub returns-in-None : goal.returns-in-None
returns-in-None c = λ ys cell are known. c.args.self.now.is ∙ ap Some (sym (held-none cell ys (sym known ∙ c.in-None.is)))
