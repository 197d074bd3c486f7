use Rattle.std.proofs.Common.{◌∙◌}
use Rattle.classifier.proofs.SeenLemmas.{cube_eq_is}
use Rattle.classifier.proofs.seen.is_same.Goals as goal

pub returns : goal.returns
returns c = c.eq.ensures ∙ cube_eq_is c.args.a.now c.args.b.now
