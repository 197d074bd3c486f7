-- Rules pass as the same exactly where they are equal.
use Rattle.std.proofs.Common.{◌≡◌, sym, ap, subst, ◌∙◌}
use Rattle.std.specs.Bool.{Decides}
use Rattle.std.specs.Cmp.Lexicographic.{pointwise}
use Rattle.events.specs.Sound.{same_rule}
use Rattle.block_build.proofs.SameRules.{rules_test}
use Rattle.block_build.proofs.block.Block.is_same.Goals as goal

pub returns : goal.returns
returns c =
    let read = c.same_rules.ensures ∙ ap (λ xs. pointwise same_rule xs c.rules-2.result.now) c.rules.ensures ∙ ap (pointwise same_rule c.args.self.now) c.rules-2.ensures in
    subst (λ same. Decides same (c.args.self.now ≡ c.args.other.now)) (sym read) (rules_test c.args.self.now c.args.other.now)
