use Rattle.std.proofs.Common.{◌≡◌, length, List, [], ◌∷◌, map, sym, ap, ◌∙◌, subst}
use Rattle.std.proofs.lemmas.Bool.{eqb-true}
use Rattle.net_types.specs.Sets.{Member}
use Rattle.classifier.specs.Items.{Item}
use Rattle.classifier.specs.Meaning.{carried}
use Rattle.classifier.specs.Sums.{IsSum}
use Rattle.classifier.proofs.SumLemmas.{sum-none, sum-one, sum-halves}
use Rattle.std.proofs.lemmas.List.{nil_from_length}
use Rattle.classifier.proofs.sum.+parallel_all.Goals as goal

pub returns-in_default : goal.returns-in_default
returns-in_default t c =
    let f = c.in_ok-none.ensures in
    subst (λ xs. IsSum xs c.in_ok-none.none) (sym (nil_from_length c.args.parts.now c.in_default.ensures.cases))
    (sum-none c.in_ok-none.none (λ h l. f.all h l ∙ ap (map (carried h l)) c.new.ensures) f.cubes
    (λ m k. subst (λ (items : List Item). Member m (map (λ i. i.0) items)) c.new.ensures (f.assigns m k)))

pub returns-then-is_empty : goal.returns-then-is_empty
returns-then-is_empty t c =
    let first = c.in-Some.first.now in
    let none : c.in-Some.others.now ≡ [] = nil_from_length c.in-Some.others.now (eqb-true (length c.in-Some.others.now) 0 (sym c.if-is_empty.ensures)) in
    subst (λ xs. IsSum xs c.in_ok-same.same) (sym (c.in-Some.ensures.cases.0 ∙ ap (λ xs. first ∷ xs) none)) (sum-one first c.in_ok-same.same c.in_ok-same.ensures)

pub returns : goal.returns
returns t c =
    let f = c.in_ok-all.ensures in
    sum-halves _ c.args.parts.now c.split_at.result.0.now c.split_at.result.1.now c.in_ok-left.left c.in_ok-right.right c.in_ok-all.all
    c.split_at.ensures.front c.split_at.ensures.back c.in_ok-left.ensures c.in_ok-right.ensures f.union f.cubes f.assigns
