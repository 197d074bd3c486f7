-- Of no pairs none go.
use Rattle.std.proofs.Common.{◌≡◌, [], map, sym, ap, ◌∙◌}
use Rattle.std.proofs.lemmas.Bool.{eqb-true}
use Rattle.std.proofs.lemmas.List.{nil_from_length}
use Rattle.net_types.proofs.ValueLemmas.{no_entries}
use Rattle.net_types.specs.Keys.{pair_cmp}
use Rattle.net_types.specs.declared.rule.Pair.{Pair}
use Rattle.fast_path.specs.Pairs.{dropped_pairs}
use Rattle.fast_path.proofs.pairs.dropped_pairs.Goals as goal

pub returns-then-is_empty-2 : goal.returns-then-is_empty-2
returns-then-is_empty-2 c =
    let gone : c.args.gone.now ≡ [] = nil_from_length c.args.gone.now (eqb-true _ 0 (sym c.is_empty.ensures ∙ c.if-is_empty.true)) in
    let rebuild : c.args.rebuild.now ≡ [] = nil_from_length c.args.rebuild.now (eqb-true _ 0 (sym c.is_empty-then-is_empty.ensures ∙ c.if-is_empty-2.true)) in
    let none : dropped_pairs [] [] ≡ [] = ap (map (λ (e : Pair × Pair). e.0)) (no_entries Pair Pair pair_cmp) in
    c.new.ensures ∙ sym none ∙ (λ i. dropped_pairs (sym gone i) (sym rebuild i))
