-- The last one has no rules.
use Rattle.std.proofs.Common.{◌≤◌, ◌+◌, ◌-◌, length, sym, subst, ap, ◌∙◌, inl, inr, arith}
use Rattle.std.specs.Prelude.{is_some, option_copied, slice_get}
use Rattle.std.proofs.lemmas.Bool.{false≢true}
use Rattle.recompile.proofs.ListLemmas.{all_but_last, fewer_by_last}
use Rattle.recompile.specs.Units.{HasRules}
use Rattle.recompile.proofs.lists.pair_to_do.Goals as goal

pub loop-pair-preserved : goal.loop-pair-preserved
loop-pair-preserved g c =
    let pairs = c.loop-pair.pairs in
    let count = sym c.deref.ensures.len ∙ ap length c.deref.ensures.value in
    let last = c.in-Some.ensures.value ∙ ap (λ xs. slice_get xs (length xs - 1)) c.deref.ensures.value in
    record {
      kept = λ pair has old. elim (all_but_last pairs.items c.pop.new.self.items pairs.len c.in-Some.field-0.now count c.pop.ensures.rest last pair (c.loop-pair.invariant.kept pair has old)) [
        | inl there ↦ there
        | inr same ↦
            let none = sym c.rules_of.ensures ∙ ap option_copied c.in_default-rules_of.is in
            absurd (false≢true (sym (ap is_some none) ∙ subst (HasRules (g.B.Blocks.installed c.args.switch.now).table) same has))
      ];
      fewer =
          let one : length c.pop.new.self.items + 1 ≤ length pairs.items = fewer_by_last pairs.items c.pop.new.self.items pairs.len c.in-Some.field-0.now count c.pop.ensures.rest last in
          let before : length pairs.items ≤ length c.args.pairs.now.items = c.loop-pair.invariant.fewer in
          omega (arith, one, before);
    }
