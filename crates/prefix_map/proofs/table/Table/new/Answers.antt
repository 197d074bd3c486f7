use Rattle.std.proofs.Common.{◌++◌, ◌∷◌, [], length, length-append, refl, sym, ap, subst, ◌∙◌, arith}
use Rattle.prefix_map.specs.Tables.{all_entries, AreNumbered}
use Rattle.prefix_map.specs.Tries.{AllKeys}
use Rattle.prefix_map.specs.declared.trie.Trie.{Empty}
use Rattle.prefix_map.proofs.TableLemmas.{entries_append, numbered_more}
use Rattle.prefix_map.proofs.table.Table.new.Goals as goal

pub loop-preserved : goal.loop-preserved
loop-preserved g c = record {
  numbered = subst (AreNumbered 0) (sym c.in_ok-push.ensures.items) (numbered_more 0 c.loop.parts.items c.loop.invariant.numbered);
  whole = let size = ap length c.in_ok-push.ensures.items ∙ length-append c.loop.parts.items (Empty ∷ []) in let before = c.loop.invariant.whole in omega (arith, size, before);
  empty = ap all_entries c.in_ok-push.ensures.items ∙ entries_append c.loop.parts.items (Empty ∷ []) ∙ ap (λ es. es ++ []) c.loop.invariant.empty;
}

pub returns-clause-table : goal.returns-clause-table
returns-clause-table g c =
    let size = c.loop.invariant.whole in
    let past = c.loop-test.false in
    let until = c.loop.auto.counter-end in
    record {
      numbered = c.loop.invariant.numbered;
      whole = omega (arith, size, past, until);
      lengths = refl;
      marked = subst (AllKeys _) (sym c.loop.invariant.empty) tt;
    }
