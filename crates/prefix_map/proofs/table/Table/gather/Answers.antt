use Rattle.std.proofs.Common.{◌≡◌, ◌+◌, ◌++◌, take, append_assoc, sym, ap, ◌∙◌}
use Rattle.std.proofs.lemmas.List.{append-nil, take_all, take_more}
use Rattle.prefix_map.specs.Entries.{entries_of, seen_entries}
use Rattle.prefix_map.specs.Tables.{all_entries}
use Rattle.prefix_map.proofs.TableLemmas.{entries_append}
use Rattle.prefix_map.proofs.table.Table.gather.Goals as goal

pub loop-part-preserved : goal.loop-part-preserved
loop-part-preserved g c =
    let ts = c.deref-part-items.result.now in
    let i = c.loop-part.part-index in
    let t = c.part-item.result in
    let before = seen_entries c.args.entries.now.items in
    let more : all_entries (take (i + 1) ts) ≡ all_entries (take i ts) ++ entries_of t =
    ap all_entries (take_more ts i t c.loop-part-test.true)
    ∙ entries_append (take i ts) _
    ∙ ap (λ es. all_entries (take i ts) ++ es) (append-nil _ ∙ ap entries_of (sym c.part-item.is)) in
    c.in_ok-gather.ensures
    ∙ ap (λ es. es ++ entries_of t) c.loop-part.invariant
    ∙ append_assoc before (all_entries (take i ts)) (entries_of t)
    ∙ ap (λ es. before ++ es) (sym more)

pub returns : goal.returns
returns g c =
    c.loop-part.invariant
    ∙ ap (λ ts. seen_entries c.args.entries.now.items ++ all_entries ts) (take_all c.loop-part.part-index c.deref-part-items.result.now c.loop-part-test.false ∙ c.deref-part-items.ensures.value)
