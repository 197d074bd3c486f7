use Rattle.std.proofs.Common.{◌≡◌, ◌∷◌, ◌++◌, length, map, take, sym, ap, ◌∙◌, arith}
use Rattle.std.proofs.lemmas.List.{length-map, map-append}
use Rattle.std.proofs.lemmas.Result.{on_ok_weaker}
use Rattle.std.specs.Map.Iter.{deref_pair}
use Rattle.ordered_map.specs.Entries.{entries_of, node_entries}
use Rattle.ordered_map.proofs.GatherLemmas.{gathered}
use Rattle.ordered_map.proofs.tree.+gather.Goals as goal

pub returns-in_ok-gather_run-in-Full-clause-entries : goal.returns-in_ok-gather_run-in-Full-clause-entries
returns-in_ok-gather_run-in-Full-clause-entries g t c =
    let whole : entries_of c.args.tree.now ≡ entries_of c.in-Full.left ++ (c.in-Full.key, c.in-Full.value) ∷ (c.in-Full.others ++ entries_of c.in-Full.right) = ap entries_of c.in-Fork.is ∙ ap node_entries (sym c.deref.ensures ∙ c.in-Full.is) in
    let size = length-map c.gather.new.entries.items deref_pair in
    let fewer : length (map deref_pair c.gather.new.entries.items) ≡ c.args.count → ⊥ = λ full. c.if-len-count.false (omega (arith, size, full, c.gather.new.entries.ok.0, c.len.ensures)) in
    let next = ap (map deref_pair) c.in_ok-push-in-Full.ensures.items ∙ map-append deref_pair c.gather.new.entries.items _ in
    let own = c.in_ok-gather_run-in-Full.ensures.entries ∙ ap (λ es. take c.args.count (map deref_pair c.push.new.self.items ++ es)) c.entries.ensures in
    on_ok_weaker c.gather-in-Full.result (λ last. gathered c.args.count _ (map deref_pair c.gather.new.entries.items) _ _ _ (entries_of c.in-Full.left) _ c.in-Full.others (entries_of c.in-Full.right) c.in_ok-gather-in-Full.ensures.entries fewer next own last ∙ ap (λ es. take c.args.count (map deref_pair c.args.entries.now.items ++ es)) (sym whole)) c.gather-in-Full.ensures.entries
