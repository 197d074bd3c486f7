use Rattle.std.proofs.Common.{◌≡◌, ◌∙◌, ◌++◌, ◌∷◌, ◌+◌, [], Some, ap, sym, subst, take}
use Rattle.std.proofs.lemmas.List.{take_more}
use Rattle.classifier.specs.Numbered.{AreNumbered}
use Rattle.classifier.proofs.NumberLemmas.{numbered_kept, numbered_push}
use Rattle.classifier.proofs.numbered.Numbered.new.Goals as goal

pub loop-line-preserved : goal.loop-line-preserved
loop-line-preserved c =
    let lines = c.lines-line-items.result.now in
    let i = c.loop-line.line-index in
    let x = c.line-item.result in
    let lists = c.put.new.self.lists.items in
    let more : take (i + 1) lines ≡ take i lines ++ x ∷ [] = take_more lines i x c.loop-line-test.true ∙ ap (λ y. take i lines ++ y ∷ []) (sym c.line-item.is) in
    subst (λ xs. AreNumbered lists xs c.push.new.self.items) (sym more)
    (subst (AreNumbered lists (take i lines ++ x ∷ [])) (sym c.in_ok-push.ensures.items)
    (numbered_push lists (take i lines) c.loop-line.numbers.items x c.in_ok-number.number
    (numbered_kept c.loop-line.table.lists.items lists (take i lines) c.loop-line.numbers.items c.in_ok-number.ensures.kept c.loop-line.invariant)
    (c.in_ok-number.ensures.number ∙ ap Some c.in_ok-copy.ensures)))
