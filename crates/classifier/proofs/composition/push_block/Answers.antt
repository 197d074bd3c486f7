use Rattle.std.proofs.Common.{◌≡◌, OnOk, List, [], ◌∷◌, ◌++◌, sym, ap, ◌∙◌, subst}
use Rattle.classifier.specs.declared.line.Line.{Line}
use Rattle.classifier.specs.declared.join.Join.TheVariants.{Union}
use Rattle.classifier.specs.Lines.{add_lines, product, pulled, block, line}
use Rattle.classifier.specs.Runs.{lines_in}
use Rattle.classifier.proofs.BlockLemmas.{block_added}
use Rattle.classifier.proofs.composition.push_block.Goals as goal

pub returns-in_ok-within-in-Some-clause-lines : goal.returns-in_ok-within-in-Some-clause-lines
returns-in_ok-within-in-Some-clause-lines c =
    let kept = c.args.lines.now.items in
    let ys = lines_in c.args.runs.now in
    let alone = line [] c.args.x.now.cube ∷ [] in
    let last = c.in-Some.last.now in
    let others = c.in-Some.others.now in
    let split : others ++ last ∷ [] ≡ c.args.x.now.results = sym c.in-Some.ensures.cases.0 ∙ c.items.ensures in
    let made : add_lines kept (product Union c.deref.result.now (pulled last ys)) ≡ add_lines kept (block alone c.args.x.now.results ys) =
    ap (λ xs. add_lines kept (product Union xs (pulled last ys))) (c.deref.ensures.value ∙ c.in_ok-within-in-Some.ensures)
    ∙ sym (block_added kept alone others last ys)
    ∙ ap (λ items. add_lines kept (block alone items ys)) split in
    subst (λ (lines : List Line). OnOk c.push_product_behind.result (c.push_product_behind.new.lines.items ≡ lines)) made c.push_product_behind.ensures.lines
