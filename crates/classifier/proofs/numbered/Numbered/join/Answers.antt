use Rattle.std.proofs.Common.{arith, List, ◌≡◌, ◌∙◌, ◌+◌, ◌<◌, [], Some, ap, drop, length, refl, sym, subst}
use Rattle.std.specs.List.{slice_get}
use Rattle.std.proofs.lemmas.List.{drop_all}
use Rattle.std.proofs.lemmas.Option.{slice_get_read}
use Rattle.classifier.specs.declared.line.Line.{Line}
use Rattle.classifier.specs.declared.join.Join.TheVariants.{Union}
use Rattle.classifier.specs.Classifiers.{lines_of}
use Rattle.classifier.specs.Items.{Item}
use Rattle.classifier.specs.Lines.{add_lines, product, row}
use Rattle.classifier.specs.Meaning.{HasDistinctCubes, ends_with_everything}
use Rattle.classifier.proofs.AddLemmas.{add_lines_more}
use Rattle.classifier.proofs.LineLemmas.{product-everything}
use Rattle.classifier.proofs.NumberLemmas.{numbered_at, numbered_length}
use Rattle.classifier.proofs.ShapeLemmas.{distinct-add_lines, ends-add_lines, ends-everything}
use Rattle.classifier.proofs.numbered.Numbered.join.Goals as goal
use Rattle.classifier.proofs.numbered.Numbered.join.Goals.{After-loop-i}

pub index-requires : goal.index-requires
index-requires c =
    let a = c.args.a.now in
    let long = numbered_length a.table.lists.items (lines_of a.whole) a.numbers.items a.numbered in
    let within : c.loop-i.i < length (lines_of a.whole) = subst (λ (xs : List Line). c.loop-i.i < length xs) c.lines-xs.ensures.rules c.loop-i-test.true in
    subst (λ n. c.loop-i.i < n) (sym (a.numbers.ok.0 ∙ long)) within

pub push_unions-requires-clause-x : goal.push_unions-requires-clause-x
push_unions-requires-clause-x c =
    let a = c.args.a.now in
    let i = c.loop-i.i in
    let x = c.index-xs-i.result in
    let n = c.index.result.now in
    let xs = c.lines-xs.result.now in
    let lines = lines_of a.whole in
    let long = numbered_length a.table.lists.items lines a.numbers.items a.numbered in
    let within : i < length lines = subst (λ (zs : List Line). i < length zs) c.lines-xs.ensures.rules c.loop-i-test.true in
    let line : slice_get lines i ≡ Some x = ap (λ (zs : List Line). slice_get zs i) (sym c.lines-xs.ensures.rules) ∙ slice_get_read xs (length xs) i x refl c.loop-i-test.true c.index-xs-i.is in
    let number : slice_get a.numbers.items i ≡ Some n = slice_get_read a.numbers.items (length a.numbers.items) i n refl (subst (λ m. i < m) (sym long) within) c.index.ensures in
    ap (λ (ls : List (List Item)). slice_get ls n) c.loop-i.invariant.firsts ∙ numbered_at a.table.lists.items lines a.numbers.items i x n a.numbered line number

pub loop-i-preserved : goal.loop-i-preserved
loop-i-preserved c =
    let xs = c.lines-xs.result.now in
    let i = c.loop-i.i in
    let b = lines_of c.args.b.now.whole in
    record {
      whole =
          ap (λ kept. add_lines kept (product Union (drop (i + 1) xs) b)) (c.in_ok-push_unions.ensures.lines
          ∙ ap (λ ys. add_lines c.loop-i.lines.items (row Union c.index-xs-i.result ys)) c.lines.ensures.rules)
          ∙ sym (add_lines_more (λ zs. product Union zs b) (λ x. row Union x b) (λ _ _. refl) c.loop-i.lines.items xs i c.index-xs-i.result c.loop-i-test.true c.index-xs-i.is)
          ∙ c.loop-i.invariant.whole;
      numbered = c.in_ok-push_unions.ensures.numbered;
      agrees = c.in_ok-push_unions.ensures.agrees;
      firsts = c.push_unions.ensures.firsts ∙ c.loop-i.invariant.firsts;
      seconds = c.push_unions.ensures.seconds ∙ c.loop-i.invariant.seconds;
    }

-- the lines that are made, of those of both
made : (c : After-loop-i) → c.loop-i.lines.items ≡ add_lines [] (product Union (lines_of c.args.a.now.whole) (lines_of c.args.b.now.whole))
made c =
    let b = lines_of c.args.b.now.whole in
    ap (λ (xs : List Line). add_lines c.loop-i.lines.items (product Union xs b)) (sym (drop_all c.loop-i.i c.lines-xs.result.now (omega (arith, c.loop-i-test.false))))
    ∙ c.loop-i.invariant.whole
    ∙ ap (λ (xs : List Line). add_lines [] (product Union xs b)) c.lines-xs.ensures.rules

pub from_vec-requires-clause-distinct : goal.from_vec-requires-clause-distinct
from_vec-requires-clause-distinct c = subst HasDistinctCubes (sym (made c)) (distinct-add_lines [] (product Union (lines_of c.args.a.now.whole) (lines_of c.args.b.now.whole)) tt)

pub from_vec-requires-clause-total : goal.from_vec-requires-clause-total
from_vec-requires-clause-total c =
    let a = c.args.a.now.whole in
    let b = c.args.b.now.whole in
    ap ends_with_everything (made c) ∙ ends-add_lines (product Union (lines_of a) (lines_of b)) (product-everything Union (lines_of a) (lines_of b) (ends-everything (lines_of a) a.total) (ends-everything (lines_of b) b.total))
