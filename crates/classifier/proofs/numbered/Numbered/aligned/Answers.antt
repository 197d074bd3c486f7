use Rattle.std.proofs.Common.{arith, List, [], ◌≡◌, ◌∙◌, ◌+◌, ◌<◌, ◌∷◌, ◌++◌, Some, ap, drop, length, refl, sym, subst, slice_index_or}
use Rattle.std.specs.List.{slice_get}
use Rattle.std.proofs.lemmas.List.{append-nil, append_assoc, drop_all}
use Rattle.std.proofs.lemmas.Option.{slice_get_within, slice_get_read, slice_get-get_or}
use Rattle.classifier.specs.declared.line.Line.{Line}
use Rattle.classifier.specs.Classifiers.{lines_of}
use Rattle.classifier.specs.Items.{Item, add_all}
use Rattle.classifier.specs.Lines.{aligned, line}
use Rattle.classifier.specs.Numbered.{list_at}
use Rattle.classifier.specs.Meaning.{HasDistinctCubes, cubes_of, ends_with_everything}
use Rattle.net_types.specs.Sets.{HasNoRepeats}
use Rattle.classifier.proofs.AlignedLemmas.{aligned-length, aligned_more, cubes-aligned, ends-aligned}
use Rattle.classifier.proofs.NumberLemmas.{list_there, numbered_at, numbered_length}
use Rattle.classifier.proofs.numbered.Numbered.aligned.Goals as goal
use Rattle.classifier.proofs.numbered.Numbered.aligned.Goals.{After-loop-i}

pub push_joined-requires-clause-first : goal.push_joined-requires-clause-first
push_joined-requires-clause-first c =
    let a = c.args.a.now in
    let i = c.loop-i.i in
    let x = c.index-xs-i.result in
    let n = c.index.result.now in
    let xs = c.lines-xs.result.now in
    let lines = lines_of a.whole in
    let long = numbered_length a.table.lists.items lines a.numbers.items a.numbered in
    let within : i < length lines = subst (λ (zs : List Line). i < length zs) c.lines-xs.ensures.rules c.loop-i-test.true in
    let rule : slice_get lines i ≡ Some x = ap (λ (zs : List Line). slice_get zs i) (sym c.lines-xs.ensures.rules) ∙ slice_get_read xs (length xs) i x refl c.loop-i-test.true c.index-xs-i.is in
    let number : slice_get a.numbers.items i ≡ Some n = slice_get_read a.numbers.items (length a.numbers.items) i n refl (subst (λ m. i < m) (sym long) within) c.index.ensures in
    subst (λ (ls : List (List Item)). n < length ls) (sym c.loop-i.invariant.firsts)
    (slice_get_within a.table.lists.items n x.results (numbered_at a.table.lists.items lines a.numbers.items i x n a.numbered rule number))

pub push_joined-requires-clause-second : goal.push_joined-requires-clause-second
push_joined-requires-clause-second c =
    let b = c.args.b.now in
    let i = c.loop-i.i in
    let x = c.index-xs-i.result in
    let n = c.index-in-loop-i.result.now in
    let lines = lines_of b.whole in
    let y = slice_index_or lines i x in
    let first : i < length (lines_of c.args.a.now.whole) = subst (λ (zs : List Line). i < length zs) c.lines-xs.ensures.rules c.loop-i-test.true in
    let within : i < length lines = subst (λ m. i < m) (aligned-length (lines_of c.args.a.now.whole) lines c.requires) first in
    let long = numbered_length b.table.lists.items lines b.numbers.items b.numbered in
    let number : slice_get b.numbers.items i ≡ Some n = slice_get_read b.numbers.items (length b.numbers.items) i n refl (subst (λ m. i < m) (sym long) within) c.index-in-loop-i.ensures in
    subst (λ (ls : List (List Item)). n < length ls) (sym c.loop-i.invariant.seconds)
    (slice_get_within b.table.lists.items n y.results (numbered_at b.table.lists.items lines b.numbers.items i y n b.numbered (slice_get-get_or lines i x within) number))

pub loop-i-preserved : goal.loop-i-preserved
loop-i-preserved c =
    let a = c.args.a.now in
    let b = c.args.b.now in
    let i = c.loop-i.i in
    let xs = c.lines-xs.result.now in
    let ys = lines_of b.whole in
    let x = c.index-xs-i.result in
    let y = slice_index_or ys i x in
    let n = c.index.result.now in
    let m = c.index-in-loop-i.result.now in
    let kept = c.loop-i.lines.items in
    let cubes = ap cubes_of c.lines-xs.ensures.rules ∙ c.requires in
    let there : i < length ys = subst (λ k. i < k) (aligned-length xs ys cubes) c.loop-i-test.true in
    let within : i < length (lines_of a.whole) = subst (λ (zs : List Line). i < length zs) c.lines-xs.ensures.rules c.loop-i-test.true in
    let rule : slice_get (lines_of a.whole) i ≡ Some x = ap (λ (zs : List Line). slice_get zs i) (sym c.lines-xs.ensures.rules) ∙ slice_get_read xs (length xs) i x refl c.loop-i-test.true c.index-xs-i.is in
    let one : slice_get a.numbers.items i ≡ Some n = slice_get_read a.numbers.items (length a.numbers.items) i n refl
    (subst (λ k. i < k) (sym (numbered_length a.table.lists.items (lines_of a.whole) a.numbers.items a.numbered)) within) c.index.ensures in
    let other : slice_get b.numbers.items i ≡ Some m = slice_get_read b.numbers.items (length b.numbers.items) i m refl
    (subst (λ k. i < k) (sym (numbered_length b.table.lists.items ys b.numbers.items b.numbered)) there) c.index-in-loop-i.ensures in
    let first : list_at c.loop-i.joins.firsts.now n ≡ x.results = ap (λ (ls : List (List Item)). list_at ls n) c.loop-i.invariant.firsts
    ∙ list_there a.table.lists.items n x.results (numbered_at a.table.lists.items (lines_of a.whole) a.numbers.items i x n a.numbered rule one) in
    let second : list_at c.loop-i.joins.seconds.now m ≡ y.results = ap (λ (ls : List (List Item)). list_at ls m) c.loop-i.invariant.seconds
    ∙ list_there b.table.lists.items m y.results (numbered_at b.table.lists.items ys b.numbers.items i y m b.numbered (slice_get-get_or ys i x there) other) in
    let rest = aligned (drop (i + 1) xs) (drop (i + 1) ys) in
    record {
      whole =
          ap (λ zs. zs ++ rest) (c.in_ok-push_joined.ensures.lines
          ∙ ap (λ (z : Line). kept ++ line (add_all (list_at c.loop-i.joins.firsts.now n) (list_at c.loop-i.joins.seconds.now m)) z.cube ∷ []) (sym c.index-xs-i.is)
          ∙ ap (λ (us : List Item). kept ++ line (add_all us (list_at c.loop-i.joins.seconds.now m)) x.cube ∷ []) first
          ∙ ap (λ (us : List Item). kept ++ line (add_all x.results us) x.cube ∷ []) second)
          ∙ append_assoc kept (line (add_all x.results y.results) x.cube ∷ []) rest
          ∙ ap (λ zs. kept ++ zs) (sym (aligned_more xs ys i x cubes c.loop-i-test.true c.index-xs-i.is))
          ∙ c.loop-i.invariant.whole;
      numbered = c.in_ok-push_joined.ensures.numbered;
      firsts = c.push_joined.ensures.firsts ∙ c.loop-i.invariant.firsts;
      seconds = c.push_joined.ensures.seconds ∙ c.loop-i.invariant.seconds;
    }

-- the lines that are made, of those of both
made : (c : After-loop-i) → c.loop-i.lines.items ≡ aligned (lines_of c.args.a.now.whole) (lines_of c.args.b.now.whole)
made c =
    let kept = c.loop-i.lines.items in
    let ys = lines_of c.args.b.now.whole in
    sym (append-nil kept)
    ∙ ap (λ (xs : List Line). kept ++ aligned xs (drop c.loop-i.i ys)) (sym (drop_all c.loop-i.i c.lines-xs.result.now (omega (arith, c.loop-i-test.false))))
    ∙ c.loop-i.invariant.whole
    ∙ ap (λ (xs : List Line). aligned xs ys) c.lines-xs.ensures.rules

pub from_vec-requires-clause-distinct : goal.from_vec-requires-clause-distinct
from_vec-requires-clause-distinct c =
    let a = c.args.a.now.whole in
    let b = c.args.b.now.whole in
    subst HasDistinctCubes (sym (made c)) (subst HasNoRepeats (sym (cubes-aligned (lines_of a) (lines_of b) c.requires)) a.distinct)

pub from_vec-requires-clause-total : goal.from_vec-requires-clause-total
from_vec-requires-clause-total c =
    let a = c.args.a.now.whole in
    let b = c.args.b.now.whole in
    ap ends_with_everything (made c) ∙ ends-aligned (lines_of a) (lines_of b) c.requires ∙ a.total
