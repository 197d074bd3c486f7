-- One more cell gives what it gave beside what the receiver makes in it.
use Rattle.std.proofs.Common.{◌≡◌, ◌<◌, List, None, Some, ap, arith, length, map, refl, subst, sym, take, ◌∙◌}
use Rattle.std.specs.List.{slice_get}
use Rattle.std.proofs.lemmas.List.{take_all}
use Rattle.std.proofs.lemmas.Option.{slice_get_read, slice_get_within}
use Rattle.classifier.proofs.NumberLemmas.{list_there, numbered_length}
use Rattle.classifier.specs.Items.{Item, add_all}
use Rattle.classifier.specs.Meaning.{cubes_of}
use Rattle.classifier.specs.Numbered.{AreNumbered, list_at}
use Rattle.net_types.specs.declared.cube.Cube.{Cube}
use Rattle.block_build.proofs.FewLemmas.{cell-at, cubes-first, cubes-length, first-more, first-read, made-results, numbered-next, stands}
use Rattle.block_build.specs.ByCells.{beside_at, beside_first, made_at}
use Rattle.block_build.specs.Few.{IsUnion}
use Rattle.block_build.proofs.few.beside_next.Goals as goal

pub index-requires : goal.index-requires
index-requires c =
    let s = c.args.sending.now in
    let few = c.args.few.now in
    let cells = c.args.cells.now in
    let zs = beside_first s.best s.offers.now s.rules.now cells c.args.receivers.now c.args.n in
    let long : length few.numbers.items ≡ length cells = numbered_length few.table.lists.items zs few.numbers.items c.requires.few ∙ cubes-length zs cells (cubes-first s.best s.offers.now s.rules.now cells c.args.receivers.now c.args.n) in
    omega (arith, c.loop-i-test.true, long, few.numbers.ok.0)

pub joined-requires-clause-first : goal.joined-requires-clause-first
joined-requires-clause-first c =
    let s = c.args.sending.now in
    let few = c.args.few.now in
    let cells = c.args.cells.now in
    let n = c.index.result.now in
    let zs = beside_first s.best s.offers.now s.rules.now cells c.args.receivers.now c.args.n in
    let z = cell-at cells zs few.table.lists.items few.numbers.items c.loop-i.i n (cubes-first s.best s.offers.now s.rules.now cells c.args.receivers.now c.args.n) c.requires.few c.loop-i-test.true c.index.ensures in
    subst (λ (lists : List (List Item)). n < length lists) (sym c.loop-i.invariant.firsts) (slice_get_within few.table.lists.items n z.rule.results z.list)

pub joined-requires-clause-second : goal.joined-requires-clause-second
joined-requires-clause-second c =
    let s = c.args.sending.now in
    let cells = c.args.cells.now in
    let i = c.loop-i.i in
    let n = c.second_at-second.result in
    let rs = c.args.receivers.now in
    let r = c.index-receivers-n.result in
    let cell = stands Cube cells i c.loop-i-test.true in
    let among : slice_get rs c.args.n ≡ Some r = slice_get_read rs (length rs) c.args.n r refl c.requires.next c.index-receivers-n.is in
    let own = first-read (cubes_of s.rules.now) cells c.args.own.now i cell.it None c.requires.own cell.at in
    let place = first-read (cubes_of r.lines) cells c.args.places.now i cell.it None (c.requires.places r among) cell.at in
    let lists : c.loop-i.joins.seconds.now ≡ c.in_ok-given.given.table.lists.items = c.loop-i.invariant.seconds ∙ c.new-joins.ensures.seconds ∙ c.deref-2.ensures.value in
    subst (λ (xs : List (List Item)). n < length xs) (sym lists) (slice_get_within c.in_ok-given.given.table.lists.items n (made_at s.best s.offers.now s.rules.now r cell.it) (c.second_at-second.ensures cell.it own place))

pub loop-i-preserved : goal.loop-i-preserved
loop-i-preserved c =
    let s = c.args.sending.now in
    let few = c.args.few.now in
    let cells = c.args.cells.now in
    let i = c.loop-i.i in
    let rs = c.args.receivers.now in
    let r = c.index-receivers-n.result in
    let zs = beside_first s.best s.offers.now s.rules.now cells rs c.args.n in
    let same = cubes-first s.best s.offers.now s.rules.now cells rs c.args.n in
    let first = c.index.result.now in
    let second = c.second_at-second.result in
    let z = cell-at cells zs few.table.lists.items few.numbers.items i first same c.requires.few c.loop-i-test.true c.index.ensures in
    let among : slice_get rs c.args.n ≡ Some r = slice_get_read rs (length rs) c.args.n r refl c.requires.next c.index-receivers-n.is in
    let own = first-read (cubes_of s.rules.now) cells c.args.own.now i z.rule.cube None c.requires.own z.cell in
    let place = first-read (cubes_of r.lines) cells c.args.places.now i z.rule.cube None (c.requires.places r among) z.cell in
    let made : List Item = made_at s.best s.offers.now s.rules.now r z.rule.cube in
    let seconds : c.loop-i.joins.seconds.now ≡ c.in_ok-given.given.table.lists.items = c.loop-i.invariant.seconds ∙ c.new-joins.ensures.seconds ∙ c.deref-2.ensures.value in
    let one : list_at c.loop-i.joins.firsts.now first ≡ z.rule.results = ap (λ lists. list_at lists first) c.loop-i.invariant.firsts ∙ list_there few.table.lists.items first z.rule.results z.list in
    let other : list_at c.loop-i.joins.seconds.now second ≡ made = ap (λ lists. list_at lists second) seconds ∙ list_there c.in_ok-given.given.table.lists.items second made (c.second_at-second.ensures z.rule.cube own place) in
    let lists = c.joined.new.joins.table.lists.items in
    let next = c.in_ok-next.next in
    let gives : slice_get lists next.number ≡ Some (beside_at s.best s.offers.now s.rules.now r z.rule).results =
    c.in_ok-next.ensures.union
    ∙ ap (λ n. Some (add_all (list_at c.loop-i.joins.firsts.now n) (list_at c.loop-i.joins.seconds.now next.second))) c.in_ok-next.ensures.first
    ∙ ap (λ n. Some (add_all (list_at c.loop-i.joins.firsts.now first) (list_at c.loop-i.joins.seconds.now n))) c.in_ok-next.ensures.second
    ∙ ap (λ (items : List Item). Some (add_all items (list_at c.loop-i.joins.seconds.now second))) one
    ∙ ap (λ (items : List Item). Some (add_all z.rule.results items)) other
    ∙ ap Some (made-results s.best s.offers.now s.rules.now r z.rule) in
    let lt : i < length zs = subst (λ n. i < n) (sym (cubes-length zs cells same)) c.loop-i-test.true in
    record {
      numbered = numbered-next (beside_at s.best s.offers.now s.rules.now r) zs i next.number z.rule c.loop-i.joins.table.lists.items lists c.loop-i.numbers.items c.push.new.self.items lt z.stands c.joined.ensures.kept gives
          c.in_ok-push.ensures.items c.loop-i.invariant.numbered;
      firsts = c.joined.ensures.firsts ∙ c.loop-i.invariant.firsts;
      seconds = c.joined.ensures.seconds ∙ c.loop-i.invariant.seconds;
      last = subst (λ (xs : List (List Item)). IsUnion xs c.joined.new.joins.seconds.now lists next) (sym c.joined.ensures.firsts) (subst (λ (xs : List (List Item)). IsUnion c.loop-i.joins.firsts.now xs lists next) (sym c.joined.ensures.seconds) c.in_ok-next.ensures.union);
    }

pub returns : goal.returns
returns c =
    let s = c.args.sending.now in
    let cells = c.args.cells.now in
    let rs = c.args.receivers.now in
    let r = c.index-receivers-n.result in
    let zs = beside_first s.best s.offers.now s.rules.now cells rs c.args.n in
    let long = cubes-length zs cells (cubes-first s.best s.offers.now s.rules.now cells rs c.args.n) in
    let f = beside_at s.best s.offers.now s.rules.now r in
    let lists = c.loop-i.joins.table.lists.items in
    let all : take c.loop-i.i zs ≡ zs = take_all c.loop-i.i zs (omega (arith, c.loop-i-test.false, long)) in
    subst (λ ys. AreNumbered lists ys c.loop-i.numbers.items) (sym (first-more s.best s.offers.now s.rules.now cells rs c.args.n r c.requires.next c.index-receivers-n.is))
    (subst (λ ys. AreNumbered lists (map f ys) c.loop-i.numbers.items) all c.loop-i.invariant.numbered)
