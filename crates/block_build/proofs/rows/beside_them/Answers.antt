-- One more receiver: what it makes is beside what there is.
use Rattle.std.proofs.Common.{◌≡◌, ◌∷◌, ◌++◌, [], List, drop, ap, sym, subst, ◌∙◌, ◌+◌}
use Rattle.std.proofs.lemmas.Bool.{false≢true}
use Rattle.cells.specs.Firsts.{first_place}
use Rattle.classifier.specs.Items.{Item}
use Rattle.classifier.specs.Lines.{line}
use Rattle.classifier.specs.Meaning.{cubes_of}
use Rattle.net_types.specs.Sets.{HasNoRepeats}
use Rattle.block_build.specs.ByCells.{beside_at, beside_them}
use Rattle.block_build.specs.Offers.{goes_to}
use Rattle.block_build.specs.Known.{AreKnownBeside}
use Rattle.block_build.proofs.RowLemmas.{apart-known, known-next, known-within, made-once, one-made, places-known, rest-known, them-next}
use Rattle.block_build.proofs.rows.beside_them.Goals as goal
use Rattle.block_build.proofs.rows.beside_them.Goals.{then-goes_to+in_ok-push_beside, else-goes_to}

pub loop-i-init : goal.loop-i-init
loop-i-init c =
    let s = c.args.sent.now.sending.now in
    let same : c.extend_from_slice.new.self.items ≡ c.args.z.results = c.in_ok-extend_from_slice.ensures.items ∙ ap (λ (xs : List Item). xs ++ c.items.result.now) c.clear.ensures.items ∙ c.items.ensures in
    record {
      whole = ap (λ (items : List Item). beside_them s.best s.offers.now s.rules.now c.args.receivers.now (line items c.args.z.cube)) same;
      once = subst HasNoRepeats (sym same) c.known.ensures;
      known = subst (λ (items : List Item). AreKnownBeside c.args.sent.now.cells.now (line items c.args.z.cube ∷ []) c.args.known.now c.args.receivers.now) (sym same) c.requires.known;
    }

pub bounds-known-i : goal.bounds-known-i
bounds-known-i c = known-within c.args.sent.now.cells.now (line c.loop-i.row.items c.args.z.cube ∷ []) c.args.known.now c.args.receivers.now c.loop-i.i c.loop-i-test.true c.loop-i.invariant.known

pub push_beside-requires-clause-place : goal.push_beside-requires-clause-place
push_beside-requires-clause-place c =
    let cells = c.args.sent.now.cells.now in
    let r = c.index-receivers-i.result in
    let z = line c.loop-i.row.items c.args.z.cube in
    let i = c.loop-i.i in
    let next = known-next cells (z ∷ []) c.args.known.now c.args.receivers.now i c.index-known-i.result r c.loop-i-test.true c.index-known-i.is c.index-receivers-i.is c.loop-i.invariant.known in
    c.at-place.ensures (cubes_of r.lines) cells c.args.z.cube
    (c.deref.ensures.value ∙ ap (λ v. v.items) c.as_ref.ensures ∙ places-known cells (z ∷ []) (drop (i + 1) c.args.known.now) (drop (i + 1) c.args.receivers.now) c.index-known-i.result r next)
    c.requires.cell

pub push_beside-requires-clause-apart : goal.push_beside-requires-clause-apart
push_beside-requires-clause-apart c =
    let cells = c.args.sent.now.cells.now in
    let r = c.index-receivers-i.result in
    let z = line c.loop-i.row.items c.args.z.cube in
    let i = c.loop-i.i in
    let next = known-next cells (z ∷ []) c.args.known.now c.args.receivers.now i c.index-known-i.result r c.loop-i-test.true c.index-known-i.is c.index-receivers-i.is c.loop-i.invariant.known in
    apart-known cells (drop (i + 1) c.args.known.now) (drop (i + 1) c.args.receivers.now) z c.index-known-i.result r next

pub loop-i-preserved : goal.loop-i-preserved
loop-i-preserved c =
    let s = c.args.sent.now.sending.now in
    let xs = s.rules.now in
    let cells = c.args.sent.now.cells.now in
    let cell = c.args.z.cube in
    let r = c.index-receivers-i.result in
    let row = c.loop-i.row.items in
    let more = c.if-goes_to.row.items in
    let i = c.loop-i.i in
    let lt = c.loop-i-test.true in
    let own : c.at-own.result ≡ first_place cell (cubes_of xs) = c.at-own.ensures (cubes_of xs) cells cell c.args.sent.now.are c.requires.cell in
    let goes : c.goes_to.result ≡ goes_to c.left_at-left.result s.best c.items_at-items.result.now r.who = c.goes_to.ensures ∙ ap (λ who. goes_to c.left_at-left.result s.best c.items_at-items.result.now who) c.who.ensures in
    let made : more ≡ (beside_at s.best s.offers.now xs r (line row cell)).results =
    one-made s.best s.offers.now xs r cell row c.items_at-items.result.now more c.left_at-left.result c.goes_to.result
    (c.items_at-items.ensures cell own) (c.left_at-left.ensures cell own) goes
    (λ yes. elim c.if-goes_to.branch [
      | then-goes_to+in_ok-push_beside w ↦ ap (λ v. v.items) w.row-is ∙ w.in_ok-push_beside.ensures
      | else-goes_to w ↦ absurd (false≢true (sym w.if-goes_to.false ∙ yes))
    ])
    (λ no. elim c.if-goes_to.branch [
      | then-goes_to+in_ok-push_beside w ↦ absurd (false≢true (sym no ∙ w.if-goes_to.true))
      | else-goes_to w ↦ ap (λ v. v.items) w.row-is
    ]) in
    let next = known-next cells (line row cell ∷ []) c.args.known.now c.args.receivers.now i c.index-known-i.result r lt c.index-known-i.is c.index-receivers-i.is c.loop-i.invariant.known in
    record {
      whole =
          ap (λ (items : List Item). beside_them s.best s.offers.now xs (drop (i + 1) c.args.receivers.now) (line items cell)) made
          ∙ them-next s.best s.offers.now xs c.args.receivers.now i r (line row cell) lt c.index-receivers-i.is
          ∙ c.loop-i.invariant.whole;
      once = subst HasNoRepeats (sym made) (made-once s.best s.offers.now xs r cell row c.loop-i.invariant.once);
      known =
          subst (λ (items : List Item). AreKnownBeside cells (line items cell ∷ []) (drop (i + 1) c.args.known.now) (drop (i + 1) c.args.receivers.now)) (sym made)
          (rest-known s.best s.offers.now xs cells (line row cell ∷ []) (drop (i + 1) c.args.known.now) (drop (i + 1) c.args.receivers.now) c.index-known-i.result r next);
    }
