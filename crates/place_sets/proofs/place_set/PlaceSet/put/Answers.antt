use Rattle.std.proofs.Common.{List, ℕ, ap, ◌≡◌, ◌∙◌, ◌||◌, ◌*◌, ◌/◌, ◌%◌, ◌^◌, ◌<◌, length, get_or, set, eqb, bit_or, arith}
use Rattle.std.proofs.lemmas.List.{get_or_read}
use Rattle.place_sets.specs.Places.{has_place}
use Rattle.place_sets.proofs.PlaceLemmas.{has_same, has_put, on_err}
use Rattle.place_sets.proofs.place_set.PlaceSet.put.Goals as goal

pub returns-in_err-push-clause-unchanged : goal.returns-in_err-push-clause-unchanged
returns-in_err-push-clause-unchanged c = on_err c.from_residual.result _
    (has_same c.push.new.self.items c.args.self.now (λ j. cc (c.in_err-push.ensures.items, c.loop-self.invariant j)))

pub returns-clause-put : goal.returns-clause-put
returns-clause-put c k =
    let words : List ℕ = c.loop-self.self-inside.words.items in
    let place : ℕ = c.args.place in
    let within : place / 64 < length words = omega arith in
    let old : c.index_mut.result.now ≡ get_or words (place / 64) 0 =
    get_or_read words (place / 64) c.index_mut.result.now within c.index_mut.ensures.value 0 in
    ap (λ z. has_place (set words (place / 64) (bit_or z (1 * 2 ^ (place % 64) % 2 ^ 64))) k) old ∙ has_put words place within k
    ∙ ap (λ z. z || eqb k place) (has_same words c.args.self.now (λ j. cc (c.loop-self.invariant j)) k)
