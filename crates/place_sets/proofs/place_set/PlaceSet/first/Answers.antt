use Rattle.std.proofs.Common.{ℕ, ◌≡◌, ◌<◌, ◌+◌, ◌-◌, ◌*◌, ◌/◌, ◌%◌, ◌^◌, length, ltb, ap, ◌∙◌, arith}
use Rattle.std.proofs.lemmas.Nat.{one_shl}
use Rattle.place_sets.specs.Places.{has_place}
use Rattle.place_sets.proofs.PlaceLemmas.{first_places}
use Rattle.place_sets.proofs.place_set.PlaceSet.first.Goals as goal

pub returns : goal.returns
returns c k =
    let rest : ℕ = c.args.count % 64 in
    let full : ℕ = c.args.count / 64 in
    let small : rest < 64 = omega arith in
    let long : length c.loop-word.words.items ≡ full = omega arith in
    let all : full * 64 + rest ≡ c.args.count = omega arith in
    ap (λ w. has_place w k) c.in_ok-push-2.ensures.items
    ∙ first_places c.loop-word.words.items full rest (1 * 2 ^ rest % 2 ^ 64 - 1) long small (ap (λ z. z - 1) (one_shl rest 64 small))
    (λ j below. c.loop-word.invariant.each j (omega arith)) k ∙ ap (ltb k) all
