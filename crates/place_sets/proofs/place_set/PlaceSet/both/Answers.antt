use Rattle.std.proofs.Common.{List, ℕ, length, get_or, min, ◌≤◌, bit_and, arith}
use Rattle.place_sets.proofs.PlaceLemmas.{ended, has_both, none_in_both}
use Rattle.place_sets.proofs.place_set.PlaceSet.both.Goals as goal

pub returns : goal.returns
returns c =
    let a : List ℕ = c.self.inside.words.items in
    let b : List ℕ = c.other.inside.words.items in
    has_both c.loop-i.words.items c.args.self.now c.args.other.now (λ j.
    cc (ended (λ i. bit_and (get_or a i 0) (get_or b i 0)) c.loop-i.words.items c.loop-i.i c.loop-i.invariant.long c.loop-i.invariant.each
    (λ i past. let end : min (length a) (length b) ≤ i = omega arith in none_in_both a b i end) j))
