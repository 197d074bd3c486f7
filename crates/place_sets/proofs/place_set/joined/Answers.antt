use Rattle.std.proofs.Common.{List, ℕ, ◌≡◌, ◌∙◌, ◌++◌, ap, drop, length, get_or, bit_or, arith}
use Rattle.std.proofs.lemmas.List.{get_or_past, take_rest}
use Rattle.place_sets.proofs.PlaceLemmas.{extended, or_past}
use Rattle.place_sets.proofs.place_set.joined.Goals as goal

pub returns : goal.returns
returns c j =
    let a : List ℕ = c.args.longer.now in
    let b : List ℕ = c.args.shorter.now in
    let words : List ℕ = c.loop-i.words.items in
    let long : length words ≡ length b = omega arith in
    let made : c.extend_from_slice.new.self.items ≡ words ++ drop (length b) a =
    c.in_ok-extend_from_slice.ensures.items ∙ ap (λ w. words ++ w) (take_rest a (length b)) in
    ap (λ w. get_or w j 0) made
    ∙ extended (λ i. bit_or (get_or a i 0) (get_or b i 0)) words a (length b) long (λ i below. c.loop-i.invariant.each i (omega arith))
    (λ i past. or_past (get_or a i 0) (get_or b i 0) (get_or_past b i 0 past)) j
