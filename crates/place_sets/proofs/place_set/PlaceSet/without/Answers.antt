use Rattle.std.proofs.Common.{List, ℕ, ◌≡◌, ◌∙◌, ◌++◌, ap, drop, length, get_or, min, ◌≤◌, arith}
use Rattle.std.proofs.lemmas.List.{take_rest}
use Rattle.place_sets.proofs.PlaceLemmas.{extended, has_without, none_in_both, without_past, word_without}
use Rattle.place_sets.proofs.place_set.PlaceSet.without.Goals as goal

pub returns : goal.returns
returns c =
    let a : List ℕ = c.self.inside.words.items in
    let b : List ℕ = c.other.inside.words.items in
    let words : List ℕ = c.loop-i.words.items in
    let n : ℕ = c.min-common.result in
    let long : length words ≡ n = omega arith in
    let made : c.extend_from_slice.new.self.items ≡ words ++ drop n a =
    c.in_ok-extend_from_slice.ensures.items ∙ ap (λ w. words ++ w) (take_rest c.deref.result.now n)
    ∙ ap (λ w. words ++ drop n w) c.deref.ensures.value in
    has_without c.extend_from_slice.new.self.items c.args.self.now c.args.other.now (λ j.
    ap (λ w. get_or w j 0) made
    ∙ extended (λ i. word_without (get_or a i 0) (get_or b i 0)) words a n long (λ i below. c.loop-i.invariant.each i (omega arith))
    (λ i past. let end : min (length a) (length b) ≤ i = omega arith in without_past (get_or a i 0) (get_or b i 0) (none_in_both a b i end)) j
    ∙ ap (λ w. word_without (get_or w j 0) (get_or b j 0)) c.self.view_is ∙ ap (λ w. word_without (get_or c.args.self.now j 0) (get_or w j 0)) c.other.view_is)
