-- Numbers of two and of four octets, one after another.
use Rattle.std.proofs.Common.{◌≡◌, ℕ, ◌+◌, ◌-◌, ◌*◌, ◌<◌, ◌≤◌, List, [], ◌∷◌, length, take, drop, refl, ap, ◌∙◌, sym, arith, slice_index_or}
use Rattle.std.proofs.lemmas.List.{take_all}
use Rattle.net_types.specs.UpdateFormat.{longs, words}

pub words_at : (s : List ℕ) → 2 ≤ length s → words s ≡ (slice_index_or s 0 0 * 256 + slice_index_or s 1 0) ∷ words (take (length s - 2) (drop 2 s))
words_at [] le = absurd (omega arith)
words_at (a ∷ []) le = absurd (omega arith)
words_at (a ∷ b ∷ s) le =
    let number : (0 * 256 + a) * 256 + b ≡ a * 256 + b = omega arith in
    let rest : take (length (a ∷ b ∷ s) - 2) s ≡ s = take_all (length (a ∷ b ∷ s) - 2) s (omega arith) in
    ap (λ (n : ℕ). n ∷ words s) number ∙ ap (λ (t : List ℕ). (a * 256 + b) ∷ words t) (sym rest)

pub words_short : (s : List ℕ) → length s < 2 → words s ≡ []
words_short [] less = refl
words_short (a ∷ []) less = refl
words_short (a ∷ b ∷ s) less = absurd (omega arith)

pub longs_at : (s : List ℕ) → 4 ≤ length s
    → longs s ≡ (((slice_index_or s 0 0 * 256 + slice_index_or s 1 0) * 256 + slice_index_or s 2 0) * 256 + slice_index_or s 3 0) ∷ longs (take (length s - 4) (drop 4 s))
longs_at [] le = absurd (omega arith)
longs_at (a ∷ []) le = absurd (omega arith)
longs_at (a ∷ b ∷ []) le = absurd (omega arith)
longs_at (a ∷ b ∷ c ∷ []) le = absurd (omega arith)
longs_at (a ∷ b ∷ c ∷ d ∷ s) le =
    let number : (((0 * 256 + a) * 256 + b) * 256 + c) * 256 + d ≡ ((a * 256 + b) * 256 + c) * 256 + d = omega arith in
    let rest : take (length (a ∷ b ∷ c ∷ d ∷ s) - 4) s ≡ s = take_all (length (a ∷ b ∷ c ∷ d ∷ s) - 4) s (omega arith) in
    ap (λ (n : ℕ). n ∷ longs s) number ∙ ap (λ (t : List ℕ). (((a * 256 + b) * 256 + c) * 256 + d) ∷ longs t) (sym rest)

pub longs_short : (s : List ℕ) → length s < 4 → longs s ≡ []
longs_short [] less = refl
longs_short (a ∷ []) less = refl
longs_short (a ∷ b ∷ []) less = refl
longs_short (a ∷ b ∷ c ∷ []) less = refl
longs_short (a ∷ b ∷ c ∷ d ∷ s) less = absurd (omega arith)
