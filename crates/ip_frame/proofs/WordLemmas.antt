-- A word that is put into a frame changes no other octet.
use Rattle.std.proofs.Common.{◌≡◌, ◌≢◌, ℕ, ◌+◌, ◌*◌, ◌/◌, ◌%◌, ◌<◌, ◌≤◌, suc, List, [], ◌∷◌, length, take, drop, append_assoc, add-one, get_or, ap, sym, ◌∙◌, arith, get_or-set_other}
use Rattle.std.proofs.Math.ListN.{set}
use Rattle.std.proofs.lemmas.List.{set-get_or, length-set}
use Rattle.std.proofs.lemmas.List.Edits.{sets-eq}
use Rattle.net_types.specs.Octets.{word_at}
use Rattle.net_types.specs.Frames.{put_word}

-- two octets are set
put_word-sets : (at n : ℕ) (f : List ℕ) → at + 2 ≤ length f → put_word at n f ≡ set (set f at (n / 256)) (suc at) (n % 256)
put_word-sets at n f in_frame =
    sym (sets-eq (n / 256 ∷ n % 256 ∷ []) f at in_frame ∙ append_assoc (take at f) (n / 256 ∷ n % 256 ∷ []) (drop (at + 2) f))

pub length-put_word : (at n : ℕ) (f : List ℕ) → at + 2 ≤ length f → length (put_word at n f) ≡ length f
length-put_word at n f in_frame = rw (put_word-sets at n f in_frame) (omega (arith, length-set {A = ℕ}))

pub put_word-other : (at n : ℕ) (f : List ℕ) (k : ℕ) → at + 2 ≤ length f → k ≢ at → k ≢ at + 1 → get_or (put_word at n f) k 0 ≡ get_or f k 0
put_word-other at n f k in_frame first second =
    let behind : k ≢ suc at = omega arith in
    rw (put_word-sets at n f in_frame) (get_or-set_other (set f at (n / 256)) (suc at) k (n % 256) 0 behind ∙ get_or-set_other f at k (n / 256) 0 first)

-- a word that is there already changes nothing
pub put_word-same : (at : ℕ) (f : List ℕ) → at + 2 ≤ length f → get_or f (at + 1) 0 < 256 → put_word at (word_at at f) f ≡ f
put_word-same at f in_frame octet =
    let high : (256 * get_or f at 0 + get_or f (at + 1) 0) / 256 ≡ get_or f at 0 = omega arith in
    let rest : (256 * get_or f at 0 + get_or f (at + 1) 0) % 256 ≡ get_or f (at + 1) 0 = omega arith in
    let low = rest ∙ ap (λ k. get_or f k 0) (add-one at) in
    put_word-sets at (word_at at f) f in_frame
    ∙ (ap (λ h. set (set f at h) (suc at) ((256 * get_or f at 0 + get_or f (at + 1) 0) % 256)) high
    ∙ (ap (λ l. set (set f at (get_or f at 0)) (suc at) l) low
    ∙ (ap (λ g. set g (suc at) (get_or f (suc at) 0)) (set-get_or f at 0) ∙ set-get_or f (suc at) 0)))
