-- Checksums that change by the sum over a list of changes.
use Rattle.std.proofs.Common.{◌≡◌, ℕ, ◌+◌, ◌-◌, ◌*◌, ◌/◌, ◌%◌, ◌<◌, ◌≤◌, Bool, true, false, cond, nat_eq, List, [], ◌∷◌, ◌++◌, length, get_or, refl, ap, sym, ◌∙◌, arith}
use Rattle.std.proofs.lemmas.Bool.{eqb-true}
use Rattle.net_types.specs.Octets.{word_at, address_at}
use Rattle.net_types.specs.Frames.{Change, change_of, changes_of_address, sum_changes, put_word, put_checksum, put_udp_checksum}
use Rattle.net_types.specs.declared.address.Ip.{Ip}
use Rattle.ip_frame.specs.Places.{AreOctets}
use Rattle.ip_frame.specs.Sums.{difference, difference_at, updated, updated_udp, with_checksum, with_udp_checksum}
use Rattle.ip_frame.proofs.WordLemmas.{put_word-same}

sum_by_test : (b : Bool) (at old new : ℕ) → sum_changes (cond b [] (record { at = at; old = old; new = new } ∷ [])) ≡ cond b 0 (65535 - old + new)
sum_by_test true at old new = refl
sum_by_test false at old new = omega arith

-- a word adds its difference
pub sum-change_of : (at old new : ℕ) → sum_changes (change_of at old new) ≡ difference old new
sum-change_of at old new = sum_by_test (nat_eq old new) at old new

pub sum-append : (xs ys : List Change) → sum_changes (xs ++ ys) ≡ sum_changes xs + sum_changes ys
sum-append [] ys = omega arith
sum-append (c ∷ cs) ys = let e = sum-append cs ys in omega arith

-- a sum of 0 leaves a checksum as it is
pub updated-none : (w : ℕ) → w < 65536 → updated w 0 ≡ w
updated-none w small = omega arith

pub word-small : (at : ℕ) (f : List ℕ) → AreOctets f → word_at at f < 65536
word-small at f octets = let high = octets at in let low = octets (at + 1) in omega arith

-- the checksum may be written whether words change or not
pub put_checksum-sum : (at : ℕ) (cs : List Change) (f : List ℕ) → at + 2 ≤ length f → get_or f at 0 < 256 → get_or f (at + 1) 0 < 256 → put_checksum at cs f ≡ with_checksum at (sum_changes cs) f
put_checksum-sum at [] f room high low =
    let small : word_at at f < 65536 = omega arith in
    sym (ap (λ w. put_word at w f) (updated-none (word_at at f) small) ∙ put_word-same at f room low)
put_checksum-sum at (c ∷ cs) f room high low = refl

udp_by_test : (b : Bool) (at w : ℕ) (f : List ℕ) → (b ≡ true → put_word at 0 f ≡ f) → cond b f (put_word at w f) ≡ put_word at (cond b 0 w) f
udp_by_test true at w f none = sym (none refl)
udp_by_test false at w f none = refl

udp_same : (b : Bool) (w : ℕ) → (b ≡ true → w ≡ 0) → cond b 0 (cond b 65535 w) ≡ w
udp_same true w none = sym (none refl)
udp_same false w none = refl

updated_udp-none : (w : ℕ) → w < 65536 → updated_udp w 0 ≡ w
updated_udp-none w small =
    ap (λ u. cond (nat_eq w 0) 0 (cond (nat_eq u 0) 65535 u)) (updated-none w small) ∙ udp_same (nat_eq w 0) w (eqb-true w 0)

-- the same by the rules of UDP
pub put_udp_checksum-sum : (at : ℕ) (cs : List Change) (f : List ℕ) → at + 2 ≤ length f → get_or f at 0 < 256 → get_or f (at + 1) 0 < 256 → put_udp_checksum at cs f ≡ with_udp_checksum at (sum_changes cs) f
put_udp_checksum-sum at [] f room high low =
    let small : word_at at f < 65536 = omega arith in
    sym (ap (λ w. put_word at w f) (updated_udp-none (word_at at f) small) ∙ put_word-same at f room low)
put_udp_checksum-sum at (c ∷ cs) f room high low =
    let w = word_at at f in
    let u = updated w (sum_changes (c ∷ cs)) in
    udp_by_test (nat_eq w 0) at (cond (nat_eq u 0) 65535 u) f (λ none. ap (λ x. put_word at x f) (sym (eqb-true w 0 none)) ∙ put_word-same at f room low)

-- an address adds the differences of its words
pub changes-words : (at : ℕ) (f : List ℕ) (to : Ip) → AreOctets f → changes_of_address at (address_at at f) to ≡ change_of at (word_at at f) (to.0 / 65536) ++ change_of (at + 2) (word_at (at + 2) f) (to.0 % 65536)
changes-words at f to octets =
    let small = word-small (at + 2) f octets in
    let high : (65536 * word_at at f + word_at (at + 2) f) / 65536 ≡ word_at at f = omega arith in
    let low : (65536 * word_at at f + word_at (at + 2) f) % 65536 ≡ word_at (at + 2) f = omega arith in
    λ i. change_of at (high i) (to.0 / 65536) ++ change_of (at + 2) (low i) (to.0 % 65536)

pub sum-address : (at : ℕ) (f : List ℕ) (to : Ip) → AreOctets f → sum_changes (changes_of_address at (address_at at f) to) ≡ difference_at at f to
sum-address at f to octets =
    let high = change_of at (word_at at f) (to.0 / 65536) in
    let low = change_of (at + 2) (word_at (at + 2) f) (to.0 % 65536) in
    let first = sum-change_of at (word_at at f) (to.0 / 65536) in
    let second = sum-change_of (at + 2) (word_at (at + 2) f) (to.0 % 65536) in
    ap sum_changes (changes-words at f to octets) ∙ (sum-append high low ∙ (λ i. first i + second i))
