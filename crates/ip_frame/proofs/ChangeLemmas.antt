-- Changes that are made one after the other are words that are put.
use Rattle.std.proofs.Common.{◌≡◌, ◌≢◌, ℕ, ◌+◌, ◌*◌, ◌/◌, ◌%◌, ◌<◌, ◌≤◌, Bool, true, false, cond, nat_eq, List, [], ◌∷◌, ◌++◌, length, get_or, refl, ap, sym, ◌∙◌, arith}
use Rattle.std.proofs.lemmas.Bool.{eqb-true}
use Rattle.net_types.specs.Octets.{word_at, address_at}
use Rattle.net_types.specs.Frames.{Change, change_of, changes_of_address, put_word, put_changes}
use Rattle.net_types.specs.declared.address.Ip.{Ip}
use Rattle.ip_frame.specs.Places.{AreOctets}
use Rattle.ip_frame.specs.Sums.{with_address}
use Rattle.ip_frame.proofs.WordLemmas.{length-put_word, put_word-other, put_word-same}
use Rattle.ip_frame.proofs.SumLemmas.{changes-words}

-- the octets from a place to another are the same in both frames, and both are as long
pub record SameWithin (f g : List ℕ) (low high : ℕ) : Type 0 where
  pub as_long : length g ≡ length f
  pub same : (k : ℕ) → low ≤ k → k < high → get_or g k 0 ≡ get_or f k 0

pub same_word : (f g : List ℕ) (at low high : ℕ) → low ≤ at → at + 2 ≤ high → SameWithin f g low high → word_at at g ≡ word_at at f
same_word f g at low high above below s =
    let first = s.same at above (omega arith) in
    let second = s.same (at + 1) (omega arith) (omega arith) in
    λ i. 256 * first i + second i

-- a word that is put in front leaves what is behind it
pub same_behind : (f g : List ℕ) (at n low high : ℕ) → at + 2 ≤ length g → low ≤ at + 2 → SameWithin f g low high → SameWithin f (put_word at n g) (at + 2) high
same_behind f g at n low high room from s = record {
  as_long = length-put_word at n g room ∙ s.as_long;
  same = λ k above below.
      let first : k ≢ at = omega arith in
      let second : k ≢ at + 1 = omega arith in
      put_word-other at n g k room first second ∙ s.same k (omega arith) below;
}

-- a word that is put behind leaves what is in front of it
pub same_before : (f g : List ℕ) (at n low high : ℕ) → at + 2 ≤ length g → high ≤ at → SameWithin f g low high → SameWithin f (put_word at n g) low high
same_before f g at n low high room behind s = record {
  as_long = length-put_word at n g room ∙ s.as_long;
  same = λ k above below.
      let first : k ≢ at = omega arith in
      let second : k ≢ at + 1 = omega arith in
      put_word-other at n g k room first second ∙ s.same k above below;
}

put_change_by_test : (b : Bool) (at old new : ℕ) (g : List ℕ) → (b ≡ true → put_word at new g ≡ g) → put_changes (cond b [] (record { at = at; old = old; new = new } ∷ [])) g ≡ put_word at new g
put_change_by_test true at old new g same = sym (same refl)
put_change_by_test false at old new g same = refl

-- the word may be put whether it changes or not
pub put_change : (f g : List ℕ) (at new high : ℕ) → at + 2 ≤ high → at + 2 ≤ length g → AreOctets f → SameWithin f g at high → put_changes (change_of at (word_at at f) new) g ≡ put_word at new g
put_change f g at new high below room octets s =
    let there = same_word f g at at high (omega arith) below s in
    let low : get_or g (at + 1) 0 < 256 = rw (s.same (at + 1) (omega arith) (omega arith)) (octets (at + 1)) in
    put_change_by_test (nat_eq (word_at at f) new) at (word_at at f) new g
    (λ equal. ap (λ w. put_word at w g) (sym (there ∙ eqb-true (word_at at f) new equal)) ∙ put_word-same at g room low)

pub put_changes-append : (xs ys : List Change) (g : List ℕ) → put_changes (xs ++ ys) g ≡ put_changes ys (put_changes xs g)
put_changes-append [] ys g = refl
put_changes-append (c ∷ cs) ys g = put_changes-append cs ys (put_word c.at c.new g)

-- two words one behind the other
pub put_both : (f g : List ℕ) (at first second high : ℕ) → at + 4 ≤ high → at + 4 ≤ length g → AreOctets f → SameWithin f g at high → put_changes (change_of at (word_at at f) first ++ change_of (at + 2) (word_at (at + 2) f) second) g ≡ put_word (at + 2) second (put_word at first g)
put_both f g at first second high below room octets s =
    let half : at + 2 ≤ length g = omega arith in
    let behind = same_behind f g at first at high half (omega arith) s in
    let long = length-put_word at first g half in
    put_changes-append (change_of at (word_at at f) first) (change_of (at + 2) (word_at (at + 2) f) second) g
    ∙ (ap (put_changes (change_of (at + 2) (word_at (at + 2) f) second)) (put_change f g at first high (omega arith) half octets s)
    ∙ put_change f (put_word at first g) (at + 2) second high (omega arith) (omega arith) octets behind)

pub put_address-changes : (f g : List ℕ) (at : ℕ) (to : Ip) (high : ℕ) → at + 4 ≤ high → at + 4 ≤ length g → AreOctets f → SameWithin f g at high → put_changes (changes_of_address at (address_at at f) to) g ≡ with_address at to g
put_address-changes f g at to high below room octets s =
    ap (λ cs. put_changes cs g) (changes-words at f to octets) ∙ put_both f g at (to.0 / 65536) (to.0 % 65536) high below room octets s

-- an address that is put in front leaves what is behind it
pub same_behind_address : (f g : List ℕ) (at : ℕ) (to : Ip) (high : ℕ) → at + 4 ≤ length g → SameWithin f g at high → SameWithin f (with_address at to g) (at + 4) high
same_behind_address f g at to high room s =
    let half : at + 2 ≤ length g = omega arith in
    let long = length-put_word at (to.0 / 65536) g half in
    let behind = same_behind f g at (to.0 / 65536) at high half (omega arith) s in
    let whole = same_behind f (put_word at (to.0 / 65536) g) (at + 2) (to.0 % 65536) (at + 2) high (omega arith) (omega arith) behind in
    record { as_long = whole.as_long; same = λ k above below. whole.same k (omega arith) below }
