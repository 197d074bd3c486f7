-- When a reader reads exactly what a rule spells, and stops at the first octet with which no text of the rule goes on.
-- All is said of each text that agrees with the one read up to and with the first octet that is left.
use Rattle.std.specs.Prelude.{◌≡◌, ℕ, suc, ◌+◌, ◌≤◌, Bool, List, [], ◌∷◌, ◌++◌, length, Ok, Err}
use Rattle.grammar.specs.Octets.{IsLonger, Follows, StartsAs}
use Rattle.grammar.specs.Rules.{Rule}
use Rattle.grammar.specs.TextReading.{Fault, Wrong, Deep, Read, Reader}

-- A rule for each number of groups that may be open at once. A rule without groups is the same for all.
abbrev pub Family : Type 0 → Type 1
Family X = ℕ → Rule X

-- Which numbers of groups a fault speaks of: an octet that is wrong is so for all, a group too many only up to d.
abbrev pub Covers : Fault → ℕ → ℕ → Type 0
Covers (Wrong p) d e = Unit {0}
Covers (Deep p) d e = e ≤ d

-- Where a fault is.
abbrev pub place_of : Fault → ℕ
place_of (Wrong p) = p
place_of (Deep p) = p

-- A group too many: what is left begins with `(`, and with one group more that octet is right.
abbrev pub Deeper : {X : Type 0} → Family X → ℕ → ℕ → List ℕ → List ℕ → Fault → Type 0
Deeper f d at front m (Wrong p) = Unit {0}
Deeper f d at front m (Deep p) = (rest : List ℕ) × (m ≡ 40 ∷ rest) × (f (suc d)).Begins at (front ++ 40 ∷ [])

-- The front of s spells x, and m is left. Whatever n stands in place of m, if it begins as m does: no other front spells
-- anything, so far as something that may follow stands behind it (only), and no octet of n begins more (ends).
pub record Reads {X : Type 0} (f : Family X) (d : ℕ) (follow : ℕ → Bool) (at : ℕ) (s : List ℕ) (x : X) (m : List ℕ) : Type 0 where
  pub front : List ℕ
  pub parts : s ≡ front ++ m
  pub spells : (e : ℕ) → d ≤ e → (f e).Spells at front x
  pub begins : (e : ℕ) → d ≤ e → (f e).Begins at front
  pub only : (e : ℕ) (a n n' : List ℕ) (y : X) → StartsAs m n → (f e).Spells at a y → Follows follow n' → a ++ n' ≡ front ++ n
      → (a ≡ front) × (n' ≡ n) × (y ≡ x)
  pub ends : (e : ℕ) (n : List ℕ) → StartsAs m n → IsLonger n → (f e).Begins at (front ++ n) → ⊥

-- The reader stopped behind front, which begins a text of the rule; with the next octet of back it does so no longer
-- (ends), and no front of the text spells anything (none).
pub record Stops {X : Type 0} (f : Family X) (d : ℕ) (follow : ℕ → Bool) (at : ℕ) (s : List ℕ) (fault : Fault) : Type 0 where
  pub front : List ℕ
  pub back : List ℕ
  pub parts : s ≡ front ++ back
  pub place : place_of fault ≡ at + length front
  pub begins : (e : ℕ) → d ≤ e → (f e).Begins at front
  pub ends : (e : ℕ) → Covers fault d e → (n : List ℕ) → StartsAs back n → IsLonger n → (f e).Begins at (front ++ n) → ⊥
  pub none : (e : ℕ) → Covers fault d e → (a n n' : List ℕ) (y : X) → StartsAs back n → (f e).Spells at a y → Follows follow n' → a ++ n' ≡ front ++ n → ⊥
  pub deeper : Deeper f d at front back fault

-- What reading s gave is right.
abbrev pub Holds : {X : Type 0} → Family X → ℕ → (ℕ → Bool) → ℕ → List ℕ → Read X → Type 0
Holds f d follow at s (Ok r) = Reads f d follow at s r.0 r.1
Holds f d follow at s (Err e) = Stops f d follow at s e

-- At each place, of whatever stands there.
abbrev pub ReadsExactly : {X : Type 0} → Family X → ℕ → (ℕ → Bool) → Reader X → Type 0
ReadsExactly f d follow reader = (at : ℕ) (s : List ℕ) → Holds f d follow at s (reader (at + length s) s)

-- With at most d groups open at once, where only octets of the kind follow may stand behind the rule. A record, so that
-- rule and reader are found from a fact of this type.
pub record IsExact {X : Type 0} (f : Family X) (d : ℕ) (follow : ℕ → Bool) (reader : Reader X) : Type 0 where
  pub reads : ReadsExactly f d follow reader

-- Each front of a text that is spelled is begun: `fw` and `` where `fwd` is spelled.
pub record HasFronts {X : Type 0} (f : Rule X) : Type 0 where
  pub begins : (at : ℕ) (a b : List ℕ) (x : X) → f.Spells at (a ++ b) x → f.Begins at a
