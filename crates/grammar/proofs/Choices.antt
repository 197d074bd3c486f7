-- A choice by the first octet is read exactly.
use Rattle.std.proofs.Common.{◌≡◌, ℕ, suc, ◌+◌, Bool, true, false, List, [], ◌∷◌, ◌++◌, length, Ok, Err, inl, inr}
use Rattle.std.specs.Prelude.{◌⊎◌}
use Rattle.std.proofs.lemmas.Bool.{cond_both}
use Rattle.grammar.specs.Octets.{Follows, IsLonger, StartsAs, among}
use Rattle.grammar.specs.Rules.{either}
use Rattle.grammar.specs.TextReading.{Deep, Fault, Read, Reader, Wrong, read_either}
use Rattle.grammar.specs.Exactness.{Covers, Deeper, Family, Holds, IsExact, ReadsExactly}
use Rattle.grammar.proofs.Lists.{starts_behind}
use Rattle.grammar.proofs.OctetKinds.{Apart, all_pass, among_within, besides, besides_apart, besides_rest, no_begin, other_kind}
use Rattle.grammar.proofs.Firsts.{Heads, Heads-within}
use Rattle.grammar.proofs.Starts.{StartsIn}

abbrev pub one_of : {X : Type 0} → Family X → Family X → Family X
one_of f g = λ e. either (f e) (g e)

-- what is read as the one is read as either, where the other begins otherwise
module _ {X : Type 0} (f g h : Family X) (d : ℕ) (first second follow : ℕ → Bool) (apart : Apart first second) (heads : Heads g second)
    (from : (e at : ℕ) (s : List ℕ) (x : X) → (f e).Spells at s x → (h e).Spells at s x)
    (begun : (e at : ℕ) (s : List ℕ) → (f e).Begins at s → (h e).Begins at s)
    (spelt : (e at : ℕ) (s : List ℕ) (x : X) → (h e).Spells at s x → (f e).Spells at s x ⊎ (g e).Spells at s x)
    (begins : (e at : ℕ) (s : List ℕ) → (h e).Begins at s → (f e).Begins at s ⊎ (g e).Begins at s) where
  choice : (at : ℕ) (s : List ℕ) → Follows first s → (read : Read X) → Holds f d follow at s read → Holds h d follow at s read
  choice at s fol (Ok r) k = record {
    front = k.front;
    parts = k.parts;
    spells = λ e le. from e at k.front r.0 (k.spells e le);
    begins = λ e le. begun e at k.front (k.begins e le);
    only = λ e a n n' y st sp fo eq. only_case e a n n' y st fo eq (spelt e at a y sp);
    ends = λ e n st lo b. ends_case e n st lo (begins e at (k.front ++ n) b);
  }
    where
      only_case : (e : ℕ) (a n n' : List ℕ) (y : X) → StartsAs r.1 n → Follows follow n' → a ++ n' ≡ k.front ++ n → (f e).Spells at a y ⊎ (g e).Spells at a y → (a ≡ k.front) × (n' ≡ n) × (y ≡ r.0)
      only_case e a n n' y st fo eq (inl sp) = k.only e a n n' y st sp fo eq
      only_case e a n n' y st fo eq (inr sp) = absurd (other_kind first second apart s (k.front ++ n) a n' fol (starts_behind k.front s r.1 n k.parts st) eq (heads.spells e at a y sp))

      ends_case : (e : ℕ) (n : List ℕ) → StartsAs r.1 n → IsLonger n → (f e).Begins at (k.front ++ n) ⊎ (g e).Begins at (k.front ++ n) → ⊥
      ends_case e n st lo (inl b) = k.ends e n st lo b
      ends_case e n st lo (inr b) = no_begin first second apart s k.front n fol (starts_behind k.front s r.1 n k.parts st) lo (heads.begins e at (k.front ++ n) b)
  choice at s fol (Err fault) k = record {
    front = k.front;
    back = k.back;
    parts = k.parts;
    place = k.place;
    begins = λ e le. begun e at k.front (k.begins e le);
    ends = λ e cov n st lo b. ends_case e cov n st lo (begins e at (k.front ++ n) b);
    none = λ e cov a n n' y st sp fo eq. none_case e cov a n n' y st fo eq (spelt e at a y sp);
    deeper = deeper_case fault k.front k.back k.deeper;
  }
    where
      none_case : (e : ℕ) → Covers fault d e → (a n n' : List ℕ) (y : X) → StartsAs k.back n → Follows follow n' → a ++ n' ≡ k.front ++ n → (f e).Spells at a y ⊎ (g e).Spells at a y → ⊥
      none_case e cov a n n' y st fo eq (inl sp) = k.none e cov a n n' y st sp fo eq
      none_case e cov a n n' y st fo eq (inr sp) = other_kind first second apart s (k.front ++ n) a n' fol (starts_behind k.front s k.back n k.parts st) eq (heads.spells e at a y sp)

      ends_case : (e : ℕ) → Covers fault d e → (n : List ℕ) → StartsAs k.back n → IsLonger n → (f e).Begins at (k.front ++ n) ⊎ (g e).Begins at (k.front ++ n) → ⊥
      ends_case e cov n st lo (inl b) = k.ends e cov n st lo b
      ends_case e cov n st lo (inr b) = no_begin first second apart s k.front n fol (starts_behind k.front s k.back n k.parts st) lo (heads.begins e at (k.front ++ n) b)

      deeper_case : (fault : Fault) (front back : List ℕ) → Deeper f d at front back fault → Deeper h d at front back fault
      deeper_case (Wrong p) front back t = tt
      deeper_case (Deep p) front back t = (t.0, t.1, begun (suc d) at (front ++ 40 ∷ []) t.2)

swap_sum : {A B : Type 0} → A ⊎ B → B ⊎ A
swap_sum (inl a) = inr a
swap_sum (inr b) = inl b

either_holds : {X : Type 0} (f g : Family X) (d : ℕ) (first second follow : ℕ → Bool) → Apart first second → Heads f first → Heads g second
    → ((c : ℕ) → first c ≡ false → second c ≡ true) → (rf rg : Reader X) → IsExact f d follow rf → IsExact g d follow rg → ReadsExactly (one_of f g) d follow (read_either first rf rg)
either_holds {X} f g d first second follow apart hf hg rest rf rg one two at [] =
    choice g f (one_of f g) d second first follow (λ c h k. apart c k h) hf (λ e at s x h. inr h) (λ e at s h. inr h) (λ e at s x h. swap_sum h) (λ e at s h. swap_sum h)
    at [] tt (rg (at + length {A = ℕ} []) []) (two.reads at [])
either_holds {X} f g d first second follow apart hf hg rest rf rg one two at (c ∷ s) =
    cond_both (first c) (rf (at + length (c ∷ s)) (c ∷ s)) (rg (at + length (c ∷ s)) (c ∷ s)) (λ (r : Read X). Holds (one_of f g) d follow at (c ∷ s) r)
    (λ t. choice f g (one_of f g) d first second follow apart hg (λ e at s x h. inl h) (λ e at s h. inl h) (λ e at s x h. h) (λ e at s h. h)
    at (c ∷ s) t (rf (at + length (c ∷ s)) (c ∷ s)) (one.reads at (c ∷ s)))
    (λ t. choice g f (one_of f g) d second first follow (λ c h k. apart c k h) hf (λ e at s x h. inr h) (λ e at s h. inr h) (λ e at s x h. swap_sum h) (λ e at s h. swap_sum h)
    at (c ∷ s) (rest c t) (rg (at + length (c ∷ s)) (c ∷ s)) (two.reads at (c ∷ s)))

pub either_exact : {X : Type 0} (f g : Family X) (d : ℕ) (first second follow : ℕ → Bool) → Apart first second → Heads f first → Heads g second
    → ((c : ℕ) → first c ≡ false → second c ≡ true) → (rf rg : Reader X) → IsExact f d follow rf → IsExact g d follow rg → IsExact (one_of f g) d follow (read_either first rf rg)
either_exact f g d first second follow apart hf hg rest rf rg one two = record { reads = either_holds f g d first second follow apart hf hg rest rf rg one two }

pub either_heads : {X : Type 0} (f g : Family X) (first : ℕ → Bool) → Heads f first → Heads g first → Heads (one_of f g) first
either_heads {X} f g first hf hg = record { spells = λ e at s x sp. spelt e at s x sp; begins = λ e at s b. begun e at s b }
  where
    spelt : (e at : ℕ) (s : List ℕ) (x : X) → (f e).Spells at s x ⊎ (g e).Spells at s x → StartsIn first s
    spelt e at s x (inl sp) = hf.spells e at s x sp
    spelt e at s x (inr sp) = hg.spells e at s x sp

    begun : (e at : ℕ) (s : List ℕ) → (f e).Begins at s ⊎ (g e).Begins at s → Follows first s
    begun e at s (inl b) = hf.begins e at s b
    begun e at s (inr b) = hg.begins e at s b

-- a choice by one octet out of two tables
pub pick : {X : Type 0} (f g : Family X) (d : ℕ) (xs ys : List ℕ) (follow : ℕ → Bool) (rf rg : Reader X) → all_pass (besides xs) ys ≡ true → Heads f (among xs) → Heads g (among ys)
    → IsExact f d follow rf → IsExact g d follow rg → IsExact (one_of f g) d follow (read_either (among xs) rf rg)
pick f g d xs ys follow rf rg apart hf hg one two =
    either_exact f g d (among xs) (besides xs) follow (besides_apart xs) hf (Heads-within g (among ys) (besides xs) (among_within ys (besides xs) apart) hg) (besides_rest xs) rf rg one two
