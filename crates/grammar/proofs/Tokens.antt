-- Tokens, of which each front with an octet is a token too, are read exactly.
use Rattle.std.proofs.Common.{◌≡◌, ℕ, Bool, true, List, [], ◌∷◌, ◌++◌, refl, sym, ap, subst, ◌∙◌, append_assoc, arith, inl, inr}
use Rattle.std.specs.Prelude.{◌⊎◌}
use Rattle.grammar.specs.Octets.{Follows, IsLonger, StartsAs}
use Rattle.grammar.specs.Rules.{token}
use Rattle.grammar.specs.TextReading.{Wrong}
use Rattle.grammar.specs.Exactness.{Reads, Stops}
use Rattle.grammar.proofs.Lists.{GoesOn, fronts}
use Rattle.grammar.proofs.OctetKinds.{Apart}
use Rattle.grammar.proofs.Firsts.{Heads}
use Rattle.grammar.proofs.Starts.{StartsIn}

pub record IsToken (Is : List ℕ → Type 0) (first inner : ℕ → Bool) : Type 0 where
  pub closed : (a b : List ℕ) → IsLonger a → Is (a ++ b) → Is a
  pub octets : (a b : List ℕ) (c : ℕ) → IsLonger a → Is (a ++ c ∷ b) → inner c ≡ true
  pub starts : (a : List ℕ) → Is a → StartsIn first a

-- no octet of back makes a longer token of front
abbrev pub IsLast : (List ℕ → Type 0) → List ℕ → List ℕ → Type 0
IsLast Is front [] = Unit {0}
IsLast Is front (c ∷ back) = Is (front ++ c ∷ []) → ⊥

module _ {X : Type 0} (Is : List ℕ → Type 0) (value : List ℕ → X) (first inner follow : ℕ → Bool) (tokens : IsToken Is first inner) (apart : Apart inner follow) where
  longer_is : (a : List ℕ) → Is a → IsLonger a
  longer_is [] h = absurd (tokens.starts [] h)
  longer_is (c ∷ a) h = tt

  -- nothing that begins as back does makes front longer
  goes_on : (front back n : List ℕ) (c : ℕ) (more : List ℕ) → IsLast Is front back → StartsAs back n → n ≡ c ∷ more → (k : List ℕ) → Is (front ++ c ∷ k) → IsLonger (front ++ c ∷ []) → ⊥
  goes_on front back [] c more last st e k is lo = cc
  goes_on front [] (x ∷ n) c more last st e k is lo = st
  goes_on front (b ∷ back) (x ∷ n) c more last st e k is lo =
      let same : b ≡ c = cc in
      last (subst (λ (z : ℕ). Is (front ++ z ∷ [])) (sym same) (tokens.closed (front ++ c ∷ []) k lo (subst Is (sym (append_assoc front (c ∷ []) k)) is)))

  longer_with : (front : List ℕ) (c : ℕ) → IsLonger (front ++ c ∷ [])
  longer_with [] c = tt
  longer_with (b ∷ front) c = tt

  only_case : (front back a n n' : List ℕ) → Is front → IsLast Is front back → StartsAs back n → Is a → Follows follow n' → ((a ≡ front) × (n' ≡ n)) ⊎ (GoesOn a front n n' ⊎ GoesOn front a n' n) → (a ≡ front) × (n' ≡ n)
  only_case front back a n n' is last st ia fol (inl p) = p
  only_case front back a n n' is last st ia fol (inr (inl g)) =
      absurd (goes_on front back n g.octet (g.more ++ n') last st g.rest g.more (subst Is g.longer ia) (longer_with front g.octet))
  only_case front back a n n' is last st ia fol (inr (inr g)) =
      let f : Follows follow (g.octet ∷ (g.more ++ n)) = subst (Follows follow) g.rest fol in
      absurd (apart g.octet (tokens.octets a g.more g.octet (longer_is a ia) (subst Is g.longer is)) f)

  begins_case : (front back n : List ℕ) → IsLast Is front back → StartsAs back n → IsLonger n → (front ++ n ≡ []) ⊎ Is (front ++ n) → ⊥
  begins_case front back [] last st lo b = lo
  begins_case [] back (c ∷ n) last st lo (inl e) = cc
  begins_case (x ∷ front) back (c ∷ n) last st lo (inl e) = cc
  begins_case front back (c ∷ n) last st lo (inr is) = goes_on front back (c ∷ n) c n last st refl n is (longer_with front c)

  none_case : (back a n n' : List ℕ) → IsLast Is [] back → StartsAs back n → Is a → a ++ n' ≡ n → ⊥
  none_case back [] n n' last st is eq = tokens.starts [] is
  none_case back (c ∷ a) n n' last st is eq = goes_on [] back n c (a ++ n') last st (sym eq) a is tt

  pub token_reads : (d at : ℕ) (s front back : List ℕ) → s ≡ front ++ back → Is front → IsLast Is front back → Reads (λ e. token Is value) d follow at s (value front) back
  token_reads d at s front back parts is last = record {
    front = front;
    parts = parts;
    spells = λ e le. (is, refl);
    begins = λ e le. inr is;
    only = λ e a n n' y st sp fol eq. let p = only_case front back a n n' is last st sp.0 fol (fronts a front n n' eq) in (p.0, p.1, sp.1 ∙ ap value p.0);
    ends = λ e n st lo b. begins_case front back n last st lo b;
  }

  pub token_stops : (d at p : ℕ) (back : List ℕ) → p ≡ at → IsLast Is [] back → Stops (λ e. token Is value) d follow at back (Wrong p)
  token_stops d at p back p_is last = record {
    front = [];
    back = back;
    parts = refl;
    place = omega arith;
    begins = λ e le. inl refl;
    ends = λ e cov n st lo b. begins_case [] back n last st lo b;
    none = λ e cov a n n' y st sp fol eq. none_case back a n n' last st sp.0 eq;
    deeper = tt;
  }

  pub token_heads : Heads (λ e. token Is value) first
  token_heads = record { spells = λ e at s x sp. tokens.starts s sp.0; begins = λ e at s b. begun s b }
    where
      begun : (s : List ℕ) → (s ≡ []) ⊎ Is s → Follows first s
      begun [] b = tt
      begun (c ∷ s) (inl e) = absurd cc
      begun (c ∷ s) (inr is) = tokens.starts (c ∷ s) is
