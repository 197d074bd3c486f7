-- An optional part is read exactly.
use Rattle.std.proofs.Common.{◌≡◌, ℕ, ◌+◌, Bool, true, false, List, [], ◌∷◌, ◌++◌, length, Ok, Err, refl, sym, ap, subst, ◌∙◌, arith, inl, inr}
use Rattle.std.proofs.lemmas.Bool.{cond_both, both_ways}
use Rattle.grammar.specs.Octets.{Follows, IsLonger, StartsAs}
use Rattle.grammar.specs.Rules.{maybe}
use Rattle.grammar.specs.TextReading.{Deep, Fault, Read, Reader, Wrong, read_maybe}
use Rattle.grammar.specs.Exactness.{Covers, Deeper, Family, Holds, IsExact, Reads, ReadsExactly, Stops}
use Rattle.grammar.proofs.Lists.{no_longer, starts_behind, never_empty}
use Rattle.grammar.proofs.OctetKinds.{Apart, Follows-starts, Follows-within, Within, not_nothing}
use Rattle.grammar.proofs.Firsts.{Heads, Leads}
use Rattle.grammar.proofs.Starts.{StartsIn}

abbrev pub maybe_of : {X : Type 0} → X → Family X → Family X
maybe_of x f = λ e. maybe x (f e)

module _ {X : Type 0} (x : X) (f : Family X) (d : ℕ) (first follow : ℕ → Bool) (heads : Heads f first) (apart : Apart first follow)
    (opens : (at c : ℕ) → first c ≡ true → (f d).Begins at (c ∷ [])) where
  takes_some : (at c : ℕ) (s front back : List ℕ) → first c ≡ true → c ∷ s ≡ front ++ back → ((n : List ℕ) → StartsAs back n → IsLonger n → (f d).Begins at (front ++ n) → ⊥) → IsLonger front
  takes_some at c s [] back t e over = absurd (over (c ∷ []) (subst (λ (w : List ℕ). StartsAs w (c ∷ [])) e refl) tt (opens at c t))
  takes_some at c s (y ∷ front) back t e over = tt

  maybe_reads : (at c : ℕ) (s : List ℕ) (y : X) (m : List ℕ) → first c ≡ true → Reads f d follow at (c ∷ s) y m → Reads (maybe_of x f) d follow at (c ∷ s) y m
  maybe_reads at c s y m t k = record {
    front = k.front;
    parts = k.parts;
    spells = λ e le. inr (k.spells e le);
    begins = λ e le. inr (k.begins e le);
    only = λ e a n n' z st sp fol eq. only_case e a n n' z st fol eq sp;
    ends = λ e n st lo b. ends_case e n st lo b;
  }
    where
      ends_case : (e : ℕ) (n : List ℕ) → StartsAs m n → IsLonger n → (maybe_of x f e).Begins at (k.front ++ n) → ⊥
      ends_case e n st lo (inl b) = never_empty k.front n lo b
      ends_case e n st lo (inr b) = k.ends e n st lo b

      only_case : (e : ℕ) (a n n' : List ℕ) (z : X) → StartsAs m n → Follows follow n' → a ++ n' ≡ k.front ++ n → (maybe_of x f e).Spells at a z → (a ≡ k.front) × (n' ≡ n) × (z ≡ y)
      only_case e a n n' z st fol eq (inl sp) =
          absurd (not_nothing first follow apart c s a k.front n n' t (starts_behind k.front (c ∷ s) m n k.parts st) (takes_some at c s k.front m t k.parts (λ n st lo b. k.ends d n st lo b)) fol sp.0 eq)
      only_case e a n n' z st fol eq (inr sp) = k.only e a n n' z st sp fol eq

  maybe_stops : (at c : ℕ) (s : List ℕ) (fault : Fault) → first c ≡ true → Stops f d follow at (c ∷ s) fault → Stops (maybe_of x f) d follow at (c ∷ s) fault
  maybe_stops at c s fault t k = record {
    front = k.front;
    back = k.back;
    parts = k.parts;
    place = k.place;
    begins = λ e le. inr (k.begins e le);
    ends = λ e cov n st lo b. ends_case e cov n st lo b;
    none = λ e cov a n n' z st sp fol eq. none_case e cov a n n' z st fol eq sp;
    deeper = deeper_case fault k.front k.back k.deeper;
  }
    where
      covers_self : (fault : Fault) → Covers fault d d
      covers_self (Wrong p) = tt
      covers_self (Deep p) = omega arith

      deeper_case : (fault : Fault) (front back : List ℕ) → Deeper f d at front back fault → Deeper (maybe_of x f) d at front back fault
      deeper_case (Wrong p) front back h = tt
      deeper_case (Deep p) front back h = (h.0, h.1, inr h.2)

      ends_case : (e : ℕ) → Covers fault d e → (n : List ℕ) → StartsAs k.back n → IsLonger n → (maybe_of x f e).Begins at (k.front ++ n) → ⊥
      ends_case e cov n st lo (inl b) = never_empty k.front n lo b
      ends_case e cov n st lo (inr b) = k.ends e cov n st lo b

      none_case : (e : ℕ) → Covers fault d e → (a n n' : List ℕ) (z : X) → StartsAs k.back n → Follows follow n' → a ++ n' ≡ k.front ++ n → (maybe_of x f e).Spells at a z → ⊥
      none_case e cov a n n' z st fol eq (inl sp) =
          not_nothing first follow apart c s a k.front n n' t (starts_behind k.front (c ∷ s) k.back n k.parts st)
          (takes_some at c s k.front k.back t k.parts (λ n st lo b. k.ends d (covers_self fault) n st lo b)) fol sp.0 eq
      none_case e cov a n n' z st fol eq (inr sp) = k.none e cov a n n' z st sp fol eq

  nothing_reads : (at : ℕ) (s : List ℕ) → ((n : List ℕ) → StartsAs s n → Follows first n → n ≡ []) → Reads (maybe_of x f) d follow at s x s
  nothing_reads at s over = record {
    front = [];
    parts = refl;
    spells = λ e le. inl (refl, refl);
    begins = λ e le. inl refl;
    only = λ e a n n' z st sp fol eq. only_case e a n n' z st fol eq sp;
    ends = λ e n st lo b. ends_case e n st lo b;
  }
    where
      ends_case : (e : ℕ) (n : List ℕ) → StartsAs s n → IsLonger n → (maybe_of x f e).Begins at n → ⊥
      ends_case e n st lo (inl b) = no_longer n b lo
      ends_case e n st lo (inr b) = no_longer n (over n st (heads.begins e at n b)) lo

      some_front : (a n n' : List ℕ) → StartsIn first a → a ++ n' ≡ n → StartsAs s n → ⊥
      some_front [] n n' h eq st = h
      some_front (y ∷ p) n n' h eq st = let gone : n ≡ [] = over n st (subst (Follows first) eq h) in cc

      only_case : (e : ℕ) (a n n' : List ℕ) (z : X) → StartsAs s n → Follows follow n' → a ++ n' ≡ n → (maybe_of x f e).Spells at a z → (a ≡ []) × (n' ≡ n) × (z ≡ x)
      only_case e a n n' z st fol eq (inl sp) = (sp.0, ap (λ (w : List ℕ). w ++ n') (sym sp.0) ∙ eq, sp.1)
      only_case e a n n' z st fol eq (inr sp) = absurd (some_front a n n' (heads.spells e at a z sp) eq st)

  maybe_holds : (rf : Reader X) → IsExact f d follow rf → ReadsExactly (maybe_of x f) d follow (read_maybe first x rf)
  maybe_holds rf exact at [] = nothing_reads at [] (λ n st h. empty n st)
    where
      empty : (n : List ℕ) → StartsAs [] n → n ≡ []
      empty [] st = refl
      empty (y ∷ n) st = absurd st
  maybe_holds rf exact at (c ∷ s) =
      cond_both (first c) (rf (at + length (c ∷ s)) (c ∷ s)) (Ok (x, c ∷ s)) (λ (r : Read X). Holds (maybe_of x f) d follow at (c ∷ s) r)
      (λ t. go t (rf (at + length (c ∷ s)) (c ∷ s)) (exact.reads at (c ∷ s)))
      (λ t. nothing_reads at (c ∷ s) (λ n st h. other t n st h))
    where
      go : first c ≡ true → (read : Read X) → Holds f d follow at (c ∷ s) read → Holds (maybe_of x f) d follow at (c ∷ s) read
      go t (Ok r) h = maybe_reads at c s r.0 r.1 t h
      go t (Err e) h = maybe_stops at c s e t h

      other : first c ≡ false → (n : List ℕ) → StartsAs (c ∷ s) n → Follows first n → n ≡ []
      other t [] st h = refl
      other t (y ∷ n) st h = absurd (both_ways (first y) (ap first (sym st) ∙ t) h)

  pub maybe_exact : (rf : Reader X) → IsExact f d follow rf → IsExact (maybe_of x f) d follow (read_maybe first x rf)
  maybe_exact rf exact = record { reads = maybe_holds rf exact }

  pub maybe_leads : (test : ℕ → Bool) → Within first test → Within follow test → Leads (maybe_of x f) follow test
  maybe_leads test w v = record { spells = λ e at s n z sp fol. spelt e at s n z fol sp; begins = λ e at s b. begun e at s b }
    where
      spelt : (e at : ℕ) (s n : List ℕ) (z : X) → Follows follow n → (maybe_of x f e).Spells at s z → Follows test (s ++ n)
      spelt e at s n z fol (inl sp) = subst (λ (w : List ℕ). Follows test (w ++ n)) (sym sp.0) (Follows-within follow test v n fol)
      spelt e at s n z fol (inr sp) = Follows-starts first test w s n (heads.spells e at s z sp)

      begun : (e at : ℕ) (s : List ℕ) → (maybe_of x f e).Begins at s → Follows test s
      begun e at s (inl b) = subst (Follows test) (sym b) tt
      begun e at s (inr b) = Follows-within first test w s (heads.begins e at s b)
