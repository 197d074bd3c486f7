-- Names are tokens, and are read exactly.
use Rattle.std.proofs.Common.{◌≡◌, ℕ, zero, suc, ◌+◌, ◌-◌, ◌≤◌, Bool, true, false, List, [], ◌∷◌, ◌++◌, length, take, drop, Ok, Err, refl, sym, ap, subst, ◌∙◌, arith, inl, inr}
use Rattle.std.specs.Prelude.{◌⊎◌}
use Rattle.std.specs.List.{prefix_len}
use Rattle.std.proofs.lemmas.List.{take-append-drop, length-append}
use Rattle.std.proofs.lemmas.Bool.{cond_both, both_ways}
use Rattle.grammar.specs.Octets.{AllPass, IsLonger}
use Rattle.grammar.specs.Tokens.{IsName, is_letter, is_name_octet, name}
use Rattle.grammar.specs.TokenReading.{name_len, read_name}
use Rattle.grammar.specs.TextReading.{Read, Wrong}
use Rattle.grammar.specs.Exactness.{Holds, IsExact, ReadsExactly}
use Rattle.grammar.proofs.Lists.{AllPass-at, AllPass-front}
use Rattle.grammar.proofs.OctetKinds.{Apart}
use Rattle.grammar.proofs.Firsts.{Heads}
use Rattle.grammar.proofs.Tokens.{IsLast, IsToken, token_heads, token_reads, token_stops}
use Rattle.grammar.proofs.Starts.{StartsIn}

name_closed : (a b : List ℕ) → IsLonger a → IsName (a ++ b) → IsName a
name_closed [] b lo h = lo
name_closed (c ∷ a) b lo h = (h.0, AllPass-front is_name_octet a b h.1, omega (arith, h.2, length-append a b))

name_octets : (a b : List ℕ) (c : ℕ) → IsLonger a → IsName (a ++ c ∷ b) → is_name_octet c ≡ true
name_octets [] b c lo h = absurd lo
name_octets (x ∷ a) b c lo h = AllPass-at is_name_octet a b c h.1

name_starts : (a : List ℕ) → IsName a → StartsIn is_letter a
name_starts [] h = h
name_starts (c ∷ a) h = h.0

pub names : IsToken IsName is_letter is_name_octet
names = record { closed = name_closed; octets = name_octets; starts = name_starts }

-- the octets of a kind at the front of s, of the first k
record IsFront (test : ℕ → Bool) (k : ℕ) (s : List ℕ) (p : ℕ) : Type 0 where
  all : AllPass test (take p s)
  few : length (take p s) ≤ k
  last : (c : ℕ) (more : List ℕ) → drop p s ≡ c ∷ more → (length (take p s) ≡ k) ⊎ (test c ≡ false)

fronts_of : (test : ℕ → Bool) (k : ℕ) (s : List ℕ) → IsFront test k s (prefix_len test (take k s))
fronts_of test zero s = record { all = tt; few = omega arith; last = λ c more e. inl refl }
fronts_of test (suc k) [] = record { all = tt; few = omega arith; last = λ c more e. absurd cc }
fronts_of test (suc k) (c ∷ s) =
    let h = fronts_of test k s in
    let one : suc (prefix_len test (take k s)) ≡ 1 + prefix_len test (take k s) = omega arith in
    cond_both (test c) (1 + prefix_len test (take k s)) 0 (λ (p : ℕ). IsFront test (suc k) (c ∷ s) p)
    (λ t. subst (λ (p : ℕ). IsFront test (suc k) (c ∷ s) p) one
    (record { all = (t, h.all); few = omega (arith, h.few); last = λ x more e. further (prefix_len test (take k s)) x (h.last x more e) }))
    (λ t. record { all = tt; few = omega arith; last = λ x more e. let same : c ≡ x = cc in inr (ap test (sym same) ∙ t) })
  where
    further : (p x : ℕ) → (length (take p s) ≡ k) ⊎ (test x ≡ false) → (length (c ∷ take p s) ≡ suc k) ⊎ (test x ≡ false)
    further p x (inl e) = inl (omega (arith, e))
    further p x (inr t) = inr t

module _ (d : ℕ) (follow : ℕ → Bool) (apart : Apart is_name_octet follow) where
  name_last : (c : ℕ) (front back : List ℕ) → ((x : ℕ) (more : List ℕ) → back ≡ x ∷ more → (length front ≡ 15) ⊎ (is_name_octet x ≡ false)) → IsLast IsName (c ∷ front) back
  name_last c front [] h = tt
  name_last c front (x ∷ back) h = λ is. go (h x back refl) is.1 is.2
    where
      go : (length front ≡ 15) ⊎ (is_name_octet x ≡ false) → AllPass is_name_octet (front ++ x ∷ []) → length (front ++ x ∷ []) ≤ 15 → ⊥
      go (inl e) all few = omega (arith, e, few, length-append front (x ∷ []))
      go (inr t) all few = both_ways (is_name_octet x) t (AllPass-at is_name_octet front [] x all)

  name_holds : ReadsExactly (λ e. name) d follow read_name
  name_holds at [] = token_stops IsName (λ s. s) is_letter is_name_octet follow names apart d at (at + 0) [] (omega arith) tt
  name_holds at (c ∷ s) =
      let h = fronts_of is_name_octet 15 s in
      cond_both (is_letter c) (Ok (c ∷ take (name_len s) s, drop (name_len s) s)) (Err (Wrong ((at + length (c ∷ s)) - length (c ∷ s)))) (λ (r : Read (List ℕ)). Holds (λ e. name) d follow at (c ∷ s) r)
      (λ t. token_reads IsName (λ s. s) is_letter is_name_octet follow names apart d at (c ∷ s) (c ∷ take (name_len s) s) (drop (name_len s) s)
      (ap (λ (w : List ℕ). c ∷ w) (sym (take-append-drop (name_len s) s))) (t, h.all, h.few) (name_last c (take (name_len s) s) (drop (name_len s) s) h.last))
      (λ t. token_stops IsName (λ s. s) is_letter is_name_octet follow names apart d at ((at + length (c ∷ s)) - length (c ∷ s)) (c ∷ s) (omega arith)
      (λ is. both_ways (is_letter c) t is.0))

  pub name_exact : IsExact (λ e. name) d follow read_name
  name_exact = record { reads = name_holds }

pub name_all : (s : List ℕ) → AllPass is_name_octet (take (name_len s) s)
name_all s = (fronts_of is_name_octet 15 s).all

pub name_heads : Heads (λ e. name) is_letter
name_heads = token_heads IsName (λ s. s) is_letter is_name_octet (λ c. false) names (λ c h k. absurd cc)
