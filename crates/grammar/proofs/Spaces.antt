-- Spaces, and words with spaces behind them, are read exactly.
use Rattle.std.proofs.Common.{◌≡◌, ℕ, ◌≤◌, Bool, true, false, List, [], ◌∷◌, sym, ap, ◌∙◌, arith, inl, inr, eqb, leb}
use Rattle.std.specs.Prelude.{◌⊎◌, ◌&&◌, ◌||◌}
use Rattle.std.proofs.lemmas.Bool.{eqb-true, both_ways, and_parts, or_cases, leb-true, not_from_false, false_from_ne_true}
use Rattle.grammar.specs.TextReading as reading
use Rattle.grammar.specs.Octets.{among}
use Rattle.grammar.specs.Rules.{Rule, place, pure, word, ◌>>=◌}
use Rattle.grammar.specs.Tokens.{is_digit, is_letter, is_space, sign, spaces, gap}
use Rattle.grammar.specs.TokenReading.{read_sign, read_spaces, read_gap}
use Rattle.grammar.specs.TextReading.{Reader}
use Rattle.grammar.specs.Exactness.{Family, IsExact}
use Rattle.grammar.proofs.OctetKinds.{Apart, Within, any, besides}
use Rattle.grammar.proofs.Firsts.{Heads, Leads, any_leads, word_heads}
use Rattle.grammar.proofs.Exact.{both, both_exact, both_heads, both_leads}
use Rattle.grammar.proofs.Nothing.{place_exact, place_leads, pure_exact, pure_leads}
use Rattle.grammar.proofs.Words.{word_then}
use Rattle.grammar.proofs.Runs.{run_leads, run_reads}
use Rattle.grammar.proofs.Numbers.{digits_within}
use Rattle.grammar.proofs.Gaps.{nonempty_run_exact, nonempty_run_heads}

abbrev pub no_space : ℕ → Bool
no_space = besides (32 ∷ [])

-- what may stand behind spaces
pub spaces_exact : (d : ℕ) (follow : ℕ → Bool) → Apart is_space follow → IsExact (λ e. spaces) d follow read_spaces
spaces_exact d follow apart = record { reads = λ at s. run_reads is_space follow apart d at s }

pub space_apart : Apart is_space no_space
space_apart c h k = go (eqb-true c 32 h)
  where
    go : c ≡ 32 → ⊥
    go e = both_ways (no_space c) (ap no_space e) k

pub spaces_then : {X : Type 0} (g : Family X) (d : ℕ) (follow : ℕ → Bool) (rg : Reader X) → Leads g follow no_space → IsExact g d follow rg
    → IsExact (both (λ e. spaces) (λ _. g)) d follow (reading.◌>>◌ read_spaces rg)
spaces_then g d follow rg leads exact =
    both_exact (λ e. spaces) (λ _. g) d no_space follow (λ _. leads) read_spaces (λ _. rg) (spaces_exact d no_space space_apart) (λ _. exact)

pub sign_exact : (w : List ℕ) (d : ℕ) → IsExact (λ e. sign w) d no_space (read_sign w)
sign_exact w d = word_then w (λ e. spaces) d no_space read_spaces (spaces_exact d no_space space_apart)

pub sign_then : {X : Type 0} (w : List ℕ) (g : Family X) (d : ℕ) (follow : ℕ → Bool) (rg : Reader X) → Leads g follow no_space → IsExact g d follow rg
    → IsExact (both (λ e. sign w) (λ _. g)) d follow (reading.◌>>◌ (read_sign w) rg)
sign_then w g d follow rg leads exact = both_exact (λ e. sign w) (λ _. g) d no_space follow (λ _. leads) (read_sign w) (λ _. rg) (sign_exact w d) (λ _. exact)

pub sign_heads : {X : Type 0} (c : ℕ) (w : List ℕ) (g : Family X) (to : ℕ → Bool) → to c ≡ true → Heads (both (λ e. sign (c ∷ w)) (λ _. g)) to
sign_heads c w g to t = both_heads (λ e. sign (c ∷ w)) (λ _. g) to (both_heads (λ e. word (c ∷ w)) (λ _ e. spaces) to (word_heads c w to t))

pub sign_opens : {X : Type 0} (x : ℕ) (w : List ℕ) (g : Rule X) (at c : ℕ) → among (x ∷ []) c ≡ true → (sign (x ∷ w) >>= λ _. g).Begins at (c ∷ [])
unfolding ◌>>=◌
sign_opens x w g at c h = go (or_cases (eqb c x) false h)
  where
    go : (eqb c x ≡ true) ⊎ (false ≡ true) → (sign (x ∷ w) >>= λ _. g).Begins at (c ∷ [])
    go (inl e) = let same : c ≡ x = eqb-true c x e in inl (inl (w, ap (λ (z : ℕ). z ∷ w) (sym same)))
    go (inr e) = absurd cc

-- spaces at the end, and a value
pub ends_exact : {X : Type 0} (x : X) (d : ℕ) (follow : ℕ → Bool) → Within follow no_space → IsExact (both (λ e. spaces) (λ _ e. pure x)) d follow (reading.◌>>◌ read_spaces (reading.pure x))
ends_exact x d follow w = spaces_then _ d follow _ (pure_leads x follow no_space w) (pure_exact x d follow)

pub ends_leads : {X : Type 0} (x : X) (follow to : ℕ → Bool) → to 32 ≡ true → Within follow to → Leads (both (λ e. spaces) (λ _ e. pure x)) follow to
ends_leads x follow to t w = both_leads _ _ follow follow to (run_leads is_space follow to (λ c h. ap to (eqb-true c 32 h) ∙ t) w) (λ _. pure_leads x follow follow (λ c h. h))

-- a place at the end, spaces and a value
pub placed_exact : {X : Type 0} (make : ℕ → X) (d : ℕ) (follow : ℕ → Bool) → Within follow no_space
    → IsExact (both (λ e. place) (λ x. both (λ e. spaces) (λ _ e. pure (make x)))) d follow (reading.◌>>=◌ reading.place (λ x. reading.◌>>◌ read_spaces (reading.pure (make x))))
placed_exact make d follow w = both_exact _ _ d any follow (λ x. any_leads _ follow) _ _ (place_exact d any) (λ x. ends_exact (make x) d follow w)

pub placed_leads : {X : Type 0} (make : ℕ → X) (follow to : ℕ → Bool) → to 32 ≡ true → Within follow to
    → Leads (both (λ e. place) (λ x. both (λ e. spaces) (λ _ e. pure (make x)))) follow to
placed_leads make follow to t w = both_leads _ _ follow to to (place_leads to to (λ c h. h)) (λ x. ends_leads (make x) follow to t w)

pub letters_no_space : Within is_letter no_space
letters_no_space c h = besides_space c (λ e. go (or_cases (leb 65 c && leb c 90) (leb 97 c && leb c 122) h) e)
  where
    besides_space : (c : ℕ) → (c ≡ 32 → ⊥) → no_space c ≡ true
    besides_space c ne = not_from_false (eqb c 32 || false) (false_from_ne_true (eqb c 32 || false) (λ k. wrong (or_cases (eqb c 32) false k)))
      where
        wrong : (eqb c 32 ≡ true) ⊎ (false ≡ true) → ⊥
        wrong (inl e) = ne (eqb-true c 32 e)
        wrong (inr e) = cc

    go : ((leb 65 c && leb c 90) ≡ true) ⊎ ((leb 97 c && leb c 122) ≡ true) → c ≡ 32 → ⊥
    go (inl k) e = omega (arith, e, leb-true 65 c (and_parts (leb 65 c) (leb c 90) k).0)
    go (inr k) e = omega (arith, e, leb-true 97 c (and_parts (leb 97 c) (leb c 122) k).0)

pub digits_no_space : Within is_digit no_space
digits_no_space = digits_within no_space (λ c lo hi. not_from_false (eqb c 32 || false) (false_from_ne_true (eqb c 32 || false) (λ h. go c lo (or_cases (eqb c 32) false h))))
  where
    go : (c : ℕ) → 48 ≤ c → (eqb c 32 ≡ true) ⊎ (false ≡ true) → ⊥
    go c lo (inl e) = omega (arith, eqb-true c 32 e)
    go c lo (inr e) = cc

-- ---- at least one space

pub gap_exact : (d : ℕ) (follow : ℕ → Bool) → Apart is_space follow → IsExact (λ e. gap) d follow read_gap
gap_exact d follow apart = nonempty_run_exact is_space d follow apart

pub gap_then : {X : Type 0} (g : Family X) (d : ℕ) (follow : ℕ → Bool) (rg : Reader X) → Leads g follow no_space → IsExact g d follow rg
    → IsExact (both (λ e. gap) (λ _. g)) d follow (reading.◌>>◌ read_gap rg)
gap_then g d follow rg leads exact = both_exact (λ e. gap) (λ _. g) d no_space follow (λ _. leads) read_gap (λ _. rg) (gap_exact d no_space space_apart) (λ _. exact)

pub gap_heads : Heads (λ e. gap) is_space
gap_heads = nonempty_run_heads is_space
