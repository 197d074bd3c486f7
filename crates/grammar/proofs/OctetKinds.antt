-- Kinds of octets: which lie within which, and which are apart.
use Rattle.std.proofs.Common.{◌≡◌, ℕ, Bool, true, false, List, [], ◌∷◌, ◌++◌, sym, ap, subst, ◌∙◌, inl, inr, eqb}
use Rattle.std.specs.Prelude.{◌⊎◌, ◌&&◌, not}
use Rattle.std.proofs.lemmas.Bool.{eqb-true, both_ways, and_parts, or_cases, not_from_false, not-true}
use Rattle.grammar.specs.Octets.{Follows, IsLonger, StartsAs, among}
use Rattle.grammar.proofs.Starts.{StartsIn}

-- one kind of octet is part of the other
abbrev pub Within : (ℕ → Bool) → (ℕ → Bool) → Type 0
Within first test = (c : ℕ) → first c ≡ true → test c ≡ true

abbrev pub Apart : (ℕ → Bool) → (ℕ → Bool) → Type 0
Apart first second = (c : ℕ) → first c ≡ true → second c ≡ true → ⊥

pub Follows-within : (first test : ℕ → Bool) → Within first test → (s : List ℕ) → Follows first s → Follows test s
Follows-within first test w [] h = tt
Follows-within first test w (c ∷ s) h = w c h

pub Follows-starts : (first test : ℕ → Bool) → Within first test → (s n : List ℕ) → StartsIn first s → Follows test (s ++ n)
Follows-starts first test w [] n h = absurd h
Follows-starts first test w (c ∷ s) n h = w c h

-- any octet but these
abbrev pub besides : List ℕ → ℕ → Bool
besides xs c = not (among xs c)

-- any octet
abbrev pub any : ℕ → Bool
any c = true

abbrev pub all_pass : (ℕ → Bool) → List ℕ → Bool
all_pass test [] = true
all_pass test (x ∷ xs) = test x && all_pass test xs

-- a table of octets lies in a kind where each of its entries does
pub among_within : (xs : List ℕ) (test : ℕ → Bool) → all_pass test xs ≡ true → Within (among xs) test
among_within [] test all c h = absurd cc
among_within (x ∷ xs) test all c h = go (λ k. among_within xs test parts.1 c k) (or_cases (eqb c x) (among xs c) h)
  where
    parts : (test x ≡ true) × (all_pass test xs ≡ true)
    parts = and_parts (test x) (all_pass test xs) all

    go : (among xs c ≡ true → test c ≡ true) → (eqb c x ≡ true) ⊎ (among xs c ≡ true) → test c ≡ true
    go more (inl e) = ap test (eqb-true c x e) ∙ parts.0
    go more (inr e) = more e

pub among_apart : (xs : List ℕ) (test : ℕ → Bool) → all_pass (λ c. not (test c)) xs ≡ true → Apart (among xs) test
among_apart xs test all c h k = both_ways (test c) (not-true (test c) (among_within xs (λ c. not (test c)) all c h)) k

pub besides_apart : (xs : List ℕ) → Apart (among xs) (besides xs)
besides_apart xs c h k = both_ways (among xs c) (not-true (among xs c) k) h

pub besides_rest : (xs : List ℕ) (c : ℕ) → among xs c ≡ false → besides xs c ≡ true
besides_rest xs c h = not_from_false (among xs c) h

pub flip : (first second : ℕ → Bool) → Apart first second → Apart second first
flip first second apart c h k = apart c k h

-- where s begins with such an octet, whatever begins as s does has no front of the other kind
pub other_kind : (first second : ℕ → Bool) → Apart first second → (s t a n' : List ℕ) → Follows first s → StartsAs s t → a ++ n' ≡ t → StartsIn second a → ⊥
other_kind first second apart s t [] n' fol st eq h = h
other_kind first second apart s [] (c ∷ a) n' fol st eq h = cc
other_kind first second apart [] (x ∷ t) (c ∷ a) n' fol st eq h = st
other_kind first second apart (b ∷ s) (x ∷ t) (c ∷ a) n' fol st eq h =
    let same : b ≡ c = cc in apart c (ap first (sym same) ∙ fol) h

pub no_begin : (first second : ℕ → Bool) → Apart first second → (s front n : List ℕ) → Follows first s → StartsAs s (front ++ n) → IsLonger n → Follows second (front ++ n) → ⊥
no_begin first second apart s [] [] fol st lo h = lo
no_begin first second apart [] [] (x ∷ n) fol st lo h = st
no_begin first second apart (b ∷ s) [] (x ∷ n) fol st lo h = apart x (ap first (sym st) ∙ fol) h
no_begin first second apart [] (x ∷ front) n fol st lo h = st
no_begin first second apart (b ∷ s) (x ∷ front) n fol st lo h = apart x (ap first (sym st) ∙ fol) h

-- Where s begins with an octet of the first kind and front takes some of it, no octet is no text.
pub not_nothing : (first follow : ℕ → Bool) → Apart first follow → (c : ℕ) (s a front n n' : List ℕ) → first c ≡ true → StartsAs (c ∷ s) (front ++ n) → IsLonger front → Follows follow n' → a ≡ [] → a ++ n' ≡ front ++ n → ⊥
not_nothing first follow apart c s a [] n n' t st lo fol e eq = lo
not_nothing first follow apart c s a (x ∷ front) n n' t st lo fol e eq =
    let same : n' ≡ x ∷ (front ++ n) = ap (λ (w : List ℕ). w ++ n') (sym e) ∙ eq in
    let f : Follows follow (x ∷ (front ++ n)) = subst (Follows follow) same fol in
    apart x (ap first (sym st) ∙ t) f
