-- Texts with a separator between them, and lists of optional fields: both are told by what is written.
use Rattle.std.proofs.Common.{◌≡◌, ℕ, ◌<◌, Bool, true, false, nat_eq, List, [], ◌∷◌, ◌++◌, append_assoc, refl, sym, ap, ap₂, ◌∙◌, arith}
use Rattle.std.proofs.lemmas.List.{append_cancel_left}
use Rattle.std.proofs.lemmas.Bool.Decides.{nat_tests}
use Rattle.events.specs.Text.{joined}
use Rattle.net_types.specs.Sets.{Each}
use Rattle.text_laws.proofs.Alike.{Over, head_of, rest_of, spans}
use Rattle.exchange_laws.proofs.Lists.{clash}

pub cons_is : {X : Type 0} (x y : X) (xs ys : List X) → x ≡ y → xs ≡ ys → x ∷ xs ≡ y ∷ ys
cons_is x y xs ys e f = ap₂ (λ z zs. z ∷ zs) e f

-- ---- separators

-- the separator begins with c and the text behind with d, of which neither passes the test
module _ (test : ℕ → Bool) (c d : ℕ) (separator : List ℕ) (stops : test c ≡ false) (ends : test d ≡ false) (apart : nat_eq c d ≡ false) where
  same_head : (n : ℕ) → nat_eq n n ≡ true
  same_head n = grind (arith, nat_tests)

  differ : c ≡ d → ⊥
  differ e = clash (same_head d) (sym (ap (λ n. nat_eq n d) e) ∙ apart)

  -- what stands between two texts and behind them, from the right
  moved : (x here s : List ℕ) → ((x ++ (c ∷ separator)) ++ here) ++ (d ∷ s) ≡ x ++ (c ∷ (separator ++ (here ++ (d ∷ s))))
  moved x here s = append_assoc (x ++ (c ∷ separator)) here (d ∷ s) ∙ append_assoc x (c ∷ separator) (here ++ (d ∷ s))

  pub list_told : (x : List ℕ) (xs : List (List ℕ)) (y : List ℕ) (ys : List (List ℕ)) (s t : List ℕ) → Each (Over test) (x ∷ xs) → Each (Over test) (y ∷ ys)
      → joined (c ∷ separator) (x ∷ xs) ++ (d ∷ s) ≡ joined (c ∷ separator) (y ∷ ys) ++ (d ∷ t) → (x ∷ xs ≡ y ∷ ys) × (s ≡ t)
  list_told x [] y [] s t over also e =
      let is = spans test x y (d ∷ s) (d ∷ t) over.0 also.0 ends ends e in
      (cons_is x y [] [] is.0 refl, rest_of d d s t is.1)
  list_told x [] y (z ∷ zs) s t over also e =
      let there : List ℕ = joined (c ∷ separator) (z ∷ zs) in
      let is = spans test x y (d ∷ s) (c ∷ (separator ++ (there ++ (d ∷ t)))) over.0 also.0 ends stops (e ∙ moved y there t) in
      absurd (differ (sym (head_of d c s (separator ++ (there ++ (d ∷ t))) is.1)))
  list_told x (z ∷ zs) y [] s t over also e =
      let here : List ℕ = joined (c ∷ separator) (z ∷ zs) in
      let is = spans test x y (c ∷ (separator ++ (here ++ (d ∷ s)))) (d ∷ t) over.0 also.0 stops ends (sym (moved x here s) ∙ e) in
      absurd (differ (head_of c d (separator ++ (here ++ (d ∷ s))) t is.1))
  list_told x (z ∷ zs) y (w ∷ ws) s t over also e =
      let here : List ℕ = joined (c ∷ separator) (z ∷ zs) in
      let there : List ℕ = joined (c ∷ separator) (w ∷ ws) in
      let is = spans test x y (c ∷ (separator ++ (here ++ (d ∷ s)))) (c ∷ (separator ++ (there ++ (d ∷ t)))) over.0 also.0 stops stops (sym (moved x here s) ∙ e ∙ moved y there t) in
      let more =
      list_told z zs w ws s t over.1 also.1
      (append_cancel_left separator (here ++ (d ∷ s)) (there ++ (d ∷ t)) (rest_of c c (separator ++ (here ++ (d ∷ s))) (separator ++ (there ++ (d ∷ t))) is.1)) in
      (cons_is x y (z ∷ zs) (w ∷ ws) is.0 more.0, more.1)

-- ---- optional fields

-- at most one text, and this is its rank
abbrev pub IsField : (List ℕ → ℕ) → ℕ → List (List ℕ) → Type 0
IsField rank k [] = Unit {0}
IsField rank k (x ∷ []) = rank x ≡ k
IsField rank k (x ∷ y ∷ xs) = ⊥

-- the rank of the first text; none has 9
abbrev pub first_rank : (List ℕ → ℕ) → List (List ℕ) → ℕ
first_rank rank [] = 9
first_rank rank (x ∷ xs) = rank x

-- fields before others of higher ranks
pub field_told : (rank : List ℕ → ℕ) (k : ℕ) (a b rest others : List (List ℕ)) → IsField rank k a → IsField rank k b → k < first_rank rank rest → k < first_rank rank others → a ++ rest ≡ b ++ others → (a ≡ b) × (rest ≡ others)
field_told rank k [] [] rest others one two low less e = (refl, e)
field_told rank k [] (y ∷ []) rest others one two low less e = absurd (omega (arith, ap (first_rank rank) e, two, low))
field_told rank k (x ∷ []) [] rest others one two low less e = absurd (omega (arith, ap (first_rank rank) e, one, less))
field_told rank k (x ∷ []) (y ∷ []) rest others one two low less e = (cons_is x y [] [] (head_of x y rest others e) refl, rest_of x y rest others e)
field_told rank k [] (y ∷ z ∷ ys) rest others one two low less e = absurd two
field_told rank k (x ∷ []) (y ∷ z ∷ ys) rest others one two low less e = absurd two
field_told rank k (x ∷ z ∷ xs) b rest others one two low less e = absurd one

-- the ranks go up
pub rank_over : (rank : List ℕ → ℕ) (j k : ℕ) (a rest : List (List ℕ)) → IsField rank k a → j < k → j < first_rank rank rest → j < first_rank rank (a ++ rest)
rank_over rank j k [] rest one low less = less
rank_over rank j k (x ∷ []) rest one low less = omega (arith, one, low)
rank_over rank j k (x ∷ y ∷ xs) rest one low less = absurd one
