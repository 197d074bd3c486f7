-- The forwards, assignments and tests of what a text spells stand one behind another in it.
use Rattle.std.proofs.Common.{◌≡◌, ℕ, zero, suc, ◌+◌, ◌≤◌, ◌<◌, List, [], ◌∷◌, ◌++◌, length, refl, sym, ap, subst, ◌∙◌, arith, inl, inr, length-append}
use Rattle.std.specs.Prelude.{codes}
use Rattle.grammar.specs.Rules.{Rule, ◌>>=◌, many, SpellsTimes}
use Rattle.grammar.specs.Tokens.{parens}
use Rattle.net_types.specs.declared.headers.Span.{Span}
use Rattle.net_types.specs.Policies.{Test, Pred, Yes, Is, Not, And, Or, Policy, Drop, Pass, Block, Fwd, Match, Set, Both, Then}
use Rattle.net_types.specs.PolicyGrammar.{field, test, truth, tested, prim_with, negation, lit_with, and_lit, conj_with, or_conj, pred_with, pred_group, fwd, match_with, modify, keyword, atom_from, atom_with, then_atom, chain_with, plus_chain, policy_with, policy_group}
use Rattle.net_types.specs.PolicyTexts.{SpellsPolicy}

-- ---- where the parts stand

-- where the tests of a predicate stand, in the order of the text
abbrev pub pred_spans : Pred → List Span
pred_spans Yes = []
pred_spans (Is t s) = s ∷ []
pred_spans (Not p) = pred_spans p
pred_spans (And p q) = pred_spans p ++ pred_spans q
pred_spans (Or p q) = pred_spans p ++ pred_spans q

-- where the forwards, the assignments and the tests of a policy stand, in the order of the text
abbrev pub policy_spans : Policy → List Span
policy_spans Drop = []
policy_spans Pass = []
policy_spans Block = []
policy_spans (Fwd t s) = s ∷ []
policy_spans (Match p) = pred_spans p
policy_spans (Set a s) = s ∷ []
policy_spans (Both p q) = policy_spans p ++ policy_spans q
policy_spans (Then p q) = policy_spans p ++ policy_spans q

-- ---- spans between two places

-- one behind another, from the one place up to the other
abbrev pub Between : {X : Type 0} → (X → Span) → ℕ → ℕ → List X → Type 0
Between at lo hi [] = lo ≤ hi
Between at lo hi (x ∷ xs) = (lo ≤ (at x).start) × ((at x).start < (at x).end) × Between at (at x).end hi xs

pub between_le : {X : Type 0} (at : X → Span) (lo hi : ℕ) (xs : List X) → Between at lo hi xs → lo ≤ hi
between_le at lo hi [] h = h
between_le at lo hi (x ∷ xs) h = omega (arith, h.0, h.1, between_le at (at x).end hi xs h.2)

pub between_later : {X : Type 0} (at : X → Span) (lo hi up : ℕ) (xs : List X) → hi ≤ up → Between at lo hi xs → Between at lo up xs
between_later at lo hi up [] le h = omega arith
between_later at lo hi up (x ∷ xs) le h = (h.0, h.1, between_later at (at x).end hi up xs le h.2)

pub between_sooner : {X : Type 0} (at : X → Span) (down lo hi : ℕ) (xs : List X) → down ≤ lo → Between at lo hi xs → Between at down hi xs
between_sooner at down lo hi [] le h = omega arith
between_sooner at down lo hi (x ∷ xs) le h = (omega (arith, h.0), h.1, h.2)

pub between_both : {X : Type 0} (at : X → Span) (lo mid hi : ℕ) (xs ys : List X) → Between at lo mid xs → Between at mid hi ys → Between at lo hi (xs ++ ys)
between_both at lo mid hi [] ys h k = between_sooner at lo mid hi ys h k
between_both at lo mid hi (x ∷ xs) ys h k = (h.0, h.1, between_both at (at x).end mid hi xs ys h.2 k)

pub between_parts : {X : Type 0} (at : X → Span) (lo hi : ℕ) (xs ys : List X) → Between at lo hi (xs ++ ys) → (mid : ℕ) × Between at lo mid xs × Between at mid hi ys
between_parts at lo hi [] ys h = (lo, omega arith, h)
between_parts at lo hi (x ∷ xs) ys h =
    let rest = between_parts at (at x).end hi xs ys h.2 in
    (rest.0, (h.0, h.1, rest.1), rest.2)

-- ---- rules whose values have spans

-- the spans of what is spelled stand where it is spelled
Lie : {X : Type 0} → (X → List Span) → Rule X → Type 0
Lie {X} view f = (at : ℕ) (s : List ℕ) (x : X) → f.Spells at s x → Between (λ p. p) at (at + length s) (view x)

lengths : (s a b : List ℕ) → s ≡ a ++ b → length s ≡ length a + length b
lengths s a b e = ap length e ∙ length-append a b

-- the value is nothing but what the second part of a text spells
second_lies : {X : Type 0} (view : X → List Span) (at : ℕ) (s a b : List ℕ) (x : X) → s ≡ a ++ b → Between (λ p. p) (at + length a) (at + length a + length b) (view x) → Between (λ p. p) at (at + length s) (view x)
second_lies view at s a b x e h =
    between_sooner (λ p. p) at (at + length a) (at + length s) (view x) (omega arith)
    (between_later (λ p. p) (at + length a) (at + length a + length b) (at + length s) (view x) (omega (arith, lengths s a b e)) h)

times_lie : {X Y : Type 0} (view : X → List Span) (view_part : Y → List Span) (join : X → Y → X) (part : Rule Y) → ((x : X) (y : Y) → view (join x y) ≡ view x ++ view_part y)
    → ((at : ℕ) (s : List ℕ) (y : Y) → part.Spells at s y → Between (λ p. p) at (at + length s) (view_part y))
    → (n : ℕ) (before : X) (lo at : ℕ) (s : List ℕ) (x : X) → SpellsTimes join part n before at s x → Between (λ p. p) lo at (view before) → Between (λ p. p) lo (at + length s) (view x)
times_lie view view_part join part joined lies zero before lo at s x sp h =
    between_later (λ p. p) lo at (at + length s) (view x) (omega arith) (subst (λ y. Between (λ p. p) lo at (view y)) (sym sp.1) h)
times_lie view view_part join part joined lies (suc n) before lo at s x sp h =
    let here : Between (λ p. p) lo (at + length sp.0) (view (join before sp.2)) =
    subst (λ l. Between (λ p. p) lo (at + length sp.0) l) (sym (joined before sp.2)) (between_both (λ p. p) lo at (at + length sp.0) (view before) (view_part sp.2) h (lies at sp.0 sp.2 sp.4)) in
    between_later (λ p. p) lo (at + length sp.0 + length sp.1) (at + length s) (view x) (omega (arith, lengths s sp.0 sp.1 sp.3))
    (times_lie view view_part join part joined lies n (join before sp.2) lo (at + length sp.0) sp.1 x sp.5 here)

chain_lies : {X : Type 0} (view : X → List Span) (first : Rule X) (join : X → X → X) (part : Rule X) → ((x y : X) → view (join x y) ≡ view x ++ view y)
    → ((at : ℕ) (s : List ℕ) (x : X) → first.Spells at s x → Between (λ p. p) at (at + length s) (view x))
    → ((at : ℕ) (s : List ℕ) (x : X) → part.Spells at s x → Between (λ p. p) at (at + length s) (view x))
    → (at : ℕ) (s : List ℕ) (x : X) → (first >>= λ z. many join part z).Spells at s x → Between (λ p. p) at (at + length s) (view x)
unfolding ◌>>=◌
chain_lies view first join part joined first_lies part_lies at s x sp =
    between_later (λ p. p) at (at + length sp.0 + length sp.1) (at + length s) (view x) (omega (arith, lengths s sp.0 sp.1 sp.3))
    (times_lie view view join part joined part_lies sp.5.0 sp.2 at (at + length sp.0) sp.1 x sp.5.1 (first_lies at sp.0 sp.2 sp.4))

parens_lie : {X : Type 0} (view : X → List Span) (inner : Rule X) → ((at : ℕ) (s : List ℕ) (x : X) → inner.Spells at s x → Between (λ p. p) at (at + length s) (view x))
    → (at : ℕ) (s : List ℕ) (x : X) → (parens inner).Spells at s x → Between (λ p. p) at (at + length s) (view x)
unfolding ◌>>=◌
parens_lie view inner lies at s x sp =
    subst (λ y. Between (λ p. p) at (at + length s) (view y)) (sym sp.5.5.5.1)
    (between_sooner (λ p. p) at (at + length sp.0) (at + length s) (view sp.5.2) (omega arith)
    (between_later (λ p. p) (at + length sp.0) (at + length sp.0 + length sp.5.0) (at + length s) (view sp.5.2)
    (omega (arith, lengths s sp.0 sp.1 sp.3, lengths sp.1 sp.5.0 sp.5.1 sp.5.3)) (lies _ _ sp.5.2 sp.5.4)))

-- ---- predicates

field_longer : {X Y : Type 0} (c : ℕ) (w : List ℕ) (value : Rule X) (make : X → Y) (at : ℕ) (s : List ℕ) (y : Y) → (field (c ∷ w) value make).Spells at s y → 1 ≤ length s
unfolding ◌>>=◌
field_longer c w value make at s y sp = omega (arith, lengths s sp.0 sp.1 sp.3, ap length sp.4)

test_longer : (at : ℕ) (s : List ℕ) (t : Test) → test.Spells at s t → 1 ≤ length s
test_longer at s t (inl sp) = field_longer _ _ _ _ at s t sp
test_longer at s t (inr (inl sp)) = field_longer _ _ _ _ at s t sp
test_longer at s t (inr (inr (inl (inl sp)))) = field_longer _ _ _ _ at s t sp
test_longer at s t (inr (inr (inl (inr sp)))) = field_longer _ _ _ _ at s t sp
test_longer at s t (inr (inr (inr (inl sp)))) = field_longer _ _ _ _ at s t sp
test_longer at s t (inr (inr (inr (inr sp)))) = field_longer _ _ _ _ at s t sp

truth_lies : (at : ℕ) (s : List ℕ) (p : Pred) → truth.Spells at s p → Between (λ p. p) at (at + length s) (pred_spans p)
unfolding ◌>>=◌
truth_lies at s p sp = subst (λ (q : Pred). Between (λ p. p) at (at + length s) (pred_spans q)) (sym sp.5.5.1) (omega arith)

tested_lies : (at : ℕ) (s : List ℕ) (p : Pred) → tested.Spells at s p → Between (λ p. p) at (at + length s) (pred_spans p)
unfolding ◌>>=◌
tested_lies at s p sp =
    let longer : 1 ≤ length sp.5.0 = test_longer 0 sp.5.0 sp.5.2 sp.5.4 in
    let whole = lengths s sp.0 sp.1 sp.3 in
    let rest = lengths sp.1 sp.5.0 sp.5.1 sp.5.3 in
    subst (λ (q : Pred). Between (λ p. p) at (at + length s) (pred_spans q)) (sym sp.5.5.5.5.1)
    (omega (arith, sp.4.1), omega (arith, longer, sp.4.1, sp.5.5.4.1, ap length sp.4.0), omega (arith, whole, rest, sp.5.5.4.1, ap length sp.4.0))

module _ (group : Rule Pred) (inner : (at : ℕ) (s : List ℕ) (p : Pred) → group.Spells at s p → Between (λ p. p) at (at + length s) (pred_spans p)) where
  prim_lies : (at : ℕ) (s : List ℕ) (p : Pred) → (prim_with group).Spells at s p → Between (λ p. p) at (at + length s) (pred_spans p)
  prim_lies at s p (inl sp) = truth_lies at s p sp
  prim_lies at s p (inr (inl sp)) = inner at s p sp
  prim_lies at s p (inr (inr sp)) = tested_lies at s p sp

  negation_lies : (at : ℕ) (s : List ℕ) (p : Pred) → (negation group).Spells at s p → Between (λ p. p) at (at + length s) (pred_spans p)
  unfolding ◌>>=◌
  negation_lies at s p sp =
      subst (λ (q : Pred). Between (λ p. p) at (at + length s) (pred_spans q)) (sym sp.5.5.1)
      (between_sooner (λ p. p) at (at + length sp.0) (at + length s) (pred_spans sp.5.2) (omega arith)
      (between_later (λ p. p) (at + length sp.0) (at + length sp.0 + length sp.5.0) (at + length s) (pred_spans sp.5.2)
      (omega (arith, lengths s sp.0 sp.1 sp.3, lengths sp.1 sp.5.0 sp.5.1 sp.5.3)) (prim_lies _ _ sp.5.2 sp.5.4)))

  lit_lies : (at : ℕ) (s : List ℕ) (p : Pred) → (lit_with group).Spells at s p → Between (λ p. p) at (at + length s) (pred_spans p)
  lit_lies at s p (inl sp) = negation_lies at s p sp
  lit_lies at s p (inr sp) = prim_lies at s p sp

  and_lies : (at : ℕ) (s : List ℕ) (p : Pred) → (and_lit group).Spells at s p → Between (λ p. p) at (at + length s) (pred_spans p)
  unfolding ◌>>=◌
  and_lies at s p sp = second_lies pred_spans at s sp.0 sp.1 p sp.3 (lit_lies _ _ p sp.5)

  conj_lies : (at : ℕ) (s : List ℕ) (p : Pred) → (conj_with group).Spells at s p → Between (λ p. p) at (at + length s) (pred_spans p)
  conj_lies = chain_lies pred_spans (lit_with group) And (and_lit group) (λ p q. refl) lit_lies and_lies

  or_lies : (at : ℕ) (s : List ℕ) (p : Pred) → (or_conj group).Spells at s p → Between (λ p. p) at (at + length s) (pred_spans p)
  unfolding ◌>>=◌
  or_lies at s p sp = second_lies pred_spans at s sp.0 sp.1 p sp.3 (conj_lies _ _ p sp.5)

  pred_lies : (at : ℕ) (s : List ℕ) (p : Pred) → (pred_with group).Spells at s p → Between (λ p. p) at (at + length s) (pred_spans p)
  pred_lies = chain_lies pred_spans (conj_with group) Or (or_conj group) (λ p q. refl) conj_lies or_lies

pred_group_lies : (d at : ℕ) (s : List ℕ) (p : Pred) → (pred_group d).Spells at s p → Between (λ p. p) at (at + length s) (pred_spans p)
pred_group_lies zero at s p sp = absurd sp
pred_group_lies (suc d) at s p sp = parens_lie pred_spans (pred_with (pred_group d)) (pred_lies (pred_group d) (pred_group_lies d)) at s p sp

-- ---- policies

-- a part without spans
none_lie : (at : ℕ) (s : List ℕ) (p q : Policy) → p ≡ q → policy_spans q ≡ [] → Between (λ p. p) at (at + length s) (policy_spans p)
none_lie at s p q e f = subst (λ l. Between (λ p. p) at (at + length s) l) (sym (ap policy_spans e ∙ f)) (omega arith)

keyword_lies : (w : List ℕ) (x : Policy) → policy_spans x ≡ [] → (at : ℕ) (s : List ℕ) (p : Policy) → (keyword w x).Spells at s p → Between (λ p. p) at (at + length s) (policy_spans p)
unfolding ◌>>=◌
keyword_lies w x e at s p sp = none_lie at s p x sp.5.5.1 e

fwd_lies : (at : ℕ) (s : List ℕ) (p : Policy) → (fwd at).Spells at s p → Between (λ p. p) at (at + length s) (policy_spans p)
unfolding ◌>>=◌
fwd_lies at s p sp =
    let l0 = lengths s sp.0 sp.1 sp.3 in
    let l1 = lengths sp.1 sp.5.0 sp.5.1 sp.5.3 in
    let l2 = lengths sp.5.1 sp.5.5.0 sp.5.5.1 sp.5.5.3 in
    let l3 = lengths sp.5.5.1 sp.5.5.5.0 sp.5.5.5.1 sp.5.5.5.3 in
    let l4 = lengths sp.5.5.5.1 sp.5.5.5.5.0 sp.5.5.5.5.1 sp.5.5.5.5.3 in
    let l5 = lengths sp.5.5.5.5.1 sp.5.5.5.5.5.0 sp.5.5.5.5.5.1 sp.5.5.5.5.5.3 in
    let first = ap length sp.4 in
    let end = sp.5.5.5.5.5.5.4.1 in
    subst (λ (q : Policy). Between (λ p. p) at (at + length s) (policy_spans q)) (sym sp.5.5.5.5.5.5.5.5.1)
    (omega arith, omega (arith, first, end), omega (arith, l0, l1, l2, l3, l4, l5, end))

modify_lies : (at : ℕ) (s : List ℕ) (p : Policy) → (modify at).Spells at s p → Between (λ p. p) at (at + length s) (policy_spans p)
unfolding ◌>>=◌
modify_lies at s p sp =
    let l0 = lengths s sp.0 sp.1 sp.3 in
    let l1 = lengths sp.1 sp.5.0 sp.5.1 sp.5.3 in
    let l2 = lengths sp.5.1 sp.5.5.0 sp.5.5.1 sp.5.5.3 in
    let l3 = lengths sp.5.5.1 sp.5.5.5.0 sp.5.5.5.1 sp.5.5.5.3 in
    let l4 = lengths sp.5.5.5.1 sp.5.5.5.5.0 sp.5.5.5.5.1 sp.5.5.5.5.3 in
    let l5 = lengths sp.5.5.5.5.1 sp.5.5.5.5.5.0 sp.5.5.5.5.5.1 sp.5.5.5.5.5.3 in
    let first = ap length sp.4 in
    let end = sp.5.5.5.5.5.5.4.1 in
    subst (λ (q : Policy). Between (λ p. p) at (at + length s) (policy_spans q)) (sym sp.5.5.5.5.5.5.5.5.1)
    (omega arith, omega (arith, first, end), omega (arith, l0, l1, l2, l3, l4, l5, end))

match_lies : (d at : ℕ) (s : List ℕ) (p : Policy) → (match_with (pred_group d)).Spells at s p → Between (λ p. p) at (at + length s) (policy_spans p)
unfolding ◌>>=◌
match_lies d at s p sp =
    let l0 = lengths s sp.0 sp.1 sp.3 in
    let l1 = lengths sp.1 sp.5.0 sp.5.1 sp.5.3 in
    let l2 = lengths sp.5.1 sp.5.5.0 sp.5.5.1 sp.5.5.3 in
    let l3 = lengths sp.5.5.1 sp.5.5.5.0 sp.5.5.5.1 sp.5.5.5.3 in
    let inner = pred_lies (pred_group d) (pred_group_lies d) _ _ sp.5.5.5.2 sp.5.5.5.4 in
    subst (λ (q : Policy). Between (λ p. p) at (at + length s) (policy_spans q)) (sym sp.5.5.5.5.5.1)
    (between_sooner (λ p. p) at (at + length sp.0 + length sp.5.0 + length sp.5.5.0) (at + length s) (pred_spans sp.5.5.5.2) (omega arith)
    (between_later (λ p. p) (at + length sp.0 + length sp.5.0 + length sp.5.5.0) (at + length sp.0 + length sp.5.0 + length sp.5.5.0 + length sp.5.5.5.0) (at + length s) (pred_spans sp.5.5.5.2)
    (omega (arith, l0, l1, l2, l3)) inner))

module _ (d : ℕ) (group : Rule Policy) (inner : (at : ℕ) (s : List ℕ) (p : Policy) → group.Spells at s p → Between (λ p. p) at (at + length s) (policy_spans p)) where
  atom_from_lies : (at : ℕ) (s : List ℕ) (p : Policy) → (atom_from (pred_group d) group at).Spells at s p → Between (λ p. p) at (at + length s) (policy_spans p)
  atom_from_lies at s p (inl sp) = keyword_lies (codes "drop") Drop refl at s p sp
  atom_from_lies at s p (inr (inl sp)) = keyword_lies (codes "pass") Pass refl at s p sp
  atom_from_lies at s p (inr (inr (inl sp))) = keyword_lies (codes "block") Block refl at s p sp
  atom_from_lies at s p (inr (inr (inr (inl sp)))) = fwd_lies at s p sp
  atom_from_lies at s p (inr (inr (inr (inr (inl (inl sp)))))) = match_lies d at s p sp
  atom_from_lies at s p (inr (inr (inr (inr (inl (inr sp)))))) = modify_lies at s p sp
  atom_from_lies at s p (inr (inr (inr (inr (inr sp))))) = inner at s p sp

  -- the place spells itself, behind no octet
  placed : (at : ℕ) (s : List ℕ) (p : Policy) (a b : List ℕ) (start : ℕ) → s ≡ a ++ b → a ≡ [] → start ≡ at → (atom_from (pred_group d) group start).Spells (at + length a) b p
      → (atom_from (pred_group d) group at).Spells at s p
  placed at s p a b start e f g sp =
      let same : b ≡ s = sym (e ∙ ap (λ l. l ++ b) f) in
      let here : at + length a ≡ at = omega (arith, ap length f) in
      subst (λ l. (atom_from (pred_group d) group at).Spells at l p) same
      (subst (λ n. (atom_from (pred_group d) group at).Spells n b p) here
      (subst (λ n. (atom_from (pred_group d) group n).Spells (at + length a) b p) g sp))

  atom_lies : (at : ℕ) (s : List ℕ) (p : Policy) → (atom_with (pred_group d) group).Spells at s p → Between (λ p. p) at (at + length s) (policy_spans p)
  unfolding ◌>>=◌
  atom_lies at s p sp = atom_from_lies at s p (placed at s p sp.0 sp.1 sp.2 sp.3 sp.4.0 sp.4.1 sp.5)

  then_lies : (at : ℕ) (s : List ℕ) (p : Policy) → (then_atom (pred_group d) group).Spells at s p → Between (λ p. p) at (at + length s) (policy_spans p)
  unfolding ◌>>=◌
  then_lies at s p sp = second_lies policy_spans at s sp.0 sp.1 p sp.3 (atom_lies _ _ p sp.5)

  chain_lie : (at : ℕ) (s : List ℕ) (p : Policy) → (chain_with (pred_group d) group).Spells at s p → Between (λ p. p) at (at + length s) (policy_spans p)
  chain_lie = chain_lies policy_spans (atom_with (pred_group d) group) Then (then_atom (pred_group d) group) (λ p q. refl) atom_lies then_lies

  plus_lies : (at : ℕ) (s : List ℕ) (p : Policy) → (plus_chain (pred_group d) group).Spells at s p → Between (λ p. p) at (at + length s) (policy_spans p)
  unfolding ◌>>=◌
  plus_lies at s p sp = second_lies policy_spans at s sp.0 sp.1 p sp.3 (chain_lie _ _ p sp.5)

  sum_lies : (at : ℕ) (s : List ℕ) (p : Policy) → (policy_with (pred_group d) group).Spells at s p → Between (λ p. p) at (at + length s) (policy_spans p)
  sum_lies = chain_lies policy_spans (chain_with (pred_group d) group) Both (plus_chain (pred_group d) group) (λ p q. refl) chain_lie plus_lies

policy_group_lies : (d at : ℕ) (s : List ℕ) (p : Policy) → (policy_group d).Spells at s p → Between (λ p. p) at (at + length s) (policy_spans p)
policy_group_lies zero at s p sp = absurd sp
policy_group_lies (suc d) at s p sp = parens_lie policy_spans (policy_with (pred_group d) (policy_group d)) (sum_lies d (policy_group d) (policy_group_lies d)) at s p sp

-- the spans of what a text spells stand one behind another, within the text
pub text_lies : (s : List ℕ) (p : Policy) → SpellsPolicy s p → Between (λ p. p) 0 (length s) (policy_spans p)
unfolding ◌>>=◌
text_lies s p sp =
    between_sooner (λ p. p) 0 (0 + length sp.1.0) (length s) (policy_spans p) (omega arith)
    (between_later (λ p. p) (0 + length sp.1.0) (0 + length sp.1.0 + length sp.1.1) (length s) (policy_spans p) (omega (arith, lengths s sp.1.0 sp.1.1 sp.1.3))
    (sum_lies sp.0 (policy_group sp.0) (policy_group_lies sp.0) _ _ p sp.1.5))
