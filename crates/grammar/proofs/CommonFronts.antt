-- Words that begin alike: their common front is read once.
use Rattle.std.proofs.Common.{◌≡◌, ℕ, ◌+◌, List, [], ◌∷◌, ◌++◌, length, refl, sym, ap, subst, ◌∙◌, append_assoc, arith, inl, inr}
use Rattle.std.specs.Prelude.{◌⊎◌}
use Rattle.std.proofs.lemmas.List.{append-nil, length-append}
use Rattle.grammar.specs.Rules.{word, ◌>>=◌}
use Rattle.grammar.specs.Exactness.{Family}
use Rattle.grammar.proofs.Lists.{GoesOn, fronts}
use Rattle.grammar.proofs.Exact.{both}
use Rattle.grammar.proofs.Choices.{one_of}
use Rattle.grammar.proofs.Same.{Same, Same-trans}

-- a word and then a rule
abbrev pub after : {X : Type 0} → List ℕ → Family X → Family X
after w f = both (λ e. word w) (λ _. f)

sum_map : {A B C D : Type 0} → (A → C) → (B → D) → A ⊎ B → C ⊎ D
sum_map f g (inl a) = inl (f a)
sum_map f g (inr b) = inr (g b)

pub Same-one_of : {X : Type 0} (f f' g g' : Family X) → Same f f' → Same g g' → Same (one_of f g) (one_of f' g')
Same-one_of f f' g g' p q = record {
  spells = λ e at s x k. sum_map (p.spells e at s x) (q.spells e at s x) k;
  spells_back = λ e at s x k. sum_map (p.spells_back e at s x) (q.spells_back e at s x) k;
  begins = λ e at s k. sum_map (p.begins e at s) (q.begins e at s) k;
  begins_back = λ e at s k. sum_map (p.begins_back e at s) (q.begins_back e at s) k;
}

-- a word in two parts
pub split_word : {X : Type 0} (p u : List ℕ) (f : Family X) → Same (after p (after u f)) (after (p ++ u) f)
unfolding ◌>>=◌
split_word {X} p u f = record {
  spells = λ e at s x k.
      (p ++ u, k.5.1, tt, whole s k.0 k.1 k.5.0 k.5.1 k.3 k.4 k.5.3 k.5.4, refl, subst (λ (n : ℕ). (f e).Spells n k.5.1 x) (place at k.0 k.5.0 k.4 k.5.4) k.5.5);
  spells_back = λ e at s x k. (
    p,
    u ++ k.1,
    tt,
    k.3 ∙ ap (λ (w : List ℕ). w ++ k.1) k.4 ∙ append_assoc p u k.1,
    refl,
    (u, k.1, tt, refl, refl, subst (λ (n : ℕ). (f e).Spells n k.1 x) (place_back at k.0 k.4) k.5),
  );
  begins = λ e at s k. there e at s k;
  begins_back = λ e at s k. back e at s k;
}
  where
    whole : (s a b a' b' : List ℕ) → s ≡ a ++ b → a ≡ p → b ≡ a' ++ b' → a' ≡ u → s ≡ (p ++ u) ++ b'
    whole s a b a' b' e f g h =
        e ∙ ap (λ (w : List ℕ). w ++ b) f ∙ ap (λ (w : List ℕ). p ++ w) (g ∙ ap (λ (w : List ℕ). w ++ b') h) ∙ sym (append_assoc p u b')

    place : (at : ℕ) (a b : List ℕ) → a ≡ p → b ≡ u → at + length a + length b ≡ at + length (p ++ u)
    place at a b e f = omega (arith, ap length e, ap length f, length-append p u)

    place_back : (at : ℕ) (a : List ℕ) → a ≡ p ++ u → at + length a ≡ at + length p + length u
    place_back at a e = omega (arith, ap length e, length-append p u)

    there : (e at : ℕ) (s : List ℕ) → (after p (after u f) e).Begins at s → (after (p ++ u) f e).Begins at s
    there e at s (inl b) = inl (b.0 ++ u, ap (λ (w : List ℕ). w ++ u) b.1 ∙ append_assoc s b.0 u)
    there e at s (inr k) = inner k.5
      where
        inner : (after u f e).Begins (at + length k.0) k.1 → (after (p ++ u) f e).Begins at s
        inner (inl b) = inl (b.0, ap (λ (w : List ℕ). p ++ w) b.1 ∙ sym (append_assoc p k.1 b.0) ∙ ap (λ (w : List ℕ). w ++ b.0) (ap (λ (w : List ℕ). w ++ k.1) (sym k.4) ∙ sym k.3))
        inner (inr m) = inr (p ++ u, m.1, tt, whole s k.0 k.1 m.0 m.1 k.3 k.4 m.3 m.4, refl, subst (λ (n : ℕ). (f e).Begins n m.1) (place at k.0 m.0 k.4 m.4) m.5)

    back : (e at : ℕ) (s : List ℕ) → (after (p ++ u) f e).Begins at s → (after p (after u f) e).Begins at s
    back e at s (inr k) =
        inr (
          p,
          u ++ k.1,
          tt,
          k.3 ∙ ap (λ (w : List ℕ). w ++ k.1) k.4 ∙ append_assoc p u k.1,
          refl,
          inr (u, k.1, tt, refl, refl, subst (λ (n : ℕ). (f e).Begins n k.1) (place_back at k.0 k.4) k.5),
        )
    back e at s (inl b) = go (fronts p s b.0 u b.1)
      where
        go : ((p ≡ s) × (u ≡ b.0)) ⊎ (GoesOn p s b.0 u ⊎ GoesOn s p u b.0) → (after p (after u f) e).Begins at s
        go (inl k) = inl ([], k.0 ∙ sym (append-nil s))
        go (inr (inl g)) = inl (g.octet ∷ g.more, g.longer)
        go (inr (inr g)) = inr (p, g.octet ∷ g.more, tt, g.longer, refl, inl (b.0, g.rest))

-- a word before a choice
pub spread : {X : Type 0} (w : List ℕ) (f g : Family X) → Same (after w (one_of f g)) (one_of (after w f) (after w g))
unfolding ◌>>=◌
spread {X} w f g = record {
  spells = λ e at s x k. sum_map (λ h. (k.0, k.1, k.2, k.3, k.4, h)) (λ h. (k.0, k.1, k.2, k.3, k.4, h)) k.5;
  spells_back = λ e at s x k. joined e at s x k;
  begins = λ e at s k. begun e at s k;
  begins_back = λ e at s k. begun_back e at s k;
}
  where
    joined : (e at : ℕ) (s : List ℕ) (x : X) → (after w f e).Spells at s x ⊎ (after w g e).Spells at s x → (after w (one_of f g) e).Spells at s x
    joined e at s x (inl k) = (k.0, k.1, k.2, k.3, k.4, inl k.5)
    joined e at s x (inr k) = (k.0, k.1, k.2, k.3, k.4, inr k.5)

    begun : (e at : ℕ) (s : List ℕ) → (after w (one_of f g) e).Begins at s → (after w f e).Begins at s ⊎ (after w g e).Begins at s
    begun e at s (inl b) = inl (inl b)
    begun e at s (inr k) = sum_map (λ h. inr (k.0, k.1, k.2, k.3, k.4, h)) (λ h. inr (k.0, k.1, k.2, k.3, k.4, h)) k.5

    begun_back : (e at : ℕ) (s : List ℕ) → (after w f e).Begins at s ⊎ (after w g e).Begins at s → (after w (one_of f g) e).Begins at s
    begun_back e at s (inl (inl b)) = inl b
    begun_back e at s (inr (inl b)) = inl b
    begun_back e at s (inl (inr k)) = inr (k.0, k.1, k.2, k.3, k.4, inl k.5)
    begun_back e at s (inr (inr k)) = inr (k.0, k.1, k.2, k.3, k.4, inr k.5)

-- two words with a common front
pub common_front : {X : Type 0} (p u v : List ℕ) (f g : Family X) → Same (after p (one_of (after u f) (after v g))) (one_of (after (p ++ u) f) (after (p ++ v) g))
common_front p u v f g =
    Same-trans (after p (one_of (after u f) (after v g))) (one_of (after p (after u f)) (after p (after v g))) (one_of (after (p ++ u) f) (after (p ++ v) g))
    (spread p (after u f) (after v g))
    (Same-one_of (after p (after u f)) (after (p ++ u) f) (after p (after v g)) (after (p ++ v) g) (split_word p u f) (split_word p v g))
