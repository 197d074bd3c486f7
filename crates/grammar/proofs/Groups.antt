-- Groups, of which no more than a given number may be open at once, are read exactly.
use Rattle.std.proofs.Common.{◌≡◌, ℕ, zero, suc, ◌+◌, ◌-◌, ◌≤◌, Bool, true, false, List, [], ◌∷◌, ◌++◌, length, Ok, Err, refl, sym, ap, subst, ◌∙◌, arith, inl, inr, eqb}
use Rattle.std.specs.Prelude.{◌⊎◌, codes}
use Rattle.std.proofs.lemmas.Bool.{cond_both, eqb-true, or_cases}
use Rattle.grammar.specs.Octets.{Follows, IsLonger, StartsAs, among}
use Rattle.grammar.specs.Rules.{Rule, never, ◌>>=◌}
use Rattle.grammar.specs.Tokens.{parens}
use Rattle.grammar.specs.TokenReading.{read_parens, read_too_deep}
use Rattle.grammar.specs.TextReading.{Deep, Fault, Read, Reader, Wrong}
use Rattle.grammar.specs.Exactness.{Covers, Deeper, Family, Holds, IsExact, ReadsExactly, Stops}
use Rattle.grammar.proofs.Lists.{no_longer, never_empty}
use Rattle.grammar.proofs.OctetKinds.{Within, all_pass, besides, besides_apart, besides_rest, other_kind}
use Rattle.grammar.proofs.Firsts.{Heads, headed}
use Rattle.grammar.proofs.Exact.{both_exact, both_heads}
use Rattle.grammar.proofs.Nothing.{pure_exact, pure_leads}
use Rattle.grammar.proofs.Same.{Same, same_exact, same_heads}
use Rattle.grammar.proofs.Spaces.{no_space, sign_heads, sign_then}
use Rattle.grammar.proofs.Starts.{StartsIn}

-- no group where none may be open, and else one whose inside may have one group fewer
abbrev pub deeper_of : {X : Type 0} → Family X → Family X
deeper_of f zero = never
deeper_of f (suc e) = f e

abbrev pub is_open : ℕ → Bool
is_open = among (40 ∷ [])

module _ {X : Type 0} (f : Family X) (follow : ℕ → Bool) where
  pub deeper_heads : Heads f is_open → Heads (deeper_of f) is_open
  deeper_heads h = record { spells = λ e at s x sp. spelt e at s x sp; begins = λ e at s b. begun e at s b }
    where
      spelt : (e at : ℕ) (s : List ℕ) (x : X) → (deeper_of f e).Spells at s x → StartsIn is_open s
      spelt zero at s x sp = absurd sp
      spelt (suc e) at s x sp = h.spells e at s x sp

      begun : (e at : ℕ) (s : List ℕ) → (deeper_of f e).Begins at s → Follows is_open s
      begun zero at s b = subst (Follows is_open) (sym b) tt
      begun (suc e) at s b = h.begins e at s b

  -- inside a group
  inside_holds : (d at : ℕ) (s : List ℕ) (read : Read X) → Holds f d follow at s read → Holds (deeper_of f) (suc d) follow at s read
  inside_holds d at s (Ok r) k = record {
    front = k.front;
    parts = k.parts;
    spells = λ e le. spelt e le;
    begins = λ e le. begun_ok e le;
    only = λ e a n n' y st sp fol eq. only_case e a n n' y st sp fol eq;
    ends = λ e n st lo b. ends_case e n st lo b;
  }
    where
      spelt : (e : ℕ) → suc d ≤ e → (deeper_of f e).Spells at k.front r.0
      spelt zero le = absurd (omega arith)
      spelt (suc e) le = k.spells e (omega arith)

      begun_ok : (e : ℕ) → suc d ≤ e → (deeper_of f e).Begins at k.front
      begun_ok zero le = absurd (omega arith)
      begun_ok (suc e) le = k.begins e (omega arith)

      only_case : (e : ℕ) (a n n' : List ℕ) (y : X) → StartsAs r.1 n → (deeper_of f e).Spells at a y → Follows follow n' → a ++ n' ≡ k.front ++ n → (a ≡ k.front) × (n' ≡ n) × (y ≡ r.0)
      only_case zero a n n' y st sp fol eq = absurd sp
      only_case (suc e) a n n' y st sp fol eq = k.only e a n n' y st sp fol eq

      ends_case : (e : ℕ) (n : List ℕ) → StartsAs r.1 n → IsLonger n → (deeper_of f e).Begins at (k.front ++ n) → ⊥
      ends_case zero n st lo b = never_empty k.front n lo b
      ends_case (suc e) n st lo b = k.ends e n st lo b
  inside_holds d at s (Err fault) k = record {
    front = k.front;
    back = k.back;
    parts = k.parts;
    place = k.place;
    begins = λ e le. begun e le;
    ends = λ e cov n st lo b. ends_case e cov n st lo b;
    none = λ e cov a n n' y st sp fol eq. none_case e cov a n n' y st sp fol eq;
    deeper = deeper_case fault k.deeper;
  }
    where
      fewer : (fault : Fault) (e : ℕ) → Covers fault (suc d) (suc e) → Covers fault d e
      fewer (Wrong p) e cov = tt
      fewer (Deep p) e cov = omega arith

      deeper_case : (fault : Fault) → Deeper f d at k.front k.back fault → Deeper (deeper_of f) (suc d) at k.front k.back fault
      deeper_case (Wrong p) h = tt
      deeper_case (Deep p) h = (h.0, h.1, h.2)

      begun : (e : ℕ) → suc d ≤ e → (deeper_of f e).Begins at k.front
      begun zero le = absurd (omega arith)
      begun (suc e) le = k.begins e (omega arith)

      ends_case : (e : ℕ) → Covers fault (suc d) e → (n : List ℕ) → StartsAs k.back n → IsLonger n → (deeper_of f e).Begins at (k.front ++ n) → ⊥
      ends_case zero cov n st lo b = never_empty k.front n lo b
      ends_case (suc e) cov n st lo b = k.ends e (fewer fault e cov) n st lo b

      none_case : (e : ℕ) → Covers fault (suc d) e → (a n n' : List ℕ) (y : X) → StartsAs k.back n → (deeper_of f e).Spells at a y → Follows follow n' → a ++ n' ≡ k.front ++ n → ⊥
      none_case zero cov a n n' y st sp fol eq = sp
      none_case (suc e) cov a n n' y st sp fol eq = k.none e (fewer fault e cov) a n n' y st sp fol eq

  pub inside : (d : ℕ) (reader : Reader X) → IsExact f d follow reader → IsExact (deeper_of f) (suc d) follow reader
  inside d reader exact = record { reads = λ at s. inside_holds d at s (reader (at + length s) s) (exact.reads at s) }

  -- where no group may be opened
  module _ (heads : Heads f is_open) (opens : (e at : ℕ) → (f e).Begins at (40 ∷ [])) (empty : (e at : ℕ) → (f e).Begins at []) where
    begun_here : (e at : ℕ) → (deeper_of f e).Begins at []
    begun_here zero at = refl
    begun_here (suc e) at = empty e at

    -- nothing of a group stands where s doesn't open one
    wrong_here : (at p : ℕ) (s : List ℕ) → p ≡ at → Follows (besides (40 ∷ [])) s → Stops (deeper_of f) 0 follow at s (Wrong p)
    wrong_here at p s e fol = record {
      front = [];
      back = s;
      parts = refl;
      place = omega arith;
      begins = λ e le. begun_here e at;
      ends = λ e cov n st lo b. not_begun n st lo ((deeper_heads heads).begins e at n b);
      none = λ e cov a n n' y st sp fo eq. other_kind (besides (40 ∷ [])) is_open (λ c h k. besides_apart (40 ∷ []) c k h) s n a n' fol st eq ((deeper_heads heads).spells e at a y sp);
      deeper = tt;
    }
      where
        not_begun_at : (s n : List ℕ) → Follows (besides (40 ∷ [])) s → StartsAs s n → IsLonger n → Follows is_open n → ⊥
        not_begun_at s [] fol st lo h = lo
        not_begun_at [] (c ∷ n) fol st lo h = st
        not_begun_at (b ∷ s) (c ∷ n) fol st lo h = besides_apart (40 ∷ []) c h (ap (besides (40 ∷ [])) (sym st) ∙ fol)

        not_begun : (n : List ℕ) → StartsAs s n → IsLonger n → Follows is_open n → ⊥
        not_begun n st lo h = not_begun_at s n fol st lo h

    deep_here : (at p c : ℕ) (s : List ℕ) → p ≡ at → is_open c ≡ true → Stops (deeper_of f) 0 follow at (c ∷ s) (Deep p)
    deep_here at p c s e t = record {
      front = [];
      back = c ∷ s;
      parts = refl;
      place = omega arith;
      begins = λ e le. begun_here e at;
      ends = λ e cov n st lo b. ends_case e cov n lo b;
      none = λ e cov a n n' y st sp fol eq. none_case e cov a y sp;
      deeper = (s, ap (λ (b : ℕ). b ∷ s) (opened c t), opens 0 at);
    }
      where
        opened : (c : ℕ) → is_open c ≡ true → c ≡ 40
        opened c t = go (or_cases (eqb c 40) false t)
          where
            go : (eqb c 40 ≡ true) ⊎ (false ≡ true) → c ≡ 40
            go (inl e) = eqb-true c 40 e
            go (inr e) = absurd cc

        ends_case : (e : ℕ) → e ≤ 0 → (n : List ℕ) → IsLonger n → (deeper_of f e).Begins at n → ⊥
        ends_case zero cov n lo b = no_longer n b lo
        ends_case (suc e) cov n lo b = omega arith

        none_case : (e : ℕ) → e ≤ 0 → (a : List ℕ) (y : X) → (deeper_of f e).Spells at a y → ⊥
        none_case zero cov a y sp = sp
        none_case (suc e) cov a y sp = omega arith

    too_deep_holds : ReadsExactly (deeper_of f) 0 follow read_too_deep
    unfolding read_too_deep
    too_deep_holds at [] = wrong_here at (at + 0) [] (omega arith) tt
    too_deep_holds at (c ∷ s) =
        cond_both (is_open c) (Err (Deep ((at + length (c ∷ s)) - length (c ∷ s)))) (Err (Wrong ((at + length (c ∷ s)) - length (c ∷ s)))) (λ (r : Read X). Holds (deeper_of f) 0 follow at (c ∷ s) r)
        (λ t. deep_here at ((at + length (c ∷ s)) - length (c ∷ s)) c s (omega arith) t)
        (λ t. wrong_here at ((at + length (c ∷ s)) - length (c ∷ s)) (c ∷ s) (omega arith) (besides_rest (40 ∷ []) c t))

    pub too_deep_exact : IsExact (deeper_of f) 0 follow read_too_deep
    too_deep_exact = record { reads = too_deep_holds }

pub parens_heads : {X : Type 0} (f : Family X) → Heads (λ e. parens (f e)) is_open
parens_heads f = sign_heads 40 [] _ is_open refl

-- a rule in parentheses, behind which spaces may stand
pub parens_exact : {X : Type 0} (f : Family X) (xs : List ℕ) (d : ℕ) (follow : ℕ → Bool) (rf : Reader X) → all_pass no_space xs ≡ true → Within follow no_space → Heads f (among xs) → IsExact f d (among (codes ")")) rf
    → IsExact (λ e. parens (f e)) d follow (read_parens rf)
unfolding read_parens
parens_exact f xs d follow rf firsts w heads exact =
    sign_then (codes "(") _ d follow _ (headed _ xs follow no_space firsts (both_heads f _ (among xs) heads))
    (both_exact f _ d (among (codes ")")) follow (λ x. headed _ (codes ")") follow (among (codes ")")) refl (sign_heads 41 [] _ (among (codes ")")) refl)) _ _
    exact (λ x. sign_then (codes ")") _ d follow _ (pure_leads x follow no_space w) (pure_exact x d follow)))

pub parens_opens : {X : Type 0} (f : Rule X) (at : ℕ) → (parens f).Begins at (40 ∷ [])
unfolding ◌>>=◌
parens_opens f at = inl (inl ([], refl))

pub parens_empty : {X : Type 0} (f : Rule X) (at : ℕ) → (parens f).Begins at []
unfolding ◌>>=◌
parens_empty f at = inl (inl (40 ∷ [], refl))

-- ---- a rule that is given by the number of groups

-- A rule that is none where no group may be open, and else a group of what may have one group fewer.
module _ {X : Type 0} (f inner : Family X) (none : f zero ≡ never) (group : (e : ℕ) → f (suc e) ≡ parens (inner e)) where
  in_group : Family X
  in_group e = parens (inner e)

  groups_same : Same (deeper_of in_group) f
  unfolding in_group
  groups_same = record { spells = λ e at s x h. a e at s x h; spells_back = λ e at s x h. b e at s x h; begins = λ e at s h. c e at s h; begins_back = λ e at s h. d e at s h }
    where
      a : (e at : ℕ) (s : List ℕ) (x : X) → (deeper_of in_group e).Spells at s x → (f e).Spells at s x
      a zero at s x h = absurd h
      a (suc e) at s x h = subst (λ (r : Rule X). r.Spells at s x) (sym (group e)) h

      b : (e at : ℕ) (s : List ℕ) (x : X) → (f e).Spells at s x → (deeper_of in_group e).Spells at s x
      b zero at s x h = subst (λ (r : Rule X). r.Spells at s x) none h
      b (suc e) at s x h = subst (λ (r : Rule X). r.Spells at s x) (group e) h

      c : (e at : ℕ) (s : List ℕ) → (deeper_of in_group e).Begins at s → (f e).Begins at s
      c zero at s h = subst (λ (r : Rule X). r.Begins at s) (sym none) h
      c (suc e) at s h = subst (λ (r : Rule X). r.Begins at s) (sym (group e)) h

      d : (e at : ℕ) (s : List ℕ) → (f e).Begins at s → (deeper_of in_group e).Begins at s
      d zero at s h = subst (λ (r : Rule X). r.Begins at s) none h
      d (suc e) at s h = subst (λ (r : Rule X). r.Begins at s) (group e) h

  -- It begins with an opening parenthesis.
  pub groups_heads : Heads f is_open
  unfolding in_group
  groups_heads = same_heads _ _ is_open groups_same (deeper_heads in_group is_open (parens_heads inner))

  -- It is read exactly, where what stands in a group is read exactly once the groups in it are.
  pub groups_exact : (xs : List ℕ) (follow : ℕ → Bool) (rf ri : ℕ → Reader X) → rf zero ≡ read_too_deep → ((d : ℕ) → rf (suc d) ≡ read_parens (ri d))
      → all_pass no_space xs ≡ true → Within follow no_space → Heads inner (among xs) → ((d : ℕ) → IsExact f d follow (rf d) → IsExact inner d (among (codes ")")) (ri d))
      → (d : ℕ) → IsExact f d follow (rf d)
  unfolding in_group
  groups_exact xs follow rf ri too_deep reads firsts w heads step zero =
      subst (λ (r : Reader X). IsExact f 0 follow r) (sym too_deep)
      (same_exact _ _ 0 follow _ groups_same (too_deep_exact in_group follow (parens_heads inner) (λ e at. parens_opens (inner e) at) (λ e at. parens_empty (inner e) at)))
  groups_exact xs follow rf ri too_deep reads firsts w heads step (suc d) =
      subst (λ (r : Reader X). IsExact f (suc d) follow r) (sym (reads d))
      (same_exact _ _ (suc d) follow _ groups_same (inside in_group follow d _ (parens_exact inner xs d follow _ firsts w heads (step d (groups_exact xs follow rf ri too_deep reads firsts w heads step d)))))
