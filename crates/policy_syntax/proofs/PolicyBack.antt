-- The canonical text of a policy is read as the policy, but for its spans.
use Rattle.std.proofs.Common.{◌≡◌, ℕ, zero, suc, ◌+◌, false, List, [], ◌∷◌, ◌++◌, length, refl, sym, ap, subst, ◌∙◌, append_assoc, arith, inl, inr}
use Rattle.std.specs.Prelude.{codes}
use Rattle.std.specs.Fmt.{decimal}
use Rattle.std.proofs.lemmas.List.{append-nil}
use Rattle.grammar.specs.Rules.{Rule, place, word, ◌>>=◌}
use Rattle.grammar.specs.Octets.{AllPass}
use Rattle.grammar.specs.Tokens.{is_space, number, name, spaces}
use Rattle.net_types.specs.declared.headers.Span.{Span}
use Rattle.net_types.specs.PolicyGrammar.{number_is, span, target, pred_with, pred_group, policy_group, fwd, match_with, modify, atom_from, atom_with, chain_with, policy_with, then_atom, plus_chain}
use Rattle.net_types.specs.declared.headers.Assign.{Assign}
use Rattle.net_types.specs.Policies.{Target, Name, Number, Pred, Policy, Drop, Pass, Block, Fwd, Match, Set, Both, Then}
use Rattle.grammar.specs.Tokens.{parens}
use Rattle.policy_syntax.specs.Canonical.{Level, Loose, Middle, Tight, Single, grouped, target_text, pred_text, assign_text, policy_text}
use Rattle.policy_syntax.specs.ReadsBack.{bare_pred, bare}
use Rattle.policy_syntax.proofs.FittingPolicies.{FitsPred, SoundTarget, FitsPolicy}
use Rattle.policy_syntax.proofs.ReadBack.{both, ended, no_spaces, signed, one_more, alone, decimal_number, Anywhere, word_back, sign_back, one_space, between, pred_back}

target_back : (x : Target) → SoundTarget x → Anywhere target (target_text x) x
target_back (Name n) h at = inl (ended name Name at n n (h, refl))
target_back (Number n) h at = inr (ended (number 1 65279) number_is at (decimal n.0) n.0 (decimal_number 1 65279 n.0 (omega (arith, h.1)) h.0 h.1 at))

abbrev pub policy_rule : Level → ℕ → Rule Policy
policy_rule Loose d = policy_with (pred_group d) (policy_group d)
policy_rule Middle d = chain_with (pred_group d) (policy_group d)
policy_rule Tight d = atom_with (pred_group d) (policy_group d)
policy_rule Single d = atom_with (pred_group d) (policy_group d)

pub record Back (f : Rule Policy) (s : List ℕ) (p : Policy) (at : ℕ) (t : List ℕ) : Type 0 where
  pub found : Policy
  pub spells : f.Spells at (s ++ t) found
  pub alike : bare found ≡ bare p

abbrev pub AllBack : Rule Policy → List ℕ → Policy → Type 0
AllBack f s p = (at : ℕ) (t : List ℕ) → AllPass is_space t → Back f s p at t

from_atom : (level : Level) (d at : ℕ) (s : List ℕ) (q : Policy) → (atom_with (pred_group d) (policy_group d)).Spells at s q → (policy_rule level d).Spells at s q
from_atom Loose d at s q sp = alone _ Both _ at s q (alone _ Then _ at s q sp)
from_atom Middle d at s q sp = alone _ Then _ at s q sp
from_atom Tight d at s q sp = sp
from_atom Single d at s q sp = sp

-- an atom behind its place
placed : (d at : ℕ) (s : List ℕ) (q : Policy) → (atom_from (pred_group d) (policy_group d) at).Spells (at + 0) s q → (atom_with (pred_group d) (policy_group d)).Spells at s q
placed d at s q sp = both place _ at [] s at q (refl, refl) sp

fwd_back : (x : Target) (s : Span) → SoundTarget x → (start at : ℕ) (t : List ℕ) → AllPass is_space t → (e : ℕ) × (fwd start).Spells at (codes "fwd(" ++ (target_text x ++ (codes ")" ++ t))) (Fwd x (span start e))
fwd_back x s h start at t all = (
  _,
  both (word (codes "fwd")) _ at (codes "fwd") _ tt _ refl (no_spaces _ _ _ _ (signed (codes "(") _ _ _ _
      (both target _ _ (target_text x) (codes ")" ++ t) x _ (target_back x h _) (no_spaces _ _ _ _
      (both (word (codes ")")) _ _ (codes ")") t tt _ refl (both place _ _ [] t _ _ (refl, refl) (ended spaces (λ _. Fwd x (span start _)) _ t tt all))))))),
)

match_back : (d : ℕ) (p : Pred) (at : ℕ) (t : List ℕ) → FitsPred d Loose p → AllPass is_space t
    → (q : Pred) × (match_with (pred_group d)).Spells at (codes "match(" ++ (pred_text Loose p ++ (codes ")" ++ t))) (Match q) × (bare_pred q ≡ bare_pred p)
match_back d p at t h all =
    let k = pred_back p Loose d h (at + 5 + 0 + 1) [] tt in
    let sp : (pred_with (pred_group d)).Spells (at + 5 + 0 + 1) (pred_text Loose p) k.found = subst (λ (w : List ℕ). (pred_with (pred_group d)).Spells (at + 5 + 0 + 1) w k.found) (append-nil (pred_text Loose p)) k.spells in (
      k.found,
      both (word (codes "match")) _ at (codes "match") _ tt _ refl (no_spaces _ _ _ _ (signed (codes "(") _ _ _ _
          (both (pred_with (pred_group d)) _ _ (pred_text Loose p) (codes ")" ++ t) k.found _ (subst (λ (n : ℕ). (pred_with (pred_group d)).Spells n (pred_text Loose p) k.found) (omega arith) sp) (sign_back (codes ")") t (Match k.found) _ all)))),
      k.alike,
    )

climb : (f g : Rule Policy) (s : List ℕ) (p : Policy) → ((at : ℕ) (w : List ℕ) (q : Policy) → f.Spells at w q → g.Spells at w q) → AllBack f s p → AllBack g s p
climb f g s p up h at t all = let k = h at t all in record { found = k.found; spells = up at (s ++ t) k.found k.spells; alike = k.alike }

ungrouped_back : (f : Rule Policy) (s : List ℕ) (p : Policy) → AllBack f s p → AllBack f (grouped false s) p
ungrouped_back f s p h = subst (λ (w : List ℕ). AllBack f w p) (sym (append-nil s)) h

-- in parentheses
group_back : (d : ℕ) (level : Level) (s : List ℕ) (p : Policy) → AllBack (policy_rule Loose d) s p → AllBack (policy_rule level (suc d)) (codes "(" ++ (s ++ codes ")")) p
group_back d level s p h at t all =
    let inner = h (at + 0 + 1) [] tt in
    let sp : (policy_rule Loose d).Spells (at + 0 + 1) s inner.found = subst (λ (w : List ℕ). (policy_rule Loose d).Spells (at + 0 + 1) w inner.found) (append-nil s) inner.spells in
    let whole : (parens (policy_with (pred_group d) (policy_group d))).Spells (at + 0) (codes "(" ++ (s ++ (codes ")" ++ t))) inner.found =
    signed (codes "(") _ (at + 0) _ _ (both (policy_with (pred_group d) (policy_group d)) _ (at + 0 + 1) s (codes ")" ++ t) inner.found inner.found sp (sign_back (codes ")") t inner.found _ all)) in
    let placed_group : (atom_with (pred_group (suc d)) (policy_group (suc d))).Spells at (codes "(" ++ (s ++ (codes ")" ++ t))) inner.found = placed (suc d) at _ inner.found (inr (inr (inr (inr (inr whole))))) in
    record {
      found = inner.found;
      spells = from_atom level (suc d) at _ inner.found
          (subst (λ (w : List ℕ). (atom_with (pred_group (suc d)) (policy_group (suc d))).Spells at w inner.found) (ap (λ (w : List ℕ). 40 ∷ w) (sym (append_assoc s (codes ")") t))) placed_group);
      alike = inner.alike;
    }

-- two parts with >> between them
between_two : (a b t : List ℕ) → (a ++ (32 ∷ 62 ∷ 62 ∷ 32 ∷ b)) ++ t ≡ (a ++ (32 ∷ [])) ++ (62 ∷ 62 ∷ 32 ∷ (b ++ t))
between_two a b t = append_assoc a (32 ∷ 62 ∷ 62 ∷ 32 ∷ b) t ∙ sym (append_assoc a (32 ∷ []) (62 ∷ 62 ∷ 32 ∷ (b ++ t)))

then_core : (p q : Policy) (d : ℕ) → AllBack (policy_rule Middle d) (policy_text Middle p) p → AllBack (policy_rule Tight d) (policy_text Tight q) q
    → AllBack (policy_rule Middle d) (policy_text Middle p ++ (codes " >> " ++ policy_text Tight q)) (Then p q)
unfolding ◌>>=◌
then_core p q d hp hq at t all =
    let k = hp at (32 ∷ []) one_space in
    let m = hq (at + length (policy_text Middle p ++ 32 ∷ []) + length (codes ">> ")) t all in
    record {
      found = Then k.found m.found;
      spells = subst (λ (w : List ℕ). (chain_with (pred_group d) (policy_group d)).Spells at w (Then k.found m.found)) (sym (between_two (policy_text Middle p) (policy_text Tight q) t))
          (one_more (atom_with (pred_group d) (policy_group d)) Then (then_atom (pred_group d) (policy_group d)) at (policy_text Middle p ++ 32 ∷ []) (62 ∷ 62 ∷ 32 ∷ (policy_text Tight q ++ t)) k.found m.found k.spells
          (codes ">> ", policy_text Tight q ++ t, tt, refl, (codes ">>", 32 ∷ [], tt, refl, refl, one_space), m.spells));
      alike = ap (λ (x : Policy). Then x (bare m.found)) k.alike ∙ ap (λ (x : Policy). Then (bare p) x) m.alike;
    }

both_core : (p q : Policy) (d : ℕ) → AllBack (policy_rule Loose d) (policy_text Loose p) p → AllBack (policy_rule Middle d) (policy_text Middle q) q
    → AllBack (policy_rule Loose d) (policy_text Loose p ++ (codes " + " ++ policy_text Middle q)) (Both p q)
unfolding ◌>>=◌
both_core p q d hp hq at t all =
    let k = hp at (32 ∷ []) one_space in
    let m = hq (at + length (policy_text Loose p ++ 32 ∷ []) + length (codes "+ ")) t all in
    record {
      found = Both k.found m.found;
      spells = subst (λ (w : List ℕ). (policy_with (pred_group d) (policy_group d)).Spells at w (Both k.found m.found)) (sym (between (policy_text Loose p) (policy_text Middle q) t 43))
          (one_more (chain_with (pred_group d) (policy_group d)) Both (plus_chain (pred_group d) (policy_group d)) at (policy_text Loose p ++ 32 ∷ []) (43 ∷ 32 ∷ (policy_text Middle q ++ t)) k.found m.found k.spells
          (codes "+ ", policy_text Middle q ++ t, tt, refl, (codes "+", 32 ∷ [], tt, refl, refl, one_space), m.spells));
      alike = ap (λ (x : Policy). Both x (bare m.found)) k.alike ∙ ap (λ (x : Policy). Both (bare p) x) m.alike;
    }

-- an atom at any level
atom_back : (s : List ℕ) (p : Policy) (level : Level) (d : ℕ) → AllBack (atom_with (pred_group d) (policy_group d)) s p → AllBack (policy_rule level d) s p
atom_back s p level d h = climb _ _ s p (λ at w q sp. from_atom level d at w q sp) h

-- a modification is read back, for fields of which sound says so
abbrev pub SetsBack : (Assign → Type 0) → Type 0
SetsBack sound = (a : Assign) (s : Span) (start at : ℕ) (t : List ℕ) → sound a → AllPass is_space t → (e : ℕ) × (modify start).Spells at (codes "modify(" ++ (assign_text a ++ (codes ")" ++ t))) (Set a (span start e))

module _ (sound : Assign → Type 0) (sets : SetsBack sound) where
  word_atom : (w : List ℕ) (p : Policy) (d : ℕ) → ((at : ℕ) (t : List ℕ) → AllPass is_space t → (atom_from (pred_group d) (policy_group d) at).Spells (at + 0) (w ++ t) p) → AllBack (atom_with (pred_group d) (policy_group d)) w p
  word_atom w p d h at t all = record { found = p; spells = placed d at (w ++ t) p (h at t all); alike = refl }

  fwd_atom : (x : Target) (s : Span) (d : ℕ) → SoundTarget x → AllBack (atom_with (pred_group d) (policy_group d)) (policy_text Loose (Fwd x s)) (Fwd x s)
  fwd_atom x s d h at t all =
      let k = fwd_back x s h at (at + 0) t all in
      record {
        found = Fwd x (span at k.0);
        spells = placed d at _ _ (inr (inr (inr (inl
            (subst (λ (w : List ℕ). (fwd at).Spells (at + 0) (codes "fwd(" ++ w) (Fwd x (span at k.0))) (sym (append_assoc (target_text x) (codes ")") t)) k.1)))));
        alike = refl;
      }

  match_atom : (p : Pred) (d : ℕ) → FitsPred d Loose p → AllBack (atom_with (pred_group d) (policy_group d)) (policy_text Loose (Match p)) (Match p)
  match_atom p d h at t all =
      let k = match_back d p (at + 0) t h all in
      record {
        found = Match k.0;
        spells = placed d at _ _ (inr (inr (inr (inr (inl (inl
            (subst (λ (w : List ℕ). (match_with (pred_group d)).Spells (at + 0) (codes "match(" ++ w) (Match k.0)) (sym (append_assoc (pred_text Loose p) (codes ")") t)) k.1)))))));
        alike = ap Match k.2;
      }

  set_atom : (a : Assign) (s : Span) (d : ℕ) → sound a → AllBack (atom_with (pred_group d) (policy_group d)) (policy_text Loose (Set a s)) (Set a s)
  set_atom a s d h at t all =
      let k = sets a s at (at + 0) t h all in
      record {
        found = Set a (span at k.0);
        spells = placed d at _ _ (inr (inr (inr (inr (inl (inr
            (subst (λ (w : List ℕ). (modify at).Spells (at + 0) (codes "modify(" ++ w) (Set a (span at k.0))) (sym (append_assoc (assign_text a) (codes ")") t)) k.1)))))));
        alike = refl;
      }

  -- the text of a policy spells it, but for its spans, at each level at which it fits
  pub policy_back : (p : Policy) (level : Level) (d : ℕ) → FitsPolicy sound d level p → AllBack (policy_rule level d) (policy_text level p) p
  policy_back Drop level d h = atom_back _ _ level d (word_atom (codes "drop") Drop d (λ at t all. inl (word_back (codes "drop") t Drop (at + 0) all)))
  policy_back Pass level d h = atom_back _ _ level d (word_atom (codes "pass") Pass d (λ at t all. inr (inl (word_back (codes "pass") t Pass (at + 0) all))))
  policy_back Block level d h = atom_back _ _ level d (word_atom (codes "block") Block d (λ at t all. inr (inr (inl (word_back (codes "block") t Block (at + 0) all)))))
  policy_back (Fwd x s) level d h = atom_back _ _ level d (fwd_atom x s d h)
  policy_back (Match p) level d h = atom_back _ _ level d (match_atom p d h)
  policy_back (Set a s) level d h = atom_back _ _ level d (set_atom a s d h)
  policy_back (Then p q) Loose d h = ungrouped_back _ _ _ (climb _ _ _ (Then p q) (λ at w r sp. alone _ Both _ at w r sp) (then_core p q d (policy_back p Middle d h.0) (policy_back q Tight d h.1)))
  policy_back (Then p q) Middle d h = ungrouped_back _ _ _ (then_core p q d (policy_back p Middle d h.0) (policy_back q Tight d h.1))
  policy_back (Then p q) Tight zero h = absurd h
  policy_back (Then p q) Single zero h = absurd h
  policy_back (Then p q) Tight (suc e) h = group_back e Tight _ (Then p q) (climb _ _ _ (Then p q) (λ at w r sp. alone _ Both _ at w r sp) (then_core p q e (policy_back p Middle e h.0) (policy_back q Tight e h.1)))
  policy_back (Then p q) Single (suc e) h = group_back e Single _ (Then p q) (climb _ _ _ (Then p q) (λ at w r sp. alone _ Both _ at w r sp) (then_core p q e (policy_back p Middle e h.0) (policy_back q Tight e h.1)))
  policy_back (Both p q) Loose d h = ungrouped_back _ _ _ (both_core p q d (policy_back p Loose d h.0) (policy_back q Middle d h.1))
  policy_back (Both p q) Middle zero h = absurd h
  policy_back (Both p q) Tight zero h = absurd h
  policy_back (Both p q) Single zero h = absurd h
  policy_back (Both p q) Middle (suc e) h = group_back e Middle _ (Both p q) (both_core p q e (policy_back p Loose e h.0) (policy_back q Middle e h.1))
  policy_back (Both p q) Tight (suc e) h = group_back e Tight _ (Both p q) (both_core p q e (policy_back p Loose e h.0) (policy_back q Middle e h.1))
  policy_back (Both p q) Single (suc e) h = group_back e Single _ (Both p q) (both_core p q e (policy_back p Loose e h.0) (policy_back q Middle e h.1))
