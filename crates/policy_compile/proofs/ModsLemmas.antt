-- The assignments of a policy's parts, counted.
use Rattle.std.proofs.Common.{◌≡◌, ◌≤◌, ◌<◌, ◌↔◌, Bool, true, false, not, is_some, arith, length, Option, Some, None, MatchOption, List, [], ◌∷◌, ◌++◌, map, refl, inl, inr, sym, ap, ◌∙◌, subst}
use Rattle.std.proofs.lemmas.Bool.{false≢true}
use Rattle.std.proofs.lemmas.List.{length-map}
use Rattle.std.specs.List.{IsDistinct}
use Rattle.std.specs.HashSet.{HashSet}
use Rattle.net_types.specs.declared.headers.Assign.{Assign}
use Rattle.net_types.specs.Headers.{followed_by}
use Rattle.net_types.specs.Sets.{Member, SameMembers, union_over}
use Rattle.net_types.specs.Policies.{Policy, Both, Then, mods}
use Rattle.net_types.specs.Widths.{HasMoreThan, parts, HasManyMods}
use Rattle.net_types.proofs.SetLemmas
use Rattle.net_types.proofs.WidthLemmas.{more_wider, not_more}
use Rattle.policy_compile.specs.declared.fields.Fields.{Fields}
use Rattle.policy_compile.specs.Sets.{same_fields, assign_of, assigns_of, after, followed}
use Rattle.policy_compile.specs.Narrow.{HasFewMods, HasWideMods, IsFewOf, IsModsOf}
use Rattle.policy_compile.proofs.SetsLemmas.{distinct-assigns}
use Rattle.policy_compile.proofs.AtomLemmas.{HasParts}

-- ---- sets of fields

-- more keys than there may be assignments
pub wide-keys : (keys all : List Fields) → IsDistinct same_fields keys → ((f : Fields) → Member f keys → Member f all) → 1024 < length keys → HasMoreThan 1024 (assigns_of all)
wide-keys keys all distinct stand more = record {
  some = assigns_of keys;
  differ = distinct-assigns keys distinct;
  stand = λ x k. let i = SetLemmas.map-Member assign_of keys x k in subst (λ y. Member y (assigns_of all)) (sym i.is) (SetLemmas.Member-map assign_of all i.of (stand i.of i.stands));
  more = omega (arith, more, length-map keys assign_of);
}

pub few-keys : (keys : List Fields) → length keys ≤ 1024 → HasMoreThan 1024 (assigns_of keys) → ⊥
few-keys keys short = not_more 1024 (assigns_of keys) (omega (arith, short, length-map keys assign_of))

-- a set of the members of a list, unless there are too many
pub few-of : {S : Type 0} (found : Option (HashSet Fields S)) (keys : List Fields) (all : List Assign) → SameMembers (assigns_of keys) all → MatchOption found (HasMoreThan 1024 (assigns_of keys)) (λ s. (s.keys ≡ keys) × (HasMoreThan 1024 (assigns_of keys) → ⊥)) → IsFewOf all found
few-of None keys all same m = more_wider 1024 (assigns_of keys) all same.onto m
few-of (Some s) keys all same m = record {
  same = subst (λ ks. SameMembers (assigns_of ks) all) (sym m.0) same;
  few = λ more. m.1 (more_wider 1024 all (assigns_of keys) same.back more);
}

-- ---- parts of policies

pub wide-left : (w p q : Policy) → HasParts w p q → HasWideMods p → HasWideMods w
wide-left w p q e m = record { part = m.part; stands = subst (Member m.part) (sym e) (inr (SetLemmas.Member-append_left (parts p) (parts q) m.part m.stands)); many = m.many }

pub wide-right : (w p q : Policy) → HasParts w p q → HasWideMods q → HasWideMods w
wide-right w p q e m = record { part = m.part; stands = subst (Member m.part) (sym e) (inr (SetLemmas.Member-append_right (parts p) (parts q) m.part m.stands)); many = m.many }

parts-few : {S : Type 0} (w p q : Policy) (all : List Assign) → HasParts w p q → SameMembers all (mods w)
    → ((r : Policy) → Member r (parts p) → HasManyMods r → ⊥) → ((r : Policy) → Member r (parts q) → HasManyMods r → ⊥) → (found : Option (HashSet Fields S)) → IsFewOf all found → IsModsOf w found
parts-few w p q all e same left right None m = record { part = w; stands = subst (Member w) (sym e) (inl refl); many = more_wider 1024 all (mods w) same.onto m }
parts-few w p q all e same left right (Some s) m = record {
  same = SetLemmas.same_trans m.same same;
  few = λ r stands many. elim (subst (Member r) e stands) [
    | inl here ↦ m.few (more_wider 1024 (mods w) all same.back (subst HasManyMods here many))
    | inr below ↦ elim (SetLemmas.Member-append_cases (parts p) (parts q) r below) [ inl k ↦ left r k many | inr k ↦ right r k many ]
  ];
}

pub both-few : {S : Type 0} (p q : Policy) (ks ls : List Fields) → HasFewMods p (assigns_of ks) → HasFewMods q (assigns_of ls) → (found : Option (HashSet Fields S)) → IsFewOf (assigns_of ks ++ assigns_of ls) found → IsModsOf (Both p q) found
both-few p q ks ls f g found m = parts-few (Both p q) p q (assigns_of ks ++ assigns_of ls) refl (SetLemmas.same_append f.same g.same) f.few g.few found m

-- the assignments of a chain of fields are those of the chain of assignments
after-assigns : (f : Fields) (ls : List Fields) → assigns_of (map (after f) ls) ≡ map (λ next. followed_by (assign_of f) next) (assigns_of ls)
after-assigns f [] = refl
after-assigns f (l ∷ ls) = ap (λ rest. followed_by (assign_of f) (assign_of l) ∷ rest) (after-assigns f ls)

followed-assigns : (ks ls : List Fields) → assigns_of (followed ks ls) ≡ union_over (λ first. map (λ next. followed_by first next) (assigns_of ls)) (assigns_of ks)
followed-assigns [] ls = refl
followed-assigns (k ∷ ks) ls = SetLemmas.map-append assign_of (map (after k) ls) (followed ks ls) ∙ ap (λ rest. assigns_of (map (after k) ls) ++ rest) (followed-assigns ks ls) ∙ ap (λ first. first ++ union_over (λ first. map (λ next. followed_by first next) (assigns_of ls)) (assigns_of ks)) (after-assigns k ls)

pub then-few : {S : Type 0} (p q : Policy) (ks ls : List Fields) → HasFewMods p (assigns_of ks) → HasFewMods q (assigns_of ls) → (found : Option (HashSet Fields S)) → IsFewOf (assigns_of (followed ks ls)) found → IsModsOf (Then p q) found
then-few p q ks ls f g found m =
    parts-few (Then p q) p q (assigns_of (followed ks ls)) refl
    (SetLemmas.same_trans (SetLemmas.same_eq (followed-assigns ks ls))
    (SetLemmas.same_union (λ first. map (λ next. followed_by first next) (assigns_of ls)) (λ first. map (λ next. followed_by first next) (mods q)) f.same (λ first. SetLemmas.same_map (λ next. followed_by first next) g.same)))
    f.few g.few found m

-- a policy that has one path and no parts
pub only-few : (p : Policy) (set : Assign) (keys : List Fields) → assigns_of keys ≡ set ∷ [] → mods p ≡ set ∷ [] → parts p ≡ p ∷ [] → HasFewMods p (assigns_of keys)
only-few p set keys is one none = record {
  same = SetLemmas.same_eq (is ∙ sym one);
  few = λ r stands many. elim (subst (Member r) none stands) [
    | inl here ↦ not_more 1024 (set ∷ []) (omega arith) (subst (λ ms. HasMoreThan 1024 ms) one (subst HasManyMods here many))
    | inr nothing ↦ elim nothing [ ]
  ];
}

-- whether they were found says whether some part has too many
pub mods-decided : {S : Type 0} (p : Policy) (found : Option (HashSet Fields S)) → IsModsOf p found → (lost : Bool) → is_some found ≡ not lost → (lost ≡ true) ↔ HasWideMods p
mods-decided p None m true e = (λ _. m, λ _. refl)
mods-decided p None m false e = absurd (false≢true e)
mods-decided p (Some s) f true e = absurd (false≢true (sym e))
mods-decided p (Some s) f false e = (λ t. absurd (false≢true t), λ m. absurd (f.few m.part m.stands m.many))
