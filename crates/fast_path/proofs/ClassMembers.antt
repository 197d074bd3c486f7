-- The classes of fresh tags, and what they become by one more change.
use Rattle.std.proofs.Common.{◌≡◌, ℕ, zero, suc, ◌<◌, ◌≤◌, Bool, true, false, cond, List, [], ◌∷◌, ◌++◌, length, map, drop, take, sym, ap, ◌∙◌, refl, arith, inl, inr}
use Rattle.std.specs.Prelude.{Some, None, find, slice_index_or, slice_set}
use Rattle.std.specs.Ordering.{is_eq, is_lt}
use Rattle.std.specs.declared.cmp.Ordering.TheVariants.{Equal}
use Rattle.std.proofs.lemmas.Bool.{false_from_ne_true, false≢true}
use Rattle.std.proofs.lemmas.Cmp.{tied_itself}
use Rattle.std.proofs.lemmas.List.{append-nil, drop_all, take_all}
use Rattle.events.specs.Tags.{same_tag}
use Rattle.events.specs.declared.TagChange.{TagChange}
use Rattle.exchange_laws.proofs.Sames.{tag_itself, tag_same}
use Rattle.fast_path.specs.Building.{AreInOrder, is_class_of}
use Rattle.fast_path.specs.Committing.{Kept, class_of, classes_of, gives, members_of}
use Rattle.fast_path.specs.Members.{joined}
use Rattle.fast_path.specs.declared.planned.Class.{Class}
use Rattle.net_types.proofs.MemberLemmas.{Member-at}
use Rattle.net_types.proofs.OrderLemmas.{tags_total}
use Rattle.net_types.specs.Attributes.{same_option}
use Rattle.net_types.specs.Keys.{tag_cmp}
use Rattle.net_types.specs.Sets.{Member}
use Rattle.net_types.specs.declared.address.Tag.{Tag}
use Rattle.net_types.specs.declared.prefix.Prefix.{Prefix}
use Rattle.net_types.proofs.TieLemmas.{tag_tie}

-- a list that was written in the place of one that was as long
pub written : (n : ℕ) (xs ys : List Class) → length ys ≡ length xs → n ≡ length xs → take n (ys ++ drop (length ys) xs) ≡ ys
written n xs ys long all =
    let past : length xs ≤ length ys = omega arith in
    let fits : length ys ≤ n = omega arith in
    ap (λ zs. take n (ys ++ zs)) (drop_all (length ys) xs past) ∙ ap (take n) (append-nil ys) ∙ take_all n ys fits

-- ---- one more change

members_more : (cs : List TagChange) (c : TagChange) (t : Tag) → members_of (cs ++ c ∷ []) t ≡ cond (gives t c) (members_of cs t ++ c.prefix ∷ []) (members_of cs t)
members_more [] c t = refl
members_more (d ∷ cs) c t = by (gives t d) (gives t c) (members_of (cs ++ c ∷ []) t) (members_of cs t) (members_more cs c t)
  where
    by : (b e : Bool) (more ps : List Prefix) → more ≡ cond e (ps ++ c.prefix ∷ []) ps → cond b (d.prefix ∷ more) more ≡ cond e (cond b (d.prefix ∷ ps) ps ++ c.prefix ∷ []) (cond b (d.prefix ∷ ps) ps)
    by true true more ps is = ap (λ qs. d.prefix ∷ qs) is
    by true false more ps is = ap (λ qs. d.prefix ∷ qs) is
    by false true more ps is = is
    by false false more ps is = is

class_more : (cs : List TagChange) (c : TagChange) (k : Kept) → class_of (cs ++ c ∷ []) k ≡ joined c (class_of cs k)
class_more cs c k =
    ap (λ ps. let made : Class = record { tag = k.0; sig = k.1; members = ps } in made) (members_more cs c k.0)
    ∙ by (gives k.0 c)
  where
    by : (b : Bool) → (let made : Class = record { tag = k.0; sig = k.1; members = cond b (members_of cs k.0 ++ c.prefix ∷ []) (members_of cs k.0) } in made) ≡ cond b (record { tag = k.0; sig = k.1; members = members_of cs k.0 ++ c.prefix ∷ [] }) (record { tag = k.0; sig = k.1; members = members_of cs k.0 })
    by true = refl
    by false = refl

-- each class with the prefix of one more change, where it gives the class's tag
pub classes_more : (cs : List TagChange) (c : TagChange) (ks : List Kept) → classes_of (cs ++ c ∷ []) ks ≡ map (joined c) (classes_of cs ks)
classes_more cs c [] = refl
classes_more cs c (k ∷ ks) = λ i. class_more cs c k i ∷ classes_more cs c ks i

-- ---- the class that a change joins

before_differs : (a b : Tag) → is_lt (tag_cmp a b) ≡ true → same_tag a b ≡ false
before_differs a b less = false_from_ne_true (same_tag a b) (λ is. false≢true (sym (ap is_lt (ap (tag_cmp a) (sym (tag_same a b is)) ∙ tied_itself tags_total a)) ∙ less))

after_differs : (a b : Tag) → is_lt (tag_cmp a b) ≡ true → same_tag b a ≡ false
after_differs a b less = false_from_ne_true (same_tag b a) (λ is. false≢true (sym (ap is_lt (ap (tag_cmp a) (tag_same b a is) ∙ tied_itself tags_total a)) ∙ less))

module _ (c : TagChange) where
  stays : (k : Class) → gives k.tag c ≡ false → joined c k ≡ k
  stays k other = ap (λ b. cond b (record k { members = k.members ++ c.prefix ∷ [] }) k) other

  -- a change that gives no tag
  pub none_join : c.tag ≡ None → (ks : List Class) → map (joined c) ks ≡ ks
  none_join none [] = refl
  none_join none (k ∷ ks) = λ i. stays k (ap (λ o. same_option same_tag o (Some k.tag)) none) i ∷ none_join none ks i

  module _ (t : Tag) (gets : c.tag ≡ Some t) where
    gives_as : (k : Class) → gives k.tag c ≡ same_tag t k.tag
    gives_as k = ap (λ o. same_option same_tag o (Some k.tag)) gets

    -- a change that gives a tag of no class
    pub absent_join : (ks : List Class) → None ≡ find (is_class_of t) ks → map (joined c) ks ≡ ks
    absent_join [] none = refl
    absent_join (k ∷ ks) none = by (absent_join ks) (same_tag k.tag t) refl
      where
        by : (None ≡ find (is_class_of t) ks → map (joined c) ks ≡ ks) → (b : Bool) → same_tag k.tag t ≡ b → map (joined c) (k ∷ ks) ≡ k ∷ ks
        by others true same = let here : None ≡ Some k = none ∙ ap (λ b. cond b (Some k) (find (is_class_of t) ks)) same in cc
        by others false other =
            let apart : same_tag t k.tag ≡ false = false_from_ne_true (same_tag t k.tag) (λ is. false≢true (sym other ∙ ap (same_tag k.tag) (tag_same t k.tag is) ∙ tag_itself k.tag)) in
            let rest = others (none ∙ ap (λ b. cond b (Some k) (find (is_class_of t) ks)) other) in
            λ i. stays k (gives_as k ∙ apart) i ∷ rest i

    later_stay : (ks : List Class) (u : Tag) → u ≡ t → ((k : Class) → Member k ks → is_lt (tag_cmp u k.tag) ≡ true) → map (joined c) ks ≡ ks
    later_stay [] u is later = refl
    later_stay (k ∷ ks) u is later =
        let rest = later_stay ks u is (λ j m. later j (inr m)) in
        let apart : same_tag t k.tag ≡ false = ap (λ v. same_tag v k.tag) (sym is) ∙ before_differs u k.tag (later k (inl refl)) in
        λ i. stays k (gives_as k ∙ apart) i ∷ rest i

    -- the class at a place that has the tag of the change: no other one has it
    pub found_join : (ks : List Class) (n : ℕ) (x y : Class) → AreInOrder ks → n < length ks → slice_index_or ks n x ≡ x → tag_cmp x.tag t ≡ Equal → y ≡ record x { members = x.members ++ c.prefix ∷ [] } → slice_set ks n y ≡ map (joined c) ks
    found_join [] n x y rises within at ties is = absurd (omega arith)
    found_join (k ∷ ks) zero x y rises within at ties is =
        let same : k.tag ≡ t = ap (λ (j : Class). j.tag) at ∙ tag_tie x.tag t (ap is_eq ties) in
        let given : gives k.tag c ≡ true = gives_as k ∙ ap (same_tag t) same ∙ tag_itself t in
        let here : y ≡ joined c k = is ∙ ap (λ (j : Class). record j { members = j.members ++ c.prefix ∷ [] }) (sym at) ∙ sym (ap (λ b. cond b (record k { members = k.members ++ c.prefix ∷ [] }) k) given) in
        let rest = sym (later_stay ks k.tag same rises.0) in
        λ i. here i ∷ rest i
    found_join (k ∷ ks) (suc n) x y rises within at ties is =
        let same : t ≡ x.tag = sym (tag_tie x.tag t (ap is_eq ties)) in
        let below : n < length ks = omega arith in
        let less = rises.0 x (Member-at ks n x x below at) in
        let apart : same_tag t k.tag ≡ false = ap (λ v. same_tag v k.tag) same ∙ after_differs k.tag x.tag less in
        let here = sym (stays k (gives_as k ∙ apart)) in
        let rest = found_join ks n x y rises.1 below at ties is in
        λ i. here i ∷ rest i
