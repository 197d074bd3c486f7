-- Sets that are counted apart, and what decides whether one of them has too many meets.
use Rattle.std.proofs.Common.{◌≡◌, ◌≤◌, ◌<◌, ◌⊎◌, ℕ, true, arith, length, take, drop, List, [], ◌∷◌, ◌++◌, ◌+◌, get_or, refl, inl, inr, sym, ap, ◌∙◌, subst}
use Rattle.std.proofs.lemmas.Bool.{and_parts, and_from}
use Rattle.std.proofs.lemmas.List.{take-append-drop, take_more}
use Rattle.std.specs.HashSet.{HashSet, contains}
use Rattle.std.specs.List.{list_all}
use Rattle.net_types.specs.declared.cube.Cube.{Cube}
use Rattle.net_types.specs.Meets.{meets, behind}
use Rattle.net_types.specs.Policies.{Policy, Both, Then, mods, atoms}
use Rattle.net_types.specs.Sets.{Member, SameMembers}
use Rattle.net_types.specs.Widths.{parts, HasManyMeets}
use Rattle.net_types.proofs.SetLemmas
use Rattle.net_types.proofs.WidthLemmas.{meets-fewer}
use Rattle.classifier.specs.Seen.{cube_eq}
use Rattle.classifier.proofs.SeenLemmas.{cube_eq_exact, cube_eq_refl}
use Rattle.policy_compile.specs.Sets.{IsUpTo}
use Rattle.policy_compile.specs.Narrow.{HasWideMeets}
use Rattle.policy_compile.specs.Apart.{SomeIsMany, EachHas, IsShared, IsCommon, IsNoted, IsNarrowed}
use Rattle.policy_compile.proofs.CountLemmas.{few_cubes}
use Rattle.policy_compile.proofs.SetsLemmas.{any-Member, Member-any}
use Rattle.policy_compile.proofs.AtomLemmas.{HasParts, atoms-then, itself, meets-left, meets-right, same_count, wide-left, wide-right}

-- ---- some set has too many

pub some-append : {S : Type 0} (xs ys : List (HashSet Cube S)) → SomeIsMany (xs ++ ys) → SomeIsMany xs ⊎ SomeIsMany ys
some-append [] ys m = inr m
some-append (x ∷ xs) ys (inl here) = inl (inl here)
some-append (x ∷ xs) ys (inr m) = elim (some-append xs ys m) [ inl k ↦ inl (inr k) | inr k ↦ inr k ]

pub some-left : {S : Type 0} (xs ys : List (HashSet Cube S)) → SomeIsMany xs → SomeIsMany (xs ++ ys)
some-left [] ys m = elim m [ ]
some-left (x ∷ xs) ys (inl here) = inl here
some-left (x ∷ xs) ys (inr m) = inr (some-left xs ys m)

pub some-right : {S : Type 0} (xs ys : List (HashSet Cube S)) → SomeIsMany ys → SomeIsMany (xs ++ ys)
some-right [] ys m = m
some-right (x ∷ xs) ys m = inr (some-right xs ys m)

-- the halves of a list
pub some-front : {S : Type 0} (n : ℕ) (sets : List (HashSet Cube S)) → SomeIsMany (take n sets) → SomeIsMany sets
some-front n sets m = subst SomeIsMany (take-append-drop n sets) (some-left (take n sets) (drop n sets) m)

pub some-back : {S : Type 0} (n : ℕ) (sets : List (HashSet Cube S)) → SomeIsMany (drop n sets) → SomeIsMany sets
some-back n sets m = subst SomeIsMany (take-append-drop n sets) (some-right (take n sets) (drop n sets) m)

pub some-half : {S : Type 0} (n : ℕ) (sets : List (HashSet Cube S)) → SomeIsMany sets → SomeIsMany (take n sets) ⊎ SomeIsMany (drop n sets)
some-half n sets m = some-append (take n sets) (drop n sets) (subst SomeIsMany (sym (take-append-drop n sets)) m)

-- ---- cubes that each set has

each-append : {S : Type 0} (c : Cube) (xs ys : List (HashSet Cube S)) → EachHas c (xs ++ ys) → EachHas c xs × EachHas c ys
each-append c [] ys e = (tt, e)
each-append c (x ∷ xs) ys e = let rest = each-append c xs ys e.1 in ((e.0, rest.0), rest.1)

pub shared-front : {S : Type 0} (n : ℕ) (kept : List Cube) (sets : List (HashSet Cube S)) → IsShared kept sets → IsShared kept (take n sets)
shared-front n kept sets s = record {
  cubes = s.cubes;
  is = s.is;
  inside = λ c k. (each-append c (take n sets) (drop n sets) (subst (EachHas c) (sym (take-append-drop n sets)) (s.inside c k))).0;
}

pub shared-back : {S : Type 0} (n : ℕ) (kept : List Cube) (sets : List (HashSet Cube S)) → IsShared kept sets → IsShared kept (drop n sets)
shared-back n kept sets s = record {
  cubes = s.cubes;
  is = s.is;
  inside = λ c k. (each-append c (take n sets) (drop n sets) (subst (EachHas c) (sym (take-append-drop n sets)) (s.inside c k))).1;
}

pub each-from : {S : Type 0} (c : Cube) (sets : List (HashSet Cube S)) → list_all (λ set. contains cube_eq set c) sets ≡ true → EachHas c sets
each-from c [] h = tt
each-from c (set ∷ sets) h =
    let two = and_parts (contains cube_eq set c) (list_all (λ s. contains cube_eq s c) sets) h in
    (any-Member cube_eq cube_eq_exact cube_eq_refl set.keys c two.0, each-from c sets two.1)

pub each-to : {S : Type 0} (c : Cube) (sets : List (HashSet Cube S)) → EachHas c sets → list_all (λ set. contains cube_eq set c) sets ≡ true
each-to c [] e = refl
each-to c (set ∷ sets) e = and_from _ _ (Member-any cube_eq cube_eq_exact cube_eq_refl set.keys c e.0) (each-to c sets e.1)

pub took-one : {A : Type 0} (xs : List A) (i : ℕ) (x : A) → i < length xs → x ≡ get_or xs i x → take (i + 1) xs ≡ take i xs ++ x ∷ []
took-one xs i x within is = take_more xs i x within ∙ ap (λ d. take i xs ++ d ∷ []) (sym is)

-- one cube more was looked at
pub common-more : {S : Type 0} (xs common : List Cube) (others : List (HashSet Cube S)) (x : Cube) → IsCommon xs others common → EachHas x others → IsCommon (xs ++ x ∷ []) others (common ++ x ∷ [])
common-more xs common others x m each = record {
  onto = λ c k. elim (SetLemmas.Member-append_cases common (x ∷ []) c k) [
    | inl old ↦ (SetLemmas.Member-append_left xs (x ∷ []) c (m.onto c old).0, (m.onto c old).1)
    | inr new ↦ elim new [ inl e ↦ (SetLemmas.Member-append_right xs (x ∷ []) c (inl e), subst (λ y. EachHas y others) (sym e) each) | inr none ↦ elim none [ ] ]
  ];
  back = λ c k each_has. elim (SetLemmas.Member-append_cases xs (x ∷ []) c k) [
    | inl old ↦ SetLemmas.Member-append_left common (x ∷ []) c (m.back c old each_has)
    | inr new ↦ SetLemmas.Member-append_right common (x ∷ []) c new
  ];
}

pub common-same : {S : Type 0} (xs common : List Cube) (others : List (HashSet Cube S)) (x : Cube) → IsCommon xs others common → (EachHas x others → ⊥) → IsCommon (xs ++ x ∷ []) others common
common-same xs common others x m lacks = record {
  onto = λ c k. (SetLemmas.Member-append_left xs (x ∷ []) c (m.onto c k).0, (m.onto c k).1);
  back = λ c k each_has. elim (SetLemmas.Member-append_cases xs (x ∷ []) c k) [
    | inl old ↦ m.back c old each_has
    | inr new ↦ elim new [ inl e ↦ absurd (lacks (subst (λ y. EachHas y others) e each_has)) | inr none ↦ elim none [ ] ]
  ];
}

pub common-none : {S : Type 0} (others : List (HashSet Cube S)) → IsCommon [] others []
common-none others = record { onto = λ c k. elim k [ ]; back = λ c k each_has. elim k [ ] }

-- ---- the meets that some sets share

-- the meets of what is common, put to those of what the sets had in common before
abbrev pub IsMore : List Cube → List Cube → List Cube → Type 0
IsMore kept common more = (others : List Cube) → kept ≡ meets others → IsUpTo 65536 more (meets (common ++ others))

pub many-shared : {S : Type 0} (kept common more : List Cube) (first : HashSet Cube S) (others : List (HashSet Cube S)) → IsShared kept (first ∷ others) → IsCommon first.keys others common → IsMore kept common more → 65536 < length more → SomeIsMany (first ∷ others)
many-shared kept common more first others s m u long =
    inl (omega (
      arith,
      long,
      (u s.cubes s.is).no_longer,
      meets-fewer (common ++ s.cubes) first.keys (λ c k. elim (SetLemmas.Member-append_cases common s.cubes c k) [ inl h ↦ (m.onto c h).0 | inr h ↦ (s.inside c h).0 ]),
    ))

pub few-shared : {S : Type 0} (kept common more : List Cube) (first : HashSet Cube S) (others : List (HashSet Cube S)) → length others ≡ 0 → IsShared kept (first ∷ others) → IsCommon first.keys others common → IsMore kept common more → length more ≤ 65536 → SomeIsMany (first ∷ others) → ⊥
few-shared kept common more first (other ∷ others) e s m u short many = omega (arith, e)
few-shared kept common more first [] e s m u short (inl many) =
    omega (arith, many, short, ap length ((u s.cubes s.is).whole short), meets-fewer first.keys (common ++ s.cubes) (λ c k. SetLemmas.Member-append_left common s.cubes c (m.back c k tt)))
few-shared kept common more first [] e s m u short (inr none) = elim none [ ]

pub shared-more : {S : Type 0} (kept common more : List Cube) (first : HashSet Cube S) (others : List (HashSet Cube S)) → IsShared kept (first ∷ others) → IsCommon first.keys others common → IsMore kept common more → length more ≤ 65536 → IsShared more (first ∷ others)
shared-more kept common more first others s m u short = record {
  cubes = common ++ s.cubes;
  is = (u s.cubes s.is).whole short;
  inside = λ c k. elim (SetLemmas.Member-append_cases common s.cubes c k) [ inl h ↦ m.onto c h | inr h ↦ s.inside c h ];
}

pub not_empty : {A : Type 0} (xs : List A) → (length xs ≡ 0 → ⊥) → 0 < length xs
not_empty [] some = absurd (some refl)
not_empty (x ∷ xs) some = omega arith

-- no cubes are in each of any sets
pub shared-nothing : {S : Type 0} (kept : List Cube) (sets : List (HashSet Cube S)) → kept ≡ meets [] → IsShared kept sets
shared-nothing kept sets e = record { cubes = []; is = e; inside = λ c k. elim k [ ] }

-- ---- parts that are noted

pub noted-held : {S : Type 0} (whole part : List Cube) (old : List (HashSet Cube S)) → ((c : Cube) → Member c part → Member c whole) → IsNoted whole part old old
noted-held whole part old among = record {
  keeps = λ m. m;
  sound = λ m. inl m;
  held = λ many. inl (omega (arith, many, meets-fewer part whole among));
}

pub noted-few : {S : Type 0} (whole part : List Cube) (old : List (HashSet Cube S)) → length part ≤ 16 → IsNoted whole part old old
noted-few whole part old few = record {
  keeps = λ m. m;
  sound = λ m. inl m;
  held = λ many. absurd (omega (arith, many, few_cubes part few));
}

pub noted-new : {S : Type 0} (whole : List Cube) (part : HashSet Cube S) (old : List (HashSet Cube S)) → IsNoted whole part.keys old (old ++ part ∷ [])
noted-new whole part old = record {
  keeps = λ m. some-left old (part ∷ []) m;
  sound = λ m. elim (some-append old (part ∷ []) m) [ inl k ↦ inl k | inr k ↦ elim k [ inl here ↦ inr here | inr none ↦ elim none [ ] ] ];
  held = λ many. inr (some-right old (part ∷ []) (inl many));
}

-- ---- policies that are narrowed

pub leaf-narrowed : {S : Type 0} (p : Policy) (sets : List (HashSet Cube S)) (keys : List Cube) → SameMembers keys (atoms p) → parts p ≡ p ∷ [] → IsNarrowed p sets sets keys
leaf-narrowed p sets keys same none = record {
  same = same;
  keeps = λ m. m;
  sound = λ m. inl m;
  decides = λ r stands many. elim (subst (Member r) none stands) [ inl here ↦ inl (subst HasManyMeets here many) | inr nothing ↦ elim nothing [ ] ];
}

-- what is known of two parts, and of the sets that were noted in between and behind
two-narrowed : {S : Type 0} (w p q : Policy) (old mid new last : List (HashSet Cube S)) (ks ls whole : List Cube) → HasParts w p q → SameMembers whole (atoms w) → IsNarrowed p old mid ks → IsNarrowed q mid new ls
    → (SomeIsMany new → SomeIsMany last) → (SomeIsMany last → SomeIsMany new ⊎ HasWideMeets q)
    → (HasManyMeets p → HasManyMeets w) → (HasManyMeets q → HasManyMeets w ⊎ SomeIsMany last) → IsNarrowed w old last whole
two-narrowed w p q old mid new last ks ls whole e same f g keeps sound left right = record {
  same = same;
  keeps = λ m. keeps (g.keeps (f.keeps m));
  sound = λ m. elim (sound m) [
    | inl k ↦ elim (g.sound k) [ inl k ↦ elim (f.sound k) [ inl k ↦ inl k | inr k ↦ inr (wide-left w p q e k) ] | inr k ↦ inr (wide-right w p q e k) ]
    | inr k ↦ inr (wide-right w p q e k)
  ];
  decides = λ r stands many. elim (subst (Member r) e stands) [
    | inl here ↦ inl (subst HasManyMeets here many)
    | inr below ↦ elim (SetLemmas.Member-append_cases (parts p) (parts q) r below) [
      | inl k ↦ elim (f.decides r k many) [ inl h ↦ inl (left h) | inr h ↦ inr (keeps (g.keeps h)) ]
      | inr k ↦ elim (g.decides r k many) [ inl h ↦ right h | inr h ↦ inr (keeps h) ]
    ]
  ];
}

pub both-narrowed : {S : Type 0} (p q : Policy) (old mid new : List (HashSet Cube S)) (ks ls whole : List Cube) → IsNarrowed p old mid ks → IsNarrowed q mid new ls → SameMembers whole (ks ++ ls) → IsNarrowed (Both p q) old new whole
both-narrowed p q old mid new ks ls whole f g same =
    two-narrowed (Both p q) p q old mid new new ks ls whole refl (SetLemmas.same_trans same (SetLemmas.same_append f.same g.same)) f g (λ m. m) (λ m. inl m)
    (λ many. omega (arith, many, meets-left (atoms p) (atoms q))) (λ many. inl (omega (arith, many, meets-right (atoms p) (atoms q))))

pub then-narrowed : {S : Type 0} (p q : Policy) (old mid new last : List (HashSet Cube S)) (ks ls whole : List Cube) → IsNarrowed p old mid ks → IsNarrowed q mid new ls → SameMembers whole (ks ++ behind (mods p) ls) → IsNoted whole ls new last → IsNarrowed (Then p q) old last whole
then-narrowed p q old mid new last ks ls whole f g same n =
    let all = atoms-then p q ks ls whole f.same g.same same in
    let is_q : length (meets ls) ≡ length (meets (atoms q)) = same_count ls (atoms q) g.same in
    let is_w : length (meets whole) ≡ length (meets (atoms (Then p q))) = same_count whole (atoms (Then p q)) all in
    two-narrowed (Then p q) p q old mid new last ks ls whole refl all f g n.keeps
    (λ m. elim (n.sound m) [ inl k ↦ inl k | inr many ↦ inr (record { part = q; stands = itself q; many = omega (arith, many, is_q) }) ])
    (λ many. omega (arith, many, meets-left (atoms p) (behind (mods p) (atoms q))))
    (λ many. elim (n.held (omega (arith, many, is_q))) [ inl k ↦ inl (omega (arith, k, is_w)) | inr k ↦ inr k ])

-- the whole is counted with the sets that were noted
pub wide-from : {S : Type 0} (p : Policy) (new : List (HashSet Cube S)) (whole : HashSet Cube S) → IsNarrowed p [] new whole.keys → SomeIsMany (new ++ whole ∷ []) → HasWideMeets p
wide-from p new whole f m = elim (some-append new (whole ∷ []) m) [
  | inl k ↦ elim (f.sound k) [ inl none ↦ elim none [ ] | inr k ↦ k ]
  | inr k ↦ elim k [ inl many ↦ record { part = p; stands = itself p; many = omega (arith, many, same_count whole.keys (atoms p) f.same) } | inr none ↦ elim none [ ] ]
]

pub wide-to : {S : Type 0} (p : Policy) (new : List (HashSet Cube S)) (whole : HashSet Cube S) → IsNarrowed p [] new whole.keys → HasWideMeets p → SomeIsMany (new ++ whole ∷ [])
wide-to p new whole f w = elim (f.decides w.part w.stands w.many) [
  | inl many ↦ some-right new (whole ∷ []) (inl (omega (arith, many, same_count whole.keys (atoms p) f.same)))
  | inr k ↦ some-left new (whole ∷ []) k
]
