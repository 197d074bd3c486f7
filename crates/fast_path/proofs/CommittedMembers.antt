-- Each fresh tag given to its members, and the tags of prefixes that are to have none taken, the prefixes have the tags of
-- the changes.
use Rattle.std.proofs.Common.{◌≡◌, ℕ, ◌+◌, ◌≤◌, ◌⊎◌, Bool, true, false, cond, ◌&&◌, ◌||◌, List, [], ◌∷◌, length, map, sym, ap, subst, ◌∙◌, refl, arith, inl, inr}
use Rattle.std.specs.Prelude.{Option, Some, None, is_none, is_some, IfSome}
use Rattle.std.specs.FinMap.{FinMap, get, get-insert, get-remove, insert, remove, same_map}
use Rattle.std.specs.List.{list_any}
use Rattle.std.specs.Ordering.{eq_by_cmp}
use Rattle.std.proofs.lemmas.Bool.{false_from_ne_true}
use Rattle.events.specs.declared.TagChange.{TagChange}
use Rattle.exchange_laws.proofs.Lists.{clash}
use Rattle.exchange_laws.proofs.Sames.{tags_test}
use Rattle.net_types.proofs.OrderLemmas.{prefix_tie, prefixes_total, tags_total}
use Rattle.net_types.proofs.OrderedLemmas.{any_member, member_any}
use Rattle.net_types.proofs.SetLemmas.{Member-map, map-Member}
use Rattle.net_types.proofs.TieLemmas.{prefix_cmp-IsAntisymmetric, ties_itself}
use Rattle.net_types.specs.Keys.{prefix_cmp, tag_cmp}
use Rattle.net_types.specs.Sets.{Member}
use Rattle.net_types.specs.declared.address.Tag.{Tag}
use Rattle.net_types.specs.declared.prefix.Prefix.{Prefix}
use Rattle.net_types.specs.declared.route.Part.{Part}
use Rattle.prefix_classes.proofs.ChangeLemmas.{changed_prefixes_have_new_tags, other_prefixes_keep_their_tags}
use Rattle.prefix_classes.specs.Classes.{given}
use Rattle.prefix_classes.specs.Laws.{AreRising, Change}
use Rattle.fast_path.proofs.CommittedMaps.{stands_or_not}
use Rattle.fast_path.specs.Committing.{AreUnkept, HaveTags, Kept, change_of, classes_of, given_all, gives, member_count, members_of, signed, tags_of, tags_with, untagged, untagged_one}
use Rattle.fast_path.specs.declared.planned.Class.{Class}
use Rattle.std.proofs.lemmas.Option.{same_Some}
use Rattle.std.proofs.Math.Bool.{or-true}

-- the tags of prefixes
abbrev TagsOf : Type 0
TagsOf = FinMap prefix_cmp Tag

-- the tags and signatures of classes are those that the classes are made of
pub signed_back : (cs : List TagChange) (ks : List Kept) → signed (classes_of cs ks) ≡ ks
signed_back cs [] = refl
signed_back cs (k ∷ ks) = ap (λ xs. k ∷ xs) (signed_back cs ks)

-- ---- members

-- a member of a tag is the prefix of a change that gives the tag
pub record IsGiven (cs : List TagChange) (t : Tag) (q : Prefix) : Type 0 where
  pub change : TagChange
  pub stands : Member change cs
  pub at : change.prefix ≡ q
  pub tagged : change.tag ≡ Some t

later : (c : TagChange) (cs : List TagChange) (t : Tag) (q : Prefix) → IsGiven cs t q → IsGiven (c ∷ cs) t q
later c cs t q is = record { change = is.change; stands = inr is.stands; at = is.at; tagged = is.tagged }

pub member_given : (cs : List TagChange) (t : Tag) (q : Prefix) → Member q (members_of cs t) → IsGiven cs t q
member_given [] t q m = elim m [ ]
member_given (c ∷ cs) t q m = by (gives t c) refl m (λ k. later c cs t q (member_given cs t q k))
  where
    by : (b : Bool) → gives t c ≡ b → Member q (cond b (c.prefix ∷ members_of cs t) (members_of cs t)) → (Member q (members_of cs t) → IsGiven (c ∷ cs) t q) → IsGiven (c ∷ cs) t q
    by true gives_it (inl is) rest = record { change = c; stands = inl refl; at = sym is; tagged = (tags_test c.tag (Some t)).0 gives_it }
    by true gives_it (inr k) rest = rest k
    by false other k rest = rest k

pub given_member : (cs : List TagChange) (t : Tag) (c : TagChange) → Member c cs → c.tag ≡ Some t → Member c.prefix (members_of cs t)
given_member [] t c m tagged = elim m [ ]
given_member (d ∷ cs) t c m tagged = by (gives t d) refl m (λ k. given_member cs t c k tagged)
  where
    by : (b : Bool) → gives t d ≡ b → (c ≡ d) ⊎ Member c cs → (Member c cs → Member c.prefix (members_of cs t)) → Member c.prefix (cond b (d.prefix ∷ members_of cs t) (members_of cs t))
    by true gives_it (inl is) rest = inl (ap (λ (x : TagChange). x.prefix) is)
    by true gives_it (inr k) rest = inr (rest k)
    by false other (inl is) rest = absurd (clash ((tags_test d.tag (Some t)).1 (sym (ap (λ (x : TagChange). x.tag) is) ∙ tagged)) other)
    by false other (inr k) rest = rest k

-- ---- what is given

get-given : (t : Tag) (ps : List Prefix) (m : TagsOf) (q : Prefix) → get (given t ps m) q ≡ cond (list_any (eq_by_cmp prefix_cmp q) ps) (Some t) (get m q)
get-given t [] m q = refl
get-given t (p ∷ ps) m q =
    get-given t ps (insert m p t) q ∙ ap (cond (list_any (eq_by_cmp prefix_cmp q) ps) (Some t)) (get-insert prefixes_total m p t q) ∙ by (eq_by_cmp prefix_cmp q p) (list_any (eq_by_cmp prefix_cmp q) ps)
  where
    by : (b c : Bool) → cond c (Some t) (cond b (Some t) (get m q)) ≡ cond (b || c) (Some t) (get m q)
    by true true = refl
    by true false = refl
    by false c = refl

given_those : (t : Tag) (ps : List Prefix) (m : TagsOf) (q : Prefix) → Member q ps → get (given t ps m) q ≡ Some t
given_those t ps m q stands = get-given t ps m q ∙ ap (λ b. cond b (Some t) (get m q)) (member_any prefix_cmp prefixes_total prefix_tie q ps stands)

given_others : (t : Tag) (ps : List Prefix) (m : TagsOf) (q : Prefix) → (Member q ps → ⊥) → get (given t ps m) q ≡ get m q
given_others t ps m q other =
    get-given t ps m q ∙ ap (λ b. cond b (Some t) (get m q)) (false_from_ne_true (list_any (eq_by_cmp prefix_cmp q) ps) (λ any. other (any_member prefix_cmp prefixes_total prefix_tie q ps any)))

-- a prefix that is a member of one tag alone has it
given_one : (cs : List TagChange) (ks : List Kept) (m : TagsOf) (q : Prefix) (t : Tag) → ((u : Tag) → Member q (members_of cs u) → u ≡ t) → Member q (members_of cs t)
    → (get m q ≡ Some t) ⊎ Member t (tags_of ks) → get (given_all m (classes_of cs ks)) q ≡ Some t
given_one cs [] m q t one stands (inl is) = is
given_one cs [] m q t one stands (inr none) = absurd none
given_one cs (k ∷ ks) m q t one stands there =
    given_one cs ks (given k.0 (members_of cs k.0) m) q t one stands (by (stands_or_not prefix_cmp prefixes_total prefix_tie (members_of cs k.0) q) there)
  where
    by : Member q (members_of cs k.0) ⊎ (Member q (members_of cs k.0) → ⊥) → (get m q ≡ Some t) ⊎ ((t ≡ k.0) ⊎ Member t (tags_of ks)) → (get (given k.0 (members_of cs k.0) m) q ≡ Some t) ⊎ Member t (tags_of ks)
    by (inl here) at = inl (given_those k.0 (members_of cs k.0) m q here ∙ ap Some (one k.0 here))
    by (inr other) (inl is) = inl (given_others k.0 (members_of cs k.0) m q other ∙ is)
    by (inr other) (inr (inl same)) = absurd (other (subst (λ u. Member q (members_of cs u)) same stands))
    by (inr other) (inr (inr last)) = inr last

-- a prefix that is a member of none has what it had
given_none : (cs : List TagChange) (ks : List Kept) (m : TagsOf) (q : Prefix) → ((u : Tag) → Member q (members_of cs u) → ⊥) → get (given_all m (classes_of cs ks)) q ≡ get m q
given_none cs [] m q none = refl
given_none cs (k ∷ ks) m q none = given_none cs ks (given k.0 (members_of cs k.0) m) q none ∙ given_others k.0 (members_of cs k.0) m q (none k.0)

-- ---- what is taken

-- the prefix is to have no tag
abbrev is_untagged : Prefix → TagChange → Bool
is_untagged q c = eq_by_cmp prefix_cmp q c.prefix && is_none c.tag

get-untagged : (cs : List TagChange) (m : TagsOf) (q : Prefix) → get (untagged m cs) q ≡ cond (list_any (is_untagged q) cs) None (get m q)
get-untagged [] m q = refl
get-untagged (c ∷ cs) m q = get-untagged cs (untagged_one m c) q ∙ by c.tag (list_any (is_untagged q) cs)
  where
    twice : (b d : Bool) → cond d None (cond b None (get m q)) ≡ cond ((b && true) || d) None (get m q)
    twice true true = refl
    twice true false = refl
    twice false d = refl

    never : (b d : Bool) → cond d None (get m q) ≡ cond ((b && false) || d) None (get m q)
    never true d = refl
    never false d = refl

    by : (o : Option Tag) (d : Bool) → cond d None (get (cond (is_some o) m (remove m c.prefix)) q) ≡ cond ((eq_by_cmp prefix_cmp q c.prefix && is_none o) || d) None (get m q)
    by None d = ap (cond d None) (get-remove prefixes_total m c.prefix q) ∙ twice (eq_by_cmp prefix_cmp q c.prefix) d
    by (Some t) d = never (eq_by_cmp prefix_cmp q c.prefix) d

-- a change by which the prefix is to have no tag
record IsUntagged (cs : List TagChange) (q : Prefix) : Type 0 where
  pub change : TagChange
  pub stands : Member change cs
  pub at : change.prefix ≡ q
  pub tagged : change.tag ≡ None

no_tag : (o : Option Tag) → is_none o ≡ true → o ≡ None
no_tag None e = refl
no_tag (Some t) e = cc

any_untagged : (cs : List TagChange) (q : Prefix) → list_any (is_untagged q) cs ≡ true → IsUntagged cs q
any_untagged [] q e = cc
any_untagged (c ∷ cs) q e = by (eq_by_cmp prefix_cmp q c.prefix) (is_none c.tag) refl refl e (λ k. any_untagged cs q k)
  where
    by : (b d : Bool) → eq_by_cmp prefix_cmp q c.prefix ≡ b → is_none c.tag ≡ d → ((b && d) || list_any (is_untagged q) cs) ≡ true → (list_any (is_untagged q) cs ≡ true → IsUntagged cs q) → IsUntagged (c ∷ cs) q
    by true true tie none e rest = record { change = c; stands = inl refl; at = sym (prefix_tie q c.prefix tie); tagged = no_tag c.tag none }
    by true false tie none e rest = let is = rest e in record { change = is.change; stands = inr is.stands; at = is.at; tagged = is.tagged }
    by false d tie none e rest = let is = rest e in record { change = is.change; stands = inr is.stands; at = is.at; tagged = is.tagged }

untagged_any : (cs : List TagChange) (c : TagChange) → Member c cs → c.tag ≡ None → list_any (is_untagged c.prefix) cs ≡ true
untagged_any [] c m none = elim m [ ]
untagged_any (d ∷ cs) c m none = by m (λ k. untagged_any cs c k none)
  where
    by : (c ≡ d) ⊎ Member c cs → (Member c cs → list_any (is_untagged c.prefix) cs ≡ true) → (is_untagged c.prefix d || list_any (is_untagged c.prefix) cs) ≡ true
    by (inl is) rest = ap (λ (x : TagChange). is_untagged c.prefix x || list_any (is_untagged c.prefix) cs) (sym is)
        ∙ ap (λ b. (b && is_none c.tag) || list_any (is_untagged c.prefix) cs) (ties_itself prefixes_total c.prefix)
        ∙ ap (λ o. is_none o || list_any (is_untagged c.prefix) cs) none
    by (inr k) rest = ap (λ b. is_untagged c.prefix d || b) (rest k) ∙ or-true (is_untagged c.prefix d)

-- ---- all of it

module _ (m : TagsOf) (cs : List TagChange) (ks : List Kept) (rises : AreRising (map change_of cs)) (fresh : HaveTags (tags_of ks) cs) where
  -- the tags with all changes made
  abbrev then : TagsOf
  then = tags_with m cs

  tag_of_change : (c : TagChange) → Member c cs → get then c.prefix ≡ c.tag
  tag_of_change c stands = changed_prefixes_have_new_tags m (map change_of cs) c.prefix c.tag rises (Member-map change_of cs c stands)

  two_tags : (q : Prefix) (o : Option Tag) (c : TagChange) → get then q ≡ o → Member c cs → c.prefix ≡ q → o ≡ c.tag
  two_tags q o c is stands at = sym is ∙ ap (get then) (sym at) ∙ tag_of_change c stands

  not_both : (t : Tag) → Some t ≡ None → ⊥
  not_both t e = let some = ap is_some e in cc

  member_of_one : (q : Prefix) (t : Tag) → get then q ≡ Some t → (u : Tag) → Member q (members_of cs u) → u ≡ t
  member_of_one q t is u stands = let by = member_given cs u q stands in same_Some u t (sym by.tagged ∙ sym (two_tags q (Some t) by.change is by.stands by.at))

  not_untagged : (q : Prefix) (t : Tag) → get then q ≡ Some t → list_any (is_untagged q) cs ≡ false
  not_untagged q t is = false_from_ne_true (list_any (is_untagged q) cs) (λ any. let by = any_untagged cs q any in not_both t (two_tags q (Some t) by.change is by.stands by.at ∙ by.tagged))

  at_change : (c : TagChange) → Member c cs → (o : Option Tag) → c.tag ≡ o → get (untagged (given_all m (classes_of cs ks)) cs) c.prefix ≡ get then c.prefix
  at_change c stands None none =
      get-untagged cs (given_all m (classes_of cs ks)) c.prefix
      ∙ ap (λ b. cond b None (get (given_all m (classes_of cs ks)) c.prefix)) (untagged_any cs c stands none)
      ∙ sym (tag_of_change c stands ∙ none)
  at_change c stands (Some t) some =
      let is : get then c.prefix ≡ Some t = tag_of_change c stands ∙ some in
      let listed : Member t (tags_of ks) = subst (λ o. IfSome o (λ u. Member u (tags_of ks))) some (fresh c stands) in
      get-untagged cs (given_all m (classes_of cs ks)) c.prefix
      ∙ ap (λ b. cond b None (get (given_all m (classes_of cs ks)) c.prefix)) (not_untagged c.prefix t is)
      ∙ given_one cs ks m c.prefix t (member_of_one c.prefix t is) (given_member cs t c stands some) (inr listed)
      ∙ sym is

  at_other : (q : Prefix) → ((c : TagChange) → Member c cs → c.prefix ≡ q → ⊥) → get (untagged (given_all m (classes_of cs ks)) cs) q ≡ get then q
  at_other q none =
      get-untagged cs (given_all m (classes_of cs ks)) q
      ∙ ap (λ b. cond b None (get (given_all m (classes_of cs ks)) q)) (false_from_ne_true (list_any (is_untagged q) cs) (λ any. let by = any_untagged cs q any in none by.change by.stands by.at))
      ∙ given_none cs ks m q (λ u stands. let by = member_given cs u q stands in none by.change by.stands by.at)
      ∙ sym (other_prefixes_keep_their_tags m (map change_of cs) q (λ after stands.
      let image = map-Member change_of cs (q, after) stands in none image.of image.stands (sym (ap (λ (c : Change). c.0) image.is))))

  -- the tags are those with all changes made
  pub given_then_untagged : untagged (given_all m (classes_of cs ks)) cs ≡ tags_with m cs
  given_then_untagged = same_map prefixes_total prefix_cmp-IsAntisymmetric _ _ (λ q. by q (stands_or_not prefix_cmp prefixes_total prefix_tie (map (λ (c : TagChange). c.prefix) cs) q))
    where
      by : (q : Prefix) → Member q (map (λ (c : TagChange). c.prefix) cs) ⊎ (Member q (map (λ (c : TagChange). c.prefix) cs) → ⊥) → get (untagged (given_all m (classes_of cs ks)) cs) q ≡ get then q
      by q (inl stands) =
          let image = map-Member (λ (c : TagChange). c.prefix) cs q stands in
          subst (λ p. get (untagged (given_all m (classes_of cs ks)) cs) p ≡ get then p) (sym image.is) (at_change image.of image.stands image.of.tag refl)
      by q (inr other) = at_other q (λ c stands at. other (subst (λ p. Member p (map (λ (x : TagChange). x.prefix) cs)) at (Member-map (λ (x : TagChange). x.prefix) cs c stands)))

-- ---- how many members

-- tags of which none is kept when its turn comes are none that is kept
not_kept : (m : FinMap tag_cmp (List Part)) (ks : List Kept) (t : Tag) → AreUnkept m ks → Member t (tags_of ks) → get m t ≡ None
not_kept m [] t unkept stands = elim stands [ ]
not_kept m (k ∷ ks) t unkept (inl is) = ap (get m) is ∙ unkept.0
not_kept m (k ∷ ks) t unkept (inr stands) = by (eq_by_cmp tag_cmp t k.0) (sym (get-insert tags_total m k.0 k.1 t) ∙ not_kept (insert m k.0 k.1) ks t unkept.1 stands)
  where
    by : (b : Bool) → cond b (Some k.1) (get m t) ≡ None → get m t ≡ None
    by true e = let some = ap is_some e in absurd (cc)
    by false e = e

-- so they differ
not_again : (m : FinMap tag_cmp (List Part)) (k : Kept) (ks : List Kept) → AreUnkept m (k ∷ ks) → Member k.0 (tags_of ks) → ⊥
not_again m k ks unkept stands =
    let none = not_kept (insert m k.0 k.1) ks k.0 unkept.1 stands in
    let there = get-insert tags_total m k.0 k.1 k.0 ∙ ap (λ b. cond b (Some k.1) (get m k.0)) (ties_itself tags_total k.0) in
    let some = ap is_some (sym there ∙ none) in
    absurd (cc)

-- how many of the tags the change gives
abbrev gives_count : TagChange → List Kept → ℕ
gives_count c [] = 0
gives_count c (k ∷ ks) = cond (gives k.0 c) 1 0 + gives_count c ks

none_given : (c : TagChange) (ks : List Kept) (t : Tag) → c.tag ≡ Some t → (Member t (tags_of ks) → ⊥) → gives_count c ks ≡ 0
none_given c [] t is other = refl
none_given c (k ∷ ks) t is other =
    let rest = none_given c ks t is (λ m. other (inr m)) in
    let first : gives k.0 c ≡ false = false_from_ne_true (gives k.0 c) (λ e. other (inl (same_Some t k.0 (sym is ∙ (tags_test c.tag (Some k.0)).0 e)))) in
    let none : cond (gives k.0 c) 1 0 ≡ 0 = ap (λ b. let n : ℕ = cond b 1 0 in n) first in
    omega (arith, rest, none)

one_given : (m : FinMap tag_cmp (List Part)) (c : TagChange) (ks : List Kept) → AreUnkept m ks → gives_count c ks ≤ 1
one_given m c [] unkept = omega arith
one_given m c (k ∷ ks) unkept = by (gives k.0 c) refl (one_given (insert m k.0 k.1) c ks unkept.1)
  where
    by : (b : Bool) → gives k.0 c ≡ b → gives_count c ks ≤ 1 → cond b 1 0 + gives_count c ks ≤ 1
    by true e rest = let none = none_given c ks k.0 ((tags_test c.tag (Some k.0)).0 e) (not_again m k ks unkept) in omega (arith, none)
    by false e rest = omega (arith, rest)

-- one change more
count_step : (c : TagChange) (cs : List TagChange) (ks : List Kept) → member_count (classes_of (c ∷ cs) ks) ≡ gives_count c ks + member_count (classes_of cs ks)
count_step c cs [] = refl
count_step c cs (k ∷ ks) = by (gives k.0 c) (count_step c cs ks)
  where
    by : (b : Bool) → member_count (classes_of (c ∷ cs) ks) ≡ gives_count c ks + member_count (classes_of cs ks)
        → length (cond b (c.prefix ∷ members_of cs k.0) (members_of cs k.0)) + member_count (classes_of (c ∷ cs) ks) ≡ cond b 1 0 + gives_count c ks + (length (members_of cs k.0) + member_count (classes_of cs ks))
    by true rest = omega (arith, rest)
    by false rest = omega (arith, rest)

none_counted : (ks : List Kept) → member_count (classes_of [] ks) ≡ 0
none_counted [] = refl
none_counted (k ∷ ks) = let rest = none_counted ks in omega (arith, rest)

-- ---- as it is committed

-- the tags once the classes are given to their members, and others taken
pub tags_given : (m n u : TagsOf) (cs ds : List TagChange) (fs : List Class) → AreRising (map change_of cs) → HaveTags (tags_of (signed fs)) cs → fs ≡ classes_of cs (signed fs) → n ≡ given_all m fs → ds ≡ cs → u ≡ untagged n ds → u ≡ tags_with m cs
tags_given m n u cs ds fs rises fresh made given_is same untagged_is =
    untagged_is ∙ (λ i. untagged (given_is i) (same i)) ∙ ap (λ gs. untagged (given_all m gs) cs) made ∙ given_then_untagged m cs (signed fs) rises fresh

-- there are no more members than changes
pub members_are_few : (m : FinMap tag_cmp (List Part)) (cs : List TagChange) (ks : List Kept) → AreUnkept m ks → member_count (classes_of cs ks) ≤ length cs
members_are_few m [] ks unkept = let none = none_counted ks in omega (arith, none)
members_are_few m (c ∷ cs) ks unkept =
    let step = count_step c cs ks in
    let one = one_given m c ks unkept in
    let rest = members_are_few m cs ks unkept in
    omega (arith, step, one, rest)
