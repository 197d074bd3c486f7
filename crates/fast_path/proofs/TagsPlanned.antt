-- The groups and the tags that are found by what is known of the touched prefixes are those of the state.
use Rattle.std.proofs.Common.{◌≡◌, ℕ, suc, ◌+◌, ◌<◌, Bool, true, false, cond, ◌&&◌, ◌||◌, not, List, [], ◌∷◌, ◌++◌, map, length, filter, take, sym, ap, subst, ◌∙◌, refl, arith}
use Rattle.std.specs.Prelude.{Option, Some, None, is_some, slice_get}
use Rattle.std.specs.FinMap.{get}
use Rattle.std.specs.List.{list_any, filter_map, cons_option, position_from}
use Rattle.std.specs.Option.{option_and_then, option_map}
use Rattle.std.proofs.Math.Bool.{or-false}
use Rattle.std.proofs.lemmas.List.{append_assoc, append-nil}
use Rattle.net_types.specs.Attributes.{same_option}
use Rattle.net_types.specs.Exports.{Routing}
use Rattle.net_types.specs.Routes.{Candidate, best, pids}
use Rattle.net_types.specs.Signatures.{offers, part, signature}
use Rattle.net_types.specs.declared.address.Pid.{Pid}
use Rattle.net_types.specs.declared.address.Tag.{Tag}
use Rattle.net_types.specs.declared.prefix.Prefix.{Prefix}
use Rattle.net_types.specs.declared.route.Part.{Part}
use Rattle.events.specs.Fits.{tag_changes}
use Rattle.events.specs.State.{State}
use Rattle.net_types.specs.Maps.{each_once}
use Rattle.events.specs.Tags.{Group, free_tags, fresh_tag, group_of, groups, is_carried, is_changed, new_tag, retagged, same_group, same_tag}
use Rattle.events.specs.declared.TagChange.{TagChange}
use Rattle.exchange_laws.specs.Touched.{IsTouching, tag_changes_among}
use Rattle.exchange_laws.proofs.Lists.{clash}
use Rattle.exchange_laws.proofs.Sames.{group_itself, group_same}
use Rattle.exchange_laws.proofs.TagsAfter.{tags_are}
use Rattle.exchange_laws.proofs.TouchedPrefixes.{touched_have_changes, touched_have_groups}
use Rattle.fast_path.specs.Grouping.{Known, group_before, groups_of, is_empty, is_kept_sig, is_moved, more_groups, moved_groups, same_class, tag_after}
use Rattle.fast_path.specs.Offers.{others, tagged}
use Rattle.fast_path.specs.declared.fresh.Fresh.{Fresh}
use Rattle.fast_path.proofs.CommittedMaps.{get_front}
use Rattle.fast_path.proofs.GroupLemmas.{place_among}
use Rattle.net_types.proofs.PassLemmas.{filter_twice, same_any}
use Rattle.std.proofs.lemmas.Option.{same_Some}
use Rattle.std.proofs.lemmas.List.Elements.{filter_agree}

-- ---- a signature has parts where somebody has a best route

empty_parts : (f : Pid → Option Part) (xs : List Pid) → is_empty (filter_map f xs) ≡ not (list_any (λ x. is_some (f x)) xs)
empty_parts f [] = refl
empty_parts f (x ∷ xs) = by (f x) (empty_parts f xs)
  where
    by : (o : Option Part) → is_empty (filter_map f xs) ≡ not (list_any (λ y. is_some (f y)) xs) → is_empty (cons_option o (filter_map f xs)) ≡ not (is_some o || list_any (λ y. is_some (f y)) xs)
    by None later = later
    by (Some y) later = refl

part_some : (r : Routing) (p : Prefix) (to : Pid) (o : Option Candidate) → is_some (option_map (λ (c : Candidate). let x : Part = record { sender = to; best = c.from; offers = offers r p to c.from } in x) o) ≡ is_some o
part_some r p to None = refl
part_some r p to (Some c) = refl

pub empty_uncarried : (r : Routing) (p : Prefix) → is_empty (signature r p) ≡ not (is_carried r p)
empty_uncarried r p = empty_parts (part r p) (pids r) ∙ ap not (same_any (λ to. is_some (part r p to)) (λ to. is_some (best r to p)) (pids r) (λ to. part_some r p to (best r to p)))

-- ---- groups, each once

-- a group that is not one of these
abbrev is_other : List Group → Group → Bool
is_other gs y = not (list_any (same_group y) gs)

any_last : (y x : Group) (gs : List Group) → list_any (same_group y) (gs ++ x ∷ []) ≡ (list_any (same_group y) gs || same_group y x)
any_last y x [] = or-false (same_group y x)
any_last y x (g ∷ gs) = by (same_group y g) (any_last y x gs)
  where
    by : (b : Bool) → list_any (same_group y) (gs ++ x ∷ []) ≡ (list_any (same_group y) gs || same_group y x) → (b || list_any (same_group y) (gs ++ x ∷ [])) ≡ ((b || list_any (same_group y) gs) || same_group y x)
    by true later = refl
    by false later = later

flip : (x y : Group) → same_group x y ≡ true → same_group y x ≡ true
flip x y e = subst (λ z. same_group z x ≡ true) (group_same x y e) (group_itself x)

symmetric : (x y : Group) → same_group y x ≡ same_group x y
symmetric x y = by (same_group x y) refl (same_group y x) refl
  where
    by : (b : Bool) → same_group x y ≡ b → (c : Bool) → same_group y x ≡ c → same_group y x ≡ same_group x y
    by true e true f = f ∙ sym e
    by true e false f = absurd (clash (flip x y e) f)
    by false e true f = absurd (clash (flip y x f) e)
    by false e false f = f ∙ sym e

-- where x is one of the groups, what is the same as x is one of them too
already : (gs : List Group) (x y : Group) → list_any (same_group x) gs ≡ true → (not (same_group x y) && is_other gs y) ≡ is_other gs y
already gs x y there = by (same_group x y) refl
  where
    by : (b : Bool) → same_group x y ≡ b → (not b && is_other gs y) ≡ is_other gs y
    by false e = refl
    by true e = sym (ap not (subst (λ z. list_any (same_group z) gs ≡ true) (group_same x y e) there))

-- where x is put behind the groups, the others are those that are not the same as x either
besides_last : (gs : List Group) (x y : Group) → is_other (gs ++ x ∷ []) y ≡ (not (same_group x y) && is_other gs y)
besides_last gs x y = ap not (any_last y x gs) ∙ ap (λ b. not (list_any (same_group y) gs || b)) (symmetric x y) ∙ by (list_any (same_group y) gs) (same_group x y)
  where
    by : (a b : Bool) → not (a || b) ≡ (not b && not a)
    by true true = refl
    by true false = refl
    by false true = refl
    by false false = refl

more_with : (gs xs : List Group) (x : Group) (b : Bool) → list_any (same_group x) gs ≡ b → ((hs : List Group) → more_groups hs xs ≡ hs ++ filter (is_other hs) (each_once same_group xs))
    → more_groups (cond b gs (gs ++ x ∷ [])) xs ≡ gs ++ cond (not b) (x ∷ filter (is_other gs) (filter (λ y. not (same_group x y)) (each_once same_group xs))) (filter (is_other gs) (filter (λ y. not (same_group x y)) (each_once same_group xs)))
more_with gs xs x true there later =
    later gs ∙ ap (λ ys. gs ++ ys) (sym (filter_twice (is_other gs) (λ y. not (same_group x y)) (each_once same_group xs)
    ∙ filter_agree (λ y. not (same_group x y) && is_other gs y) (is_other gs) (λ y. already gs x y there) (each_once same_group xs)))
more_with gs xs x false there later =
    later (gs ++ x ∷ []) ∙ append_assoc gs (x ∷ []) (filter (is_other (gs ++ x ∷ [])) (each_once same_group xs))
    ∙ ap (λ ys. gs ++ x ∷ ys) (filter_agree (is_other (gs ++ x ∷ [])) (λ y. not (same_group x y) && is_other gs y) (λ y. besides_last gs x y) (each_once same_group xs)
    ∙ sym (filter_twice (is_other gs) (λ y. not (same_group x y)) (each_once same_group xs)))

-- behind the groups so far come those that are none of them, each once
more_is : (gs xs : List Group) → more_groups gs xs ≡ gs ++ filter (is_other gs) (each_once same_group xs)
more_is gs [] = sym (append-nil gs)
more_is gs (x ∷ xs) = more_with gs xs x (list_any (same_group x) gs) refl (λ hs. more_is hs xs)

all_pass : (xs : List Group) → filter (is_other []) xs ≡ xs
all_pass [] = refl
all_pass (x ∷ xs) = ap (λ ys. x ∷ ys) (all_pass xs)

pub all_once : (xs : List Group) → more_groups [] xs ≡ each_once same_group xs
all_once xs = more_is [] xs ∙ all_pass (each_once same_group xs)

-- ---- of a state

-- what is known of a state
abbrev pub known_of : State → Known
known_of s = record { tag = s.tag; kept = s.kept }

moved_is : (s : State) (r : Routing) (p : Prefix) → is_moved (known_of s) p (signature r p) ≡ (is_carried r p && is_changed s r p)
moved_is s r p = ap (λ b. not b && is_changed s r p) (empty_uncarried r p) ∙ ap (λ b. b && is_changed s r p) (not_not (is_carried r p))
  where
    not_not : (b : Bool) → not (not b) ≡ b
    not_not true = refl
    not_not false = refl

pub moved_are : (s : State) (r : Routing) (ps : List Prefix) → moved_groups (known_of s) ps (map (signature r) ps) ≡ map (group_of s r) (filter (λ p. is_carried r p && is_changed s r p) ps)
moved_are s r [] = refl
moved_are s r (p ∷ ps) =
    ap (λ b. group_before b (group_of s r p) (moved_groups (known_of s) ps (map (signature r) ps))) (moved_is s r p)
    ∙ ap (group_before (is_carried r p && is_changed s r p) (group_of s r p)) (moved_are s r ps)
    ∙ by (is_carried r p && is_changed s r p)
  where
    by : (b : Bool) → group_before b (group_of s r p) (map (group_of s r) (filter (λ q. is_carried r q && is_changed s r q) ps)) ≡ map (group_of s r) (cond b (p ∷ filter (λ q. is_carried r q && is_changed s r q) ps) (filter (λ q. is_carried r q && is_changed s r q) ps))
    by true = refl
    by false = refl

-- the groups that are found are those of the state
pub groups_found : (s : State) (r : Routing) (ps : List Prefix) → IsTouching s r ps → more_groups [] (moved_groups (known_of s) ps (map (signature r) ps)) ≡ groups s r
groups_found s r ps touching =
    all_once (moved_groups (known_of s) ps (map (signature r) ps)) ∙ ap (each_once same_group) (moved_are s r ps) ∙ sym (touched_have_groups s r ps touching)

-- ---- tags

place_within : {A : Type 0} (test : A → Bool) (n : ℕ) (xs : List A) (k : ℕ) → position_from test n xs ≡ Some k → k < n + length xs
place_within test n [] k e = cc
place_within test n (x ∷ xs) k e = by (test x) (place_within test (n + 1) xs k) e
  where
    by : (b : Bool) → (position_from test (n + 1) xs ≡ Some k → k < n + 1 + length xs) → cond b (Some n) (position_from test (n + 1) xs) ≡ Some k → k < n + suc (length xs)
    by true later e = let same : n ≡ k = same_Some n k e in omega arith
    by false later e = let below : k < n + 1 + length xs = later e in omega arith

front_place : (ts : List Tag) (n : ℕ) (o : Option ℕ) → ((k : ℕ) → o ≡ Some k → k < n) → option_and_then (slice_get (take n ts)) o ≡ option_and_then (slice_get ts) o
front_place ts n None within = refl
front_place ts n (Some k) within = get_front n ts k (within k refl)

module _ (s : State) (r : Routing) (fs : List Fresh) (ts : List Tag) (are : groups_of fs ≡ groups s r) (given : ts ≡ take (length (groups s r)) (free_tags s)) where
  class_tag : (p : Prefix) → option_and_then (slice_get ts) (position_from (same_class (get s.tag p) (signature r p)) 0 fs) ≡ fresh_tag s r (group_of s r p)
  class_tag p =
      let place : Option ℕ = position_from (same_group (group_of s r p)) 0 (groups s r) in
      ap (option_and_then (slice_get ts)) (place_among (get s.tag p) (signature r p) 0 fs ∙ ap (position_from (same_group (group_of s r p)) 0) are)
      ∙ ap (λ us. option_and_then (slice_get us) place) given
      ∙ front_place (free_tags s) (length (groups s r)) place (λ k e. let below : k < 0 + length (groups s r) = place_within (same_group (group_of s r p)) 0 (groups s r) k e in omega arith)

  tag_is : (p : Prefix) → tag_after (known_of s) fs ts p (signature r p) ≡ new_tag s r p
  tag_is p =
      ap (λ b. cond b None (cond (is_kept_sig (known_of s) p (signature r p)) (get s.tag p) (option_and_then (slice_get ts) (position_from (same_class (get s.tag p) (signature r p)) 0 fs)))) (empty_uncarried r p)
      ∙ ap (λ o. cond (not (is_carried r p)) None (cond (is_kept_sig (known_of s) p (signature r p)) (get s.tag p) o)) (class_tag p)
      ∙ by (is_carried r p) (is_kept_sig (known_of s) p (signature r p))
    where
      by : (b c : Bool) → cond (not b) None (cond c (get s.tag p) (fresh_tag s r (group_of s r p))) ≡ cond b (cond (not c) (fresh_tag s r (group_of s r p)) (get s.tag p)) None
      by true true = refl
      by true false = refl
      by false c = refl

  tagged_new : (ps : List Prefix) → tagged (known_of s) fs ts ps (map (signature r) ps) ≡ map (λ p. let c : TagChange = record { prefix = p; tag = new_tag s r p } in c) ps
  tagged_new [] = refl
  tagged_new (p ∷ ps) = λ i. record { prefix = p; tag = tag_is p i } ∷ tagged_new ps i

  others_new : (ps : List Prefix) → others (known_of s) (map (λ p. let c : TagChange = record { prefix = p; tag = new_tag s r p } in c) ps) ≡ tag_changes_among s r ps
  others_new [] = refl
  others_new (p ∷ ps) = by (same_option same_tag (get s.tag p) (new_tag s r p)) (others_new ps)
    where
      by : (b : Bool) → others (known_of s) (map (λ q. let c : TagChange = record { prefix = q; tag = new_tag s r q } in c) ps) ≡ tag_changes_among s r ps
          → cond (not b) (record { prefix = p; tag = new_tag s r p } ∷ others (known_of s) (map (λ q. let c : TagChange = record { prefix = q; tag = new_tag s r q } in c) ps)) (others (known_of s) (map (λ q. let c : TagChange = record { prefix = q; tag = new_tag s r q } in c) ps))
          ≡ map (λ q. let c : TagChange = record { prefix = q; tag = new_tag s r q } in c) (cond (not b) (p ∷ filter (λ q. not (same_option same_tag (get s.tag q) (new_tag s r q))) ps) (filter (λ q. not (same_option same_tag (get s.tag q) (new_tag s r q))) ps))
      by true later = later
      by false later = ap (λ cs. record { prefix = p; tag = new_tag s r p } ∷ cs) later

  -- the touched prefixes have the tags of the state afterwards
  pub tagged_are : (ps : List Prefix) → tagged (known_of s) fs ts ps (map (signature r) ps) ≡ map (λ p. let c : TagChange = record { prefix = p; tag = get (retagged s r).tag p } in c) ps
  tagged_are ps = tagged_new ps ∙ (λ i. map (λ p. let c : TagChange = record { prefix = p; tag = sym (tags_are s r p) i } in c) ps)

  -- the changes that are found are those of the state's tags
  pub changes_found : (ps : List Prefix) → IsTouching s r ps → others (known_of s) (tagged (known_of s) fs ts ps (map (signature r) ps)) ≡ tag_changes s.tag (retagged s r).tag
  changes_found ps touching = ap (others (known_of s)) (tagged_new ps) ∙ others_new ps ∙ sym (touched_have_changes s r ps touching)
