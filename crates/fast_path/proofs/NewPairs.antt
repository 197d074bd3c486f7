-- The pairs of the fresh tags are those that become live, and the signatures of all tags afterwards.
use Rattle.std.proofs.Common.{◌≡◌, ℕ, suc, ◌<◌, Bool, true, false, cond, List, [], ◌∷◌, length, filter, map, nat_eq, sym, ap, subst, ◌∙◌, refl, inl, inr}
use Rattle.std.specs.Prelude.{Option, Some, None, find, slice_get, is_some}
use Rattle.std.specs.FinMap.{get}
use Rattle.std.specs.List.{list_any}
use Rattle.std.specs.Option.{option_and_then, option_map_or}
use Rattle.std.proofs.lemmas.Bool.{false_from_ne_true, or_cases, or_left, or_right, not-false}
use Rattle.std.proofs.lemmas.Option.{slice_get_within, same_Some}
use Rattle.events.specs.Sound.{owners_part, part_of}
use Rattle.events.specs.State.{State, port_of, present, told_to}
use Rattle.events.specs.Tags.{Group, carried, free_tags, fresh_tag, group_of, groups, is_carried, is_changed, is_live, is_live_pair, retagged, same_group, same_tag, tells}
use Rattle.events.specs.declared.TagChange.{TagChange}
use Rattle.exchange_laws.proofs.FreshTags.{by_place, fresh_free, group_listed}
use Rattle.exchange_laws.proofs.Lists.{clash, place_of}
use Rattle.exchange_laws.proofs.LivePairs.{live_at, live_from, live_tag, port_Member, present_from, present_tag}
use Rattle.exchange_laws.proofs.OwnHops.{numbered_port}
use Rattle.exchange_laws.proofs.Parts.{signature_whole}
use Rattle.exchange_laws.proofs.RulesAfter.{part_kept}
use Rattle.exchange_laws.proofs.Sames.{signatures_test, tag_itself, tag_same}
use Rattle.exchange_laws.proofs.TagsAfter.{live_cases, live_of, live_tags_stay, signatures_are_kept, tags_are}
use Rattle.exchange_laws.specs.Rules.{IsChange}
use Rattle.exchange_laws.specs.Steady.{PortsDiffer}
use Rattle.exchange_laws.specs.Whole.{IsWhole, KeptAreWhole}
use Rattle.fast_path.proofs.ListPlaces.{get_mapped, get_taken, mapped_at, taken_at}
use Rattle.fast_path.proofs.PortsAndTags.{IsPortOf, found_number, number_listed, port_listed}
use Rattle.fast_path.proofs.SignatureParts.{IsSenders, has_part, part_senders, same_senders}
use Rattle.fast_path.specs.Building.{is_class_of, part_at, sig_after}
use Rattle.fast_path.specs.Committing.{Kept, class_of, classes_of, kept_of}
use Rattle.fast_path.specs.Grouping.{Known}
use Rattle.fast_path.specs.LiveOnly.{group_signatures, group_tags, registered}
use Rattle.fast_path.specs.Pairs.{class_pairs, fresh_pairs, pair_at, sender_pairs}
use Rattle.fast_path.specs.Planned.{group_kept}
use Rattle.fast_path.specs.declared.planned.Class.{Class}
use Rattle.net_types.proofs.FindLemmas.{any_at, find-IsFound, slice_get-Member}
use Rattle.net_types.proofs.PassLemmas.{is_some-any, some_there}
use Rattle.net_types.proofs.RisingLemmas.{filter-Member, once_of}
use Rattle.net_types.proofs.SetLemmas.{Member-map, Member-union, map-Member, union-Member}
use Rattle.net_types.specs.Exports.{Routing}
use Rattle.net_types.specs.Keys.{prefix_cmp}
use Rattle.net_types.specs.Maps.{ordered}
use Rattle.net_types.specs.Routes.{announced, best}
use Rattle.net_types.specs.Sets.{Member}
use Rattle.net_types.specs.Signatures.{signature}
use Rattle.net_types.specs.declared.address.Pid.{Pid}
use Rattle.net_types.specs.declared.address.PortNo.{PortNo}
use Rattle.net_types.specs.declared.address.Tag.{Tag}
use Rattle.net_types.specs.declared.prefix.Prefix.{Prefix}
use Rattle.net_types.specs.declared.route.Part.{Part}
use Rattle.net_types.specs.declared.route.PortInfo.{PortInfo}
use Rattle.net_types.specs.declared.rule.Pair.{Pair}
use Rattle.registry.specs.Registered.{Registered, ports_of}
use Rattle.fast_path.proofs.CommittedFresh.{kept_there}

-- ---- fresh tags with their signatures

-- they stand at one place
pub kept_place : (ts : List Tag) (sigs : List (List Part)) (x : Kept) → Member x (kept_of ts sigs) → (k : ℕ) × (slice_get ts k ≡ Some x.0) × (slice_get sigs k ≡ Some x.1)
kept_place [] sigs x m = elim m [ ]
kept_place (t ∷ ts) [] x m = elim m [ ]
kept_place (t ∷ ts) (sig ∷ sigs) x (inl e) = (0, ap (λ (y : Kept). Some y.0) (sym e), ap (λ (y : Kept). Some y.1) (sym e))
kept_place (t ∷ ts) (sig ∷ sigs) x (inr m) = let later = kept_place ts sigs x m in (suc later.0, later.1, later.2)

-- the signature in which a part is found
in_sig : (o : Option (List Part)) (who : Pid) (part : Part) → option_and_then (λ ps. part_of ps who) o ≡ Some part → (sig : List Part) × (o ≡ Some sig) × (part_of sig who ≡ Some part)
in_sig None who part e = absurd (cc)
in_sig (Some sig) who part e = (sig, refl, e)

module _ (s : State) (r : Routing) (change : IsChange s r) (own : PortsDiffer s.routing.ports) where
  abbrev s1 : State
  s1 = retagged s r

  abbrev names : Registered
  names = registered s

  same_port : (n : PortNo) → port_of s1 n ≡ port_of s n
  same_port n = ap (λ ports. port_of (record s { routing = record r { ports = ports } }) n) change.alike.ports

  declared : (q : PortInfo) → Member q s.routing.ports → q.owner.0 < length r.participants
  declared q m = subst (λ ms. q.owner.0 < length ms) (sym change.alike.participants) (change.owners q m)

  -- ---- the prefixes of a group

  -- a prefix with the tag, which is fresh, and with the signature
  record HasFresh (sig : List Part) (t : Tag) : Type 0 where
    prefix : Prefix
    signed : signature r prefix ≡ sig
    tagged : get s1.tag prefix ≡ Some t
    unused : is_live s t ≡ false

  of_group : (g : Group) (t : Tag) → Member g (groups s r) → fresh_tag s r g ≡ Some t → HasFresh g.after t
  of_group g t m fresh =
      let image = map-Member (group_of s r) (filter (is_changed s r) (carried r)) g (once_of same_group (map (group_of s r) (filter (is_changed s r) (carried r))) g m) in
      let p : Prefix = image.of in
      let outer = filter-Member (is_changed s r) (carried r) p image.stands in
      let inner = filter-Member (is_carried r) (ordered prefix_cmp (announced r)) p outer.stands in
      record {
        prefix = p;
        signed = ap (λ (x : Group). x.after) (sym image.is);
        tagged = tags_are s r p ∙ ap (λ b. cond b (cond (is_changed s r p) (fresh_tag s r (group_of s r p)) (get s.tag p)) None) inner.passes
            ∙ ap (λ b. cond b (fresh_tag s r (group_of s r p)) (get s.tag p)) outer.passes ∙ ap (fresh_tag s r) (sym image.is) ∙ fresh;
        unused = (fresh_free s r g t fresh).unused;
      }

  at_place : (k : ℕ) (sig : List Part) (t : Tag) → slice_get (group_signatures s r) k ≡ Some sig → slice_get (group_tags s r) k ≡ Some t → HasFresh sig t
  at_place k sig t signed tagged =
      let g = get_mapped (λ (x : Group). x.after) (groups s r) k sig signed in
      subst (λ x. HasFresh x t) g.2 (of_group g.0 t (slice_get-Member (groups s r) k g.0 g.1) (by_place s r k g.0 g.1 ∙ get_taken (length (groups s r)) (free_tags s) k t tagged))

  -- ---- each pair

  -- the pair becomes live
  record IsNew (pair : Pair) : Type 0 where
    live : is_live_pair s1 pair ≡ true
    dead : is_live_pair s pair ≡ false

  one_new : (sig : List Part) (t : Tag) (x : Part) (n : PortNo) → HasFresh sig t → Member x sig → Member n (ports_of names x.sender) → IsNew (pair_at t n)
  one_new sig t x n fresh stands at = record {
    live = live_from s1 (pair_at t n) port.port found (or_right (tells (told_to s port.port.owner) t) (tells (present s1 port.port.owner) t)
        (present_from s1 port.port.owner fresh.prefix t (subst (λ w. is_some (best r w fresh.prefix) ≡ true) (sym port.owner) senders.routed) fresh.tagged));
    dead = false_from_ne_true (is_live_pair s (pair_at t n)) (λ live. clash (live_tag s (pair_at t n) live) fresh.unused);
  }
    where
      port : IsPortOf s x.sender n
      port = port_listed s x.sender n at

      found : port_of s1 n ≡ Some port.port
      found = same_port n ∙ ap (port_of s) port.number ∙ numbered_port s.routing.ports own port.port port.port.number.0 port.stands refl

      senders : IsSenders r fresh.prefix x
      senders = part_senders r fresh.prefix x (subst (Member x) (sym fresh.signed) stands)

  -- the classes of the fresh tags, by some changes
  module _ (cs : List TagChange) where
    abbrev pub made : List Class
    made = classes_of cs (group_kept s r)

    -- the class stands for a fresh tag
    class_fresh : (c : Class) → Member c made → HasFresh c.sig c.tag
    class_fresh c m =
        let image = map-Member (class_of cs) (group_kept s r) c m in
        let place = kept_place (group_tags s r) (group_signatures s r) image.of image.stands in
        subst (λ (d : Class). HasFresh d.sig d.tag) (sym image.is) (at_place place.0 image.of.1 image.of.0 place.2 place.1)

    each_new : (pair : Pair) → Member pair (fresh_pairs names made) → IsNew pair
    each_new pair m =
        let of_class = union-Member (class_pairs names) made pair m in
        let c : Class = of_class.of in
        let of_part = union-Member (sender_pairs names c.tag) c.sig pair of_class.gives in
        let image = map-Member (pair_at c.tag) (ports_of names of_part.of.sender) pair of_part.gives in
        subst IsNew (sym image.is) (one_new c.sig c.tag of_part.of image.of (class_fresh c of_class.stands) of_part.stands image.stands)

    -- the class of a group
    pub group_class : (g : Group) (t : Tag) → Member g (groups s r) → fresh_tag s r g ≡ Some t → (c : Class) × (c.tag ≡ t) × (c.sig ≡ g.after) × Member c made
    group_class g t m fresh =
        let place = place_of (groups s r) g m in
        let signed : slice_get (group_signatures s r) place.0 ≡ Some g.after = mapped_at (λ (x : Group). x.after) (groups s r) place.0 g place.1 in
        let tagged : slice_get (group_tags s r) place.0 ≡ Some t = taken_at (length (groups s r)) (free_tags s) place.0 t (slice_get_within (groups s r) place.0 g place.1) (sym (by_place s r place.0 g place.1) ∙ fresh) in
        let k : Kept = (t, g.after) in
        (class_of cs k, refl, refl, Member-map (class_of cs) (group_kept s r) k (kept_there (group_tags s r) (group_signatures s r) place.0 t g.after tagged signed))

    -- ---- all of them

    module _ (pair : Pair) (dead : is_live_pair s pair ≡ false) (q : PortInfo) (at : port_of s pair.port ≡ Some q) (p : Prefix) (tagged : get s1.tag p ≡ Some pair.tag) (routed : is_some (best r q.owner p) ≡ true) where
      -- a prefix that keeps its tag keeps its signature
      not_kept : is_changed s r p ≡ false → get s.tag p ≡ Some pair.tag → ⊥
      not_kept same before =
          let kept = (signatures_test (option_and_then (get s.kept) (get s.tag p)) (Some (signature r p))).0 (not-false _ same) in
          let alike : signature r p ≡ signature s.routing p = same_Some (signature r p) (signature s.routing p) (sym kept ∙ ap (option_and_then (get s.kept)) before ∙ change.tagged.kept p pair.tag before) in
          clash (live_from s pair q at (or_right (tells (told_to s q.owner) pair.tag) (tells (present s q.owner) pair.tag)
          (present_from s q.owner p pair.tag (same_senders r s.routing p p q.owner alike (declared q (port_Member s pair q at)) routed) before))) dead

      by_fresh : is_carried r p ≡ true → is_changed s r p ≡ true → fresh_tag s r (group_of s r p) ≡ Some pair.tag → Member pair (fresh_pairs names made)
      by_fresh is changed fresh =
          let made_for = group_class (group_of s r p) pair.tag (group_listed s r p is changed) fresh in
          let c : Class = made_for.0 in
          let has = has_part r p q.owner (declared q (port_Member s pair q at)) routed in
          let listed : Member pair.port (ports_of names has.part.sender) = subst (λ w. Member pair.port (ports_of names w)) (sym has.sender)
          (subst (λ n. Member n (ports_of names q.owner)) (sym (found_number s pair.port q at)) (number_listed s q (port_Member s pair q at))) in
          let here : Member pair (sender_pairs names pair.tag has.part) = Member-map (pair_at pair.tag) (ports_of names has.part.sender) pair.port listed in
          Member-union (class_pairs names) made c pair made_for.3
          (Member-union (sender_pairs names c.tag) c.sig has.part pair (subst (Member has.part) (sym made_for.2) has.stands) (subst (λ u. Member pair (sender_pairs names u has.part)) (sym made_for.1) here))

      from_tag : Member pair (fresh_pairs names made)
      from_tag = by (is_carried r p) (is_changed s r p) refl refl (sym (tags_are s r p) ∙ tagged)
        where
          by : (c d : Bool) → is_carried r p ≡ c → is_changed s r p ≡ d → cond c (cond d (fresh_tag s r (group_of s r p)) (get s.tag p)) None ≡ Some pair.tag → Member pair (fresh_pairs names made)
          by true true is changed e = by_fresh is changed e
          by true false is same e = absurd (not_kept same e)
          by false d is changed e = absurd (cc)

    all_new : (pair : Pair) → is_live_pair s1 pair ≡ true → is_live_pair s pair ≡ false → Member pair (fresh_pairs names made)
    all_new pair live dead =
        let there = live_at s1 pair live in
        let q : PortInfo = there.0 in
        let at : port_of s pair.port ≡ Some q = sym (same_port pair.port) ∙ there.1.port in
        elim (or_cases (tells (told_to s q.owner) pair.tag) (tells (present s1 q.owner) pair.tag) there.1.for) [
          | inl told ↦ absurd (clash (live_from s pair q at (or_left (tells (told_to s q.owner) pair.tag) (tells (present s q.owner) pair.tag) told)) dead)
          | inr now ↦ let p = present_tag s1 q.owner pair.tag now in from_tag pair dead q at p.0 p.1.tagged (ap is_some p.1.best_is)
        ]

    -- the pairs of the fresh tags are those that become live
    pub new_pairs_each : (pair : Pair) → Member pair (fresh_pairs names made) → (is_live_pair s1 pair ≡ true) × (is_live_pair s pair ≡ false)
    new_pairs_each pair m = let is = each_new pair m in (is.live, is.dead)

    pub new_pairs_all : (pair : Pair) → is_live_pair s1 pair ≡ true → is_live_pair s pair ≡ false → Member pair (fresh_pairs names made)
    new_pairs_all pair live dead = all_new pair live dead

    -- ---- signatures afterwards

    -- where no class is the tag's, it was live
    not_fresh : (t : Tag) → is_live s1 t ≡ true → ((c : Class) → Member c made → c.tag ≡ t → ⊥) → is_live s t ≡ true
    not_fresh t live none = elim (live_cases s1 t live) [
      | inl has ↦ from has.prefix (is_carried r has.prefix) (is_changed s r has.prefix) refl refl (sym (tags_are s r has.prefix) ∙ has.tagged)
      | inr told ↦ or_right _ _ told
    ]
      where
        from : (p : Prefix) (c d : Bool) → is_carried r p ≡ c → is_changed s r p ≡ d → cond c (cond d (fresh_tag s r (group_of s r p)) (get s.tag p)) None ≡ Some t → is_live s t ≡ true
        from p true true is changed e = let made_for = group_class (group_of s r p) t (group_listed s r p is changed) e in absurd (none made_for.0 made_for.3 made_for.1)
        from p true false is same e = live_of s p t e
        from p false d is changed e = absurd (cc)

    -- the signature of a live tag is its class's, or the one that was kept
    record HasSig (t : Tag) (sig : List Part) : Type 0 where
      is : get s1.kept t ≡ Some sig
      whole : KeptAreWhole s → (part : Part) → Member part sig → IsWhole (length s.routing.participants) part

    class_sig : (c : Class) (t : Tag) → Member c made → c.tag ≡ t → HasSig t c.sig
    class_sig c t m same =
        let fresh = class_fresh c m in
        record {
          is = ap (get s1.kept) (sym same) ∙ signatures_are_kept s r change.pooled fresh.prefix c.tag fresh.tagged ∙ ap Some fresh.signed;
          whole = λ kept part stands.
              subst (λ ms. IsWhole (length ms) part) change.alike.participants (signature_whole r fresh.prefix part (subst (Member part) (sym fresh.signed) stands));
        }

    none_made : (t : Tag) → find (is_class_of t) made ≡ None → (c : Class) → Member c made → c.tag ≡ t → ⊥
    none_made t e c m same =
        let any : list_any (is_class_of t) made ≡ true = any_at (is_class_of t) made c m (ap (λ u. same_tag u t) same ∙ tag_itself t) in
        clash any (sym (is_some-any (is_class_of t) made) ∙ ap is_some e)

    sig_is : (t : Tag) → is_live s1 t ≡ true → (o : Option Class) → find (is_class_of t) made ≡ o → option_map_or (λ (c : Class). Some c.sig) o (get s.kept t) ≡ get s1.kept t
    sig_is t live None e = sym (live_tags_stay s r change.pooled t (not_fresh t live (none_made t e)) live)
    sig_is t live (Some c) e = let found = find-IsFound (is_class_of t) made c e in sym (class_sig c t found.stands (tag_same c.tag t found.passes)).is

    pub sig_after_is : (k : Known) → k.kept ≡ s.kept → (t : Tag) → is_live s1 t ≡ true → sig_after k made t ≡ get s1.kept t
    sig_after_is k kept t live = ap (λ m. option_map_or (λ (c : Class). Some c.sig) (find (is_class_of t) made) (get m t)) kept ∙ sig_is t live (find (is_class_of t) made) refl

    sig_whole : KeptAreWhole s → (t : Tag) → is_live s1 t ≡ true → (sig : List Part) → get s1.kept t ≡ Some sig → (part : Part) → Member part sig → IsWhole (length s.routing.participants) part
    sig_whole whole t live sig is part m = by (find (is_class_of t) made) refl
      where
        by : (o : Option Class) → find (is_class_of t) made ≡ o → IsWhole (length s.routing.participants) part
        by None e = whole t sig (sym (live_tags_stay s r change.pooled t (not_fresh t live (none_made t e)) live) ∙ is) part m
        by (Some c) e =
            let found = find-IsFound (is_class_of t) made c e in
            let has = class_sig c t found.stands (tag_same c.tag t found.passes) in
            has.whole whole part (subst (Member part) (same_Some sig c.sig (sym is ∙ has.is)) m)

    -- the part of the owner of a live pair's port is found, and rules can be built of it
    pub record HasOwners (k : Known) (pair : Pair) : Type 0 where
      pub part : Part
      pub is : part_at names k made pair ≡ Some part
      pub owns : owners_part s1 pair ≡ Some part
      pub whole : IsWhole (length s.routing.participants) part

    pub owners_found : (k : Known) → k.kept ≡ s.kept → KeptAreWhole s → (pair : Pair) → is_live_pair s1 pair ≡ true → HasOwners k pair
    owners_found k kept whole pair live =
        let there = some_there (owners_part s1 pair) (part_kept s r change pair live) in
        let at = live_at s1 pair live in
        let tag_lives : is_live s1 pair.tag ≡ true = live_tag s1 pair live in
        let sig : (sigs : List Part) × (get s1.kept pair.tag ≡ Some sigs) × (part_of sigs at.0.owner ≡ Some there.0) = in_sig (get s1.kept pair.tag) at.0.owner there.0 (sym (ap (option_and_then (λ (y : PortInfo). option_and_then (λ ps. part_of ps y.owner) (get s1.kept pair.tag))) at.1.port) ∙ there.1) in
        record {
          part = there.0;
          is = ap (λ o. option_and_then (λ (y : PortInfo). option_and_then (λ ps. part_of ps y.owner) o) (port_of s pair.port)) (sig_after_is k kept pair.tag tag_lives)
              ∙ ap (option_and_then (λ (y : PortInfo). option_and_then (λ ps. part_of ps y.owner) (get s1.kept pair.tag))) (sym (same_port pair.port)) ∙ there.1;
          owns = there.1;
          whole = sig_whole whole pair.tag tag_lives sig.0 sig.1 there.0 (find-IsFound (λ (x : Part). nat_eq x.sender.0 at.0.owner.0) sig.0 there.0 sig.2).stands;
        }
