-- All that a change of routes brings is found among the touched prefixes.
use Rattle.std.proofs.Common.{◌≡◌, ◌⊎◌, ◌<◌, Bool, true, false, ◌&&◌, not, List, ◌++◌, filter, length, map, sym, ap, ◌∙◌, refl, arith, inl, inr}
use Rattle.std.specs.Prelude.{Option, Some, None, is_some}
use Rattle.std.specs.FinMap.{get, keys}
use Rattle.std.specs.List.{list_any}
use Rattle.std.specs.Option.{option_and_then, option_map}
use Rattle.std.specs.Ordering.{eq_by_cmp}
use Rattle.std.proofs.lemmas.Bool.{and_from, and_parts, or_cases, or_left, or_right}
use Rattle.net_types.proofs.OrderedLemmas.{any_member, member_any, ordered_rises, ordered_same}
use Rattle.events.specs.State.{State, port_of, present, present_entry, told_to}
use Rattle.events.specs.declared.Entry.{Entry}
use Rattle.events.specs.Tags.{group_of, is_carried, is_changed, is_live_pair, retagged, same_group, same_tag, tells}
use Rattle.events.specs.declared.TagChange.{TagChange}
use Rattle.exchange_laws.proofs.FreshTags.{carried_listed}
use Rattle.exchange_laws.proofs.Lists.{clash, is_some_of, key_Member}
use Rattle.exchange_laws.proofs.LivePairs.{live_at, live_from, port_Member, present_from, present_is, present_tag}
use Rattle.exchange_laws.proofs.Sames.{signature_itself, tag_itself}
use Rattle.exchange_laws.proofs.TagsAfter.{tags_are}
use Rattle.exchange_laws.proofs.Untouched.{keeps_tag, unchanged}
use Rattle.exchange_laws.specs.Touched.{GonePairsAreTouched, IsLiveBy, IsTouching, NewPairsAreTouched, OthersKeepTags, OthersStayPresent, TouchedHaveChanges, TouchedHaveGroups}
use Rattle.net_types.proofs.EqualLemmas.{optional_test, signature_test}
use Rattle.net_types.proofs.FindLemmas.{is_some-map}
use Rattle.net_types.proofs.OrderLemmas.{prefix_tie, prefixes_total}
use Rattle.net_types.proofs.PassLemmas.{place_member}
use Rattle.net_types.proofs.RisingLemmas.{Member-filter, before, before_itself, before_trans, filter-IsRising, filter-Member}
use Rattle.net_types.proofs.SameLemmas.{option_itself}
use Rattle.net_types.proofs.SetLemmas.{Member-append_left, Member-append_right, rising_unique}
use Rattle.net_types.specs.Attributes.{same_attrs, same_option, same_signature}
use Rattle.net_types.specs.Changes.{best_attrs}
use Rattle.net_types.specs.Exports.{Routing}
use Rattle.net_types.specs.Keys.{prefix_cmp}
use Rattle.net_types.specs.Maps.{each_once, ordered}
use Rattle.net_types.specs.Routes.{Candidate, announced, best}
use Rattle.net_types.specs.Sets.{IsRising, Member, SameMembers}
use Rattle.net_types.specs.Signatures.{signature}
use Rattle.net_types.specs.declared.address.Pid.{Pid}
use Rattle.net_types.specs.declared.address.PortNo.{PortNo}
use Rattle.net_types.specs.declared.address.Tag.{Tag}
use Rattle.net_types.specs.declared.prefix.Prefix.{Prefix}
use Rattle.net_types.specs.declared.route.Attrs.{Attrs}
use Rattle.net_types.specs.declared.route.PortInfo.{PortInfo}
use Rattle.net_types.specs.declared.rule.Pair.{Pair}

-- prefixes in order that have the same members are the same list
one_list : (ps qs : List Prefix) → IsRising (before prefix_cmp) ps → IsRising (before prefix_cmp) qs → SameMembers ps qs → ps ≡ qs
one_list = rising_unique (before prefix_cmp) (before_itself prefix_cmp prefixes_total) (before_trans prefix_cmp prefixes_total)

module _ (s : State) (r : Routing) (ps : List Prefix) (touching : IsTouching s r ps) where
  abbrev s1 : State
  s1 = retagged s r

  touched_or_not : (p : Prefix) → Member p ps ⊎ (Member p ps → ⊥)
  touched_or_not p = by (list_any (eq_by_cmp prefix_cmp p) ps) refl
    where
      by : (b : Bool) → list_any (eq_by_cmp prefix_cmp p) ps ≡ b → Member p ps ⊎ (Member p ps → ⊥)
      by true is = inl (any_member prefix_cmp prefixes_total prefix_tie p ps is)
      by false is = inr (λ m. clash (member_any prefix_cmp prefixes_total prefix_tie p ps m) is)

  -- another prefix has the same signature
  same_signature_for : (p : Prefix) → (Member p ps → ⊥) → signature r p ≡ signature s.routing p
  same_signature_for p other = by (same_signature (signature s.routing p) (signature r p)) refl
    where
      by : (b : Bool) → same_signature (signature s.routing p) (signature r p) ≡ b → signature r p ≡ signature s.routing p
      by true is = sym ((signature_test (signature s.routing p) (signature r p)).0 is)
      by false is = absurd (other (touching.touched.all p (inl (λ e. clash (ap (same_signature (signature s.routing p)) (sym e) ∙ signature_itself (signature s.routing p)) is))))

  -- and best routes with the same attributes
  same_best : (p : Prefix) (who : Pid) → who.0 < length s.routing.participants → (Member p ps → ⊥) → best_attrs r who p ≡ best_attrs s.routing who p
  same_best p who declared other = by (same_option same_attrs (best_attrs s.routing who p) (best_attrs r who p)) refl
    where
      by : (b : Bool) → same_option same_attrs (best_attrs s.routing who p) (best_attrs r who p) ≡ b → best_attrs r who p ≡ best_attrs s.routing who p
      by true is = sym ((optional_test (best_attrs s.routing who p) (best_attrs r who p)).0 is)
      by false is = absurd (other (touching.touched.all p (inr (
        who,
        place_member (λ n. let w : Pid = record { 0 = n } in w) 0 (length s.routing.participants) who.0 (omega arith) (omega arith),
        λ same.
            clash ((optional_test (best_attrs s.routing who p) (best_attrs r who p)).1 same) is,
      ))))

  -- and so a best route where there was one
  same_routed : (p : Prefix) (who : Pid) → who.0 < length s.routing.participants → (Member p ps → ⊥) → is_some (best r who p) ≡ is_some (best s.routing who p)
  same_routed p who declared other =
      let attrs : Candidate → Attrs = λ c. c.attrs in
      sym (is_some-map attrs (best r who p)) ∙ ap is_some (same_best p who declared other) ∙ is_some-map attrs (best s.routing who p)

  pub keeps : (p : Prefix) → (Member p ps → ⊥) → get s1.tag p ≡ get s.tag p
  keeps p other = tags_are s r p ∙ keeps_tag s touching.tagged r p (same_signature_for p other)

  -- what is present for a participant is the same
  pub stays_present : (p : Prefix) (who : Pid) → who.0 < length s.routing.participants → (Member p ps → ⊥) → get (present s1 who) p ≡ get (present s who) p
  stays_present p who declared other =
      present_is s1 who p ∙ by_attrs s1 p who ∙ ap (λ o. option_and_then (entry_with o) (best_attrs r who p)) (keeps p other)
      ∙ ap (option_and_then (entry_with (get s.tag p))) (same_best p who declared other) ∙ sym (present_is s who p ∙ by_attrs s p who)
    where
      entry_with : Option Tag → Attrs → Option Entry
      entry_with o attrs = option_map (λ t. let e : Entry = record { attrs = attrs; tag = t } in e) o

      by_attrs : (x : State) (q : Prefix) (w : Pid) → present_entry x w q ≡ option_and_then (entry_with (get x.tag q)) (best_attrs x.routing w q)
      by_attrs x q w = by (best x.routing w q)
        where
          by : (b : Option Candidate) → option_and_then (λ (c : Candidate). option_map (λ t. let e : Entry = record { attrs = c.attrs; tag = t } in e) (get x.tag q)) b ≡ option_and_then (entry_with (get x.tag q)) (option_map (λ (c : Candidate). c.attrs) b)
          by None = refl
          by (Some c) = refl

  -- ---- groups

  changes : Prefix → Bool
  changes p = is_carried r p && is_changed s r p

  changed_are : filter (is_changed s r) (filter (is_carried r) (ordered prefix_cmp (announced r))) ≡ filter (λ p. is_carried r p && is_changed s r p) ps
  changed_are = one_list _ _
      (filter-IsRising (before prefix_cmp) (is_changed s r) _ (filter-IsRising (before prefix_cmp) (is_carried r) _ (ordered_rises prefix_cmp prefixes_total prefix_tie (announced r))))
      (filter-IsRising (before prefix_cmp) (λ p. is_carried r p && is_changed s r p) ps touching.touched.ascending)
      (record {
        onto = λ p m.
            let outer = filter-Member (is_changed s r) (filter (is_carried r) (ordered prefix_cmp (announced r))) p m in
            let inner = filter-Member (is_carried r) (ordered prefix_cmp (announced r)) p outer.stands in
            let both : (is_carried r p && is_changed s r p) ≡ true = and_from (is_carried r p) (is_changed s r p) inner.passes outer.passes in
            elim (touched_or_not p) [
              | inl stands ↦ Member-filter (λ q. is_carried r q && is_changed s r q) ps p stands both
              | inr other ↦ absurd (clash both (unchanged s touching.tagged r p (same_signature_for p other)))
            ];
        back = λ p m.
            let left = filter-Member (λ q. is_carried r q && is_changed s r q) ps p m in
            let parts = and_parts (is_carried r p) (is_changed s r p) left.passes in
            Member-filter (is_changed s r) _ p (carried_listed r p parts.0) parts.1;
      })

  -- ---- tag changes

  changed_tags : filter (λ p. not (same_option same_tag (get s.tag p) (get s1.tag p))) (ordered prefix_cmp (keys s.tag ++ keys s1.tag)) ≡ filter (λ p. not (same_option same_tag (get s.tag p) (get s1.tag p))) ps
  changed_tags = one_list _ _
      (filter-IsRising (before prefix_cmp) (λ p. not (same_option same_tag (get s.tag p) (get s1.tag p))) _ (ordered_rises prefix_cmp prefixes_total prefix_tie (keys s.tag ++ keys s1.tag)))
      (filter-IsRising (before prefix_cmp) (λ p. not (same_option same_tag (get s.tag p) (get s1.tag p))) ps touching.touched.ascending)
      (record {
        onto = λ p m.
            let left = filter-Member (λ q. not (same_option same_tag (get s.tag q) (get s1.tag q))) (ordered prefix_cmp (keys s.tag ++ keys s1.tag)) p m in
            elim (touched_or_not p) [
              | inl stands ↦ Member-filter (λ q. not (same_option same_tag (get s.tag q) (get s1.tag q))) ps p stands left.passes
              | inr other ↦ absurd (clash left.passes (ap (λ o. not (same_option same_tag (get s.tag p) o)) (keeps p other) ∙ ap not (option_itself same_tag tag_itself (get s.tag p))))
            ];
        back = λ p m.
            let left = filter-Member (λ q. not (same_option same_tag (get s.tag q) (get s1.tag q))) ps p m in
            Member-filter (λ q. not (same_option same_tag (get s.tag q) (get s1.tag q))) _ p ((ordered_same prefix_cmp prefixes_total prefix_tie (keys s.tag ++ keys s1.tag)).back p (tagged p left.passes)) left.passes;
      })
    where
      old_key : (p : Prefix) → is_some (get s.tag p) ≡ true → Member p (keys s.tag ++ keys s1.tag)
      old_key p there = Member-append_left (keys s.tag) (keys s1.tag) p (key_Member prefix_cmp prefixes_total prefix_tie s.tag p there)

      new_key : (p : Prefix) → is_some (get s1.tag p) ≡ true → Member p (keys s.tag ++ keys s1.tag)
      new_key p there = Member-append_right (keys s.tag) (keys s1.tag) p (key_Member prefix_cmp prefixes_total prefix_tie s1.tag p there)

      by : (p : Prefix) (o o1 : Option Tag) → get s.tag p ≡ o → get s1.tag p ≡ o1 → not (same_option same_tag o o1) ≡ true → Member p (keys s.tag ++ keys s1.tag)
      by p None None e f differ = absurd (cc)
      by p None (Some t) e f differ = new_key p (is_some_of (get s1.tag p) t f)
      by p (Some t) o1 e f differ = old_key p (is_some_of (get s.tag p) t e)

      tagged : (p : Prefix) → not (same_option same_tag (get s.tag p) (get s1.tag p)) ≡ true → Member p (keys s.tag ++ keys s1.tag)
      tagged p differ = by p (get s.tag p) (get s1.tag p) refl refl differ

  -- ---- pairs

  same_port : (n : PortNo) → port_of s1 n ≡ port_of s n
  same_port n = ap (λ ports. port_of (record s { routing = record r { ports = ports } }) n) touching.alike.ports

  pub new_pair : (pair : Pair) → is_live_pair s pair ≡ false → is_live_pair s1 pair ≡ true → IsLiveBy s1 ps pair
  new_pair pair dead live =
      let at = live_at s1 pair live in
      let q : PortInfo = at.0 in
      let port : port_of s pair.port ≡ Some q = sym (same_port pair.port) ∙ at.1.port in
      elim (or_cases (tells (told_to s q.owner) pair.tag) (tells (present s1 q.owner) pair.tag) at.1.for) [
        | inl told ↦ absurd (clash (live_from s pair q port (or_left (tells (told_to s q.owner) pair.tag) (tells (present s q.owner) pair.tag) told)) dead)
        | inr now ↦
            let p = present_tag s1 q.owner pair.tag now in
            let routed : is_some (best r q.owner p.0) ≡ true = ap is_some p.1.best_is in
            elim (touched_or_not p.0) [
              | inl stands ↦ record { port = q; prefix = p.0; at = at.1.port; stands = stands; tagged = p.1.tagged; routed = routed }
              | inr other ↦ absurd (clash (live_from s pair q port (or_right (tells (told_to s q.owner) pair.tag) (tells (present s q.owner) pair.tag)
                  (present_from s q.owner p.0 pair.tag (sym (same_routed p.0 q.owner (touching.owners q (port_Member s pair q port)) other) ∙ routed) (sym (keeps p.0 other) ∙ p.1.tagged)))) dead)
            ]
      ]

  pub gone_pair : (pair : Pair) → is_live_pair s pair ≡ true → is_live_pair s1 pair ≡ false → IsLiveBy s ps pair
  gone_pair pair live dead =
      let at = live_at s pair live in
      let q : PortInfo = at.0 in
      let port : port_of s1 pair.port ≡ Some q = same_port pair.port ∙ at.1.port in
      elim (or_cases (tells (told_to s q.owner) pair.tag) (tells (present s q.owner) pair.tag) at.1.for) [
        | inl told ↦ absurd (clash (live_from s1 pair q port (or_left (tells (told_to s q.owner) pair.tag) (tells (present s1 q.owner) pair.tag) told)) dead)
        | inr now ↦
            let p = present_tag s q.owner pair.tag now in
            let routed : is_some (best s.routing q.owner p.0) ≡ true = ap is_some p.1.best_is in
            elim (touched_or_not p.0) [
              | inl stands ↦ record { port = q; prefix = p.0; at = at.1.port; stands = stands; tagged = p.1.tagged; routed = routed }
              | inr other ↦ absurd (clash (live_from s1 pair q port (or_right (tells (told_to s q.owner) pair.tag) (tells (present s1 q.owner) pair.tag)
                  (present_from s1 q.owner p.0 pair.tag (same_routed p.0 q.owner (touching.owners q (port_Member s pair q at.1.port)) other ∙ routed) (keeps p.0 other ∙ p.1.tagged)))) dead)
            ]
      ]

pub touched_have_groups : TouchedHaveGroups
touched_have_groups s r ps touching = ap (λ qs. each_once same_group (map (group_of s r) qs)) (changed_are s r ps touching)

pub touched_have_changes : TouchedHaveChanges
touched_have_changes s r ps touching =
    ap (map (λ p. let c : TagChange = record { prefix = p; tag = get (retagged s r).tag p } in c)) (changed_tags s r ps touching)
    ∙ (λ i. map (λ p. let c : TagChange = record { prefix = p; tag = tags_are s r p i } in c) (filter (λ p. not (same_option same_tag (get s.tag p) (tags_are s r p i))) ps))

pub others_keep_tags : OthersKeepTags
others_keep_tags s r ps touching p other = keeps s r ps touching p other

pub new_pairs_are_touched : NewPairsAreTouched
new_pairs_are_touched s r ps touching pair dead live = new_pair s r ps touching pair dead live

pub gone_pairs_are_touched : GonePairsAreTouched
gone_pairs_are_touched s r ps touching pair live dead = gone_pair s r ps touching pair live dead

pub others_stay_present : OthersStayPresent
others_stay_present s r ps touching p who declared other = stays_present s r ps touching p who declared other
