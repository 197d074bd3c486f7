-- The pairs of the tags that no prefix has any more are those that are live no more.
use Rattle.std.proofs.Common.{◌≡◌, ◌<◌, Bool, true, false, cond, List, [], length, map, sym, ap, subst, ◌∙◌, refl, inl, inr}
use Rattle.std.specs.Prelude.{Some, is_some, unwrap_or}
use Rattle.std.specs.FinMap.{FinMap, get}
use Rattle.std.proofs.lemmas.Bool.{false_from_ne_true, or_cases, or_left, or_right}
use Rattle.net_types.proofs.OrderedLemmas.{ordered_rises, ordered_same}
use Rattle.events.specs.State.{State, port_of, present, told_to}
use Rattle.events.specs.Tags.{is_live_pair, retagged, tells}
use Rattle.exchange_laws.proofs.Lists.{clash}
use Rattle.exchange_laws.proofs.LivePairs.{live_at, live_from, port_Member, present_from, present_tag}
use Rattle.exchange_laws.proofs.OwnHops.{numbered_port}
use Rattle.exchange_laws.proofs.TagsAfter.{live_of, live_tags_stay, signatures_are_kept}
use Rattle.exchange_laws.specs.Steady.{PortsDiffer}
use Rattle.exchange_laws.specs.Listed.{AreLiveOnly}
use Rattle.exchange_laws.specs.Rules.{IsChange, OwnersAreDeclared}
use Rattle.fast_path.proofs.PortsAndTags.{IsPortOf, found_number, has_prefix_of, number_listed, port_listed, prefix_with}
use Rattle.fast_path.proofs.SignatureParts.{has_part, part_senders, same_senders}
use Rattle.fast_path.specs.LiveOnly.{AreEmptied, has_prefix, registered}
use Rattle.fast_path.specs.Pairs.{gone_pairs, pair_at, part_pairs, tag_pairs, was_told}
use Rattle.net_types.proofs.OrderLemmas.{pairs_total}
use Rattle.net_types.proofs.SetLemmas.{Member-map, Member-union, map-Member, union-Member}
use Rattle.net_types.specs.Exports.{Routing}
use Rattle.net_types.specs.Keys.{pair_cmp, prefix_cmp}
use Rattle.net_types.specs.Routes.{best}
use Rattle.net_types.specs.Sets.{Member, union_over}
use Rattle.net_types.specs.Signatures.{signature}
use Rattle.net_types.specs.declared.address.Pid.{Pid}
use Rattle.net_types.specs.declared.address.PortNo.{PortNo}
use Rattle.net_types.specs.declared.address.Tag.{Tag}
use Rattle.net_types.specs.declared.prefix.Prefix.{Prefix}
use Rattle.net_types.specs.declared.route.Part.{Part}
use Rattle.net_types.specs.declared.route.PortInfo.{PortInfo}
use Rattle.net_types.specs.declared.rule.Pair.{Pair}
use Rattle.registry.specs.Registered.{Registered, ports_of}
use Rattle.std.proofs.lemmas.Option.{same_Some}
use Rattle.net_types.proofs.TieLemmas.{pair_tie}

-- what is under a test that fails
pub Member-unless : {A : Type 0} (b : Bool) (xs : List A) (x : A) → Member x (cond b [] xs) → (b ≡ false) × Member x xs
Member-unless true xs x m = elim m [ ]
Member-unless false xs x m = (refl, m)

-- Prefixes have other tags by a routing in which the same ports are declared, and where they have a tag in turn their signatures
-- are the same.
module _ (s : State) (r : Routing) (tags : FinMap prefix_cmp Tag) (ports : r.ports ≡ s.routing.ports) (owners : OwnersAreDeclared s.routing)
    (kept : (p : Prefix) (t : Tag) → get s.tag p ≡ Some t → get s.kept t ≡ Some (signature s.routing p))
    (alike : (p q : Prefix) (t : Tag) → get s.tag p ≡ Some t → get tags q ≡ Some t → signature s.routing p ≡ signature r q) where
  abbrev s1 : State
  s1 = record s { routing = r; tag = tags }

  same_port : (n : PortNo) → port_of s1 n ≡ port_of s n
  same_port n = ap (λ qs. port_of (record s { routing = record r { ports = qs } }) n) ports

  declared : (pair : Pair) (q : PortInfo) → port_of s pair.port ≡ Some q → q.owner.0 < length s.routing.participants
  declared pair q at = owners q (port_Member s pair q at)

  abbrev names : Registered
  names = registered s

  module _ (ts : List Tag) (own : PortsDiffer s.routing.ports) (emptied : AreEmptied s s1 ts) where
    -- ---- each of the pairs

    -- the tag stands at a port of the sender of a part of a prefix's signature, and the sender wasn't told the tag
    one_gone : (t : Tag) (p : Prefix) (who : Pid) (n : PortNo) → get s.tag p ≡ Some t → has_prefix s1 t ≡ false → is_some (best s.routing who p) ≡ true → was_told s.told who t ≡ false → IsPortOf s who n
        → (is_live_pair s (pair_at t n) ≡ true) × (is_live_pair s1 (pair_at t n) ≡ false)
    one_gone t p who n tagged none routed untold at = (
      live_from s (pair_at t n) at.port found (or_right (tells (told_to s at.port.owner) t) (tells (present s at.port.owner) t)
          (present_from s at.port.owner p t (subst (λ w. is_some (best s.routing w p) ≡ true) (sym at.owner) routed) tagged)),
      false_from_ne_true (is_live_pair s1 (pair_at t n)) (λ live.
          let there = live_at s1 (pair_at t n) live in
          let q : PortInfo = there.0 in
          let same : q.owner ≡ who = ap (λ (x : PortInfo). x.owner) (same_Some q at.port (sym there.1.port ∙ same_port n ∙ found)) ∙ at.owner in
          elim (or_cases (tells (told_to s q.owner) t) (tells (present s1 q.owner) t) there.1.for) [
            | inl told ↦ clash told (ap (λ w. was_told s.told w t) same ∙ untold)
            | inr now ↦ let p1 = present_tag s1 q.owner t now in clash (has_prefix_of s1 p1.0 t p1.1.tagged) none
          ]),
    )
      where
        found : port_of s n ≡ Some at.port
        found = ap (port_of s) at.number ∙ numbered_port s.routing.ports own at.port at.port.number.0 at.stands refl

    part_gone : (t : Tag) (p : Prefix) (x : Part) (pair : Pair) → get s.tag p ≡ Some t → has_prefix s1 t ≡ false → Member x (signature s.routing p) → Member pair (part_pairs names s.told t x)
        → (is_live_pair s pair ≡ true) × (is_live_pair s1 pair ≡ false)
    part_gone t p x pair tagged none stands m =
        let parts = Member-unless (was_told s.told x.sender t) (map (pair_at t) (ports_of names x.sender)) pair m in
        let image = map-Member (pair_at t) (ports_of names x.sender) pair parts.1 in
        subst (λ y. (is_live_pair s y ≡ true) × (is_live_pair s1 y ≡ false)) (sym image.is)
        (one_gone t p x.sender image.of tagged none (part_senders s.routing p x stands).routed parts.0 (port_listed s x.sender image.of image.stands))

    each_gone : (pair : Pair) → Member pair (union_over (tag_pairs names s.kept s.told) ts) → (is_live_pair s pair ≡ true) × (is_live_pair s1 pair ≡ false)
    each_gone pair m =
        let of_tag = union-Member (tag_pairs names s.kept s.told) ts pair m in
        let t : Tag = of_tag.of in
        let empty = emptied.each t of_tag.stands in
        let p = prefix_with s t empty.0 in
        let among : Member pair (union_over (part_pairs names s.told t) (signature s.routing p.prefix)) = subst (λ o. Member pair (union_over (part_pairs names s.told t) (unwrap_or o []))) (kept p.prefix t p.tagged) of_tag.gives in
        let of_part = union-Member (part_pairs names s.told t) (signature s.routing p.prefix) pair among in
        part_gone t p.prefix of_part.of pair p.tagged empty.1 of_part.stands of_part.gives

    -- ---- all of them

    module _ (pair : Pair) (live : is_live_pair s pair ≡ true) (dead : is_live_pair s1 pair ≡ false) (q : PortInfo) (at : port_of s pair.port ≡ Some q) where
      -- the owner wasn't told the tag
      not_told : tells (told_to s q.owner) pair.tag ≡ false
      not_told = false_from_ne_true (tells (told_to s q.owner) pair.tag) (λ told.
          clash (live_from s1 pair q (same_port pair.port ∙ at) (or_left (tells (told_to s q.owner) pair.tag) (tells (present s1 q.owner) pair.tag) told)) dead)

      -- no prefix has the tag any more, since it would have the same signature
      none_left : (p : Prefix) → get s.tag p ≡ Some pair.tag → is_some (best s.routing q.owner p) ≡ true → has_prefix s1 pair.tag ≡ false
      none_left p tagged routed = false_from_ne_true (has_prefix s1 pair.tag) (λ has.
          let p1 = prefix_with s1 pair.tag has in
          let same : signature s.routing p ≡ signature r p1.prefix = alike p p1.prefix pair.tag tagged p1.tagged in
          clash (live_from s1 pair q (same_port pair.port ∙ at) (or_right (tells (told_to s q.owner) pair.tag) (tells (present s1 q.owner) pair.tag)
          (present_from s1 q.owner p1.prefix pair.tag (same_senders s.routing r p p1.prefix q.owner same (declared pair q at) routed) p1.tagged))) dead)

      at_ports : Member pair (map (pair_at pair.tag) (ports_of names q.owner))
      at_ports = subst (λ y. Member y (map (pair_at pair.tag) (ports_of names q.owner))) (λ i. record { port = sym (found_number s pair.port q at) i; tag = pair.tag })
          (Member-map (pair_at pair.tag) (ports_of names q.owner) q.number (number_listed s q (port_Member s pair q at)))

      among_gone : (p : Prefix) → get s.tag p ≡ Some pair.tag → is_some (best s.routing q.owner p) ≡ true → Member pair (union_over (tag_pairs names s.kept s.told) ts)
      among_gone p tagged routed =
          let has = has_part s.routing p q.owner (declared pair q at) routed in
          let here : Member pair (part_pairs names s.told pair.tag has.part) =
          subst (λ w. Member pair (cond (was_told s.told w pair.tag) [] (map (pair_at pair.tag) (ports_of names w)))) (sym has.sender)
          (subst (λ b. Member pair (cond b [] (map (pair_at pair.tag) (ports_of names q.owner)))) (sym not_told) at_ports) in
          Member-union (tag_pairs names s.kept s.told) ts pair.tag pair (emptied.all pair.tag (has_prefix_of s p pair.tag tagged) (none_left p tagged routed))
          (subst (λ o. Member pair (union_over (part_pairs names s.told pair.tag) (unwrap_or o []))) (sym (kept p pair.tag tagged))
          (Member-union (part_pairs names s.told pair.tag) (signature s.routing p) has.part pair has.stands here))

    all_gone : (pair : Pair) → is_live_pair s pair ≡ true → is_live_pair s1 pair ≡ false → Member pair (union_over (tag_pairs names s.kept s.told) ts)
    all_gone pair live dead =
        let at = live_at s pair live in
        let q : PortInfo = at.0 in
        elim (or_cases (tells (told_to s q.owner) pair.tag) (tells (present s q.owner) pair.tag) at.1.for) [
          | inl told ↦ absurd (clash told (not_told pair live dead q at.1.port))
          | inr now ↦ let p = present_tag s q.owner pair.tag now in among_gone pair live dead q at.1.port p.0 p.1.tagged (ap is_some p.1.best_is)
        ]

    pub gone_live_only : AreLiveOnly s s1 (gone_pairs names s.kept s.told ts)
    gone_live_only = record {
      rising = ordered_rises pair_cmp pairs_total pair_tie (union_over (tag_pairs names s.kept s.told) ts);
      each = λ pair m. each_gone pair ((ordered_same pair_cmp pairs_total pair_tie (union_over (tag_pairs names s.kept s.told) ts)).onto pair m);
      all = λ pair live dead. (ordered_same pair_cmp pairs_total pair_tie (union_over (tag_pairs names s.kept s.told) ts)).back pair (all_gone pair live dead);
    }

-- the pairs of the emptied tags are those that are live no more
pub gone_pairs_are_those : (s : State) (r : Routing) (ts : List Tag) → IsChange s r → PortsDiffer s.routing.ports → AreEmptied s (retagged s r) ts
    → AreLiveOnly s (retagged s r) (gone_pairs (registered s) s.kept s.told ts)
gone_pairs_are_those s r ts change own emptied =
    let gone = gone_live_only s r (retagged s r).tag change.alike.ports change.owners change.tagged.kept alike ts own (record { each = emptied.each; all = emptied.all }) in
    record { rising = gone.rising; each = gone.each; all = gone.all }
  where
    alike : (p q : Prefix) (t : Tag) → get s.tag p ≡ Some t → get (retagged s r).tag q ≡ Some t → signature s.routing p ≡ signature r q
    alike p q t tagged now =
        let stays = live_tags_stay s r change.pooled t (live_of s p t tagged) (live_of (retagged s r) q t now) in
        same_Some (signature s.routing p) (signature r q) (sym (change.tagged.kept p t tagged) ∙ sym stays ∙ signatures_are_kept s r change.pooled q t now)
