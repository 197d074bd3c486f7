-- The pairs and tags that go where a participant is told anew.
use Rattle.std.proofs.Math.Bool.{or-false}
use Rattle.std.proofs.Common.{◌≡◌, ℕ, zero, suc, ◌<◌, Bool, true, false, ◌||◌, not, nat_eq, List, [], ◌∷◌, length, map, sym, ap, subst, ◌∙◌, refl, inl, inr, arith}
use Rattle.std.specs.Prelude.{Some, slice_set}
use Rattle.std.specs.FinMap.{FinMap, empty}
use Rattle.std.specs.List.{list_any}
use Rattle.std.proofs.lemmas.Bool.{and_from, and_parts, eqb-true, false_from_ne_true, or_cases, or_left, or_parts, or_right, not-true}
use Rattle.events.proofs.Drains.{get_set}
use Rattle.net_types.proofs.OrderedLemmas.{any_member, member_any, ordered_rises, ordered_same}
use Rattle.events.specs.State.{State, port_of, present, told_to}
use Rattle.events.specs.Tags.{is_live, is_live_pair, tells}
use Rattle.events.specs.declared.Entry.{Entry}
use Rattle.exchange_laws.proofs.Lists.{clash}
use Rattle.exchange_laws.proofs.LivePairs.{live_at, live_from, port_Member, present_tag, told_live}
use Rattle.exchange_laws.proofs.NewStates.{nothing_told}
use Rattle.exchange_laws.proofs.OwnHops.{numbered_port}
use Rattle.exchange_laws.proofs.ToldAnew.{gone_pairs_were_told, gone_tags_were_told}
use Rattle.exchange_laws.specs.Listed.{AreLiveOnly}
use Rattle.exchange_laws.specs.Steady.{PortsDiffer}
use Rattle.exchange_laws.specs.Telling.{told_anew}
use Rattle.advert_queue.proofs.PendingLemmas.{told_among}
use Rattle.advert_queue.specs.Taken.{gone_tags}
use Rattle.advert_queue.specs.Telling.{tags_of}
use Rattle.fast_path.proofs.PortsAndTags.{IsPortOf, found_number, has_prefix_of, number_listed, port_listed, prefix_with}
use Rattle.fast_path.specs.LiveOnly.{AreDead, has_prefix, registered}
use Rattle.fast_path.specs.Pairs.{is_told, pair_at, untold}
use Rattle.net_types.proofs.OrderLemmas.{pairs_total, tags_total}
use Rattle.net_types.proofs.RisingLemmas.{Member-filter, filter-Member}
use Rattle.net_types.proofs.SetLemmas.{Member-map, Member-union, map-Member, union-Member}
use Rattle.net_types.proofs.TieLemmas.{pair_tie, tag_tie}
use Rattle.net_types.specs.Keys.{pair_cmp, prefix_cmp, tag_cmp}
use Rattle.net_types.specs.Sets.{Member, union_over}
use Rattle.net_types.specs.declared.address.Pid.{Pid}
use Rattle.net_types.specs.declared.address.PortNo.{PortNo}
use Rattle.net_types.specs.declared.address.Tag.{Tag}
use Rattle.net_types.specs.declared.route.PortInfo.{PortInfo}
use Rattle.net_types.specs.declared.rule.Pair.{Pair}
use Rattle.prefix_classes.proofs.MemberLemmas.{no_members}
use Rattle.prefix_classes.specs.Classes.{members}
use Rattle.registry.specs.Registered.{ports_of}
use Rattle.exchange_core.specs.Taking.{all_pairs, dead_tags, gone_for, has_none, is_dead, pairs_at}
use Rattle.std.proofs.lemmas.Option.{same_Some}

-- ---- tags that were told and are told no more

-- the tag was told, and is neither told then nor present
pub record IsGone (told then now : FinMap prefix_cmp Entry) (t : Tag) : Type 0 where
  pub was : tells told t ≡ true
  pub not_then : tells then t ≡ false
  pub not_now : tells now t ≡ false

-- what stands in the list without the tags that a map tells
left : (m : FinMap prefix_cmp Entry) (ts : List Tag) (t : Tag) → Member t (untold (m ∷ []) ts) → Member t ts × (tells m t ≡ false)
left m ts t k =
    let is = filter-Member (λ u. not (is_told (m ∷ []) u)) ts t k in
    (is.stands, sym (or-false (tells m t)) ∙ not-true (is_told (m ∷ []) t) is.passes)

stays : (m : FinMap prefix_cmp Entry) (ts : List Tag) (t : Tag) → Member t ts → tells m t ≡ false → Member t (untold (m ∷ []) ts)
stays m ts t k none = Member-filter (λ u. not (is_told (m ∷ []) u)) ts t k (ap (λ b. not b) (or-false (tells m t) ∙ none))

pub gone_tag : (told then now : FinMap prefix_cmp Entry) (t : Tag) → Member t (gone_tags told then now) → IsGone told then now t
gone_tag told then now t m =
    let late = left then (untold (now ∷ []) (tags_of told)) t m in
    let early = left now (tags_of told) t late.0 in record {
      was = sym (told_among told t) ∙ member_any tag_cmp tags_total tag_tie t (tags_of told) early.0;
      not_then = late.1;
      not_now = early.1;
    }

pub tag_gone : (told then now : FinMap prefix_cmp Entry) (t : Tag) → IsGone told then now t → Member t (gone_tags told then now)
tag_gone told then now t is =
    stays then (untold (now ∷ []) (tags_of told)) t (stays now (tags_of told) t (any_member tag_cmp tags_total tag_tie t (tags_of told) (told_among told t ∙ is.was)) is.not_now) is.not_then

-- ---- a list with another member at a place

-- what is at a place counts only by what a test says of it
same_any : {A : Type 0} (test : A → Bool) (xs : List A) (k : ℕ) (x y : A) → test x ≡ test y → list_any test (slice_set xs k x) ≡ list_any test (slice_set xs k y)
same_any test [] k x y same = refl
same_any test (z ∷ zs) zero x y same = ap (λ b. b || list_any test zs) same
same_any test (z ∷ zs) (suc k) x y same = ap (λ b. test z || b) (same_any test zs k x y same)

any_here : {A : Type 0} (test : A → Bool) (xs : List A) (k : ℕ) (x : A) → k < length xs → list_any test (slice_set xs k x) ≡ false → test x ≡ false
any_here test [] k x below none = absurd (omega arith)
any_here test (y ∷ xs) zero x below none = (or_parts (test x) (list_any test xs) none).0
any_here test (y ∷ xs) (suc k) x below none = any_here test xs k x (omega arith) (or_parts (test y) (list_any test (slice_set xs k x)) none).1

module _ (s : State) (who : Pid) (then : FinMap prefix_cmp Entry) (apart : PortsDiffer s.routing.ports) (place : who.0 < length s.told) where
  abbrev s1 : State
  s1 = told_anew s who then

  abbrev gone : List Tag
  gone = gone_for s who then

  abbrev ports : List PortNo
  ports = ports_of (registered s) who

  told_now : told_to s1 who ≡ then
  told_now = get_set s.told who.0 then empty place

  -- ---- the pairs that go

  one_pair : (t : Tag) (n : PortNo) → IsGone (told_to s who) then (present s who) t → IsPortOf s who n → (is_live_pair s (pair_at t n) ≡ true) × (is_live_pair s1 (pair_at t n) ≡ false)
  one_pair t n is at = (
    live_from s (pair_at t n) at.port found (or_left (tells (told_to s at.port.owner) t) (tells (present s at.port.owner) t) (ap (λ w. tells (told_to s w) t) at.owner ∙ is.was)),
    false_from_ne_true (is_live_pair s1 (pair_at t n)) (λ live.
        let there = live_at s1 (pair_at t n) live in
        let q : PortInfo = there.0 in
        let same : q.owner ≡ who = ap (λ (x : PortInfo). x.owner) (same_Some q at.port (sym there.1.port ∙ found)) ∙ at.owner in
        elim (or_cases (tells (told_to s1 q.owner) t) (tells (present s1 q.owner) t) there.1.for) [
          | inl told ↦ clash told (ap (λ w. tells (told_to s1 w) t) same ∙ ap (λ es. tells es t) told_now ∙ is.not_then)
          | inr now ↦ clash now (ap (λ w. tells (present s1 w) t) same ∙ is.not_now)
        ]),
  )
    where
      found : port_of s n ≡ Some at.port
      found = ap (port_of s) at.number ∙ numbered_port s.routing.ports apart at.port at.port.number.0 at.stands refl

  each_pair : (pair : Pair) → Member pair (union_over (pairs_at ports) gone) → (is_live_pair s pair ≡ true) × (is_live_pair s1 pair ≡ false)
  each_pair pair m =
      let of_tag = union-Member (pairs_at ports) gone pair m in
      let image = map-Member (pair_at of_tag.of) ports pair of_tag.gives in
      subst (λ y. (is_live_pair s y ≡ true) × (is_live_pair s1 y ≡ false)) (sym image.is)
      (one_pair of_tag.of image.of (gone_tag (told_to s who) then (present s who) of_tag.of of_tag.stands) (port_listed s who image.of image.stands))

  all_gone : (pair : Pair) → is_live_pair s pair ≡ true → is_live_pair s1 pair ≡ false → Member pair (union_over (pairs_at ports) gone)
  all_gone pair live dead =
      let was = gone_pairs_were_told s who then pair live dead in
      let q : PortInfo = was.0 in
      let nor : tells then pair.tag ≡ false = false_from_ne_true (tells then pair.tag) (λ told.
      clash (live_from s1 pair q was.1 (or_left (tells (told_to s1 q.owner) pair.tag) (tells (present s1 q.owner) pair.tag) (ap (λ w. tells (told_to s1 w) pair.tag) was.2 ∙ ap (λ es. tells es pair.tag) told_now ∙ told))) dead) in
      let none : tells (present s who) pair.tag ≡ false = false_from_ne_true (tells (present s who) pair.tag) (λ now.
      clash (live_from s1 pair q was.1 (or_right (tells (told_to s1 q.owner) pair.tag) (tells (present s1 q.owner) pair.tag) (ap (λ w. tells (present s1 w) pair.tag) was.2 ∙ now))) dead) in
      Member-union (pairs_at ports) gone pair.tag pair (tag_gone (told_to s who) then (present s who) pair.tag (record { was = was.3; not_then = nor; not_now = none }))
      (subst (λ w. Member pair (map (pair_at pair.tag) (ports_of (registered s) w))) was.2
      (subst (λ y. Member y (map (pair_at pair.tag) (ports_of (registered s) q.owner))) (λ i. record { port = sym (found_number s pair.port q was.1) i; tag = pair.tag })
      (Member-map (pair_at pair.tag) (ports_of (registered s) q.owner) q.number (number_listed s q (port_Member s pair q was.1)))))

  -- exactly the pairs that are live no more
  pub pairs_go : AreLiveOnly s s1 (all_pairs ports gone)
  pairs_go = record {
    rising = ordered_rises pair_cmp pairs_total pair_tie (union_over (pairs_at ports) gone);
    each = λ pair m. each_pair pair ((ordered_same pair_cmp pairs_total pair_tie (union_over (pairs_at ports) gone)).onto pair m);
    all = λ pair live dead. (ordered_same pair_cmp pairs_total pair_tie (union_over (pairs_at ports) gone)).back pair (all_gone pair live dead);
  }

  -- ---- the tags that go

  abbrev dead_here : List Tag
  dead_here = dead_tags s.tag s.told who.0 gone

  unheld : (t : Tag) → has_none s.tag t ≡ true → has_prefix s t ≡ false
  unheld t none = false_from_ne_true (has_prefix s t) (λ has.
      let p = prefix_with s t has in (no_members s.tag t).0 (eqb-true (members s.tag t) 0 none) p.prefix p.tagged)

  -- what the others were told of a tag that is gone is what everybody was told of it then
  elsewhere : (t : Tag) → tells then t ≡ false → is_told (slice_set s.told who.0 then) t ≡ is_told (slice_set s.told who.0 empty) t
  elsewhere t none = same_any (λ es. tells es t) s.told who.0 then empty (none ∙ sym (nothing_told t))

  each_tag : (t : Tag) → Member t dead_here → (is_live s t ≡ true) × (is_live s1 t ≡ false)
  each_tag t m =
      let stands = filter-Member (is_dead s.tag s.told who.0) gone t m in
      let parts = and_parts (has_none s.tag t) (not (is_told (slice_set s.told who.0 empty) t)) stands.passes in
      let is = gone_tag (told_to s who) then (present s who) t stands.stands in (
        or_right (has_prefix s t) (is_told s.told t) (told_live s who t is.was),
        ap (λ b. b || is_told (slice_set s.told who.0 then) t) (unheld t parts.0) ∙ elsewhere t is.not_then ∙ not-true (is_told (slice_set s.told who.0 empty) t) parts.1,
      )

  all_tags : (t : Tag) → is_live s t ≡ true → is_live s1 t ≡ false → Member t dead_here
  all_tags t live dead =
      let parts = or_parts (has_prefix s t) (is_told (slice_set s.told who.0 then) t) dead in
      let was = gone_tags_were_told s who then t live dead in
      let here : tells then t ≡ false = any_here (λ es. tells es t) s.told who.0 then place parts.1 in
      let now : tells (present s who) t ≡ false = false_from_ne_true (tells (present s who) t) (λ is. let p = present_tag s who t is in clash (has_prefix_of s p.0 t p.1.tagged) parts.0) in
      Member-filter (is_dead s.tag s.told who.0) gone t (tag_gone (told_to s who) then (present s who) t (record { was = was; not_then = here; not_now = now }))
      (and_from (has_none s.tag t) (not (is_told (slice_set s.told who.0 empty) t))
      (ap (λ n. nat_eq n 0) ((no_members s.tag t).1 (λ p is. clash (has_prefix_of s p t is) parts.0)))
      (ap (λ b. not b) (sym (elsewhere t here) ∙ parts.1)))

  -- exactly the tags that are live no more
  pub tags_go : AreDead s s1 dead_here
  tags_go = record { each = each_tag; all = all_tags }

  -- no prefix has one of them
  pub tags_unused : (t : Tag) → Member t dead_here → members s.tag t ≡ 0
  tags_unused t m = eqb-true (members s.tag t) 0 (and_parts (has_none s.tag t) (not (is_told (slice_set s.told who.0 empty) t)) (filter-Member (is_dead s.tag s.told who.0) gone t m).passes).0
