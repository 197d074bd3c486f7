-- The state at the end of a job: what is live was live, and keeps its signature and its owner's part.
use Rattle.std.proofs.Common.{◌≡◌, ◌<◌, Bool, true, false, cond, nat_eq, length, ap, sym, subst, ◌∙◌, refl, inl, inr}
use Rattle.std.specs.Prelude.{Option, Some, None, is_some}
use Rattle.std.specs.FinMap.{get, get-retain_keys, values}
use Rattle.std.specs.List.{list_any}
use Rattle.std.specs.Option.{option_and_then, option_map}
use Rattle.std.proofs.lemmas.Bool.{eqb-true, or_cases, or_left, or_right}
use Rattle.events.proofs.Routed.{part_with, signature_part}
use Rattle.events.specs.After.{merged}
use Rattle.events.specs.Sound.{owners_part, part_of}
use Rattle.events.specs.State.{State, port_of, present, told_to}
use Rattle.events.specs.Tags.{is_carried, is_live, is_live_pair, same_tag, tells}
use Rattle.exchange_laws.proofs.LivePairs.{live_at, live_from, live_tag, port_Member, present_from, present_tag}
use Rattle.exchange_laws.proofs.Lists.{cond_there}
use Rattle.exchange_laws.proofs.TagsAfter.{live_cases, live_of}
use Rattle.exchange_laws.specs.Steady.{IsSteady}
use Rattle.job_laws.proofs.MergedTags.{merged_from, merged_there}
use Rattle.job_laws.specs.Ending.{MergedPairsWereLive, MergedTagsWereLive, RightRulesStay}
use Rattle.job_laws.specs.Jobs.{without_job}
use Rattle.net_types.proofs.FindLemmas.{find-IsFound}
use Rattle.net_types.proofs.PassLemmas.{some_there}
use Rattle.net_types.proofs.TieLemmas.{tag_cmp-IsAntisymmetric}
use Rattle.net_types.specs.Exports.{Routing}
use Rattle.net_types.specs.Routes.{Candidate, best, pids}
use Rattle.net_types.specs.Signatures.{part, signature}
use Rattle.net_types.specs.declared.address.Pid.{Pid}
use Rattle.net_types.specs.declared.address.Tag.{Tag}
use Rattle.net_types.specs.declared.prefix.Prefix.{Prefix}
use Rattle.net_types.specs.declared.route.Part.{Part}
use Rattle.net_types.specs.declared.route.PortInfo.{PortInfo}
use Rattle.net_types.specs.declared.rule.Pair.{Pair}
use Rattle.net_types.proofs.SetLemmas.{given_by}

-- ---- best routes

-- a part is made of a best route
part_case : (r : Routing) (p : Prefix) (to : Pid) (x : Part) (o : Option Candidate) → best r to p ≡ o → option_map (λ (c : Candidate). part_with r to p c) o ≡ Some x → (is_some (best r to p) ≡ true) × (x.sender.0 ≡ to.0)
part_case r p to x None chosen e = absurd (cc)
part_case r p to x (Some c) chosen e = (ap is_some chosen, let same : part_with r to p c ≡ x = cc in ap (λ (y : Part). y.sender.0) (sym same))

-- where a participant has a part in the signature of a prefix, it has a best route
part_routed : (r : Routing) (p : Prefix) (who : Pid) (x : Part) → part_of (signature r p) who ≡ Some x → is_some (best r who p) ≡ true
part_routed r p who x is =
    let found = find-IsFound (λ (y : Part). nat_eq y.sender.0 who.0) (signature r p) x is in
    let from = given_by (part r p) (pids r) x found.stands in
    let made = part_case r p from.source x (best r from.source p) refl from.is in
    let same : from.source.0 ≡ who.0 = sym made.1 ∙ eqb-true x.sender.0 who.0 found.passes in
    subst (λ n. is_some (best r (record { 0 = n }) p) ≡ true) same made.0

-- so prefixes with the same signature have best routes of the same participants
alike_routed : (r : Routing) (p q : Prefix) (who : Pid) (c : Candidate) → who.0 < length r.participants → best r who p ≡ Some c → signature r q ≡ signature r p → is_some (best r who q) ≡ true
alike_routed r p q who c declared chosen same =
    part_routed r q who (part_with r who p c) (ap (λ sig. part_of sig who) same ∙ signature_part r who p c declared chosen)

-- ---- the state

module _ (s : State) (steady : IsSteady (without_job s)) where
  abbrev s1 : State
  s1 = merged s

  pub tag_was_live : (t : Tag) → is_live s1 t ≡ true → is_live s t ≡ true
  tag_was_live t live = elim (live_cases s1 t live) [
    | inl has ↦ let from = merged_from s has.prefix t has.tagged in live_of s from.like t from.tagged
    | inr told ↦ or_right (list_any (same_tag t) (values s.tag)) (list_any (λ entries. tells entries t) s.told) told
  ]

  -- the signature of a live tag is kept, and no other's
  pub kept_is : (t : Tag) → get s1.kept t ≡ cond (is_live s1 t) (get s.kept t) None
  kept_is t = get-retain_keys s.kept (is_live s1) t (λ x e. ap (is_live s1) (sym (tag_cmp-IsAntisymmetric t x e)))

  pub keeps : (t : Tag) → is_live s1 t ≡ true → get s1.kept t ≡ get s.kept t
  keeps t live = kept_is t ∙ ap (λ b. cond b (get s.kept t) None) live

  pub kept_live : (t : Tag) → is_some (get s1.kept t) ≡ true → is_live s1 t ≡ true
  kept_live t there = cond_there (is_live s1 t) (get s.kept t) (sym (ap is_some (kept_is t)) ∙ there)

  pub live_kept : (t : Tag) → is_live s1 t ≡ true → is_some (get s1.kept t) ≡ true
  live_kept t live = ap is_some (keeps t live) ∙ steady.live t (tag_was_live t live)

  -- the signature of each prefix is the one that is kept for its tag
  pub kept_for : (p : Prefix) (t : Tag) → get s1.tag p ≡ Some t → get s1.kept t ≡ Some (signature s.routing p)
  kept_for p t is =
      let from = merged_from s p t is in
      keeps t (live_of s1 p t is) ∙ steady.sound.kept from.like t from.tagged ∙ ap Some from.alike

  pub tag_there : (p : Prefix) → is_some (get s1.tag p) ≡ is_carried s.routing p
  tag_there p = by (is_carried s.routing p) (get s1.tag p) refl refl
    where
      by : (b : Bool) (o : Option Tag) → is_carried s.routing p ≡ b → get s1.tag p ≡ o → is_some o ≡ b
      by true o carries is =
          let own = some_there (get s.tag p) (steady.sound.tagged p ∙ carries) in
          let there = merged_there s p own.0 carries own.1 in
          ap is_some (sym is ∙ there.1)
      by false None dead is = refl
      by false (Some t) dead is = sym (merged_from s p t is).carried ∙ dead

  present_before : (who : Pid) (t : Tag) → who.0 < length s.routing.participants → tells (present s1 who) t ≡ true → tells (present s who) t ≡ true
  present_before who t declared now =
      let p = present_tag s1 who t now in
      let from = merged_from s p.0 t p.1.tagged in
      present_from s who from.like t (alike_routed s.routing p.0 from.like who p.1.chosen declared p.1.best_is from.alike) from.tagged

  pub pair_was_live : (pair : Pair) → is_live_pair s1 pair ≡ true → is_live_pair s pair ≡ true
  pair_was_live pair live =
      let at = live_at s1 pair live in
      let q : PortInfo = at.0 in
      live_from s pair q at.1.port (elim (or_cases (tells (told_to s q.owner) pair.tag) (tells (present s1 q.owner) pair.tag) at.1.for) [
        | inl told ↦ or_left (tells (told_to s q.owner) pair.tag) (tells (present s q.owner) pair.tag) told
        | inr now ↦ or_right (tells (told_to s q.owner) pair.tag) (tells (present s q.owner) pair.tag) (present_before q.owner pair.tag (steady.owners q (port_Member s pair q at.1.port)) now)
      ])

  pub part_stays : (pair : Pair) → is_live_pair s1 pair ≡ true → owners_part s1 pair ≡ owners_part s pair
  part_stays pair live =
      ap (λ kept. option_and_then (λ (q : PortInfo). option_and_then (λ sig. part_of sig q.owner) kept) (port_of s pair.port)) (keeps pair.tag (live_tag s1 pair live))

pub merged_tags_were_live : MergedTagsWereLive
merged_tags_were_live s steady t live = (tag_was_live s steady.steady t live, keeps s steady.steady t live)

pub merged_pairs_were_live : MergedPairsWereLive
merged_pairs_were_live s steady pair live = pair_was_live s steady.steady pair live

pub right_rules_stay : RightRulesStay
right_rules_stay s steady pair live =
    let stays : owners_part (merged s) pair ≡ owners_part s pair = part_stays s steady.steady pair live in
    (stays, λ ps rules right. (right.0, stays ∙ right.1, right.2))
