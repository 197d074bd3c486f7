-- Pairs that are live: where they stand, and what is kept for those whose tag is present for their port's owner.
use Rattle.std.proofs.Common.{◌≡◌, true, false, nat_eq, map, sym, ap, subst, ◌∙◌, refl, inl, inr}
use Rattle.std.specs.Prelude.{Option, Some, None, is_some, slice_get, unwrap_or}
use Rattle.std.specs.FinMap.{FinMap, empty, get, values}
use Rattle.std.specs.List.{list_any}
use Rattle.std.specs.Option.{option_and_then, option_map, option_map_or}
use Rattle.std.proofs.lemmas.Bool.{eqb-true, or_cases, or_right}
use Rattle.events.proofs.Routed.{part_with, signature_part}
use Rattle.events.specs.Sound.{owners_part, part_of}
use Rattle.events.specs.State.{State, port_of, present, present_entry, told_to}
use Rattle.events.specs.declared.Entry.{Entry}
use Rattle.events.specs.Tags.{is_live, is_live_for, is_live_pair, pairs, same_tag, tags, tells}
use Rattle.exchange_laws.proofs.FreshTags.{best_announced}
use Rattle.exchange_laws.proofs.Lists.{get_tabulated, is_some_of}
use Rattle.exchange_laws.proofs.Sames.{tag_itself, tag_same}
use Rattle.exchange_laws.proofs.TagsAfter.{live_of}
use Rattle.exchange_laws.specs.Retagging.{TagsArePooled}
use Rattle.exchange_laws.specs.Rules.{OwnersAreDeclared}
use Rattle.net_types.proofs.FindLemmas.{any_at, find-IsFound, slice_get-Member}
use Rattle.net_types.proofs.OrderLemmas.{prefix_tie, prefixes_total}
use Rattle.net_types.proofs.PassLemmas.{some_there}
use Rattle.net_types.proofs.SetLemmas.{Member-map, Member-union}
use Rattle.net_types.proofs.ValueLemmas.{any_value, no_entries, value_at}
use Rattle.net_types.specs.Keys.{prefix_cmp}
use Rattle.net_types.specs.Routes.{Candidate, announced, best}
use Rattle.net_types.specs.Sets.{Member}
use Rattle.net_types.specs.Signatures.{signature}
use Rattle.net_types.specs.declared.address.Pid.{Pid}
use Rattle.net_types.specs.declared.address.Tag.{Tag}
use Rattle.net_types.specs.declared.prefix.Prefix.{Prefix}
use Rattle.net_types.specs.declared.route.PortInfo.{PortInfo}
use Rattle.net_types.specs.declared.rule.Pair.{Pair}

-- the port of a live pair
pub record IsLiveAt (s : State) (pair : Pair) (q : PortInfo) : Type 0 where
  pub port : port_of s pair.port ≡ Some q
  pub for : is_live_for s pair.tag q ≡ true

pub live_at : (s : State) (pair : Pair) → is_live_pair s pair ≡ true → (q : PortInfo) × IsLiveAt s pair q
live_at s pair live = by (port_of s pair.port) refl live
  where
    by : (o : Option PortInfo) → port_of s pair.port ≡ o → option_map_or (is_live_for s pair.tag) o false ≡ true → (q : PortInfo) × IsLiveAt s pair q
    by None none e = cc
    by (Some q) at e = (q, record { port = at; for = e })

pub live_from : (s : State) (pair : Pair) (q : PortInfo) → port_of s pair.port ≡ Some q → is_live_for s pair.tag q ≡ true → is_live_pair s pair ≡ true
live_from s pair q at e = ap (λ o. option_map_or (is_live_for s pair.tag) o false) at ∙ e

-- the port of a number is one of the ports
pub port_Member : (s : State) (pair : Pair) (q : PortInfo) → port_of s pair.port ≡ Some q → Member q s.routing.ports
port_Member s pair q at = (find-IsFound (λ (x : PortInfo). nat_eq x.number.0 pair.port.0) s.routing.ports q at).stands

-- ---- what is present

-- where something is present there is a best route, and the prefix has the tag
pub record IsPresent (s : State) (who : Pid) (p : Prefix) (t : Tag) : Type 0 where
  pub chosen : Candidate
  pub best_is : best s.routing who p ≡ Some chosen
  pub tagged : get s.tag p ≡ Some t

entry_from : (s : State) (who : Pid) (p : Prefix) (e : Entry) → present_entry s who p ≡ Some e → IsPresent s who p e.tag
entry_from s who p e is = by (best s.routing who p) (get s.tag p) refl refl is
  where
    by : (b : Option Candidate) (o : Option Tag) → best s.routing who p ≡ b → get s.tag p ≡ o
        → option_and_then (λ (c : Candidate). option_map (λ t. let x : Entry = record { attrs = c.attrs; tag = t } in x) o) b ≡ Some e → IsPresent s who p e.tag
    by None o chosen tag is = cc
    by (Some c) None chosen tag is = cc
    by (Some c) (Some t) chosen tag is = record { chosen = c; best_is = chosen; tagged = tag ∙ ap (λ (x : Option Entry). option_map (λ y. y.tag) x) is }

pub present_is : (s : State) (who : Pid) (p : Prefix) → get (present s who) p ≡ present_entry s who p
present_is s who p = get_tabulated prefix_cmp prefixes_total prefix_tie (present_entry s who) (announced s.routing) (λ q there. best_announced s.routing who q (by (best s.routing who q) (get s.tag q) there)) p
  where
    by : (b : Option Candidate) (o : Option Tag) → is_some (option_and_then (λ (c : Candidate). option_map (λ t. let x : Entry = record { attrs = c.attrs; tag = t } in x) o) b) ≡ true → is_some b ≡ true
    by None o e = e
    by (Some c) o e = refl

-- a tag that is present is a prefix's, for which there is a best route
pub present_tag : (s : State) (who : Pid) (t : Tag) → tells (present s who) t ≡ true → (p : Prefix) × IsPresent s who p t
present_tag s who t told =
    let v = value_at prefix_cmp prefixes_total (λ (e : Entry). same_tag e.tag t) (present s who) told in
    (v.key, subst (IsPresent s who v.key) (tag_same v.value.tag t v.passes) (entry_from s who v.key v.value (sym (present_is s who v.key) ∙ v.there)))

-- a best route and a tag make an entry present
pub present_from : (s : State) (who : Pid) (p : Prefix) (t : Tag) → is_some (best s.routing who p) ≡ true → get s.tag p ≡ Some t → tells (present s who) t ≡ true
present_from s who p t routed tagged =
    let chosen = some_there (best s.routing who p) routed in
    let e : Entry = record { attrs = chosen.0.attrs; tag = t } in
    any_value prefix_cmp prefixes_total (λ (x : Entry). same_tag x.tag t) (present s who) p e
    (present_is s who p
    ∙ ap (λ b. option_and_then (λ (c : Candidate). option_map (λ u. let x : Entry = record { attrs = c.attrs; tag = u } in x) (get s.tag p)) b) chosen.1
    ∙ ap (λ o. option_map (λ u. let x : Entry = record { attrs = chosen.0.attrs; tag = u } in x) o) tagged)
    (tag_itself t)

-- ---- live tags

-- what a participant was told is among what was told
pub told_live : (s : State) (who : Pid) (t : Tag) → tells (told_to s who) t ≡ true → list_any (λ entries. tells entries t) s.told ≡ true
told_live s who t told = by (slice_get s.told who.0) refl told
  where
    by : (o : Option (FinMap prefix_cmp Entry)) → slice_get s.told who.0 ≡ o → tells (unwrap_or o empty) t ≡ true → list_any (λ entries. tells entries t) s.told ≡ true
    by None none e = absurd (let nothing : list_any (λ (x : Entry). same_tag x.tag t) (values (empty {K = Prefix} {X = Entry} {R = prefix_cmp})) ≡ false = ap (λ es. list_any (λ (x : Entry). same_tag x.tag t) (map (λ (d : Prefix × Entry). d.1) es)) (no_entries Prefix Entry prefix_cmp) in cc)
    by (Some entries) at e = any_at (λ es. tells es t) s.told entries (slice_get-Member s.told who.0 entries at) e

-- the tag of a live pair is live
pub live_tag : (s : State) (pair : Pair) → is_live_pair s pair ≡ true → is_live s pair.tag ≡ true
live_tag s pair live =
    let at = live_at s pair live in
    elim (or_cases (tells (told_to s at.0.owner) pair.tag) (tells (present s at.0.owner) pair.tag) at.1.for) [
      | inl told ↦ or_right (list_any (same_tag pair.tag) (values s.tag)) (list_any (λ entries. tells entries pair.tag) s.told) (told_live s at.0.owner pair.tag told)
      | inr now ↦ let p = present_tag s at.0.owner pair.tag now in live_of s p.0 pair.tag p.1.tagged
    ]

-- a live pair is one of a declared port with a tag of the pool
pub pair_listed : (s : State) → TagsArePooled s → (pair : Pair) → is_live_pair s pair ≡ true → Member pair (pairs s)
pair_listed s pooled pair live =
    let at = live_at s pair live in
    let found = find-IsFound (λ (x : PortInfo). nat_eq x.number.0 pair.port.0) s.routing.ports at.0 at.1.port in
    let q : PortInfo = at.0 in
    Member-union (λ (x : PortInfo). map (λ t. let y : Pair = record { port = x.number; tag = t } in y) (tags s)) s.routing.ports q pair found.stands
    (subst (λ y. Member y (map (λ t. let y : Pair = record { port = q.number; tag = t } in y) (tags s))) (λ i. record { port = record { 0 = eqb-true q.number.0 pair.port.0 found.passes i }; tag = pair.tag })
    (Member-map (λ t. let y : Pair = record { port = q.number; tag = t } in y) (tags s) pair.tag (pooled pair.tag (live_tag s pair live))))

-- ---- the owner's part

-- the signature of each prefix is the one that is kept for its tag
abbrev pub IsKeptFor : State → Type 0
IsKeptFor s = (p : Prefix) (t : Tag) → get s.tag p ≡ Some t → get s.kept t ≡ Some (signature s.routing p)

-- where a tag is present for the owner of a port, the owner has a part in the signature that is kept for it
pub present_part : (s : State) → IsKeptFor s → OwnersAreDeclared s.routing → (pair : Pair) (q : PortInfo) → port_of s pair.port ≡ Some q → tells (present s q.owner) pair.tag ≡ true → is_some (owners_part s pair) ≡ true
present_part s kept owners pair q at now =
    let p = present_tag s q.owner pair.tag now in
    is_some_of (owners_part s pair) (part_with s.routing q.owner p.0 p.1.chosen)
    (ap (option_and_then (λ (x : PortInfo). option_and_then (λ sig. part_of sig x.owner) (get s.kept pair.tag))) at
    ∙ ap (option_and_then (λ sig. part_of sig q.owner)) (kept p.0 pair.tag p.1.tagged)
    ∙ signature_part s.routing q.owner p.0 p.1.chosen (owners q (port_Member s pair q at)) p.1.best_is)
