-- The lines by which routers resolve next hops are steps.
use Rattle.std.proofs.Common.{◌≡◌, ℕ, ◌+◌, ◌<◌, ◌≤◌, Bool, true, false, cond, ◌&&◌, not, List, [], ◌∷◌, ◌++◌, map, filter, ap, ◌∙◌, refl, sym, subst, arith}
use Rattle.std.specs.Prelude.{Some, None, All, MatchOption, slice_get, slice_set, slice_index_or, unwrap_or}
use Rattle.std.specs.FinMap.{FinMap, empty, values}
use Rattle.std.specs.List.{list_any}
use Rattle.std.specs.Option.{option_map_or}
use Rattle.std.specs.Cmp.{nat_cmp_is}
use Rattle.std.specs.Ordering.{is_lt}
use Rattle.std.specs.declared.cmp.Ordering.TheVariants.{Less}
use Rattle.std.proofs.lemmas.Bool.{eq-eqb}
use Rattle.std.proofs.lemmas.Option.{cond_some}
use Rattle.arp_frame.specs.declared.read.ArpRequest.{ArpRequest}
use Rattle.events.specs.After.{running, with_known}
use Rattle.events.specs.Forms.{IsWellFormed}
use Rattle.events.specs.Fits.{IsStep, asks_for, bare, responder_reply}
use Rattle.events.specs.Refusals.{if_known}
use Rattle.events.specs.Resolving.{is_pool_request, port_place, resolved_at, tag_address, unresolved, with_answer, with_resolved}
use Rattle.events.specs.State.{State, port_of, told_to}
use Rattle.events.specs.Tags.{same_tag}
use Rattle.events.specs.declared.Entry.{Entry}
use Rattle.events.specs.declared.Event.TheVariants.{Arp, Resolve}
use Rattle.events.specs.declared.Head.TheVariants.{Fine, Silent}
use Rattle.events.specs.declared.Phase.TheVariants.{Running}
use Rattle.events.specs.declared.Reply.{Reply}
use Rattle.net_types.proofs.OrderedLemmas.{ordered_is, ordered_rises, ordered_same}
use Rattle.net_types.specs.Arp.{asked_ip, asker_ip, asker_mac}
use Rattle.net_types.specs.Attributes.{same_ip}
use Rattle.net_types.specs.Frames.{address_of}
use Rattle.net_types.specs.Keys.{ip_cmp, prefix_cmp, tag_cmp, is_ip_before}
use Rattle.net_types.specs.Maps.{ordered}
use Rattle.net_types.specs.Octets.{same_octets}
use Rattle.net_types.specs.Sets.{IsRising, Member}
use Rattle.net_types.specs.declared.address.Ip.{Ip}
use Rattle.net_types.specs.declared.address.PortNo.{PortNo}
use Rattle.net_types.specs.declared.address.Tag.{Tag}
use Rattle.net_types.specs.declared.route.PortInfo.{PortInfo}
use Rattle.net_types.proofs.FindLemmas.{any_at}
use Rattle.net_types.proofs.MemberLemmas.{Member-at}
use Rattle.net_types.proofs.OrderLemmas.{tags_total, ips_total}
use Rattle.net_types.proofs.RisingLemmas.{before, filter-Member}
use Rattle.net_types.proofs.SetLemmas.{map-Member, map-map, same_map}
use Rattle.next_hop_pool.specs.Free.{Tags}
use Rattle.exchange_core.specs.Placed.{is_declared}
use Rattle.exchange_core.specs.Resolved.{exchange_for, missing_hops, pool_request, reply_to}
use Rattle.exchange_core.specs.declared.programs.Programs.{Programs}
use Rattle.exchange_core.specs.View.{IsKept}
use Rattle.exchange_core.proofs.AddressSets.{ips_tie}
use Rattle.fast_path.proofs.TagOrder.{less_from}
use Rattle.net_types.proofs.TieLemmas.{tag_tie}
use Rattle.exchange_laws.proofs.PoolTags.{live_small, told_live}
use Rattle.exchange_core.proofs.Ports.{own_place}
use Rattle.exchange_core.proofs.Steps.{in_place, kept_after, placed, quiet_step}

-- ---- steps

-- the running state in which the routers have resolved these
abbrev pub resolving : State → List (List Ip) → State
resolving s lists = record s { phase = Running; resolved = lists }

pub arp_step : {s : State} {pool : Tags} {all : List Programs} → IsKept s pool all → is_declared s.phase ≡ true → (port : PortNo) (bytes : List ℕ) (q : PortInfo) → IsWellFormed (Arp port bytes) → port_of s port ≡ Some q
    → (r : Reply) → r ≡ responder_reply s bytes → (lists : List (List Ip)) → resolving s lists ≡ running (with_answer s q bytes) → IsStep s (Arp port bytes) r (resolving s lists)
arp_step {s} kept ready port bytes q formed found r is lists then =
    subst (IsStep s (Arp port bytes) r) (ap (λ o. with_known s o (λ x. running (with_answer s x bytes))) found ∙ sym then)
    (quiet_step s (Arp port bytes) r kept.steady formed refl
    (in_place s (Arp port bytes) (placed (Arp port bytes) refl refl s.phase ready) ∙ ap (λ o. if_known o (λ x. None)) found) refl is)

pub arp_kept : {s : State} {pool : Tags} {all : List Programs} → IsKept s pool all → is_declared s.phase ≡ true → (port : PortNo) (bytes : List ℕ) (q : PortInfo) → IsWellFormed (Arp port bytes) → port_of s port ≡ Some q
    → (lists : List (List Ip)) → resolving s lists ≡ running (with_answer s q bytes) → IsKept (resolving s lists) pool all
arp_kept {s} {pool} kept ready port bytes q formed found lists then =
    kept_after s (Arp port bytes) (responder_reply s bytes) (resolving s lists) pool kept formed refl (arp_step kept ready port bytes q formed found (responder_reply s bytes) refl lists then) refl refl refl _ kept.compiled

pub resolve_step : {s : State} {pool : Tags} {all : List Programs} → IsKept s pool all → is_declared s.phase ≡ true → (port : PortNo) (q : PortInfo) → IsWellFormed (Resolve port) → port_of s port ≡ Some q
    → (r : Reply) → r ≡ record (bare Fine) { asks = map (asks_for s q) (unresolved s q) } → (lists : List (List Ip)) → resolving s lists ≡ running (with_resolved s port (unresolved s q)) → IsStep s (Resolve port) r (resolving s lists)
resolve_step {s} kept ready port q formed found r is lists then =
    subst (IsStep s (Resolve port) r) (ap (λ o. with_known s o (λ x. running (with_resolved s port (unresolved s x)))) found ∙ sym then)
    (quiet_step s (Resolve port) r kept.steady formed refl
    (in_place s (Resolve port) (placed (Resolve port) refl refl s.phase ready) ∙ ap (λ o. if_known o (λ x. None)) found) refl
    (subst (λ o. MatchOption o ⊥ (λ x. r ≡ record (bare Fine) { asks = map (asks_for s x) (unresolved s x) })) (sym found) is))

pub resolve_kept : {s : State} {pool : Tags} {all : List Programs} → IsKept s pool all → is_declared s.phase ≡ true → (port : PortNo) (q : PortInfo) → IsWellFormed (Resolve port) → port_of s port ≡ Some q
    → (lists : List (List Ip)) → resolving s lists ≡ running (with_resolved s port (unresolved s q)) → IsKept (resolving s lists) pool all
resolve_kept {s} {pool} kept ready port q formed found lists then =
    let r : Reply = record (bare Fine) { asks = map (asks_for s q) (unresolved s q) } in
    kept_after s (Resolve port) r (resolving s lists) pool kept formed refl (resolve_step kept ready port q formed found r refl lists then) refl refl refl _ kept.compiled

-- ---- what the router at a port has resolved

resolved_is : (s : State) (n : PortNo) (place : ℕ) → port_place s n ≡ Some place → (set : List Ip) → slice_get s.resolved place ≡ Some set → resolved_at s n ≡ set
resolved_is s n place at set there = ap (λ o. option_map_or (λ k. unwrap_or (slice_get s.resolved k) []) o []) at ∙ ap (λ o. unwrap_or o []) there

with_resolved_is : (s : State) (n : PortNo) (place : ℕ) → port_place s n ≡ Some place → (set : List Ip) → slice_get s.resolved place ≡ Some set → (ips : List Ip)
    → resolving s (slice_set s.resolved place (ordered ip_cmp (set ++ ips))) ≡ running (with_resolved s n ips)
with_resolved_is s n place at set there ips =
    ap (λ xs. resolving s (slice_set s.resolved place (ordered ip_cmp (xs ++ ips)))) (sym (resolved_is s n place at set there))
    ∙ ap (λ o. running (option_map_or (λ k. let x : State = record s { resolved = slice_set s.resolved k (ordered ip_cmp (resolved_at s n ++ ips)) } in x) o s)) (sym at)

-- ---- a request to the responder

not_some : {A : Type 0} (b : Bool) (x : A) → cond b (Some x) None ≡ None → b ≡ false
not_some true x e = absurd (cc)
not_some false x e = refl

module _ (s : State) (bytes : List ℕ) where
  -- the frame, read as a request
  abbrev whole : ArpRequest
  whole = record { mac = asker_mac bytes; ip = asker_ip bytes; target = asked_ip bytes }

  -- the reply to a request for an address of the pool
  abbrev answer : ArpRequest → Reply
  answer x = record (bare Fine) { asks = record { request = None; reply = reply_to s.base x } ∷ [] }

  -- the state after a request, by whether the router has resolved the address
  abbrev state_by : PortInfo → Bool → State
  state_by q b = running (cond b (with_resolved s q.number (asked_ip bytes ∷ [])) s)

  unasked : pool_request s.base s.size bytes ≡ None → is_pool_request s bytes ≡ false
  unasked none = not_some (is_pool_request s bytes) whole none

  -- the responder is silent
  pub silent_reply : pool_request s.base s.size bytes ≡ None → (r : Reply) → r ≡ bare Silent → r ≡ responder_reply s bytes
  silent_reply none r is = is ∙ ap (λ b. cond b (answer whole) (bare Silent)) (sym (unasked none))

  pub silent_state : pool_request s.base s.size bytes ≡ None → (q : PortInfo) → resolving s s.resolved ≡ running (with_answer s q bytes)
  silent_state none q = ap (λ b. state_by q (b && same_octets (asker_mac bytes).0 q.mac.0)) (sym (unasked none))

  module _ (asked : ArpRequest) (is_asked : pool_request s.base s.size bytes ≡ Some asked) where
    parts : (is_pool_request s bytes ≡ true) × (whole ≡ asked)
    parts = cond_some (is_pool_request s bytes) whole asked is_asked

    -- it answers
    pub answer_reply : (r : Reply) → r ≡ answer asked → r ≡ responder_reply s bytes
    answer_reply r is = is ∙ ap answer (sym parts.1) ∙ ap (λ b. cond b (answer whole) (bare Silent)) (sym parts.0)

    by_mac : (q : PortInfo) (b : Bool) → same_octets asked.mac.0 q.mac.0 ≡ b → state_by q b ≡ running (with_answer s q bytes)
    by_mac q b is = ap (state_by q) (sym is ∙ ap (λ (x : ArpRequest). same_octets x.mac.0 q.mac.0) (sym parts.1) ∙ ap (λ a. a && same_octets (asker_mac bytes).0 q.mac.0) (sym parts.0))

    -- who asks with another MAC has resolved nothing more
    pub other_state : (q : PortInfo) → same_octets asked.mac.0 q.mac.0 ≡ false → resolving s s.resolved ≡ running (with_answer s q bytes)
    other_state q other = by_mac q false other

    -- a router that asked with its own MAC has resolved the address
    pub own_state : (port : PortNo) (place : ℕ) (q : PortInfo) → port_place s port ≡ Some place → slice_get s.routing.ports place ≡ Some q → same_octets asked.mac.0 q.mac.0 ≡ true
        → (set : List Ip) → slice_get s.resolved place ≡ Some set → (lists : List (List Ip)) → lists ≡ slice_set s.resolved place (ordered ip_cmp (set ++ asked.target ∷ [])) → resolving s lists ≡ running (with_answer s q bytes)
    own_state port place q at here own set there lists more =
        ap (resolving s) more ∙ ap (λ (x : ArpRequest). resolving s (slice_set s.resolved place (ordered ip_cmp (set ++ x.target ∷ [])))) (sym parts.1)
        ∙ with_resolved_is s q.number place (own_place s port place q at here) set there (asked_ip bytes ∷ []) ∙ by_mac q true own

-- ---- addresses of tags

before_from : (x y : Ip) → x.0 < y.0 → is_ip_before x y ≡ true
before_from x y less = ap is_lt (sym (nat_cmp_is x.0 y.0 Less less))

address_before : (base : Ip) (t u : Tag) → before tag_cmp t u ≡ true → is_ip_before (address_of base t) (address_of base u) ≡ true
address_before base t u e = let less : t.0 < u.0 = less_from t.0 u.0 e in before_from (address_of base t) (address_of base u) (omega arith)

addresses_rise : (base : Ip) (ts : List Tag) → IsRising (before tag_cmp) ts → IsRising is_ip_before (map (address_of base) ts)
addresses_rise base [] rises = tt
addresses_rise base (t ∷ ts) rises = (
  λ y m. let image = map-Member (address_of base) ts y m in subst (λ z. is_ip_before (address_of base t) z ≡ true) (sym image.is) (address_before base t image.of (rises.0 image.of image.stands)),
  addresses_rise base ts rises.1,
)

-- the addresses of tags in order are in order
addresses_ordered : (base : Ip) (ts : List Tag) → map (address_of base) (ordered tag_cmp ts) ≡ ordered ip_cmp (map (address_of base) ts)
addresses_ordered base ts =
    ordered_is ip_cmp ips_total ips_tie (map (address_of base) (ordered tag_cmp ts)) (map (address_of base) ts)
    (addresses_rise base (ordered tag_cmp ts) (ordered_rises tag_cmp tags_total tag_tie ts)) (same_map (address_of base) (ordered_same tag_cmp tags_total tag_tie ts))

-- ---- next hops that are missing

-- the tags that were told, ascending
abbrev pub tags_told : FinMap prefix_cmp Entry → List Tag
tags_told entries = ordered tag_cmp (map (λ (e : Entry). e.tag) (values entries))

-- each is one of the pool's
tag_small : {s : State} {pool : Tags} {all : List Programs} → IsKept s pool all → (k : ℕ) (entries : FinMap prefix_cmp Entry) → slice_get s.told k ≡ Some entries → (t : Tag) → Member t (tags_told entries) → t.0 ≤ 65536
tag_small {s} kept k entries at t m =
    let image = map-Member (λ (e : Entry). e.tag) (values entries) t ((ordered_same tag_cmp tags_total tag_tie (map (λ (e : Entry). e.tag) (values entries))).onto t m) in
    let equal : image.of.tag.0 ≡ t.0 = sym (ap (λ (x : Tag). x.0) image.is) in
    live_small kept.steady t (told_live s k entries at t (any_at (λ (e : Entry). same_tag e.tag t) (values entries) image.of image.stands (eq-eqb image.of.tag.0 t.0 equal)))

pub tags_small : {s : State} {pool : Tags} {all : List Programs} → IsKept s pool all → (k : ℕ) (entries : FinMap prefix_cmp Entry) → slice_get s.told k ≡ Some entries → (tags : List Tag) → tags ≡ tags_told entries → All (λ (t : Tag). t.0 ≤ 65536) tags
tags_small {s} kept k entries at tags are j d less =
    let t : Tag = slice_index_or tags j d in
    tag_small kept k entries at t (subst (Member t) are (Member-at tags j d t less refl))

-- the addresses that the router asks for are the pool's
pub hops_within : {s : State} {pool : Tags} {all : List Programs} → IsKept s pool all → (k : ℕ) (entries : FinMap prefix_cmp Entry) → slice_get s.told k ≡ Some entries → (tags : List Tag) → tags ≡ tags_told entries
    → (known ips : List Ip) → ips ≡ missing_hops s.base known tags → All (λ (ip : Ip). (s.base.0 ≤ ip.0) × (ip.0 ≤ s.base.0 + 65536)) ips
hops_within {s} kept k entries at tags are known ips missing j d less =
    let x : Ip = slice_index_or ips j d in
    let test : Ip → Bool = λ ip. not (list_any (same_ip ip) known) in
    let stands : Member x (filter test (map (address_of s.base) tags)) = subst (Member x) missing (Member-at ips j d x less refl) in
    let image = map-Member (address_of s.base) tags x (filter-Member test (map (address_of s.base) tags) x stands).stands in
    let small : image.of.0 ≤ 65536 = tag_small kept k entries at image.of (subst (Member image.of) are image.stands) in
    let same : x.0 ≡ s.base.0 + image.of.0 = ap (λ (y : Ip). y.0) image.is in
    (omega arith, omega arith)

module _ (s : State) (port : PortNo) (place : ℕ) (q : PortInfo) (at : port_place s port ≡ Some place) (here : slice_get s.routing.ports place ≡ Some q) (entries : FinMap prefix_cmp Entry) (told_is : slice_get s.told q.owner.0 ≡ Some entries)
    (set : List Ip) (there : slice_get s.resolved place ≡ Some set) (tags : List Tag) (are : tags ≡ tags_told entries) where
  -- the addresses of the tags that were told, in order
  abbrev addresses : FinMap prefix_cmp Entry → List Ip
  addresses es = ordered ip_cmp (map (λ (e : Entry). tag_address s e.tag) (values es))

  in_order : map (address_of s.base) tags ≡ addresses (told_to s q.owner)
  in_order =
      ap (map (address_of s.base)) are ∙ addresses_ordered s.base (map (λ (e : Entry). e.tag) (values entries))
      ∙ ap (ordered ip_cmp) (map-map (address_of s.base) (λ (e : Entry). e.tag) (λ (e : Entry). tag_address s e.tag) (λ e. refl) (values entries))
      ∙ ap (λ o. addresses (unwrap_or o empty)) (sym told_is)

  -- those that are missing are those that are unresolved
  pub missing_are : missing_hops s.base set tags ≡ unresolved s q
  missing_are =
      ap (filter (λ ip. not (list_any (same_ip ip) set))) in_order
      ∙ ap (λ xs. filter (λ ip. not (list_any (same_ip ip) xs)) (addresses (told_to s q.owner))) (sym (resolved_is s q.number place (own_place s port place q at here) set there))

  module _ (ips : List Ip) (missing : ips ≡ missing_hops s.base set tags) where
    pub hops_reply : (r : Reply) → r ≡ record (bare Fine) { asks = map (exchange_for s.base q) ips } → r ≡ record (bare Fine) { asks = map (asks_for s q) (unresolved s q) }
    hops_reply r is = is ∙ ap (λ xs. record (bare Fine) { asks = map (exchange_for s.base q) xs }) (missing ∙ missing_are)

    pub hops_state : (lists : List (List Ip)) → lists ≡ slice_set s.resolved place (ordered ip_cmp (set ++ ips)) → resolving s lists ≡ running (with_resolved s port (unresolved s q))
    hops_state lists more =
        ap (resolving s) more ∙ ap (λ xs. resolving s (slice_set s.resolved place (ordered ip_cmp (set ++ xs)))) (missing ∙ missing_are)
        ∙ with_resolved_is s port place at set there (unresolved s q)
