-- A drained sender was told of exactly the prefixes for which it has a best route, so the longest told prefix is the
-- longest exported one.
use Rattle.std.proofs.Common.{◌≡◌, ℕ, zero, suc, ◌+◌, ◌<◌, Bool, true, false, cond, ◌&&◌, ◌||◌, List, length, filter, sym, ap, subst, ◌∙◌, refl, arith}
use Rattle.std.specs.Prelude.{Option, Some, None, is_some, MatchOption}
use Rattle.std.specs.FinMap.{get, keys, contains_key-keys}
use Rattle.std.specs.List.{list_any}
use Rattle.std.specs.Option.{option_map, option_and_then}
use Rattle.std.specs.Ordering.{eq_by_cmp}
use Rattle.std.proofs.lemmas.Bool.{or_right}
use Rattle.std.proofs.lemmas.Map.Views.{any-filter_same}
use Rattle.events.proofs.Reached.{owner_declared, runs_declared, runs_sound}
use Rattle.events.specs.Fits.{FitsBy, IsAccepted, IsSent, IsForwarded, IsTagged, ReachesExporters, bare, tagged_frame}
use Rattle.events.specs.Headline.{LeavesByTag, LeavesFor, LeavesOrAsks, AnswersDrained, AnswersTold}
use Rattle.events.specs.Legal.{state_after}
use Rattle.events.specs.Resolving.{is_resolved, tag_address}
use Rattle.events.specs.Sound.{IsSound}
use Rattle.events.specs.State.{State, Entry, ArePolicies, IsDrained, told_to, present, present_entry}
use Rattle.events.specs.Table.{out}
use Rattle.events.specs.Tags.{is_carried}
use Rattle.events.specs.declared.Event.TheVariants.{Packet}
use Rattle.events.specs.declared.Head.TheVariants.{Unrouted}
use Rattle.events.specs.declared.Reply.{Reply}
use Rattle.net_types.proofs.LongestLemmas.{same_longest_by_tests}
use Rattle.net_types.proofs.MapLemmas.{get-tabulate}
use Rattle.net_types.proofs.OrderLemmas.{prefixes_total, prefix_tie}
use Rattle.net_types.proofs.PassLemmas.{any_map}
use Rattle.net_types.specs.Answers.{Policies, answer}
use Rattle.net_types.specs.Exports.{Routing}
use Rattle.net_types.specs.Frames.{destination, headers_of}
use Rattle.net_types.specs.Keys.{prefix_cmp}
use Rattle.net_types.specs.Routes.{Candidate, best, longest, longest_of, announced, numbers}
use Rattle.net_types.specs.declared.address.Ip.{Ip}
use Rattle.net_types.specs.declared.address.Pid.{Pid}
use Rattle.net_types.specs.declared.address.Tag.{Tag}
use Rattle.net_types.specs.declared.headers.Headers.{Headers}
use Rattle.net_types.specs.declared.prefix.Prefix.{Prefix}
use Rattle.net_types.specs.declared.route.PortInfo.{PortInfo}

-- ---- a participant with a best route makes a prefix carried

any_number : (f : ℕ → Bool) (low count k : ℕ) → k < count → f (low + k) ≡ true → list_any f (numbers low count) ≡ true
any_number f low zero k below is = absurd (omega arith)
any_number f low (suc count) zero below is = let here : low + 0 ≡ low = omega arith in ap (λ b. b || list_any f (numbers (low + 1) count)) (ap f (sym here) ∙ is)
any_number f low (suc count) (suc k) below is =
    let there : low + suc k ≡ low + 1 + k = omega arith in
    or_right (f low) _ (any_number f (low + 1) count k (omega arith) (ap f (sym there) ∙ is))

carried_by : (r : Routing) (who : Pid) (p : Prefix) → who.0 < length r.participants → is_some (best r who p) ≡ true → is_carried r p ≡ true
carried_by r who p within has =
    any_map (λ to. is_some (best r to p)) (λ n. let to : Pid = record { 0 = n } in to) (numbers 0 (length r.participants))
    ∙ any_number (λ n. is_some (best r (record { 0 = n }) p)) 0 (length r.participants) who.0 within (at_zero who.0 ∙ has)
  where
    at_zero : (n : ℕ) → is_some (best r (record { 0 = 0 + n }) p) ≡ is_some (best r (record { 0 = n }) p)
    at_zero n = let same : 0 + n ≡ n = omega arith in ap (λ k. is_some (best r (record { 0 = k }) p)) same

-- ---- what is present

-- where there is a best route there is a tag, and so an entry
entry_there : (b : Option Candidate) (t : Option Tag) → (is_some b ≡ true → is_some t ≡ true) → is_some (option_and_then (λ (c : Candidate). option_map (λ u. let e : Entry = record { attrs = c.attrs; tag = u } in e) t) b) ≡ is_some b
entry_there None t tagged = refl
entry_there (Some c) None tagged = tagged refl
entry_there (Some c) (Some u) tagged = refl

present_there : (s : State) (who : Pid) → IsSound s → who.0 < length s.routing.participants → (p : Prefix) → is_some (present_entry s who p) ≡ is_some (best s.routing who p)
present_there s who sound within p = entry_there (best s.routing who p) (get s.tag p) (λ has. sound.tagged p ∙ carried_by s.routing who p within has)

is_some_cond : {A : Type 0} (b : Bool) (o : Option A) → is_some (cond b o None) ≡ (is_some o && b)
is_some_cond true None = refl
is_some_cond true (Some x) = refl
is_some_cond false None = refl
is_some_cond false (Some x) = refl

get_present : (s : State) (who : Pid) (p : Prefix) → get (present s who) p ≡ cond (list_any (eq_by_cmp prefix_cmp p) (announced s.routing)) (present_entry s who p) None
get_present s who p = get-tabulate prefix_cmp prefixes_total (present_entry s who) (λ q k tie. ap (present_entry s who) (sym (prefix_tie q k tie))) (announced s.routing) p

-- the prefixes that are present are the announced ones with a best route
same_prefixes : (s : State) (who : Pid) → IsSound s → who.0 < length s.routing.participants → (p : Prefix)
    → list_any (eq_by_cmp prefix_cmp p) (keys (present s who)) ≡ list_any (eq_by_cmp prefix_cmp p) (filter (λ q. is_some (best s.routing who q)) (announced s.routing))
same_prefixes s who sound within p =
    let there : Bool = list_any (eq_by_cmp prefix_cmp p) (announced s.routing) in
    sym (contains_key-keys (present s who) p) ∙ ap is_some (get_present s who p) ∙ is_some_cond there (present_entry s who p)
    ∙ ap (λ b. b && there) (present_there s who sound within p)
    ∙ sym (any-filter_same (eq_by_cmp prefix_cmp p) (λ q. is_some (best s.routing who q)) (is_some (best s.routing who p)) (λ q tie. ap (λ x. is_some (best s.routing who x)) (sym (prefix_tie p q tie))) (announced s.routing))

longest_present : (s : State) (who : Pid) → IsSound s → who.0 < length s.routing.participants → (d : Ip) → longest_of (keys (present s who)) d ≡ longest s.routing who d
longest_present s who sound within d =
    same_longest_by_tests (keys (present s who)) (filter (λ q. is_some (best s.routing who q)) (announced s.routing)) d (same_prefixes s who sound within)

-- ---- the entry told for the longest prefix

pub some_cond : {A : Type 0} (b : Bool) (o : Option A) (x : A) → cond b o None ≡ Some x → o ≡ Some x
some_cond true o x e = e
some_cond false o x e = cc

-- an entry that is present has the prefix's tag, and there is a best route
entry_parts : (b : Option Candidate) (t : Option Tag) (e : Entry) → option_and_then (λ (c : Candidate). option_map (λ u. let x : Entry = record { attrs = c.attrs; tag = u } in x) t) b ≡ Some e → (t ≡ Some e.tag) × (is_some b ≡ true)
entry_parts None t e is = cc
entry_parts (Some c) None e is = cc
entry_parts (Some c) (Some u) e is = (ap (λ (o : Option Entry). option_map (λ x. x.tag) o) is, refl)

-- a datagram that is forwarded by an entry that is present
leaves_by_headers : (s : State) (q : PortInfo) (bytes : List ℕ) (r : Reply) (p : Prefix) (e : Entry) (ps : Policies) → IsForwarded s q bytes p e r → ArePolicies s ps
    → (o : Option Headers) → headers_of q.number (tagged_frame q e.tag bytes) ≡ o
    → MatchOption o ⊥ (λ h. (r.frames ≡ out s.routing.ports (tagged_frame q e.tag bytes) (answer ps s.routing q.owner p h)) × ReachesExporters s q.owner p (answer ps s.routing q.owner p h))
    → LeavesFor s q bytes r p e.tag
leaves_by_headers s q bytes r p e ps forwarded read None is none = absurd none
leaves_by_headers s q bytes r p e ps forwarded read (Some h) is given = record {
  policies = ps;
  headers = h;
  read = read;
  has_headers = is;
  head = ap (λ (x : Reply). x.head) forwarded.by_table;
  by_table = ap (λ (x : Reply). x.frames) forwarded.by_table;
  by_routes = given.0;
  reaches = given.1;
}

-- where the router has resolved the tag's address the datagram leaves, and otherwise it asks
leaves_or_asks : (b : Bool) (s : State) (q : PortInfo) (bytes : List ℕ) (r : Reply) (p : Prefix) (e : Entry) → get s.tag p ≡ Some e.tag → is_some (best s.routing q.owner p) ≡ true
    → IsTagged b s q bytes p e r → LeavesOrAsks b s q bytes r p e.tag
leaves_or_asks true s q bytes r p e tagged has forwarded =
    let routed = forwarded.by_routes tagged has in
    leaves_by_headers s q bytes r p e routed.0 forwarded routed.1 (headers_of q.number (tagged_frame q e.tag bytes)) refl routed.2
leaves_or_asks false s q bytes r p e tagged has asks = asks

leaves_by_entry : (s : State) (q : PortInfo) (bytes : List ℕ) (r : Reply) (p : Prefix) → IsDrained s q.owner → (o : Option Entry) → get (told_to s q.owner) p ≡ o
    → MatchOption o ⊥ (λ e. IsTagged (is_resolved s q.number (tag_address s e.tag)) s q bytes p e r) → LeavesByTag s q bytes r p
leaves_by_entry s q bytes r p drained None is none = absurd none
leaves_by_entry s q bytes r p drained (Some e) is tagged =
    let there : Bool = list_any (eq_by_cmp prefix_cmp p) (announced s.routing) in
    let present_is : cond there (present_entry s q.owner p) None ≡ Some e = sym (get_present s q.owner p) ∙ ap (λ m. get m p) (sym drained) ∙ is in
    let parts = entry_parts (best s.routing q.owner p) (get s.tag p) e (some_cond there (present_entry s q.owner p) e present_is) in
    let answered : Option Tag → Type 0 = λ o. MatchOption o ⊥ (λ t. LeavesOrAsks (is_resolved s q.number (tag_address s t)) s q bytes r p t) in
    subst answered (sym parts.0) (leaves_or_asks (is_resolved s q.number (tag_address s e.tag)) s q bytes r p e parts.0 parts.1 tagged)

leaves_for : (s : State) (q : PortInfo) (bytes : List ℕ) (r : Reply) → IsDrained s q.owner → (o : Option Prefix) → IsSent s q bytes r o → MatchOption o (r ≡ bare Unrouted) (LeavesByTag s q bytes r)
leaves_for s q bytes r drained None sent = sent
leaves_for s q bytes r drained (Some p) sent = leaves_by_entry s q bytes r p drained (get (told_to s q.owner) p) refl sent

pub answers_drained : AnswersDrained
answers_drained es rs legal port bytes r q none fits at drained =
    let s : State = state_after es rs in
    let accepted : IsAccepted s (Packet port bytes) r = subst (λ o. FitsBy o s (Packet port bytes) r) none fits in
    let d : Ip = destination bytes in
    let sent_from : Option PortInfo → Type 0 = λ o. MatchOption o ⊥ (λ x. IsSent s x bytes r (longest_of (keys (told_to s x.owner)) d)) in
    let sent : sent_from (Some q) = subst sent_from at accepted.answer in
    let within : q.owner.0 < length s.routing.participants = owner_declared s port q (runs_declared es rs) at in
    let same : longest_of (keys (told_to s q.owner)) d ≡ longest s.routing q.owner d = ap (λ m. longest_of (keys m) d) drained ∙ longest_present s q.owner (runs_sound es rs legal) within d in
    leaves_for s q bytes r drained (longest s.routing q.owner d) (subst (IsSent s q bytes r) same sent)

-- what was sent by the entry told for the longest prefix, whose tag is still the prefix's
sent_by_entry : (s : State) (q : PortInfo) (bytes : List ℕ) (r : Reply) (p : Prefix) (e : Entry) → get s.tag p ≡ Some e.tag → is_some (best s.routing q.owner p) ≡ true
    → IsTagged (is_resolved s q.number (tag_address s e.tag)) s q bytes p e r → LeavesByTag s q bytes r p
sent_by_entry s q bytes r p e tagged has sent =
    let answered : Option Tag → Type 0 = λ o. MatchOption o ⊥ (λ t. LeavesOrAsks (is_resolved s q.number (tag_address s t)) s q bytes r p t) in
    subst answered (sym tagged) (leaves_or_asks (is_resolved s q.number (tag_address s e.tag)) s q bytes r p e tagged has sent)

pub answers_told : AnswersTold
answers_told es rs legal port bytes r q p told none fits at longest_is told_is tagged has =
    let s : State = state_after es rs in
    let accepted : IsAccepted s (Packet port bytes) r = subst (λ o. FitsBy o s (Packet port bytes) r) none fits in
    let sent_from : Option PortInfo → Type 0 = λ o. MatchOption o ⊥ (λ x. IsSent s x bytes r (longest_of (keys (told_to s x.owner)) (destination bytes))) in
    let sent : sent_from (Some q) = subst sent_from at accepted.answer in
    let by_prefix : IsSent s q bytes r (Some p) = subst (IsSent s q bytes r) longest_is sent in
    let by_entry : Option Entry → Type 0 = λ o. MatchOption o ⊥ (λ e. IsTagged (is_resolved s q.number (tag_address s e.tag)) s q bytes p e r) in
    sent_by_entry s q bytes r p told tagged has (subst by_entry told_is by_prefix)
