-- What every legal run of lines promises, in terms of policies and routes alone.
use Rattle.std.specs.Prelude.{◌≡◌, ℕ, ◌≤◌, Bool, true, false, List, Some, None, MatchOption, is_some, sum_by}
use Rattle.std.specs.FinMap.{get, keys}
use Rattle.events.specs.After.{after, next}
use Rattle.events.specs.Fits.{Fits, IsAccepted, bare, cells, tagged_frame, ReachesExporters}
use Rattle.events.specs.Legal.{Legal, state_after}
use Rattle.events.specs.Tags.{live_pairs}
use Rattle.events.specs.Refusals.{refusal}
use Rattle.events.specs.Resolving.{is_resolved, tag_address}
use Rattle.events.specs.Sound.{IsSound}
use Rattle.events.specs.State.{State, Entry, ArePolicies, IsDrained, port_of, told_to}
use Rattle.events.specs.Table.{first_match, out}
use Rattle.events.specs.declared.Event.{Event}
use Rattle.events.specs.declared.Event.TheVariants.{Drain, Packet}
use Rattle.events.specs.declared.Head.TheVariants.{Fine, Unrouted, Unresolved}
use Rattle.events.specs.declared.Reply.{Reply}
use Rattle.net_types.specs.Answers.{Policies, answer}
use Rattle.net_types.specs.Exports.{pid_of}
use Rattle.net_types.specs.Frames.{destination, headers_of}
use Rattle.net_types.specs.Routes.{best, longest, longest_of}
use Rattle.net_types.specs.declared.address.Pid.{Pid}
use Rattle.net_types.specs.declared.address.PortNo.{PortNo}
use Rattle.net_types.specs.declared.address.Tag.{Tag}
use Rattle.net_types.specs.declared.headers.Headers.{Headers}
use Rattle.net_types.specs.declared.prefix.Prefix.{Prefix}
use Rattle.net_types.specs.declared.route.PortInfo.{PortInfo}

-- A datagram for a prefix: tagged with the prefix's tag it leaves by the table on exactly the ports, with exactly the
-- octets, that the policies and the present routes give, and reaches only participants that export the prefix.
pub record LeavesFor (s : State) (q : PortInfo) (bytes : List ℕ) (r : Reply) (p : Prefix) (tag : Tag) : Type 0 where
  pub policies : Policies
  pub headers : Headers
  pub read : ArePolicies s policies
  pub has_headers : headers_of q.number (tagged_frame q tag bytes) ≡ Some headers
  pub head : r.head ≡ Fine
  pub by_table : r.frames ≡ out s.routing.ports (tagged_frame q tag bytes) (first_match s.table q.number (tagged_frame q tag bytes))
  pub by_routes : r.frames ≡ out s.routing.ports (tagged_frame q tag bytes) (answer policies s.routing q.owner p headers)
  pub reaches : ReachesExporters s q.owner p (answer policies s.routing q.owner p headers)

-- the router at the port has resolved the tag's address, and the datagram leaves; else it asks for that address first
abbrev pub LeavesOrAsks : Bool → State → PortInfo → List ℕ → Reply → Prefix → Tag → Type 0
LeavesOrAsks true s q bytes r p tag = LeavesFor s q bytes r p tag
LeavesOrAsks false s q bytes r p tag = r ≡ bare (Unresolved (tag_address s tag))

-- the answer to a datagram for a prefix, by the prefix's tag
abbrev pub LeavesByTag : State → PortInfo → List ℕ → Reply → Prefix → Type 0
LeavesByTag s q bytes r p = MatchOption (get s.tag p) ⊥ (λ tag. LeavesOrAsks (is_resolved s q.number (tag_address s tag)) s q bytes r p tag)

-- After any legal run, the answer to a datagram of a drained sender is that of its longest exported prefix; where it has
-- none, the datagram is unrouted.
abbrev pub AnswersDrained : Type 0
AnswersDrained =
    (es : List Event) (rs : List Reply) → Legal es rs → (port : PortNo) (bytes : List ℕ) (r : Reply) (q : PortInfo)
    → refusal (state_after es rs) (Packet port bytes) ≡ None → Fits (state_after es rs) (Packet port bytes) r
    → port_of (state_after es rs) port ≡ Some q → IsDrained (state_after es rs) q.owner
    → MatchOption (longest (state_after es rs).routing q.owner (destination bytes)) (r ≡ bare Unrouted) (LeavesByTag (state_after es rs) q bytes r)

-- After any legal run, drained or not: where the longest prefix that the sender was told still has the tag that was told,
-- and the sender has a best route for it, the datagram is answered for that prefix.
abbrev pub AnswersTold : Type 0
AnswersTold =
    (es : List Event) (rs : List Reply) → Legal es rs → (port : PortNo) (bytes : List ℕ) (r : Reply) (q : PortInfo) (p : Prefix) (told : Entry)
    → refusal (state_after es rs) (Packet port bytes) ≡ None → Fits (state_after es rs) (Packet port bytes) r
    → port_of (state_after es rs) port ≡ Some q → longest_of (keys (told_to (state_after es rs) q.owner)) (destination bytes) ≡ Some p
    → get (told_to (state_after es rs) q.owner) p ≡ Some told → get (state_after es rs).tag p ≡ Some told.tag
    → is_some (best (state_after es rs).routing q.owner p) ≡ true → LeavesByTag (state_after es rs) q bytes r p

-- the table has room for all that the live pairs after a line may want
abbrev pub HasRoom : State → Event → Type 0
HasRoom s e = (ps : Policies) × ArePolicies (after s e) ps × (sum_by (cells ps (after s e)) (live_pairs (after s e)) ≤ s.capacity)

-- in any state, a line that no refusal stops and for which the table has room is accepted
abbrev pub AcceptsLines : Type 0
AcceptsLines = (s : State) (e : Event) (r : Reply) → refusal s e ≡ None → HasRoom s e → Fits s e r → IsAccepted s e r

-- after any legal run, a participant is drained once its session took what was pending
abbrev pub DrainDrains : Type 0
DrainDrains =
    (es : List Event) (rs : List Reply) → Legal es rs → (name : List ℕ) (r : Reply) (who : Pid)
    → refusal (state_after es rs) (Drain name) ≡ None → Fits (state_after es rs) (Drain name) r
    → pid_of (state_after es rs).routing name ≡ Some who → IsDrained (next (state_after es rs) (Drain name) r) who

-- after any legal run the state is sound
abbrev pub RunsStaySound : Type 0
RunsStaySound = (es : List Event) (rs : List Reply) → Legal es rs → IsSound (state_after es rs)
