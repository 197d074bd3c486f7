-- What the reply to an accepted line may give tags of: none, those of a line that changes the routes, or those of a job's end.
use Rattle.std.proofs.lemmas.Bool.{not-true}
use Rattle.events.proofs.Drained.{some_cond}
use Rattle.std.proofs.Common.{◌≡◌, ◌⊎◌, ◌-◌, ℕ, Bool, true, false, cond, List, [], ◌∷◌, ap, sym, ◌∙◌, refl, inl, inr}
use Rattle.std.specs.Prelude.{Option, Some, None, MatchOption, nat_lt, take}
use Rattle.std.specs.FinMap.{get, keys}
use Rattle.std.specs.List.{list_any}
use Rattle.std.specs.Ordering.{eq_by_cmp}
use Rattle.std.specs.List.{position_from}
use Rattle.std.proofs.lemmas.Option.{option_and_then_some}
use Rattle.std.specs.Prelude.{Result, Ok, Err, not, slice_get}
use Rattle.grammar.specs.TextReading.{Fault as Misread}
use Rattle.events.specs.After.{taken as takes, with_told, with_port, settled, after, bound_read, merged, next, next_by, received_by, running, ruled, sent_by, updated, with_known, without_from, with_outbound, with_named, worked}
use Rattle.events.specs.Fits.{Fits, FitsBy, Passes, is_building, IsAnswer, IsBuilt, IsSent, IsTagged, IsTaken, IsWorked, bare, is_receivers, is_senders, none_rebuilt, tag_changes}
use Rattle.net_types.specs.Frames.{destination}
use Rattle.events.specs.Pending.{pending}
use Rattle.events.specs.Refusals.{refusal}
use Rattle.events.specs.declared.Refusal.{Refusal}
use Rattle.events.specs.Resolving.{is_pool_request, is_resolved, pool_mac, tag_address, unresolved, with_answer, with_resolved}
use Rattle.events.specs.State.{State, port_of, present, told_to}
use Rattle.events.specs.Tags.{Group, free_tags, fresh_tag, group_of, groups, is_carried, is_changed, is_live, new_tag, retagged, same_group, tags, tags_after}
use Rattle.events.specs.declared.Entry.{Entry}
use Rattle.events.specs.declared.Event.{Event}
use Rattle.events.specs.declared.Event.TheVariants.{Bad, Exchange, Participant, Port, Update, Down, Export, Outbound, Inbound, Take, Drain, Arp, Resolve, Packet, Frame, Recompile, Work, Table}
use Rattle.events.specs.declared.Head.{Head}
use Rattle.events.specs.declared.Head.TheVariants.{Fine, Working, Finished, Unrouted, Unresolved, Silent, Refused}
use Rattle.events.specs.declared.Reply.{Reply}
use Rattle.net_types.proofs.FindLemmas.{slice_get-Member}
use Rattle.net_types.proofs.MapLemmas.{get-tabulate}
use Rattle.net_types.proofs.OrderLemmas.{prefix_tie, prefixes_total}
use Rattle.net_types.proofs.RisingLemmas.{filter-Member}
use Rattle.net_types.specs.Arp.{arp_reply, asked_ip, asker_ip, asker_mac}
use Rattle.net_types.specs.ExportReading.{rules_of_text}
use Rattle.net_types.specs.Exports.{Routing, pid_of}
use Rattle.net_types.specs.Keys.{prefix_cmp}
use Rattle.net_types.specs.Policies.{Policy}
use Rattle.net_types.specs.PolicyReading.{policy_of_text}
use Rattle.net_types.specs.Routes.{announced, longest_of}
use Rattle.net_types.specs.UpdateReading.{decoded}
use Rattle.net_types.specs.declared.address.Pid.{Pid}
use Rattle.net_types.specs.declared.address.Tag.{Tag}
use Rattle.net_types.specs.declared.export.ExportRule.{ExportRule}
use Rattle.net_types.specs.declared.prefix.Prefix.{Prefix}
use Rattle.net_types.specs.declared.route.PortInfo.{PortInfo}
use Rattle.net_types.specs.declared.rule.Pair.{Pair}
use Rattle.net_types.specs.declared.update.Fault.{Fault}
use Rattle.net_types.specs.declared.update.Update.{Update as Message}
use Rattle.run_laws.proofs.Known.{answer_is, resolved_is}

-- ---- three kinds of replies

-- it ends no job, gives no tags, and changes none
pub record IsQuiet (s : State) (e : Event) (r : Reply) : Type 0 where
  pub unfinished : ¬ r.head ≡ Finished
  pub untagged : r.tags ≡ []
  pub stays : (next s e r).tag ≡ s.tag

-- a prefix has the tag that it had, or one that wasn't live
abbrev pub GivesDead : State → State → Type 0
GivesDead s s1 = (p : Prefix) (t : Tag) → get s1.tag p ≡ Some t → (get s.tag p ≡ Some t) ⊎ (is_live s t ≡ false)

-- it ends no job, and gives tags that were not live
pub record IsRetagging (s : State) (e : Event) (r : Reply) : Type 0 where
  pub head : r.head ≡ Fine
  pub tags : r.tags ≡ tag_changes s.tag (after s e).tag
  pub dead : GivesDead s (after s e)

-- it ends a job
pub record IsEnding (s : State) (e : Event) (r : Reply) : Type 0 where
  pub head : r.head ≡ Finished
  pub tags : r.tags ≡ tag_changes s.tag (merged s).tag
  pub leaves : next s e r ≡ record (merged s) { table = (next s e r).table }

abbrev pub Kind : State → Event → Reply → Type 0
Kind s e r = IsQuiet s e r ⊎ (IsRetagging s e r ⊎ IsEnding s e r)

-- ---- tags after a change of the routes

pub fresh_dead : (s : State) (r : Routing) (g : Group) (t : Tag) → fresh_tag s r g ≡ Some t → is_live s t ≡ false
fresh_dead s r g t e =
    option_and_then_some (slice_get (free_tags s)) (position_from (same_group g) 0 (groups s r)) t e (λ k place is.
    not-true (is_live s t) (filter-Member (λ u. not (is_live s u)) (tags s) t (slice_get-Member (free_tags s) k t is)).passes)

pub retagged_dead : (s : State) (r : Routing) (p : Prefix) (t : Tag) → get (tags_after s r) p ≡ Some t → (get s.tag p ≡ Some t) ⊎ (is_live s t ≡ false)
retagged_dead s r p t e =
    by (is_carried r p) (is_changed s r p)
    (some_cond (list_any (eq_by_cmp prefix_cmp p) (announced r)) (new_tag s r p) t
    (sym (get-tabulate prefix_cmp prefixes_total (new_tag s r) (λ q k tie. ap (new_tag s r) (sym (prefix_tie q k tie))) (announced r) p) ∙ e))
  where
    by : (carried changed : Bool) → cond carried (cond changed (fresh_tag s r (group_of s r p)) (get s.tag p)) None ≡ Some t → (get s.tag p ≡ Some t) ⊎ (is_live s t ≡ false)
    by true true is = inr (fresh_dead s r (group_of s r p) t is)
    by true false is = inl is
    by false changed is = absurd (cc)

-- where something is known
dead_known : {X : Type 0} (s : State) (o : Option X) (f : X → State) → ((x : X) → GivesDead s (f x)) → GivesDead s (with_known s o f)
dead_known s None f is p t e = inl e
dead_known s (Some x) f is p t e = is x p t e

updated_dead : (s : State) (who : Pid) (read : Result Message Fault) → GivesDead s (updated s who read)
updated_dead s who (Ok u) p t e = retagged_dead s _ p t e
updated_dead s who (Err fault) p t e = inl e

ruled_dead : (s : State) (who : Pid) (rules : Option (List ExportRule)) → GivesDead s (ruled s who rules)
ruled_dead s who (Some rules) p t e = retagged_dead s _ p t e
ruled_dead s who None p t e = inl e

sent_dead : (s : State) (who : Pid) (text : List ℕ) (read : Result Policy Misread) → GivesDead s (sent_by s who text read)
sent_dead s who text (Ok policy) p t e = retagged_dead (with_outbound s who text _) (with_named s.routing who _) p t e
sent_dead s who text (Err fault) p t e = inl e

received_dead : (s : State) (who : Pid) (text : List ℕ) (read : Result Policy Misread) → GivesDead s (received_by s who text read)
received_dead s who text (Ok policy) p t e = inl e
received_dead s who text (Err fault) p t e = inl e

-- ---- each answer

-- an accepted line or a refused one leaves the tags that it leaves
next_tag : (s : State) (e : Event) (r : Reply) (h : Head) → (after s e).tag ≡ s.tag → (next_by h s e r).tag ≡ s.tag
next_tag s e r (Refused why) same = refl
next_tag s e r Fine same = same
next_tag s e r (Working units) same = same
next_tag s e r Finished same = same
next_tag s e r Unrouted same = same
next_tag s e r (Unresolved ip) same = same
next_tag s e r Silent same = same

known_tag : {X : Type 0} (s : State) (o : Option X) (f : X → State) → ((x : X) → (f x).tag ≡ s.tag) → (with_known s o f).tag ≡ s.tag
known_tag s None f is = refl
known_tag s (Some x) f is = is x

-- a reply without tags whose head ends no job, to a line that changes no tags
quiet_as : (s : State) (e : Event) (r x : Reply) → r ≡ x → ¬ x.head ≡ Finished → x.tags ≡ [] → (after s e).tag ≡ s.tag → Kind s e r
quiet_as s e r x is goes_on none same = inl (record {
  unfinished = λ ends. goes_on (sym (ap (λ (y : Reply). y.head) is) ∙ ends);
  untagged = ap (λ (y : Reply). y.tags) is ∙ none;
  stays = next_tag s e r r.head same;
})

refused_as : (s : State) (e : Event) (r : Reply) (why : Refusal) → r ≡ bare (Refused why) → Kind s e r
refused_as s e r why is = inl (record {
  unfinished = λ ends. let clash : Refused why ≡ Finished = sym (ap (λ (y : Reply). y.head) is) ∙ ends in cc;
  untagged = ap (λ (y : Reply). y.tags) is;
  stays = ap (λ x. (next s e x).tag) is;
})

fine : ¬ Fine ≡ Finished
fine e = cc

built : (s : State) (e : Event) (f : Pair → Bool) (r : Reply) → GivesDead s (after s e) → IsBuilt s (next s e r) f r → Kind s e r
built s e f r dead is = inr (inl (record { head = is.head; tags = is.tags ∙ ap (λ h. tag_changes s.tag (next_by h s e r).tag) is.head; dead = dead }))

taken : (s : State) (e : Event) (s1 : State) (who : Pid) (ps : List Prefix) (r : Reply) → (after s e).tag ≡ s.tag → IsTaken s s1 who ps r → Kind s e r
taken s e s1 who ps r same is = inl (record { unfinished = λ ends. fine (sym is.head ∙ ends); untagged = is.tags; stays = next_tag s e r r.head same })

-- where something is known
where_known : {X : Type 0} (s : State) (e : Event) (r : Reply) (o : Option X) (Q : X → Type 0) → ((x : X) → o ≡ Some x → Q x → Kind s e r) → MatchOption o ⊥ Q → Kind s e r
where_known s e r None Q then none = absurd none
where_known s e r (Some x) Q then is = then x refl is

responded : (s : State) (e : Event) (r : Reply) (frame : List ℕ) (b : Bool) → (after s e).tag ≡ s.tag
    → r ≡ cond b (record (bare Fine) { asks = record { request = None; reply = arp_reply (asker_mac frame) (asker_ip frame) (asked_ip frame) (pool_mac s (asked_ip frame)) } ∷ [] }) (bare Silent) → Kind s e r
responded s e r frame true same is = quiet_as s e r _ is fine refl same
responded s e r frame false same is = quiet_as s e r _ is (λ ends. cc) refl same

tagged : (b : Bool) (s : State) (e : Event) (q : PortInfo) (bytes : List ℕ) (p : Prefix) (told : Entry) (r : Reply) → (after s e).tag ≡ s.tag → IsTagged b s q bytes p told r → Kind s e r
tagged true s e q bytes p told r same is = quiet_as s e r _ is.by_table fine refl same
tagged false s e q bytes p told r same is = quiet_as s e r _ is (λ ends. cc) refl same

sent : (s : State) (e : Event) (q : PortInfo) (bytes : List ℕ) (r : Reply) (o : Option Prefix) → (after s e).tag ≡ s.tag → IsSent s q bytes r o → Kind s e r
sent s e q bytes r None same is = quiet_as s e r _ is (λ ends. cc) refl same
sent s e q bytes r (Some p) same is =
    where_known s e r (get (told_to s q.owner) p) (λ told. IsTagged (is_resolved s q.number (tag_address s told.tag)) s q bytes p told r) (λ told there. tagged (is_resolved s q.number (tag_address s told.tag)) s e q bytes p told r same) is

-- as many units as a job owes, or more, end it
pub ends_leave : (s : State) (units owed : ℕ) → s.owed ≡ Some owed → nat_lt units owed ≡ false → after s (Work units) ≡ merged s
ends_leave s units owed runs all = ap (λ o. with_known s o (worked s units)) runs ∙ by (nat_lt units owed) all
  where
    by : (b : Bool) → b ≡ false → cond b (running (record s { owed = Some (owed - units) })) (merged s) ≡ merged s
    by true all = absurd (cc)
    by false all = refl

-- the state after the end of a job
ended : (s : State) (units owed : ℕ) (r : Reply) → s.owed ≡ Some owed → nat_lt units owed ≡ false → r.head ≡ Finished → next s (Work units) r ≡ record (merged s) { table = (next s (Work units) r).table }
ended s units owed r known few head =
    let table : (next_by Finished s (Work units) r).table ≡ (next s (Work units) r).table = ap (λ h. (next_by h s (Work units) r).table) (sym head) in
    ap (λ h. next_by h s (Work units) r) head ∙ (λ i. record (ends_leave s units owed known few i) { table = table i })

worked_kind : (b : Bool) (s : State) (units owed : ℕ) (r : Reply) → s.owed ≡ Some owed → nat_lt units owed ≡ b → IsWorked b s (next s (Work units) r) units owed r → Kind s (Work units) r
worked_kind true s units owed r known more is =
    quiet_as s (Work units) r _ is (λ ends. cc) refl (ap (λ o. (with_known s o (worked s units)).tag) known ∙ by (nat_lt units owed) more)
  where
    by : (b : Bool) → b ≡ true → (cond b (running (record s { owed = Some (owed - units) })) (merged s)).tag ≡ s.tag
    by true few = refl
    by false few = absurd (cc)
worked_kind false s units owed r known few is =
    let leaves = ended s units owed r known few is.head in
    inr (inr (record { head = is.head; tags = is.tags ∙ ap (λ (x : State). tag_changes s.tag x.tag) leaves; leaves = leaves }))

kind : (s : State) (e : Event) (r : Reply) → IsAnswer s e r (next s e r) → Kind s e r
kind s Bad r is = absurd is
kind s (Exchange base size capacity) r is = quiet_as s (Exchange base size capacity) r _ is fine refl refl
kind s (Participant name asn id) r is = quiet_as s (Participant name asn id) r _ is fine refl refl
kind s (Port name number ip mac) r is = quiet_as s (Port name number ip mac) r _ is fine refl (known_tag s (pid_of s.routing name) (λ who. with_port s (record { owner = who; number = number; ip = ip; mac = mac })) (λ who. refl))
kind s (Update name bytes) r is =
    built s (Update name bytes) none_rebuilt r (dead_known s (pid_of s.routing name) (λ who. updated s who (decoded bytes)) (λ who. updated_dead s who (decoded bytes))) is
kind s (Down name) r is =
    built s (Down name) none_rebuilt r (dead_known s (pid_of s.routing name) (λ who. retagged s (without_from s.routing who)) (λ who p t. retagged_dead s (without_from s.routing who) p t)) is
kind s (Export name text) r is =
    built s (Export name text) none_rebuilt r (dead_known s (pid_of s.routing name) (λ who. ruled s who (bound_read s.routing (rules_of_text text))) (λ who. ruled_dead s who (bound_read s.routing (rules_of_text text)))) is
kind s (Outbound name text) r is =
    where_known s (Outbound name text) r (pid_of s.routing name) (λ who. IsBuilt s (next s (Outbound name text) r) (is_senders (next s (Outbound name text) r) who) r) (λ who there.
    built s (Outbound name text) (is_senders (next s (Outbound name text) r) who) r (dead_known s (pid_of s.routing name) (λ w. sent_by s w text (policy_of_text text)) (λ w. sent_dead s w text (policy_of_text text)))) is
kind s (Inbound name text) r is =
    where_known s (Inbound name text) r (pid_of s.routing name) (λ who. IsBuilt s (next s (Inbound name text) r) (is_receivers (next s (Inbound name text) r) who) r) (λ who there.
    built s (Inbound name text) (is_receivers (next s (Inbound name text) r) who) r (dead_known s (pid_of s.routing name) (λ w. received_by s w text (policy_of_text text)) (λ w. received_dead s w text (policy_of_text text)))) is
kind s (Take name count) r is = where_known s (Take name count) r (pid_of s.routing name) (λ who. IsTaken s (next s (Take name count) r) who (take count (pending s who)) r) (λ who there. taken s (Take name count) (next s (Take name count) r) who (take count (pending s who)) r (known_tag s (pid_of s.routing name) (λ w. settled (running (takes s w (take count (pending s w))))) (λ w. refl))) is
kind s (Drain name) r is = where_known s (Drain name) r (pid_of s.routing name) (λ who. IsTaken s (next s (Drain name) r) who (pending s who) r) (λ who there. taken s (Drain name) (next s (Drain name) r) who (pending s who) r (known_tag s (pid_of s.routing name) (λ w. settled (running (with_told s w (present s w)))) (λ w. refl))) is
kind s (Arp n bytes) r is = responded s (Arp n bytes) r bytes (is_pool_request s bytes) (known_tag s (port_of s n) (λ q. running (with_answer s q bytes)) (λ q. ap (λ (x : State). x.tag) (answer_is s q bytes))) is
kind s (Resolve n) r is = where_known s (Resolve n) r (port_of s n) _ (λ q there e. quiet_as s (Resolve n) r _ e fine refl (known_tag s (port_of s n) (λ x. running (with_resolved s n (unresolved s x))) (λ x. ap (λ (y : State). y.tag) (resolved_is s n (unresolved s x))))) is
kind s (Frame n bytes) r is = where_known s (Frame n bytes) r (port_of s n) _ (λ q there e. quiet_as s (Frame n bytes) r _ e fine refl refl) is
kind s Table r is = quiet_as s Table r _ is fine refl refl
kind s Recompile r is = quiet_as s Recompile r _ is (λ ends. cc) refl refl
kind s (Work units) r is = where_known s (Work units) r s.owed (λ owed. IsWorked (nat_lt units owed) s (next s (Work units) r) units owed r) (λ owed there. worked_kind (nat_lt units owed) s units owed r there refl) is
kind s (Packet n bytes) r is =
    where_known s (Packet n bytes) r (port_of s n) (λ q. IsSent s q bytes r (longest_of (keys (told_to s q.owner)) (destination bytes))) (λ q there. sent s (Packet n bytes) q bytes r (longest_of (keys (told_to s q.owner)) (destination bytes)) refl) is

-- ---- each reply that fits

passed : (b : Bool) (s : State) (e : Event) (r : Reply) → Passes b s e r → Kind s e r
passed false s e r is = kind s e r is.answer
passed true s e r is = elim is [ inl accepted ↦ kind s e r accepted.answer | inr full ↦ refused_as s e r _ full.head ]

by_refusal : (o : Option Refusal) (s : State) (e : Event) (r : Reply) → FitsBy o s e r → Kind s e r
by_refusal (Some why) s e r fits = refused_as s e r why fits
by_refusal None s e r fits = passed (is_building e) s e r fits

pub kind_of : (s : State) (e : Event) (r : Reply) → Fits s e r → Kind s e r
kind_of s e r fits = by_refusal (refusal s e) s e r fits
