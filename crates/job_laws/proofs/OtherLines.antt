-- A line that isn't a job's does the same whatever a job owes.
use Rattle.std.proofs.Common.{◌≡◌, ℕ, ◌≤◌, Bool, true, false, cond, ◌&&◌, List, [], ◌∷◌, ◌++◌, sum_by, ap, sym, subst, ◌∙◌, refl, inl, inr}
use Rattle.std.specs.Prelude.{Option, Some, None, Result, Ok, Err, MatchOption, slice_set, take}
use Rattle.std.specs.FinMap.{FinMap, get, keys}
use Rattle.std.specs.Option.{option_map, option_map_or}
use Rattle.events.specs.After.{after, bound_read, next, next_by, put_flows, received_by, ruled, rules_put, running, sent_by, settled, taken, updated, with_known, with_port, with_told, without_from, without_pairs}
use Rattle.events.specs.Fits.{Fits, FitsBy, IsAccepted, IsAnswer, IsBuilt, IsFull, IsSent, IsTagged, IsTaken, Passes, cells, is_building, is_of_job, is_receivers, is_senders, none_rebuilt}
use Rattle.net_types.specs.Frames.{destination}
use Rattle.events.specs.Pending.{pending}
use Rattle.events.specs.Refusals.{refusal}
use Rattle.events.specs.Resolving.{is_pool_request, is_resolved, port_place, resolved_at, tag_address, unresolved, with_answer, with_resolved}
use Rattle.events.specs.Sound.{IsSound}
use Rattle.events.specs.State.{State, ArePolicies, port_of, present, told_to}
use Rattle.events.specs.Tags.{live_pairs, retagged}
use Rattle.events.specs.declared.Entry.{Entry}
use Rattle.events.specs.declared.Event.{Event}
use Rattle.events.specs.declared.Event.TheVariants.{Bad, Exchange, Participant as DeclaresParticipant, Port as DeclaresPort, Update, Down, Export, Outbound, Inbound, Take, Drain, Arp, Resolve, Packet, Frame, Recompile, Work, Table}
use Rattle.events.specs.declared.Head.{Head}
use Rattle.events.specs.declared.Head.TheVariants.{Fine, Working, Finished, Unrouted, Unresolved, Silent, Refused}
use Rattle.events.specs.declared.Refusal.{Refusal}
use Rattle.events.specs.declared.Reply.{Reply}
use Rattle.grammar.specs.TextReading.{Fault as Misread}
use Rattle.job_laws.proofs.OwedUnits.{owed_after}
use Rattle.job_laws.specs.Jobs.{without_job}
use Rattle.job_laws.specs.Steps.{JobsLeaveLines}
use Rattle.net_types.specs.Answers.{Policies}
use Rattle.net_types.specs.ExportReading.{rules_of_text}
use Rattle.net_types.specs.Exports.{pid_of}
use Rattle.net_types.specs.Keys.{ip_cmp, pair_cmp}
use Rattle.net_types.specs.Maps.{ordered}
use Rattle.net_types.specs.Octets.{same_octets}
use Rattle.net_types.specs.Arp.{asked_ip, asker_mac}
use Rattle.net_types.specs.Policies.{Policy}
use Rattle.net_types.specs.PolicyReading.{policy_of_text}
use Rattle.net_types.specs.Routes.{longest_of}
use Rattle.net_types.specs.UpdateReading.{decoded}
use Rattle.net_types.specs.declared.address.Ip.{Ip}
use Rattle.net_types.specs.declared.address.Pid.{Pid}
use Rattle.net_types.specs.declared.address.PortNo.{PortNo}
use Rattle.net_types.specs.declared.export.ExportRule.{ExportRule}
use Rattle.net_types.specs.declared.prefix.Prefix.{Prefix}
use Rattle.net_types.specs.declared.route.PortInfo.{PortInfo}
use Rattle.net_types.specs.declared.rule.Pair.{Pair}
use Rattle.net_types.specs.declared.rule.Rule.{Rule}
use Rattle.net_types.specs.declared.update.Fault.{Fault}
use Rattle.net_types.specs.declared.update.Update.{Update as Message}
use Rattle.reply_laws.proofs.NextStates.{next_holds}

-- the state with a job that owes so much, or without one
abbrev pub with_owed : State → Option ℕ → State
with_owed s o = record s { owed = o }

-- ---- states

pub owed_policies : (s : State) (o : Option ℕ) (ps : Policies) → ArePolicies s ps → ArePolicies (with_owed s o) ps
owed_policies s o ps are = record { names = are.names; outbound = are.outbound; inbound = are.inbound }

pub owed_sound : (s : State) (o : Option ℕ) → IsSound s → IsSound (with_owed s o)
owed_sound s o sound = record {
  pairs = sound.pairs;
  right = (sound.right.0, owed_policies s o sound.right.0 sound.right.1, sound.right.2);
  few = sound.few;
  tagged = sound.tagged;
  kept = sound.kept;
}

-- ---- the state after a line

-- x is y but for what a job owes
abbrev IsBut : State → State → Type 0
IsBut x y = x ≡ with_owed y x.owed

known_but : {X : Type 0} (s : State) (o : Option ℕ) (k : Option X) (f g : X → State) → ((x : X) → IsBut (g x) (f x)) → IsBut (with_known (with_owed s o) k g) (with_known s k f)
known_but s o None f g is = refl
known_but s o (Some x) f g is = is x

updated_but : (s : State) (o : Option ℕ) (who : Pid) (read : Result Message Fault) → IsBut (updated (with_owed s o) who read) (updated s who read)
updated_but s o who (Ok u) = refl
updated_but s o who (Err fault) = refl

ruled_but : (s : State) (o : Option ℕ) (who : Pid) (rules : Option (List ExportRule)) → IsBut (ruled (with_owed s o) who rules) (ruled s who rules)
ruled_but s o who (Some rules) = refl
ruled_but s o who None = refl

sent_but : (s : State) (o : Option ℕ) (who : Pid) (text : List ℕ) (read : Result Policy Misread) → IsBut (sent_by (with_owed s o) who text read) (sent_by s who text read)
sent_but s o who text (Ok p) = refl
sent_but s o who text (Err fault) = refl

received_but : (s : State) (o : Option ℕ) (who : Pid) (text : List ℕ) (read : Result Policy Misread) → IsBut (received_by (with_owed s o) who text read) (received_by s who text read)
received_but s o who text (Ok p) = refl
received_but s o who text (Err fault) = refl

resolved_but : (s : State) (o : Option ℕ) (n : PortNo) (ips : List Ip) → IsBut (running (with_resolved (with_owed s o) n ips)) (running (with_resolved s n ips))
resolved_but s o n ips = by (port_place s n)
  where
    set : State → ℕ → State
    set x place = record x { resolved = slice_set x.resolved place (ordered ip_cmp (resolved_at s n ++ ips)) }

    by : (place : Option ℕ) → IsBut (running (option_map_or (set (with_owed s o)) place (with_owed s o))) (running (option_map_or (set s) place s))
    by None = refl
    by (Some place) = refl

answer_but : (s : State) (o : Option ℕ) (q : PortInfo) (bytes : List ℕ) → IsBut (running (with_answer (with_owed s o) q bytes)) (running (with_answer s q bytes))
answer_but s o q bytes = by (is_pool_request s bytes && same_octets (asker_mac bytes).0 q.mac.0)
  where
    by : (b : Bool) → IsBut (running (cond b (with_resolved (with_owed s o) q.number (asked_ip bytes ∷ [])) (with_owed s o))) (running (cond b (with_resolved s q.number (asked_ip bytes ∷ [])) s))
    by true = resolved_but s o q.number (asked_ip bytes ∷ [])
    by false = refl

pub after_but : (s : State) (o : Option ℕ) (e : Event) → is_of_job e ≡ false → IsBut (after (with_owed s o) e) (after s e)
after_but s o Bad other = refl
after_but s o (Exchange base size capacity) other = refl
after_but s o (DeclaresParticipant name asn id) other = refl
after_but s o (DeclaresPort name number ip mac) other =
    known_but s o (pid_of s.routing name) (λ who. with_port s (record { owner = who; number = number; ip = ip; mac = mac })) (λ who. with_port (with_owed s o) (record { owner = who; number = number; ip = ip; mac = mac })) (λ who. refl)
after_but s o (Update name bytes) other = known_but s o (pid_of s.routing name) (λ who. updated s who (decoded bytes)) (λ who. updated (with_owed s o) who (decoded bytes)) (λ who. updated_but s o who (decoded bytes))
after_but s o (Down name) other = known_but s o (pid_of s.routing name) (λ who. retagged s (without_from s.routing who)) (λ who. retagged (with_owed s o) (without_from s.routing who)) (λ who. refl)
after_but s o (Export name text) other =
    let read : Option (List ExportRule) = bound_read s.routing (rules_of_text text) in known_but s o (pid_of s.routing name) (λ who. ruled s who read) (λ who. ruled (with_owed s o) who read) (λ who. ruled_but s o who read)
after_but s o (Outbound name text) other =
    known_but s o (pid_of s.routing name) (λ who. sent_by s who text (policy_of_text text)) (λ who. sent_by (with_owed s o) who text (policy_of_text text)) (λ who. sent_but s o who text (policy_of_text text))
after_but s o (Inbound name text) other =
    known_but s o (pid_of s.routing name) (λ who. received_by s who text (policy_of_text text)) (λ who. received_by (with_owed s o) who text (policy_of_text text)) (λ who. received_but s o who text (policy_of_text text))
after_but s o (Take name count) other =
    let f : State → Pid → State = λ x who. settled (running (taken x who (take count (pending x who)))) in known_but s o (pid_of s.routing name) (f s) (f (with_owed s o)) (λ who. refl)
after_but s o (Drain name) other = let f : State → Pid → State = λ x who. settled (running (with_told x who (present x who))) in known_but s o (pid_of s.routing name) (f s) (f (with_owed s o)) (λ who. refl)
after_but s o (Arp n bytes) other = known_but s o (port_of s n) (λ q. running (with_answer s q bytes)) (λ q. running (with_answer (with_owed s o) q bytes)) (λ q. answer_but s o q bytes)
after_but s o (Resolve n) other =
    known_but s o (port_of s n) (λ q. running (with_resolved s n (unresolved s q))) (λ q. running (with_resolved (with_owed s o) n (unresolved s q))) (λ q. resolved_but s o n (unresolved s q))
after_but s o (Packet n bytes) other = refl
after_but s o (Frame n bytes) other = refl
after_but s o Recompile other = absurd (cc)
after_but s o (Work units) other = absurd (cc)
after_but s o Table other = refl

next_but : (s : State) (o : Option ℕ) (e : Event) (r : Reply) (h : Head) → is_of_job e ≡ false → IsBut (next_by h (with_owed s o) e r) (next_by h s e r)
next_but s o e r h other = by h
  where
    table : FinMap pair_cmp (List Rule)
    table = put_flows (without_pairs s.table r.drops) (rules_put e r)

    accepted_but : IsBut (record (after (with_owed s o) e) { table = table }) (record (after s e) { table = table })
    accepted_but = ap (λ (x : State). let y : State = record x { table = table } in y) (after_but s o e other)

    by : (head : Head) → IsBut (next_by head (with_owed s o) e r) (next_by head s e r)
    by (Refused why) = refl
    by Fine = accepted_but
    by (Working units) = accepted_but
    by Finished = accepted_but
    by Unrouted = accepted_but
    by (Unresolved ip) = accepted_but
    by Silent = accepted_but

-- ---- refusals

refused_alike : (s : State) (o : Option ℕ) (e : Event) → is_of_job e ≡ false → refusal (with_owed s o) e ≡ refusal s e
refused_alike s o Bad other = refl
refused_alike s o (Exchange base size capacity) other = refl
refused_alike s o (DeclaresParticipant name asn id) other = refl
refused_alike s o (DeclaresPort name number ip mac) other = refl
refused_alike s o (Update name bytes) other = refl
refused_alike s o (Down name) other = refl
refused_alike s o (Export name text) other = refl
refused_alike s o (Outbound name text) other = refl
refused_alike s o (Inbound name text) other = refl
refused_alike s o (Take name count) other = refl
refused_alike s o (Drain name) other = refl
refused_alike s o (Arp n bytes) other = refl
refused_alike s o (Resolve n) other = refl
refused_alike s o (Packet n bytes) other = refl
refused_alike s o (Frame n bytes) other = refl
refused_alike s o Recompile other = absurd (cc)
refused_alike s o (Work units) other = absurd (cc)
refused_alike s o Table other = refl

-- ---- answers

where_known : {X : Type 0} (k : Option X) (P Q : X → Type 0) → ((x : X) → P x → Q x) → MatchOption k ⊥ P → MatchOption k ⊥ Q
where_known None P Q then none = none
where_known (Some x) P Q then is = then x is

-- the states before and after a line, each whatever a job owes
module _ (s s1 : State) (o o1 : Option ℕ) (r : Reply) where
  built_alike : (test : Pair → Bool) → IsBuilt s s1 test r → IsBuilt (with_owed s o) (with_owed s1 o1) test r
  built_alike test is = record { head = is.head; tags = is.tags; drops = is.drops; adds = is.adds; adverts = is.adverts; asks = is.asks; frames = is.frames }

  taken_alike : (who : Pid) (ps : List Prefix) → IsTaken s s1 who ps r → IsTaken (with_owed s o) (with_owed s1 o1) who ps r
  taken_alike who ps is = record { head = is.head; tags = is.tags; drops = is.drops; adds = is.adds; adverts = is.adverts; asks = is.asks; frames = is.frames }

  tagged_alike : (q : PortInfo) (bytes : List ℕ) (p : Prefix) (told : Entry) (b : Bool) → IsTagged b s q bytes p told r → IsTagged b (with_owed s o) q bytes p told r
  tagged_alike q bytes p told true is = record {
    by_table = is.by_table;
    by_routes = λ fresh routed. let answers = is.by_routes fresh routed in (answers.0, owed_policies s o answers.0 answers.1, answers.2);
  }
  tagged_alike q bytes p told false is = is

  sent_alike : (q : PortInfo) (bytes : List ℕ) (longest : Option Prefix) → IsSent s q bytes r longest → IsSent (with_owed s o) q bytes r longest
  sent_alike q bytes None is = is
  sent_alike q bytes (Some p) is =
      where_known (get (told_to s q.owner) p) (λ told. IsTagged (is_resolved s q.number (tag_address s told.tag)) s q bytes p told r) (λ told. IsTagged (is_resolved s q.number (tag_address s told.tag)) (with_owed s o) q bytes p told r)
      (λ told. tagged_alike q bytes p told (is_resolved s q.number (tag_address s told.tag))) is

  answer_alike : (e : Event) → is_of_job e ≡ false → IsAnswer s e r s1 → IsAnswer (with_owed s o) e r (with_owed s1 o1)
  answer_alike Bad other is = is
  answer_alike (Exchange base size capacity) other is = is
  answer_alike (DeclaresParticipant name asn id) other is = is
  answer_alike (DeclaresPort name number ip mac) other is = is
  answer_alike (Update name bytes) other is = built_alike none_rebuilt is
  answer_alike (Down name) other is = built_alike none_rebuilt is
  answer_alike (Export name text) other is = built_alike none_rebuilt is
  answer_alike (Outbound name text) other is =
      where_known (pid_of s.routing name) (λ who. IsBuilt s s1 (is_senders s1 who) r) (λ who. IsBuilt (with_owed s o) (with_owed s1 o1) (is_senders (with_owed s1 o1) who) r) (λ who. built_alike (is_senders s1 who)) is
  answer_alike (Inbound name text) other is =
      where_known (pid_of s.routing name) (λ who. IsBuilt s s1 (is_receivers s1 who) r) (λ who. IsBuilt (with_owed s o) (with_owed s1 o1) (is_receivers (with_owed s1 o1) who) r) (λ who. built_alike (is_receivers s1 who)) is
  answer_alike (Take name count) other is =
      where_known (pid_of s.routing name) (λ who. IsTaken s s1 who (take count (pending s who)) r) (λ who. IsTaken (with_owed s o) (with_owed s1 o1) who (take count (pending s who)) r) (λ who. taken_alike who (take count (pending s who))) is
  answer_alike (Drain name) other is =
      where_known (pid_of s.routing name) (λ who. IsTaken s s1 who (pending s who) r) (λ who. IsTaken (with_owed s o) (with_owed s1 o1) who (pending s who) r) (λ who. taken_alike who (pending s who)) is
  answer_alike (Arp n bytes) other is = is
  answer_alike (Resolve n) other is = is
  answer_alike (Packet n bytes) other is =
      where_known (port_of s n) (λ q. IsSent s q bytes r (longest_of (keys (told_to s q.owner)) (destination bytes))) (λ q. IsSent (with_owed s o) q bytes r (longest_of (keys (told_to s q.owner)) (destination bytes)))
      (λ q. sent_alike q bytes (longest_of (keys (told_to s q.owner)) (destination bytes))) is
  answer_alike (Frame n bytes) other is = is
  answer_alike Recompile other is = absurd (cc)
  answer_alike (Work units) other is = absurd (cc)
  answer_alike Table other is = is

-- ---- replies that fit

module _ (s : State) (o : Option ℕ) (e : Event) (r : Reply) (other : is_of_job e ≡ false) where
  accepted_alike : IsAccepted s e r → IsAccepted (with_owed s o) e r
  accepted_alike is =
      let o1 : Option ℕ = (next (with_owed s o) e r).owed in
      let same : with_owed (next s e r) o1 ≡ next (with_owed s o) e r = sym (next_but s o e r r.head other) in record {
        answer = subst (IsAnswer (with_owed s o) e r) same (answer_alike s (next s e r) o o1 r e other is.answer);
        sound = subst IsSound same (owed_sound (next s e r) o1 is.sound);
      }

  full_alike : IsFull s e r → IsFull (with_owed s o) e r
  full_alike is =
      let o1 : Option ℕ = (after (with_owed s o) e).owed in
      let same : with_owed (after s e) o1 ≡ after (with_owed s o) e = sym (after_but s o e other) in record {
        rules = is.rules;
        head = is.head;
        over = is.over;
        read = (is.read.0, subst (λ x. ArePolicies x is.read.0) same (owed_policies (after s e) o1 is.read.0 is.read.1));
        few = subst (λ x. (ps : Policies) → ArePolicies x ps → is.rules ≤ sum_by (cells ps x) (live_pairs x)) same
            (λ ps are. is.few ps (record { names = are.names; outbound = are.outbound; inbound = are.inbound }));
      }

  passes_alike : (b : Bool) → Passes b s e r → Passes b (with_owed s o) e r
  passes_alike true (inl is) = inl (accepted_alike is)
  passes_alike true (inr is) = inr (full_alike is)
  passes_alike false is = accepted_alike is

  fits_by : (why : Option Refusal) → FitsBy why s e r → FitsBy why (with_owed s o) e r
  fits_by (Some why) fits = fits
  fits_by None fits = passes_alike (is_building e) fits

  pub fits_alike : Fits s e r → Fits (with_owed s o) e r
  fits_alike fits = subst (λ why. FitsBy why (with_owed s o) e r) (sym (refused_alike s o e other)) (fits_by (refusal s e) fits)

  pub next_alike : next (with_owed s o) e r ≡ with_owed (next s e r) (next (with_owed s o) e r).owed
  next_alike = next_but s o e r r.head other

-- ---- without a job

-- a line that isn't a job's starts none
idle_next : (s : State) (e : Event) (r : Reply) → is_of_job e ≡ false → s.owed ≡ None → (next s e r).owed ≡ None
idle_next s e r other idle = let owed = owed_after s e other in next_holds (λ x. x.owed ≡ None) s e r r.head idle (owed.is ∙ ap (option_map owed.change) idle)

pub leaves_alike : (s : State) (e : Event) (r : Reply) → is_of_job e ≡ false → without_job (next s e r) ≡ next (without_job s) e r
leaves_alike s e r other =
    sym (next_alike s None e r other ∙ ap (with_owed (next s e r)) (idle_next (without_job s) e r other refl))

pub jobs_leave_lines : JobsLeaveLines
jobs_leave_lines s e r other = ((fits_alike s None e r other, fits_alike (without_job s) s.owed e r other), leaves_alike s e r other)
