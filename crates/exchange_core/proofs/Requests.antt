-- What lines that build rules ask for leads to what they do.
use Rattle.std.proofs.Common.{◌≡◌, ℕ, ◌+◌, ◌*◌, ◌<◌, ◌≤◌, Bool, true, false, cond, ◌&&◌, List, [], ◌∷◌, length, filter, sym, ap, subst, ◌∙◌, refl, ⊎_elim, arith}
use Rattle.std.specs.Prelude.{Option, Some, None, Result, Ok, Err, MatchResult, is_some, nat_lt}
use Rattle.std.specs.Option.{option_map_or}
use Rattle.std.specs.FinMap.{contains_key-keys, get, keys}
use Rattle.std.proofs.lemmas.Bool.{and_from, and_parts, false_from_ne_true, ltb-true}
use Rattle.events.proofs.Reached.{declared_pid}
use Rattle.events.specs.After.{after, with_named, with_outbound}
use Rattle.events.specs.Fits.{is_receivers, is_senders, none_rebuilt}
use Rattle.events.specs.Refusals.{if_known, if_short, inbound_refusal, misread_refusal, or_else, outbound_refusal, policy_refusal, refusal, refused_if, tags_refusal}
use Rattle.events.specs.State.{State, owner_of}
use Rattle.events.specs.Tags.{Group, free_tags, groups, is_live_pair, live_pairs, retagged}
use Rattle.events.specs.declared.Event.{Event}
use Rattle.events.specs.declared.Event.TheVariants.{Bad, Exchange, Participant as DeclaresParticipant, Port as DeclaresPort, Update, Down, Export, Outbound as Out, Inbound as In, Take, Drain, Arp, Resolve, Packet, Frame, Recompile, Work, Table}
use Rattle.events.specs.declared.Refusal.{Refusal}
use Rattle.events.specs.declared.Refusal.TheVariants.{Isolate, NoNextHop, TextLong, TooWide}
use Rattle.exchange_laws.proofs.Lists.{key_Member}
use Rattle.exchange_laws.proofs.SameRoutes.{no_groups}
use Rattle.exchange_laws.specs.Editing.{IsBase, IsEdit, InboundBases, InboundsAreChanges, InboundsAreEdits, OutboundBases, OutboundsAreEdits, ReroutingsAreEdits, SteadyAreBases, inbound_base, outbound_base}
use Rattle.exchange_laws.specs.Fresh.{HasEnoughTags}
use Rattle.exchange_laws.specs.Listed.{AreThose}
use Rattle.exchange_laws.specs.Rerouting.{is_rerouting}
use Rattle.exchange_laws.specs.Rules.{IsDeclaredAlike}
use Rattle.exchange_laws.specs.Steady.{IsSteady}
use Rattle.fast_path.specs.Plans.{build_count, is_rebuilt_live}
use Rattle.grammar.specs.TextReading.{Fault as Misread}
use Rattle.net_types.proofs.OrderLemmas.{pairs_total}
use Rattle.net_types.proofs.OrderedLemmas.{member_any}
use Rattle.net_types.proofs.RisingLemmas.{Member-filter, before, filter-IsRising, filter-Member, keys-IsRising}
use Rattle.net_types.proofs.TieLemmas.{pair_tie}
use Rattle.net_types.specs.Exports.{Routing, pid_of}
use Rattle.net_types.specs.Isolation.{first_of, in_faults, out_faults}
use Rattle.net_types.specs.Keys.{pair_cmp}
use Rattle.net_types.specs.Naming.{named_in}
use Rattle.net_types.specs.Policies.{Policy}
use Rattle.net_types.specs.PolicyReading.{policy_of_text}
use Rattle.net_types.specs.Widths.{is_too_wide}
use Rattle.net_types.specs.declared.address.Pid.{Pid}
use Rattle.net_types.specs.declared.isolation.IsolateFault.{IsolateFault}
use Rattle.net_types.specs.declared.rule.Pair.{Pair}
use Rattle.route_server.specs.Proposed.{IsProposal, Proposed, named_with}
use Rattle.exchange_core.proofs.Bounds.{built_few}
use Rattle.exchange_core.proofs.Steps.{in_place, placed}
use Rattle.exchange_core.specs.Building.{IsOfKind, IsReceiving, IsSending, Leads, base_by, base_of}
use Rattle.exchange_core.specs.Changing.{IsSender, Reroutes}
use Rattle.exchange_core.specs.PolicyTexts.{HasRead, or_misread, policy_or_refusal}
use Rattle.exchange_core.specs.Programs.{IsChangeCompiled, IsChangeOf}
use Rattle.exchange_core.specs.Steps.{built_count, fresh_count, live_among, sent_count}
use Rattle.exchange_core.specs.declared.programs.PolicyChange.TheVariants.{Stay}
use Rattle.exchange_core.specs.Stops.{IsFirst, IsStop, isolate_stop}
use Rattle.exchange_core.specs.declared.request.Request.{Request}
use Rattle.exchange_core.specs.declared.stop.Stop.{Stop}
use Rattle.exchange_core.specs.declared.stop.Stop.TheVariants.{Refused, Memory}
use Rattle.exchange_core.proofs.Stops.{first_of_two, first_stops, refusal_stops}
use Rattle.exchange_laws.proofs.AcceptedChanges.{rerouting_builds}
use Rattle.exchange_laws.proofs.Rerouted.{enough_tags}

-- the pairs of the table that pass a test are the live ones that do, in order
pub those_live : (s : State) (test : Pair → Bool) → ((pair : Pair) → is_some (get s.table pair) ≡ is_live_pair s pair) → AreThose (is_rebuilt_live s test) (filter test (keys s.table))
those_live s test has = record {
  rising = filter-IsRising (before pair_cmp) test (keys s.table) (keys-IsRising pair_cmp s.table);
  each = λ pair m. let left = filter-Member test (keys s.table) pair m in
      and_from (is_live_pair s pair) (test pair) (sym (has pair) ∙ contains_key-keys s.table pair ∙ member_any pair_cmp pairs_total pair_tie pair (keys s.table) left.stands) left.passes;
  all = λ pair e. let parts = and_parts (is_live_pair s pair) (test pair) e in Member-filter test (keys s.table) pair (key_Member pair_cmp pairs_total pair_tie s.table pair (has pair ∙ parts.0)) parts.1;
}

-- where there are enough tags, they refuse nothing
pub enough_pass : (s : State) (r : Routing) → HasEnoughTags s r → tags_refusal s r ≡ None
enough_pass s r enough =
    ap (λ b. refused_if b (NoNextHop (length (groups s r)) (length (free_tags s))))
    (false_from_ne_true _ (λ less. let below : length (free_tags s) < length (groups s r) = ltb-true (length (free_tags s)) (length (groups s r)) less in omega (arith, below, enough)))

-- a line rerouting_builds no more than the pairs of fresh tags, and the live ones that it rerouting_builds anew
built_within : (s : State) (r : Routing) (test : Pair → Bool) → IsBase s test → IsDeclaredAlike s.routing r → tags_refusal s r ≡ None → build_count s r test ≤ fresh_count s r + live_among (retagged s r) test
built_within s r test base alike none = built_few s r (record { tagged = base.tagged; pooled = base.pooled; owners = base.owners; alike = alike; enough = enough_tags s r none }) base.apart test

none_rebuilt_live : (xs : List Pair) → length (filter none_rebuilt xs) ≡ 0
none_rebuilt_live [] = refl
none_rebuilt_live (x ∷ xs) = none_rebuilt_live xs

times_none : (n : ℕ) → n * 0 ≡ 0
times_none n = grind arith

with_zero : (c d : ℕ) → c ≡ 0 → d ≡ c + d
with_zero c d is = omega (arith, is)

with_none : (c d : ℕ) → d ≡ 0 → c ≡ c + d
with_none c d is = omega (arith, is)

no_more : (a b c d x : ℕ) → a ≡ b → b ≤ c + d → x ≡ c + d → a ≤ x
no_more a b c d x one few two = omega (arith, one, few, two)

none_passes : (b : Bool) → (b && false) ≡ true → ⊥
none_passes true e = cc
none_passes false e = cc

-- ---- a change of the routes

counted : (s : State) (e : Event) (r : Routing) → is_rerouting e ≡ true → after s e ≡ retagged s r → built_count s e ≡ fresh_count s r
counted s (Update name bytes) r is leaves = ap (fresh_count s) (ap (λ (x : State). x.routing) leaves)
counted s (Down name) r is leaves = ap (fresh_count s) (ap (λ (x : State). x.routing) leaves)
counted s (Export name text) r is leaves = ap (fresh_count s) (ap (λ (x : State). x.routing) leaves)
counted s Bad r is leaves = absurd (cc)
counted s (Exchange base size capacity) r is leaves = absurd (cc)
counted s (DeclaresParticipant name asn id) r is leaves = absurd (cc)
counted s (DeclaresPort name number ip mac) r is leaves = absurd (cc)
counted s (Out name text) r is leaves = absurd (cc)
counted s (In name text) r is leaves = absurd (cc)
counted s (Take name count) r is leaves = absurd (cc)
counted s (Drain name) r is leaves = absurd (cc)
counted s (Arp port bytes) r is leaves = absurd (cc)
counted s (Resolve port) r is leaves = absurd (cc)
counted s (Packet port bytes) r is leaves = absurd (cc)
counted s (Frame port bytes) r is leaves = absurd (cc)
counted s Recompile r is leaves = absurd (cc)
counted s (Work units) r is leaves = absurd (cc)
counted s Table r is leaves = absurd (cc)

pub rerouting_leads : SteadyAreBases → ReroutingsAreEdits → (s : State) (e : Event) (r : Routing) (p : Proposed) (q : Request) → IsSteady s → Reroutes s e r p → q.proposal ≡ p → q.rebuild.items ≡ [] → q.change ≡ Stay → Leads s e r none_rebuilt q
rerouting_leads bases edits s e r p q steady reroutes proposal rebuild change =
    let named : q.proposal.named ≡ None = ap (λ (x : Proposed). x.named) proposal ∙ reroutes.unnamed in
    let is : base_of s q ≡ s = λ i. base_by s (named i) (change i) in
    record {
      building = rerouting_builds e reroutes.building;
      kind = subst (IsOfKind e q.proposal.named) (sym change) (reroutes.building, named);
      refuses = subst (λ x. refusal s e ≡ tags_refusal x r) (sym is) reroutes.refuses;
      edits = λ none. subst (λ x. IsEdit s e x r none_rebuilt) (sym is) (edits s e r (record { passes = none; building = reroutes.building; leaves = reroutes.leaves }));
      base = subst (λ x. IsBase x none_rebuilt) (sym is) (bases s steady);
      alike = reroutes.alike;
      proposes = subst (λ (x : State). IsProposal x.routing r q.proposal) (sym is) (subst (IsProposal s.routing r) (sym proposal) reroutes.proposes);
      named = subst (λ (x : Proposed). named_with x.named s.routing.named ≡ r.named) (sym proposal) reroutes.proposes.named;
      rebuilt = subst (AreThose (is_rebuilt_live (base_of s q) none_rebuilt)) (sym rebuild) (record { rising = tt; each = λ pair m. absurd (elim m [ ]); all = λ pair passes. absurd (none_passes (is_live_pair (base_of s q) pair) passes) });
      placed = subst (IsChangeOf (length s.routing.participants)) (sym change) tt;
      compiled = subst (IsChangeCompiled (pid_of s.routing)) (sym change) tt;
      bound = λ none.
          let none_anew = none_rebuilt_live (live_pairs (retagged s r)) in
          let count = counted s e r reroutes.building reroutes.leaves in
          no_more (build_count (base_of s q) r none_rebuilt) (build_count s r none_rebuilt) (fresh_count s r) (live_among (retagged s r) none_rebuilt) (built_count s e) (ap (λ x. build_count x r none_rebuilt) is)
          (built_within s r none_rebuilt (bases s steady) reroutes.alike (sym reroutes.refuses ∙ none)) (count ∙ with_none (fresh_count s r) (live_among (retagged s r) none_rebuilt) none_anew);
    }

-- ---- policies

-- a policy without faults is refused at most for its width
pub width_passes : (faults : List IsolateFault) (p : Policy) → first_of faults ≡ Ok tt → (result : Result (Unit {0}) Stop) → MatchResult result (λ _. refused_if (is_too_wide p) TooWide ≡ None) (IsFirst (refused_if (is_too_wide p) TooWide))
    → MatchResult result (λ _. policy_refusal faults p ≡ None) (IsFirst (policy_refusal faults p))
width_passes [] p e result is = is
width_passes (fault ∷ faults) p e result is = absurd (cc)

-- a policy with faults is refused for the first
pub fault_stops : (faults : List IsolateFault) (p : Policy) (fault : IsolateFault) → first_of faults ≡ Err fault → IsFirst (policy_refusal faults p) (isolate_stop fault)
fault_stops [] p fault e = absurd (cc)
fault_stops (x ∷ faults) p fault e = let same : x ≡ fault = cc in ap (λ (y : IsolateFault). Some (Isolate y.kind y.span.start y.span.end)) same

-- a text that was read is short, and was read so
pub read_of : (text : List ℕ) (p : Policy) → policy_or_refusal text ≡ Ok p → (nat_lt 8192 (length text) ≡ false) × (policy_of_text text ≡ Ok p)
read_of text p e = by (nat_lt 8192 (length text)) refl (policy_of_text text) refl e
  where
    by : (b : Bool) → nat_lt 8192 (length text) ≡ b → (read : Result Policy Misread) → policy_of_text text ≡ read → cond b (Err TextLong) (or_misread read) ≡ Ok p → (nat_lt 8192 (length text) ≡ false) × (policy_of_text text ≡ Ok p)
    by true long read is e = absurd (cc)
    by false short (Ok x) is e = let same : x ≡ p = cc in (short, is ∙ ap (λ (y : Policy). let o : Result Policy Misread = Ok y in o) same)
    by false short (Err fault) is e = absurd (cc)

-- why a text is refused that is no policy, is why the line is
misread : (text : List ℕ) (why : Refusal) (by_read : Result Policy Misread → Option Refusal) → ((fault : Misread) → by_read (Err fault) ≡ Some (misread_refusal fault)) → policy_or_refusal text ≡ Err why → if_short text (by_read (policy_of_text text)) ≡ Some why
misread text why by_read told e = by (nat_lt 8192 (length text)) (policy_of_text text) e
  where
    by : (b : Bool) (read : Result Policy Misread) → cond b (Err TextLong) (or_misread read) ≡ Err why → cond b (Some TextLong) (by_read read) ≡ Some why
    by true read e = let is : TextLong ≡ why = cc in ap (λ x. Some x) is
    by false (Ok p) e = absurd (cc)
    by false (Err fault) e = let is : misread_refusal fault ≡ why = cc in told fault ∙ ap (λ x. Some x) is

module _ (s : State) (name text : List ℕ) (who : Pid) (sender : IsSender s name who) where
  below : who.0 < length s.routing.participants
  below = declared_pid s.routing name who sender.known

  -- ---- an outbound one

  out_refused : refusal s (Out name text) ≡ if_short text (outbound_refusal s who text (policy_of_text text))
  out_refused =
      in_place s (Out name text) (placed (Out name text) refl refl s.phase sender.ready)
      ∙ ap (λ o. if_known o (λ w. if_short text (outbound_refusal s w text (policy_of_text text)))) sender.known

  out_misread : (why : Refusal) → policy_or_refusal text ≡ Err why → refusal s (Out name text) ≡ Some why
  out_misread why e = out_refused ∙ misread text why (outbound_refusal s who text) (λ fault. refl) e

  abbrev new_names : Policy → List Pid
  new_names p = named_in (pid_of s.routing) p

  out_read : (p : Policy) → policy_or_refusal text ≡ Ok p
      → refusal s (Out name text) ≡ or_else (policy_refusal (out_faults (pid_of s.routing) (owner_of s) who p) p) (tags_refusal (with_outbound s who text (new_names p)) (with_named s.routing who (new_names p)))
  out_read p e = let read = read_of text p e in
      out_refused ∙ ap (λ b. cond b (Some TextLong) (outbound_refusal s who text (policy_of_text text))) read.0 ∙ ap (outbound_refusal s who text) read.1

  -- a text that is no policy
  pub out_unread : (stop : Stop) → HasRead text (Err stop) → IsStop s (Out name text) stop
  out_unread (Refused why) e = refusal_stops s (Out name text) why (out_misread why e)
  out_unread Memory e = tt

  -- a policy that the participant may not have
  pub out_faulty : (p : Policy) (stop : Stop) → policy_or_refusal text ≡ Ok p → IsFirst (policy_refusal (out_faults (pid_of s.routing) (owner_of s) who p) p) stop → IsStop s (Out name text) stop
  out_faulty p stop e faulty =
      let first = policy_refusal (out_faults (pid_of s.routing) (owner_of s) who p) p in
      let later = tags_refusal (with_outbound s who text (new_names p)) (with_named s.routing who (new_names p)) in
      first_stops s (Out name text) stop (subst (λ o. IsFirst o stop) (sym (out_read p e)) (first_of_two first later stop faulty))

  pub sending_leads : OutboundBases → OutboundsAreEdits → IsSteady s → (p : Policy) → policy_or_refusal text ≡ Ok p → policy_refusal (out_faults (pid_of s.routing) (owner_of s) who p) p ≡ None
      → (q : Request) → IsSending s who text p q → Leads s (Out name text) (with_named s.routing who (new_names p)) (is_senders s who) q
  sending_leads bases edits steady p e passes q sending =
      let read = read_of text p e in
      let named = new_names p in
      let r : Routing = with_named s.routing who named in
      let base : State = outbound_base s who text named in
      let holds : IsBase base (is_senders s who) = bases s who text p steady below read.1 in
      let is : base_of s q ≡ base = (λ i. base_by s (sending.named i) (sending.change i)) ∙ ap (λ t. outbound_base s who t named) sending.read in
      record {
        building = refl;
        kind = subst (IsOfKind (Out name text) q.proposal.named) (sym sending.change) refl;
        refuses = subst (λ x. refusal s (Out name text) ≡ tags_refusal x r) (sym is) (out_read p e ∙ ap (λ o. or_else o (tags_refusal (with_outbound s who text named) r)) passes);
        edits = λ none. subst (λ x. IsEdit s (Out name text) x r (is_senders s who)) (sym is) (edits s name text who p steady sender.known read.1 none);
        base = subst (λ x. IsBase x (is_senders s who)) (sym is) holds;
        alike = record { participants = refl; ports = refl };
        proposes = subst (λ (x : State). IsProposal x.routing r q.proposal) (sym is) sending.proposes;
        named = ap (λ o. named_with o s.routing.named) sending.named;
        rebuilt = subst (λ x. AreThose (is_rebuilt_live x (is_senders s who)) q.rebuild.items) (sym is)
            (subst (AreThose (is_rebuilt_live base (is_senders s who))) (sym sending.rebuilt) (those_live base (is_senders s who) holds.tagged.pairs));
        placed = subst (IsChangeOf (length s.routing.participants)) (sym sending.change) below;
        compiled = subst (IsChangeCompiled (pid_of s.routing)) (sym sending.change) sending.compiled;
        bound = λ none.
            let refuses : refusal s (Out name text) ≡ tags_refusal base r = out_read p e ∙ ap (λ o. or_else o (tags_refusal (with_outbound s who text named) r)) passes in
            let leaves : after s (Out name text) ≡ retagged base r = (edits s name text who p steady sender.known read.1 none).leaves in
            let count : built_count s (Out name text) ≡ fresh_count base r + live_among (retagged base r) (is_senders s who) =
            ap (λ o. option_map_or (sent_count s (after s (Out name text)) text (policy_of_text text)) o 0) sender.known ∙ ap (λ x. sent_count s (after s (Out name text)) text x who) read.1
            ∙ ap (λ x. fresh_count base r + live_among x (is_senders x who)) leaves in
            no_more (build_count (base_of s q) r (is_senders s who)) (build_count base r (is_senders s who)) (fresh_count base r) (live_among (retagged base r) (is_senders s who)) (built_count s (Out name text))
            (ap (λ x. build_count x r (is_senders s who)) is) (built_within base r (is_senders s who) holds (record { participants = refl; ports = refl }) (sym refuses ∙ none)) count;
      }

  -- ---- an inbound one

  in_refused : refusal s (In name text) ≡ if_short text (inbound_refusal s who (policy_of_text text))
  in_refused =
      in_place s (In name text) (placed (In name text) refl refl s.phase sender.ready)
      ∙ ap (λ o. if_known o (λ w. if_short text (inbound_refusal s w (policy_of_text text)))) sender.known

  in_misread : (why : Refusal) → policy_or_refusal text ≡ Err why → refusal s (In name text) ≡ Some why
  in_misread why e = in_refused ∙ misread text why (inbound_refusal s who) (λ fault. refl) e

  in_read : (p : Policy) → policy_or_refusal text ≡ Ok p → refusal s (In name text) ≡ policy_refusal (in_faults (owner_of s) who p) p
  in_read p e = let read = read_of text p e in
      in_refused ∙ ap (λ b. cond b (Some TextLong) (inbound_refusal s who (policy_of_text text))) read.0 ∙ ap (inbound_refusal s who) read.1

  -- a text that is no policy
  pub in_unread : (stop : Stop) → HasRead text (Err stop) → IsStop s (In name text) stop
  in_unread (Refused why) e = refusal_stops s (In name text) why (in_misread why e)
  in_unread Memory e = tt

  -- a policy that the participant may not have
  pub in_faulty : (p : Policy) (stop : Stop) → policy_or_refusal text ≡ Ok p → IsFirst (policy_refusal (in_faults (owner_of s) who p) p) stop → IsStop s (In name text) stop
  in_faulty p stop e faulty = first_stops s (In name text) stop (subst (λ o. IsFirst o stop) (sym (in_read p e)) faulty)

  pub receiving_leads : InboundBases → InboundsAreEdits → InboundsAreChanges → IsSteady s → (p : Policy) → policy_or_refusal text ≡ Ok p → policy_refusal (in_faults (owner_of s) who p) p ≡ None
      → (q : Request) → IsReceiving s who text q → Leads s (In name text) s.routing (is_receivers s who) q
  receiving_leads bases edits changes steady p e passes q receiving =
      let read = read_of text p e in
      let base : State = inbound_base s who text in
      let holds : IsBase base (is_receivers s who) = bases s who text p steady below read.1 in
      let is : base_of s q ≡ base = (λ i. base_by s (receiving.named i) (receiving.change i)) ∙ ap (inbound_base s who) receiving.read in
      let none : refusal s (In name text) ≡ None = in_read p e ∙ passes in
      record {
        building = refl;
        kind = subst (IsOfKind (In name text) q.proposal.named) (sym receiving.change) refl;
        refuses = subst (λ x. refusal s (In name text) ≡ tags_refusal x s.routing) (sym is) (none ∙ sym (enough_pass base s.routing (changes s who text p steady read.1).enough));
        edits = λ none. subst (λ x. IsEdit s (In name text) x s.routing (is_receivers s who)) (sym is) (edits s name text who p steady sender.known read.1 none);
        base = subst (λ x. IsBase x (is_receivers s who)) (sym is) holds;
        alike = record { participants = refl; ports = refl };
        proposes = subst (λ (x : State). IsProposal x.routing s.routing q.proposal) (sym is) receiving.proposes;
        named = ap (λ o. named_with o s.routing.named) receiving.named;
        rebuilt = subst (λ x. AreThose (is_rebuilt_live x (is_receivers s who)) q.rebuild.items) (sym is)
            (subst (AreThose (is_rebuilt_live base (is_receivers s who))) (sym receiving.rebuilt) (those_live base (is_receivers s who) holds.tagged.pairs));
        placed = subst (IsChangeOf (length s.routing.participants)) (sym receiving.change) below;
        compiled = subst (IsChangeCompiled (pid_of s.routing)) (sym receiving.change) receiving.compiled;
        bound = λ free.
            let leaves : after s (In name text) ≡ retagged base s.routing = (edits s name text who p steady sender.known read.1 free).leaves in
            let fresh : fresh_count base s.routing ≡ 0 = ap (λ (gs : List Group). length s.routing.ports * length gs) (no_groups base holds.tagged) ∙ times_none (length s.routing.ports) in
            let count : built_count s (In name text) ≡ live_among (retagged base s.routing) (is_receivers s who) =
            ap (λ o. option_map_or (λ w. live_among (after s (In name text)) (is_receivers s w)) o 0) sender.known ∙ ap (λ x. live_among x (is_receivers s who)) leaves in
            no_more (build_count (base_of s q) s.routing (is_receivers s who)) (build_count base s.routing (is_receivers s who)) (fresh_count base s.routing) (live_among (retagged base s.routing) (is_receivers s who)) (built_count s (In name text))
            (ap (λ x. build_count x s.routing (is_receivers s who)) is) (built_within base s.routing (is_receivers s who) holds (record { participants = refl; ports = refl }) (enough_pass base s.routing (changes s who text p steady read.1).enough))
            (count ∙ with_zero (fresh_count base s.routing) (live_among (retagged base s.routing) (is_receivers s who)) fresh);
      }

-- a proposal that touches nothing is one for the routes as they are
pub nothing_proposed : (r : Routing) (p : Proposed) → p ≡ record { changes = []; rules = None; named = None; touched = []; sigs = []; bests = [] } → IsProposal r r p
nothing_proposed r p is = subst (IsProposal r r) (sym is) (record {
  touched = record {
    each = λ q m. absurd (elim m [ ]);
    all = λ q differs. absurd (⊎_elim (λ other. other refl) (λ other. other.2 refl) differs);
    ascending = tt;
  };
  sigs = refl;
  bests = refl;
  routes = record { routes = λ k. refl };
  rules = refl;
  named = refl;
  owned = λ own. own;
})
