-- What a line that changes the routes asks for.
use Rattle.std.proofs.Common.{◌≡◌, ℕ, ◌<◌, ◌≤◌, Bool, true, false, cond, nat_eq, not, List, [], length, sym, ap, subst, ◌∙◌, refl, arith}
use Rattle.std.specs.Prelude.{Option, Some, None, Result, Ok, Err, nat_lt}
use Rattle.std.specs.Option.{option_and_then}
use Rattle.std.proofs.lemmas.Bool.{false_from_ne_true, lt-ltb, ltb-true}
use Rattle.net_types.specs.Attributes.{same_option}
use Rattle.net_types.specs.ExportReading.{rules_of_text}
use Rattle.net_types.specs.ExportTexts.{bound}
use Rattle.net_types.specs.Exports.{Routing, asn_of, pid_of}
use Rattle.net_types.specs.UpdateReading.{decoded}
use Rattle.net_types.specs.Updates.{first_as, is_oversize}
use Rattle.net_types.specs.declared.address.Ip.{Ip}
use Rattle.net_types.specs.declared.address.Pid.{Pid}
use Rattle.net_types.specs.declared.export.ExportRule.{ExportRule}
use Rattle.net_types.specs.declared.named_rule.NamedRule.{NamedRule}
use Rattle.net_types.specs.declared.route.Attrs.{Attrs}
use Rattle.net_types.specs.declared.update.Fault.{Fault}
use Rattle.net_types.specs.declared.update.Update.{Update as Message}
use Rattle.events.specs.After as after
use Rattle.events.specs.After.{bound_read, updated, with_known, with_rules, with_update, without_from}
use Rattle.events.specs.Tags.{retagged}
use Rattle.events.specs.Refusals.{attrs_refusal, bound_refusal, has_next_hop, if_known, or_else, refusal, rules_refusal, tags_refusal, text_refusal, refused_if, update_refusal}
use Rattle.events.specs.State.{State}
use Rattle.events.specs.declared.Event.TheVariants.{Down, Export, Update}
use Rattle.events.specs.declared.Refusal.{Refusal}
use Rattle.events.specs.declared.Refusal.TheVariants.{BadUpdate, FirstAs, NextHop, Oversize, Syntax, TextLong, Unknown}
use Rattle.registry.specs.Registered.{Registered, has_address}
use Rattle.route_server.specs.Admission as admission
use Rattle.route_server.specs.Proposed.{IsProposal, Proposed}
use Rattle.route_server.specs.Rows.{ruled}
use Rattle.route_server.specs.declared.fault.RouteFault.{RouteFault}
use Rattle.route_server.specs.declared.fault.RouteFault.TheVariants as faults
use Rattle.exchange_core.specs.Changing.{IsSender, Reroutes, bound_or, read_or, rules_or_refusal}
use Rattle.bgp_update.specs.declared.fault.UpdateFault.{UpdateFault}
use Rattle.bgp_update.specs.declared.fault.UpdateFault.TheVariants as updates
use Rattle.export_rules.specs.declared.fault.BindFault.{BindFault}
use Rattle.export_rules.specs.declared.fault.BindFault.TheVariants as binding
use Rattle.export_rules.specs.declared.fault.RulesFault.{RulesFault}
use Rattle.export_rules.specs.declared.fault.RulesFault.TheVariants as rules
use Rattle.exchange_core.specs.Stops.{Gives, IsFirst, IsStop, bind_stop, route_stop, rules_stop, update_stop}
use Rattle.exchange_core.specs.declared.stop.Stop.{Stop}
use Rattle.exchange_core.specs.declared.stop.Stop.TheVariants.{Refused, Memory}
use Rattle.exchange_core.proofs.Steps.{in_place, placed}
use Rattle.exchange_core.proofs.Stops.{first_stops, refusal_stops}

-- ---- why an UPDATE is refused

-- why an update is refused before its tags are looked at
abbrev pub own_refusal : State → Pid → Message → Option Refusal
own_refusal s who u = or_else (attrs_refusal s who u.attrs) (refused_if (is_oversize u) Oversize)

-- the refusal that tells a fault; want of memory is none
abbrev refusal_of : RouteFault → Option Refusal
refusal_of faults.FirstAs = Some FirstAs
refusal_of faults.NextHop = Some NextHop
refusal_of faults.Oversize = Some Oversize
refusal_of faults.Memory = None

module _ (s : State) (names : Registered) (who : Pid) (asn : asn_of (ruled names []) who ≡ asn_of s.routing who) (hop : (ip : Ip) → has_address names who ip ≡ has_next_hop s who ip) where
  seen : (a : Attrs) → attrs_refusal s who (Some a) ≡ or_else (refused_if (not (admission.begins_with_own names who a)) FirstAs) (refused_if (not (has_address names who a.next_hop)) NextHop)
  seen a =
      ap (λ n. or_else (refused_if (not (same_option nat_eq (first_as a.path) (Some n))) FirstAs) (refused_if (not (has_next_hop s who a.next_hop)) NextHop)) (sym asn)
      ∙ ap (λ b. or_else (refused_if (not (admission.begins_with_own names who a)) FirstAs) (refused_if (not b) NextHop)) (sym (hop a.next_hop))

  -- the server's faults are the refusals
  told : (oversize : Bool) (o : Option Attrs) → or_else (attrs_refusal s who o) (refused_if oversize Oversize) ≡ option_and_then refusal_of (admission.or_oversize oversize (option_and_then (admission.attrs_refusal names who) o))
  told true None = refl
  told false None = refl
  told oversize (Some a) = ap (λ o. or_else o (refused_if oversize Oversize)) (seen a) ∙ by (admission.begins_with_own names who a) (has_address names who a.next_hop) oversize
    where
      by : (b c d : Bool) → or_else (or_else (refused_if (not b) FirstAs) (refused_if (not c) NextHop)) (refused_if d Oversize)
          ≡ option_and_then refusal_of (admission.or_oversize d (cond b (cond c None (Some faults.NextHop)) (Some faults.FirstAs)))
      by true true true = refl
      by true true false = refl
      by true false d = refl
      by false c d = refl

  refused_for : (u : Message) (fault : RouteFault) → admission.refusal names who u ≡ Some fault → own_refusal s who u ≡ refusal_of fault
  refused_for u fault e = told (is_oversize u) u.attrs ∙ ap (option_and_then refusal_of) e

  -- the fault stops the line for which it is the first refusal, where nothing is refused besides
  pub fault_first : (u : Message) (fault : RouteFault) (later : Option Refusal) → (fault ≡ faults.FirstAs → admission.refusal names who u ≡ Some faults.FirstAs) → (fault ≡ faults.NextHop → admission.refusal names who u ≡ Some faults.NextHop) → (fault ≡ faults.Oversize → admission.refusal names who u ≡ Some faults.Oversize)
      → IsFirst (or_else (own_refusal s who u) later) (route_stop fault)
  fault_first u faults.FirstAs later first hop oversize = ap (λ o. or_else o later) (refused_for u faults.FirstAs (first refl))
  fault_first u faults.NextHop later first hop oversize = ap (λ o. or_else o later) (refused_for u faults.NextHop (hop refl))
  fault_first u faults.Oversize later first hop oversize = ap (λ o. or_else o later) (refused_for u faults.Oversize (oversize refl))
  fault_first u faults.Memory later first hop oversize = tt

  pub none_refused : (u : Message) → (admission.refusal names who u ≡ Some faults.FirstAs → ⊥) → (admission.refusal names who u ≡ Some faults.NextHop → ⊥) → (admission.refusal names who u ≡ Some faults.Oversize → ⊥)
      → own_refusal s who u ≡ None
  none_refused u first hop oversize = told (is_oversize u) u.attrs ∙ by (admission.refusal names who u) first hop oversize
    where
      by : (o : Option RouteFault) → (o ≡ Some faults.FirstAs → ⊥) → (o ≡ Some faults.NextHop → ⊥) → (o ≡ Some faults.Oversize → ⊥) → option_and_then refusal_of o ≡ None
      by None first hop oversize = refl
      by (Some faults.FirstAs) first hop oversize = absurd (first refl)
      by (Some faults.NextHop) first hop oversize = absurd (hop refl)
      by (Some faults.Oversize) first hop oversize = absurd (oversize refl)
      by (Some faults.Memory) first hop oversize = refl

-- which refusal comes first doesn't hang on how they are grouped
grouped : (a b c : Option Refusal) → or_else a (or_else b c) ≡ or_else (or_else a b) c
grouped None b c = refl
grouped (Some why) b c = refl

-- ---- what each line asks for

module _ (s : State) (name : List ℕ) (who : Pid) (sender : IsSender s name who) where
  -- octets that are no UPDATE
  pub update_misread : (bytes : List ℕ) (fault : UpdateFault) → ((f : Fault) → fault ≡ updates.Bad f → decoded bytes ≡ Err f) → IsStop s (Update name bytes) (update_stop fault)
  update_misread bytes (updates.Bad f) cause =
      refusal_stops s (Update name bytes) (BadUpdate f)
      (in_place s (Update name bytes) (placed (Update name bytes) refl refl s.phase sender.ready)
      ∙ ap (λ o. if_known o (λ w. update_refusal s w (decoded bytes))) sender.known ∙ ap (update_refusal s who) (cause f refl))
  update_misread bytes updates.Memory cause = tt

  update_refused : (bytes : List ℕ) (u : Message) → decoded bytes ≡ Ok u → refusal s (Update name bytes) ≡ or_else (own_refusal s who u) (tags_refusal s (with_update s.routing who u))
  update_refused bytes u is =
      in_place s (Update name bytes) (placed (Update name bytes) refl refl s.phase sender.ready)
      ∙ ap (λ o. if_known o (λ w. update_refusal s w (decoded bytes))) sender.known ∙ ap (update_refusal s who) is
      ∙ grouped (attrs_refusal s who u.attrs) (refused_if (is_oversize u) Oversize) (tags_refusal s (with_update s.routing who u))

  -- an UPDATE that the participant may not send
  pub update_stops : (bytes : List ℕ) (u : Message) (stop : Stop) → decoded bytes ≡ Ok u → IsFirst (or_else (own_refusal s who u) (tags_refusal s (with_update s.routing who u))) stop → IsStop s (Update name bytes) stop
  update_stops bytes u stop is first = first_stops s (Update name bytes) stop (subst (λ o. IsFirst o stop) (sym (update_refused bytes u is)) first)

  pub update_leads : (bytes : List ℕ) (u : Message) (p : Proposed) → decoded bytes ≡ Ok u → own_refusal s who u ≡ None → IsProposal s.routing (with_update s.routing who u) p → p.named ≡ None → Reroutes s (Update name bytes) (with_update s.routing who u) p
  update_leads bytes u p is none proposes unnamed = record {
    building = refl;
    refuses = update_refused bytes u is ∙ ap (λ o. or_else o (tags_refusal s (with_update s.routing who u))) none;
    leaves = ap (λ o. with_known s o (λ w. updated s w (decoded bytes))) sender.known ∙ ap (updated s who) is;
    alike = record { participants = refl; ports = refl };
    proposes = proposes;
    unnamed = unnamed;
  }

  pub down_leads : (p : Proposed) → IsProposal s.routing (without_from s.routing who) p → p.named ≡ None → Reroutes s (Down name) (without_from s.routing who) p
  down_leads p proposes unnamed = record {
    building = refl;
    refuses = in_place s (Down name) (placed (Down name) refl refl s.phase sender.ready) ∙ ap (λ o. if_known o (λ w. tags_refusal s (without_from s.routing w))) sender.known;
    leaves = ap (λ o. with_known s o (λ w. retagged s (without_from s.routing w))) sender.known;
    alike = record { participants = refl; ports = refl };
    proposes = proposes;
    unnamed = unnamed;
  }

  text_refused : (text : List ℕ) → refusal s (Export name text) ≡ text_refusal s who text
  text_refused text = in_place s (Export name text) (placed (Export name text) refl refl s.phase sender.ready) ∙ ap (λ o. if_known o (λ w. text_refusal s w text)) sender.known

  -- a text that is no rules of declared participants
  pub export_stops : (text : List ℕ) (stop : Stop) → Gives {X = List ExportRule} (rules_or_refusal s.routing text) (Err stop) → IsStop s (Export name text) stop
  export_stops text (Refused why) e = refusal_stops s (Export name text) why (text_refused text ∙ by (nat_lt 8192 (length text)) (rules_of_text text) e)
    where
      unbound : (o : Option (List ExportRule)) → bound_or o ≡ Err why → bound_refusal s who o ≡ Some why
      unbound None e = let same : Unknown ≡ why = cc in ap (λ x. Some x) same
      unbound (Some found) e = absurd (cc)

      by : (long : Bool) (read : Result (List NamedRule) ℕ) → cond long (Err TextLong) (read_or s.routing read) ≡ Err why → cond long (Some TextLong) (rules_refusal s who read) ≡ Some why
      by true read e = let same : TextLong ≡ why = cc in ap (λ x. Some x) same
      by false (Err at) e = let same : Syntax at ≡ why = cc in ap (λ x. Some x) same
      by false (Ok named) e = unbound (bound (pid_of s.routing) named) e
  export_stops text Memory e = tt

  -- what the rules of a text make of its refusal
  rules_refused : (text : List ℕ) (long : Bool) (read : Result (List NamedRule) ℕ) (rules : List ExportRule) → cond long (Err TextLong) (read_or s.routing read) ≡ Ok rules
      → (cond long (Some TextLong) (rules_refusal s who read) ≡ tags_refusal s (with_rules s.routing who rules)) × (bound_read s.routing read ≡ Some rules)
  rules_refused text true read rules e = absurd (cc)
  rules_refused text false (Err at) rules e = absurd (cc)
  rules_refused text false (Ok named) rules e = by (bound (pid_of s.routing) named) e
    where
      by : (o : Option (List ExportRule)) → bound_or o ≡ Ok rules → (bound_refusal s who o ≡ tags_refusal s (with_rules s.routing who rules)) × (o ≡ Some rules)
      by None e = absurd (cc)
      by (Some found) e = let same : found ≡ rules = cc in (ap (λ x. tags_refusal s (with_rules s.routing who x)) same, ap (λ x. Some x) same)

  pub export_leads : (text : List ℕ) (rules : List ExportRule) (p : Proposed) → rules_or_refusal s.routing text ≡ Ok rules → IsProposal s.routing (with_rules s.routing who rules) p → p.named ≡ None → Reroutes s (Export name text) (with_rules s.routing who rules) p
  export_leads text rules p are proposes unnamed =
      let both = rules_refused text (nat_lt 8192 (length text)) (rules_of_text text) rules are in record {
        building = refl;
        refuses = text_refused text ∙ both.0;
        leaves = ap (λ o. with_known s o (λ w. after.ruled s w (bound_read s.routing (rules_of_text text)))) sender.known ∙ ap (after.ruled s who) both.1;
        alike = record { participants = refl; ports = refl };
        proposes = proposes;
        unnamed = unnamed;
      }

-- the rules of a text that isn't too long, by what was read of it
pub rules_bound : (r : Routing) (text : List ℕ) (named : List NamedRule) (o : Option (List ExportRule)) → length text ≤ 8192 → rules_of_text text ≡ Ok named → bound (pid_of r) named ≡ o → rules_or_refusal r text ≡ bound_or o
rules_bound r text named o fits read found =
    ap (λ b. cond b (Err TextLong) (read_or r (rules_of_text text))) (false_from_ne_true (nat_lt 8192 (length text)) (λ e. let long : 8192 < length text = ltb-true 8192 (length text) e in absurd (omega (arith, long, fits))))
    ∙ ap (read_or r) read ∙ ap bound_or found

-- a text that is no rules
pub rules_misread : (r : Routing) (text : List ℕ) (fault : RulesFault) → (fault ≡ rules.TextLong → 8192 < length text) → (8192 < length text → fault ≡ rules.TextLong) → ((at : ℕ) → fault ≡ rules.Syntax at → rules_of_text text ≡ Err at)
    → Gives {X = List ExportRule} (rules_or_refusal r text) (Err (rules_stop fault))
rules_misread r text rules.TextLong long short place = ap (λ b. cond b (Err TextLong) (read_or r (rules_of_text text))) (lt-ltb 8192 (length text) (long refl))
rules_misread r text (rules.Syntax at) long short place =
    ap (λ b. cond b (Err TextLong) (read_or r (rules_of_text text))) (false_from_ne_true (nat_lt 8192 (length text)) (λ e. let other : rules.Syntax at ≡ rules.TextLong = short (ltb-true 8192 (length text) e) in absurd (cc)))
    ∙ ap (read_or r) (place at refl)
rules_misread r text rules.Memory long short place = tt

-- rules with a name that isn't declared
pub rules_unbound : (r : Routing) (text : List ℕ) (named : List NamedRule) (fault : BindFault) → length text ≤ 8192 → rules_of_text text ≡ Ok named → (fault ≡ binding.UnknownName → bound (pid_of r) named ≡ None)
    → Gives {X = List ExportRule} (rules_or_refusal r text) (Err (bind_stop fault))
rules_unbound r text named binding.UnknownName fits read none = rules_bound r text named None fits read (none refl)
rules_unbound r text named binding.Memory fits read none = tt
