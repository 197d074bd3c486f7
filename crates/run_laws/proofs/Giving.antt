-- What a kept signature offers was exported in the state in which a prefix got the tag.
use Rattle.std.proofs.Common.{◌≡◌, ◌⊎◌, ◌-◌, ℕ, zero, suc, Bool, true, false, cond, ◌&&◌, not, List, [], ◌∷◌, ◌++◌, filter, ap, sym, subst, ◌∙◌, refl, inl, inr}
use Rattle.std.specs.Prelude.{Option, Some, None, Result, Ok, Err, find, is_some, nat_eq, nat_lt, slice_get, take, unwrap_or}
use Rattle.std.specs.FinMap.{FinMap, contains_key-keys, empty, get, get-empty, get-retain_keys, keys, values}
use Rattle.std.specs.List.{list_any}
use Rattle.std.specs.Option.{option_and_then, option_map, option_map_or}
use Rattle.std.specs.Ordering.{eq_by_cmp}
use Rattle.std.proofs.lemmas.Bool.{and_from, and_parts, eqb-true, or_left, or_right}
use Rattle.grammar.specs.TextReading.{Fault as Misread}
use Rattle.events.proofs.Candidates.{candidate_exported}
use Rattle.events.proofs.Drained.{some_cond}
use Rattle.events.proofs.Reached.{step_sound, first_sound}
use Rattle.events.proofs.Routed.{best_offered, part_with}
use Rattle.events.specs.After.{after, bound_read, least_tag, merged, next, next_by, received_by, ruled, running, sent_by, settled, taken, updated, with_named, with_outbound, with_port, with_told, without_from, worked}
use Rattle.events.specs.Fits.{tag_changes}
use Rattle.events.specs.Legal.{LegalFrom, state_from}
use Rattle.events.specs.Pending.{pending, with_all_news}
use Rattle.events.specs.Refusals.{refusal}
use Rattle.events.specs.Resolving.{unresolved, with_answer, with_resolved}
use Rattle.events.specs.Sound.{IsSound, part_of}
use Rattle.events.specs.State.{State, first, port_of, present, present_entry, told_to}
use Rattle.events.specs.Tags.{Group, carried, fresh_tag, group_with, groups, is_live, kept_signature, retagged, same_tag, tags, tags_after, tells}
use Rattle.events.specs.declared.Entry.{Entry}
use Rattle.events.specs.declared.Event.{Event}
use Rattle.events.specs.declared.Event.TheVariants.{Bad, Exchange, Participant as DeclaresParticipant, Port as DeclaresPort, Update, Down, Export, Outbound, Inbound, Take, Drain, Arp, Resolve, Packet, Frame, Recompile, Work, Table}
use Rattle.events.specs.declared.Head.{Head}
use Rattle.events.specs.declared.Head.TheVariants.{Fine, Working, Finished, Unrouted, Unresolved, Silent, Refused}
use Rattle.events.specs.declared.Reply.{Reply}
use Rattle.events.specs.declared.TagChange.{TagChange}
use Rattle.exchange_laws.proofs.ToldAnew.{get_set}
use Rattle.net_types.proofs.FindLemmas.{any_at, find-IsFound, slice_get-Member}
use Rattle.net_types.proofs.MapLemmas.{get-tabulate}
use Rattle.net_types.proofs.OrderLemmas.{prefix_tie, prefixes_total, tags_total}
use Rattle.net_types.proofs.OrderedLemmas.{any_member, ordered_same}
use Rattle.net_types.proofs.PassLemmas.{is_some-any, some_there}
use Rattle.net_types.proofs.PrefixLemmas.{prefix_ext}
use Rattle.net_types.proofs.RisingLemmas.{Member-filter, filter-Member}
use Rattle.net_types.proofs.SameLemmas.{nat_itself}
use Rattle.net_types.proofs.SetLemmas.{Member-append_right, Member-map, map-Member, given_by}
use Rattle.net_types.proofs.TieLemmas.{tag_cmp-IsAntisymmetric, tag_tie}
use Rattle.net_types.proofs.ValueLemmas.{any_value}
use Rattle.net_types.specs.Answers.{is_offered}
use Rattle.net_types.specs.Attributes.{same_option}
use Rattle.net_types.specs.ExportReading.{rules_of_text}
use Rattle.net_types.specs.Exports.{Routing, exports, named_by, pid_of, same_prefix}
use Rattle.net_types.specs.Keys.{prefix_cmp, tag_cmp}
use Rattle.net_types.specs.Maps.{ordered, tabulate}
use Rattle.net_types.specs.Naming.{named_in}
use Rattle.net_types.specs.Policies.{Policy}
use Rattle.net_types.specs.PolicyReading.{policy_of_text}
use Rattle.net_types.specs.Routes.{Candidate, announced, best, candidates, pids}
use Rattle.net_types.specs.Sets.{Member}
use Rattle.net_types.specs.Signatures.{counts, offer, offers, part, signature, trimmed, trimmed_part}
use Rattle.net_types.specs.UpdateReading.{decoded}
use Rattle.net_types.specs.declared.address.Pid.{Pid}
use Rattle.net_types.specs.declared.address.Tag.{Tag}
use Rattle.net_types.specs.declared.export.ExportRule.{ExportRule}
use Rattle.net_types.specs.declared.prefix.Prefix.{Prefix}
use Rattle.net_types.specs.declared.route.Offer.{Offer}
use Rattle.net_types.specs.declared.route.Part.{Part}
use Rattle.net_types.specs.declared.update.Fault.{Fault}
use Rattle.net_types.specs.declared.update.Update.{Update as Message}
use Rattle.run_laws.proofs.Answering.{Kind, fresh_dead, kind_of}
use Rattle.run_laws.proofs.Sharing.{change_of}
use Rattle.run_laws.proofs.Taking.{Entries, all_news_at}
use Rattle.run_laws.specs.Given.{IsGivenIn, IsHeld, KeptOffersWereExported, OffersExporters, given_from, gives}
use Rattle.exchange_laws.proofs.Lists.{clash}
use Rattle.exchange_laws.proofs.Sames.{tags_test}
use Rattle.run_laws.proofs.Known.{answer_is, known_holds, resolved_is}
use Rattle.exchange_laws.proofs.Bases.{trimmed_found}

pub found : {A : Type 0} (test : A → Bool) (xs : List A) → list_any test xs ≡ true → (x : A) × Member x xs × (test x ≡ true)
found test xs any =
    let there = some_there (find test xs) (is_some-any test xs ∙ any) in
    let is = find-IsFound test xs there.0 there.1 in
    (there.0, is.stands, is.passes)

tag_listed : (m : FinMap prefix_cmp Tag) (p : Prefix) → is_some (get m p) ≡ true → Member p (keys m)
tag_listed m p there = any_member prefix_cmp prefixes_total prefix_tie p (keys m) (sym (contains_key-keys m p) ∙ there)

-- ---- the tags that a reply tells

record TellsTags (s s1 : State) (r : Reply) : Type 0 where
  now : (p : Prefix) (t : Tag) → gives r p t ≡ true → get s1.tag p ≡ Some t
  before : (p : Prefix) (t : Tag) → get s1.tag p ≡ Some t → (get s.tag p ≡ Some t) ⊎ (gives r p t ≡ true)

told_changes : (s s1 : State) (r : Reply) → r.tags ≡ tag_changes s.tag s1.tag → TellsTags s s1 r
told_changes s s1 r tags_are = record {
  now = λ p t is.
      let c = found (λ (x : TagChange). same_prefix x.prefix p && same_option same_tag x.tag (Some t)) r.tags is in
      let parts = and_parts (same_prefix c.0.prefix p) (same_option same_tag c.0.tag (Some t)) c.2 in
      let halves = and_parts (nat_eq c.0.prefix.address.0 p.address.0) (nat_eq c.0.prefix.len p.len) parts.0 in
      let same : c.0.prefix ≡ p = prefix_ext c.0.prefix p (eqb-true c.0.prefix.address.0 p.address.0 halves.0) (eqb-true c.0.prefix.len p.len halves.1) in
      ap (get s1.tag) (sym same) ∙ (change_of s.tag s1.tag c.0 (subst (Member c.0) tags_are c.1)).now ∙ (tags_test c.0.tag (Some t)).0 parts.1;
  before = λ p t is. by p t is (same_option same_tag (get s.tag p) (get s1.tag p)) refl;
}
  where
    by : (p : Prefix) (t : Tag) → get s1.tag p ≡ Some t → (b : Bool) → same_option same_tag (get s.tag p) (get s1.tag p) ≡ b → (get s.tag p ≡ Some t) ⊎ (gives r p t ≡ true)
    by p t is true same = inl ((tags_test (get s.tag p) (get s1.tag p)).0 same ∙ is)
    by p t is false apart =
        let all : List Prefix = keys s.tag ++ keys s1.tag in
        let test : Prefix → Bool = λ q. not (same_option same_tag (get s.tag q) (get s1.tag q)) in
        let make : Prefix → TagChange = λ q. record { prefix = q; tag = get s1.tag q } in
        let there : Member p (ordered prefix_cmp all) = (ordered_same prefix_cmp prefixes_total prefix_tie all).back p (Member-append_right (keys s.tag) (keys s1.tag) p (tag_listed s1.tag p (ap is_some is))) in
        let change : Member (make p) r.tags = subst (Member (make p)) (sym tags_are) (Member-map make (filter test (ordered prefix_cmp all)) p (Member-filter test (ordered prefix_cmp all) p there (ap not apart))) in
        inr (any_at (λ (x : TagChange). same_prefix x.prefix p && same_option same_tag x.tag (Some t)) r.tags (make p) change
        (and_from (same_prefix p p) (same_option same_tag (get s1.tag p) (Some t)) (and_from (nat_eq p.address.0 p.address.0) (nat_eq p.len p.len) (nat_itself p.address.0) (nat_itself p.len)) ((tags_test (get s1.tag p) (Some t)).1 is)))

tells_tags : (s : State) (e : Event) (r : Reply) → Kind s e r → TellsTags s (next s e r) r
tells_tags s e r (inl quiet) = record {
  now = λ p t is. absurd (clash is (ap (list_any (λ (x : TagChange). same_prefix x.prefix p && same_option same_tag x.tag (Some t))) quiet.untagged));
  before = λ p t is. inl (ap (λ m. get m p) (sym quiet.stays) ∙ is);
}
tells_tags s e r (inr (inl retagging)) = told_changes s (next s e r) r (retagging.tags ∙ ap (λ h. tag_changes s.tag (next_by h s e r).tag) (sym retagging.head))
tells_tags s e r (inr (inr ending)) = told_changes s (next s e r) r (ending.tags ∙ ap (λ (x : State). tag_changes s.tag x.tag) (sym ending.leaves))

-- ---- parts that lose offers

-- a part with no offers but those of another, and with its best one
pub record IsNarrower (one whole : Part) : Type 0 where
  pub best : one.best ≡ whole.best
  pub offers : (o : Offer) → Member o one.offers → Member o whole.offers
  pub offered : is_offered whole.offers whole.best ≡ true → is_offered one.offers one.best ≡ true

as_wide : (x : Part) → IsNarrower x x
as_wide x = record { best = refl; offers = λ o m. m; offered = λ is. is }

narrower_yet : (a b c : Part) → IsNarrower a b → IsNarrower b c → IsNarrower a c
narrower_yet a b c ab bc = record { best = ab.best ∙ bc.best; offers = λ o m. bc.offers o (ab.offers o m); offered = λ is. ab.offered (bc.offered is) }

pub trimmed_narrower : (who : Pid) (named : List Pid) (x : Part) → IsNarrower (trimmed_part who named x) x
trimmed_narrower who named x = by (nat_eq x.sender.0 who.0)
  where
    by : (b : Bool) → IsNarrower (cond b (record x { offers = filter (λ (o : Offer). counts named x.best o.exporter) x.offers }) x) x
    by false = as_wide x
    by true = record {
      best = refl;
      offers = λ o m. (filter-Member (λ (y : Offer). counts named x.best y.exporter) x.offers o m).stands;
      offered = λ is.
          let o = found (λ (y : Offer). nat_eq y.exporter.0 x.best.0) x.offers is in
          any_at (λ (y : Offer). nat_eq y.exporter.0 x.best.0) (filter (λ (y : Offer). counts named x.best y.exporter) x.offers) o.0
          (Member-filter (λ (y : Offer). counts named x.best y.exporter) x.offers o.0 o.1 (or_left (nat_eq o.0.exporter.0 x.best.0) (list_any (λ (other : Pid). nat_eq other.0 o.0.exporter.0) named) o.2)) o.2;
    }

-- ---- what a line leaves of what is kept and told

-- a kept signature whose parts are no wider than those that were kept for the tag
record IsKeptFrom (s : State) (t : Tag) (sig : List Part) : Type 0 where
  was : List Part
  kept : get s.kept t ≡ Some was
  parts : (who : Pid) (one : Part) → part_of sig who ≡ Some one → (whole : Part) × (part_of was who ≡ Some whole) × IsNarrower one whole

record Leaves (s s1 : State) : Type 0 where
  told : (who : Pid) (p : Prefix) (entry : Entry) → get (told_to s1 who) p ≡ Some entry → (get (told_to s who) p ≡ Some entry) ⊎ (get s.tag p ≡ Some entry.tag)
  kept : (t : Tag) (sig : List Part) → is_live s t ≡ true → get s1.kept t ≡ Some sig → IsKeptFrom s t sig

same_kept : (s : State) (t : Tag) (sig : List Part) → get s.kept t ≡ Some sig → IsKeptFrom s t sig
same_kept s t sig is = record { was = sig; kept = is; parts = λ who one there. (one, there, as_wide one) }

-- a state that told and keeps the same
stays : (s s1 : State) → s1.told ≡ s.told → s1.kept ≡ s.kept → Leaves s s1
stays s s1 told kept = record {
  told = λ who p entry is. inl (ap (λ l. get (unwrap_or (slice_get l who.0) empty) p) (sym told) ∙ is);
  kept = λ t sig live is. same_kept s t sig (ap (λ m. get m t) (sym kept) ∙ is);
}

retagged_leaves : (s : State) (r : Routing) → Leaves s (retagged s r)
retagged_leaves s r = record { told = λ who p entry is. inl is; kept = λ t sig live is. same_kept s t sig (kept_is t sig live is) }
  where
    by : (t : Tag) (sig : List Part) → is_live s t ≡ true → (o : Option Group) → group_with s r t ≡ o → option_map_or (λ (g : Group). Some g.after) o (get s.kept t) ≡ Some sig → get s.kept t ≡ Some sig
    by t sig live None is e = e
    by t sig live (Some g) is e =
        absurd (clash live (fresh_dead s r g t ((tags_test (fresh_tag s r g) (Some t)).0 (find-IsFound (λ x. same_option same_tag (fresh_tag s r x) (Some t)) (groups s r) g is).passes)))

    kept_is : (t : Tag) (sig : List Part) → is_live s t ≡ true → get (retagged s r).kept t ≡ Some sig → get s.kept t ≡ Some sig
    kept_is t sig live is =
        let f : Tag → Option (List Part) = λ u. cond (is_live (record s { routing = r; tag = tags_after s r }) u) (kept_signature s r u) None in
        let here : f t ≡ Some sig = some_cond (list_any (eq_by_cmp tag_cmp t) (tags s)) (f t) sig
        (sym (get-tabulate tag_cmp tags_total f (λ q k tie. ap f (sym (tag_tie q k tie))) (tags s) t) ∙ is) in
        by t sig live (group_with s r t) refl (some_cond (is_live (record s { routing = r; tag = tags_after s r }) t) (kept_signature s r t) sig here)

outbound_leaves : (s : State) (who : Pid) (text : List ℕ) (named : List Pid) (s1 : State) → Leaves (with_outbound s who text named) s1 → Leaves s s1
outbound_leaves s who text named s1 is = record { told = is.told; kept = λ t sig live e. from t sig (is.kept t sig live e) }
  where
    mapped : {A : Type 0} (f : A → A) (o : Option A) (y : A) → option_map f o ≡ Some y → (x : A) × (o ≡ Some x) × (f x ≡ y)
    mapped f None y e = absurd (cc)
    mapped f (Some x) y e = (x, refl, ap (λ o. unwrap_or o y) e)

    from : (t : Tag) (sig : List Part) → IsKeptFrom (with_outbound s who text named) t sig → IsKeptFrom s t sig
    from t sig kept =
        let f : Tag → Option (List Part) = λ u. option_map (trimmed who named) (get s.kept u) in
        let here : f t ≡ Some kept.was = some_cond (list_any (eq_by_cmp tag_cmp t) (keys s.kept)) (f t) kept.was
        (sym (get-tabulate tag_cmp tags_total f (λ q k tie. ap f (sym (tag_tie q k tie))) (keys s.kept) t) ∙ kept.kept) in
        let before = mapped (trimmed who named) (get s.kept t) kept.was here in record {
          was = before.0;
          kept = before.1;
          parts = λ w one there.
              let next_part = kept.parts w one there in
              let whole = mapped (trimmed_part who named) (part_of before.0 w) next_part.0 (sym (trimmed_found who named before.0 w) ∙ ap (λ x. part_of x w) before.2 ∙ next_part.1) in
              (whole.0, whole.1, narrower_yet one next_part.0 whole.0 next_part.2 (subst (λ x. IsNarrower x whole.0) whole.2 (trimmed_narrower who named whole.0)));
        }

pub settled_kept : (s : State) (t : Tag) (sig : List Part) → get (settled s).kept t ≡ Some sig → get s.kept t ≡ Some sig
settled_kept s t sig is =
    some_cond (is_live s t) (get s.kept t) sig (sym (get-retain_keys s.kept (is_live s) t (λ x tie. ap (is_live s) (sym (tag_cmp-IsAntisymmetric t x tie)))) ∙ is)

-- ---- what participants are told

at_more : {A : Type 0} (xs : List A) (k : ℕ) (none : A) → unwrap_or (slice_get (xs ++ none ∷ []) k) none ≡ unwrap_or (slice_get xs k) none
at_more [] zero none = refl
at_more [] (suc k) none = refl
at_more (x ∷ xs) zero none = refl
at_more (x ∷ xs) (suc k) none = at_more xs k none

-- what is present is told with the prefix's tag
present_tag : (s : State) (who : Pid) (p : Prefix) (entry : Entry) → get (present s who) p ≡ Some entry → get s.tag p ≡ Some entry.tag
present_tag s who p entry e =
    by (best s.routing who p) (get s.tag p)
    (some_cond (list_any (eq_by_cmp prefix_cmp p) (announced s.routing)) (present_entry s who p) entry
    (sym (get-tabulate prefix_cmp prefixes_total (present_entry s who) (λ q k tie. ap (present_entry s who) (sym (prefix_tie q k tie))) (announced s.routing) p) ∙ e))
  where
    by : (b : Option Candidate) (t : Option Tag) → option_and_then (λ (c : Candidate). option_map (λ u. let x : Entry = record { attrs = c.attrs; tag = u } in x) t) b ≡ Some entry → t ≡ Some entry.tag
    by None t e = absurd (cc)
    by (Some c) None e = absurd (cc)
    by (Some c) (Some u) e = ap (λ (o : Option Entry). option_map (λ x. x.tag) o) e

told_leaves : (s : State) (who : Pid) (m : Entries) → ((p : Prefix) (entry : Entry) → get m p ≡ Some entry → (get (told_to s who) p ≡ Some entry) ⊎ (get s.tag p ≡ Some entry.tag)) → Leaves s (settled (running (with_told s who m)))
told_leaves s who m news = record {
  told = λ w p entry is. elim (get_set s.told who.0 w.0 m empty) [
    | inl same ↦ inl (ap (λ (x : Entries). get x p) (sym same) ∙ is)
    | inr here ↦ subst (λ n. (get (unwrap_or (slice_get s.told n) empty) p ≡ Some entry) ⊎ (get s.tag p ≡ Some entry.tag)) (sym here.0) (news p entry (ap (λ (x : Entries). get x p) (sym here.1) ∙ is))
  ];
  kept = λ t sig live is. same_kept s t sig (settled_kept (running (with_told s who m)) t sig is);
}

taken_leaves : (s : State) (who : Pid) (ps : List Prefix) → Leaves s (settled (running (taken s who ps)))
taken_leaves s who ps = told_leaves s who (with_all_news (present s who) (told_to s who) ps) (λ p entry is. by p entry (list_any (eq_by_cmp prefix_cmp p) ps) (sym (all_news_at (present s who) (told_to s who) ps p) ∙ is))
  where
    by : (p : Prefix) (entry : Entry) (b : Bool) → cond b (get (present s who) p) (get (told_to s who) p) ≡ Some entry → (get (told_to s who) p ≡ Some entry) ⊎ (get s.tag p ≡ Some entry.tag)
    by p entry true is = inr (present_tag s who p entry is)
    by p entry false is = inl is

-- ---- each line

updated_leaves : (s : State) (who : Pid) (read : Result Message Fault) → Leaves s (updated s who read)
updated_leaves s who (Ok u) = retagged_leaves s _
updated_leaves s who (Err fault) = stays s s refl refl

ruled_leaves : (s : State) (who : Pid) (rules : Option (List ExportRule)) → Leaves s (ruled s who rules)
ruled_leaves s who (Some rules) = retagged_leaves s _
ruled_leaves s who None = stays s s refl refl

sent_leaves : (s : State) (who : Pid) (text : List ℕ) (read : Result Policy Misread) → Leaves s (sent_by s who text read)
sent_leaves s who text (Err fault) = stays s s refl refl
sent_leaves s who text (Ok policy) =
    let names : List Pid = named_in (pid_of s.routing) policy in
    let s0 : State = with_outbound s who text names in
    let later : Leaves s0 (retagged s0 (with_named s.routing who names)) = retagged_leaves s0 (with_named s.routing who names) in
    outbound_leaves s who text names (sent_by s who text (Ok policy)) (record { told = later.told; kept = later.kept })

received_leaves : (s : State) (who : Pid) (text : List ℕ) (read : Result Policy Misread) → Leaves s (received_by s who text read)
received_leaves s who text (Err fault) = stays s s refl refl
received_leaves s who text (Ok policy) = stays s _ refl refl

worked_leaves : (s : State) (units owed : ℕ) (b : Bool) → Leaves s (cond b (running (record s { owed = Some (owed - units) })) (merged s))
worked_leaves s units owed true = stays s _ refl refl
worked_leaves s units owed false =
    let joined : State = running (record s { tag = tabulate prefix_cmp (carried s.routing) (λ p. least_tag s (signature s.routing p)); owed = None }) in
    record { told = λ who p entry is. inl is; kept = λ t sig live is. same_kept s t sig (settled_kept joined t sig is) }

after_leaves : (s : State) (e : Event) → Leaves s (after s e)
after_leaves s Bad = stays s _ refl refl
after_leaves s (Exchange base size capacity) = stays s _ refl refl
after_leaves s (DeclaresParticipant name asn id) = record {
  told = λ who p entry is. inl (ap (λ (x : Entries). get x p) (sym (at_more s.told who.0 empty)) ∙ is);
  kept = λ t sig live is. same_kept s t sig is;
}
after_leaves s (DeclaresPort name number ip mac) = known_holds (Leaves s) s (pid_of s.routing name) (λ who. with_port s (record { owner = who; number = number; ip = ip; mac = mac })) (stays s s refl refl) (λ who. stays s _ refl refl)
after_leaves s (Update name bytes) = known_holds (Leaves s) s (pid_of s.routing name) (λ who. updated s who (decoded bytes)) (stays s s refl refl) (λ who. updated_leaves s who (decoded bytes))
after_leaves s (Down name) = known_holds (Leaves s) s (pid_of s.routing name) (λ who. retagged s (without_from s.routing who)) (stays s s refl refl) (λ who. retagged_leaves s _)
after_leaves s (Export name text) = known_holds (Leaves s) s (pid_of s.routing name) (λ who. ruled s who (bound_read s.routing (rules_of_text text))) (stays s s refl refl) (λ who. ruled_leaves s who (bound_read s.routing (rules_of_text text)))
after_leaves s (Outbound name text) = known_holds (Leaves s) s (pid_of s.routing name) (λ who. sent_by s who text (policy_of_text text)) (stays s s refl refl) (λ who. sent_leaves s who text (policy_of_text text))
after_leaves s (Inbound name text) = known_holds (Leaves s) s (pid_of s.routing name) (λ who. received_by s who text (policy_of_text text)) (stays s s refl refl) (λ who. received_leaves s who text (policy_of_text text))
after_leaves s (Take name count) = known_holds (Leaves s) s (pid_of s.routing name) (λ who. settled (running (taken s who (take count (pending s who))))) (stays s s refl refl) (λ who. taken_leaves s who (take count (pending s who)))
after_leaves s (Drain name) = known_holds (Leaves s) s (pid_of s.routing name) (λ who. settled (running (with_told s who (present s who)))) (stays s s refl refl) (λ who. told_leaves s who (present s who) (λ p entry is. inr (present_tag s who p entry is)))
after_leaves s (Arp n bytes) =
    known_holds (Leaves s) s (port_of s n) (λ q. running (with_answer s q bytes)) (stays s s refl refl) (λ q. stays s (running (with_answer s q bytes)) (ap (λ (x : State). x.told) (answer_is s q bytes)) (ap (λ (x : State). x.kept) (answer_is s q bytes)))
after_leaves s (Resolve n) =
    known_holds (Leaves s) s (port_of s n) (λ q. running (with_resolved s n (unresolved s q))) (stays s s refl refl) (λ q. let is = resolved_is s n (unresolved s q) in stays s (running (with_resolved s n (unresolved s q))) (ap (λ (x : State). x.told) is) (ap (λ (x : State). x.kept) is))
after_leaves s (Packet n bytes) = stays s _ refl refl
after_leaves s (Frame n bytes) = stays s _ refl refl
after_leaves s Recompile = stays s _ refl refl
after_leaves s (Work units) = known_holds (Leaves s) s s.owed (worked s units) (stays s s refl refl) (λ owed. worked_leaves s units owed (nat_lt units owed))
after_leaves s Table = stays s _ refl refl

next_leaves : (s : State) (e : Event) (r : Reply) (h : Head) → Leaves s (next_by h s e r)
next_leaves s e r (Refused why) = stays s s refl refl
next_leaves s e r Fine = record { told = (after_leaves s e).told; kept = (after_leaves s e).kept }
next_leaves s e r (Working units) = record { told = (after_leaves s e).told; kept = (after_leaves s e).kept }
next_leaves s e r Finished = record { told = (after_leaves s e).told; kept = (after_leaves s e).kept }
next_leaves s e r Unrouted = record { told = (after_leaves s e).told; kept = (after_leaves s e).kept }
next_leaves s e r (Unresolved ip) = record { told = (after_leaves s e).told; kept = (after_leaves s e).kept }
next_leaves s e r Silent = record { told = (after_leaves s e).told; kept = (after_leaves s e).kept }

-- ---- what the given states exported

narrower_exported : (g : State) (who : Pid) (p : Prefix) (one whole : Part) → IsNarrower one whole → OffersExporters g who p whole → OffersExporters g who p one
narrower_exported g who p one whole narrower is = record { offered = narrower.offered is.offered; exporters = λ o m. is.exporters o (narrower.offers o m) }

with_exported : (s : State) (k : Pid) (p : Prefix) (c : Candidate) → best s.routing k p ≡ Some c → OffersExporters s k p (part_with s.routing k p c)
with_exported s k p c chosen =
    let r : Routing = s.routing in
    let test : Candidate → Bool = λ d. counts (named_by r k) c.from d.from in
    record {
      offered = sym (is_some-any (λ (o : Offer). nat_eq o.exporter.0 c.from.0) (offers r p k c.from)) ∙ ap is_some (best_offered r k p c chosen).found;
      exporters = λ o m.
          let image = map-Member (offer r) (filter test (candidates r k p)) o m in
          let d : Candidate = image.of in
          ap (λ (x : Offer). exports r x.exporter k p) image.is ∙ (candidate_exported r k p d (filter-Member test (candidates r k p) d image.stands).stands).exported;
    }

signature_exported : (s : State) (who : Pid) (p : Prefix) (x : Part) → part_of (signature s.routing p) who ≡ Some x → OffersExporters s who p x
signature_exported s who p x is =
    let at = find-IsFound (λ (y : Part). nat_eq y.sender.0 who.0) (signature s.routing p) x is in
    let from = given_by (part s.routing p) (pids s.routing) x at.stands in
    by from.source (best s.routing from.source p) refl from.is (eqb-true x.sender.0 who.0 at.passes)
  where
    by : (k : Pid) (b : Option Candidate) → best s.routing k p ≡ b → option_map (λ (c : Candidate). part_with s.routing k p c) b ≡ Some x → x.sender.0 ≡ who.0 → OffersExporters s who p x
    by k None chosen e mine = absurd (cc)
    by k (Some c) chosen e mine =
        let same : part_with s.routing k p c ≡ x = ap (λ o. unwrap_or o x) e in
        let number : k.0 ≡ who.0 = ap (λ (y : Part). y.sender.0) same ∙ mine in
        subst (OffersExporters s who p) same (subst (λ n. OffersExporters s (record { 0 = n }) p (part_with s.routing k p c)) number (with_exported s k p c chosen))

abbrev AreGiven : (Prefix → Tag → Option State) → State → Type 0
AreGiven given s = (who : Pid) (p : Prefix) (t : Tag) → IsHeld s who p t → IsGivenIn (given p t) s who p t

has_live : (s : State) (who : Pid) (p : Prefix) (t : Tag) → IsHeld s who p t → is_live s t ≡ true
has_live s who p t (inl is) = or_left (list_any (same_tag t) (values s.tag)) (list_any (λ entries. tells entries t) s.told) (any_value prefix_cmp prefixes_total (same_tag t) s.tag p t is (nat_itself t.0))
has_live s who p t (inr (entry, is, same)) = or_right (list_any (same_tag t) (values s.tag)) (list_any (λ entries. tells entries t) s.told) (by (slice_get s.told who.0) refl is)
  where
    by : (o : Option Entries) → slice_get s.told who.0 ≡ o → get (unwrap_or o empty) p ≡ Some entry → list_any (λ entries. tells entries t) s.told ≡ true
    by None at e = let none : get {X = Entry} (empty {R = prefix_cmp}) p ≡ None = get-empty prefix_cmp p in absurd (cc)
    by (Some entries) at e =
        any_at (λ es. tells es t) s.told entries (slice_get-Member s.told who.0 entries at)
        (any_value prefix_cmp prefixes_total (λ (x : Entry). same_tag x.tag t) entries p entry e (ap (λ (u : Tag). same_tag u t) same ∙ nat_itself t.0))

module _ (given : Prefix → Tag → Option State) (s : State) (e : Event) (r : Reply) (are : AreGiven given s) (sound : IsSound (next s e r)) (tells_these : TellsTags s (next s e r) r) where
  abbrev later : Prefix → Tag → Option State
  later p t = cond (gives r p t) (Some (next s e r)) (given p t)

  had : (who : Pid) (p : Prefix) (t : Tag) → gives r p t ≡ false → IsHeld (next s e r) who p t → IsHeld s who p t
  had who p t none (inl is) = elim (tells_these.before p t is) [ inl there ↦ inl there | inr now ↦ absurd (clash now none) ]
  had who p t none (inr (entry, is, same)) = elim ((next_leaves s e r r.head).told who p entry is) [ inl there ↦ inr (entry, there, same) | inr tagged ↦ inl (tagged ∙ ap Some same) ]

  step_given : (who : Pid) (p : Prefix) (t : Tag) (b : Bool) → gives r p t ≡ b → IsHeld (next s e r) who p t → IsGivenIn (later p t) (next s e r) who p t
  step_given who p t true is has = record {
    state = next s e r;
    is = ap (λ b. cond b (Some (next s e r)) (given p t)) is;
    parts = λ sig x kept there.
        let two : Some sig ≡ Some (signature (next s e r).routing p) = sym kept ∙ sound.kept p t (tells_these.now p t is) in
        let same : sig ≡ signature (next s e r).routing p = ap (λ o. unwrap_or o sig) two in
        signature_exported (next s e r) who p x (ap (λ y. part_of y who) (sym same) ∙ there);
  }
  step_given who p t false none has =
      let before : IsHeld s who p t = had who p t none has in
      let old : IsGivenIn (given p t) s who p t = are who p t before in record {
        state = old.state;
        is = ap (λ b. cond b (Some (next s e r)) (given p t)) none ∙ old.is;
        parts = λ sig x kept there.
            let from = (next_leaves s e r r.head).kept t sig (has_live s who p t before) kept in
            let whole = from.parts who x there in
            narrower_exported old.state who p x whole.0 whole.2 (old.parts from.was whole.0 from.kept whole.1);
      }

from_given : (given : Prefix → Tag → Option State) (s : State) (es : List Event) (rs : List Reply) → AreGiven given s → IsSound s → LegalFrom s es rs → AreGiven (λ p t. given_from p t (given p t) s es rs) (state_from s es rs)
from_given given s [] [] are sound legal = are
from_given given s [] (r ∷ rs) are sound legal = absurd legal
from_given given s (e ∷ es) [] are sound legal = absurd legal
from_given given s (e ∷ es) (r ∷ rs) are sound legal =
    let sound1 : IsSound (next s e r) = step_sound s e r (refusal s e) sound legal.0 in
    let tells_these : TellsTags s (next s e r) r = tells_tags s e r (kind_of s e r legal.0) in
    from_given (λ p t. cond (gives r p t) (Some (next s e r)) (given p t)) (next s e r) es rs
    (λ who p t has. step_given given s e r are sound1 tells_these who p t (gives r p t) refl has) sound1 legal.1

-- nothing is told or tagged before the first line
first_given : AreGiven (λ p t. None) first
first_given who p t (inl is) = let none : get first.tag p ≡ None = get-empty prefix_cmp p in absurd (cc)
first_given who p t (inr (entry, is, same)) = let none : get {X = Entry} (empty {R = prefix_cmp}) p ≡ None = get-empty prefix_cmp p in absurd (let none_there : get (told_to first who) p ≡ None = ap (λ (o : Option Entries). get (unwrap_or o empty) p) (no_place who.0) ∙ none in cc)
  where
    no_place : (k : ℕ) → let none : List Entries = [] in slice_get none k ≡ None
    no_place zero = refl
    no_place (suc k) = refl

pub kept_offers_were_exported : KeptOffersWereExported
kept_offers_were_exported es rs legal = from_given (λ p t. None) first es rs first_given first_sound legal
