-- Where the routes change, each added pair is a port with a fresh tag.
use Rattle.std.proofs.Common.{◌≡◌, ℕ, ◌+◌, ◌*◌, ◌≤◌, Bool, true, false, ◌||◌, not, List, [], ◌∷◌, length, map, sym, ap, subst, ◌∙◌, refl, arith}
use Rattle.std.specs.Prelude.{Option, Some, None, is_none, is_some}
use Rattle.std.specs.FinMap.{get, keys}
use Rattle.std.proofs.Math.Nat.{suc-mul}
use Rattle.std.proofs.lemmas.Bool.{and_parts, false_from_ne_true, or_right}
use Rattle.std.proofs.lemmas.List.{length-append, length-map}
use Rattle.events.specs.Fits.{IsAnswer, IsBuilt, added, bare, dropped, none_rebuilt, tag_changes}
use Rattle.events.specs.State.{State}
use Rattle.events.specs.Tags.{is_live_pair, retagged}
use Rattle.events.specs.declared.Event.{Event}
use Rattle.events.specs.declared.Event.TheVariants.{Bad, Exchange, Participant as DeclaresParticipant, Port as DeclaresPort, Update, Down, Export, Outbound, Inbound, Take, Drain, Arp, Resolve, Packet, Frame, Recompile, Work, Table}
use Rattle.events.specs.declared.Head.TheVariants.{Fine}
use Rattle.events.specs.declared.Reply.{Reply}
use Rattle.exchange_laws.proofs.Lists.{clash, key_Member}
use Rattle.exchange_laws.specs.Editing.{IsEdit}
use Rattle.exchange_laws.specs.Listed.{is_pair_before}
use Rattle.exchange_laws.specs.Rerouting.{is_rerouting}
use Rattle.exchange_laws.specs.Rules.{is_new}
use Rattle.fast_path.proofs.CommittedReplies.{change}
use Rattle.fast_path.proofs.NewPairs.{made, new_pairs_all}
use Rattle.fast_path.proofs.PortsAndTags.{port_listed}
use Rattle.fast_path.specs.LiveOnly.{registered}
use Rattle.fast_path.specs.Pairs.{class_pairs, pair_at, sender_pairs}
use Rattle.fast_path.specs.declared.planned.Class.{Class}
use Rattle.job_upkeep.specs.Upkeep.{AddedAreFew}
use Rattle.net_types.proofs.OrderLemmas.{pairs_total}
use Rattle.net_types.proofs.RisingLemmas.{Member-filter, before_itself, filter-Member, rising_once}
use Rattle.net_types.proofs.SetLemmas.{Member-map, Member-union, map-Member, union-Member}
use Rattle.net_types.proofs.WidthLemmas.{no_longer}
use Rattle.net_types.specs.Exports.{Routing}
use Rattle.net_types.specs.Keys.{pair_cmp}
use Rattle.net_types.specs.Sets.{IsRising, Member, union_over}
use Rattle.net_types.specs.declared.route.PortInfo.{PortInfo}
use Rattle.net_types.specs.declared.rule.Pair.{Pair}
use Rattle.registry.specs.Registered.{ports_of}
use Rattle.net_types.proofs.TieLemmas.{pair_tie}

rerouting_built : (s s1 : State) (e : Event) (r : Reply) → is_rerouting e ≡ true → IsAnswer s e r s1 → IsBuilt s s1 none_rebuilt r
rerouting_built s s1 (Update name bytes) r rerouting is = is
rerouting_built s s1 (Down name) r rerouting is = is
rerouting_built s s1 (Export name text) r rerouting is = is
rerouting_built s s1 Bad r rerouting is = absurd is
rerouting_built s s1 (Exchange base size capacity) r rerouting is = absurd (cc)
rerouting_built s s1 (DeclaresParticipant name asn id) r rerouting is = absurd (cc)
rerouting_built s s1 (DeclaresPort name number ip mac) r rerouting is = absurd (cc)
rerouting_built s s1 (Outbound name text) r rerouting is = absurd (cc)
rerouting_built s s1 (Inbound name text) r rerouting is = absurd (cc)
rerouting_built s s1 (Take name count) r rerouting is = absurd (cc)
rerouting_built s s1 (Drain name) r rerouting is = absurd (cc)
rerouting_built s s1 (Arp n bytes) r rerouting is = absurd (cc)
rerouting_built s s1 (Resolve n) r rerouting is = absurd (cc)
rerouting_built s s1 (Packet n bytes) r rerouting is = absurd (cc)
rerouting_built s s1 (Frame n bytes) r rerouting is = absurd (cc)
rerouting_built s s1 Recompile r rerouting is = absurd (cc)
rerouting_built s s1 (Work units) r rerouting is = absurd (cc)
rerouting_built s s1 Table r rerouting is = absurd (cc)

not_both : {X : Type 0} (o : Option X) → is_some o ≡ true → (is_none o || false) ≡ true → ⊥
not_both None there none = cc
not_both (Some x) there none = cc

module _ (s : State) (e : Event) (r : Routing) (is_rebuilt : Pair → Bool) (rerouting : is_rerouting e ≡ true) (edit : IsEdit s e s r is_rebuilt) (pairs : (pair : Pair) → is_some (get s.table pair) ≡ is_live_pair s pair) where
  -- the state with the tags and the old rules
  abbrev s1 : State
  s1 = record (retagged s r) { table = s.table }

  abbrev reply : Reply
  reply = record (bare Fine) { tags = tag_changes s.tag s1.tag; drops = dropped s s1 is_rebuilt; adds = added s s1 is_rebuilt }

  drops_same : dropped s s1 is_rebuilt ≡ dropped s s1 none_rebuilt
  drops_same = (rerouting_built s s1 e reply rerouting (edit.answers s.table reply (record { head = refl; tags = refl; drops = refl; adds = refl; adverts = refl; asks = refl; frames = refl }))).drops

  -- no live pair is built anew
  pub not_rebuilt : (pair : Pair) → is_live_pair s pair ≡ true → is_rebuilt pair ≡ false
  not_rebuilt pair live =
      let there : is_some (get s.table pair) ≡ true = pairs pair ∙ live in
      let goes : is_rebuilt pair ≡ true → Member pair (dropped s s1 is_rebuilt) = λ again.
      Member-filter (λ q. is_none (get s.table q) || is_rebuilt q) (keys s.table) pair (key_Member pair_cmp pairs_total pair_tie s.table pair there) (or_right (is_none (get s.table pair)) (is_rebuilt pair) again) in
      false_from_ne_true (is_rebuilt pair) (λ again.
      not_both (get s.table pair) there (filter-Member (λ q. is_none (get s.table q) || none_rebuilt q) (keys s.table) pair (subst (Member pair) drops_same (goes again))).passes)

-- the ports with the tag of a class
abbrev cells : List PortInfo → Class → List Pair
cells ports c = map (λ (q : PortInfo). pair_at c.tag q.number) ports

swap : (a b : ℕ) → a + b ≡ b + a
swap a b = omega arith

cells_count : (ports : List PortInfo) (cs : List Class) → length (union_over (cells ports) cs) ≡ length cs * length ports
cells_count ports [] = omega arith
cells_count ports (c ∷ cs) =
    length-append (cells ports c) (union_over (cells ports) cs)
    ∙ ap (λ n. n + length (union_over (cells ports) cs)) (length-map ports (λ (q : PortInfo). pair_at c.tag q.number))
    ∙ ap (λ n. length ports + n) (cells_count ports cs)
    ∙ swap (length ports) (length cs * length ports)
    ∙ sym (suc-mul (length cs) (length ports))

pub added_few : AddedAreFew
added_few s e r is_rebuilt plan steady rerouting edit is =
    let count = cells_count s.routing.ports plan.fresh.items in
    let few = no_longer plan.added (union_over (cells s.routing.ports) plan.fresh.items)
    (rising_once is_pair_before (before_itself pair_cmp pairs_total) plan.added (subst (λ ks. IsRising is_pair_before ks) (sym is.planned.added) is.planned.new.rising)) each in
    subst (λ n. length plan.added ≤ n) count few
  where
    one : (pair : Pair) → is_live_pair (retagged s r) pair ≡ true → is_live_pair s pair ≡ false → Member pair (union_over (cells s.routing.ports) plan.fresh.items)
    one pair live dead =
        let changes = change s r is_rebuilt plan is.base is.alike is.planned in
        let classes : List Class = made s r changes is.base.apart plan.tags in
        let of_class = union-Member (class_pairs (registered s)) classes pair (new_pairs_all s r changes is.base.apart plan.tags pair live dead) in
        let c : Class = of_class.of in
        let of_part = union-Member (sender_pairs (registered s) c.tag) c.sig pair of_class.gives in
        let image = map-Member (pair_at c.tag) (ports_of (registered s) of_part.of.sender) pair of_part.gives in
        let port = port_listed s of_part.of.sender image.of image.stands in
        Member-union (cells s.routing.ports) plan.fresh.items c pair (subst (Member c) (sym is.planned.fresh) of_class.stands)
        (subst (λ q. Member q (cells s.routing.ports c)) (sym (image.is ∙ ap (pair_at c.tag) port.number)) (Member-map (λ (q : PortInfo). pair_at c.tag q.number) s.routing.ports port.port port.stands))

    each : (pair : Pair) → Member pair plan.added → Member pair (union_over (cells s.routing.ports) plan.fresh.items)
    each pair m =
        let parts = and_parts (is_live_pair (retagged s r) pair) (is_new s is_rebuilt pair) (is.planned.new.each pair (subst (Member pair) is.planned.added m)) in
        one pair parts.0 (false_from_ne_true (is_live_pair s pair) (λ live.
        let again = not_rebuilt s e r is_rebuilt rerouting edit is.base.tagged.pairs pair live in
        clash parts.1 (λ i. not (live i) || again i)))
