-- What the parts show asks for a plan, and once that is committed they show again such a state.
use Rattle.std.proofs.Common.{◌≡◌, ℕ, ◌<◌, Bool, true, false, ◌+◌, cond, List, [], ◌∷◌, filter, length, map, sym, ap, subst, ◌∙◌, refl, ⊎_elim}
use Rattle.std.specs.Prelude.{Option, Some, None, Result, Ok, Err, IfOk, IfSome, MatchResult, is_some, slice_set}
use Rattle.std.specs.FinMap.{FinMap, contains_key-keys, get, keys}
use Rattle.std.specs.Option.{option_map}
use Rattle.std.specs.Ordering.{eq_by_cmp}
use Rattle.std.proofs.lemmas.Bool.{and_from, and_parts}
use Rattle.advert_queue.specs.Advertised.{Advertised}
use Rattle.block_build.specs.Installed.{Installed}
use Rattle.block_build.specs.Lent.{AreOf, Lent}
use Rattle.events.proofs.Reached.{set_length}
use Rattle.events.specs.After.{with_named}
use Rattle.events.specs.Fits.{is_receivers, is_senders, none_rebuilt}
use Rattle.events.specs.Sound.{IsSound}
use Rattle.events.specs.State.{State, IsRead}
use Rattle.events.specs.Tags.{capped, is_live_pair, more_units}
use Rattle.events.specs.declared.Entry.{Entry}
use Rattle.events.specs.declared.Phase.TheVariants.{Running, Start}
use Rattle.exchange_laws.proofs.OwnHops.{own_hop}
use Rattle.exchange_laws.proofs.RulesAfter.{sound_tagged, tables_stay_sound}
use Rattle.exchange_laws.proofs.TagsAfter.{kept_stay_live, live_stay_kept, tags_stay_pooled}
use Rattle.exchange_laws.proofs.TidySteps.{retagged_whole}
use Rattle.exchange_laws.specs.Editing.{IsBase, both, inbound_base, outbound_base}
use Rattle.exchange_laws.specs.Listed.{AreThose}
use Rattle.exchange_laws.specs.Rules.{IsDeclaredAlike}
use Rattle.exchange_laws.specs.Steady.{PortsAreNumbered, PortsDiffer}
use Rattle.fast_path.proofs.CommittedReplies.{change, is_table}
use Rattle.fast_path.specs.Carried.{ArePartsOf, IsPlanned, LeadsTo}
use Rattle.fast_path.specs.Committing.{marked_all, signed, tags_of}
use Rattle.fast_path.specs.Grouping.{kept_by, known_by}
use Rattle.fast_path.specs.Offers.{all_present}
use Rattle.fast_path.specs.Planned.{IsPoolOf}
use Rattle.fast_path.specs.Plans.{IsAsked, IsFault, IsPlan, is_rebuilt_live, planned}
use Rattle.fast_path.specs.declared.planned.FastFault.{FastFault}
use Rattle.fast_path.specs.declared.planned.Plan.{Plan}
use Rattle.net_types.proofs.OrderLemmas.{pairs_total}
use Rattle.net_types.proofs.OrderedLemmas.{member_any}
use Rattle.net_types.proofs.RisingLemmas.{Member-filter, before, filter-IsRising, filter-Member, keys-IsRising}
use Rattle.net_types.proofs.TieLemmas.{pair_cmp-IsAntisymmetric, same_from_tie}
use Rattle.net_types.specs.Exports.{Routing, named_by, pid_of, route}
use Rattle.net_types.specs.Keys.{RouteKey, pair_cmp, prefix_cmp}
use Rattle.net_types.specs.Policies.{Policy}
use Rattle.net_types.specs.Sets.{Member}
use Rattle.net_types.specs.declared.address.Pid.{Pid}
use Rattle.net_types.specs.declared.prefix.Prefix.{Prefix}
use Rattle.net_types.specs.declared.route.Attrs.{Attrs}
use Rattle.net_types.specs.declared.rule.Pair.{Pair}
use Rattle.next_hop_pool.specs.Free.{Tags}
use Rattle.prefix_classes.specs.Classes.{Classes}
use Rattle.registry.specs.Registered.{Registered}
use Rattle.route_server.specs.Proposed.{IsProposal, Proposed, named_with}
use Rattle.route_server.specs.Served as served
use Rattle.route_server.specs.Served.{AreOwned, Served, owns}
use Rattle.exchange_laws.proofs.Lists.{key_Member}
use Rattle.plan_cases.proofs.Bases.{received_base, sent_base}
use Rattle.plan_cases.proofs.Compiled.{lent_are_of, lent_length}
use Rattle.plan_cases.specs.Parts.{AreAsked, ArePlanned, Asks, IsKept, Reroutes, base_by, base_of, names_before, state_of}
use Rattle.plan_cases.specs.Policies.{AreCompiled, inbound_texts, lent_of, outbound_texts}
use Rattle.plan_cases.specs.declared.policies.Texts.{Texts}
use Rattle.plan_cases.specs.declared.programs.Programs.{Programs}
use Rattle.plan_cases.specs.declared.request.Request.{Request}

-- ---- whose routes there are

module _ (r : Routing) (are : AreOwned r) where
  -- a route's participant is declared, and owns the port of its next hop
  pub owned_route : (who : Pid) (p : Prefix) (a : Attrs) → route r who p ≡ Some a → (who.0 < length r.participants) × (owns r who a.next_hop ≡ true)
  owned_route who p a has = subst (λ o. IfSome o (λ (x : Attrs). (who.0 < length r.participants) × (owns r who x.next_hop ≡ true))) has (are.owned (record { from = who; prefix = p }))

-- each route is a declared participant's
pub routes_declared : (names : Registered) (server : Served) → AreOwned (served.routing names server) → served.AreDeclared names server.routes
routes_declared names server are = record { declared = λ k. by k (get server.routes k) refl }
  where
    by : (k : RouteKey) (o : Option Attrs) → get server.routes k ≡ o → IfSome o (λ _. k.from.0 < length names.participants)
    by k None e = tt
    by k (Some a) e = (owned_route (served.routing names server) are k.from k.prefix a e).0

-- ---- pairs that are built anew

tie : (x y : Pair) → eq_by_cmp pair_cmp x y ≡ true → x ≡ y
tie = same_from_tie pair_cmp pair_cmp-IsAntisymmetric

-- the pairs of the table that pass a test are the live ones that do, in order
pub those_live : (s : State) (test : Pair → Bool) → ((pair : Pair) → is_some (get s.table pair) ≡ is_live_pair s pair) → AreThose (is_rebuilt_live s test) (filter test (keys s.table))
those_live s test has = record {
  rising = filter-IsRising (before pair_cmp) test (keys s.table) (keys-IsRising pair_cmp s.table);
  each = λ pair m. let left = filter-Member test (keys s.table) pair m in
      and_from (is_live_pair s pair) (test pair) (sym (has pair) ∙ contains_key-keys s.table pair ∙ member_any pair_cmp pairs_total tie pair (keys s.table) left.stands) left.passes;
  all = λ pair e. let parts = and_parts (is_live_pair s pair) (test pair) e in Member-filter test (keys s.table) pair (key_Member pair_cmp pairs_total tie s.table pair (has pair ∙ parts.0)) parts.1;
}

none_pass : {A : Type 0} (test : A → Bool) (xs : List A) → ((x : A) → test x ≡ false) → filter test xs ≡ []
none_pass test [] none = refl
none_pass test (x ∷ xs) none = ap (λ b. cond b (x ∷ filter test xs) (filter test xs)) (none x) ∙ none_pass test xs none

-- where none are built anew, none are listed
pub none_live : (s : State) → ((pair : Pair) → is_some (get s.table pair) ≡ is_live_pair s pair) → AreThose (is_rebuilt_live s none_rebuilt) []
none_live s has = subst (AreThose (is_rebuilt_live s none_rebuilt)) (none_pass none_rebuilt (keys s.table) (λ pair. refl)) (those_live s none_rebuilt has)

-- ---- what is asked

module _ (names : Registered) (server : Served) (classes : Classes) (pool : Tags) (was_told : List (FinMap prefix_cmp Entry)) (installed : Installed) (texts : List Texts) where
  abbrev before_it : State
  before_it = state_of names server classes pool was_told installed texts

  pub asked_of : (presents : List (FinMap prefix_cmp Entry)) → IsKept before_it pool presents → (r : Routing) (is_rebuilt : Pair → Bool) (q : Request) → Asks before_it r is_rebuilt q
      → (programs : List Programs) → AreCompiled (pid_of before_it.routing) q.texts.items programs → (views : List Lent) → views ≡ map lent_of programs → (rebuild : List Pair) → rebuild ≡ q.rebuild.items
      → IsAsked (base_of before_it q) r is_rebuilt names classes pool was_told installed views q.proposal rebuild
  asked_of presents kept r is_rebuilt q asks programs compiled views lends rebuild rebuilds = record {
    shown = record { participants = refl; ports = refl; tag = refl; kept = refl; told = refl; free = kept.free };
    table = refl;
    capacity = refl;
    base = asks.base;
    alike = record { participants = asks.alike.participants; ports = asks.alike.ports };
    proposes = asks.proposes;
    lent = ap length lends ∙ lent_length (pid_of before_it.routing) q.texts.items programs compiled ∙ asks.base.outbound;
    views = λ ps policies. subst (AreOf ps) (sym lends) (lent_are_of (base_of before_it q) q.texts.items programs ps refl refl compiled policies);
    rebuilt = subst (AreThose (is_rebuilt_live (base_of before_it q) is_rebuilt)) (sym rebuilds) asks.rebuilt;
  }

-- ---- what is committed

module _ (s : State) (r : Routing) (is_rebuilt : Pair → Bool) (plan : Plan) (base : IsBase s is_rebuilt) (running : s.phase ≡ Running) (alike : IsDeclaredAlike s.routing r) (plans : IsPlan s r is_rebuilt plan) (are : AreOwned r)
    (named : length r.named ≡ length s.routing.named) where
  abbrev then : State
  then = planned s r plan

  sound : IsSound then
  sound = tables_stay_sound s r is_rebuilt then.table (change s r is_rebuilt plan base alike plans) base.right (is_table s r is_rebuilt plan base alike plans) plans.fits

  declared : length r.participants ≡ length s.routing.participants
  declared = ap length alike.participants

  apart : PortsDiffer r.ports
  apart = subst PortsDiffer (sym alike.ports) base.apart

  started : s.phase ≡ Start → ⊥
  started e = let never : Start ≡ Running = sym e ∙ running in cc

  -- lines build on it again
  pub next_base : IsBase then none_rebuilt
  next_base = record {
    tagged = sound_tagged then sound;
    right = record { policies = sound.right.0; read = sound.right.1; right = λ pair rules kept has. sound.right.2 pair rules has };
    few = sound.few;
    pooled = tags_stay_pooled s r base.pooled;
    kept = kept_stay_live s r base.pooled;
    live = live_stay_kept s r base.pooled base.live;
    whole = retagged_whole s r alike.participants base.pooled base.whole;
    owners = λ q m. subst (λ n. q.owner.0 < n) (sym declared) (base.owners q (subst (Member q) alike.ports m));
    routed = λ who p a has. (owned_route r are who p a has).0;
    hops = λ who p a has. own_hop then apart who a.next_hop (owned_route r are who p a has).1;
    told = base.told ∙ sym declared;
    outbound = base.outbound ∙ sym declared;
    inbound = base.inbound ∙ sym declared;
    named = named ∙ base.named ∙ sym declared;
    apart = apart;
    numbered = subst PortsAreNumbered (sym alike.ports) base.numbered;
    idle = ap (option_map (λ n. capped (n + more_units s r))) base.idle;
    sized = record { start = λ e. absurd (cc); small = base.sized.small; low = λ later. base.sized.low started; high = base.sized.high; room = base.sized.room };
  }

-- whom the policies name has as many places as before
named_length : (o : Option (Pid × List Pid)) (all : List (List Pid)) → length (named_with o all) ≡ length all
named_length None all = refl
named_length (Some (who, pids)) all = set_length all who.0 pids

before_length : (o : Option (Pid × List Pid)) (r : Routing) → length (names_before o r) ≡ length r.named
before_length None r = refl
before_length (Some (who, pids)) r = set_length r.named who.0 _

module _ (names : Registered) (server : Served) (classes : Classes) (pool : Tags) (was_told : List (FinMap prefix_cmp Entry)) (installed : Installed) (texts : List Texts) (presents : List (FinMap prefix_cmp Entry)) where
  abbrev s : State
  s = state_of names server classes pool was_told installed texts

  module _ (kept : IsKept s pool presents) (r : Routing) (is_rebuilt : Pair → Bool) (q : Request) (plan : Plan) (asks : Asks s r is_rebuilt q) (plans : IsPlan (base_of s q) r is_rebuilt plan) (same_named : plan.named ≡ q.proposal.named) where
    abbrev s0 : State
    s0 = base_of s q

    alike : IsDeclaredAlike s0.routing r
    alike = record { participants = asks.alike.participants; ports = asks.alike.ports }

    pub planned_of : IsPlanned s0 r is_rebuilt plan
    planned_of = record { base = asks.base; alike = alike; planned = plans }

    -- the parts have the state
    pub parts_of : (classes' : Classes) (installed' : Installed) (adverts : Advertised) → classes'.tag ≡ classes.tag → classes'.kept ≡ classes.kept → installed'.table ≡ installed.table → installed'.capacity ≡ installed.capacity
        → adverts.told ≡ was_told → adverts.present ≡ presents → ArePartsOf s0 plan classes' pool installed' adverts
    parts_of classes' installed' adverts tag keeps table capacity told present = record {
      tag = sym tag;
      kept = ap (kept_by q.proposal.named) (sym keeps) ∙ ap (λ o. (known_by o classes').kept) (sym same_named);
      pool = record { free = sym kept.free; size = refl; base = refl };
      table = sym table;
      capacity = sym capacity;
      told = sym told;
      present = sym kept.present ∙ sym present;
    }

    -- once the plan is committed
    module _ (server' : Served) (classes' : Classes) (pool' : Tags) (was_told' : List (FinMap prefix_cmp Entry)) (installed' : Installed) (presents' : List (FinMap prefix_cmp Entry))
        (routes : server'.routes ≡ r.routes) (rules : server'.rules ≡ r.rules) (names' : server'.named ≡ r.named) (c : Classes) (i : Installed) (a : Advertised) (to : LeadsTo (planned s0 r plan) plan c pool i a)
        (tag : classes'.tag ≡ (planned s0 r plan).tag) (keeps : classes'.kept ≡ (planned s0 r plan).kept) (marked : pool' ≡ marked_all (marked_all pool (tags_of (signed plan.fresh.items)) true) plan.dead.items false)
        (table : installed'.table ≡ (planned s0 r plan).table) (capacity : installed'.capacity ≡ installed.capacity) (told : was_told' ≡ was_told) (present : presents' ≡ all_present (planned s0 r plan)) where
      abbrev s' : State
      s' = state_of names server' classes' pool' was_told' installed' q.texts.items

      at_pool : IsPoolOf (planned s0 r plan) pool'
      at_pool = subst (IsPoolOf (planned s0 r plan)) (sym marked) to.pool

      same : s' ≡ planned s0 r plan
      same = λ j. record {
        phase = Running;
        base = at_pool.base j;
        size = at_pool.size j;
        capacity = capacity j;
        routing = record { participants = sym asks.alike.participants j; ports = sym asks.alike.ports j; rules = rules j; named = names' j; routes = routes j };
        outbound = outbound_texts q.texts.items;
        inbound = inbound_texts q.texts.items;
        tag = tag j;
        kept = keeps j;
        told = told j;
        resolved = [];
        table = table j;
        owed = None;
      }

      owned : AreOwned r
      owned = asks.proposes.owned (record { owned = kept.owned.owned })

      as_many : length r.named ≡ length s0.routing.named
      as_many = ap length (sym asks.named) ∙ named_length q.proposal.named s.routing.named ∙ sym (before_length q.proposal.named s.routing)

      pub then_kept : IsKept s' pool' presents'
      then_kept = subst (λ x. IsKept x pool' presents') (sym same) (record {
        base = next_base s0 r is_rebuilt plan asks.base refl alike plans owned as_many;
        owned = owned;
        free = sym at_pool.free;
        present = present;
      })

-- a plan that is made is for what is asked
pub planned_for : (s : State) (q : Request) (result : Result Plan FastFault) (r : Routing) (is_rebuilt : Pair → Bool) → Asks s r is_rebuilt q
    → MatchResult result (IsPlan (base_of s q) r is_rebuilt) (IsFault (base_of s q) r) → IfOk result (λ p. p.named ≡ q.proposal.named) → IfOk result (ArePlanned s q)
planned_for s q (Ok plan) r is_rebuilt asks plans named = (r, is_rebuilt, asks, plans, named)
planned_for s q (Err fault) r is_rebuilt asks plans named = tt

-- ---- what lines ask for

-- a proposal that touches nothing is one for the routes as they are
nothing_proposed : (r : Routing) (p : Proposed) → p ≡ record { changes = []; rules = None; named = None; touched = []; sigs = []; bests = [] } → IsProposal r r p
nothing_proposed r p is = subst (IsProposal r r) (sym is) (record {
  touched = record {
    each = λ q m. absurd (elim m [ ]);
    all = λ q differs. absurd (⊎_elim (λ other. other refl) (λ other. other.2 refl) differs);
    ascending = tt;
  };
  sigs = refl;
  bests = refl;
  routes = record { routes = λ k. refl };
  rules = refl;
  named = refl;
  owned = λ own. own;
})

-- a proposal for a routing of the same participants and ports
pub reroutes : (s : State) (r : Routing) (p : Proposed) → r.participants ≡ s.routing.participants → r.ports ≡ s.routing.ports → IsProposal s.routing r p → p.named ≡ None → Reroutes s p
reroutes s r p participants ports proposes unnamed = (r, record { participants = participants; ports = ports }, proposes, unnamed)

-- a change of the routes builds on the state itself, and builds no pair anew
pub rerouting_asks : (s : State) (q : Request) → IsBase s none_rebuilt → Reroutes s q.proposal → q.rebuild.items ≡ [] → outbound_texts q.texts.items ≡ s.outbound → inbound_texts q.texts.items ≡ s.inbound → AreAsked s q
rerouting_asks s q base (r, alike, proposes, unnamed) rebuilds outbound inbound =
    let is : base_of s q ≡ s = (λ i. base_by s (unnamed i) q.texts.items) ∙ (λ i. record s { outbound = outbound i; inbound = inbound i }) in (
      r,
      none_rebuilt,
      record {
        base = subst (λ x. IsBase x none_rebuilt) (sym is) base;
        alike = alike;
        proposes = subst (λ (x : State). IsProposal x.routing r q.proposal) (sym is) proposes;
        named = proposes.named;
        rebuilt = subst (λ x. AreThose (is_rebuilt_live x none_rebuilt) q.rebuild.items) (sym is) (subst (AreThose (is_rebuilt_live s none_rebuilt)) (sym rebuilds) (none_live s base.tagged.pairs));
      },
    )

-- another inbound policy leaves the routes, and builds the pairs anew in whose part the participant stands among the offers
pub receiving_asks : (s : State) (q : Request) (who : Pid) (text : List ℕ) (p : Policy) → IsBase s none_rebuilt → IsRead text p → q.proposal ≡ record { changes = []; rules = None; named = None; touched = []; sigs = []; bests = [] }
    → q.rebuild.items ≡ filter (is_receivers s who) (keys s.table) → outbound_texts q.texts.items ≡ s.outbound → inbound_texts q.texts.items ≡ slice_set s.inbound who.0 text → AreAsked s q
receiving_asks s q who text p base read proposes rebuilds outbound inbound =
    let on : State = inbound_base s who text in
    let unnamed : q.proposal.named ≡ None = ap (λ (x : Proposed). x.named) proposes in
    let is : base_of s q ≡ on = (λ i. base_by s (unnamed i) q.texts.items) ∙ (λ i. record s { outbound = outbound i; inbound = inbound i }) in
    let holds = received_base s base who text p read in (
      s.routing,
      is_receivers s who,
      record {
        base = subst (λ x. IsBase x (is_receivers s who)) (sym is) holds;
        alike = record { participants = refl; ports = refl };
        proposes = subst (λ (x : State). IsProposal x.routing s.routing q.proposal) (sym is) (nothing_proposed s.routing q.proposal proposes);
        named = ap (λ o. named_with o s.routing.named) unnamed;
        rebuilt = subst (λ x. AreThose (is_rebuilt_live x (is_receivers s who)) q.rebuild.items) (sym is)
            (subst (AreThose (is_rebuilt_live on (is_receivers s who))) (sym rebuilds) (those_live on (is_receivers s who) holds.tagged.pairs));
      },
    )

-- another outbound policy, which comes to name these, builds the pairs of the participant's ports anew
pub sending_asks : (s : State) (q : Request) (who : Pid) (text : List ℕ) (p : Policy) (named : List Pid) → IsBase s none_rebuilt → IsRead text p → q.proposal.named ≡ Some (who, named)
    → IsProposal (with_named s.routing who (both (named_by s.routing who) named)) (with_named s.routing who named) q.proposal
    → q.rebuild.items ≡ filter (is_senders s who) (keys s.table) → outbound_texts q.texts.items ≡ slice_set s.outbound who.0 text → inbound_texts q.texts.items ≡ s.inbound → AreAsked s q
sending_asks s q who text p named base read names proposes rebuilds outbound inbound =
    let on : State = outbound_base s who text named in
    let is : base_of s q ≡ on = (λ i. base_by s (names i) q.texts.items) ∙ (λ i. record (base_by s (Some (who, named)) q.texts.items) { outbound = outbound i; inbound = inbound i }) in
    let holds = sent_base s base who text p read named in (
      with_named s.routing who named,
      is_senders s who,
      record {
        base = subst (λ x. IsBase x (is_senders s who)) (sym is) holds;
        alike = record { participants = refl; ports = refl };
        proposes = subst (λ (x : State). IsProposal x.routing (with_named s.routing who named) q.proposal) (sym is) proposes;
        named = ap (λ o. named_with o s.routing.named) names;
        rebuilt = subst (λ x. AreThose (is_rebuilt_live x (is_senders s who)) q.rebuild.items) (sym is)
            (subst (AreThose (is_rebuilt_live on (is_senders s who))) (sym rebuilds) (those_live on (is_senders s who) holds.tagged.pairs));
      },
    )
