-- The pairs that a reply in a steady state drops, and the rules that it adds, have numbers of at most 63 digits, but for the
-- actions of the rules.
use Rattle.std.proofs.Common.{◌≡◌, ℕ, ◌^◌, ◌<◌, Bool, true, false, cond, List, [], ◌∷◌, inl, inr, map, refl, sym, ap, subst, ◌∙◌, arith}
use Rattle.std.specs.Prelude.{IfSome, Option, Some, None, MatchOption, filter, is_none, is_some, nat_lt, take, ◌||◌}
use Rattle.std.specs.FinMap.{entries, get, keys}
use Rattle.net_types.proofs.RisingLemmas.{filter-Member}
use Rattle.net_types.specs.Arp.{arp_reply, asked_ip, asker_ip, asker_mac}
use Rattle.net_types.specs.Exports.{pid_of}
use Rattle.net_types.specs.Routes.{longest_of}
use Rattle.net_types.specs.Sets.{Each, Member, union_over}
use Rattle.net_types.specs.declared.cube.Cube.{Cube}
use Rattle.net_types.specs.declared.address.Pid.{Pid}
use Rattle.net_types.specs.declared.prefix.Prefix.{Prefix}
use Rattle.net_types.specs.declared.route.PortInfo.{PortInfo}
use Rattle.net_types.specs.declared.rule.Pair.{Pair}
use Rattle.net_types.specs.declared.rule.Rule.{Rule}
use Rattle.events.specs.Fits.{IsAnswer, IsBuilt, IsFinished, IsSent, IsTagged, IsTaken, IsWorked, added, all_flows, asks_for, bare, by_table, dropped, flows_of, has_other_rules, is_receivers, is_senders, none_rebuilt, responder_reply}
use Rattle.net_types.specs.Frames.{destination}
use Rattle.events.specs.Pending.{pending}
use Rattle.events.specs.Resolving.{is_pool_request, is_resolved, pool_mac, tag_address, unresolved}
use Rattle.events.specs.Sound.{cubes_of}
use Rattle.events.specs.State.{State, port_of, told_to}
use Rattle.events.specs.Tags.{is_live_pair, live_pairs}
use Rattle.events.specs.declared.Entry.{Entry}
use Rattle.events.specs.declared.Event.{Event}
use Rattle.events.specs.declared.Event.TheVariants.{Bad, Exchange, Participant, Port, Update, Down, Export, Outbound, Inbound, Take, Drain, Arp, Resolve, Packet, Frame, Recompile, Work, Table}
use Rattle.events.specs.declared.Flow.{Flow}
use Rattle.events.specs.declared.Head.TheVariants.{Fine, Silent, Unresolved, Unrouted}
use Rattle.events.specs.declared.Reply.{Reply}
use Rattle.exchange_laws.proofs.Counted.{entry_at, live_Member, pairs_are_live}
use Rattle.exchange_laws.specs.Steady.{IsSteady}
use Rattle.job_laws.specs.Jobs.{without_job}
use Rattle.net_types.specs.Cubes.{IsInRange}
use Rattle.text_laws.specs.Naming.{IsOfNoPort}
use Rattle.text_laws.specs.Widths.{IsAction, IsCube, IsNumber, IsPair}
use Rattle.text_laws.proofs.Counts.{IsSmall, small_pair}
use Rattle.text_laws.proofs.LegalRules.{sound_free}
use Rattle.text_laws.proofs.Lines.{IsPlainFlow}
use Rattle.text_laws.proofs.Ranges.{cells_in_range}
use Rattle.net_types.proofs.MemberLemmas.{each_append, of_each}

-- ---- rules

-- a rule's cube can be written
pub record RuleFits (r : Rule) : Type 0 where
  pub cube : IsCube r.cube
  pub of_no_port : IsOfNoPort r.cube

-- and so can its pair
pub record FlowFits (f : Flow) : Type 0 where
  pub pair : IsPair f.pair
  pub rule : RuleFits f.rule

-- what a reply drops and adds can be written, but for the actions
pub record DetailsFit (r : Reply) : Type 0 where
  pub drops : Each IsPair r.drops
  pub adds : Each FlowFits r.adds

in_8 : (o : Option ℕ) → IfSome o (λ n. n < 2 ^ 8) → IfSome o IsNumber
in_8 None is = tt
in_8 (Some n) is = omega (arith, is)

in_16 : (o : Option ℕ) → IfSome o (λ n. n < 2 ^ 16) → IfSome o IsNumber
in_16 None is = tt
in_16 (Some n) is = omega (arith, is)

cube_fits : (c : Cube) → IsInRange c → IsCube c
cube_fits c is = record { proto = in_8 c.proto is.proto; sport = in_16 c.sport is.sport; dport = in_16 c.dport is.dport }

pair_fits : (pair : Pair) → IsSmall pair → IsPair pair
pair_fits pair is = record { port = let low = is.port in omega (arith, low); tag = let low = is.tag in omega (arith, low) }

both_fit : (rules : List Rule) → Each (λ (r : Rule). IsOfNoPort r.cube) rules → ((c : Cube) → Member c (cubes_of rules) → IsCube c) → Each RuleFits rules
both_fit [] frees cubes = tt
both_fit (r ∷ rules) frees cubes = (record { cube = cubes r.cube (inl refl); of_no_port = frees.0 }, both_fit rules frees.1 (λ c m. cubes c (inr m)))

flows_fit : (pair : Pair) (rules : List Rule) → IsPair pair → Each RuleFits rules → Each FlowFits (map (λ rule. let f : Flow = record { pair = pair; rule = rule } in f) rules)
flows_fit pair [] is each = tt
flows_fit pair (r ∷ rules) is each = (record { pair = is; rule = each.0 }, flows_fit pair rules is each.1)

union_fits : (es : List (Pair × List Rule)) → ((e : Pair × List Rule) → Member e es → IsPair e.0 × Each RuleFits e.1) → Each FlowFits (union_over flows_of es)
union_fits [] fits = tt
union_fits (e ∷ es) fits =
    let here = fits e (inl refl) in each_append FlowFits (flows_of e) (union_over flows_of es) (flows_fit e.0 e.1 here.0 here.1) (union_fits es (λ d m. fits d (inr m)))

module _ (s : State) (steady : IsSteady s) where
  listed_fits : (pair : Pair) → Member pair (live_pairs s) → IsPair pair
  listed_fits pair m = pair_fits pair (small_pair s steady.numbered steady.sized.small pair m)

  live_fits : (pair : Pair) → is_live_pair s pair ≡ true → IsPair pair
  live_fits pair live = listed_fits pair (live_Member s steady.pooled pair live)

  rules_fit : (pair : Pair) (rules : List Rule) → get s.table pair ≡ Some rules → Each RuleFits rules
  rules_fit pair rules there =
      let right = steady.sound.right in
      let known = right.2 pair rules there in
      both_fit rules (sound_free s steady.policies.policies steady.policies.read steady.policies.passed steady.sound pair rules there)
      (λ c m. cube_fits c (cells_in_range s right.0 right.1 pair.port known.0 c (known.2.meets c m)))

  entry_fits : (e : Pair × List Rule) → Member e (entries s.table) → IsPair e.0 × Each RuleFits e.1
  entry_fits e m =
      let there = entry_at s.table e m in
      (live_fits e.0 (sym (steady.sound.pairs e.0) ∙ ap is_some there), rules_fit e.0 e.1 there)

  -- the rules that lead to the state
  added_fit : (old : State) (is_rebuilt : Pair → Bool) → Each FlowFits (added old s is_rebuilt)
  added_fit old is_rebuilt =
      let test : Pair × List Rule → Bool = λ (e : Pair × List Rule). is_none (get old.table e.0) || is_rebuilt e.0 in
      union_fits (filter test (entries s.table)) (λ e m. entry_fits e (filter-Member test (entries s.table) e m).stands)

  all_fit : Each FlowFits (all_flows s)
  all_fit = union_fits (entries s.table) entry_fits

  -- the pairs that go from it
  dropped_fit : (new : State) (is_rebuilt : Pair → Bool) → Each IsPair (dropped s new is_rebuilt)
  dropped_fit new is_rebuilt =
      let test : Pair → Bool = λ (pair : Pair). is_none (get new.table pair) || is_rebuilt pair in
      of_each IsPair (filter test (keys s.table))
      (λ pair m. listed_fits pair (subst (λ ks. Member pair ks) (pairs_are_live s steady.sound steady.pooled) (filter-Member test (keys s.table) pair m).stands))

-- ---- replies

none_fit : DetailsFit (bare Fine)
none_fit = record { drops = tt; adds = tt }

like : (r x : Reply) → r ≡ x → DetailsFit x → DetailsFit r
like r x is fits = subst DetailsFit (sym is) fits

these : (r : Reply) (drops : List Pair) (adds : List Flow) → r.drops ≡ drops → r.adds ≡ adds → Each IsPair drops → Each FlowFits adds → DetailsFit r
these r drops adds is are one two = record { drops = subst (Each IsPair) (sym is) one; adds = subst (Each FlowFits) (sym are) two }

-- where something is known
pub where_known : {X G : Type 0} (o : Option X) (Q R : X → Type 0) → ((x : X) → Q x → R x → G) → MatchOption o ⊥ Q → MatchOption o ⊥ R → G
where_known None Q R then none also = absurd none
where_known (Some x) Q R then is also = then x is also

pub known : {X G : Type 0} (o : Option X) (Q : X → Type 0) → ((x : X) → Q x → G) → MatchOption o ⊥ Q → G
known None Q then none = absurd none
known (Some x) Q then is = then x is

responded : (s : State) (r : Reply) (frame : List ℕ) → r ≡ responder_reply s frame → DetailsFit r
responded s r frame is = by (is_pool_request s frame) (record (bare Fine) { asks = record { request = None; reply = arp_reply (asker_mac frame) (asker_ip frame) (asked_ip frame) (pool_mac s (asked_ip frame)) } ∷ [] }) (record { drops = tt; adds = tt }) is
  where
    by : (b : Bool) (x : Reply) → DetailsFit x → r ≡ cond b x (bare Silent) → DetailsFit r
    by true x fits is = like r x is fits
    by false x fits is = like r (bare Silent) is (record { drops = tt; adds = tt })

tagged : (b : Bool) (s : State) (q : PortInfo) (bytes : List ℕ) (p : Prefix) (told : Entry) (r : Reply) → IsTagged b s q bytes p told r → DetailsFit r
tagged true s q bytes p told r is = like r _ is.by_table (record { drops = tt; adds = tt })
tagged false s q bytes p told r is = like r (bare (Unresolved (tag_address s told.tag))) is (record { drops = tt; adds = tt })

sent : (s : State) (q : PortInfo) (bytes : List ℕ) (r : Reply) (o : Option Prefix) → IsSent s q bytes r o → DetailsFit r
sent s q bytes r None is = like r (bare Unrouted) is (record { drops = tt; adds = tt })
sent s q bytes r (Some p) is =
    known (get (told_to s q.owner) p) (λ told. IsTagged (is_resolved s q.number (tag_address s told.tag)) s q bytes p told r) (λ told. tagged (is_resolved s q.number (tag_address s told.tag)) s q bytes p told r) is

worked : (b : Bool) (s s1 : State) (units owed : ℕ) (r : Reply) → (IsFinished s s1 r → DetailsFit r) → IsWorked b s s1 units owed r → DetailsFit r
worked true s s1 units owed r ends is = like r _ is (record { drops = tt; adds = tt })
worked false s s1 units owed r ends is = ends is

-- A job changes nothing of what is dropped and added, so the states are looked at without theirs.
module _ (s s1 : State) (here : IsSteady (without_job s)) (later : IsSteady (without_job s1)) (r : Reply) where
  builds : (is_rebuilt : Pair → Bool) → IsBuilt s s1 is_rebuilt r → DetailsFit r
  builds is_rebuilt is = these r (dropped s s1 is_rebuilt) (added s s1 is_rebuilt) is.drops is.adds (dropped_fit (without_job s) here s1 is_rebuilt) (added_fit (without_job s1) later s is_rebuilt)

  ends : IsFinished s s1 r → DetailsFit r
  ends is =
      these r (dropped s s1 (has_other_rules s s1)) (added s s1 (has_other_rules s s1)) is.drops is.adds (dropped_fit (without_job s) here s1 (has_other_rules s s1)) (added_fit (without_job s1) later s (has_other_rules s s1))

  takes : (who : Pid) (ps : List Prefix) → IsTaken s s1 who ps r → DetailsFit r
  takes who ps is = these r (dropped s s1 none_rebuilt) [] is.drops is.adds (dropped_fit (without_job s) here s1 none_rebuilt) tt

  pub details_fit : (e : Event) → IsAnswer s e r s1 → DetailsFit r
  details_fit Bad is = absurd is
  details_fit (Exchange base size capacity) is = like r (bare Fine) is none_fit
  details_fit (Participant name asn id) is = like r (bare Fine) is none_fit
  details_fit (Port name number ip mac) is = like r (bare Fine) is none_fit
  details_fit (Update name bytes) is = builds none_rebuilt is
  details_fit (Down name) is = builds none_rebuilt is
  details_fit (Export name text) is = builds none_rebuilt is
  details_fit (Outbound name text) is = known (pid_of s.routing name) (λ who. IsBuilt s s1 (is_senders s1 who) r) (λ who. builds (is_senders s1 who)) is
  details_fit (Inbound name text) is = known (pid_of s.routing name) (λ who. IsBuilt s s1 (is_receivers s1 who) r) (λ who. builds (is_receivers s1 who)) is
  details_fit (Take name count) is = known (pid_of s.routing name) (λ who. IsTaken s s1 who (take count (pending s who)) r) (λ who. takes who (take count (pending s who))) is
  details_fit (Drain name) is = known (pid_of s.routing name) (λ who. IsTaken s s1 who (pending s who) r) (λ who. takes who (pending s who)) is
  details_fit (Arp n bytes) is = responded s r bytes is
  details_fit (Resolve n) is = known (port_of s n) (λ q. r ≡ record (bare Fine) { asks = map (asks_for s q) (unresolved s q) }) (λ q e. like r _ e (record { drops = tt; adds = tt })) is
  details_fit (Frame n bytes) is = known (port_of s n) (λ q. r ≡ record (bare Fine) { frames = by_table s q bytes }) (λ q e. like r _ e (record { drops = tt; adds = tt })) is
  details_fit Table is = like r _ is (record { drops = tt; adds = all_fit (without_job s) here })
  details_fit Recompile is = like r _ is (record { drops = tt; adds = tt })
  details_fit (Work units) is = known s.owed (λ owed. IsWorked (nat_lt units owed) s s1 units owed r) (λ owed. worked (nat_lt units owed) s s1 units owed r ends) is
  details_fit (Packet n bytes) is =
      known (port_of s n) (λ q. IsSent s q bytes r (longest_of (keys (told_to s q.owner)) (destination bytes))) (λ q. sent s q bytes r (longest_of (keys (told_to s q.owner)) (destination bytes))) is

-- rules that can be written, with their actions
pub plain_flows : (fs : List Flow) → Each FlowFits fs → Each (λ (f : Flow). Each IsAction f.rule.actions) fs → Each IsPlainFlow fs
plain_flows [] fits actions = tt
plain_flows (f ∷ fs) fits actions =
    (record { widths = record { pair = fits.0.pair; rule = record { cube = fits.0.rule.cube; actions = actions.0 } }; of_no_port = fits.0.rule.of_no_port }, plain_flows fs fits.1 actions.1)
