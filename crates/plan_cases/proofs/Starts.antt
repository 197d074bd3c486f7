-- Where nobody announced anything, the parts show a state on which lines build.
use Rattle.std.proofs.Common.{◌≡◌, ℕ, zero, suc, ◌+◌, ◌<◌, ◌≤◌, Bool, true, false, cond, not, List, [], ◌∷◌, ◌++◌, length, map, filter, replicate, take, sym, ap, subst, ◌∙◌, refl, arith, inl, inr}
use Rattle.std.specs.Prelude.{Option, Some, None, IfSome, codes, is_some, slice_get, nat_lt, nat_le, ◌&&◌, ◌||◌}
use Rattle.std.specs.FinMap.{FinMap, empty, get, get-empty, keys}
use Rattle.std.proofs.lemmas.Bool.{lt-leb}
use Rattle.std.proofs.lemmas.List.{length-append, length-map, length-replicate}
use Rattle.block_build.specs.Installed.{Installed}
use Rattle.events.specs.Fits.{none_rebuilt}
use Rattle.events.specs.Sound.{IsSound}
use Rattle.events.specs.State.{State, first, present, present_entry}
use Rattle.events.specs.Tags as events
use Rattle.events.specs.declared.Entry.{Entry}
use Rattle.exchange_laws.proofs.Counted.{how_many}
use Rattle.exchange_laws.proofs.Lists.{TableOf, clash}
use Rattle.exchange_laws.proofs.NewStates.{new_sound, no_live, no_route}
use Rattle.exchange_laws.proofs.OwnHops.{stay_apart}
use Rattle.net_types.specs.Octets.{same_octets}
use Rattle.exchange_laws.proofs.RulesAfter.{sound_tagged}
use Rattle.exchange_laws.proofs.TidySteps.{none_whole}
use Rattle.exchange_laws.specs.Editing.{IsBase}
use Rattle.exchange_laws.specs.Steady.{IsNew}
use Rattle.fast_path.specs.Offers.{all_present}
use Rattle.net_types.proofs.SetLemmas.{Member-append_cases}
use Rattle.net_types.proofs.ValueLemmas.{no_entries}
use Rattle.net_types.specs.Keys.{RouteKey, pair_cmp, prefix_cmp, route_cmp, tag_cmp}
use Rattle.net_types.specs.Maps.{tabulate}
use Rattle.net_types.specs.Routes.{announced, numbers, pids}
use Rattle.net_types.specs.Sets.{Member}
use Rattle.net_types.specs.declared.address.Ip.{Ip}
use Rattle.net_types.specs.declared.address.Pid.{Pid}
use Rattle.net_types.specs.declared.address.Tag.{Tag}
use Rattle.net_types.specs.declared.prefix.Prefix.{Prefix}
use Rattle.net_types.specs.declared.route.Attrs.{Attrs}
use Rattle.net_types.specs.declared.route.Part.{Part}
use Rattle.net_types.specs.declared.route.Participant.{Participant}
use Rattle.net_types.specs.declared.route.PortInfo.{PortInfo}
use Rattle.next_hop_pool.proofs.FreeLemmas.{free_by_place, free_from}
use Rattle.next_hop_pool.specs.Free.{Tags, all_free, tag}
use Rattle.prefix_classes.specs.Classes.{Classes}
use Rattle.registry.specs.Registered.{Registered, is_taken, with_participant, with_port}
use Rattle.route_server.specs.Served.{Served, owns, routing}
use Rattle.plan_cases.specs.Parts.{AreDeclared, IsKept, state_of}
use Rattle.plan_cases.specs.Policies.{dropping, inbound_texts, outbound_texts}
use Rattle.plan_cases.specs.declared.policies.Texts.{Texts}

-- ---- what is declared

pub none_declared : AreDeclared (record { participants = []; ports = [] })
none_declared = record {
  owners = λ q m. absurd m;
  apart = record { numbers = λ i j p q e f same. absurd (no_place i p e); addresses = λ i j p q e f same. absurd (no_place i p e) };
  numbered = λ q m. absurd m;
}
  where
    no_place : (k : ℕ) (x : PortInfo) → slice_get [] k ≡ Some x → ⊥
    no_place zero x e = cc
    no_place (suc k) x e = cc

pub participant_declared : (names : Registered) (m : Participant) → AreDeclared names → AreDeclared (with_participant names m)
participant_declared names m are = record {
  owners = λ q stands. let below : q.owner.0 < length names.participants = are.owners q stands in
      let more : length (names.participants ++ m ∷ []) ≡ length names.participants + 1 = length-append names.participants (m ∷ []) in omega (arith, below, more);
  apart = are.apart;
  numbered = are.numbered;
}

-- no address is in a pool of nothing
no_pool : (n : ℕ) → (nat_lt 0 n && nat_le n 0) ≡ false
no_pool zero = refl
no_pool (suc n) = ap (λ b. nat_lt 0 (suc n) && b) (lt-leb (suc n) 0 (omega arith)) ∙ neither (nat_lt 0 (suc n))
  where
    neither : (b : Bool) → (b && false) ≡ false
    neither true = refl
    neither false = refl

pub port_declared : (names : Registered) (q : PortInfo) → is_taken names q.number q.ip q.mac ≡ false → same_octets (take 3 q.mac.0) (2 ∷ 83 ∷ 68 ∷ []) ≡ false → q.owner.0 < length names.participants → (1 ≤ q.number.0) × (q.number.0 ≤ 65279)
    → AreDeclared names → AreDeclared (with_port names q)
port_declared names q free own declared number are = record {
  owners = λ x stands. elim (Member-append_cases names.ports (q ∷ []) x stands) [
    | inl there ↦ are.owners x there
    | inr last ↦ elim last [ inl same ↦ subst (λ (y : PortInfo). y.owner.0 < length names.participants) (sym same) declared | inr none ↦ absurd none ]
  ];
  apart = stay_apart (record first { routing = record first.routing { ports = names.ports } }) q (λ i. (free i || no_pool q.ip.0 i) || own i) are.apart;
  numbered = λ x stands. elim (Member-append_cases names.ports (q ∷ []) x stands) [
    | inl there ↦ are.numbered x there
    | inr last ↦ elim last [ inl same ↦ subst (λ (y : PortInfo). (1 ≤ y.number.0) × (y.number.0 ≤ 65279)) (sym same) number | inr none ↦ absurd none ]
  ];
}

-- ---- nothing is present

no_announced : (s : State) → s.routing.routes ≡ empty → announced s.routing ≡ []
no_announced s none =
    ap (λ m. map (λ (k : RouteKey). k.prefix) (keys m)) none
    ∙ ap (λ (es : List (RouteKey × Attrs)). map (λ (k : RouteKey). k.prefix) (map (λ (e : RouteKey × Attrs). e.0) es)) (no_entries RouteKey Attrs route_cmp)

nothing_present : (s : State) (who : Pid) → s.routing.routes ≡ empty → present s who ≡ empty
nothing_present s who none = ap (λ (ps : List Prefix). tabulate prefix_cmp ps (present_entry s who)) (no_announced s none)

all_alike : {A B : Type 0} (f : A → B) (y : B) → ((x : A) → f x ≡ y) → (xs : List A) → map f xs ≡ replicate (length xs) y
all_alike f y same [] = refl
all_alike f y same (x ∷ xs) = λ i. same x i ∷ all_alike f y same xs i

all_nothing : (s : State) → s.routing.routes ≡ empty → all_present s ≡ replicate (length s.routing.participants) empty
all_nothing s none =
    all_alike (present s) empty (λ who. nothing_present s who none) (pids s.routing) ∙ ap (λ n. replicate n empty) (how_many (λ n. record { 0 = n }) 0 (length s.routing.participants))

only_one : {A : Type 0} (n : ℕ) (x y : A) → Member x (replicate n y) → x ≡ y
only_one zero x y m = absurd m
only_one (suc n) x y (inl is) = is
only_one (suc n) x y (inr m) = only_one n x y m

-- ---- all tags are free

all_pass : (f : Tag → Bool) → ((t : Tag) → f t ≡ false) → (ts : List Tag) → filter (λ t. not (f t)) ts ≡ ts
all_pass f none [] = refl
all_pass f none (t ∷ ts) = ap (λ b. cond (not b) (t ∷ filter (λ u. not (f u)) ts) (filter (λ u. not (f u)) ts)) (none t) ∙ ap (λ us. t ∷ us) (all_pass f none ts)

free_new : (n size : ℕ) → free_from n (replicate size false) ≡ map tag (numbers n size)
free_new n zero = refl
free_new n (suc size) = ap (λ ts. tag n ∷ ts) (free_new (n + 1) size)

not_kept : {X : Type 0} (o : Option X) → o ≡ None → is_some o ≡ true → ⊥
not_kept None e f = cc
not_kept (Some x) e f = cc

-- all texts drop

all_outbound : (ms : List Participant) → outbound_texts (map (λ m. dropping) ms) ≡ map (λ m. codes "drop") ms
all_outbound [] = refl
all_outbound (m ∷ ms) = ap (λ texts. codes "drop" ∷ texts) (all_outbound ms)

all_inbound : (ms : List Participant) → inbound_texts (map (λ m. dropping) ms) ≡ map (λ m. codes "drop") ms
all_inbound [] = refl
all_inbound (m ∷ ms) = ap (λ texts. codes "drop" ∷ texts) (all_inbound ms)

-- ---- the start

module _ (names : Registered) (served : Served) (classes : Classes) (base : Ip) (size : ℕ) (told : List (FinMap prefix_cmp Entry)) (installed : Installed) (texts : List Texts) (declared : AreDeclared names) (drop : texts ≡ map (λ m. dropping) names.participants)
    (routes : served.routes ≡ empty) (named : served.named ≡ replicate (length names.participants) []) (tag_none : classes.tag ≡ empty) (kept_none : classes.kept ≡ empty)
    (told_none : told ≡ replicate (length names.participants) empty) (table : installed.table ≡ empty) (small : size ≤ 65536) (low : 16777215 ≤ base.0) (high : base.0 + size ≤ 3758096383) (room : installed.capacity ≤ 1000000) where
  abbrev start : State
  start = state_of names served classes (all_free base size) told installed texts

  long : (n : ℕ) → length (replicate n false) ≡ n
  long zero = refl
  long (suc n) = ap suc (long n)

  outbound : start.outbound ≡ map (λ m. codes "drop") names.participants
  outbound = ap outbound_texts drop ∙ all_outbound names.participants

  inbound : start.inbound ≡ map (λ m. codes "drop") names.participants
  inbound = ap inbound_texts drop ∙ all_inbound names.participants

  new : IsNew start
  new = record {
    routes = routes;
    tag = tag_none;
    kept = kept_none;
    told = λ entries m. only_one (length names.participants) entries empty (subst (Member entries) told_none m);
    drop = record { outbound = outbound; inbound = inbound; named = named ∙ sym (all_alike (λ m. []) [] (λ m. refl) names.participants) };
  }

  sound : IsSound start
  sound = new_sound start new (λ pair. ap (λ (t : TableOf). is_some (get t pair)) table ∙ ap is_some (get-empty pair_cmp pair))

  start_base : IsBase start none_rebuilt
  start_base = record {
    tagged = sound_tagged start sound;
    right = record { policies = sound.right.0; read = sound.right.1; right = λ pair rules kept has. sound.right.2 pair rules has };
    few = sound.few;
    pooled = λ t live. absurd (clash live (no_live start new t));
    kept = λ t there. absurd (not_kept (get start.kept t) (ap (λ (m : FinMap tag_cmp (List Part)). get m t) kept_none ∙ get-empty tag_cmp t) there);
    live = λ t live. absurd (clash live (no_live start new t));
    whole = none_whole start kept_none;
    owners = declared.owners;
    routed = λ who p a e. absurd (no_route start new (record { from = who; prefix = p }) a e);
    hops = λ who p a e. absurd (no_route start new (record { from = who; prefix = p }) a e);
    told = ap length told_none ∙ length-replicate (length names.participants) _;
    outbound = ap length outbound ∙ length-map names.participants _;
    inbound = ap length inbound ∙ length-map names.participants _;
    named = ap length named ∙ length-replicate (length names.participants) _;
    apart = declared.apart;
    numbered = declared.numbered;
    idle = refl;
    sized = record {
      start = λ e. absurd (cc);
      small = subst (λ n. n ≤ 65536) (sym (long size)) small;
      low = λ later. low;
      high = subst (λ n. base.0 + n ≤ 3758096383) (sym (long size)) high;
      room = room;
    };
  }

  pub start_kept : (pool : Tags) → pool ≡ all_free base size → (presents : List (FinMap prefix_cmp Entry)) → presents ≡ replicate (length names.participants) empty → IsKept (state_of names served classes pool told installed texts) pool presents
  start_kept pool is presents nothing = subst (λ (p : Tags). IsKept (state_of names served classes p told installed texts) p presents) (sym is) (record {
    base = start_base;
    owned = record { owned = λ k. subst (λ o. IfSome o (λ (x : Attrs). (k.from.0 < length names.participants) × (owns (routing names served) k.from x.next_hop ≡ true))) (sym (ap (λ (m : FinMap route_cmp Attrs). get m k) routes ∙ get-empty route_cmp k)) tt };
    free = all_pass (events.is_live start) (no_live start new) (map tag (numbers 1 (length (replicate size false)))) ∙ ap (λ n. map tag (numbers 1 n)) (long size) ∙ sym (free_new 1 size) ∙ sym (free_by_place (replicate size false));
    present = nothing ∙ sym (all_nothing start routes);
  })
