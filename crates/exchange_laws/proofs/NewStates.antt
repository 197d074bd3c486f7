-- A state without routes and tags, in which nobody was told anything, has no live tags and is sound.
use Rattle.std.proofs.Common.{◌≡◌, ℕ, zero, suc, false, List, [], ◌∷◌, length, map, sum_by, sym, ap, subst, ◌∙◌, refl, arith}
use Rattle.std.specs.Prelude.{Some, None, codes, is_some, slice_get, unwrap_or}
use Rattle.std.specs.FinMap.{FinMap, empty, get, get-empty, keys, same_map, values}
use Rattle.std.specs.List.{list_any}
use Rattle.std.proofs.lemmas.Bool.{false_from_ne_true, or_from}
use Rattle.std.proofs.lemmas.List.{length-map}
use Rattle.events.proofs.DropText.{drop_is_read}
use Rattle.events.specs.Sound.{IsSound, rule_count}
use Rattle.events.specs.State.{State, AreRead, ArePolicies, owner_of}
use Rattle.events.specs.Tags.{is_carried, is_live, is_live_pair, same_tag, tells}
use Rattle.events.specs.declared.Entry.{Entry}
use Rattle.exchange_laws.proofs.FreshTags.{carried_announced}
use Rattle.exchange_laws.proofs.LivePairs.{live_tag}
use Rattle.exchange_laws.proofs.Lists.{TableOf, clash}
use Rattle.exchange_laws.specs.Steady.{AllDrop, HavePassed, IsNew}
use Rattle.net_types.proofs.FindLemmas.{none_there, not_there}
use Rattle.net_types.proofs.OrderLemmas.{pairs_total}
use Rattle.net_types.proofs.TieLemmas.{pair_cmp-IsAntisymmetric}
use Rattle.net_types.proofs.ValueLemmas.{no_entries}
use Rattle.net_types.proofs.WidthTests.{any_found}
use Rattle.net_types.specs.Answers.{Policies, policy_of}
use Rattle.net_types.specs.Exports.{pid_of}
use Rattle.net_types.specs.Isolation.{in_faults, out_faults}
use Rattle.net_types.specs.Keys.{RouteKey, pair_cmp, pid_cmp, prefix_cmp, route_cmp}
use Rattle.net_types.specs.Maps.{ordered}
use Rattle.net_types.specs.Naming.{named_in}
use Rattle.net_types.specs.Policies.{Drop}
use Rattle.net_types.specs.Sets.{Member}
use Rattle.net_types.specs.declared.address.Pid.{Pid}
use Rattle.net_types.specs.declared.address.Tag.{Tag}
use Rattle.net_types.specs.declared.prefix.Prefix.{Prefix}
use Rattle.net_types.specs.declared.route.Attrs.{Attrs}
use Rattle.net_types.specs.declared.route.Participant.{Participant}
use Rattle.net_types.specs.declared.rule.Pair.{Pair}
use Rattle.net_types.specs.declared.rule.Rule.{Rule}

pub nothing_told : (t : Tag) → tells empty t ≡ false
nothing_told t = ap (λ es. list_any (λ (x : Entry). same_tag x.tag t) (map (λ (d : Prefix × Entry). d.1) es)) (no_entries Prefix Entry prefix_cmp)

no_tag : (t : Tag) → list_any (same_tag t) (values (empty {K = Prefix} {X = Tag} {R = prefix_cmp})) ≡ false
no_tag t = ap (λ es. list_any (same_tag t) (map (λ (d : Prefix × Tag). d.1) es)) (no_entries Prefix Tag prefix_cmp)

module _ (s : State) (new : IsNew s) where
  -- no tag is live
  pub no_live : (t : Tag) → is_live s t ≡ false
  no_live t = or_from (list_any (same_tag t) (values s.tag)) (list_any (λ es. tells es t) s.told) (ap (λ (m : FinMap prefix_cmp Tag). list_any (same_tag t) (values m)) new.tag ∙ no_tag t)
      (false_from_ne_true (list_any (λ es. tells es t) s.told) (λ any.
      let found = any_found (λ es. tells es t) s.told any in
      clash found.1.passes (ap (λ es. tells es t) (new.told found.0 found.1.stands) ∙ nothing_told t)))

  -- and no pair
  pub no_pair : (pair : Pair) → is_live_pair s pair ≡ false
  no_pair pair = false_from_ne_true (is_live_pair s pair) (λ live. clash (live_tag s pair live) (no_live pair.tag))

  -- there is no route
  pub no_route : (k : RouteKey) (a : Attrs) → get s.routing.routes k ≡ Some a → ⊥
  no_route k a has = not_there (get s.routing.routes k) a (ap (λ (m : FinMap route_cmp Attrs). get m k) new.routes ∙ get-empty route_cmp k) has

  no_prefix : (p : Prefix) → is_carried s.routing p ≡ false
  no_prefix p = false_from_ne_true (is_carried s.routing p) (λ is. none (keys s.routing.routes) (ap (λ (m : FinMap route_cmp Attrs). keys m) new.routes ∙ ap (map (λ (d : RouteKey × Attrs). d.0)) (no_entries RouteKey Attrs route_cmp)) (carried_announced s.routing p is))
    where
      none : (ks : List RouteKey) → ks ≡ [] → Member p (map (λ (k : RouteKey). k.prefix) ks) → ⊥
      none [] e m = m
      none (k ∷ ks) e m = cc

  no_tagged : (p : Prefix) → get s.tag p ≡ None
  no_tagged p = ap (λ (m : FinMap prefix_cmp Tag). get m p) new.tag ∙ get-empty prefix_cmp p

-- ---- policies that drop

dropped_read : (ms : List Participant) → AreRead (map (λ m. codes "drop") ms) (map (λ m. Drop) ms)
dropped_read [] = tt
dropped_read (m ∷ ms) = (drop_is_read, dropped_read ms)

pub drop_policies : (s : State) → AllDrop s → (ps : Policies) × ArePolicies s ps
drop_policies s drop = (
  record { named = pid_of s.routing; outbound = map (λ m. Drop) s.routing.participants; inbound = map (λ m. Drop) s.routing.participants },
  record {
    names = refl;
    outbound = subst (λ texts. AreRead texts (map (λ m. Drop) s.routing.participants)) (sym drop.outbound) (dropped_read s.routing.participants);
    inbound = subst (λ texts. AreRead texts (map (λ m. Drop) s.routing.participants)) (sym drop.inbound) (dropped_read s.routing.participants);
  },
)

-- each of them drops
each_drops : (ms : List Participant) (k : ℕ) → unwrap_or (slice_get (map (λ m. Drop) ms) k) Drop ≡ Drop
each_drops [] zero = refl
each_drops [] (suc k) = refl
each_drops (m ∷ ms) zero = refl
each_drops (m ∷ ms) (suc k) = each_drops ms k

-- and nobody is named
abbrev pub nobody : List Pid
nobody = []

names_nobody : (ms : List Participant) (k : ℕ) → unwrap_or (slice_get (map (λ m. nobody) ms) k) [] ≡ []
names_nobody [] zero = refl
names_nobody [] (suc k) = refl
names_nobody (m ∷ ms) zero = refl
names_nobody (m ∷ ms) (suc k) = names_nobody ms k

pub none_in_order : ordered pid_cmp [] ≡ []
none_in_order = ap (map (λ (e : Pid × Pid). e.0)) (no_entries Pid Pid pid_cmp)

-- policies that drop passed isolation
pub new_passed : (s : State) → AllDrop s → HavePassed s
unfolding drop_policies
new_passed s drop =
    let policies = drop_policies s drop in
    let ps : Policies = policies.0 in
    let drops : (who : Pid) → policy_of (map (λ m. Drop) s.routing.participants) who ≡ Drop = λ who. each_drops s.routing.participants who.0 in record {
      policies = ps;
      read = policies.1;
      passed = record {
        outbound = λ who. ap (out_faults (pid_of s.routing) (owner_of s) who) (drops who);
        inbound = λ who. ap (in_faults (owner_of s) who) (drops who);
        named = λ who.
            ap (λ (names : List (List Pid)). unwrap_or (slice_get names who.0) []) drop.named
            ∙ names_nobody s.routing.participants who.0 ∙ sym none_in_order ∙ sym (ap (named_in (pid_of s.routing)) (drops who));
      };
      outbound = ap length drop.outbound ∙ length-map s.routing.participants (λ (m : Participant). codes "drop");
      inbound = ap length drop.inbound ∙ length-map s.routing.participants (λ (m : Participant). codes "drop");
      named = ap length drop.named ∙ length-map s.routing.participants (λ (m : Participant). nobody);
    }

-- ---- soundness

pub no_rules : (t : TableOf) → ((pair : Pair) → is_some (get t pair) ≡ false) → t ≡ empty
no_rules t none = same_map pairs_total pair_cmp-IsAntisymmetric t empty (λ pair. none_there (get t pair) (none pair) ∙ sym (get-empty pair_cmp pair))

pub new_sound : (s : State) → IsNew s → ((pair : Pair) → is_some (get s.table pair) ≡ false) → IsSound s
new_sound s new none =
    let policies = drop_policies s new.drop in record {
      pairs = λ pair. none pair ∙ sym (no_pair s new pair);
      right = (policies.0, policies.1, λ pair rules e. absurd (not_there (get s.table pair) rules (none_there (get s.table pair) (none pair)) e));
      few =
          let count : rule_count s ≡ 0 =
          ap (λ (t : TableOf). sum_by (λ (rules : List Rule). length rules) (values t)) (no_rules s.table none)
          ∙ ap (λ (es : List (Pair × List Rule)). sum_by (λ (rules : List Rule). length rules) (map (λ e. e.1) es)) (no_entries Pair (List Rule) pair_cmp) in
          omega arith;
      tagged = λ p. ap is_some (no_tagged s new p) ∙ sym (no_prefix s new p);
      kept = λ p t e. absurd (not_there (get s.tag p) t (no_tagged s new p) e);
    }
