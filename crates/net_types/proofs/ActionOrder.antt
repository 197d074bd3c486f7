-- Actions in the order in which they are printed: a sorted list of them without repeats is the list in order.
use Rattle.std.proofs.Common.{◌≡◌, true, List, IsPermutation, ap, refl}
use Rattle.std.specs.Prelude.{Some, None}
use Rattle.std.specs.Cmp.{IsTotalOrder, nat_cmp_total}
use Rattle.std.specs.Cmp.Lexicographic.{options_total, pointwise, pointwise_decides}
use Rattle.std.specs.FinMap.{IsAntisymmetric, nat_cmp-IsAntisymmetric}
use Rattle.std.specs.List.{dedup}
use Rattle.std.specs.List.Sorted.{IsSorted}
use Rattle.std.specs.Option.{option_cmp}
use Rattle.std.specs.Ordering.{eq_by_cmp, nat_cmp, ordering_then}
use Rattle.std.specs.declared.cmp.Ordering.{Ordering}
use Rattle.std.proofs.lemmas.Cmp.{on_total, then_total}
use Rattle.net_types.proofs.EqualLemmas.{IsEqualityTest, from_itself}
use Rattle.net_types.proofs.OrderedLemmas.{ordered_same, ordered_rises, deduped_is}
use Rattle.net_types.proofs.RisingLemmas.{before}
use Rattle.net_types.proofs.TieLemmas.{same_from_tie, first_tie, second_tie, ip_cmp-IsAntisymmetric, ties_itself}
use Rattle.net_types.specs.Maps.{ordered}
use Rattle.net_types.specs.Sets.{IsRising, SameMembers}
use Rattle.net_types.specs.declared.headers.Assign.{Assign}
use Rattle.net_types.specs.declared.actions.Action.{Action}
use Rattle.net_types.specs.Actions.{action_cmp, assign_cmp}
use Rattle.net_types.specs.Keys.{ip_cmp}
use Rattle.net_types.proofs.OrderLemmas.{ips_total}

-- ---- the order of actions

assigns_total : IsTotalOrder assign_cmp
assigns_total =
    then_total (on_total (λ (a : Assign). a.src) (options_total ips_total))
    (then_total (on_total (λ (a : Assign). a.dst) (options_total ips_total))
    (then_total (on_total (λ (a : Assign). a.sport) (options_total nat_cmp_total)) (on_total (λ (a : Assign). a.dport) (options_total nat_cmp_total))))

pub actions_total : IsTotalOrder action_cmp
actions_total = then_total (on_total (λ (a : Action). a.port.0) nat_cmp_total) (on_total (λ (a : Action). a.set) assigns_total)

pub option_cmp-IsAntisymmetric : {K : Type 0} (R : K → K → Ordering) → IsAntisymmetric R → IsAntisymmetric (option_cmp R)
option_cmp-IsAntisymmetric R same None None e = refl
option_cmp-IsAntisymmetric R same None (Some y) e = cc
option_cmp-IsAntisymmetric R same (Some x) None e = cc
option_cmp-IsAntisymmetric R same (Some x) (Some y) e = ap Some (same x y e)

assign_cmp-IsAntisymmetric : IsAntisymmetric assign_cmp
assign_cmp-IsAntisymmetric a b e =
    let sports = option_cmp nat_cmp a.sport b.sport in
    let dports = option_cmp nat_cmp a.dport b.dport in
    let dsts = option_cmp ip_cmp a.dst b.dst in
    let srcs = option_cmp ip_cmp a.src b.src in
    let ports = ordering_then (option_cmp nat_cmp a.sport b.sport) (option_cmp nat_cmp a.dport b.dport) in
    let targets = ordering_then (option_cmp ip_cmp a.dst b.dst) (ordering_then (option_cmp nat_cmp a.sport b.sport) (option_cmp nat_cmp a.dport b.dport)) in
    let in_targets = second_tie srcs targets e in
    let in_ports = second_tie dsts ports in_targets in
    λ i. record {
      src = option_cmp-IsAntisymmetric ip_cmp ip_cmp-IsAntisymmetric a.src b.src (first_tie srcs targets e) i;
      dst = option_cmp-IsAntisymmetric ip_cmp ip_cmp-IsAntisymmetric a.dst b.dst (first_tie dsts ports in_targets) i;
      sport = option_cmp-IsAntisymmetric nat_cmp nat_cmp-IsAntisymmetric a.sport b.sport (first_tie sports dports in_ports) i;
      dport = option_cmp-IsAntisymmetric nat_cmp nat_cmp-IsAntisymmetric a.dport b.dport (second_tie sports dports in_ports) i;
    }

pub action_cmp-IsAntisymmetric : IsAntisymmetric action_cmp
action_cmp-IsAntisymmetric a b e = λ i. record {
  port = record { 0 = nat_cmp-IsAntisymmetric a.port.0 b.port.0 (first_tie (nat_cmp a.port.0 b.port.0) (assign_cmp a.set b.set) e) i };
  set = assign_cmp-IsAntisymmetric a.set b.set (second_tie (nat_cmp a.port.0 b.port.0) (assign_cmp a.set b.set) e) i;
}

-- the test of lists of actions decides whether they are equal
pub actions_test : IsEqualityTest (pointwise (eq_by_cmp action_cmp))
actions_test = pointwise_decides (from_itself (eq_by_cmp action_cmp) (same_from_tie action_cmp action_cmp-IsAntisymmetric) (ties_itself actions_total))

pub actions_tie : (a b : Action) → eq_by_cmp action_cmp a b ≡ true → a ≡ b
actions_tie = same_from_tie action_cmp action_cmp-IsAntisymmetric

pub actions_in_order : (xs ys : List Action) → IsPermutation xs ys → IsSorted action_cmp ys → dedup (eq_by_cmp action_cmp) ys ≡ ordered action_cmp xs
actions_in_order = deduped_is action_cmp actions_total actions_tie (eq_by_cmp action_cmp) (λ a b. refl)

pub ordered_actions : (xs : List Action) → SameMembers (ordered action_cmp xs) xs
ordered_actions = ordered_same action_cmp actions_total actions_tie

pub actions_rise : (xs : List Action) → IsRising (before action_cmp) (ordered action_cmp xs)
actions_rise = ordered_rises action_cmp actions_total actions_tie
