use Rattle.std.proofs.Common.{◌≡◌, sym, ap, subst, ◌∙◌, arith}
use Rattle.std.specs.Option.{option_map}
use Rattle.std.proofs.lemmas.Bool.{ltb-true, ltb-false}
use Rattle.net_types.specs.Routes.{first_of_list}
use Rattle.prefix_map.specs.Entries.{entries_of, node_entries, own, longest_entry, entry_or, seen_entry}
use Rattle.prefix_map.specs.Tries.{IsTrie, IsNode}
use Rattle.prefix_map.proofs.LongestLemmas.{or_best, best_below, longest_out, longest_low, longest_high, longest_bare_low, longest_bare_high}
use Rattle.prefix_map.proofs.trie.longest_in.Goals.{in-Some+else-not-covers, in_default}
use Rattle.prefix_map.proofs.trie.longest_in.Goals as goal

pub returns-then-not-covers : goal.returns-then-not-covers
returns-then-not-covers g c =
    let node = c.deref-node.result.now in
    let is : entries_of c.loop-here.here.now ≡ node_entries node = ap entries_of c.in-Fork.is ∙ ap node_entries (sym c.deref-node.ensures) in
    let kept : IsNode node = subst (λ n. IsNode n) (sym c.deref-node.ensures) (subst (λ t. IsTrie t) c.in-Fork.is c.loop-here.invariant.0) in
    let out = longest_out node.at node.held (entries_of node.low) (entries_of node.high) kept.0 kept.1 c.args.ip (omega arith) (sym c.covers-in-Some.ensures ∙ c.if-not-covers.true) in
    sym (c.loop-here.invariant.1 ∙ ap (λ o. or_best o (option_map seen_entry c.loop-here.best)) (ap (λ es. longest_entry es c.args.ip) is ∙ out))

pub loop-here-preserved-then-is_below : goal.loop-here-preserved-then-is_below
loop-here-preserved-then-is_below g c =
    let node = c.deref-node.result.now in
    let is : entries_of c.loop-here.here.now ≡ node_entries node = ap entries_of c.in-Fork.is ∙ ap node_entries (sym c.deref-node.ensures) in
    let kept : IsNode node = subst (λ n. IsNode n) (sym c.deref-node.ensures) (subst (λ t. IsTrie t) c.in-Fork.is c.loop-here.invariant.0) in
    let there = ltb-true _ _ (sym c.is_below.ensures ∙ c.if-is_below.true) in
    let low : longest_entry (node_entries node) c.args.ip ≡ entry_or (longest_entry (entries_of node.low) c.args.ip) node.at node.held =
    elim c.match-node.branch [
      | in-Some+else-not-covers w ↦ longest_low node.at node.held (entries_of node.low) (entries_of node.high) kept.0 kept.1 c.args.ip (omega arith) (sym w.covers-in-Some.ensures ∙ w.if-not-covers.false) there
      | in_default w ↦ longest_bare_low node.at node.held (entries_of node.low) (entries_of node.high) kept.0 kept.1 c.args.ip (omega arith) w.in_default.is there
    ] in
    let best : option_map seen_entry c.match-node.best ≡ or_best (first_of_list (own node.at node.held)) (option_map seen_entry c.loop-here.best) =
    elim c.match-node.branch [
      | in-Some+else-not-covers w ↦ ap (option_map seen_entry) w.best-is ∙ sym (ap (λ h. or_best (first_of_list (own node.at h)) (option_map seen_entry c.loop-here.best)) w.in-Some.is)
      | in_default w ↦ ap (option_map seen_entry) w.best-is ∙ sym (ap (λ h. or_best (first_of_list (own node.at h)) (option_map seen_entry c.loop-here.best)) w.in_default.is)
    ] in
    (kept.2, c.loop-here.invariant.1 ∙ ap (λ o. or_best o (option_map seen_entry c.loop-here.best)) (ap (λ es. longest_entry es c.args.ip) is ∙ low) ∙ best_below (longest_entry (entries_of node.low) c.args.ip) node.at node.held (option_map seen_entry c.loop-here.best) (option_map seen_entry c.match-node.best) best)

pub loop-here-preserved : goal.loop-here-preserved
loop-here-preserved g c =
    let node = c.deref-node.result.now in
    let is : entries_of c.loop-here.here.now ≡ node_entries node = ap entries_of c.in-Fork.is ∙ ap node_entries (sym c.deref-node.ensures) in
    let kept : IsNode node = subst (λ n. IsNode n) (sym c.deref-node.ensures) (subst (λ t. IsTrie t) c.in-Fork.is c.loop-here.invariant.0) in
    let there = ltb-false _ _ (sym c.is_below.ensures ∙ c.if-is_below.false) in
    let high : longest_entry (node_entries node) c.args.ip ≡ entry_or (longest_entry (entries_of node.high) c.args.ip) node.at node.held =
    elim c.match-node.branch [
      | in-Some+else-not-covers w ↦ longest_high node.at node.held (entries_of node.low) (entries_of node.high) kept.0 kept.1 c.args.ip (omega arith) (sym w.covers-in-Some.ensures ∙ w.if-not-covers.false) there
      | in_default w ↦ longest_bare_high node.at node.held (entries_of node.low) (entries_of node.high) kept.0 kept.1 c.args.ip (omega arith) w.in_default.is there
    ] in
    let best : option_map seen_entry c.match-node.best ≡ or_best (first_of_list (own node.at node.held)) (option_map seen_entry c.loop-here.best) =
    elim c.match-node.branch [
      | in-Some+else-not-covers w ↦ ap (option_map seen_entry) w.best-is ∙ sym (ap (λ h. or_best (first_of_list (own node.at h)) (option_map seen_entry c.loop-here.best)) w.in-Some.is)
      | in_default w ↦ ap (option_map seen_entry) w.best-is ∙ sym (ap (λ h. or_best (first_of_list (own node.at h)) (option_map seen_entry c.loop-here.best)) w.in_default.is)
    ] in
    (kept.3, c.loop-here.invariant.1 ∙ ap (λ o. or_best o (option_map seen_entry c.loop-here.best)) (ap (λ es. longest_entry es c.args.ip) is ∙ high) ∙ best_below (longest_entry (entries_of node.high) c.args.ip) node.at node.held (option_map seen_entry c.loop-here.best) (option_map seen_entry c.match-node.best) best)
