-- A line that builds rules has a reply: right rules exist for each pair, and where they fit the table the line is accepted with
-- them, and is refused otherwise.
use Rattle.std.proofs.Common.{◌≡◌, ◌⊎◌, ℕ, ◌+◌, ◌≤◌, ◌<◌, ◌^◌, Bool, true, false, ◌||◌, nat_eq, not, List, [], ◌∷◌, length, map, sum_by, sym, ap, subst, ◌∙◌, refl, arith, inl, inr}
use Rattle.std.specs.Prelude.{Option, Some, None, is_some, unwrap_or}
use Rattle.std.specs.FinMap.{contains_key-keys, entries, get, keys, values}
use Rattle.std.specs.Option.{option_and_then, option_map_or}
use Rattle.std.proofs.lemmas.Bool.{cases_lt, eqb-true}
use Rattle.std.proofs.lemmas.List.Sums.{sum_by-cons}
use Rattle.std.proofs.lemmas.Option.{option_and_then_some}
use Rattle.events.specs.Fits.{Fits, added, bare, cells, dropped, tag_changes}
use Rattle.events.specs.Sound.{owners_part, part_of, rule_count}
use Rattle.events.specs.State.{State, ArePolicies, port_of}
use Rattle.events.specs.Tags.{is_live_pair, live_pairs, retagged}
use Rattle.events.specs.declared.Event.{Event}
use Rattle.events.specs.declared.Head.TheVariants.{Fine, Refused}
use Rattle.events.specs.declared.Refusal.TheVariants.{TableFull}
use Rattle.events.specs.declared.Reply.{Reply}
use Rattle.exchange_laws.proofs.Counted.{entry_at, live_Member, numbers_fit_cells}
use Rattle.exchange_laws.proofs.Edited.{edits_are_accepted}
use Rattle.exchange_laws.proofs.FullTables.{full_tables_are_refused}
use Rattle.exchange_laws.proofs.Lists.{TableOf, get_tabulated}
use Rattle.exchange_laws.proofs.LivePairs.{live_at}
use Rattle.exchange_laws.proofs.ReadPolicies.{policies_are_one}
use Rattle.exchange_laws.proofs.RulesAfter.{live_pairs_have_parts, rules_right, same_policies}
use Rattle.exchange_laws.proofs.TidySteps.{retagged_whole}
use Rattle.exchange_laws.proofs.TagsAfter.{tags_stay_pooled}
use Rattle.exchange_laws.specs.Editing.{IsBase, IsEdit}
use Rattle.exchange_laws.specs.Fitting.{AreWithinCells}
use Rattle.exchange_laws.specs.Replies.{HasNewRules}
use Rattle.exchange_laws.specs.Retagging.{TagsArePooled}
use Rattle.exchange_laws.specs.Rules.{IsChange, IsRightAt, IsTableAfter, is_new}
use Rattle.exchange_laws.specs.Whole.{KeptAreWhole}
use Rattle.net_types.proofs.FindLemmas.{find-IsFound}
use Rattle.net_types.proofs.OrderLemmas.{pairs_total}
use Rattle.net_types.proofs.OrderedLemmas.{member_any}
use Rattle.net_types.proofs.PassLemmas.{some_there}
use Rattle.net_types.proofs.RisingLemmas.{keys-IsRising}
use Rattle.net_types.proofs.TieLemmas.{pair_tie}
use Rattle.net_types.specs.Answers.{Policies, is_offered}
use Rattle.net_types.specs.Cells.{cell_atoms}
use Rattle.net_types.specs.Exports.{Routing}
use Rattle.net_types.specs.Keys.{pair_cmp}
use Rattle.net_types.specs.Maps.{tabulate}
use Rattle.net_types.specs.Meets.{meets}
use Rattle.net_types.specs.Sets.{Member}
use Rattle.net_types.specs.declared.route.Part.{Part}
use Rattle.net_types.specs.declared.route.PortInfo.{PortInfo}
use Rattle.net_types.specs.declared.rule.Pair.{Pair}
use Rattle.net_types.specs.declared.rule.Rule.{Rule}
use Rattle.rule_laws.proofs.RightRules.{right_rules_are_few, right_rules_are_some, right_rules_exist}

-- ---- how many rules a table has

-- the rules of entries are counted by their pairs
counted_in : (t : TableOf) (es : List (Pair × List Rule)) → ((e : Pair × List Rule) → Member e es → get t e.0 ≡ Some e.1)
    → sum_by (λ (rules : List Rule). length rules) (map (λ (e : Pair × List Rule). e.1) es) ≡ sum_by (λ pair. length (unwrap_or (get t pair) [])) (map (λ (e : Pair × List Rule). e.0) es)
counted_in t [] at = refl
counted_in t (e ∷ es) at =
    sum_by-cons (λ (rules : List Rule). length rules) e.1 (map (λ (d : Pair × List Rule). d.1) es)
    ∙ ap (λ n. length e.1 + n) (counted_in t es (λ d m. at d (inr m)))
    ∙ ap (λ o. length (unwrap_or o []) + sum_by (λ pair. length (unwrap_or (get t pair) [])) (map (λ (d : Pair × List Rule). d.0) es)) (sym (at e (inl refl)))
    ∙ sym (sum_by-cons (λ pair. length (unwrap_or (get t pair) [])) e.0 (map (λ (d : Pair × List Rule). d.0) es))

pub counted : (t : TableOf) → sum_by (λ (rules : List Rule). length rules) (values t) ≡ sum_by (λ pair. length (unwrap_or (get t pair) [])) (keys t)
counted t = counted_in t (entries t) (entry_at t)

-- a pair that isn't new was live
was_live : (live rebuilt : Bool) → (not live || rebuilt) ≡ false → live ≡ true
was_live true rebuilt e = refl
was_live false rebuilt e = cc

-- ---- the rules of each pair

-- what a pair has after a line: nothing where it isn't live, what it had where it isn't new, and right rules where it is
record IsMade (s0 s1 : State) (is_rebuilt : Pair → Bool) (ps : Policies) (pair : Pair) (o : Option (List Rule)) : Type 0 where
  there : is_some o ≡ is_live_pair s1 pair
  old : (rules : List Rule) → is_new s0 is_rebuilt pair ≡ false → o ≡ Some rules → get s0.table pair ≡ Some rules
  new : (rules : List Rule) → is_new s0 is_rebuilt pair ≡ true → o ≡ Some rules → IsRightAt ps s1 pair rules

module _ (s0 : State) (r : Routing) (is_rebuilt : Pair → Bool) (base : IsBase s0 is_rebuilt) (change : IsChange s0 r) where
  abbrev s1 : State
  s1 = retagged s0 r

  abbrev ps : Policies
  ps = base.right.policies

  are : ArePolicies s1 ps
  are = same_policies s0 s1 ps change.alike.participants refl refl base.right.read

  pooled : TagsArePooled s1
  pooled = tags_stay_pooled s0 r base.pooled

  -- the best of an owner's part is one of its offers
  best_offered : (pair : Pair) (part : Part) → owners_part s1 pair ≡ Some part → is_offered part.offers part.best ≡ true
  best_offered pair part is =
      let whole : KeptAreWhole s1 = retagged_whole s0 r change.alike.participants base.pooled base.whole in
      option_and_then_some (λ (q : PortInfo). option_and_then (λ sig. part_of sig q.owner) (get s1.kept pair.tag)) (port_of s1 pair.port) part is (λ q at is.
      option_and_then_some (λ sig. part_of sig q.owner) (get s1.kept pair.tag) part is (λ sig keeps is.
      (whole pair.tag sig keeps part (find-IsFound (λ (x : Part). nat_eq x.sender.0 q.owner.0) sig part is).stands).best))

  -- right rules of a live pair
  right_for : (pair : Pair) → is_live_pair s1 pair ≡ true → (rules : List Rule) × IsRightAt ps s1 pair rules
  right_for pair live =
      let part = some_there (owners_part s1 pair) (live_pairs_have_parts s0 r change pair live) in
      let rules = right_rules_exist ps part.0 pair.port (best_offered pair part.0 part.1) in
      (rules.0, (part.0, part.1, rules.1))

  made : (pair : Pair) → (o : Option (List Rule)) × IsMade s0 s1 is_rebuilt ps pair o
  made pair = by (is_live_pair s1 pair) (is_new s0 is_rebuilt pair) refl refl
    where
      by : (live new : Bool) → is_live_pair s1 pair ≡ live → is_new s0 is_rebuilt pair ≡ new → (o : Option (List Rule)) × IsMade s0 s1 is_rebuilt ps pair o
      by false new dead is = (None, record { there = sym dead; old = λ rules e f. absurd (cc); new = λ rules e f. absurd (cc) })
      by true true live is =
          let right = right_for pair live in
          (Some right.0, record { there = sym live; old = λ rules e f. absurd (cc); new = λ rules e f. subst (IsRightAt ps s1 pair) (let same : right.0 ≡ rules = cc in same) right.1 })
      by true false live is = (
        get s0.table pair,
        record { there = base.tagged.pairs pair ∙ was_live (is_live_pair s0 pair) (is_rebuilt pair) is ∙ sym live; old = λ rules e f. f; new = λ rules e f. absurd (cc) },
      )

  abbrev table : TableOf
  table = tabulate pair_cmp (live_pairs s1) (λ pair. (made pair).0)

  abbrev s2 : State
  s2 = record s1 { table = table }

  table_is : (pair : Pair) → get table pair ≡ (made pair).0
  table_is pair = get_tabulated pair_cmp pairs_total pair_tie (λ q. (made q).0) (live_pairs s1) (λ q there. live_Member s1 pooled q (sym (made q).1.there ∙ there)) pair

  table_after : IsTableAfter s0 s1 is_rebuilt table
  table_after = record {
    pairs = λ pair. ap is_some (table_is pair) ∙ (made pair).1.there;
    old = λ pair rules old has. (made pair).1.old rules old (sym (table_is pair) ∙ has);
    new = λ qs those pair rules new has. subst (λ x. IsRightAt x s1 pair rules) (policies_are_one are those) ((made pair).1.new rules new (sym (table_is pair) ∙ has));
  }

  -- ---- they are some

  -- the number of a live pair's port is small
  small_port : (pair : Pair) → is_live_pair s1 pair ≡ true → pair.port.0 < 2 ^ 16
  small_port pair live =
      let at = live_at s1 pair live in
      let q : PortInfo = at.0 in
      let found = find-IsFound (λ (x : PortInfo). nat_eq x.number.0 pair.port.0) s1.routing.ports q at.1.port in
      let high : q.number.0 ≤ 65279 = (base.numbered q (subst (Member q) change.alike.ports found.stands)).1 in
      let same : q.number.0 ≡ pair.port.0 = eqb-true q.number.0 pair.port.0 found.passes in
      omega (arith, high, same)

  new_rules : HasNewRules s0 is_rebuilt table
  new_rules pair new has =
      let right = table_after.new ps are pair [] new has in
      let live : is_live_pair s1 pair ≡ true = sym (table_after.pairs pair) ∙ ap is_some has in
      right_rules_are_some ps right.0 pair.port [] (small_port pair live) right.2 refl

  -- ---- they are few

  abbrev count : Pair → ℕ
  count pair = length (unwrap_or (get table pair) [])

  -- the rules of a pair are no more than its cells
  each_few : (pair : Pair) → Member pair (keys table) → (is_live_pair s1 pair ≡ true) × (count pair ≤ cells ps s1 pair)
  each_few pair m =
      let there : is_some (get table pair) ≡ true = contains_key-keys table pair ∙ member_any pair_cmp pairs_total pair_tie pair (keys table) m in
      let rules = some_there (get table pair) there in
      let right = rules_right s0 r change is_rebuilt base.right table table_after pair rules.0 rules.1 in
      let few : length rules.0 ≤ length (meets (cell_atoms ps pair.port right.0)) = right_rules_are_few ps right.0 pair.port rules.0 right.2 in
      let counts : count pair ≡ length rules.0 = ap (λ o. length (unwrap_or o [])) rules.1 in
      let cells_are : cells ps s1 pair ≡ length (meets (cell_atoms ps pair.port right.0)) = ap (λ o. option_map_or (λ (part : Part). length (meets (cell_atoms ps pair.port part))) o 0) right.1 in
      (sym (table_after.pairs pair) ∙ there, omega (arith, few, counts, cells_are))

  within : AreWithinCells s1 (rule_count s2)
  within qs those =
      let few : sum_by count (keys table) ≤ sum_by (cells ps s1) (live_pairs s1) = numbers_fit_cells s1 ps (keys table) count pooled (keys-IsRising pair_cmp table) each_few in
      subst (λ x. rule_count s2 ≤ sum_by (cells x s1) (live_pairs s1)) (policies_are_one are those) (subst (λ n. n ≤ sum_by (cells ps s1) (live_pairs s1)) (sym (counted table)) few)

  -- ---- the reply

  abbrev built : Reply
  built = record (bare Fine) { tags = tag_changes s0.tag s2.tag; drops = dropped s0 s2 is_rebuilt; adds = added s0 s2 is_rebuilt }

  pub built_reply : (s : State) (e : Event) → IsEdit s e s0 r is_rebuilt → (reply : Reply) × Fits s e reply
  built_reply s e edit = by (cases_lt s.capacity (rule_count s2))
    where
      by : (s.capacity < rule_count s2) ⊎ (rule_count s2 ≤ s.capacity) → (reply : Reply) × Fits s e reply
      by (inl over) = (bare (Refused (TableFull (rule_count s2) s.capacity)), full_tables_are_refused s e s0 r is_rebuilt (rule_count s2) edit ps are within over)
      by (inr few) = (
        built,
        (edits_are_accepted s e s0 r is_rebuilt table built edit change base.right table_after new_rules few
            (record { head = refl; tags = refl; drops = refl; adds = refl; adverts = refl; asks = refl; frames = refl })).1,
      )
