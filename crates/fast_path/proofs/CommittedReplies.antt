-- The line is accepted with the reply that the plan says, and the state is the one with the new tags and rules.
use Rattle.std.proofs.Common.{◌≡◌, ◌≤◌, Bool, List, [], ◌∷◌, ◌++◌, map, sym, ap, subst, ◌∙◌, refl, inl, inr}
use Rattle.std.specs.Prelude.{Some, unwrap_or}
use Rattle.std.specs.FinMap.{get}
use Rattle.events.specs.After.{next}
use Rattle.events.specs.Fits.{Fits, IsBuilt, added, dropped, flows_of}
use Rattle.events.specs.Sound.{rule_count}
use Rattle.events.specs.State.{State, ArePolicies}
use Rattle.events.specs.Tags.{retagged}
use Rattle.events.specs.declared.Event.{Event}
use Rattle.exchange_laws.specs.Editing.{EditsAreAccepted, IsBase, IsEdit}
use Rattle.exchange_laws.specs.Listed.{GoneAreDropped, HasLivePairs, NewAreAdded}
use Rattle.exchange_laws.specs.Replies.{HasNewRules, RightRulesAreSome}
use Rattle.exchange_laws.specs.Rules.{IsChange, IsDeclaredAlike, IsRightAt, IsTableAfter}
use Rattle.exchange_laws.specs.Steady.{PortsAreNumbered}
use Rattle.exchange_laws.proofs.RulesAfter.{same_policies}
use Rattle.net_types.proofs.SetLemmas.{map-Member, union-map}
use Rattle.net_types.specs.Answers.{Policies}
use Rattle.net_types.specs.Exports.{Routing}
use Rattle.net_types.specs.Sets.{Member, union_over}
use Rattle.net_types.specs.declared.rule.Pair.{Pair}
use Rattle.net_types.specs.declared.rule.Rule.{Rule}
use Rattle.fast_path.proofs.CommittedTable.{block_rules, has_new_rules, table_after, table_pairs}
use Rattle.fast_path.specs.Carried.{plan_reply}
use Rattle.fast_path.specs.Committing.{Block}
use Rattle.fast_path.specs.Plans.{IsPlan, pair_of, planned}
use Rattle.fast_path.specs.declared.planned.Plan.{Plan}

-- what is said of lines that build
pub record Laws : Type 0 where
  pub dropped : GoneAreDropped
  pub added : NewAreAdded
  pub some : RightRulesAreSome
  pub accepted : EditsAreAccepted

module _ (s : State) (r : Routing) (is_rebuilt : Pair → Bool) (plan : Plan) (base : IsBase s is_rebuilt) (alike : IsDeclaredAlike s.routing r) (is : IsPlan s r is_rebuilt plan) where
  abbrev s1 : State
  s1 = retagged s r

  -- the state afterwards
  abbrev s2 : State
  s2 = planned s r plan

  pub change : IsChange s r
  change = record { tagged = base.tagged; pooled = base.pooled; owners = base.owners; alike = alike; enough = is.enough }

  -- ---- the table

  blocks_right : (b : Block) → Member b plan.blocks.items → (ps : Policies) → ArePolicies s1 ps → IsRightAt ps s1 b.0 b.1
  blocks_right b m ps read = is.right b m ps (same_policies s1 s ps (sym alike.participants) refl refl read)

  pub is_table : IsTableAfter s s1 is_rebuilt s2.table
  is_table = table_after s r is_rebuilt plan.drops plan.blocks.items base.tagged.pairs is.gone is.new blocks_right

  pub new_have_rules : RightRulesAreSome → HasNewRules s is_rebuilt s2.table
  new_have_rules some =
      has_new_rules s r is_rebuilt plan.drops plan.blocks.items base.tagged.pairs is.gone is.new blocks_right some (subst PortsAreNumbered (sym alike.ports) base.numbered)
      base.right.policies (same_policies s s1 base.right.policies alike.participants refl refl base.right.read)

  live_pairs_then : HasLivePairs s2
  live_pairs_then = table_pairs s r is_rebuilt plan.drops plan.blocks.items base.tagged.pairs is.gone is.new

  -- ---- what the reply says

  drops_are : GoneAreDropped → dropped s s2 is_rebuilt ≡ plan.drops
  drops_are law = law s s2 is_rebuilt plan.drops base.tagged.pairs live_pairs_then (record { rising = is.gone.rising; each = is.gone.each; all = is.gone.all })

  -- the rules of a pair
  rules_then : Pair → List Rule
  rules_then pair = unwrap_or (get s2.table pair) []

  block_is : (b : Block) → Member b plan.blocks.items → get s2.table b.0 ≡ Some b.1
  block_is b m = block_rules s r is_rebuilt plan.drops plan.blocks.items base.tagged.pairs is.gone is.new b m

  pair_rules : (pair : Pair) → Member pair (map pair_of plan.blocks.items) → get s2.table pair ≡ Some (rules_then pair)
  unfolding rules_then
  pair_rules pair m =
      let image = map-Member pair_of plan.blocks.items pair m in
      let at : get s2.table pair ≡ Some image.of.1 = ap (get s2.table) image.is ∙ block_is image.of image.stands in
      at ∙ ap (λ o. Some (unwrap_or o [])) (sym at)

  each_block : (bs : List Block) → ((b : Block) → Member b bs → Member b plan.blocks.items) → union_over (λ (b : Block). flows_of (b.0, rules_then b.0)) bs ≡ union_over flows_of bs
  unfolding rules_then
  each_block [] in_plan = refl
  each_block (b ∷ bs) in_plan =
      ap (λ o. flows_of (b.0, unwrap_or o []) ++ union_over (λ (d : Block). flows_of (d.0, rules_then d.0)) bs) (block_is b (in_plan b (inl refl)))
      ∙ ap (λ fs. flows_of b ++ fs) (each_block bs (λ d m. in_plan d (inr m)))

  adds_are : NewAreAdded → added s s2 is_rebuilt ≡ plan.adds
  adds_are law =
      law s s2 is_rebuilt (map pair_of plan.blocks.items) rules_then base.tagged.pairs live_pairs_then (record { rising = is.new.rising; each = is.new.each; all = is.new.all }) pair_rules
      ∙ union-map (λ pair. flows_of (pair, rules_then pair)) pair_of plan.blocks.items
      ∙ each_block plan.blocks.items (λ b m. m)
      ∙ sym is.adds

  built : GoneAreDropped → NewAreAdded → IsBuilt s s2 is_rebuilt (plan_reply plan)
  built gone new = record {
    head = refl;
    tags = is.tags;
    drops = sym (drops_are gone);
    adds = sym (adds_are new);
    adverts = refl;
    asks = refl;
    frames = refl;
  }

  -- ---- the line

  -- it fits, and the state is the one afterwards
  pub line_committed : Laws → (before : State) (e : Event) → IsEdit before e s r is_rebuilt → (next before e (plan_reply plan) ≡ s2) × Fits before e (plan_reply plan)
  line_committed laws before e edit =
      laws.accepted before e s r is_rebuilt s2.table (plan_reply plan) edit change base.right is_table (new_have_rules laws.some)
      (subst (λ n. rule_count s2 ≤ n) edit.capacity is.fits) (built laws.dropped laws.added)
