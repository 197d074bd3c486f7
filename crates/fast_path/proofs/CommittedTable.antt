-- With the rules of the dropped pairs taken out, and those of the planned ones put in, the table is one for the state afterwards.
use Rattle.std.proofs.Math.Bool.{and-false}
use Rattle.std.proofs.Common.{◌≡◌, ◌<◌, ◌^◌, Bool, true, false, ◌&&◌, ◌||◌, not, List, [], ◌∷◌, map, nat_eq, sym, ap, subst, ◌∙◌, refl, arith}
use Rattle.std.specs.Prelude.{Some, None, is_some}
use Rattle.std.specs.FinMap.{get, insert, remove}
use Rattle.std.proofs.lemmas.Bool.{eqb-true, and_parts}
use Rattle.events.specs.After.{without_pairs}
use Rattle.events.specs.State.{State, ArePolicies}
use Rattle.events.specs.Tags.{is_live_pair, retagged}
use Rattle.exchange_laws.proofs.Lists.{TableOf, clash}
use Rattle.exchange_laws.proofs.LivePairs.{live_at}
use Rattle.exchange_laws.specs.Listed.{AreThose, HasLivePairs, comes, goes, is_pair_before}
use Rattle.exchange_laws.specs.Replies.{HasNewRules, RightRulesAreSome}
use Rattle.exchange_laws.specs.Rules.{IsRightAt, IsTableAfter, is_new}
use Rattle.exchange_laws.specs.Steady.{PortsAreNumbered}
use Rattle.net_types.proofs.FindLemmas.{find-IsFound, nothing}
use Rattle.net_types.proofs.OrderLemmas.{pairs_total}
use Rattle.net_types.proofs.RisingLemmas.{before_itself}
use Rattle.net_types.proofs.SetLemmas.{map-Member, Member-map}
use Rattle.net_types.specs.Answers.{Policies}
use Rattle.net_types.specs.Exports.{Routing}
use Rattle.net_types.specs.Keys.{pair_cmp}
use Rattle.net_types.specs.Sets.{Member}
use Rattle.net_types.specs.declared.route.PortInfo.{PortInfo}
use Rattle.net_types.specs.declared.rule.Pair.{Pair}
use Rattle.net_types.specs.declared.rule.Rule.{Rule}
use Rattle.fast_path.proofs.CommittedMaps.{AreApart, apart_from_rising, get_with_others, get_with_those, get_without_others, get_without_those, with_all, without_all}
use Rattle.fast_path.specs.Committing.{Block, with_blocks}
use Rattle.fast_path.specs.Plans.{pair_of}
use Rattle.std.proofs.lemmas.Option.{same_Some}
use Rattle.net_types.proofs.TieLemmas.{pair_tie}

pub with_is : (m : TableOf) (bs : List Block) → with_blocks m bs ≡ with_all pair_cmp pairs_total pair_tie m bs
with_is m [] = refl
with_is m (b ∷ bs) = with_is (insert m b.0 b.1) bs

pub without_is : (m : TableOf) (qs : List Pair) → without_pairs m qs ≡ without_all pair_cmp pairs_total pair_tie m qs
without_is m [] = refl
without_is m (q ∷ qs) = without_is (remove m q) qs

-- a block of a pair
pub record IsBlockOf (blocks : List Block) (pair : Pair) : Type 0 where
  pub block : Block
  pub stands : Member block blocks
  pub at : block.0 ≡ pair

module _ (s : State) (r : Routing) (is_rebuilt : Pair → Bool) (drops : List Pair) (blocks : List Block) (has : HasLivePairs s)
    (gone : AreThose (goes s (retagged s r) is_rebuilt) drops) (new : AreThose (comes s (retagged s r) is_rebuilt) (map pair_of blocks)) where
  abbrev s1 : State
  s1 = retagged s r

  -- the table without the pairs that go
  abbrev pub left : TableOf
  left = without_pairs s.table drops

  -- and with those that come
  abbrev pub table : TableOf
  table = with_blocks left blocks

  -- each pair has one block
  pub blocks_apart : AreApart blocks
  blocks_apart = apart_from_rising (λ a b. is_pair_before a b) (before_itself pair_cmp pairs_total) blocks new.rising

  -- ---- what the table has at a pair

  pub block_rules : (b : Block) → Member b blocks → get table b.0 ≡ Some b.1
  block_rules b m = ap (λ t. get t b.0) (with_is left blocks) ∙ get_with_those pair_cmp pairs_total pair_tie blocks left blocks_apart b m

  -- a pair that comes has a block
  pub block_of : (pair : Pair) → comes s s1 is_rebuilt pair ≡ true → IsBlockOf blocks pair
  block_of pair e = let image = map-Member pair_of blocks pair (new.all pair e) in record { block = image.of; stands = image.stands; at = sym image.is }

  other_rules : (pair : Pair) → comes s s1 is_rebuilt pair ≡ false → get table pair ≡ get left pair
  other_rules pair e =
      ap (λ t. get t pair) (with_is left blocks)
      ∙ get_with_others pair_cmp pairs_total pair_tie blocks left pair (λ b m at. clash (new.each pair (subst (λ q. Member q (map pair_of blocks)) at (Member-map pair_of blocks b m))) e)

  gone_rules : (pair : Pair) → goes s s1 is_rebuilt pair ≡ true → get left pair ≡ None
  gone_rules pair e = ap (λ t. get t pair) (without_is s.table drops) ∙ get_without_those pair_cmp pairs_total pair_tie drops s.table pair (gone.all pair e)

  kept_rules : (pair : Pair) → goes s s1 is_rebuilt pair ≡ false → get left pair ≡ get s.table pair
  kept_rules pair e = ap (λ t. get t pair) (without_is s.table drops) ∙ get_without_others pair_cmp pairs_total pair_tie drops s.table pair (λ m. clash (gone.each pair m) e)

  -- a pair that comes isn't among those left
  pub not_left : (pair : Pair) → comes s s1 is_rebuilt pair ≡ true → get left pair ≡ None
  not_left pair e = by (is_live_pair s pair) (is_rebuilt pair) refl refl
    where
      parts : (is_live_pair s1 pair ≡ true) × (is_new s is_rebuilt pair ≡ true)
      parts = and_parts (is_live_pair s1 pair) (is_new s is_rebuilt pair) e

      by : (l b : Bool) → is_live_pair s pair ≡ l → is_rebuilt pair ≡ b → get left pair ≡ None
      by true true live built = gone_rules pair (λ i. live i && (not (parts.0 i) || built i))
      by true false live built = absurd (clash parts.1 (λ i. not (live i) || built i))
      by false b dead built = kept_rules pair (ap (λ c. c && (not (is_live_pair s1 pair) || is_rebuilt pair)) dead) ∙ nothing (get s.table pair) (λ there. clash (sym (has pair) ∙ there) dead)

  -- ---- the table is one for the state afterwards

  pub table_pairs : (pair : Pair) → is_some (get table pair) ≡ is_live_pair s1 pair
  table_pairs pair = by (is_live_pair s1 pair) (is_live_pair s pair) (is_rebuilt pair) refl refl refl
    where
      come : comes s s1 is_rebuilt pair ≡ true → is_some (get table pair) ≡ true
      come e = let is = block_of pair e in subst (λ q. is_some (get table q) ≡ true) is.at (ap is_some (block_rules is.block is.stands))

      by : (l1 l b : Bool) → is_live_pair s1 pair ≡ l1 → is_live_pair s pair ≡ l → is_rebuilt pair ≡ b → is_some (get table pair) ≡ is_live_pair s1 pair
      by true false b after before built = come (λ i. after i && (not (before i) || built i)) ∙ sym after
      by true true true after before built = come (λ i. after i && (not (before i) || built i)) ∙ sym after
      by true true false after before built =
          ap is_some (other_rules pair (λ i. after i && (not (before i) || built i)) ∙ kept_rules pair (λ i. before i && (not (after i) || built i))) ∙ has pair ∙ before ∙ sym after
      by false true b after before built = ap is_some (other_rules pair (λ i. after i && is_new s is_rebuilt pair) ∙ gone_rules pair (λ i. before i && (not (after i) || is_rebuilt pair))) ∙ sym after
      by false false b after before built =
          ap is_some (other_rules pair (λ i. after i && is_new s is_rebuilt pair) ∙ kept_rules pair (λ i. before i && (not (is_live_pair s1 pair) || is_rebuilt pair))) ∙ has pair ∙ before ∙ sym after

  pub old_rules : (pair : Pair) (rules : List Rule) → is_new s is_rebuilt pair ≡ false → get table pair ≡ Some rules → get s.table pair ≡ Some rules
  old_rules pair rules same at = by (goes s s1 is_rebuilt pair) refl
    where
      left_at : get left pair ≡ Some rules
      left_at = sym (other_rules pair (ap (λ b. is_live_pair s1 pair && b) same ∙ and-false (is_live_pair s1 pair))) ∙ at

      by : (b : Bool) → goes s s1 is_rebuilt pair ≡ b → get s.table pair ≡ Some rules
      by true e = let never = ap is_some (sym (gone_rules pair e) ∙ left_at) in cc
      by false e = sym (kept_rules pair e) ∙ left_at

  -- the rules of a pair that is new are those of its block
  pub new_rules : (pair : Pair) (rules : List Rule) → is_new s is_rebuilt pair ≡ true → get table pair ≡ Some rules → (is : IsBlockOf blocks pair) × (is.block.1 ≡ rules)
  new_rules pair rules fresh at =
      let live = sym (table_pairs pair) ∙ ap is_some at in
      let is = block_of pair (λ i. live i && fresh i) in
      (is, same_Some is.block.1 rules (sym (block_rules is.block is.stands) ∙ ap (get table) is.at ∙ at))

  module _ (right : (b : Block) → Member b blocks → (ps : Policies) → ArePolicies s1 ps → IsRightAt ps s1 b.0 b.1) where
    pub table_after : IsTableAfter s s1 is_rebuilt table
    table_after = record {
      pairs = table_pairs;
      old = old_rules;
      new = λ ps read pair rules fresh at.
          let found = new_rules pair rules fresh at in
          subst (λ q. IsRightAt ps s1 q rules) found.0.at (subst (IsRightAt ps s1 found.0.block.0) found.1 (right found.0.block found.0.stands ps read));
    }

    -- the ports of live pairs are numbers of ports
    port_small : PortsAreNumbered s1.routing.ports → (pair : Pair) → is_live_pair s1 pair ≡ true → pair.port.0 < 2 ^ 16
    port_small numbered pair live =
        let at = live_at s1 pair live in
        let found = find-IsFound (λ (x : PortInfo). nat_eq x.number.0 pair.port.0) s1.routing.ports at.0 at.1.port in
        let same : at.0.number.0 ≡ pair.port.0 = eqb-true at.0.number.0 pair.port.0 found.passes in
        let small = (numbered at.0 found.stands).1 in
        omega (arith, same, small)

    -- and the new pairs have some rules
    pub has_new_rules : RightRulesAreSome → PortsAreNumbered s1.routing.ports → (ps : Policies) → ArePolicies s1 ps → HasNewRules s is_rebuilt table
    has_new_rules some numbered ps read pair fresh at =
        let is = table_after.new ps read pair [] fresh at in
        some ps is.0 pair.port [] (port_small numbered pair (sym (table_pairs pair) ∙ ap is_some at)) is.2 refl
