-- With the rules of its pairs a draft is a plan; and where there are too many, they are no more than the cells.
use Rattle.std.proofs.Common.{◌≡◌, ℕ, ◌+◌, ◌-◌, ◌<◌, ◌≤◌, ◌⊎◌, Bool, true, false, ◌||◌, List, [], ◌∷◌, ◌++◌, cond, length, filter, map, not, replicate, sum_by, sym, ap, subst, ◌∙◌, refl, arith, inl, inr}
use Rattle.std.specs.Prelude.{Some, None, unwrap_or}
use Rattle.std.specs.FinMap.{FinMap, get, get-remove, remove}
use Rattle.std.specs.Option.{option_map_or}
use Rattle.std.specs.Ordering.{eq_by_cmp}
use Rattle.std.proofs.lemmas.List.{length-replicate}
use Rattle.std.proofs.lemmas.List.Sums.{sum_by-cons}
use Rattle.block_build.specs.Installed.{count_at}
use Rattle.block_build.specs.Lent.{Lent}
use Rattle.events.specs.After.{without_pairs}
use Rattle.events.specs.Fits.{cells, flows_of}
use Rattle.events.specs.State.{State, ArePolicies}
use Rattle.events.specs.Tags.{is_live_pair, live_pairs, pairs, retagged}
use Rattle.events.specs.declared.Entry.{Entry}
use Rattle.exchange_laws.proofs.Counted.{live_Member, live_rise, numbers_fit_cells}
use Rattle.exchange_laws.proofs.Lists.{TableOf, clash}
use Rattle.exchange_laws.proofs.ReadPolicies.{policies_are_one}
use Rattle.exchange_laws.proofs.RulesAfter.{live_pairs_keep_parts, same_policies}
use Rattle.exchange_laws.proofs.TagsAfter.{tags_stay_pooled}
use Rattle.exchange_laws.specs.Listed.{AreThose, HasLivePairs, comes, goes}
use Rattle.exchange_laws.specs.Rules.{IsChange, IsRightAt, is_new}
use Rattle.exchange_laws.specs.Fresh.{HasEnoughTags}
use Rattle.exchange_laws.specs.Retagging.{TagsArePooled}
use Rattle.fast_path.proofs.CommittedRules.{rules_with}
use Rattle.fast_path.proofs.CommittedTable.{blocks_apart, new_rules, not_left, old_rules, table_pairs}
use Rattle.fast_path.proofs.CountedRules.{rules_none, rules_without}
use Rattle.fast_path.proofs.PlanFound.{block_right, built_are, built_count, change, changes_are, dead_are, dead_rise, drops_are, emptied_listed, enough, fresh_are, in_order, newly_are, offers_are, owns, parts_are}
use Rattle.fast_path.specs.Building.{AreBlocksFor, AreInOrder, HasPart, IsFullBy, IsRefusedFor, Site, rules_left, site_of}
use Rattle.fast_path.specs.Committing.{Block, block_count, classes_of, with_blocks}
use Rattle.fast_path.specs.Drafts.{IsDraft, IsDrafted}
use Rattle.fast_path.specs.Grouping.{Known, groups_of, known_by, more_groups, moved_groups}
use Rattle.fast_path.specs.LiveOnly.{AreDead, AreEmptied}
use Rattle.fast_path.specs.Offers.{AreOffers}
use Rattle.fast_path.specs.Planned.{group_kept, is_tag_below}
use Rattle.fast_path.specs.Plans.{IsAsked, IsAskedFor, IsFault, IsPlan, IsWithinSteps, pair_of}
use Rattle.fast_path.specs.declared.draft.Draft.{Draft}
use Rattle.fast_path.specs.declared.fresh.Fresh.{Fresh}
use Rattle.fast_path.specs.declared.planned.Class.{Class}
use Rattle.fast_path.specs.declared.planned.FastFault.{FastFault}
use Rattle.fast_path.specs.declared.planned.FastFault.TheVariants.{NoNextHop, TableFull, Memory}
use Rattle.fast_path.specs.declared.planned.Plan.{Plan}
use Rattle.block_build.specs.Installed.{Installed}
use Rattle.block_build.specs.Installed as installed
use Rattle.net_types.proofs.FindLemmas.{cond_same, nothing}
use Rattle.net_types.proofs.OrderLemmas.{pairs_total}
use Rattle.net_types.proofs.OrderedLemmas.{ordered_same}
use Rattle.net_types.proofs.PassLemmas.{some_there}
use Rattle.net_types.proofs.TieLemmas.{pair_tie, ties_itself}
use Rattle.net_types.proofs.RisingLemmas.{filter-Member}
use Rattle.net_types.proofs.SetLemmas.{Member-append_cases, Member-map, map-Member, map-append}
use Rattle.net_types.specs.Answers.{Policies}
use Rattle.net_types.specs.Cells.{cell_atoms}
use Rattle.net_types.specs.Cubes.{everything}
use Rattle.net_types.specs.Exports.{Routing}
use Rattle.net_types.specs.Keys.{pair_cmp, prefix_cmp}
use Rattle.net_types.specs.Meets.{meets}
use Rattle.net_types.specs.Sets.{IsRising, Member, union_over}
use Rattle.net_types.specs.declared.route.Part.{Part}
use Rattle.net_types.specs.declared.rule.Pair.{Pair}
use Rattle.net_types.specs.declared.rule.Rule.{Rule}
use Rattle.next_hop_pool.specs.Free.{Tags, free_tags}
use Rattle.prefix_classes.specs.Classes.{Classes}
use Rattle.registry.specs.Registered.{Registered}
use Rattle.route_server.specs.Proposed.{Proposed}
use Rattle.rule_laws.specs.Rules.{RightRulesAreFew}

-- ---- counts

-- what is taken out is nothing, and so is what was nothing
none_left : (ks : List Pair) (m : TableOf) (q : Pair) → Member q ks ⊎ (get m q ≡ None) → get (without_pairs m ks) q ≡ None
none_left [] m q (inl stands) = elim stands [ ]
none_left [] m q (inr none) = none
none_left (k ∷ ks) m q (inl (inl same)) = none_left ks (remove m k) q (inr (get-remove pairs_total m k q ∙ ap (λ b. cond b None (get m q)) (ap (eq_by_cmp pair_cmp q) (sym same) ∙ ties_itself pairs_total q)))
none_left (k ∷ ks) m q (inl (inr stands)) = none_left ks (remove m k) q (inl stands)
none_left (k ∷ ks) m q (inr none) = none_left ks (remove m k) q (inr (get-remove pairs_total m k q ∙ ap (cond (eq_by_cmp pair_cmp q k) None) none ∙ cond_same (eq_by_cmp pair_cmp q k) None))

count_joined : (bs cs : List Block) → block_count (bs ++ cs) ≡ block_count bs + block_count cs
count_joined [] cs = omega arith
count_joined (b ∷ bs) cs =
    let first = sum_by-cons (λ (x : Block). length x.1) b (bs ++ cs) in
    let second = sum_by-cons (λ (x : Block). length x.1) b bs in
    let later = count_joined bs cs in
    omega (arith, first, second, later)

-- a pair without rules
abbrev standing : Pair → Block
standing q = (q, [])

standing_pairs : (qs : List Pair) → map pair_of (map standing qs) ≡ qs
standing_pairs [] = refl
standing_pairs (q ∷ qs) = ap (λ xs. q ∷ xs) (standing_pairs qs)

standing_count : (qs : List Pair) → block_count (map standing qs) ≡ 0
standing_count [] = refl
standing_count (q ∷ qs) =
    let first : block_count (map standing (q ∷ qs)) ≡ 0 + block_count (map standing qs) = sum_by-cons (λ (x : Block). length x.1) (standing q) (map standing qs) in
    let later : block_count (map standing qs) ≡ 0 = standing_count qs in
    omega arith

-- so many rules
abbrev rules_of : ℕ → List Rule
rules_of n = replicate n (record { cube = everything; actions = [] })

-- rules that are right are no more than the cells of the pair
right_within : RightRulesAreFew → (ps : Policies) (s : State) (pair : Pair) (rules : List Rule) → IsRightAt ps s pair rules → length rules ≤ cells ps s pair
right_within law ps s pair rules right =
    let few : length rules ≤ length (meets (cell_atoms ps pair.port right.0)) = law ps right.0 pair.port rules right.2 in
    subst (λ o. length rules ≤ option_map_or (λ (part : Part). length (meets (cell_atoms ps pair.port part))) o 0) (sym right.1) few

module _ (s : State) (r : Routing) (is_rebuilt : Pair → Bool) (names : Registered) (classes : Classes) (pool : Tags) (was_told : List (FinMap prefix_cmp Entry)) (switch : Installed) (all : List Lent) (p : Proposed) (rebuild : List Pair)
    (asked : IsAsked s r is_rebuilt names classes pool was_told switch all p rebuild) (fs : List Fresh) (are : groups_of fs ≡ more_groups [] (moved_groups (known_by p.named classes) p.touched p.sigs))
    (room : length fs ≤ length (free_tags pool)) (draft : Draft) (is : IsDraft names classes pool was_told p fs rebuild draft) where
  abbrev s1 : State
  s1 = retagged s r

  abbrev site : Site
  site = site_of names (known_by p.named classes) draft.fresh.items all

  has : HasLivePairs s
  has = asked.base.tagged.pairs

  gone : AreThose (goes s s1 is_rebuilt) draft.drops
  gone = drops_are s r is_rebuilt names classes pool was_told switch all p rebuild asked fs are room draft is

  come : AreThose (comes s s1 is_rebuilt) draft.built
  come = built_are s r is_rebuilt names classes pool was_told switch all p rebuild asked fs are room draft is

  there_are : HasEnoughTags s r
  there_are = enough s r is_rebuilt names classes pool was_told switch all p rebuild asked fs are room draft is

  changes : IsChange s r
  changes = change s r is_rebuilt names classes pool was_told switch all p rebuild asked fs are room draft is

  abbrev left : TableOf
  left = without_pairs s.table draft.drops

  abbrev count : ℕ
  count = rules_left switch.table draft.drops

  left_is : count ≡ installed.rule_count left
  left_is =
      let both = rules_without draft.drops s.table gone.rising in
      let same : count ≡ rules_left s.table draft.drops = ap (λ m. rules_left m draft.drops) (sym asked.table) in
      omega (arith, both, same)

  left_few : count ≤ switch.capacity
  left_few =
      let both = rules_without draft.drops s.table gone.rising in
      let few : installed.rule_count s.table ≤ s.capacity = asked.base.few in
      let same = asked.capacity in
      let at = left_is in
      omega (arith, both, few, same, at)

  -- the blocks of the pairs that come
  module _ (blocks : List Block) (pairs_are : map pair_of blocks ≡ draft.built) where
    new : AreThose (comes s s1 is_rebuilt) (map pair_of blocks)
    new = subst (AreThose (comes s s1 is_rebuilt)) (sym pairs_are) come

    comes_at : (b : Block) → Member b blocks → comes s s1 is_rebuilt b.0 ≡ true
    comes_at b m = new.each b.0 (Member-map pair_of blocks b m)

    rules_then : installed.rule_count (with_blocks left blocks) ≡ installed.rule_count left + block_count blocks
    rules_then = rules_with blocks left (blocks_apart s r is_rebuilt draft.drops blocks has gone new) (λ b m. not_left s r is_rebuilt draft.drops blocks has gone new b.0 (comes_at b m))

  -- ---- the plan

  module _ (blocks : List Block) (made : AreBlocksFor site draft.built (switch.capacity - count) blocks) where
    right_all : (b : Block) → Member b blocks → (ps : Policies) → ArePolicies s ps → IsRightAt ps s1 b.0 b.1
    right_all b m ps read = block_right s r is_rebuilt names classes pool was_told switch all p rebuild asked fs are room draft is b (comes_at blocks made.pairs_are b m) (made.right b m) ps read

    fits_all : installed.rule_count (with_blocks left blocks) ≤ s.capacity
    fits_all =
        let then = rules_then blocks made.pairs_are in
        let few = made.few in
        let at = left_is in
        let within = left_few in
        let same = asked.capacity in
        omega (arith, then, few, at, within, same)

    pub plan_made : (plan : Plan) → IsDrafted draft p blocks plan → IsPlan s r is_rebuilt plan
    plan_made plan drafted = record {
      tags = drafted.tags ∙ changes_are s r is_rebuilt names classes pool was_told switch all p rebuild asked fs are room draft is;
      gone = subst (AreThose (goes s s1 is_rebuilt)) (sym drafted.drops) gone;
      new = subst (λ bs. AreThose (comes s s1 is_rebuilt) (map pair_of bs)) (sym drafted.blocks) (new blocks made.pairs_are);
      right = λ b m ps read. right_all b (subst (Member b) drafted.blocks m) ps read;
      adds = drafted.adds ∙ ap (union_over flows_of) (sym drafted.blocks);
      fresh = drafted.fresh ∙ fresh_are s r is_rebuilt names classes pool was_told switch all p rebuild asked fs are room draft is ∙ ap (λ cs. classes_of cs (group_kept s r)) (sym drafted.tags);
      added = drafted.added ∙ sym made.pairs_are ∙ ap (map pair_of) (sym drafted.blocks);
      emptied = subst (AreEmptied s s1) (sym drafted.emptied) (emptied_listed s r is_rebuilt names classes pool was_told switch all p rebuild asked fs are room draft is);
      newly = drafted.newly ∙ newly_are s r is_rebuilt names classes pool was_told switch all p rebuild asked fs are room draft is;
      dead = subst (AreDead s s1) (sym drafted.dead) (dead_are s r is_rebuilt names classes pool was_told switch all p rebuild asked fs are room draft is);
      rising = subst (IsRising is_tag_below) (sym drafted.dead) (dead_rise s r is_rebuilt names classes pool was_told switch all p rebuild asked fs are room draft is);
      offers = subst (AreOffers s s1) (sym drafted.offers) (offers_are s r is_rebuilt names classes pool was_told switch all p rebuild asked fs are room draft is);
      enough = there_are;
      fits = subst (λ n. n ≤ s.capacity) (ap (λ bs. installed.rule_count (with_blocks left bs)) (sym drafted.blocks) ∙ ap (λ ks. installed.rule_count (with_blocks (without_pairs s.table ks) plan.blocks.items)) (sym drafted.drops)) fits_all;
    }

  -- ---- too many rules

  module _ (law : RightRulesAreFew) (rules : ℕ) (full : IsFullBy site draft.built count switch.capacity rules) where
    abbrev wide : Block
    wide = (full.many.pair, rules_of full.many.last.count)

    -- the blocks that were built, so many rules as were too many, and none for the pairs that are left
    abbrev blocks : List Block
    blocks = full.many.blocks ++ wide ∷ map standing full.many.rest

    pairs_are : map pair_of blocks ≡ draft.built
    pairs_are = map-append pair_of full.many.blocks (wide ∷ map standing full.many.rest) ∙ ap (λ qs. map pair_of full.many.blocks ++ full.many.pair ∷ qs) (standing_pairs full.many.rest) ∙ full.many.pairs_are

    blocks_count : block_count blocks ≡ block_count full.many.blocks + full.many.last.count
    blocks_count =
        let joined = count_joined full.many.blocks (wide ∷ map standing full.many.rest) in
        let first = sum_by-cons (λ (x : Block). length x.1) wide (map standing full.many.rest) in
        let none = standing_count full.many.rest in
        let many : length (rules_of full.many.last.count) ≡ full.many.last.count = length-replicate full.many.last.count (record { cube = everything; actions = [] }) in
        omega (arith, joined, first, none, many)

    abbrev then : TableOf
    then = with_blocks left blocks

    module _ (ps : Policies) (read : ArePolicies s1 ps) where
      read_before : ArePolicies s ps
      read_before = same_policies s1 s ps (sym asked.alike.participants) refl refl read

      block_within : (b : Block) → Member b blocks → length b.1 ≤ cells ps s1 b.0
      block_within b m = elim (Member-append_cases full.many.blocks (wide ∷ map standing full.many.rest) b m) [
        | inl before ↦ right_within law ps s1 b.0 b.1 (block_right s r is_rebuilt names classes pool was_told switch all p rebuild asked fs are room draft is b (comes_at blocks pairs_are b m) (full.many.right b before) ps read_before)
        | inr after ↦ elim after [
          | inl same ↦ subst (λ (x : Block). length x.1 ≤ cells ps s1 x.0) (sym same) (wide_within (comes_at blocks pairs_are wide (subst (λ x. Member x blocks) same m)))
          | inr later ↦ let image = map-Member standing full.many.rest b later in subst (λ (x : Block). length x.1 ≤ cells ps s1 x.0) (sym image.is) (least image.of)
        ]
      ]
        where
          least : (q : Pair) → 0 ≤ cells ps s1 q
          least q = omega arith

          wide_within : comes s s1 is_rebuilt full.many.pair ≡ true → length (rules_of full.many.last.count) ≤ cells ps s1 full.many.pair
          wide_within coming =
              let within = full.many.last.within in
              let few = within.within ps (asked.views ps read_before) in
              let owned = owns s r is_rebuilt names classes pool was_told switch all p rebuild asked fs are room draft is full.many.pair within.part coming within.is in
              let many : length (rules_of full.many.last.count) ≡ full.many.last.count = length-replicate full.many.last.count (record { cube = everything; actions = [] }) in
              subst (λ o. length (rules_of full.many.last.count) ≤ option_map_or (λ (part : Part). length (meets (cell_atoms ps full.many.pair.port part))) o 0) (sym owned) (subst (λ n. n ≤ length (meets (cell_atoms ps full.many.pair.port within.part))) (sym many) few)

      rules_within : (pair : Pair) (own : List Rule) → is_live_pair s1 pair ≡ true → get then pair ≡ Some own → length own ≤ cells ps s1 pair
      rules_within pair own live at = by (is_new s is_rebuilt pair) refl
        where
          parts : (a b : Bool) → (not a || b) ≡ false → (a ≡ true) × (b ≡ false)
          parts true b e = (refl, e)
          parts false b e = absurd (cc)

          by : (b : Bool) → is_new s is_rebuilt pair ≡ b → length own ≤ cells ps s1 pair
          by true fresh =
              let found = new_rules s r is_rebuilt draft.drops blocks has gone (new blocks pairs_are) pair own fresh at in
              subst (λ q. length own ≤ cells ps s1 q) found.0.at (subst (λ xs. length xs ≤ cells ps s1 found.0.block.0) found.1 (block_within found.0.block found.0.stands))
          by false same =
              let stays = parts (is_live_pair s pair) (is_rebuilt pair) same in
              let before : get s.table pair ≡ Some own = old_rules s r is_rebuilt draft.drops blocks has gone (new blocks pairs_are) pair own same at in
              let right : IsRightAt ps s pair own = subst (λ qs. IsRightAt qs s pair own) (policies_are_one asked.base.right.read read_before) (asked.base.right.right pair own stays.1 before) in
              right_within law ps s1 pair own (right.0, live_pairs_keep_parts s r changes pair stays.0 live ∙ right.1, right.2)

      count_within : (pair : Pair) → is_live_pair s1 pair ≡ true → count_at then pair ≤ cells ps s1 pair
      count_within pair live =
          let there = some_there (get then pair) (table_pairs s r is_rebuilt draft.drops blocks has gone (new blocks pairs_are) pair ∙ live) in
          subst (λ o. length (unwrap_or o []) ≤ cells ps s1 pair) (sym there.1) (rules_within pair there.0 live there.1)

      pooled : TagsArePooled s1
      pooled = tags_stay_pooled s r asked.base.pooled

      live_of : (pair : Pair) → Member pair (live_pairs s1) → is_live_pair s1 pair ≡ true
      live_of pair m = (filter-Member (is_live_pair s1) (pairs s1) pair ((ordered_same pair_cmp pairs_total pair_tie (filter (is_live_pair s1) (pairs s1))).onto pair m)).passes

      all_counted : installed.rule_count then ≡ sum_by (count_at then) (live_pairs s1)
      all_counted =
          let both = rules_without (live_pairs s1) then (live_rise s1) in
          let none = rules_none (without_pairs then (live_pairs s1)) (λ q. none_left (live_pairs s1) then q (by q (is_live_pair s1 q) refl)) in
          omega (arith, both, none)
        where
          by : (q : Pair) (b : Bool) → is_live_pair s1 q ≡ b → Member q (live_pairs s1) ⊎ (get then q ≡ None)
          by q true live = inl (live_Member s1 pooled q live)
          by q false dead = inr (nothing (get then q) (λ there. clash (sym (table_pairs s r is_rebuilt draft.drops blocks has gone (new blocks pairs_are) q) ∙ there) dead))

      within_cells : rules ≤ sum_by (cells ps s1) (live_pairs s1)
      within_cells =
          let fit = numbers_fit_cells s1 ps (live_pairs s1) (count_at then) pooled (live_rise s1) (λ pair m. let live = live_of pair m in (live, count_within pair live)) in
          let counted = all_counted in
          let sum = rules_then blocks pairs_are in
          let split = blocks_count in
          let at = left_is in
          let most = full.most in
          let last = full.many.last.most in
          omega (arith, fit, counted, sum, split, at, most, last)

  pub fault_is : RightRulesAreFew → (fault : FastFault) → IsRefusedFor site draft.built count switch.capacity fault → IsFault s r fault
  fault_is law (NoNextHop need free) never = absurd never
  fault_is law (TableFull rules capacity) why = (
    there_are,
    within_cells law rules why.1,
    why.0 ∙ sym asked.capacity,
    subst (λ n. n < rules) (sym why.0) why.1.over,
  )
  fault_is law Memory why = tt

  -- ---- steps

  pub steps_within : (old new : ℕ) → new ≤ old + length draft.built → IsWithinSteps s r is_rebuilt old new
  steps_within old new few = record {
    most = (let same = built_count s r is_rebuilt names classes pool was_told switch all p rebuild asked fs are room draft is in omega (arith, few, same));
    short = λ fewer. let there = there_are in absurd (omega (arith, fewer, there));
  }

-- ---- as the code finds it

-- the groups, of which there are no more than free tags, and the draft
pub record IsReady (names : Registered) (classes : Classes) (pool : Tags) (was_told : List (FinMap prefix_cmp Entry)) (p : Proposed) (rebuild : List Pair) (fs : List Fresh) (draft : Draft) : Type 0 where
  pub are : groups_of fs ≡ more_groups [] (moved_groups (known_by p.named classes) p.touched p.sigs)
  pub room : length fs ≤ length (free_tags pool)
  pub is : IsDraft names classes pool was_told p fs rebuild draft

module _ (names : Registered) (classes : Classes) (pool : Tags) (was_told : List (FinMap prefix_cmp Entry)) (switch : Installed) (all : List Lent) (p : Proposed) (rebuild : List Pair) (fs : List Fresh) (draft : Draft)
    (ready : IsReady names classes pool was_told p rebuild fs draft) (k : Known) (cs : List Class) (drops built : List Pair) (k_is : k ≡ known_by p.named classes) (cs_are : cs ≡ draft.fresh.items) (drops_is : drops ≡ draft.drops) (built_is : built ≡ draft.built) where
  site_is : site_of names k cs all ≡ site_of names (known_by p.named classes) draft.fresh.items all
  site_is = λ i. site_of names (k_is i) (cs_are i) all

  pub ready_order : IsAskedFor names classes pool was_told switch all p rebuild → AreInOrder cs
  ready_order asked = subst AreInOrder (sym cs_are) (in_order asked.0 asked.1 asked.2 names classes pool was_told switch all p rebuild asked.3 fs ready.are ready.room draft ready.is)

  pub ready_parts : IsAskedFor names classes pool was_told switch all p rebuild → (pair : Pair) → Member pair built → HasPart (site_of names k cs all) pair
  ready_parts asked pair m =
      subst (λ x. HasPart x pair) (sym site_is) (parts_are asked.0 asked.1 asked.2 names classes pool was_told switch all p rebuild asked.3 fs ready.are ready.room draft ready.is pair (subst (Member pair) built_is m))

  module _ (s : State) (r : Routing) (is_rebuilt : Pair → Bool) (asked : IsAsked s r is_rebuilt names classes pool was_told switch all p rebuild) where
    pub ready_fault : RightRulesAreFew → (fault : FastFault) → IsRefusedFor (site_of names k cs all) built (rules_left switch.table drops) switch.capacity fault → IsFault s r fault
    ready_fault law fault why =
        fault_is s r is_rebuilt names classes pool was_told switch all p rebuild asked fs ready.are ready.room draft ready.is law fault
        (subst (λ x. IsRefusedFor x draft.built (rules_left switch.table draft.drops) switch.capacity fault) site_is
        (subst (λ ks. IsRefusedFor (site_of names k cs all) ks (rules_left switch.table draft.drops) switch.capacity fault) built_is
        (subst (λ ks. IsRefusedFor (site_of names k cs all) built (rules_left switch.table ks) switch.capacity fault) drops_is why)))

    pub ready_plan : (blocks : List Block) → AreBlocksFor (site_of names k cs all) built (switch.capacity - rules_left switch.table drops) blocks → (plan : Plan) → IsDrafted draft p blocks plan → IsPlan s r is_rebuilt plan
    ready_plan blocks are plan drafted =
        plan_made s r is_rebuilt names classes pool was_told switch all p rebuild asked fs ready.are ready.room draft ready.is blocks
        (subst (λ x. AreBlocksFor x draft.built (switch.capacity - rules_left switch.table draft.drops) blocks) site_is
        (subst (λ ks. AreBlocksFor (site_of names k cs all) ks (switch.capacity - rules_left switch.table draft.drops) blocks) built_is
        (subst (λ ks. AreBlocksFor (site_of names k cs all) built (switch.capacity - rules_left switch.table ks) blocks) drops_is are))) plan drafted

    pub ready_steps : (old new : ℕ) → new ≤ old + length built → IsWithinSteps s r is_rebuilt old new
    ready_steps old new few = steps_within s r is_rebuilt names classes pool was_told switch all p rebuild asked fs ready.are ready.room draft ready.is old new (subst (λ ks. new ≤ old + length ks) built_is few)
