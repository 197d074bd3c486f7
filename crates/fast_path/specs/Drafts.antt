-- What becomes of tags and pairs, before rules are built, and a plan that is made of it (this exchange's own rule).
use Rattle.std.specs.Prelude.{◌≡◌, List, length, map, take}
use Rattle.std.specs.FinMap.{FinMap}
use Rattle.events.specs.Fits.{flows_of}
use Rattle.events.specs.declared.Entry.{Entry}
use Rattle.events.specs.declared.TagChange.{TagChange}
use Rattle.fast_path.specs.Committing.{Block, classes_of, kept_of}
use Rattle.fast_path.specs.Emptied.{emptied}
use Rattle.fast_path.specs.Grouping.{known_by}
use Rattle.fast_path.specs.Newly.{newly_tagged}
use Rattle.fast_path.specs.Offers.{adverts_of, declared_pids, others, tagged}
use Rattle.fast_path.specs.Pairs.{built_pairs, dropped_pairs, gone_pairs, untold}
use Rattle.fast_path.specs.declared.draft.Draft.{Draft}
use Rattle.fast_path.specs.declared.fresh.Fresh.{Fresh}
use Rattle.fast_path.specs.declared.planned.Plan.{Plan}
use Rattle.net_types.specs.Keys.{prefix_cmp}
use Rattle.net_types.specs.Sets.{union_over}
use Rattle.net_types.specs.declared.address.Tag.{Tag}
use Rattle.net_types.specs.declared.rule.Pair.{Pair}
use Rattle.next_hop_pool.specs.Free.{Tags, free_tags}
use Rattle.prefix_classes.specs.Classes.{Classes}
use Rattle.registry.specs.Registered.{Registered}
use Rattle.route_server.specs.Proposed.{Proposed}

-- the least free tags, one for each group
abbrev pub given_tags : Tags → List Fresh → List Tag
given_tags pool groups = take (length groups) (free_tags pool)

-- the touched prefixes, each with the tag that it has afterwards
abbrev pub tagged_by : Classes → Tags → Proposed → List Fresh → List TagChange
tagged_by classes pool proposal groups = tagged (known_by proposal.named classes) groups (given_tags pool groups) proposal.touched proposal.sigs

-- what is drafted for a proposal, by the groups that get fresh tags and the pairs that are built anew
pub record IsDraft (names : Registered) (classes : Classes) (pool : Tags) (was_told : List (FinMap prefix_cmp Entry)) (proposal : Proposed) (groups : List Fresh) (rebuild : List Pair) (draft : Draft) : Type 0 where
  pub tags : draft.tags ≡ others (known_by proposal.named classes) (tagged_by classes pool proposal groups)
  pub fresh : draft.fresh.items ≡ classes_of draft.tags (kept_of (given_tags pool groups) (map (λ (f : Fresh). f.sig) groups))
  pub drops : draft.drops ≡ dropped_pairs (gone_pairs names classes.kept was_told (emptied classes.tag draft.tags)) rebuild
  pub built : draft.built ≡ built_pairs names draft.fresh.items (gone_pairs names classes.kept was_told (emptied classes.tag draft.tags)) rebuild
  pub left : draft.emptied.items ≡ emptied classes.tag draft.tags
  pub dead : draft.dead.items ≡ untold was_told (emptied classes.tag draft.tags)
  pub newly : draft.newly ≡ newly_tagged classes.tag draft.tags
  pub offers : draft.offers.items ≡ adverts_of proposal (declared_pids names) (tagged_by classes pool proposal groups)

-- the plan is the draft with the blocks of its pairs
pub record IsDrafted (draft : Draft) (proposal : Proposed) (built : List Block) (plan : Plan) : Type 0 where
  pub tags : plan.tags ≡ draft.tags
  pub drops : plan.drops ≡ draft.drops
  pub adds : plan.adds ≡ union_over flows_of built
  pub added : plan.added ≡ draft.built
  pub blocks : plan.blocks.items ≡ built
  pub fresh : plan.fresh.items ≡ draft.fresh.items
  pub emptied : plan.emptied.items ≡ draft.emptied.items
  pub dead : plan.dead.items ≡ draft.dead.items
  pub newly : plan.newly ≡ draft.newly
  pub offers : plan.offers.items ≡ draft.offers.items
  pub named : plan.named ≡ proposal.named
