-- As many as are at most the tag, less those below it.
use Rattle.std.proofs.Common.{rules}
use Rattle.std.proofs.Math.Dec.{leb, ltb}
use Rattle.std.proofs.lemmas.List.Sorted.{IsPartitionPoint-from_clause, IsPartitionedBy-leb, IsPartitionedBy-ltb}
use Rattle.net_types.specs.declared.address.Tag.{Tag}
use Rattle.fast_path.proofs.CountedTags.{count_is}
use Rattle.fast_path.proofs.emptied.count_of.Goals as goal

pub overflow_sub-result : goal.overflow_sub-result
overflow_sub-result c =
    (count_is c.args.tag c.args.tags.now _ _ c.partition_point-below.ensures.bound c.partition_point-through.ensures.bound
    (IsPartitionPoint-from_clause (λ (u : Tag). ltb u.0 c.args.tag.0) _ _ c.partition_point-below.ensures.partitioned (IsPartitionedBy-ltb (λ (u : Tag). u.0) _ c.args.tag.0 c.requires) (λ a r q k. search rules))
    (IsPartitionPoint-from_clause (λ (u : Tag). leb u.0 c.args.tag.0) _ _ c.partition_point-through.ensures.partitioned (IsPartitionedBy-leb (λ (u : Tag). u.0) _ c.args.tag.0 c.requires) (λ a r q k. search rules))).0

pub returns : goal.returns
returns c =
    (count_is c.args.tag c.args.tags.now _ _ c.partition_point-below.ensures.bound c.partition_point-through.ensures.bound
    (IsPartitionPoint-from_clause (λ (u : Tag). ltb u.0 c.args.tag.0) _ _ c.partition_point-below.ensures.partitioned (IsPartitionedBy-ltb (λ (u : Tag). u.0) _ c.args.tag.0 c.requires) (λ a r q k. search rules))
    (IsPartitionPoint-from_clause (λ (u : Tag). leb u.0 c.args.tag.0) _ _ c.partition_point-through.ensures.partitioned (IsPartitionedBy-leb (λ (u : Tag). u.0) _ c.args.tag.0 c.requires) (λ a r q k. search rules))).1
