use Rattle.std.proofs.Common.{◌∙◌, List, length, sym, ap, subst}
use Rattle.net_types.specs.Sets.{union_over}
use Rattle.policy_syntax.specs.Views.{pred_of}
use Rattle.policy_compile.specs.declared.columns.Columns.{Columns}
use Rattle.policy_compile.specs.declared.set_table.SetTable.{SetTable}
use Rattle.policy_compile.specs.Columns.{AreBelow, Places, given}
use Rattle.policy_compile.specs.Groups.{ways_of}
use Rattle.policy_compile.specs.Paths.{pred_at}
use Rattle.policy_compile.proofs.GroupLemmas.{spread-filtered}
use Rattle.policy_compile.proofs.stages.kept.Goals as goal

pub from_parts-requires : goal.from_parts-requires
from_parts-requires c =
    let old = c.args.groups.now in
    let made = c.in_ok-columns.columns in
    subst (λ (sets : List Places). AreBelow (length sets) made.columns.items) (sym c.in_ok-ways.ensures) (c.in_ok-columns.ensures.below (length old.ways.sets.items) old.are)

pub returns-clause-kept : goal.returns-clause-kept
returns-clause-kept c = λ k m there.
    let ls = c.args.locations.now in
    let p = pred_of c.args.pred.now in
    let old = c.args.groups.now in
    let made = c.in_ok-columns.columns in
    let new = c.from_parts.result in
    ap (λ (t : SetTable). union_over (ways_of ls t.sets.items) (given new.columns.sets.sets.items new.columns.columns.items k)) c.from_parts.ensures.ways
    ∙ ap (λ (cs : Columns). union_over (ways_of ls c.in_ok-ways.ways.sets.items) (given cs.sets.sets.items cs.columns.items k)) c.from_parts.ensures.columns
    ∙ ap (λ (sets : List Places). union_over (ways_of ls sets) (given made.sets.sets.items made.columns.items k)) c.in_ok-ways.ensures
    ∙ ap (union_over (ways_of ls old.ways.sets.items)) (c.in_ok-columns.ensures.kept k m there)
    ∙ spread-filtered (λ a. pred_at m a p) ls old.ways.sets.items (given old.columns.sets.sets.items old.columns.columns.items k)
