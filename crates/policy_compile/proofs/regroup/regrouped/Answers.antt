use Rattle.std.proofs.Common.{ℕ, List, sym, subst}
use Rattle.net_types.specs.Sets.{SameMembers, union_over}
use Rattle.policy_compile.specs.declared.columns.Columns.{Columns}
use Rattle.policy_compile.specs.declared.set_table.SetTable.{SetTable}
use Rattle.policy_compile.specs.Columns.{Places, given}
use Rattle.policy_compile.specs.Groups.{turned, ways_of}
use Rattle.policy_compile.specs.Given.{given_by}
use Rattle.policy_compile.proofs.GroupLemmas.{turned-twice}
use Rattle.policy_compile.proofs.regroup.regrouped.Goals as goal

pub returns : goal.returns
returns c = λ locations k.
    let old = c.args.groups.now in
    let by = c.in_ok-by_cubes.by_cubes in
    let made = c.in_ok-columns.columns in
    let new = c.from_parts.result in
    let once : (j : ℕ) → SameMembers (given by.sets.sets.items by.columns.items j) (turned old.ways.sets.items old.columns.columns.items j) = λ j.
    subst (λ (sets : List Places). SameMembers (given by.sets.sets.items by.columns.items j) (turned sets old.columns.columns.items j)) c.deref.ensures.value (c.in_ok-by_cubes.ensures.given j) in
    let twice : (j : ℕ) → SameMembers (given made.sets.sets.items made.columns.items j) (turned old.columns.sets.sets.items by.columns.items j) = λ j.
    subst (λ (sets : List Places). SameMembers (given made.sets.sets.items made.columns.items j) (turned sets by.columns.items j)) c.deref-2.ensures.value (c.in_ok-columns.ensures.given j) in
    subst (λ (t : SetTable). SameMembers (union_over (ways_of locations t.sets.items) (given new.columns.sets.sets.items new.columns.columns.items k)) (given_by locations old k)) (sym c.from_parts.ensures.ways)
    (subst (λ (cs : Columns). SameMembers (union_over (ways_of locations by.sets.sets.items) (given cs.sets.sets.items cs.columns.items k)) (given_by locations old k)) (sym c.from_parts.ensures.columns)
    (turned-twice locations old.ways.sets.items old.columns.sets.sets.items by.sets.sets.items made.sets.sets.items old.columns.columns.items by.columns.items made.columns.items once twice k))
