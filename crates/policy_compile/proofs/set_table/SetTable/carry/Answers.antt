use Rattle.std.proofs.Common.{ℕ, subst, sym}
use Rattle.policy_compile.specs.declared.memo.Noted.{Noted}
use Rattle.policy_compile.specs.Columns.{IsCarried}
use Rattle.policy_compile.proofs.ColumnLemmas.{all-carried, carried-put}
use Rattle.policy_compile.proofs.MemoLemmas.{all_noted}
use Rattle.policy_compile.proofs.set_table.SetTable.carry.Goals as goal

pub returns-in-Some-clause-number : goal.returns-in-Some-clause-number
returns-in-Some-clause-number c = c.requires.asked (record { key = c.args.number; value = c.in-Some.known }) c.in-Some.ensures

pub returns-clause-number : goal.returns-clause-number
returns-clause-number c =
    carried-put c.args.sets.now c.put.new.self.sets.items c.args.number c.in_ok-carried.carried c.index-sets-number.result c.in_ok-copy.field-0 c.requires.inside c.index-sets-number.is c.in_ok-copy.ensures c.in_ok-carried.ensures.number

pub returns-clause-asked : goal.returns-clause-asked
returns-clause-asked c =
    let sets = c.args.sets.now in
    let new = c.put.new.self.sets.items in
    all_noted (λ (e : Noted ℕ ℕ). IsCarried sets new e.key e.value) c.args.asked.now.noted.items c.note.new.self.noted.items (record { key = c.args.number; value = c.in_ok-carried.carried }) c.note.ensures
    (all-carried sets c.args.self.now.sets.items new c.args.asked.now.noted.items c.in_ok-carried.ensures.kept c.requires.asked)
    (carried-put sets new c.args.number c.in_ok-carried.carried c.index-sets-number.result c.in_ok-copy.field-0 c.requires.inside c.index-sets-number.is c.in_ok-copy.ensures c.in_ok-carried.ensures.number)
