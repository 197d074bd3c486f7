use Rattle.std.proofs.Common.{ℕ}
use Rattle.policy_compile.specs.declared.memo.Noted.{Noted}
use Rattle.policy_compile.specs.Groups.{IsMoved}
use Rattle.policy_compile.proofs.GroupLemmas.{all-moved, moved-put}
use Rattle.policy_compile.proofs.MemoLemmas.{all_noted}
use Rattle.policy_compile.proofs.ways.moved_number.Goals as goal

pub returns-in-Some-clause-number : goal.returns-in-Some-clause-number
returns-in-Some-clause-number c = c.requires.asked (record { key = c.args.number; value = c.in-Some.known }) c.in-Some.ensures

pub returns-clause-number : goal.returns-clause-number
returns-clause-number c =
    moved-put c.args.locations.now c.args.loc c.args.ways.now c.put.new.self.sets.items c.args.number c.in_ok-next.next c.index-ways-number.result c.in_ok-moved.field-0 c.requires.inside c.index-ways-number.is c.in_ok-next.ensures.number c.in_ok-moved.ensures

pub returns-clause-asked : goal.returns-clause-asked
returns-clause-asked c =
    let ls = c.args.locations.now in
    let loc = c.args.loc in
    let sets = c.args.ways.now in
    let new = c.put.new.self.sets.items in
    all_noted (λ (e : Noted ℕ ℕ). IsMoved ls loc sets new e.key e.value) c.args.asked.now.noted.items c.note.new.self.noted.items (record { key = c.args.number; value = c.in_ok-next.next }) c.note.ensures
    (all-moved ls loc sets c.args.made.now.sets.items new c.args.asked.now.noted.items c.in_ok-next.ensures.kept c.requires.asked)
    (moved-put ls loc sets new c.args.number c.in_ok-next.next c.index-ways-number.result c.in_ok-moved.field-0 c.requires.inside c.index-ways-number.is c.in_ok-next.ensures.number c.in_ok-moved.ensures)
