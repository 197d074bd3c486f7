-- The pair's rules are put into its place among the entries.
use Rattle.std.proofs.Common.{ap, arith, length, sym, ◌∙◌}
use Rattle.std.specs.Prelude.{is_some}
use Rattle.match_switch.proofs.TableLemmas.{get_is, count_is, count_found, room_is, table_put, few_before, kept_put, count_put, room_put}
use Rattle.match_switch.proofs.switch.Switch.set.Goals as goal

pub put-before-requires : goal.put-before-requires
put-before-requires c =
    let spare = room_is c.self.inside.entries.items c.self.inside.rules _ c.self.inside.capacity c.self.invariant c.args.self.now c.self.view_is in
    record {
      room = λ none.
          let room = c.requires.room (get_is c.self.inside.entries.items c.self.inside.rules _ c.self.inside.capacity c.self.invariant c.args.self.now c.self.view_is c.args.pair ∙ none) in
          omega (arith, room, spare);
    }

pub overflow_add-self : goal.overflow_add-self
overflow_add-self c =
    let all = count_is c.self.inside.entries.items c.self.inside.rules _ c.self.inside.capacity c.self.invariant c.args.self.now c.self.view_is in
    let before = c.put-before.result in
    let found = count_found c.self.inside.entries.items c.self.inside.rules _ c.self.inside.capacity c.self.invariant c.args.self.now c.self.view_is c.args.pair before c.put-before.ensures.value c.count.result c.count.ensures in
    let few = few_before c.self.inside.entries.items c.self.inside.rules _ c.self.inside.capacity c.self.invariant c.args.self.now c.self.view_is c.args.pair before c.put-before.ensures.value c.count.result c.count.ensures in
    let added = ap length c.rules-added.ensures in
    omega (arith, all, found, few, c.requires.few, added)

pub overflow_sub-self : goal.overflow_sub-self
overflow_sub-self c =
    let few = few_before c.self.inside.entries.items c.self.inside.rules _ c.self.inside.capacity c.self.invariant c.args.self.now c.self.view_is c.args.pair c.put-before.result c.put-before.ensures.value c.count.result c.count.ensures in
    omega (arith, few)

pub invariant_of-self : goal.invariant_of-self
invariant_of-self c =
    kept_put c.self.inside.entries.items c.self.inside.rules _ c.self.inside.capacity c.self.invariant c.args.self.now c.self.view_is c.args.pair c.args.block c.put-before.new.self.items c.put-before.ensures.items c.put-before.result c.put-before.ensures.value (length c.rules-added.result.now) c.count.result (ap length c.rules-added.ensures) c.count.ensures

pub returns-clause-table : goal.returns-clause-table
returns-clause-table c =
    table_put c.self.inside.entries.items c.self.inside.rules _ c.self.inside.capacity c.self.invariant c.args.self.now c.self.view_is c.args.pair c.args.block c.put-before.new.self.items c.put-before.ensures.items

pub returns-clause-room : goal.returns-clause-room
returns-clause-room c =
    let there = get_is c.self.inside.entries.items c.self.inside.rules _ c.self.inside.capacity c.self.invariant c.args.self.now c.self.view_is c.args.pair in
    let same = ap is_some (c.put-before.ensures.value ∙ sym there) in
    let spare = room_is c.self.inside.entries.items c.self.inside.rules _ c.self.inside.capacity c.self.invariant c.args.self.now c.self.view_is in
    room_put _ _ _ _ _ spare same c.put-before.ensures.room

pub returns-clause-count : goal.returns-clause-count
returns-clause-count c =
    count_put c.self.inside.entries.items c.self.inside.rules _ c.self.inside.capacity c.self.invariant c.args.self.now c.self.view_is c.args.pair c.args.block c.put-before.new.self.items c.put-before.ensures.items
