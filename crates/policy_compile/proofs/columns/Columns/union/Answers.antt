use Rattle.policy_compile.specs.declared.columns.Pair.{Pair}
use Rattle.policy_compile.proofs.ColumnLemmas.{columns-kept, union-made, union-noted}
use Rattle.policy_compile.proofs.columns.Columns.union.Goals as goal

pub returns-in-Some-clause-union : goal.returns-in-Some-clause-union
returns-in-Some-clause-union c = c.args.self.now.are.unions_are (record { key = record { first = c.args.first; second = c.args.second }; value = c.in-Some.number }) c.in-Some.ensures

pub invariant_of-self : goal.invariant_of-self
invariant_of-self c =
    let old = c.args.self.now in
    record { are = columns-kept old.sets.sets.items c.put.new.self.sets.items old.columns.items old.unions.noted.items old.places.noted.items c.put.ensures.kept old.are }

pub invariant_of-self-2 : goal.invariant_of-self-2
invariant_of-self-2 c =
    let old = c.args.self.now in
    let new = c.put.new.self.sets.items in
    let pair : Pair = record { first = c.args.first; second = c.args.second } in
    record {
      are = union-noted new old.columns.items old.unions.noted.items c.note.new.self.noted.items old.places.noted.items pair c.in_ok-number.number
          (columns-kept old.sets.sets.items new old.columns.items old.unions.noted.items old.places.noted.items c.put.ensures.kept old.are) c.note.ensures
          (union-made old.sets.sets.items new pair c.in_ok-number.number c.index.result.now c.index-2.result.now c.in_ok-both.both c.put.ensures.kept c.requires.first c.requires.second c.index.ensures c.index-2.ensures c.in_ok-both.ensures c.in_ok-number.ensures.number);
    }

pub returns-clause-union : goal.returns-clause-union
returns-clause-union c =
    let old = c.args.self.now in
    union-made old.sets.sets.items c.put.new.self.sets.items (record { first = c.args.first; second = c.args.second }) c.in_ok-number.number c.index.result.now c.index-2.result.now c.in_ok-both.both
    c.put.ensures.kept c.requires.first c.requires.second c.index.ensures c.index-2.ensures c.in_ok-both.ensures c.in_ok-number.ensures.number
