use Rattle.std.proofs.lemmas.Option.{slice_get_within}
use Rattle.policy_compile.proofs.ColumnLemmas.{columns-kept}
use Rattle.policy_compile.proofs.stages.number_of.Goals as goal

pub invariant_of-columns : goal.invariant_of-columns
invariant_of-columns c =
    let old = c.args.columns.now in
    record { are = columns-kept old.sets.sets.items c.put.new.self.sets.items old.columns.items old.unions.noted.items old.places.noted.items c.put.ensures.kept old.are }

pub returns-clause-inside : goal.returns-clause-inside
returns-clause-inside c = slice_get_within c.put.new.self.sets.items c.in_ok-number.number c.args.places c.in_ok-number.ensures.number
