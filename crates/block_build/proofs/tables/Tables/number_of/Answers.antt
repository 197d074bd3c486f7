-- The table that was found is that of the cubes.
use Rattle.std.proofs.Common.{List, subst}
use Rattle.net_types.specs.declared.cube.Cube.{Cube}
use Rattle.block_build.specs.Tables.{IsAt}
use Rattle.block_build.proofs.tables.Tables.number_of.Goals as goal

pub returns-in-Some-clause-number : goal.returns-in-Some-clause-number
returns-in-Some-clause-number c = subst (λ (cubes : List Cube). IsAt c.args.self.now.all.items cubes c.in-Some.number) c.deref.ensures.value c.in-Some.ensures
