use Rattle.std.proofs.Common.{List, sym, subst}
use Rattle.net_types.specs.declared.cube.Cube.{Cube}
use Rattle.policy_syntax.specs.Views.{pred_of}
use Rattle.policy_compile.specs.Columns.{AreKept}
use Rattle.policy_compile.proofs.StageLemmas.{kept-made, kept-noted}
use Rattle.policy_compile.proofs.stages.kept_number.Goals as goal

pub returns-in-Some-clause-number : goal.returns-in-Some-clause-number
returns-in-Some-clause-number c = c.requires.asked (record { key = c.args.tested; value = c.in-Some.number }) c.in-Some.ensures

pub returns-clause-number : goal.returns-clause-number
returns-clause-number c =
    kept-made c.of_pred.new.self.cubes.now (pred_of c.args.pred.now) c.args.sets.now c.number_of.new.columns.sets.sets.items c.args.tested c.in_ok-number.number c.index-sets-tested.result c.in_ok-places.places c.in_ok-outcome.outcome
    c.requires.places c.index-sets-tested.is c.in_ok-outcome.ensures.tells c.in_ok-places.ensures c.in_ok-number.ensures.inside c.in_ok-number.ensures.is

pub returns-clause-asked : goal.returns-clause-asked
returns-clause-asked c =
    let cubes = c.of_pred.new.self.cubes.now in
    let p = pred_of c.args.pred.now in
    let sets = c.args.sets.now in
    let old = c.args.made.now.sets.sets.items in
    let new = c.number_of.new.columns.sets.sets.items in
    kept-noted cubes p sets old new c.args.asked.now.noted.items c.note.new.self.noted.items c.args.tested c.in_ok-number.number c.in_ok-number.ensures.kept
    (subst (λ (xs : List Cube). AreKept xs p sets old c.args.asked.now.noted.items) (sym c.of_pred.ensures.cubes) c.requires.asked) c.note.ensures
    (kept-made cubes p sets new c.args.tested c.in_ok-number.number c.index-sets-tested.result c.in_ok-places.places c.in_ok-outcome.outcome
    c.requires.places c.index-sets-tested.is c.in_ok-outcome.ensures.tells c.in_ok-places.ensures c.in_ok-number.ensures.inside c.in_ok-number.ensures.is)
