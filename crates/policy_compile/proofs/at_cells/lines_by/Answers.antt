use Rattle.std.proofs.Common.{List, ap, ◌∙◌, subst}
use Rattle.std.specs.List.{slice_get}
use Rattle.net_types.specs.declared.cube.Cube.{Cube}
use Rattle.net_types.proofs.SetLemmas
use Rattle.policy_syntax.specs.Views.{policy_of}
use Rattle.policy_compile.specs.Given.{AreMade, given_by}
use Rattle.policy_compile.proofs.RowLemmas.{rules-at}
use Rattle.policy_compile.proofs.at_cells.lines_by.Goals as goal

pub returns : goal.returns
returns g c =
    let pid_of = g.N.Names.pid_of c.args.names.now in
    let p = policy_of c.args.tree.now in
    let cubes = c.args.cubes.now in
    let ls = c.args.locations.now in
    let start = c.in_ok-start.start in
    let made = c.in_ok-made.made in
    let same = c.in_ok-within.ensures in
    rules-at pid_of p cubes (given_by ls start) (given_by ls made) c.in_ok-lines.lines.items c.in_ok-lines.ensures.cubes
    (λ k m there. c.in_ok-start.ensures k m (ap (λ (cs : List Cube). slice_get cs k) same ∙ there))
    (subst (λ (cs : List Cube). AreMade pid_of p ls cs start made) same c.in_ok-made.ensures.made)
    (λ k x at. SetLemmas.same_trans (c.in_ok-lines.ensures.gives k x at) (c.in_ok-columns.ensures k))
