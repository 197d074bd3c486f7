-- One more group.
use Rattle.std.proofs.Common.{◌+◌, drop, sym, ap, ◌∙◌}
use Rattle.classifier.specs.Runs.{lines_in}
use Rattle.block_build.proofs.ClosedLemmas.{first_here, first_later, groups_more}
use Rattle.block_build.specs.Closed.{first_holding}
use Rattle.block_build.specs.Groups.{lines_within}
use Rattle.block_build.proofs.holding.first_holding.Goals as goal

pub returns-in-Some : goal.returns-in-Some
returns-in-Some c =
    let group = c.group-item.result in
    sym (ap (first_holding c.args.cube.now) (groups_more c.args.groups.now c.loop-group.group-index c.group-item.result c.loop-group-test.true c.group-item.is)
    ∙ first_here c.args.cube.now (lines_in group.runs.items) (lines_within (drop (c.loop-group.group-index + 1) c.args.groups.now)) c.in-Some.y.now (sym c.in-Some.ensures))
    ∙ c.loop-group.invariant

pub loop-group-preserved : goal.loop-group-preserved
loop-group-preserved c =
    let group = c.group-item.result in
    sym (ap (first_holding c.args.cube.now) (groups_more c.args.groups.now c.loop-group.group-index c.group-item.result c.loop-group-test.true c.group-item.is)
    ∙ first_later c.args.cube.now (lines_in group.runs.items) (lines_within (drop (c.loop-group.group-index + 1) c.args.groups.now)) (sym c.in_default.ensures))
    ∙ c.loop-group.invariant
