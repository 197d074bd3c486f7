use Rattle.job_end.proofs.PlannedEnds.{all_told, planned_end}
use Rattle.job_end.proofs.planning.plan_end.Goals as goal

pub drafted-requires : goal.drafted-requires
drafted-requires g c = all_told c.requires.0 c.args.names.now c.args.classes.now c.args.adverts.now (g.B.Blocks.installed c.args.switch.now) c.args.swap.now c.requires.1

pub returns : goal.returns
returns g c = λ s ending. planned_end s c.args.names.now c.args.classes.now c.args.adverts.now (g.B.Blocks.installed c.args.switch.now) c.args.swap.now ending c.in_ok-end.end c.in_ok-end.ensures
