use Rattle.std.proofs.Common.{sym, subst}
use Rattle.plan_cases.proofs.Starts.{participant_declared}
use Rattle.plan_cases.specs.Parts.{AreDeclared}
use Rattle.plan_cases.proofs.declared.add_participant.Goals as goal

pub returns : goal.returns
returns c = subst AreDeclared (sym c.in_ok-add_participant.ensures.declared) (participant_declared c.args.names.now _ c.requires)
