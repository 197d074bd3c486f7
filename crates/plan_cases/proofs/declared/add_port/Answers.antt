use Rattle.std.proofs.Common.{◌≡◌, arith, ap, length, refl, sym, subst}
use Rattle.std.proofs.lemmas.Bool.{false_from_ne_true}
use Rattle.plan_cases.proofs.Starts.{port_declared}
use Rattle.plan_cases.specs.Parts.{AreDeclared}
use Rattle.plan_cases.proofs.declared.add_port.Goals as goal

pub returns : goal.returns
returns c =
    let count : length c.participants-there.result.now ≡ length c.args.names.now.participants = ap length c.participants-there.ensures.all in
    subst AreDeclared (sym c.in_ok-add_port.ensures.declared)
    (port_declared c.args.names.now _ (false_from_ne_true _ (λ taken. let never = c.in_ok-add_port.ensures.taken.1 taken in absurd (cc))) refl (omega (arith, c.if-owner-there.false, count)) (omega (arith, c.if-number-eq0.false), omega (arith, c.if-number-gt255.false)) c.requires)
