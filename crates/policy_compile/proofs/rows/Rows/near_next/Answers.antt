use Rattle.std.proofs.Common.{arith, ◌≡◌, ◌<◌, ◌-◌, ◌/◌, length, subst}
use Rattle.policy_compile.specs.Rows.{AreNear}
use Rattle.policy_compile.proofs.rows.Rows.near_next.Goals as goal

pub returns : goal.returns
returns c =
    let place = c.args.place in
    let later : 0 < place = omega (arith, c.if-place-eq0.false) in
    let same : (place - 1) / 64 ≡ place / 64 = omega (arith, c.if-place-eq0.false) in
    subst (λ word. AreNear c.args.sets.now c.args.self.now word (length c.args.sets.now) c.args.before.items) same (c.requires.before later)
