use Rattle.std.proofs.Common.{ap, ◌∙◌}
use Rattle.policy_compile.specs.Columns.{given}
use Rattle.policy_compile.proofs.ColumnLemmas.{below-if_pushed, columns-if_pushed, given-pushed}
use Rattle.policy_compile.proofs.columns.Columns.push.Goals as goal

pub invariant_of-self : goal.invariant_of-self
invariant_of-self c =
    let old = c.args.self.now in
    record { are = columns-if_pushed _ old.sets.sets.items old.columns.items c.push.new.self.items old.unions.noted.items old.places.noted.items (record { key = c.args.key; set = c.args.set }) c.push.ensures.items c.requires old.are }

pub returns-clause-given : goal.returns-clause-given
returns-clause-given c = λ k.
    let old = c.args.self.now in
    ap (λ cs. given old.sets.sets.items cs k) c.in_ok-push.ensures.items ∙ given-pushed old.sets.sets.items old.columns.items (record { key = c.args.key; set = c.args.set }) k

pub returns-clause-below : goal.returns-clause-below
returns-clause-below c = λ n are inside. below-if_pushed _ n c.args.self.now.columns.items c.push.new.self.items (record { key = c.args.key; set = c.args.set }) c.push.ensures.items are inside

pub returns-in_err-push-clause-below : goal.returns-in_err-push-clause-below
returns-in_err-push-clause-below c = λ n are inside. below-if_pushed _ n c.args.self.now.columns.items c.push.new.self.items (record { key = c.args.key; set = c.args.set }) c.push.ensures.items are inside
