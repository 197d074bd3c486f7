-- What the entries have of the pair is what the table has, and some of all.
use Rattle.std.proofs.Common.{ap, length, sym, ◌∙◌, arith, refl}
use Rattle.std.specs.Prelude.{option_copied}
use Rattle.match_switch.proofs.TableLemmas.{count_found, count_is, few_before}
use Rattle.match_switch.proofs.switch.Switch.count_of.Goals as goal

pub returns-in-None-clause-count : goal.returns-in-None-clause-count
returns-in-None-clause-count c =
    count_found c.self.inside.entries.items c.self.inside.rules _ c.self.inside.capacity c.self.invariant c.args.self.now c.self.view_is c.args.pair _
    (sym (ap option_copied c.in-None.is) ∙ c.get.ensures) 0 refl

pub returns-in-Some-clause-count : goal.returns-in-Some-clause-count
returns-in-Some-clause-count c =
    count_found c.self.inside.entries.items c.self.inside.rules _ c.self.inside.capacity c.self.invariant c.args.self.now c.self.view_is c.args.pair _
    (sym (ap option_copied c.in-Some.is) ∙ c.get.ensures) (length c.rules.result.now) (ap length c.rules.ensures)

pub returns-in-Some-clause-within : goal.returns-in-Some-clause-within
returns-in-Some-clause-within c =
    let few = few_before c.self.inside.entries.items c.self.inside.rules _ c.self.inside.capacity c.self.invariant c.args.self.now c.self.view_is c.args.pair _
    (sym (ap option_copied c.in-Some.is) ∙ c.get.ensures) (length c.rules.result.now) (ap length c.rules.ensures) in
    let all = count_is c.self.inside.entries.items c.self.inside.rules _ c.self.inside.capacity c.self.invariant c.args.self.now c.self.view_is in
    omega (arith, few, all)
