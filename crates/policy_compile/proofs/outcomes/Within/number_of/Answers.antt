use Rattle.std.proofs.Common.{◌∙◌}
use Rattle.policy_compile.proofs.OutcomeLemmas.{within-last, within-noted}
use Rattle.policy_compile.proofs.outcomes.Within.number_of.Goals as goal

pub returns-in-Some-clause-number : goal.returns-in-Some-clause-number
returns-in-Some-clause-number c = c.args.self.now.are.found_are (record { key = c.args.outer.now; value = c.in-Some.number }) c.in-Some.ensures

pub invariant_of-self-2 : goal.invariant_of-self-2
invariant_of-self-2 c =
    let old = c.args.self.now in
    let more = c.push.new.self.items in
    let last = c.len-number.ensures ∙ old.sets.ok.0 in
    record {
      are = within-noted old.cubes.now old.all old.sets.items more old.found.noted.items c.note.new.self.noted.items c.in_ok-places.places c.args.outer.now c.len-number.result old.are c.in_ok-push.ensures.items c.note.ensures
          (within-last old.cubes.now old.sets.items more c.in_ok-places.places c.args.outer.now c.len-number.result c.in_ok-push.ensures.items last c.in_ok-places.ensures);
    }

pub returns-clause-number : goal.returns-clause-number
returns-clause-number c =
    let old = c.args.self.now in
    within-last old.cubes.now old.sets.items c.push.new.self.items c.in_ok-places.places c.args.outer.now c.len-number.result c.in_ok-push.ensures.items (c.len-number.ensures ∙ old.sets.ok.0) c.in_ok-places.ensures
