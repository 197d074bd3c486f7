use Rattle.std.proofs.Common.{subst}
use Rattle.policy_syntax.specs.Views.{policy_of}
use Rattle.policy_compile.specs.Covered.{Covers}
use Rattle.policy_compile.proofs.CoverLemmas.{covers-kept}
use Rattle.policy_compile.proofs.locations.+push_locations.Goals as goal

pub returns-in_ok-push_locations-in-Both-2-clause-there : goal.returns-in_ok-push_locations-in-Both-2-clause-there
returns-in_ok-push_locations-in-Both-2-clause-there g t c =
    let pid_of = g.N.Names.pid_of c.args.names.now in
    let between = c.push_locations.new.locations.items in
    let all = c.push_locations-in-Both.new.locations.items in
    subst (λ p. Covers pid_of p all) c.in-Both.ensures
    (covers-kept pid_of (policy_of c.in-Both.first.now) between all c.push_locations-in-Both.ensures.kept c.in_ok-push_locations-in-Both.ensures.there, c.in_ok-push_locations-in-Both-2.ensures.there)

pub returns-in_ok-push_locations-in-Then-2-clause-there : goal.returns-in_ok-push_locations-in-Then-2-clause-there
returns-in_ok-push_locations-in-Then-2-clause-there g t c =
    let pid_of = g.N.Names.pid_of c.args.names.now in
    let between = c.push_locations-in-Then.new.locations.items in
    let all = c.push_locations-in-Then-2.new.locations.items in
    subst (λ p. Covers pid_of p all) c.in-Then.ensures
    (covers-kept pid_of (policy_of c.in-Then.first.now) between all c.push_locations-in-Then-2.ensures.kept c.in_ok-push_locations-in-Then.ensures.there, c.in_ok-push_locations-in-Then-2.ensures.there)
