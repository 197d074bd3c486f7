use Rattle.std.proofs.Common.{Option, IfSome, [], refl, sym, ap, ◌∙◌, subst}
use Rattle.net_types.specs.Headers.{no_change}
use Rattle.net_types.specs.Policies as model
use Rattle.net_types.specs.Policies.{to_participant}
use Rattle.net_types.specs.declared.headers.Loc.TheVariants.{To, Out}
use Rattle.policy_syntax.specs.Views.{target_of}
use Rattle.policy_compile.specs.Given.{given_by}
use Rattle.net_types.specs.declared.address.Pid.{Pid}
use Rattle.net_types.specs.Sets.{Member}
use Rattle.policy_compile.specs.Covered.{IsCovered}
use Rattle.policy_compile.specs.Paths.{AreVisits}
use Rattle.policy_compile.proofs.CoverLemmas.{closed-out, closed-to, ok-map}
use Rattle.policy_compile.proofs.PathLemmas.{visits-after, visits-lost}
use Rattle.policy_compile.proofs.stages.forwarded.Goals as goal

pub after-requires : goal.after-requires
after-requires g c =
    let pid_of = g.N.Names.pid_of c.args.names.now in
    closed-out c.args.locations.now c.in-Number.port (subst (λ t. IsCovered pid_of (target_of t) c.args.locations.now) c.in-Number.is c.requires)

pub after-requires-in-Some : goal.after-requires-in-Some
after-requires-in-Some g c =
    let ls = c.args.locations.now in
    let pid_of = g.N.Names.pid_of c.args.names.now in
    let who = c.in-Some.who in
    closed-to ls who (subst (λ (o : Option Pid). IfSome o (λ (w : Pid). Member (To w) ls)) (sym c.find.ensures ∙ c.in-Some.is) (subst (λ t. IsCovered pid_of (target_of t) ls) c.in-Name.is c.requires))

pub returns-in-Number : goal.returns-in-Number
returns-in-Number g c =
    ok-map c.after.result _ _ (λ made same. λ cubes span k m there.
    let ls = c.args.locations.now in
    let pid_of = g.N.Names.pid_of c.args.names.now in
    let items = given_by ls c.args.groups.now k in
    subst (λ t. AreVisits pid_of (model.Fwd (target_of t) span) m items [] (given_by ls made k)) (sym c.in-Number.is)
    (visits-after pid_of (model.Fwd (model.Number c.in-Number.port) span) m items no_change (Out c.in-Number.port) (λ h l. refl) refl (given_by ls made k) _ c.none.ensures (same k))) c.after.ensures

pub returns-in-Some : goal.returns-in-Some
returns-in-Some g c =
    let who = c.in-Some.who in
    ok-map c.after-in-Some.result _ _ (λ made same. λ cubes span k m there.
    let ls = c.args.locations.now in
    let pid_of = g.N.Names.pid_of c.args.names.now in
    let items = given_by ls c.args.groups.now k in
    subst (λ t. AreVisits pid_of (model.Fwd (target_of t) span) m items [] (given_by ls made k)) (sym c.in-Name.is)
    (visits-after pid_of (model.Fwd (model.Name c.in-Name.name.now) span) m items no_change (To who) (λ h l. ap (to_participant h) (sym c.find.ensures ∙ c.in-Some.is)) refl (given_by ls made k) _ c.none-in-Some.ensures (same k))) c.after-in-Some.ensures

pub returns-in-None : goal.returns-in-None
returns-in-None g c = λ cubes span k m there.
    let ls = c.args.locations.now in
    let pid_of = g.N.Names.pid_of c.args.names.now in
    let items = given_by ls c.args.groups.now k in
    subst (λ made. AreVisits pid_of (model.Fwd (target_of c.args.target) span) m items [] made) (sym (c.new.ensures ls k))
    (subst (λ t. AreVisits pid_of (model.Fwd (target_of t) span) m items [] []) (sym c.in-Name.is)
    (visits-lost pid_of (model.Fwd (model.Name c.in-Name.name.now) span) m items (λ h l. ap (to_participant h) (sym c.find.ensures ∙ c.in-None.is))))
