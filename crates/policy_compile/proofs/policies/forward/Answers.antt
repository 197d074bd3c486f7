use Rattle.std.proofs.Common.{List}
use Rattle.net_types.specs.declared.headers.Assign.{Assign}
use Rattle.net_types.specs.declared.headers.Loc.{Loc}
use Rattle.classifier.specs.Items.{Item}
use Rattle.std.proofs.Common.{◌∷◌, [], refl, ◌∙◌, sym, ap, subst}
use Rattle.net_types.specs.Headers.{no_change}
use Rattle.net_types.specs.Policies as model
use Rattle.net_types.specs.declared.headers.Loc.TheVariants.{To, Out}
use Rattle.policy_syntax.specs.Views.{target_of}
use Rattle.classifier.specs.Compiled.{IsCompiled}
use Rattle.classifier.proofs.CompileLemmas
use Rattle.policy_compile.proofs.policies.forward.Goals as goal

abbrev only : Assign → Loc → List Item
only m l = (m, l) ∷ []

pub returns-in_ok-out-in-Number : goal.returns-in_ok-out-in-Number
returns-in_ok-out-in-Number g c span =
    let f = c.in_ok-out-in-Number.ensures in
    subst (λ x. IsCompiled (g.N.Names.pid_of c.args.names.now) (model.Fwd (target_of x) span) c.in_ok-out-in-Number.out) (sym c.in-Number.is)
    (CompileLemmas.compiled-items c.in_ok-only-in-Number.field-0 (only no_change (Out c.in-Number.port)) c.in_ok-out-in-Number.out (c.in_ok-only-in-Number.ensures ∙ ap (λ m. only m (Out c.in-Number.port)) c.none.ensures) f.all f.cubes f.assigns (g.N.Names.pid_of c.args.names.now) (model.Fwd (model.Number c.in-Number.port) span) (λ h l. refl) (λ m k. k))

pub returns-in_ok-sent-in-Some : goal.returns-in_ok-sent-in-Some
returns-in_ok-sent-in-Some g c span =
    let f = c.in_ok-sent-in-Some.ensures in
    let found = sym c.find.ensures ∙ c.in-Some.is in
    subst (λ x. IsCompiled (g.N.Names.pid_of c.args.names.now) (model.Fwd (target_of x) span) c.in_ok-sent-in-Some.sent) (sym c.in-Name.is)
    (CompileLemmas.compiled-items c.in_ok-only-in-Some.field-0 (only no_change (To c.in-Some.who)) c.in_ok-sent-in-Some.sent (c.in_ok-only-in-Some.ensures ∙ ap (λ m. only m (To c.in-Some.who)) c.none-in-Some.ensures) f.all f.cubes f.assigns (g.N.Names.pid_of c.args.names.now) (model.Fwd (model.Name c.in-Name.name.now) span)
    (λ h l. sym (ap (model.to_participant h) found)) (λ m k. k))

pub returns-in_ok-lost-in-None : goal.returns-in_ok-lost-in-None
returns-in_ok-lost-in-None g c span =
    let f = c.in_ok-lost-in-None.ensures in
    let found = sym c.find.ensures ∙ c.in-None.is in
    subst (λ x. IsCompiled (g.N.Names.pid_of c.args.names.now) (model.Fwd (target_of x) span) c.in_ok-lost-in-None.lost) (sym c.in-Name.is)
    (CompileLemmas.compiled-items c.new.result [] c.in_ok-lost-in-None.lost c.new.ensures f.all f.cubes f.assigns (g.N.Names.pid_of c.args.names.now) (model.Fwd (model.Name c.in-Name.name.now) span)
    (λ h l. sym (ap (model.to_participant h) found)) (CompileLemmas.among-none (no_change ∷ [])))
