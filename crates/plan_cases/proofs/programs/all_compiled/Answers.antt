use Rattle.std.proofs.Common.{◌≡◌, ◌+◌, ◌++◌, ◌∷◌, [], sym, subst, take, ◌∙◌, ap}
use Rattle.std.proofs.lemmas.List.{take_more}
use Rattle.registry.specs.Registered.{named}
use Rattle.plan_cases.proofs.Compiled.{one_more}
use Rattle.plan_cases.specs.Policies.{AreCompiled}
use Rattle.plan_cases.specs.declared.policies.Texts.{Texts}
use Rattle.plan_cases.specs.declared.programs.Programs.{Programs}
use Rattle.plan_cases.proofs.programs.all_compiled.Goals as goal

pub loop-texts-preserved : goal.loop-texts-preserved
loop-texts-preserved c =
    let names = named c.args.names.now in
    let item : Texts = c.texts-item.result in
    let made : Programs = record { outbound = c.in_ok-outbound.outbound; inbound = c.in_ok-inbound.inbound } in
    let more : take (c.loop-texts.texts-index + 1) c.args.all.now ≡ take c.loop-texts.texts-index c.args.all.now ++ item ∷ [] =
    take_more c.args.all.now c.loop-texts.texts-index item c.loop-texts-test.true ∙ ap (λ (x : Texts). take c.loop-texts.texts-index c.args.all.now ++ x ∷ []) (sym c.texts-item.is) in
    subst (λ bs. AreCompiled names (take (c.loop-texts.texts-index + 1) c.args.all.now) bs) (sym c.in_ok-push.ensures.items)
    (subst (λ ts. AreCompiled names ts (c.loop-texts.programs.items ++ made ∷ [])) (sym more)
    (one_more names (take c.loop-texts.texts-index c.args.all.now) c.loop-texts.programs.items item made c.loop-texts.invariant c.in_ok-outbound.ensures c.in_ok-inbound.ensures))
