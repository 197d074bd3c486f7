use Rattle.std.proofs.Common.{sym, ◌∙◌, refl}
use Rattle.std.specs.Prelude.{Some, None}
use Rattle.route_server.proofs.ChoiceSteps.{best_is}
use Rattle.route_server.proofs.choices.best_at.Goals as goal

pub returns-in-Some : goal.returns-in-Some
returns-in-Some c = λ r row all. best_is r row c.args.seen.now c.look.new.looks.items c.args.given.now (Some c.in-Some.chosen) c.place_at.result all c.in_ok-look.ensures
    (λ cs e. c.in-Some.ensures.best cs (e ∙ sym c.as_slice.ensures.value)) c.place_at.ensures

pub returns-in-None : goal.returns-in-None
returns-in-None c = λ r row all. best_is r row c.args.seen.now c.look.new.looks.items c.args.given.now None None all c.in_ok-look.ensures
    (λ cs e. c.in-None.ensures.best cs (e ∙ sym c.as_slice.ensures.value)) refl
