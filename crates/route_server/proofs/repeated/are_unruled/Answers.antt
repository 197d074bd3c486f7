use Rattle.std.proofs.Common.{take, length, sym, ◌∙◌, ap, subst, ◌++◌, ◌∷◌, []}
use Rattle.std.proofs.lemmas.Bool.{eqb-true}
use Rattle.std.proofs.lemmas.List.{nil_from_length, take_more}
use Rattle.route_server.specs.Repeated.{AreUnruled}
use Rattle.route_server.proofs.RepeatLaws.{unruled_more}
use Rattle.route_server.proofs.repeated.are_unruled.Goals as goal

pub loop-own-preserved : goal.loop-own-preserved
loop-own-preserved c =
    let xs = c.args.rules.now in
    let at = c.loop-own.own-index in
    let own = c.own-item.result in
    subst AreUnruled (ap (λ x. take at xs ++ x ∷ []) c.own-item.is ∙ sym (take_more xs at own c.loop-own-test.true))
    (unruled_more (take at xs) own c.loop-own.invariant (nil_from_length own (eqb-true (length own) 0 (sym c.is_empty.ensures ∙ c.if-not-is_empty.false))))
