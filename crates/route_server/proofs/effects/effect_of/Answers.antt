use Rattle.std.proofs.Common.{subst, sym, ap, ◌∙◌, refl}
use Rattle.route_server.specs.Choices.{AreChosen}
use Rattle.route_server.specs.Rows.{settled_by, signature_of}
use Rattle.route_server.proofs.ChoiceLaws.{chosen_bests}
use Rattle.route_server.proofs.effects.effect_of.Goals as goal

pub returns : goal.returns
returns c =
    let s = settled_by c.args.after in
    let p = c.args.change.now.prefix in
    let row_is = c.items-row.ensures in
    record {
      differs = sym c.in_ok-same.ensures ∙ c.if-same.false;
      at_is = refl;
      prefix_is = refl;
      sig = c.in_ok-new.ensures.ok ∙ c.in_ok-sig.ensures ∙ ap (signature_of s p) row_is;
      bests = chosen_bests s p c.args.change.now.row c.in_ok-bests.bests.items (subst (λ row. AreChosen s p row c.in_ok-bests.bests.items) row_is c.in_ok-bests.ensures);
    }
