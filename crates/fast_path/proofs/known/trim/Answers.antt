use Rattle.std.proofs.Common.{◌≡◌, Bool, cond, filter, eq-eqb, sym, ap, ◌∙◌, rules}
use Rattle.std.proofs.lemmas.Fn.{filter_same}
use Rattle.net_types.specs.Signatures.{counts}
use Rattle.net_types.specs.declared.route.Offer.{Offer}
use Rattle.net_types.specs.declared.route.Part.{Part}
use Rattle.fast_path.proofs.known.trim.Goals as goal

pub returns-then-part-who : goal.returns-then-part-who
returns-then-part-who c =
    let part : Part = c.args.part.now in
    let test : Offer → Bool = λ o. counts c.args.pids.now part.best o.exporter in
    let kept : c.retain.new.self ≡ filter test part.offers = filter_same _ test _ (λ x b q k. search rules) _ _ c.retain.ensures.filtered in
    (λ i. let all : Part = record part { offers = kept i } in all) ∙ ap (λ b. let all : Part = cond b (record part { offers = filter test part.offers }) part in all) (sym (eq-eqb part.sender.0 c.args.who.0 c.if-part-who.true))
