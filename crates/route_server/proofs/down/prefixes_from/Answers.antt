use Rattle.std.proofs.Common.{sym, ap, ◌∙◌, filter, take, true, false, Bool, ◌++◌, ◌∷◌, [], append-nil}
use Rattle.std.specs.Prelude.{is_some}
use Rattle.std.specs.FinMap.{get}
use Rattle.std.proofs.lemmas.List.{take_all}
use Rattle.net_types.specs.declared.prefix.Prefix.{Prefix}
use Rattle.route_server.proofs.DownLaws.{carries, filter_step}
use Rattle.route_server.proofs.down.prefixes_from.Goals as goal
use Rattle.route_server.proofs.down.prefixes_from.Goals.{then-has+in_ok-push, else-has}

pub loop-prefix-preserved : goal.loop-prefix-preserved
loop-prefix-preserved c =
    let t : Prefix → Bool = λ p. is_some (get c.args.server.now.routes (record { from = c.args.from; prefix = p })) in
    let xs = c.as_slice-prefix-items.result.now in
    let i = c.loop-prefix.prefix-index in
    let x = c.prefix-item.result in
    let is = ap is_some (c.row.ensures.routes c.args.from) ∙ sym c.has.ensures in
    elim c.if-has.branch [
      | then-has+in_ok-push w ↦ ap (λ v. v.items) w.prefixes-is ∙ w.in_ok-push.ensures.items ∙ ap (λ ps. ps ++ x ∷ []) c.loop-prefix.invariant
          ∙ sym (filter_step t xs i x true c.loop-prefix-test.true c.prefix-item.is (is ∙ w.if-has.true))
      | else-has w ↦ ap (λ v. v.items) w.prefixes-is ∙ c.loop-prefix.invariant
          ∙ sym (filter_step t xs i x false c.loop-prefix-test.true c.prefix-item.is (is ∙ w.if-has.false) ∙ append-nil (filter t (take i xs)))
    ]

pub returns : goal.returns
returns c =
    let t : Prefix → Bool = λ p. is_some (get c.args.server.now.routes (record { from = c.args.from; prefix = p })) in
    carries c.args.server.now.routes c.args.from c.in_ok-listed.listed.items c.loop-prefix.prefixes.items c.in_ok-listed.ensures
    (c.loop-prefix.invariant ∙ ap (filter t) (take_all c.loop-prefix.prefix-index c.as_slice-prefix-items.result.now c.loop-prefix-test.false ∙ c.as_slice-prefix-items.ensures.value))
