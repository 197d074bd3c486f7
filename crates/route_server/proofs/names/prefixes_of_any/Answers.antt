use Rattle.std.proofs.Common.{sym, ap, ◌∙◌, filter, take, true, false, Bool, ◌++◌, ◌∷◌, [], append-nil}
use Rattle.std.specs.Prelude.{is_some}
use Rattle.std.specs.List.{list_any}
use Rattle.std.specs.FinMap.{get}
use Rattle.std.proofs.lemmas.List.{take_all}
use Rattle.net_types.specs.declared.address.Pid.{Pid}
use Rattle.net_types.specs.declared.prefix.Prefix.{Prefix}
use Rattle.route_server.proofs.DownLaws.{carry_any, filter_step}
use Rattle.route_server.proofs.names.prefixes_of_any.Goals as goal
use Rattle.route_server.proofs.names.prefixes_of_any.Goals.{then-has_any+in_ok-push, else-has_any}
use Rattle.net_types.proofs.PassLemmas.{same_any}

pub loop-prefix-preserved : goal.loop-prefix-preserved
loop-prefix-preserved c =
    let t : Prefix → Bool = λ p. list_any (λ (from : Pid). is_some (get c.args.server.now.routes (record { from = from; prefix = p }))) c.args.froms.now in
    let xs = c.as_slice-prefix-items.result.now in
    let i = c.loop-prefix.prefix-index in
    let x = c.prefix-item.result in
    let is = same_any _ _ c.args.froms.now (λ (from : Pid). ap is_some (c.row.ensures.routes from)) ∙ sym c.has_any.ensures in
    elim c.if-has_any.branch [
      | then-has_any+in_ok-push w ↦ ap (λ v. v.items) w.prefixes-is ∙ w.in_ok-push.ensures.items ∙ ap (λ ps. ps ++ x ∷ []) c.loop-prefix.invariant
          ∙ sym (filter_step t xs i x true c.loop-prefix-test.true c.prefix-item.is (is ∙ w.if-has_any.true))
      | else-has_any w ↦ ap (λ v. v.items) w.prefixes-is ∙ c.loop-prefix.invariant
          ∙ sym (filter_step t xs i x false c.loop-prefix-test.true c.prefix-item.is (is ∙ w.if-has_any.false) ∙ append-nil (filter t (take i xs)))
    ]

pub returns : goal.returns
returns c =
    let t : Prefix → Bool = λ p. list_any (λ (from : Pid). is_some (get c.args.server.now.routes (record { from = from; prefix = p }))) c.args.froms.now in
    carry_any c.args.server.now.routes c.args.froms.now c.in_ok-all.all.items c.loop-prefix.prefixes.items c.in_ok-all.ensures
    (c.loop-prefix.invariant ∙ ap (filter t) (take_all c.loop-prefix.prefix-index c.as_slice-prefix-items.result.now c.loop-prefix-test.false ∙ c.as_slice-prefix-items.ensures.value))
