use Rattle.std.proofs.Common.{map, subst, sym, ap, ◌∙◌, refl}
use Rattle.std.specs.List.{list_all}
use Rattle.std.specs.Option.{option_and_then}
use Rattle.net_types.specs.Attributes.{same_option, same_attrs}
use Rattle.net_types.specs.Routes.{pids}
use Rattle.registry.specs.Registered.{Registered}
use Rattle.route_server.specs.Choices.{AreChosen}
use Rattle.route_server.specs.Effects.{best_by_row}
use Rattle.route_server.specs.Rows.{settled_by, held_at}
use Rattle.route_server.proofs.AloneLaws.{comes}
use Rattle.route_server.proofs.ChoiceLaws.{rows_same}
use Rattle.route_server.proofs.effects.is_same.Goals as goal

pub returns-then-not-is_empty : goal.returns-then-not-is_empty
returns-then-not-is_empty c = comes (settled_by c.args.before) (settled_by c.args.after) c.args.change.now.prefix c.args.old.now c.args.change.now.row c.args.sig.now
    (sym c.is_empty.ensures ∙ c.if-is_empty.true) (sym c.is_empty-then-is_empty.ensures ∙ c.if-not-is_empty.true) c.requires.sig

pub returns : goal.returns
returns c =
    let r = settled_by c.args.before in
    let s = settled_by c.args.after in
    let p = c.args.change.now.prefix in
    let old = c.args.old.now in
    let row_is = c.items-2.ensures in
    rows_same r s p old c.args.change.now.row c.both.result c.is_signature-same_sig.result c.same_bests-same_best.result c.items.result.now c.both.ensures c.is_signature-same_sig.ensures (c.items.ensures ∙ c.requires.sig)
    (c.same_bests-same_best.ensures r s p refl (ap (λ (n : Registered). n.participants) c.requires.names) (ap (map (option_and_then (held_at r old))) c.as_slice-was.ensures.value ∙ c.in_ok-earlier.ensures) (subst (λ row. AreChosen s p row c.args.is.now) (sym row_is) c.requires.chosen)
    ∙ ap (λ row. list_all (λ to. same_option same_attrs (best_by_row r p old to) (best_by_row s p row to)) (pids r)) row_is)
