use Rattle.std.proofs.Common.{sym, ap, ◌∙◌, map, append-nil}
use Rattle.std.specs.Prelude.{Some, None}
use Rattle.std.specs.Option.{option_copied}
use Rattle.std.specs.Borrow.{Bor}
use Rattle.std.proofs.lemmas.List.{take_all, map_push}
use Rattle.net_types.specs.Changes.{best_attrs}
use Rattle.net_types.specs.declared.prefix.Prefix.{Prefix}
use Rattle.net_types.specs.declared.route.Attrs.{Attrs}
use Rattle.route_server.specs.Served.{routing}
use Rattle.route_server.proofs.BestLaws.{entries_by, entries_step, bests_are}
use Rattle.route_server.proofs.server.RouteServer.bests.Goals as goal
use Rattle.route_server.proofs.server.RouteServer.bests.Goals.{in-Some+in_ok-push-in-Some, in-None}

pub loop-prefix-preserved : goal.loop-prefix-preserved
loop-prefix-preserved c =
    let g = best_attrs (routing c.args.names.now c.args.self.now) c.args.who in
    let view : Prefix × Bor Attrs → Prefix × Attrs = λ e. (e.0, e.1.now) in
    let ps = c.as_slice-prefix-items.result.now in
    let i = c.loop-prefix.prefix-index in
    let x = c.prefix-item.result in
    elim c.match-best_for.branch [
      | in-Some+in_ok-push-in-Some w ↦ entries_step g ps i x (Some w.in-Some.attrs.now) (map view c.loop-prefix.bests.items) (map view c.match-best_for.bests.items) c.loop-prefix-test.true c.prefix-item.is
          (sym c.best_for.ensures ∙ ap option_copied w.in-Some.is) c.loop-prefix.invariant
          (ap (λ v. map view v.items) w.bests-is ∙ ap (map view) w.in_ok-push-in-Some.ensures.items ∙ map_push view c.loop-prefix.bests.items (x, w.in-Some.attrs))
      | in-None w ↦ entries_step g ps i x None (map view c.loop-prefix.bests.items) (map view c.match-best_for.bests.items) c.loop-prefix-test.true c.prefix-item.is
          (sym c.best_for.ensures ∙ ap option_copied w.in-None.is) c.loop-prefix.invariant
          (ap (λ v. map view v.items) w.bests-is ∙ sym (append-nil (map view c.loop-prefix.bests.items)))
    ]

pub returns : goal.returns
returns c =
    bests_are (routing c.args.names.now c.args.self.now) c.args.who c.in_ok-all.all.items _ c.in_ok-all.ensures
    (c.loop-prefix.invariant ∙ ap (entries_by (best_attrs (routing c.args.names.now c.args.self.now) c.args.who)) (take_all c.loop-prefix.prefix-index c.as_slice-prefix-items.result.now c.loop-prefix-test.false ∙ c.as_slice-prefix-items.ensures.value))
