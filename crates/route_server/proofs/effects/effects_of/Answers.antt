use Rattle.std.proofs.Common.{subst, sym, ap, ◌∙◌, refl, append-nil}
use Rattle.std.specs.Prelude.{IfSome, Some, None}
use Rattle.std.proofs.lemmas.Option.{slice_get-get_or}
use Rattle.net_types.proofs.FindLemmas.{slice_get-Member}
use Rattle.route_server.specs.Rows.{settled, settled_by}
use Rattle.route_server.specs.Effects.{IsEffectOf}
use Rattle.route_server.specs.Repeated.{IsDone}
use Rattle.route_server.specs.Served.{Served}
use Rattle.route_server.proofs.EffectLaws.{AreKnown, effect_more}
use Rattle.route_server.proofs.effects.effects_of.Goals as goal
use Rattle.route_server.proofs.effects.effects_of.Goals.{in-Some+in_ok-push-in-Some, in-None, then-repeats+in_ok-earlier, else-repeats}

pub loop-at-preserved : goal.loop-at-preserved
loop-at-preserved c = (
  λ m declared rows.
      let names = c.args.before.names.now in
      let v : Served = record { routes = c.args.server.now.routes; rules = c.args.before.rules.now; named = c.args.before.named.now; room = 0 } in
      let u : Served = record { routes = m; rules = c.args.after.rules.now; named = c.args.after.named.now; room = 0 } in
      let cs = c.args.changes.now in
      let i = c.loop-at.at in
      let ch = c.index-changes-at.result in
      let old = c.row-old.result.now in
      let r = settled_by c.args.before in
      let s = settled_by c.args.after in
      let k : AreKnown names v u r s ch.prefix old ch.row = record {
        before_is = refl;
        after_is = ap (λ n. settled n c.args.after.rules.now c.args.after.named.now) c.requires.names;
        before = c.requires.declared;
        now = declared;
        old_rises = c.row-old.ensures.rising;
        new_rises = ch.rising;
        old_is = c.row-old.ensures.routes;
        new_is = rows.each ch (slice_get-Member cs i ch (slice_get-get_or cs i ch c.loop-at-test.true ∙ ap (λ d. Some d) (sym c.index-changes-at.is)));
      } in
      elim c.match-effect-2.branch [
        | in-Some+in_ok-push-in-Some w ↦ effect_more names v u r s cs i ch old c.loop-at-test.true c.index-changes-at.is k
            c.loop-at.effects.items c.match-effect-2.effects.items (Some w.in-Some.own) (subst (IsEffectOf r s old ch i) w.in-Some.is c.in_ok-effect.ensures)
            (ap (λ v. v.items) w.effects-is ∙ w.in_ok-push-in-Some.ensures.items) (c.loop-at.invariant.0 m declared rows)
        | in-None w ↦ effect_more names v u r s cs i ch old c.loop-at-test.true c.index-changes-at.is k
            c.loop-at.effects.items c.match-effect-2.effects.items None (subst (IsEffectOf r s old ch i) w.in-None.is c.in_ok-effect.ensures)
            (ap (λ v. v.items) w.effects-is ∙ sym (append-nil c.loop-at.effects.items)) (c.loop-at.invariant.0 m declared rows)
      ],
  elim c.if-repeats.branch [
    | then-repeats+in_ok-earlier w ↦ subst (λ o. IfSome o (IsDone c.args.before c.args.after)) (sym w.earlier-is) w.in_ok-earlier.ensures
    | else-repeats w ↦ subst (λ o. IfSome o (IsDone c.args.before c.args.after)) (sym w.earlier-is) c.loop-at.invariant.1
  ],
)
