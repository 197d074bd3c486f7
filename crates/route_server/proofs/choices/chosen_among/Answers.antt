use Rattle.std.proofs.Common.{◌<◌, length, subst}
use Rattle.std.specs.Option.{option_and_then}
use Rattle.net_types.specs.Routes.{best_of}
use Rattle.route_server.specs.Rows.{settled_by, held_at, offered}
use Rattle.route_server.proofs.EffectLaws.{pids_step, map_one_more}
use Rattle.route_server.proofs.choices.chosen_among.Goals as goal

pub loop-number-preserved : goal.loop-number-preserved
loop-number-preserved c =
    let r = settled_by c.args.terms in
    let row = c.args.row.now in
    let n = c.loop-number.number in
    record {
      known = c.in_ok-place.ensures.known;
      places = map_one_more (option_and_then (held_at r row)) (λ to. best_of (offered r to c.args.prefix row)) c.loop-number.places.items c.push.new.self.items c.in_ok-place.place (record { 0 = n }) _ _ _
          (pids_step n (length c.args.terms.names.now.participants) (subst (λ xs. n < length xs) c.participants.ensures.all c.loop-number-test.true))
          c.in_ok-place.ensures.best c.in_ok-push.ensures.items c.loop-number.invariant.places;
    }
