use Rattle.std.proofs.Common.{◌≡◌, ◌-◌, ◌++◌, length, map}
use Rattle.std.specs.Option.{option_and_then}
use Rattle.net_types.specs.Routes.{best_of, pids}
use Rattle.route_server.specs.Choices.{IsBestAt}
use Rattle.route_server.specs.Rows.{settled_by, held_at, offered}
use Rattle.route_server.proofs.EffectLaws.{pids_from}
use Rattle.route_server.proofs.choices.chosen_among.Given as goal

abbrev pub invariant-loop-number : goal.invariant-loop-number
invariant-loop-number l = record {
  known : IsBestAt (settled_by l.terms) l.row l.desk.earlier.items l.desk.choice;
  places : map (option_and_then (held_at (settled_by l.terms) l.row)) l.places.items ++ map (λ to. best_of (offered (settled_by l.terms) to l.prefix l.row)) (pids_from l.number (length l.terms.names.now.participants - l.number)) ≡ map (λ to. best_of (offered (settled_by l.terms) to l.prefix l.row)) (pids (settled_by l.terms));
}
