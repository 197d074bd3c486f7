use Rattle.std.proofs.Common.{◌≡◌, ◌-◌, length, true}
use Rattle.std.specs.List.{list_all}
use Rattle.net_types.specs.Attributes.{same_option, same_attrs}
use Rattle.net_types.specs.Exports.{Routing}
use Rattle.net_types.specs.Routes.{pids}
use Rattle.net_types.specs.declared.prefix.Prefix.{Prefix}
use Rattle.route_server.specs.Choices.{AreChosen}
use Rattle.route_server.specs.Effects.{best_by_row, place_attrs}
use Rattle.route_server.proofs.EffectLaws.{pids_from}
use Rattle.route_server.proofs.effects.same_bests.Given as goal

abbrev pub invariant-loop-number : goal.invariant-loop-number
invariant-loop-number l = record {
  known : same_option same_attrs (place_attrs l.old l.known.old) (place_attrs l.new l.known.new) ≡ true;
  left : (r s : Routing) (p : Prefix) → r.participants ≡ l.names.participants → s.participants ≡ l.names.participants → AreChosen r p l.old l.earlier → AreChosen s p l.new l.places
      → list_all (λ to. same_option same_attrs (best_by_row r p l.old to) (best_by_row s p l.new to)) (pids_from l.number (length l.names.participants - l.number)) ≡ list_all (λ to. same_option same_attrs (best_by_row r p l.old to) (best_by_row s p l.new to)) (pids r);
}
