-- Lines that change the routes, and those that leave the routes as they were.
use Rattle.std.proofs.Common.{◌≡◌, true, sym, subst, ◌∙◌, refl}
use Rattle.events.specs.After.{next, put_flows, rules_put, running}
use Rattle.events.specs.Fits.{IsAnswer, IsBuilt, bare, is_building, none_rebuilt}
use Rattle.events.specs.Sound.{IsSound}
use Rattle.events.specs.State.{State}
use Rattle.events.specs.declared.Event.{Event}
use Rattle.events.specs.declared.Event.TheVariants.{Update, Down, Export, Table}
use Rattle.events.specs.declared.Head.TheVariants.{Fine}
use Rattle.events.specs.declared.Reply.{Reply}
use Rattle.exchange_laws.proofs.FullTables.{accepted_lines_fit}
use Rattle.exchange_laws.proofs.Rerouted.{down_leaves, export_leaves, update_leaves}
use Rattle.exchange_laws.proofs.RulesAfter.{sound_tagged}
use Rattle.exchange_laws.proofs.SameRoutes.{nothing_is_said, routes_stay, running_sound}
use Rattle.exchange_laws.specs.Rerouting.{DownsReroute, ExportsReroute, NothingIsRerouted, UpdatesReroute, is_rerouting}

pub updates_reroute : UpdatesReroute
updates_reroute = update_leaves

pub downs_reroute : DownsReroute
downs_reroute = down_leaves

pub exports_reroute : ExportsReroute
exports_reroute = export_leaves

-- a line that changes the routes builds rules
pub rerouting_builds : (e : Event) → is_rerouting e ≡ true → is_building e ≡ true
rerouting_builds (Update name bytes) is = refl
rerouting_builds (Down name) is = refl
rerouting_builds (Export name text) is = refl
rerouting_builds e is = absurd (cc)

-- the answer to it says what is built
pub answer_built : (s : State) (e : Event) (r : Reply) (s1 : State) → is_rerouting e ≡ true → IsBuilt s s1 none_rebuilt r → IsAnswer s e r s1
answer_built s (Update name bytes) r s1 building built = built
answer_built s (Down name) r s1 building built = built
answer_built s (Export name text) r s1 building built = built
answer_built s e r s1 building built = absurd (cc)

-- the rules of a line that builds rules are put in
pub puts_rules : (e : Event) (r : Reply) → is_building e ≡ true → rules_put e r ≡ r.adds
puts_rules Table r building = absurd (cc)
puts_rules e r building = refl

pub nothing_is_rerouted : NothingIsRerouted
nothing_is_rerouted s e sound pooled kept few is =
    let stays : next s e (bare Fine) ≡ running s =
    λ i. record ((is.leaves ∙ routes_stay s (sound_tagged s sound) pooled kept few) i) { table = put_flows s.table (puts_rules e (bare Fine) (rerouting_builds e is.building) i) } in (
      stays,
      accepted_lines_fit s e (bare Fine) is.passes (record {
        answer = answer_built s e (bare Fine) (next s e (bare Fine)) is.building (subst (λ x. IsBuilt s x none_rebuilt (bare Fine)) (sym stays) (nothing_is_said s (running s) refl refl));
        sound = subst IsSound (sym stays) (running_sound s sound);
      }),
    )
