use Rattle.std.proofs.Common.{length, sym, set, subst, refl}
use Rattle.std.specs.Prelude.{Some, None}
use Rattle.std.proofs.lemmas.List.{set-set}
use Rattle.net_types.specs.Exports.{named_by}
use Rattle.route_server.specs.Edits.{prefixes_of}
use Rattle.route_server.specs.Effects.{AreEffects}
use Rattle.route_server.specs.Proposed.{IsProposal, added, both, trimmed_routing}
use Rattle.route_server.specs.Served.{CarryAny, Served, routing}
use Rattle.route_server.proofs.EffectLaws.{effects_between, proposal_is}
use Rattle.route_server.proofs.NameLaws.{no_names, none_carried}
use Rattle.route_server.proofs.server.RouteServer.propose_named.Goals as goal

pub returns-clause-proposal : goal.returns-clause-proposal
returns-clause-proposal c =
    let names = c.args.names.now in
    let server = c.args.self.now in
    let who = c.args.who in
    let named = c.args.named in
    let r = routing names server in
    let v : Served = record { routes = server.routes; rules = server.rules; named = set server.named who.0 (both (named_by r who) named); room = 0 } in
    let u : Served = record { routes = server.routes; rules = server.rules; named = set server.named who.0 named; room = 0 } in
    let rows = c.in_ok-changes.ensures in
    let named_is = c.items-2.ensures in
    let carry : CarryAny server.routes (added (named_by r who) named) (prefixes_of c.in_ok-changes.changes.items) = subst (λ ns. CarryAny server.routes (added (named_by r who) ns) (prefixes_of c.in_ok-changes.changes.items)) c.items.ensures rows.prefixes in
    subst (IsProposal (trimmed_routing r who named) (routing names u)) (sym c.in_ok-proposal.ensures)
    (proposal_is names v u None (Some (who, named)) c.in_ok-changes.changes.items c.in_ok-effects.effects.items refl (set-set server.named who.0 (both (named_by r who) named) named) rows.rows
    (subst (λ ns. AreEffects (trimmed_routing r who ns) (record r { named = set server.named who.0 ns }) c.in_ok-changes.changes.items (length c.in_ok-changes.changes.items) c.in_ok-effects.effects.items) named_is
    (effects_between _ (trimmed_routing r who c.items-2.result.now) _ (record r { named = set server.named who.0 c.items-2.result.now }) c.as_slice.result.now c.in_ok-changes.changes.items c.in_ok-effects.effects.items refl refl c.as_slice.ensures.value c.in_ok-effects.ensures))
    carry.rising (λ q away. refl)
    (λ q away. no_names r who named q (none_carried server.routes (named_by r who) named (prefixes_of c.in_ok-changes.changes.items) carry q away))
    (λ are. record { owned = are.owned }))
