use Rattle.std.proofs.Common.{List, ap, set, ◌∙◌, refl}
use Rattle.net_types.specs.declared.address.Pid.{Pid}
use Rattle.route_server.specs.Effects.{routing_after}
use Rattle.route_server.specs.Proposed.{both, trimmed_routing}
use Rattle.route_server.specs.Rows.{names_at}
use Rattle.route_server.specs.Served.{routing}
use Rattle.route_server.proofs.EffectLaws.{effects_between}
use Rattle.route_server.proofs.names.effects_of_names.Goals as goal

pub returns : goal.returns
returns c =
    let names = c.args.names.now in
    let server = c.args.server.now in
    let who = c.args.who in
    let named = c.args.named.now in
    let earlier = c.as_slice.ensures.value ∙ c.in_ok-earlier.ensures ∙ ap (λ (all : List (List Pid)). set all who.0 (both (names_at all who.0) named)) c.terms-terms.ensures.named in
    let later = c.as_slice-2.ensures.value ∙ c.in_ok-later.ensures ∙ ap (λ (all : List (List Pid)). set all who.0 named) c.terms-terms.ensures.named in
    let found = c.in_ok-effects.ensures server.routes c.requires.declared c.requires.rows in
    effects_between _ (trimmed_routing (routing names server) who named) _ (record (routing names server) { named = set server.named who.0 named }) c.args.changes.now c.args.changes.now c.in_ok-effects.effects.items
    (λ i. routing_after names (c.terms-terms.ensures.rules i) (earlier i) server.routes) (λ i. routing_after names (c.terms-terms.ensures.rules i) (later i) server.routes) refl found
