use Rattle.std.proofs.Common.{◌≡◌, ◌<◌, ◌++◌, length, sym, subst, ap, ◌∙◌, arith, get_or}
use Rattle.std.specs.Prelude.{Some, slice_get, slice_set}
use Rattle.std.proofs.lemmas.Option.{get_or_from_slice_get, slice_get-get_or}
use Rattle.events.specs.Resolving.{port_place}
use Rattle.events.specs.State.{State, port_of, told_to}
use Rattle.events.specs.declared.Event.TheVariants.{Resolve}
use Rattle.net_types.specs.Keys.{ip_cmp}
use Rattle.net_types.specs.Maps.{ordered}
use Rattle.net_types.specs.declared.route.PortInfo.{PortInfo}
use Rattle.exchange_core.proofs.Owners.{owner_place, owner_told}
use Rattle.exchange_core.proofs.Ports.{no_port, port_at}
use Rattle.exchange_core.proofs.Resolving.{hops_reply, hops_state, hops_within, resolve_kept, resolve_step, tags_small, tags_told}
use Rattle.exchange_core.proofs.Steps.{step_from}
use Rattle.exchange_core.specs.Placed.{is_declared}
use Rattle.exchange_core.specs.View.{state_of}
use Rattle.exchange_core.proofs.exchange.Core.resolve.Goals as goal

pub told_tags-requires : goal.told_tags-requires
told_tags-requires c =
    let a = c.self.inside in
    let s : State = state_of a.phase a.base a.size a.registry a.server a.resolved.items a.classes a.adverts.told a.switch a.programs.items in
    let q : PortInfo = get_or a.registry.ports c.args.place no_port in
    let place : port_place s c.requires.line.0 ≡ Some c.args.place = ap (λ (x : State). port_place x c.requires.line.0) c.self.view_is ∙ c.requires.line.2 in
    let here : slice_get a.registry.ports c.args.place ≡ Some q = slice_get-get_or a.registry.ports c.args.place no_port (subst (λ (x : State). c.args.place < length x.routing.ports) (sym c.self.view_is) c.requires.within) in
    let found : port_of s c.requires.line.0 ≡ Some q = port_at s c.requires.line.0 c.args.place q place here in
    record { declared = rw c.ports.ensures (owner_place c.self.invariant.kept c.requires.line.0 q found) }

pub missing_hops-requires-clause-small : goal.missing_hops-requires-clause-small
missing_hops-requires-clause-small c =
    let a = c.self.inside in
    let s : State = state_of a.phase a.base a.size a.registry a.server a.resolved.items a.classes a.adverts.told a.switch a.programs.items in
    let q : PortInfo = get_or a.registry.ports c.args.place no_port in
    let place : port_place s c.requires.line.0 ≡ Some c.args.place = ap (λ (x : State). port_place x c.requires.line.0) c.self.view_is ∙ c.requires.line.2 in
    let here : slice_get a.registry.ports c.args.place ≡ Some q = slice_get-get_or a.registry.ports c.args.place no_port (subst (λ (x : State). c.args.place < length x.routing.ports) (sym c.self.view_is) c.requires.within) in
    let found : port_of s c.requires.line.0 ≡ Some q = port_at s c.requires.line.0 c.args.place q place here in
    let told_is : slice_get s.told q.owner.0 ≡ Some (told_to s q.owner) = owner_told c.self.invariant.kept c.requires.line.0 q found in
    let tags : c.in_ok-tags.tags.items ≡ tags_told (told_to s q.owner) = rw c.ports.ensures at c.in_ok-tags.ensures in
    tags_small c.self.invariant.kept q.owner.0 (told_to s q.owner) told_is c.deref.result.now (c.deref.ensures.value ∙ tags)

pub exchanges-requires : goal.exchanges-requires
exchanges-requires c =
    let a = c.self.inside in
    let s : State = state_of a.phase a.base a.size a.registry a.server a.resolved.items a.classes a.adverts.told a.switch a.programs.items in
    let q : PortInfo = get_or a.registry.ports c.args.place no_port in
    let place : port_place s c.requires.line.0 ≡ Some c.args.place = ap (λ (x : State). port_place x c.requires.line.0) c.self.view_is ∙ c.requires.line.2 in
    let here : slice_get a.registry.ports c.args.place ≡ Some q = slice_get-get_or a.registry.ports c.args.place no_port (subst (λ (x : State). c.args.place < length x.routing.ports) (sym c.self.view_is) c.requires.within) in
    let found : port_of s c.requires.line.0 ≡ Some q = port_at s c.requires.line.0 c.args.place q place here in
    let told_is : slice_get s.told q.owner.0 ≡ Some (told_to s q.owner) = owner_told c.self.invariant.kept c.requires.line.0 q found in
    let tags : c.in_ok-tags.tags.items ≡ tags_told (told_to s q.owner) = rw c.ports.ensures at c.in_ok-tags.ensures in
    rw c.as_slice-2.ensures.value (hops_within c.self.invariant.kept q.owner.0 (told_to s q.owner) told_is c.in_ok-tags.tags.items tags c.index-as_slice-place.result c.in_ok-missing.missing.items (rw c.deref.ensures.value at c.in_ok-missing.ensures))

pub invariant_of-self-2 : goal.invariant_of-self-2
invariant_of-self-2 c =
    let a = c.self.inside in
    let s : State = state_of a.phase a.base a.size a.registry a.server a.resolved.items a.classes a.adverts.told a.switch a.programs.items in
    let q : PortInfo = get_or a.registry.ports c.args.place no_port in
    let place : port_place s c.requires.line.0 ≡ Some c.args.place = ap (λ (x : State). port_place x c.requires.line.0) c.self.view_is ∙ c.requires.line.2 in
    let here : slice_get a.registry.ports c.args.place ≡ Some q = slice_get-get_or a.registry.ports c.args.place no_port (subst (λ (x : State). c.args.place < length x.routing.ports) (sym c.self.view_is) c.requires.within) in
    let found : port_of s c.requires.line.0 ≡ Some q = port_at s c.requires.line.0 c.args.place q place here in
    let told_is : slice_get s.told q.owner.0 ≡ Some (told_to s q.owner) = owner_told c.self.invariant.kept c.requires.line.0 q found in
    let tags : c.in_ok-tags.tags.items ≡ tags_told (told_to s q.owner) = rw c.ports.ensures at c.in_ok-tags.ensures in
    let even : length a.resolved.items ≡ length a.registry.ports = c.self.invariant.kept.steady.resolved in
    let less : c.args.place < length a.registry.ports = (subst (λ (x : State). c.args.place < length x.routing.ports) (sym c.self.view_is) c.requires.within) in
    let set = c.index-as_slice-place.result in
    let set_is : set ≡ get_or a.resolved.items c.args.place set = c.index-as_slice-place.is ∙ ap (λ xs. get_or xs c.args.place set) c.as_slice.ensures.value in
    let there : slice_get a.resolved.items c.args.place ≡ Some set = slice_get-get_or a.resolved.items c.args.place set (omega arith) ∙ ap Some (sym set_is) in
    let missing = rw c.deref.ensures.value at c.in_ok-missing.ensures in
    let same : c.index_mut.result.now ≡ set = c.index_mut.ensures.value ∙ get_or_from_slice_get a.resolved.items c.args.place set c.index_mut.result.now there in
    let lists = slice_set a.resolved.items c.args.place c.insert_all.new.self in
    let then = hops_state s c.requires.line.0 c.args.place q place here (told_to s q.owner) told_is set there c.in_ok-tags.tags.items tags c.in_ok-missing.missing.items missing lists
    (ap (slice_set a.resolved.items c.args.place) (c.in_ok-insert_all.ensures.ok ∙ (λ i. ordered ip_cmp (same i ++ c.as_slice-3.ensures.value i)))) in
    record {
      kept = resolve_kept c.self.invariant.kept (ap (λ (x : State). is_declared x.phase) c.self.view_is ∙ c.requires.ready) c.requires.line.0 q c.requires.line.1 found lists then;
      present = c.self.invariant.present;
    }

pub returns-clause-step : goal.returns-clause-step
returns-clause-step c = λ port formed known.
    let a = c.self.inside in
    let s : State = state_of a.phase a.base a.size a.registry a.server a.resolved.items a.classes a.adverts.told a.switch a.programs.items in
    let q : PortInfo = get_or a.registry.ports c.args.place no_port in
    let place : port_place s port ≡ Some c.args.place = ap (λ (x : State). port_place x port) c.self.view_is ∙ known in
    let here : slice_get a.registry.ports c.args.place ≡ Some q = slice_get-get_or a.registry.ports c.args.place no_port (subst (λ (x : State). c.args.place < length x.routing.ports) (sym c.self.view_is) c.requires.within) in
    let found : port_of s port ≡ Some q = port_at s port c.args.place q place here in
    let told_is : slice_get s.told q.owner.0 ≡ Some (told_to s q.owner) = owner_told c.self.invariant.kept port q found in
    let tags : c.in_ok-tags.tags.items ≡ tags_told (told_to s q.owner) = rw c.ports.ensures at c.in_ok-tags.ensures in
    let even : length a.resolved.items ≡ length a.registry.ports = c.self.invariant.kept.steady.resolved in
    let less : c.args.place < length a.registry.ports = (subst (λ (x : State). c.args.place < length x.routing.ports) (sym c.self.view_is) c.requires.within) in
    let set = c.index-as_slice-place.result in
    let set_is : set ≡ get_or a.resolved.items c.args.place set = c.index-as_slice-place.is ∙ ap (λ xs. get_or xs c.args.place set) c.as_slice.ensures.value in
    let there : slice_get a.resolved.items c.args.place ≡ Some set = slice_get-get_or a.resolved.items c.args.place set (omega arith) ∙ ap Some (sym set_is) in
    let missing = rw c.deref.ensures.value at c.in_ok-missing.ensures in
    let same : c.index_mut.result.now ≡ set = c.index_mut.ensures.value ∙ get_or_from_slice_get a.resolved.items c.args.place set c.index_mut.result.now there in
    let lists = slice_set a.resolved.items c.args.place c.insert_all.new.self in
    let then = hops_state s port c.args.place q place here (told_to s q.owner) told_is set there c.in_ok-tags.tags.items tags c.in_ok-missing.missing.items missing lists
    (ap (slice_set a.resolved.items c.args.place) (c.in_ok-insert_all.ensures.ok ∙ (λ i. ordered ip_cmp (same i ++ c.as_slice-3.ensures.value i)))) in
    let plain = c.bare_reply-reply.ensures in
    let asks = rw (c.ports.ensures, c.as_slice-2.ensures.value) at c.in_ok-reply.ensures in
    step_from s c.args.self.now (Resolve port) _ _ c.self.view_is
    (resolve_step c.self.invariant.kept (ap (λ (x : State). is_declared x.phase) c.self.view_is ∙ c.requires.ready) port q formed found
    _ (hops_reply s port c.args.place q place here (told_to s q.owner) told_is set there c.in_ok-tags.tags.items tags c.in_ok-missing.missing.items missing _ (λ i. record (plain i) { asks = asks i })) lists then)
