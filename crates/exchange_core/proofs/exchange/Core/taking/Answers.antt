use Rattle.std.proofs.Common.{◌≡◌, ◌<◌, ◌≤◌, arith, ap, length, sym, subst, ◌∙◌}
use Rattle.std.specs.FinMap.{FinMap, get}
use Rattle.std.specs.Prelude.{IfSome}
use Rattle.advert_queue.proofs.PendingLemmas.{adverts-state}
use Rattle.advert_queue.specs.Advertised.{present_of, told_of}
use Rattle.advert_queue.specs.Taken.{gone_tags, news_of, told_then}
use Rattle.advert_queue.specs.Telling.{adverts}
use Rattle.events.specs.State.{State, present, told_to}
use Rattle.events.specs.declared.Entry.{Entry}
use Rattle.exchange_laws.proofs.PoolTags.{present_small}
use Rattle.fast_path.specs.LiveOnly.{registered}
use Rattle.net_types.specs.Keys.{prefix_cmp}
use Rattle.registry.specs.Registered.{ports_of}
use Rattle.exchange_core.specs.Taking.{all_pairs, dead_tags, gone_by, taken_of}
use Rattle.exchange_core.specs.View.{IsKept, state_of}
use Rattle.exchange_core.proofs.Present.{kept_present}
use Rattle.exchange_core.proofs.exchange.Core.taking.Goals as goal

pub messages-requires-clause-declared : goal.messages-requires-clause-declared
messages-requires-clause-declared c = subst (λ (x : State). c.args.who.0 < length x.told) (sym c.self.view_is) c.requires

pub messages-requires-clause-small : goal.messages-requires-clause-small
messages-requires-clause-small c =
    let a = c.self.inside in
    let kept : IsKept c.args.self.now a.pool a.programs.items = subst (λ (x : State). IsKept x a.pool a.programs.items) c.self.view_is c.self.invariant.kept in
    let place : c.args.who.0 < length a.registry.participants = subst (λ n. c.args.who.0 < n) (ap (λ (x : State). length x.told) (sym c.self.view_is) ∙ c.self.invariant.kept.steady.told) c.requires in
    let now_is : present_of a.adverts c.args.who ≡ present c.args.self.now c.args.who = kept_present (state_of a.phase a.base a.size a.registry a.server a.resolved.items a.classes a.adverts.told a.switch a.programs.items) a.adverts.present c.args.who c.self.invariant.present place ∙ ap (λ (x : State). present x c.args.who) c.self.view_is in
    λ p. subst (λ (m : FinMap prefix_cmp Entry). IfSome (get m p) (λ e. e.tag.0 ≤ 65536)) (sym now_is) (present_small kept.steady c.args.who p)

pub gone-requires : goal.gone-requires
gone-requires c = record { declared = subst (λ (x : State). c.args.who.0 < length x.told) (sym c.self.view_is) c.requires }

pub dead_among-requires : goal.dead_among-requires
dead_among-requires c =
    let told : length c.self.inside.adverts.told ≡ length c.self.inside.registry.participants = c.self.invariant.kept.steady.told in
    let few : length c.self.inside.registry.participants ≤ 256 = c.self.invariant.kept.steady.few in
    omega (arith, told, few)

pub returns : goal.returns
returns c =
    let a = c.self.inside in
    let s : State = c.args.self.now in
    let who = c.args.who in
    let limit = c.args.limit in
    let place : who.0 < length a.registry.participants = subst (λ n. who.0 < n) (ap (λ (x : State). length x.told) (sym c.self.view_is) ∙ c.self.invariant.kept.steady.told) c.requires in
    let told_is : told_of a.adverts who ≡ told_to s who = ap (λ (x : State). told_to x who) c.self.view_is in
    let now_is : present_of a.adverts who ≡ present s who = kept_present (state_of a.phase a.base a.size a.registry a.server a.resolved.items a.classes a.adverts.told a.switch a.programs.items) a.adverts.present who c.self.invariant.present place ∙ ap (λ (x : State). present x who) c.self.view_is in
    let gone_is : c.in_ok-gone.gone.items ≡ gone_by s who limit = c.in_ok-gone.ensures ∙ (λ i. gone_tags (told_is i) (told_then limit (told_is i) (now_is i)) (now_is i)) in record {
      adverts = c.in_ok-adverts.ensures ∙ (λ i. adverts (ap (λ (x : State). x.base) c.self.view_is i) (now_is i) (news_of limit (told_is i) (now_is i))) ∙ sym (adverts-state s who (taken_of s who limit));
      drops = c.from_vec.ensures ∙ c.in_ok-drops.ensures ∙ (λ i. all_pairs (c.ports_of.ensures i) (c.deref.ensures.value i)) ∙ ap (all_pairs (ports_of a.registry who)) gone_is
          ∙ ap (λ (x : State). all_pairs (ports_of (registered x) who) (gone_by s who limit)) c.self.view_is;
      dead = c.from_vec-2.ensures ∙ c.in_ok-dead.ensures ∙ ap (dead_tags a.classes.tag a.adverts.told who.0) (c.deref-2.ensures.value ∙ gone_is)
          ∙ ap (λ (x : State). dead_tags x.tag x.told who.0 (gone_by s who limit)) c.self.view_is;
    }
