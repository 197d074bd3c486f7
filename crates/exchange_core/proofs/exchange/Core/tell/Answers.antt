use Rattle.std.proofs.Common.{◌≡◌, ◌<◌, ap, false, length, sym, subst, ◌∙◌, refl}
use Rattle.std.specs.Prelude.{slice_set}
use Rattle.advert_queue.specs.Advertised.{present_of, told_of}
use Rattle.advert_queue.specs.Taken.{told_then}
use Rattle.events.specs.After.{without_pairs}
use Rattle.events.specs.State.{State, present, told_to}
use Rattle.exchange_laws.specs.Telling.{told_anew}
use Rattle.fast_path.specs.Committing.{AreTaken, kept_without, marked_all}
use Rattle.fast_path.specs.LiveOnly.{registered}
use Rattle.fast_path.specs.Offers.{all_present}
use Rattle.net_types.specs.Sets.{Member}
use Rattle.next_hop_pool.specs.Free.{Tags}
use Rattle.prefix_classes.specs.Classes.{members}
use Rattle.registry.specs.Registered.{ports_of}
use Rattle.exchange_core.specs.Taking.{all_pairs, dead_tags, gone_by, told_after}
use Rattle.exchange_core.specs.View.{IsKept, state_of}
use Rattle.exchange_core.proofs.Present.{kept_present}
use Rattle.exchange_core.proofs.ToldStates.{dead_unused, given_back, signatures_then, table_then, takers_place, telling_kept, told_state}
use Rattle.exchange_core.proofs.exchange.Core.tell.Goals as goal

pub take-requires : goal.take-requires
take-requires c =
    let a = c.self.inside in
    let kept : IsKept c.args.self.now a.pool a.programs.items = subst (λ (x : State). IsKept x a.pool a.programs.items) c.self.view_is c.self.invariant.kept in
    record { declared = subst (λ (x : State). c.args.who.0 < length x.told) (sym c.self.view_is) (takers_place c.args.self.now c.args.who c.args.limit a.pool kept c.requires.taker) }

pub forget_all-requires : goal.forget_all-requires
forget_all-requires c =
    let a = c.self.inside in
    let kept : IsKept c.args.self.now a.pool a.programs.items = subst (λ (x : State). IsKept x a.pool a.programs.items) c.self.view_is c.self.invariant.kept in
    λ t m. ap (λ (x : State). members x.tag t) c.self.view_is
    ∙ dead_unused c.args.self.now c.args.who c.args.limit a.pool kept c.requires.taker t (subst (Member t) (c.items-2.ensures ∙ c.requires.taking.dead) m)

pub give_all-requires : goal.give_all-requires
give_all-requires c =
    let a = c.self.inside in
    let kept : IsKept c.args.self.now a.pool a.programs.items = subst (λ (x : State). IsKept x a.pool a.programs.items) c.self.view_is c.self.invariant.kept in
    subst (AreTaken a.pool) (sym (c.items-3.ensures ∙ c.requires.taking.dead)) (given_back c.args.self.now c.args.who c.args.limit a.pool kept c.requires.taker)

pub returns-clause-state : goal.returns-clause-state
returns-clause-state c =
    let a = c.self.inside in
    let s : State = c.args.self.now in
    let who = c.args.who in
    let limit = c.args.limit in
    let kept : IsKept s a.pool a.programs.items = subst (λ (x : State). IsKept x a.pool a.programs.items) c.self.view_is c.self.invariant.kept in
    let here : who.0 < length s.told = takers_place s who limit a.pool kept c.requires.taker in
    let place : who.0 < length a.registry.participants = subst (λ n. who.0 < n) (ap (λ (x : State). length x.told) (sym c.self.view_is) ∙ c.self.invariant.kept.steady.told) here in
    let told_is : told_of a.adverts who ≡ told_to s who = ap (λ (x : State). told_to x who) c.self.view_is in
    let now_is : present_of a.adverts who ≡ present s who = kept_present (state_of a.phase a.base a.size a.registry a.server a.resolved.items a.classes a.adverts.told a.switch a.programs.items) a.adverts.present who c.self.invariant.present place ∙ ap (λ (x : State). present x who) c.self.view_is in
    told_state who (told_after s who limit) c.self.view_is refl
    (c.remove_all.ensures.capacity ∙ ap (λ (x : State). x.capacity) c.self.view_is)
    (c.forget_all.ensures.tag ∙ ap (λ (x : State). x.tag) c.self.view_is)
    (c.forget_all.ensures.kept ∙ ap (kept_without a.classes.kept) (c.items-2.ensures ∙ c.requires.taking.dead)
    ∙ ap (λ (x : State). kept_without x.kept (dead_tags s.tag s.told who.0 (gone_by s who limit))) c.self.view_is ∙ signatures_then s who limit a.pool kept c.requires.taker)
    (c.take.ensures.told ∙ (λ i. slice_set (ap (λ (x : State). x.told) c.self.view_is i) who.0 (told_then limit (told_is i) (now_is i))))
    (c.remove_all.ensures.table ∙ ap (without_pairs a.switch.table) (c.items.ensures ∙ c.requires.taking.drops)
    ∙ ap (λ (x : State). without_pairs x.table (all_pairs (ports_of (registered s) who) (gone_by s who limit))) c.self.view_is ∙ table_then s who limit a.pool kept c.requires.taker)

pub invariant_of-self : goal.invariant_of-self
invariant_of-self c =
    let a = c.self.inside in
    let s : State = c.args.self.now in
    let who = c.args.who in
    let limit = c.args.limit in
    let kept : IsKept s a.pool a.programs.items = subst (λ (x : State). IsKept x a.pool a.programs.items) c.self.view_is c.self.invariant.kept in
    let pool_is : c.give_all.new.pool ≡ marked_all a.pool (dead_tags s.tag s.told who.0 (gone_by s who limit)) false = c.give_all.ensures ∙ ap (λ ts. marked_all a.pool ts false) (c.items-3.ensures ∙ c.requires.taking.dead) in record {
      kept = subst (λ (x : State). IsKept x c.give_all.new.pool a.programs.items) (sym (returns-clause-state c))
          (subst (λ (p : Tags). IsKept (told_anew s who (told_after s who limit)) p a.programs.items) (sym pool_is) (telling_kept s who limit a.pool kept c.requires.taker));
      present = c.take.ensures.present ∙ c.self.invariant.present ∙ ap all_present c.self.view_is ∙ ap all_present (sym (returns-clause-state c));
    }
