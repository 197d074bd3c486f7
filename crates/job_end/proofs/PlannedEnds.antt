-- What is found by the parts that show a state is an end for it.
use Rattle.std.proofs.Common.{◌≡◌, List, length, ap, sym, subst, ◌∙◌}
use Rattle.advert_queue.specs.Advertised.{Advertised}
use Rattle.block_build.specs.Installed.{Installed}
use Rattle.events.specs.After.{merged}
use Rattle.events.specs.State.{State}
use Rattle.exchange_laws.specs.Listed.{AreLiveOnly, AreThose, comes, goes}
use Rattle.fast_path.specs.LiveOnly.{AreDead, registered}
use Rattle.fast_path.specs.Offers.{AreOffers, all_present, declared_pids}
use Rattle.fast_path.specs.Pairs.{gone_pairs, untold}
use Rattle.fast_path.specs.Planned.{is_tag_below}
use Rattle.job_end.proofs.ChangedPairs.{changed_are, drops_are}
use Rattle.job_end.proofs.MergedOffers.{offers_are}
use Rattle.job_end.proofs.MergedTags.{changes_are, dead_are, dead_rise, gone_are}
use Rattle.job_end.specs.Drafts.{IsDraft, left_tags}
use Rattle.job_end.specs.Ends.{IsEnd, IsEnding, is_other}
use Rattle.job_end.specs.Offers.{offers_of}
use Rattle.job_end.specs.Rebuilt.{changed_pairs}
use Rattle.job_end.specs.declared.ended.End.{End}
use Rattle.net_types.specs.Sets.{IsRising}
use Rattle.net_types.specs.declared.address.Tag.{Tag}
use Rattle.prefix_classes.specs.Classes.{Classes}
use Rattle.recompile.specs.declared.swap.Swap.{Swap}
use Rattle.registry.specs.Registered.{Registered}

module _ (s : State) (names : Registered) (classes : Classes) (adverts : Advertised) (switch : Installed) (swap : Swap) (ending : IsEnding s names classes adverts switch swap) where
  abbrev s1 : State
  s1 = merged s

  names_are : registered s ≡ names
  names_are = λ i. record { participants = ending.participants i; ports = ending.ports i }

  -- as many participants are declared as were told something, be it nothing
  pub all_told : length names.participants ≡ length adverts.told
  all_told = ap length (sym ending.participants) ∙ sym ending.steady.steady.told ∙ ap length ending.told

  abbrev left : List Tag
  left = left_tags s.tag swap.moves

  module _ (end : End) (draft : IsDraft names classes adverts switch.table swap end) where
    gone_is : gone_pairs (registered s) s.kept s.told left ≡ end.gone
    gone_is = (λ i. gone_pairs (names_are i) (ending.kept i) (ending.told i) (left_tags (ending.tag i) swap.moves)) ∙ sym draft.gone

    changed_is : changed_pairs s.table swap.built end.gone ≡ end.changed
    changed_is = ap (λ t. changed_pairs t swap.built end.gone) ending.table ∙ sym draft.changed

    dead_is : untold s.told left ≡ end.dead.items
    dead_is = (λ i. untold (ending.told i) (left_tags (ending.tag i) swap.moves)) ∙ sym draft.dead

    offers_is : offers_of (all_present s) (declared_pids (registered s)) swap.moves ≡ end.offers.items
    offers_is = (λ i. offers_of (ending.present i) (declared_pids (names_are i)) swap.moves) ∙ sym draft.offers

    gone : AreLiveOnly s s1 end.gone
    gone = subst (AreLiveOnly s s1) gone_is (gone_are s ending.steady.steady swap.moves ending.is_swap.moves)

    changed : AreThose (comes s s1 (is_other s swap.built)) end.changed
    changed = subst (AreThose (comes s s1 (is_other s swap.built))) changed_is (changed_are s ending.steady.steady swap.built end.gone gone)

    pub planned_end : IsEnd s swap end
    planned_end = record {
      tags = draft.tags ∙ changes_are s ending.steady.steady swap.moves ending.is_swap.moves;
      gone = gone;
      changed = changed;
      drops = subst (AreThose (goes s s1 (is_other s swap.built))) (sym draft.drops) (drops_are s ending.steady.steady swap.built end.gone gone end.changed changed);
      adds = draft.adds;
      dead = subst (AreDead s s1) dead_is (dead_are s ending.steady.steady swap.moves ending.is_swap.moves);
      rising = subst (IsRising is_tag_below) dead_is (dead_rise s ending.steady.steady swap.moves ending.is_swap.moves);
      offers = subst (AreOffers s s1) offers_is (offers_are s ending.steady.steady swap.moves ending.is_swap.moves);
    }
