-- As many prefixes have tags as are carried.
use Rattle.std.proofs.Common.{◌≡◌, ℕ, ◌≤◌, length, sym, ap, ◌∙◌, arith}
use Rattle.std.specs.Prelude.{is_some}
use Rattle.std.specs.FinMap.{FinMap, contains_key-keys, entries, get, keys}
use Rattle.std.proofs.lemmas.List.{length-map}
use Rattle.events.specs.Sound.{IsSound}
use Rattle.events.specs.State.{State}
use Rattle.events.specs.Tags.{carried, is_carried}
use Rattle.exchange_laws.proofs.FreshTags.{carried_listed}
use Rattle.exchange_laws.proofs.Lists.{key_Member}
use Rattle.net_types.proofs.OrderLemmas.{prefix_tie, prefixes_total}
use Rattle.net_types.proofs.OrderedLemmas.{member_any, ordered_rises}
use Rattle.net_types.proofs.RisingLemmas.{before, before_itself, before_trans, filter-IsRising, filter-Member, keys-IsRising}
use Rattle.net_types.proofs.SetLemmas.{rising_unique}
use Rattle.net_types.specs.Exports.{Routing}
use Rattle.net_types.specs.Keys.{prefix_cmp}
use Rattle.net_types.specs.Maps.{ordered}
use Rattle.net_types.specs.Routes.{announced}
use Rattle.net_types.specs.declared.address.Tag.{Tag}
use Rattle.net_types.specs.declared.prefix.Prefix.{Prefix}

-- where exactly the carried prefixes have tags, these are the keys
pub keys_carried : (m : FinMap prefix_cmp Tag) (r : Routing) → ((p : Prefix) → is_some (get m p) ≡ is_carried r p) → keys m ≡ carried r
keys_carried m r tagged =
    rising_unique (before prefix_cmp) (before_itself prefix_cmp prefixes_total) (before_trans prefix_cmp prefixes_total) (keys m) (carried r) (keys-IsRising prefix_cmp m)
    (filter-IsRising (before prefix_cmp) (is_carried r) (ordered prefix_cmp (announced r)) (ordered_rises prefix_cmp prefixes_total prefix_tie (announced r))) (record {
      onto = λ p m1. carried_listed r p (sym (tagged p) ∙ contains_key-keys m p ∙ member_any prefix_cmp prefixes_total prefix_tie p (keys m) m1);
      back = λ p m1. key_Member prefix_cmp prefixes_total prefix_tie m p (tagged p ∙ (filter-Member (is_carried r) (ordered prefix_cmp (announced r)) p m1).passes);
    })

pub entries_are : (m : FinMap prefix_cmp Tag) (r : Routing) → ((p : Prefix) → is_some (get m p) ≡ is_carried r p) → length (entries m) ≡ length (carried r)
entries_are m r tagged = sym (length-map (entries m) (λ (e : Prefix × Tag). e.0)) ∙ ap length (keys_carried m r tagged)

pub entries_carried : (s : State) → IsSound s → length (entries s.tag) ≡ length (carried s.routing)
entries_carried s sound = entries_are s.tag s.routing sound.tagged

pub no_more : (n : ℕ) → n ≤ n
no_more n = omega arith
