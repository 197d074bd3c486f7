-- Those of the emptied tags that nobody was told are the tags that are live no more.
use Rattle.std.proofs.Common.{◌≡◌, Bool, true, false, ◌||◌, not, List, ap, ◌∙◌, inl, inr}
use Rattle.std.specs.FinMap.{FinMap}
use Rattle.std.specs.List.{list_any}
use Rattle.std.proofs.lemmas.Bool.{false_from_ne_true, or_cases, or_left, or_right, not-true}
use Rattle.events.specs.State.{State}
use Rattle.events.specs.Tags.{retagged, tells}
use Rattle.exchange_laws.proofs.Lists.{clash}
use Rattle.fast_path.specs.LiveOnly.{AreDead, AreEmptied, has_prefix}
use Rattle.fast_path.specs.Pairs.{untold}
use Rattle.net_types.proofs.RisingLemmas.{Member-filter, filter-Member}
use Rattle.net_types.specs.Exports.{Routing}
use Rattle.net_types.specs.Keys.{prefix_cmp}
use Rattle.net_types.specs.declared.address.Tag.{Tag}

-- somebody was told the tag
abbrev is_told : State → Tag → Bool
is_told s t = list_any (λ entries. tells entries t) s.told

-- where prefixes have other tags, and the same was told
module _ (s : State) (tags : FinMap prefix_cmp Tag) where
  abbrev s1 : State
  s1 = record s { tag = tags }

  pub untold_die : (ts : List Tag) → AreEmptied s s1 ts → AreDead s s1 (untold s.told ts)
  untold_die ts emptied = record {
    each = λ t m.
        let left = filter-Member (λ u. not (is_told s u)) ts t m in
        let empty = emptied.each t left.stands in (
          or_left (has_prefix s t) (is_told s t) empty.0,
          ap (λ b. b || is_told s t) empty.1 ∙ not-true (is_told s t) left.passes,
        );
    all = λ t live dead.
        let untold : is_told s t ≡ false = false_from_ne_true (is_told s t) (λ told. clash (or_right (has_prefix s1 t) (is_told s t) told) dead) in
        let had : has_prefix s t ≡ true = elim (or_cases (has_prefix s t) (is_told s t) live) [ inl has ↦ has | inr told ↦ absurd (clash told untold) ] in
        let none : has_prefix s1 t ≡ false = false_from_ne_true (has_prefix s1 t) (λ has. clash (or_left (has_prefix s1 t) (is_told s t) has) dead) in
        Member-filter (λ u. not (is_told s u)) ts t (emptied.all t had none) (ap not untold);
  }

pub untold_are_dead : (s : State) (r : Routing) (ts : List Tag) → AreEmptied s (retagged s r) ts → AreDead s (retagged s r) (untold s.told ts)
untold_are_dead s r ts emptied =
    let dead = untold_die s (retagged s r).tag ts (record { each = emptied.each; all = emptied.all }) in
    record { each = dead.each; all = dead.all }
