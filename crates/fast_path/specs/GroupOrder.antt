-- How the groups of a line are found: each by its tag before and its signature after (this exchange's own rule).
use Rattle.std.specs.Prelude.{◌≡◌, ℕ, List, [], ◌∷◌}
use Rattle.std.specs.Cmp.{IsTotalOrder, nat_cmp_total, on_total, then_total}
use Rattle.std.specs.Cmp.Lexicographic.{options_total}
use Rattle.std.specs.FinMap.Entries.{find}
use Rattle.std.specs.List.{position_from}
use Rattle.std.specs.Option.{option_cmp}
use Rattle.std.specs.Ordering.{on, then_cmp}
use Rattle.std.specs.declared.cmp.Ordering.{Ordering}
use Rattle.net_types.specs.Keys.{tag_cmp}
use Rattle.net_types.specs.declared.address.Tag.{Tag}
use Rattle.events.specs.Tags.{Group, same_group}
use Rattle.prefix_classes.specs.Placed.{sig_cmp}
use Rattle.prefix_classes.specs.PlacedLaws.{sigs_total}

-- groups by their tag before, none first, and then by their signature after
abbrev pub group_cmp : Group → Group → Ordering
group_cmp = then_cmp (on (λ g. g.before) (option_cmp tag_cmp)) (on (λ g. g.after) sig_cmp)

pub groups_total : IsTotalOrder group_cmp
groups_total = then_total (on_total (λ (g : Group). g.before) (options_total (on_total (λ (t : Tag). t.0) nat_cmp_total))) (on_total (λ (g : Group). g.after) sigs_total)

-- each group is found at its place in the list, counted from the low one on, and no other is found
abbrev pub ArePlaces : ℕ → List Group → List (Group × ℕ) → Type 0
ArePlaces low gs es = (g : Group) → find group_cmp g es ≡ position_from (same_group g) low gs

-- the groups behind the first
abbrev pub behind : List Group → List Group
behind [] = []
behind (g ∷ gs) = gs
