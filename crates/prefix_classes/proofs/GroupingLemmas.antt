-- The tags of a grouping as a map, when one is put in and when the least one of its signature is asked for.
use Rattle.std.proofs.Common.{◌≡◌, ◌∙◌, true, List, sym, ap}
use Rattle.std.specs.Prelude.{Some, is_some}
use Rattle.std.specs.FinMap.{entries, from_sorted, get}
use Rattle.std.specs.FinMap.Entries.{find, is_sorted}
use Rattle.net_types.proofs.PlaceLemmas.{entries_of_sorted, get_sorted}
use Rattle.net_types.specs.Keys.{tag_cmp}
use Rattle.net_types.specs.declared.address.Tag.{Tag}
use Rattle.net_types.specs.declared.route.Part.{Part}
use Rattle.prefix_classes.proofs.LeastLemmas.{IsFirst, first_is, first_there}
use Rattle.prefix_classes.specs.Placed.{AreFirsts, IsLeastBeside, first_with, sig_cmp}

-- ---- the least tag of its signature

module _ (tags : List (Tag × List Part)) (firsts : List (List Part × Tag)) (sorted : is_sorted tag_cmp tags ≡ true) (are : AreFirsts (entries (from_sorted {R = tag_cmp} tags)) firsts) (t : Tag) (sig : List Part) (here : find tag_cmp t tags ≡ Some sig) where
  listed : AreFirsts tags firsts
  listed s = are s ∙ ap (λ es. first_with s es) (entries_of_sorted tag_cmp tags sorted)

  pub own_listed : is_some (find sig_cmp sig firsts) ≡ true
  own_listed = ap is_some (listed sig) ∙ first_there sig t tags here

  pub first_is_beside : (r : Tag) → Some r ≡ find sig_cmp sig firsts → IsLeastBeside (from_sorted tags) t r
  first_is_beside r found = record {
    same = at r ∙ first.there ∙ sym (at t ∙ here);
    least = λ u alike. first.least u (sym (at u) ∙ alike ∙ at t ∙ here);
  }
    where
      first : IsFirst sig tags r
      first = first_is sig tags r sorted (sym (listed sig) ∙ sym found)

      at : (u : Tag) → get (from_sorted {R = tag_cmp} tags) u ≡ find tag_cmp u tags
      at u = get_sorted tag_cmp tags u sorted
