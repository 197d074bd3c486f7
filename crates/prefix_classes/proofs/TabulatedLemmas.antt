-- The tags after a merge as a table of the prefixes with tags.
use Rattle.std.proofs.Common.{◌≡◌, ◌∙◌, ◌<◌, ◌≤◌, Bool, true, false, cond, List, [], ◌∷◌, filter, sym, ap, refl, arith, inl, inr}
use Rattle.std.specs.Prelude.{Option, Some, None}
use Rattle.std.specs.Cmp.{ranked}
use Rattle.std.specs.FinMap.{FinMap, get, same_map}
use Rattle.std.specs.List.{filter_map, list_any}
use Rattle.std.specs.Ordering.{eq_by_cmp}
use Rattle.std.specs.Option.{option_and_then}
use Rattle.std.specs.declared.cmp.Ordering.TheVariants.{Less}
use Rattle.std.proofs.lemmas.Bool.{false≢true}
use Rattle.net_types.proofs.EqualLemmas.{signature_test}
use Rattle.net_types.proofs.MapLemmas.{get-tabulate}
use Rattle.net_types.proofs.MemberLemmas.{Member-filter_map}
use Rattle.net_types.proofs.OrderLemmas.{prefix_tie, prefixes_total, tags_total}
use Rattle.net_types.proofs.OrderedLemmas.{any_member, member_any, ordered_rises, ordered_same}
use Rattle.net_types.proofs.RisingLemmas.{Member-filter, before, filter-Member}
use Rattle.net_types.proofs.TieLemmas.{less, prefix_cmp-IsAntisymmetric, tag_tie}
use Rattle.net_types.specs.Attributes.{same_signature}
use Rattle.net_types.specs.Keys.{prefix_cmp, tag_cmp}
use Rattle.net_types.specs.Maps.{ordered, tabulate}
use Rattle.net_types.specs.Routes.{first_of_list}
use Rattle.net_types.specs.Sets.{IsRising, Member}
use Rattle.net_types.specs.declared.address.Tag.{Tag}
use Rattle.net_types.specs.declared.prefix.Prefix.{Prefix}
use Rattle.net_types.specs.declared.route.Part.{Part}
use Rattle.prefix_classes.proofs.MemberLemmas.{has_member, some_member}
use Rattle.prefix_classes.proofs.MergeLemmas.{has_least, is_used, unmoved, used_is, no_move}
use Rattle.prefix_classes.specs.MergeLaws.{HaveSignatures, least_tag}
use Rattle.prefix_classes.specs.Merging.{IsLeastTag, IsMergeOf, moved, used_sig}
use Rattle.net_types.proofs.SetLemmas.{given_by}
use Rattle.net_types.proofs.FindLemmas.{some_same}

-- ---- what a list gives through a function that may give nothing

-- the first of rising tags is the least
first_least : (ts : List Tag) (t : Tag) → IsRising (before tag_cmp) ts → Member t ts → ((u : Tag) → Member u ts → t.0 ≤ u.0) → first_of_list ts ≡ Some t
first_least [] t rising m least = elim m [ ]
first_least (u ∷ ts) t rising (inl same) least = ap Some (sym same)
first_least (u ∷ ts) t rising (inr m) least =
    let lower : u.0 < t.0 = ranked u.0 t.0 Less (sym (less (tag_cmp u t) (rising.0 t m))) in
    let low : t.0 ≤ u.0 = least u (inl refl) in
    absurd (omega arith)

module _ (tags : FinMap prefix_cmp Tag) (kept : FinMap tag_cmp (List Part)) (ps : List Prefix) (sig_of : Prefix → List Part) (have : HaveSignatures tags kept ps sig_of) where
  abbrev is_alike : List Part → Prefix → Bool
  is_alike sig p = same_signature (sig_of p) sig

  abbrev tags_like : List Part → List Tag
  tags_like sig = filter_map (get tags) (filter (is_alike sig) ps)

  -- only these prefixes have tags
  has_none : (p : Prefix) → list_any (eq_by_cmp prefix_cmp p) ps ≡ false → get tags p ≡ None
  has_none p absent = have.others p (λ m. false≢true (sym absent ∙ member_any prefix_cmp prefixes_total prefix_tie p ps m))

  listed : (p : Prefix) (t : Tag) → get tags p ≡ Some t → Member p ps
  listed p t is = any_member prefix_cmp prefixes_total prefix_tie p ps (by (list_any (eq_by_cmp prefix_cmp p) ps) refl)
    where
      by : (b : Bool) → list_any (eq_by_cmp prefix_cmp p) ps ≡ b → b ≡ true
      by true there = refl
      by false absent = let none = has_none p absent in let both : Some t ≡ None = sym is ∙ none in cc

  -- the kept signature of the tag of a prefix is that of the prefix
  sig_is : (p : Prefix) (t : Tag) → Member p ps → get tags p ≡ Some t → get kept t ≡ Some (sig_of p)
  sig_is p t m is = sym (ap (option_and_then (get kept)) is) ∙ have.tagged p m

  -- the least of the tags with a signature is the least of those of the prefixes with it
  stands_there : (sig : List Part) (t : Tag) → used_sig tags kept t ≡ Some sig → Member t (tags_like sig)
  stands_there sig t is =
      let used = is_used tags kept t sig is in
      let some = has_member tags t used.0 in
      let m = listed some.0 t some.1 in
      let own : sig_of some.0 ≡ sig = some_same (get kept t) (sig_of some.0) sig (sig_is some.0 t m some.1) used.1 in
      Member-filter_map (get tags) (filter (is_alike sig) ps) some.0 t (Member-filter (is_alike sig) ps some.0 m ((signature_test (sig_of some.0) sig).1 own)) some.1

  is_of : (sig : List Part) (u : Tag) → Member u (tags_like sig) → used_sig tags kept u ≡ Some sig
  is_of sig u m =
      let from = given_by (get tags) (filter (is_alike sig) ps) u m in
      let left = filter-Member (is_alike sig) ps from.source from.stands in
      used_is tags kept u (some_member tags from.source u from.is)
      ∙ sig_is from.source u left.stands from.is ∙ ap Some ((signature_test (sig_of from.source) sig).0 left.passes)

  least_is_first : (sig : List Part) (t : Tag) → IsLeastTag tags kept sig t → least_tag tags ps sig_of sig ≡ Some t
  least_is_first sig t least =
      let same = ordered_same tag_cmp tags_total tag_tie (tags_like sig) in
      first_least (ordered tag_cmp (tags_like sig)) t
      (ordered_rises tag_cmp tags_total tag_tie (tags_like sig))
      (same.back t (stands_there sig t least.has))
      (λ u m. least.least u (is_of sig u (same.onto u m)))

  module _ (moves : List (Prefix × Tag)) (is : IsMergeOf tags kept moves) where
    abbrev least_at : Prefix → Option Tag
    least_at p = least_tag tags ps sig_of (sig_of p)

    moved_at : (p : Prefix) (b : Bool) → list_any (eq_by_cmp prefix_cmp p) ps ≡ b → get (moved tags moves) p ≡ cond b (least_at p) None
    moved_at p true there =
        let m = any_member prefix_cmp prefixes_total prefix_tie p ps there in
        let at = has_least tags kept moves is p (sig_of p) (have.tagged p m) in
        at.now ∙ sym (least_is_first (sig_of p) at.to at.least)
    moved_at p false absent =
        let none = has_none p absent in
        unmoved tags moves p (no_move tags kept moves is p (ap (option_and_then (get kept)) none)) ∙ none

    pub merged_tabulated : moved tags moves ≡ tabulate prefix_cmp ps least_at
    merged_tabulated = same_map prefixes_total prefix_cmp-IsAntisymmetric _ _ (λ p.
        moved_at p (list_any (eq_by_cmp prefix_cmp p) ps) refl
        ∙ sym (get-tabulate prefix_cmp prefixes_total least_at (λ q k tie. ap least_at (sym (prefix_tie q k tie))) ps p))
