-- Making moves one after the other.
use Rattle.std.proofs.Common.{◌≡◌, ◌∙◌, ℕ, suc, ◌+◌, ◌<◌, true, false, cond, List, ◌∷◌, length, get_or, drop, drop-cons, sym, ap, refl, arith, inl, inr}
use Rattle.std.specs.Prelude.{Option, Some, None, is_some}
use Rattle.std.specs.FinMap.{FinMap, get, insert, get-insert}
use Rattle.std.specs.Ordering.{eq_by_cmp}
use Rattle.net_types.proofs.MemberLemmas.{Member-drop}
use Rattle.net_types.proofs.OrderLemmas.{prefixes_total}
use Rattle.net_types.specs.Keys.{prefix_cmp, tag_cmp}
use Rattle.net_types.specs.Sets.{Member}
use Rattle.net_types.specs.declared.address.Tag.{Tag}
use Rattle.net_types.specs.declared.prefix.Prefix.{Prefix}
use Rattle.net_types.specs.declared.route.Part.{Part}
use Rattle.prefix_classes.proofs.MergeLemmas.{is_used}
use Rattle.prefix_classes.specs.Classes.{missing}
use Rattle.prefix_classes.specs.Merging.{IsMergeOf, moved}

-- the prefixes of these moves have tags
abbrev pub HaveTags : FinMap prefix_cmp Tag → List (Prefix × Tag) → Type 0
HaveTags tags moves = (p : Prefix) (t : Tag) → Member (p, t) moves → is_some (get tags p) ≡ true

pub all_have_tags : (tags : FinMap prefix_cmp Tag) (kept : FinMap tag_cmp (List Part)) (moves : List (Prefix × Tag)) → IsMergeOf tags kept moves → HaveTags tags moves
all_have_tags tags kept moves is p t m = ap is_some (is.right p t m).had

module _ (moves : List (Prefix × Tag)) (i : ℕ) (x d : Prefix × Tag) (within : i < length moves) (here : x ≡ get_or moves i d) where
  split : drop i moves ≡ x ∷ drop (i + 1) moves
  split = drop-cons moves i d within ∙ (let one_on : suc i ≡ i + 1 = omega arith in λ j. sym here j ∷ drop (one_on j) moves)

  stands : Member x (drop i moves)
  stands = subst_member (sym split)
    where
      subst_member : x ∷ drop (i + 1) moves ≡ drop i moves → Member x (drop i moves)
      subst_member e = rw (← e) (inl refl)

  -- the tag that a prefix moves to is kept
  pub target_kept : (tags : FinMap prefix_cmp Tag) (kept : FinMap tag_cmp (List Part)) → IsMergeOf tags kept moves → is_some (get kept x.1) ≡ true
  target_kept tags kept is = let move = is.right x.0 x.1 (Member-drop i moves x stands) in ap is_some (is_used tags kept x.1 move.sig move.to.has).1

  pub has_tag_now : (tags : FinMap prefix_cmp Tag) → HaveTags tags (drop i moves) → get tags x.0 ≡ None → ⊥
  has_tag_now tags have none = let some = have x.0 x.1 stands in let both = ap is_some none in cc

  pub not_missing : (tags : FinMap prefix_cmp Tag) → HaveTags tags (drop i moves) → missing (get tags x.0) ≡ 0
  not_missing tags have = by (get tags x.0) (have x.0 x.1 stands)
    where
      by : (o : Option Tag) → is_some o ≡ true → missing o ≡ 0
      by None some = cc
      by (Some t) some = refl

  pub one_moved : (tags now : FinMap prefix_cmp Tag) → now ≡ insert tags x.0 x.1 → moved tags (drop i moves) ≡ moved now (drop (i + 1) moves)
  one_moved tags now next = ap (moved tags) split ∙ ap (λ m. moved m (drop (i + 1) moves)) (sym next)

  pub still_tagged : (tags now : FinMap prefix_cmp Tag) → now ≡ insert tags x.0 x.1 → HaveTags tags (drop i moves) → HaveTags now (drop (i + 1) moves)
  still_tagged tags now next have p t m =
      ap (λ n. is_some (get n p)) next ∙ ap is_some (get-insert prefixes_total tags x.0 x.1 p)
      ∙ elim (eq_by_cmp prefix_cmp p x.0) as (λ b. is_some (cond b (Some x.1) (get tags p)) ≡ true) [ true ↦ refl | false ↦ have p t (rw split (inr m)) ]
