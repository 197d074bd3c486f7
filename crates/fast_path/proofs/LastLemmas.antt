-- Rules that were built last are right for each part that is alike.
use Rattle.std.proofs.Common.{◌≡◌, true, Option, Some, None, List, [], ◌∷◌, ◌++◌, inl, inr, length, length-append, refl, sym, ap, subst, arith, ◌∙◌}
use Rattle.std.specs.Cmp.Lexicographic.{pointwise}
use Rattle.std.proofs.lemmas.Bool.{and_from}
use Rattle.std.proofs.lemmas.Option.{slice_get_within}
use Rattle.block_build.specs.Lent.{Lent}
use Rattle.block_build.specs.Right.{IsRightFor}
use Rattle.exchange_laws.proofs.OwnHops.{get_last}
use Rattle.exchange_laws.specs.Whole.{IsWhole}
use Rattle.fast_path.specs.Committing.{Block}
use Rattle.fast_path.specs.Last.{AreLast, IsAlike, IsBuilt, IsLast, IsRightByViews}
use Rattle.fast_path.specs.declared.last.Last.{Last}
use Rattle.fast_path.specs.declared.last.Lasts.{Lasts}
use Rattle.net_types.proofs.EqualLemmas.{signature_test}
use Rattle.net_types.specs.Attributes.{same_offer, same_part}
use Rattle.net_types.specs.Sets.{Member}
use Rattle.net_types.specs.declared.route.Offer.{Offer}
use Rattle.net_types.specs.declared.route.Part.{Part}
use Rattle.net_types.specs.declared.rule.Pair.{Pair}
use Rattle.net_types.specs.declared.rule.Rule.{Rule}

-- ---- offers that are told to be the same are the same

abbrev offering : List Offer → Part
offering offers = record { sender = record { 0 = 0 }; best = record { 0 = 0 }; offers = offers }

abbrev offers_in : List Offer → List Part → List Offer
offers_in none [] = none
offers_in none (part ∷ parts) = part.offers

pub offers_right : (xs ys : List Offer) → pointwise same_offer xs ys ≡ true → xs ≡ ys
offers_right xs ys same =
    let parts : same_part (offering xs) (offering ys) ≡ true = and_from _ _ refl (and_from _ _ refl same) in
    ap (offers_in xs) ((signature_test (offering xs ∷ []) (offering ys ∷ [])).0 (and_from _ _ parts refl))

-- ---- what is right for one part is right for one that is alike

pub right_alike : (all : List Lent) (one other : Part) (rules : List Rule) → IsAlike all one other → IsRightByViews all one rules → IsRightByViews all other rules
right_alike all one other rules alike is = record {
  view = is.view;
  outbound = is.outbound ∙ alike.outbound;
  inbound = λ o m. is.inbound o (subst (Member o) (sym alike.offers) m);
  right = λ port. subst (λ (part : Part). IsRightFor is.view port part rules) same (is.right port);
}
  where
    same : record one { sender = other.sender } ≡ other
    same = λ i. record { sender = other.sender; best = alike.best i; offers = alike.offers i }

-- ---- what was built stays where it is when a block comes behind

built-more : (all : List Lent) (blocks : List Block) (next : Block) (last : Last) → IsBuilt all blocks last → IsBuilt all (blocks ++ next ∷ []) last
built-more all blocks next last is = record {
  whole = is.whole;
  within = (let within = is.within in omega (arith, length-append blocks (next ∷ [])));
  right = λ block at. elim (get_last blocks next last.place block at) [
    | inl old ↦ is.right block old
    | inr (end, same) ↦ (let within = is.within in absurd (omega arith))
  ];
}

last-more : (all : List Lent) (blocks : List Block) (next : Block) (last : Option Last) → IsLast all blocks last → IsLast all (blocks ++ next ∷ []) last
last-more all blocks next None is = tt
last-more all blocks next (Some last) is = built-more all blocks next last is

pub lasts-more : (all : List Lent) (blocks : List Block) (next : Block) (lasts : Lasts) → AreLast all blocks lasts → AreLast all (blocks ++ next ∷ []) lasts
lasts-more all blocks next lasts are = record { few = last-more all blocks next lasts.few are.few; many = last-more all blocks next lasts.many are.many }

-- the block that comes behind was built for its part
pub built-next : (all : List Lent) (blocks : List Block) (pair : Pair) (part copy : Part) (block same : List Rule)
    → IsWhole (length all) part → IsRightByViews all part block → copy ≡ part → same ≡ block
    → IsBuilt all (blocks ++ (pair, same) ∷ []) (record { part = copy; place = length blocks })
built-next all blocks pair part copy block same whole right is one = record {
  whole = subst (IsWhole (length all)) (sym is) whole;
  within = omega (arith, length-append blocks ((pair, same) ∷ []));
  right = λ found at. elim (get_last blocks (pair, same) (length blocks) found at) [
    | inl old ↦ (let within = slice_get_within blocks (length blocks) found old in absurd (omega arith))
    | inr (end, it) ↦ subst (λ (b : Block). IsRightByViews all copy b.1) it (subst (λ (p : Part). IsRightByViews all p same) (sym is) (subst (IsRightByViews all part) (sym one) right))
  ];
}
