-- The first of the tags with a signature is the least of them, and what is found of the tags so far.
use Rattle.std.proofs.Common.{◌≡◌, ◌∙◌, ◌<◌, ◌≤◌, Bool, true, false, cond, List, [], ◌∷◌, sym, ap, refl, arith}
use Rattle.std.specs.Prelude.{Option, Some, None, is_some}
use Rattle.std.specs.Cmp.{IsTotalOrder, alike_right, ranked}
use Rattle.std.proofs.lemmas.Bool.{and_parts}
use Rattle.std.specs.FinMap.Entries.{find, put, find-put, is_sorted, below_all}
use Rattle.std.specs.Ordering.{eq_by_cmp, is_eq, is_lt, ordering_reverse}
use Rattle.std.specs.declared.cmp.Ordering.{Ordering}
use Rattle.std.specs.declared.cmp.Ordering.TheVariants.{Less}
use Rattle.net_types.proofs.OrderLemmas.{tags_total}
use Rattle.net_types.proofs.TieLemmas.{less, same_from_tie, tag_tie, tie_Equal, ties_itself}
use Rattle.net_types.specs.Keys.{tag_cmp}
use Rattle.net_types.specs.declared.address.Tag.{Tag}
use Rattle.net_types.specs.declared.route.Part.{Part}
use Rattle.prefix_classes.proofs.BelowLemmas.{first_below, rest_sorted}
use Rattle.prefix_classes.proofs.PlacedLemmas.{sig_cmp-IsAntisymmetric}
use Rattle.prefix_classes.specs.Placed.{AreFirsts, first_with, sig_cmp}
use Rattle.prefix_classes.specs.PlacedLaws.{sigs_total}
use Rattle.std.proofs.lemmas.Option.{same_Some}

-- a key that is below all comes before each that is found
below_found : {K X : Type 0} (R : K → K → Ordering) → IsTotalOrder R → (x k : K) (es : List (K × X)) → below_all R x es ≡ true → is_some (find R k es) ≡ true → R x k ≡ Less
below_found R o x k [] below found = cc
below_found R o x k (e ∷ es) below found =
    let parts = and_parts (is_lt (R x e.0)) (below_all R x es) below in
    by (eq_by_cmp R k e.0) refl parts.0 found (λ later. below_found R o x k es parts.1 later)
  where
    by : (b : Bool) → eq_by_cmp R k e.0 ≡ b → is_lt (R x e.0) ≡ true → is_some (cond b (Some e.1) (find R k es)) ≡ true → (is_some (find R k es) ≡ true → R x k ≡ Less) → R x k ≡ Less
    by true tie low here rest = alike_right o k e.0 x (tie_Equal _ tie) ∙ less _ low
    by false apart low later rest = rest later

-- ---- the first of the tags with a signature

module _ (sig : List Part) where
  -- an entry with another signature isn't the one that is found
  another : (e : Tag × List Part) → eq_by_cmp sig_cmp sig e.1 ≡ false → Some e.1 ≡ Some sig → ⊥
  another e other here =
      let itself : eq_by_cmp sig_cmp sig e.1 ≡ true = ap (eq_by_cmp sig_cmp sig) (same_Some e.1 sig here) ∙ ties_itself sigs_total sig in
      let both : true ≡ false = sym itself ∙ other in
      cc

  -- where a tag has it, a first one is there
  pub first_there : (t : Tag) (es : List (Tag × List Part)) → find tag_cmp t es ≡ Some sig → is_some (first_with sig es) ≡ true
  first_there t [] here = cc
  first_there t (e ∷ es) here = by (eq_by_cmp sig_cmp sig e.1) refl (eq_by_cmp tag_cmp t e.0) here (λ later. first_there t es later)
    where
      by : (b : Bool) → eq_by_cmp sig_cmp sig e.1 ≡ b → (a : Bool) → cond a (Some e.1) (find tag_cmp t es) ≡ Some sig → (find tag_cmp t es ≡ Some sig → is_some (first_with sig es) ≡ true) → is_some (cond b (Some e.0) (first_with sig es)) ≡ true
      by true same a found rest = refl
      by false other true found rest = absurd (another e other found)
      by false other false found rest = rest found

  -- the first has the signature, and no tag with it is less
  pub record IsFirst (es : List (Tag × List Part)) (r : Tag) : Type 0 where
    pub there : find tag_cmp r es ≡ Some sig
    pub least : (u : Tag) → find tag_cmp u es ≡ Some sig → r.0 ≤ u.0

  module _ (e : Tag × List Part) (es : List (Tag × List Part)) (sorted : is_sorted tag_cmp (e ∷ es) ≡ true) where
    after_first : (u : Tag) → is_some (find tag_cmp u es) ≡ true → tag_cmp e.0 u ≡ Less
    after_first u found = below_found tag_cmp tags_total e.0 u es (first_below tag_cmp e es sorted) found

    later_apart : (u : Tag) → is_some (find tag_cmp u es) ≡ true → eq_by_cmp tag_cmp u e.0 ≡ false
    later_apart u found = ap is_eq (tags_total.antisymm u e.0) ∙ ap (λ o. is_eq (ordering_reverse o)) (after_first u found)

    least_here : (u : Tag) (a : Bool) → eq_by_cmp tag_cmp u e.0 ≡ a → cond a (Some e.1) (find tag_cmp u es) ≡ Some sig → e.0.0 ≤ u.0
    least_here u true tie here =
        let same : u.0 ≡ e.0.0 = ap (λ (t : Tag). t.0) (tag_tie u e.0 tie) in
        omega arith
    least_here u false apart later =
        let more : e.0.0 < u.0 = ranked e.0.0 u.0 Less (sym (after_first u (ap is_some later))) in
        omega arith

    first_here : (r : Tag) → e.0 ≡ r → sig ≡ e.1 → IsFirst (e ∷ es) r
    first_here r tag value = record {
      there = ap (λ q. find tag_cmp q (e ∷ es)) (sym tag) ∙ ap (λ b. cond b (Some e.1) (find tag_cmp e.0 es)) (ties_itself tags_total e.0) ∙ ap Some (sym value);
      least = λ u found.
          let number : r.0 ≡ e.0.0 = ap (λ (t : Tag). t.0) (sym tag) in
          let low : e.0.0 ≤ u.0 = least_here u (eq_by_cmp tag_cmp u e.0) refl found in
          omega arith;
    }

    skip : (u : Tag) (a : Bool) → eq_by_cmp sig_cmp sig e.1 ≡ false → cond a (Some e.1) (find tag_cmp u es) ≡ Some sig → find tag_cmp u es ≡ Some sig
    skip u true other here = absurd (another e other here)
    skip u false other later = later

    first_later : (r : Tag) → eq_by_cmp sig_cmp sig e.1 ≡ false → IsFirst es r → IsFirst (e ∷ es) r
    first_later r other is = record {
      there = ap (λ b. cond b (Some e.1) (find tag_cmp r es)) (later_apart r (ap is_some is.there)) ∙ is.there;
      least = λ u found. is.least u (skip u (eq_by_cmp tag_cmp u e.0) other found);
    }

  pub first_is : (es : List (Tag × List Part)) (r : Tag) → is_sorted tag_cmp es ≡ true → first_with sig es ≡ Some r → IsFirst es r
  first_is [] r sorted is = cc
  first_is (e ∷ es) r sorted is = by (eq_by_cmp sig_cmp sig e.1) refl is (λ later. first_is es r (rest_sorted tag_cmp e es sorted) later)
    where
      by : (b : Bool) → eq_by_cmp sig_cmp sig e.1 ≡ b → cond b (Some e.0) (first_with sig es) ≡ Some r → (first_with sig es ≡ Some r → IsFirst es r) → IsFirst (e ∷ es) r
      by true same here rest = first_here e es sorted r (same_Some e.0 r here) (same_from_tie sig_cmp sig_cmp-IsAntisymmetric sig e.1 same)
      by false other later rest = first_later e es sorted r other (rest later)

-- ---- the tags one after another

abbrev either : Option Tag → Option Tag → Option Tag
either None o = o
either (Some t) o = Some t

-- each signature has its first tag among those that were found, or else among those that are left
abbrev pub AreFirstsSoFar : List (Tag × List Part) → List (Tag × List Part) → List (List Part × Tag) → Type 0
AreFirstsSoFar tags left firsts = (sig : List Part) → either (find sig_cmp sig firsts) (first_with sig left) ≡ first_with sig tags

pub none_found : (tags left : List (Tag × List Part)) (firsts : List (List Part × Tag)) → left ≡ tags → firsts ≡ [] → AreFirstsSoFar tags left firsts
none_found tags left firsts all none = λ sig. ap (λ es. either (find sig_cmp sig es) (first_with sig left)) none ∙ ap (first_with sig) all

pub all_found : (tags : List (Tag × List Part)) (firsts : List (List Part × Tag)) → AreFirstsSoFar tags [] firsts → AreFirsts tags firsts
all_found tags firsts so_far = λ sig. whole (find sig_cmp sig firsts) ∙ so_far sig
  where
    whole : (o : Option Tag) → o ≡ either o None
    whole None = refl
    whole (Some t) = refl

module _ (tags : List (Tag × List Part)) (e : Tag × List Part) (left : List (Tag × List Part)) (firsts : List (List Part × Tag)) (so_far : AreFirstsSoFar tags (e ∷ left) firsts) where
  pub found_before : is_some (find sig_cmp e.1 firsts) ≡ true → AreFirstsSoFar tags left firsts
  found_before found = λ sig. by sig (eq_by_cmp sig_cmp sig e.1) refl (so_far sig)
    where
      pick : (o : Option Tag) → is_some o ≡ true → (x y : Option Tag) → either o x ≡ either o y
      pick None some x y = cc
      pick (Some t) some x y = refl

      by : (sig : List Part) (b : Bool) → eq_by_cmp sig_cmp sig e.1 ≡ b → either (find sig_cmp sig firsts) (cond b (Some e.0) (first_with sig left)) ≡ first_with sig tags → either (find sig_cmp sig firsts) (first_with sig left) ≡ first_with sig tags
      by sig true tie is = pick (find sig_cmp sig firsts) (ap (λ s. is_some (find sig_cmp s firsts)) (same_from_tie sig_cmp sig_cmp-IsAntisymmetric sig e.1 tie) ∙ found) _ _ ∙ is
      by sig false apart is = is

  pub found_now : is_some (find sig_cmp e.1 firsts) ≡ false → AreFirstsSoFar tags left (put sig_cmp e.1 e.0 firsts)
  found_now missing = λ sig.
      ap (λ o. either o (first_with sig left)) (find-put sig_cmp sigs_total sig e.1 e.0 firsts)
      ∙ by sig (eq_by_cmp sig_cmp sig e.1) refl (so_far sig)
    where
      nothing : (o : Option Tag) → is_some o ≡ false → None ≡ o
      nothing None none = refl
      nothing (Some t) none = cc

      by : (sig : List Part) (b : Bool) → eq_by_cmp sig_cmp sig e.1 ≡ b → either (find sig_cmp sig firsts) (cond b (Some e.0) (first_with sig left)) ≡ first_with sig tags → either (cond b (Some e.0) (find sig_cmp sig firsts)) (first_with sig left) ≡ first_with sig tags
      by sig true tie is = ap (λ o. either o (Some e.0)) (nothing (find sig_cmp sig firsts) (ap (λ s. is_some (find sig_cmp s firsts)) (same_from_tie sig_cmp sig_cmp-IsAntisymmetric sig e.1 tie) ∙ missing)) ∙ is
      by sig false apart is = is
