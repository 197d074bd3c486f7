-- What is seen of tags stays as the slots of shared signatures change, as long as those that are held stay, and as many tags hold one as are counted.
use Rattle.std.proofs.Common.{◌≡◌, ℕ, zero, suc, ◌+◌, ◌<◌, ◌≤◌, Bool, if◌then◌else◌, true, false, cond, not, List, [], ◌∷◌, ◌++◌, length, map, take, drop, drop-cons, get_or, add-one, sym, subst, ap, ◌∙◌, refl, arith}
use Rattle.std.specs.Prelude.{Option, Some, None, is_some}
use Rattle.std.specs.Option.{option_map}
use Rattle.std.specs.Ordering.{eq_by_cmp, is_eq, is_lt}
use Rattle.std.specs.declared.cmp.Ordering.{Ordering}
use Rattle.std.specs.declared.cmp.Ordering.TheVariants.{Less, Equal, Greater}
use Rattle.std.specs.FinMap.Entries.{find, put, is_sorted, below_all, by_order}
use Rattle.std.proofs.Math.Seq.{take-append_seam}
use Rattle.std.proofs.lemmas.Bool.{and_parts, eq-eqb}
use Rattle.net_types.proofs.OrderLemmas.{tags_total}
use Rattle.net_types.specs.Keys.{tag_cmp}
use Rattle.net_types.specs.Signatures.{trimmed}
use Rattle.net_types.specs.declared.address.Pid.{Pid}
use Rattle.net_types.specs.declared.address.Tag.{Tag}
use Rattle.net_types.specs.declared.route.Part.{Part}
use Rattle.ordered_map.specs.Changes.{changed_all, changed_at, with_values}
use Rattle.ordered_map.specs.Entries.{without, without_each}
use Rattle.tag_table.specs.Entries.{value_in}
use Rattle.prefix_classes.proofs.ShownLemmas.{find-shown, found_counts}
use Rattle.prefix_classes.specs.Recounted.{recounted}
use Rattle.prefix_classes.specs.Slots.{AreShared, AreUsed, Slots, is_at, recounted_place, shared_sig, shared_tags, shown, shown_items, shown_sig, sig_at, tags_at, trimmed_held, trimmed_place, trimmed_shared, uses}
use Rattle.prefix_classes.specs.Trimmed.{trimmed_entry, trimmed_kept}
use Rattle.prefix_classes.specs.declared.kept.Holding.{Holding}
use Rattle.prefix_classes.specs.declared.kept.Holding.TheVariants.{At, Own}
use Rattle.prefix_classes.specs.declared.kept.Place.{Place}
use Rattle.prefix_classes.specs.declared.kept.Shared.{Shared}
use Rattle.prefix_classes.specs.declared.members.Kept.{Kept}
use Rattle.prefix_classes.specs.declared.members.Recount.{Recount}
use Rattle.prefix_classes.specs.declared.members.Recount.TheVariants.{More, Less as Fewer}

-- ---- the slots

-- a slot that is made has nothing
value_push : {V : Type 0} (xs : List (Option V)) (n : ℕ) → value_in (xs ++ None ∷ []) n ≡ value_in xs n
value_push [] zero = refl
value_push [] (suc n) = refl
value_push (x ∷ xs) zero = refl
value_push (x ∷ xs) (suc n) = value_push xs n

pub value_made : {V : Type 0} (made : Bool) (xs ys : List (Option V)) → ys ≡ (if made then xs ++ None ∷ [] else xs) → (n : ℕ) → value_in ys n ≡ value_in xs n
value_made true xs ys is n = ap (λ s. value_in s n) is ∙ value_push xs n
value_made false xs ys is n = ap (λ s. value_in s n) is

-- what is read of a slot
pub value_read : {V : Type 0} (xs : List (Option V)) (i : ℕ) (d : Option V) → i < length xs → value_in xs i ≡ get_or xs i d
value_read [] i d h = absurd (omega arith)
value_read (x ∷ xs) zero d h = refl
value_read (x ∷ xs) (suc i) d h = value_read xs i d (omega arith)

-- a list that was lent as a slice, and written whole
pub written : {A : Type 0} (n : ℕ) (xs ys : List A) → length xs ≡ length ys → n ≡ length ys → take n (xs ++ drop (length xs) ys) ≡ xs
written n xs ys same size = ap (λ m. take m (xs ++ drop (length xs) ys)) (size ∙ sym same) ∙ take-append_seam xs (drop (length xs) ys)

itself : (n : ℕ) → is_at n (At n) ≡ 1
itself n = ap {B = ℕ} (λ b. cond b 1 0) (eq-eqb n n refl)

-- where a tag holds a signature, there is one
pub held_there : (xs : Slots) (i : ℕ) → ((n : ℕ) → is_at n (At i) ≤ tags_at xs n) → value_in xs i ≡ None → ⊥
held_there xs i held none =
    let one = itself i in
    let few = held i in
    let zero = ap shared_tags none in
    omega (arith, one, few, zero)

-- ---- what is seen of the entries

module _ (slots : Slots) where
  shown-put : (t : Tag) (p : Place) (es : List (Tag × Place)) → shown_items slots (put tag_cmp t p es) ≡ put tag_cmp t (shown slots p) (shown_items slots es)
  shown-put t p [] = refl
  shown-put t p (e ∷ es) =
      let seen : Tag × Kept = (e.0, shown slots e.1) in
      let here : Tag × Kept = (t, shown slots p) in
      elim (tag_cmp t e.0) as (λ r. shown_items slots (by_order r ((t, p) ∷ e ∷ es) ((e.0, p) ∷ es) (e ∷ put tag_cmp t p es)) ≡ by_order r (here ∷ seen ∷ shown_items slots es) ((e.0, shown slots p) ∷ shown_items slots es) (seen ∷ put tag_cmp t (shown slots p) (shown_items slots es))) [
        | Less ↦ refl
        | Equal ↦ refl
        | Greater ↦ ap (λ ds. seen ∷ ds) (shown-put t p es)
      ]

  shown-without : (t : Tag) (es : List (Tag × Place)) → shown_items slots (without tag_cmp t es) ≡ without tag_cmp t (shown_items slots es)
  shown-without t [] = refl
  shown-without t (e ∷ es) =
      let seen : Tag × Kept = (e.0, shown slots e.1) in
      elim (eq_by_cmp tag_cmp t e.0) as (λ b. shown_items slots (cond (not b) (e ∷ without tag_cmp t es) (without tag_cmp t es)) ≡ cond (not b) (seen ∷ without tag_cmp t (shown_items slots es)) (without tag_cmp t (shown_items slots es))) [
        | true ↦ shown-without t es
        | false ↦ ap (λ ds. seen ∷ ds) (shown-without t es)
      ]

  none_shown : (o : Option Place) → option_map (shown slots) o ≡ None → o ≡ None
  none_shown None e = refl
  none_shown (Some p) e = let some = ap is_some e in cc

-- values that change
shown-values : (slots next : Slots) (f : Tag → Place → Place) (g : Tag → Kept → Kept) → ((t : Tag) (p : Place) → shown next (f t p) ≡ g t (shown slots p)) → (es : List (Tag × Place)) → shown_items next (with_values f es) ≡ with_values g (shown_items slots es)
shown-values slots next f g same [] = refl
shown-values slots next f g same (e ∷ es) = λ i. (e.0, same e.0 e.1 i) ∷ shown-values slots next f g same es i

-- slots where each signature that is held stays
module _ (before after : Slots) where
  same_held : (held : Holding) → ((n : ℕ) → 0 < is_at n held → sig_at after n ≡ sig_at before n) → shown_sig after held ≡ shown_sig before held
  same_held (Own sig) same = refl
  same_held (At n) same = same n (let one = itself n in omega (arith, one))

  same_shown : (es : List (Tag × Place)) → ((n : ℕ) → 0 < uses n es → sig_at after n ≡ sig_at before n) → shown_items after es ≡ shown_items before es
  same_shown [] same = refl
  same_shown (e ∷ es) same =
      let sig = same_held e.1.held (λ n some. same n (omega (arith, some))) in
      let rest = same_shown es (λ n some. same n (omega (arith, some))) in
      λ i. (e.0, record { sig = sig i; members = e.1.members }) ∷ rest i

-- ---- how many of the entries hold a signature

equal : (r : Ordering) → is_eq r ≡ true → r ≡ Equal
equal Less e = cc
equal Equal e = refl
equal Greater e = cc

other : (r : Ordering) → is_lt r ≡ true → is_eq r ≡ false
other Less e = refl
other Equal e = cc
other Greater e = cc

-- a tag whose entry is behind has no other
without_below : (t x : Tag) (es : List (Tag × Place)) → tag_cmp t x ≡ Equal → below_all tag_cmp x es ≡ true → without tag_cmp t es ≡ es
without_below t x [] tie below = refl
without_below t x (e ∷ es) tie below =
    let parts = and_parts (is_lt (tag_cmp x e.0)) (below_all tag_cmp x es) below in
    ap (λ b. cond (not b) (e ∷ without tag_cmp t es) (without tag_cmp t es)) (ap is_eq (tags_total.congr t x e.0 tie) ∙ other _ parts.0)
    ∙ ap (λ ds. e ∷ ds) (without_below t x es tie parts.1)

abbrev held_by : ℕ → Option Place → ℕ
held_by n None = 0
held_by n (Some p) = is_at n p.held

module _ (n : ℕ) where
  uses-put : (t : Tag) (p : Place) (es : List (Tag × Place)) → find tag_cmp t es ≡ None → uses n (put tag_cmp t p es) ≡ is_at n p.held + uses n es
  uses-put t p [] none = refl
  uses-put t p (e ∷ es) none =
      elim (tag_cmp t e.0) as (λ r. cond (is_eq r) (Some e.1) (find tag_cmp t es) ≡ None → uses n (by_order r ((t, p) ∷ e ∷ es) ((e.0, p) ∷ es) (e ∷ put tag_cmp t p es)) ≡ is_at n p.held + (is_at n e.1.held + uses n es)) [
        | Less ↦ λ missing. refl
        | Equal ↦ λ missing. (let some = ap is_some missing in absurd (cc))
        | Greater ↦ λ missing. let rest = uses-put t p es missing in omega (arith, rest)
      ] none

  uses-without : (t : Tag) (es : List (Tag × Place)) → is_sorted tag_cmp es ≡ true → uses n (without tag_cmp t es) + held_by n (find tag_cmp t es) ≡ uses n es
  uses-without t [] sorted = refl
  uses-without t (e ∷ es) sorted = by (eq_by_cmp tag_cmp t e.0) refl (uses-without t es parts.1)
    where
      parts : (below_all tag_cmp e.0 es ≡ true) × (is_sorted tag_cmp es ≡ true)
      parts = and_parts (below_all tag_cmp e.0 es) (is_sorted tag_cmp es) sorted

      by : (b : Bool) → eq_by_cmp tag_cmp t e.0 ≡ b → uses n (without tag_cmp t es) + held_by n (find tag_cmp t es) ≡ uses n es → uses n (cond (not b) (e ∷ without tag_cmp t es) (without tag_cmp t es)) + held_by n (cond b (Some e.1) (find tag_cmp t es)) ≡ is_at n e.1.held + uses n es
      by true tie rest = let left = ap (uses n) (without_below t e.0 es (equal _ tie) parts.0) in omega (arith, left)
      by false apart rest = omega (arith, rest)

  uses-values : (f : Tag → Place → Place) → ((t : Tag) (p : Place) → is_at n (f t p).held ≡ is_at n p.held) → (es : List (Tag × Place)) → uses n (with_values f es) ≡ uses n es
  uses-values f same [] = refl
  uses-values f same (e ∷ es) = λ i. same e.0 e.1 i + uses-values f same es i

-- ---- a tag is kept

module _ (before after : Slots) (t : Tag) (held : Holding) (sig : List Part) (members : ℕ) (es fs : List (Tag × Place)) (shared : AreShared before es) where
  abbrev place : Place
  place = record { held = held; members = members }

  module _ (is : fs ≡ put tag_cmp t place es) where
    pub put_shared : find tag_cmp t (shown_items before es) ≡ None → is_sorted tag_cmp fs ≡ true → ((n : ℕ) → tags_at after n ≡ tags_at before n + is_at n held) → AreUsed after → AreShared after fs
    put_shared new sorted tags used = record {
      sorted = sorted;
      counted = λ n.
          let all = ap (uses n) is ∙ uses-put n t place es (none_shown before _ (sym (find-shown before t es) ∙ new)) in
          let had = shared.counted n in
          let more = tags n in
          omega (arith, all, had, more);
      used = used;
    }

    pub put_shown : shown_sig after held ≡ sig → ((n : ℕ) → 0 < tags_at before n → sig_at after n ≡ sig_at before n) → shown_items after fs ≡ put tag_cmp t (record { sig = sig; members = members }) (shown_items before es)
    put_shown holds kept =
        let same = same_shown before after es (λ n some. kept n (let had = shared.counted n in omega (arith, some, had))) in
        ap (shown_items after) is ∙ shown-put after t place es ∙ (λ i. put tag_cmp t (record { sig = holds i; members = members }) (same i))

-- ---- a tag is taken out

-- what a tag holds is counted where the slots are lent
pub held_counts : (before lent : Slots) (t : Tag) (es : List (Tag × Place)) (p : Place) → AreShared before es → lent ≡ before → Some p ≡ find tag_cmp t es → (n : ℕ) → is_at n p.held ≤ tags_at lent n
held_counts before lent t es p shared same was n =
    let held = found_counts n t es p (sym was) in
    let had = shared.counted n in
    let all = ap (λ slots. tags_at slots n) same in
    omega (arith, held, had, all)

module _ (before : Slots) (t : Tag) (es fs : List (Tag × Place)) (shared : AreShared before es) (is : fs ≡ without tag_cmp t es) (sorted : is_sorted tag_cmp fs ≡ true) where
  left_uses : (n : ℕ) → tags_at before n ≡ uses n fs + held_by n (find tag_cmp t es)
  left_uses n =
      let all = ap (uses n) is in
      let rest = uses-without n t es shared.sorted in
      let had = shared.counted n in
      omega (arith, all, rest, had)

  pub none_shared : None ≡ find tag_cmp t es → AreShared before fs
  none_shared none = record {
    sorted = sorted;
    counted = λ n.
        let left = left_uses n in
        let one = ap (held_by n) none in
        omega (arith, left, one);
    used = shared.used;
  }

  pub none_left : shown_items before fs ≡ without tag_cmp t (shown_items before es)
  none_left = ap (shown_items before) is ∙ shown-without before t es

  -- the slots are lent as a slice, and come back
  module _ (lent : Slots) (same : lent ≡ before) (after next : Slots) (back : next ≡ after) (p : Place) (was : Some p ≡ find tag_cmp t es) (tags : (n : ℕ) → tags_at lent n ≡ tags_at after n + is_at n p.held) where
    fewer : (n : ℕ) → tags_at after n ≡ uses n fs
    fewer n =
        let left = left_uses n in
        let one = ap (held_by n) was in
        let had = ap (λ slots. tags_at slots n) same in
        let less = tags n in
        omega (arith, left, one, had, less)

    pub took_shared : AreUsed after → AreShared next fs
    took_shared used = subst (λ slots. AreShared slots fs) (sym back) (record { sorted = sorted; counted = fewer; used = used })

    pub took_left : ((n : ℕ) → 0 < tags_at after n → sig_at after n ≡ sig_at lent n) → shown_items next fs ≡ without tag_cmp t (shown_items before es)
    took_left kept =
        ap (λ slots. shown_items slots fs) back
        ∙ same_shown before after fs (λ n some. kept n (let few = fewer n in omega (arith, some, few)) ∙ ap (λ slots. sig_at slots n) same)
        ∙ none_left

-- the next one of several tags
pub without_next : (qs : List Tag) (i : ℕ) (d : Tag) (es fs : List (Tag × Kept)) → i < length qs → fs ≡ without tag_cmp (get_or qs i d) es → without_each tag_cmp (drop (i + 1) qs) fs ≡ without_each tag_cmp (drop i qs) es
without_next qs i d es fs h is =
    ap (λ m. without_each tag_cmp (drop m qs) fs) (add-one i)
    ∙ ap (without_each tag_cmp (drop (suc i) qs)) is
    ∙ ap (λ ts. without_each tag_cmp ts es) (sym (drop-cons qs i d h))

-- ---- one member more or less

module _ (slots : Slots) (r : Recount) where
  same_place : (n : ℕ) (p : Place) → is_at n (recounted_place r p).held ≡ is_at n p.held
  same_place n p = elim r as (λ r. is_at n (recounted_place r p).held ≡ is_at n p.held) [ More ↦ refl | Fewer ↦ refl ]

  seen_again : (p : Place) → shown slots (recounted_place r p) ≡ recounted r (shown slots p)
  seen_again p = elim r as (λ r. shown slots (recounted_place r p) ≡ recounted r (shown slots p)) [ More ↦ refl | Fewer ↦ refl ]

  module _ (t : Tag) (es fs : List (Tag × Place)) (is : fs ≡ changed_at tag_cmp t (recounted_place r) es) where
    pub recounted_shared : AreShared slots es → is_sorted tag_cmp fs ≡ true → AreShared slots fs
    recounted_shared shared sorted = record {
      sorted = sorted;
      counted = λ n.
          let all = ap (uses n) is ∙ uses-values n _ (λ u p. elim (eq_by_cmp tag_cmp t u) as (λ b. is_at n (cond b (recounted_place r p) p).held ≡ is_at n p.held) [ true ↦ same_place n p | false ↦ refl ]) es in
          let had = shared.counted n in
          omega (arith, all, had);
      used = shared.used;
    }

    pub recounted_shown : shown_items slots fs ≡ changed_at tag_cmp t (recounted r) (shown_items slots es)
    recounted_shown =
        ap (shown_items slots) is
        ∙ shown-values slots slots _ _ (λ u p. elim (eq_by_cmp tag_cmp t u) as (λ b. shown slots (cond b (recounted_place r p) p) ≡ cond b (recounted r (shown slots p)) (shown slots p)) [ true ↦ seen_again p | false ↦ refl ]) es

-- ---- offers that are trimmed

module _ (who : Pid) (named : List Pid) where
  trim_value : (slots : Slots) (n : ℕ) → value_in (map (trimmed_shared who named) slots) n ≡ trimmed_shared who named (value_in slots n)
  trim_value [] n = refl
  trim_value (s ∷ slots) zero = refl
  trim_value (s ∷ slots) (suc n) = trim_value slots n

  tags_stay : (o : Option Shared) → shared_tags (trimmed_shared who named o) ≡ shared_tags o
  tags_stay None = refl
  tags_stay (Some s) = refl

  sig_trimmed : (o : Option Shared) → shared_sig (trimmed_shared who named o) ≡ trimmed who named (shared_sig o)
  sig_trimmed None = refl
  sig_trimmed (Some s) = refl

  place_stays : (n : ℕ) (held : Holding) → is_at n (trimmed_held who named held) ≡ is_at n held
  place_stays n (Own sig) = refl
  place_stays n (At m) = refl

  module _ (slots next : Slots) (trims : next ≡ map (trimmed_shared who named) slots) where
    value_trimmed : (n : ℕ) → value_in next n ≡ trimmed_shared who named (value_in slots n)
    value_trimmed n = ap (λ s. value_in s n) trims ∙ trim_value slots n

    held_trimmed : (held : Holding) → shown_sig next (trimmed_held who named held) ≡ trimmed who named (shown_sig slots held)
    held_trimmed (Own sig) = refl
    held_trimmed (At n) = ap shared_sig (value_trimmed n) ∙ sig_trimmed (value_in slots n)

    module _ (es fs : List (Tag × Place)) (is : fs ≡ changed_all (trimmed_place who named) es) where
      pub trimmed_are_shared : AreShared slots es → is_sorted tag_cmp fs ≡ true → AreShared next fs
      trimmed_are_shared shared sorted = record {
        sorted = sorted;
        counted = λ n.
            let all = ap (uses n) is ∙ uses-values n (λ t. trimmed_place who named) (λ t p. place_stays n p.held) es in
            let tags = ap shared_tags (value_trimmed n) ∙ tags_stay (value_in slots n) in
            let had = shared.counted n in
            omega (arith, all, tags, had);
        used = λ n none.
            let tags = ap shared_tags (value_trimmed n) ∙ tags_stay (value_in slots n) in
            value_trimmed n ∙ ap (trimmed_shared who named) (shared.used n (sym tags ∙ none));
      }

      pub trimmed_shown : shown_items next fs ≡ map (trimmed_entry who named) (shown_items slots es)
      trimmed_shown =
          ap (shown_items next) is
          ∙ shown-values slots next (λ t. trimmed_place who named) (λ t. trimmed_kept who named) (λ t p i. record { sig = held_trimmed p.held i; members = p.members }) es
