-- The numbers of members that are kept of tags, against the tags of prefixes.
use Rattle.std.proofs.Common.{◌≡◌, ℕ, ◌+◌, ◌<◌, ◌^◌, Bool, true, false, cond, List, map, length, sym, ap, ◌∙◌, refl, arith}
use Rattle.std.specs.Prelude.{Option, Some, None, is_some}
use Rattle.std.specs.Option.{option_map}
use Rattle.std.specs.Ordering.{eq_by_cmp}
use Rattle.std.specs.FinMap.{FinMap, get, insert, remove, entries, same_map}
use Rattle.std.specs.FinMap.Entries.{find, is_sorted, find_tied}
use Rattle.net_types.proofs.OrderLemmas.{tags_total}
use Rattle.net_types.proofs.PlaceLemmas.{get_sorted}
use Rattle.net_types.proofs.TieLemmas.{tag_cmp-IsAntisymmetric, tie_Equal}
use Rattle.net_types.specs.Keys.{prefix_cmp, tag_cmp}
use Rattle.net_types.specs.declared.address.Tag.{Tag}
use Rattle.net_types.specs.declared.prefix.Prefix.{Prefix}
use Rattle.net_types.specs.declared.route.Part.{Part}
use Rattle.ordered_map.proofs.ChangeLemmas.{find-changed}
use Rattle.ordered_map.specs.Changes.{changed_at}
use Rattle.prefix_classes.proofs.MappedLemmas.{find-mapped, sorted-mapped}
use Rattle.prefix_classes.proofs.MemberLemmas.{members-insert, members-remove, members-le, is_tag-itself, some_member}
use Rattle.prefix_classes.specs.Classes.{has_tag, members}
use Rattle.prefix_classes.specs.Counts.{counted, members_of, sig_entry, sigs_of, IsCounted, IsRecounted}
use Rattle.prefix_classes.specs.Recounted.{recounted}
use Rattle.prefix_classes.specs.declared.members.Kept.{Kept}
use Rattle.prefix_classes.specs.declared.members.Recount.TheVariants.{More, Less}

-- ---- the signatures

abbrev pub sig_in : Option Kept → Option (List Part)
sig_in o = option_map (λ (k : Kept). k.sig) o

pub sorted-sigs : (es : List (Tag × Kept)) → is_sorted tag_cmp (map sig_entry es) ≡ is_sorted tag_cmp es
sorted-sigs = sorted-mapped (λ (k : Kept). k.sig)

-- the signature that is kept for a tag
pub get-sigs : (es : List (Tag × Kept)) (q : Tag) → is_sorted tag_cmp es ≡ true → get (sigs_of es) q ≡ sig_in (find tag_cmp q es)
get-sigs es q sorted = get_sorted tag_cmp (map sig_entry es) q (sorted-sigs es ∙ sorted) ∙ find-mapped (λ (k : Kept). k.sig) q es

is_some-sig : (o : Option Kept) → is_some (sig_in o) ≡ is_some o
is_some-sig None = refl
is_some-sig (Some k) = refl

-- a tag has an entry exactly where its signature is kept
pub is_some-kept : (es : List (Tag × Kept)) (t : Tag) (kept : FinMap tag_cmp (List Part)) → is_sorted tag_cmp es ≡ true → sigs_of es ≡ kept → is_some (get kept t) ≡ is_some (find tag_cmp t es)
is_some-kept es t kept sorted same = sym (ap (λ m. is_some (get m t)) same) ∙ ap is_some (get-sigs es t sorted) ∙ is_some-sig (find tag_cmp t es)

pub find_kept : (es : List (Tag × Kept)) (t : Tag) (kept : FinMap tag_cmp (List Part)) → is_sorted tag_cmp es ≡ true → sigs_of es ≡ kept → is_some (get kept t) ≡ true → is_some (find tag_cmp t es) ≡ true
find_kept es t kept sorted same there = sym (is_some-kept es t kept sorted same) ∙ there

pub no_sig : (o : Option Kept) → sig_in o ≡ None → o ≡ None
no_sig None e = refl
no_sig (Some k) e = let some = ap is_some e in cc

-- a tag whose signature isn't kept has no entry
pub find_not_kept : (es : List (Tag × Kept)) (t : Tag) (kept : FinMap tag_cmp (List Part)) → is_sorted tag_cmp es ≡ true → sigs_of es ≡ kept → get kept t ≡ None → find tag_cmp t es ≡ None
find_not_kept es t kept sorted same none = no_sig (find tag_cmp t es) (sym (get-sigs es t sorted) ∙ ap (λ m. get m t) same ∙ none)

-- entries with the same signatures
same_sigs : (es fs : List (Tag × Kept)) → is_sorted tag_cmp es ≡ true → is_sorted tag_cmp fs ≡ true → ((u : Tag) → sig_in (find tag_cmp u fs) ≡ sig_in (find tag_cmp u es)) → sigs_of fs ≡ sigs_of es
same_sigs es fs sorted sorted_too same = same_map tags_total tag_cmp-IsAntisymmetric _ _ (λ u. get-sigs fs u sorted_too ∙ same u ∙ sym (get-sigs es u sorted))

-- ---- one number

pub tied : (es : List (Tag × Kept)) (u t : Tag) → eq_by_cmp tag_cmp u t ≡ true → find tag_cmp u es ≡ find tag_cmp t es
tied es u t e = sym (find_tied tag_cmp tags_total u t (tie_Equal _ e) es)

-- a kept tag gets another number
exchanged : (t : Tag) (es fs : List (Tag × Kept)) (f : Kept → Kept) (k : Kept) (before after : Option Tag) → is_sorted tag_cmp es ≡ true → is_sorted tag_cmp fs ≡ true → fs ≡ changed_at tag_cmp t f es → find tag_cmp t es ≡ Some k → (f k).sig ≡ k.sig
    → ((u : Tag) → eq_by_cmp tag_cmp u t ≡ true → (f k).members + has_tag u before ≡ k.members + has_tag u after) → ((u : Tag) → eq_by_cmp tag_cmp u t ≡ false → has_tag u before ≡ has_tag u after)
    → IsRecounted es fs before after
exchanged t es fs f k before after sorted sorted_too next is same_sig tie apart = record {
  sorted = sorted_too;
  sigs = same_sigs es fs sorted sorted_too (λ u.
      ap sig_in (found u)
      ∙ elim (eq_by_cmp tag_cmp u t) as (λ b. eq_by_cmp tag_cmp u t ≡ b → sig_in (cond b (Some (f k)) (find tag_cmp u es)) ≡ sig_in (find tag_cmp u es)) [
        | true ↦ λ e. ap Some same_sig ∙ ap sig_in (sym (tied es u t e ∙ is))
        | false ↦ λ e. refl
      ] refl);
  counts = λ u.
      ap (λ o. members_of o + has_tag u before) (found u)
      ∙ elim (eq_by_cmp tag_cmp u t) as (λ b. eq_by_cmp tag_cmp u t ≡ b → members_of (cond b (Some (f k)) (find tag_cmp u es)) + has_tag u before ≡ counted es u + has_tag u after) [
        | true ↦ λ e. tie u e ∙ ap (λ o. members_of o + has_tag u after) (sym (tied es u t e ∙ is))
        | false ↦ λ e. ap (λ n. counted es u + n) (apart u e)
      ] refl;
}
  where
    found : (u : Tag) → find tag_cmp u fs ≡ cond (eq_by_cmp tag_cmp u t) (Some (f k)) (find tag_cmp u es)
    found u = ap (find tag_cmp u) next ∙ find-changed tag_cmp tags_total t f u es
        ∙ elim (eq_by_cmp tag_cmp u t) as (λ b. eq_by_cmp tag_cmp u t ≡ b → cond b (option_map f (find tag_cmp u es)) (find tag_cmp u es) ≡ cond b (Some (f k)) (find tag_cmp u es)) [
          | true ↦ λ e. ap (option_map f) (tied es u t e ∙ is)
          | false ↦ λ e. refl
        ] refl

one_if : (b c : Bool) → b ≡ c → ◌≡◌ {A = ℕ} (cond b 1 0) (cond c 1 0)
one_if b c e = ap (λ x. let one : ℕ = cond x 1 0 in one) e

pub some_there : (o : Option Kept) → 0 < members_of o → is_some o ≡ true
some_there None some = absurd (omega arith)
some_there (Some k) some = refl

-- a kept tag counts one member more, and a tag that has some one less
module _ (t : Tag) (es fs : List (Tag × Kept)) (sorted : is_sorted tag_cmp es ≡ true) (sorted_too : is_sorted tag_cmp fs ≡ true) where
  pub raised : fs ≡ changed_at tag_cmp t (recounted More) es → is_some (find tag_cmp t es) ≡ true → counted es t + 1 < 2 ^ 64 → IsRecounted es fs None (Some t)
  raised next there small = by (find tag_cmp t es) refl there small
    where
      by : (o : Option Kept) → find tag_cmp t es ≡ o → is_some o ≡ true → members_of o + 1 < 2 ^ 64 → IsRecounted es fs None (Some t)
      by None is some fits = cc
      by (Some k) is some fits = exchanged t es fs (recounted More) k None (Some t) sorted sorted_too next is refl (λ u tie. let one = one_if _ _ tie in omega (arith, one, fits)) (λ u apart. sym (one_if _ _ apart))

  pub lowered : fs ≡ changed_at tag_cmp t (recounted Less) es → 0 < counted es t → IsRecounted es fs (Some t) None
  lowered next some = by (find tag_cmp t es) refl some
    where
      by : (o : Option Kept) → find tag_cmp t es ≡ o → 0 < members_of o → IsRecounted es fs (Some t) None
      by None is positive = absurd (omega (arith, positive))
      by (Some k) is positive = exchanged t es fs (recounted Less) k (Some t) None sorted sorted_too next is refl (λ u tie. let one = one_if _ _ tie in omega (arith, one, positive)) (λ u apart. one_if _ _ apart)

-- ---- one prefix

-- the tag of a prefix was counted
pub had_some : (m : FinMap prefix_cmp Tag) (es : List (Tag × Kept)) (p : Prefix) (t : Tag) → IsCounted m es → get m p ≡ Some t → 0 < counted es t
had_some m es p t kept is = let some = some_member m p t is in let same = kept.counts t in omega (arith, some, same)

-- a kept tag has an entry after another count too
pub still_there : (es fs : List (Tag × Kept)) (before after : Option Tag) (t : Tag) → is_sorted tag_cmp es ≡ true → IsRecounted es fs before after → is_some (find tag_cmp t es) ≡ true → is_some (find tag_cmp t fs) ≡ true
still_there es fs before after t sorted step there =
    find_kept fs t (sigs_of es) step.sorted step.sigs (ap is_some (get-sigs es t sorted) ∙ is_some-sig (find tag_cmp t es) ∙ there)

-- the tags after a prefix is given one, or loses it
pub after_put : (m n : FinMap prefix_cmp Tag) (es fs : List (Tag × Kept)) (p : Prefix) (before : Option Tag) (t : Tag) → IsCounted m es → get m p ≡ before → n ≡ insert m p t → IsRecounted es fs before (Some t) → IsCounted n fs
after_put m n es fs p before t kept is next step = record {
  sorted = step.sorted;
  counts = λ u.
      let law = members-insert m p t u in
      let old = ap (has_tag u) is in
      let all = ap (λ k. members k u) next in
      let number = kept.counts u in
      let new = step.counts u in
      omega (arith, law, old, all, number, new);
}

pub after_remove : (m n : FinMap prefix_cmp Tag) (es fs : List (Tag × Kept)) (p : Prefix) (before : Option Tag) → IsCounted m es → get m p ≡ before → n ≡ remove m p → IsRecounted es fs before None → IsCounted n fs
after_remove m n es fs p before kept is next step = record {
  sorted = step.sorted;
  counts = λ u.
      let law = members-remove m p u in
      let old = ap (has_tag u) is in
      let all = ap (λ k. members k u) next in
      let number = kept.counts u in
      let new = step.counts u in
      omega (arith, law, old, all, number, new);
}

-- a prefix without a tag has none to lose
pub after_no_remove : (m n : FinMap prefix_cmp Tag) (es : List (Tag × Kept)) (p : Prefix) → IsCounted m es → get m p ≡ None → n ≡ remove m p → IsCounted n es
after_no_remove m n es p kept is next = after_remove m n es es p None kept is next (record { sorted = kept.sorted; sigs = refl; counts = λ t. refl })

-- no number overflows
pub small_number : (m n : FinMap prefix_cmp Tag) (es : List (Tag × Kept)) (p : Prefix) (before : Option Tag) (t : Tag) → IsCounted m es → get m p ≡ before → n ≡ insert m p t → length (entries n) < 2 ^ 64 → counted es t + 1 < 2 ^ 64 + has_tag t before
small_number m n es p before t kept is next few =
    let law = members-insert m p t t in
    let old = ap (has_tag t) is in
    let all = ap (λ k. members k t) next in
    let bound = members-le n t in
    let itself = is_tag-itself t in
    let number = kept.counts t in
    omega (arith, law, old, all, bound, itself, number, few)

-- one step after another
pub both_steps : (es fs gs : List (Tag × Kept)) (from to : Tag) → IsRecounted es fs (Some from) None → IsRecounted fs gs None (Some to) → IsRecounted es gs (Some from) (Some to)
both_steps es fs gs from to first second = record {
  sorted = second.sorted;
  sigs = second.sigs ∙ first.sigs;
  counts = λ u. let one = first.counts u in let two = second.counts u in omega (arith, one, two);
}
