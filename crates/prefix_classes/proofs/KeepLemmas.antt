-- Tags without members: at first, and when one is kept or forgotten. The prefixes that one tag is given to.
use Rattle.std.proofs.Common.{◌≡◌, ℕ, suc, ◌+◌, ◌<◌, ◌≤◌, ◌||◌, Bool, true, false, cond, List, [], ◌∷◌, length, get_or, drop, drop-cons, sym, ap, ◌∙◌, refl, arith, inl, inr}
use Rattle.std.specs.Prelude.{Option, Some, None, is_some}
use Rattle.std.specs.List.{list_any}
use Rattle.std.specs.Ordering.{eq_by_cmp}
use Rattle.std.specs.Cmp.{eq_by_cmp_equiv}
use Rattle.std.specs.FinMap.{FinMap, get, insert, remove, empty, get-insert, get-remove, same_map}
use Rattle.std.specs.FinMap.Entries.{find, put, is_sorted, find-put}
use Rattle.net_types.proofs.OrderLemmas.{prefix_tie, prefixes_total, tags_total}
use Rattle.net_types.proofs.PlaceLemmas.{find-without, put_sorted, without_sorted}
use Rattle.net_types.proofs.TieLemmas.{tag_cmp-IsAntisymmetric, ties_itself}
use Rattle.net_types.specs.Keys.{prefix_cmp, tag_cmp}
use Rattle.net_types.specs.declared.address.Tag.{Tag}
use Rattle.net_types.specs.declared.prefix.Prefix.{Prefix}
use Rattle.net_types.specs.declared.route.Part.{Part}
use Rattle.ordered_map.specs.Entries.{without, without_each}
use Rattle.prefix_classes.proofs.CountLemmas.{sig_in, get-sigs, find_not_kept, tied}
use Rattle.prefix_classes.proofs.MemberLemmas.{members-empty}
use Rattle.prefix_classes.specs.Classes.{HaveNoMembers, forgotten, given, members, missing, new_ones}
use Rattle.prefix_classes.specs.Counts.{counted, members_of, sigs_of, IsCounted}
use Rattle.prefix_classes.specs.declared.members.Kept.{Kept}

-- at first
pub none_counted : (m : FinMap prefix_cmp Tag) (es : List (Tag × Kept)) → m ≡ empty → es ≡ [] → IsCounted m es
none_counted m es no_tags no_entries = record {
  sorted = ap (is_sorted tag_cmp) no_entries;
  counts = λ t. ap (λ xs. counted xs t) no_entries ∙ sym (ap (λ k. members k t) no_tags ∙ members-empty t);
}

-- a tag is kept that no prefix has
pub keep_new : (m : FinMap prefix_cmp Tag) (es : List (Tag × Kept)) (t : Tag) (k : Kept) (kept : FinMap tag_cmp (List Part)) → k.members ≡ 0 → IsCounted m es → sigs_of es ≡ kept → get kept t ≡ None
    → IsCounted m (put tag_cmp t k es) × (sigs_of (put tag_cmp t k es) ≡ insert kept t k.sig)
keep_new m es t k kept no_members is same none =
    let absent = find_not_kept es t kept is.sorted same none in
    let sorted = put_sorted tag_cmp tags_total t k es is.sorted in (
      record {
        sorted = sorted;
        counts = λ u. ap members_of (find-put tag_cmp tags_total u t k es)
            ∙ elim (eq_by_cmp tag_cmp u t) as (λ b. eq_by_cmp tag_cmp u t ≡ b → members_of (cond b (Some k) (find tag_cmp u es)) ≡ counted es u) [
              | true ↦ λ e. no_members ∙ sym (ap members_of (tied es u t e ∙ absent))
              | false ↦ λ e. refl
            ] refl ∙ is.counts u;
      },
      same_map tags_total tag_cmp-IsAntisymmetric _ _ (λ q.
          get-sigs (put tag_cmp t k es) q sorted ∙ ap sig_in (find-put tag_cmp tags_total q t k es)
          ∙ elim (eq_by_cmp tag_cmp q t) as (λ b. sig_in (cond b (Some k) (find tag_cmp q es)) ≡ cond b (Some k.sig) (sig_in (find tag_cmp q es))) [ true ↦ refl | false ↦ refl ]
          ∙ ap (cond (eq_by_cmp tag_cmp q t) (Some k.sig)) (sym (get-sigs es q is.sorted) ∙ ap (λ n. get n q) same)
          ∙ sym (get-insert tags_total kept t k.sig q)),
    )

-- a tag that no prefix has is forgotten
pub forget_none : (m : FinMap prefix_cmp Tag) (es : List (Tag × Kept)) (t : Tag) (kept : FinMap tag_cmp (List Part)) → IsCounted m es → sigs_of es ≡ kept → members m t ≡ 0
    → IsCounted m (without tag_cmp t es) × (sigs_of (without tag_cmp t es) ≡ remove kept t)
forget_none m es t kept is same no_members =
    let sorted = without_sorted tag_cmp t es is.sorted in (
      record {
        sorted = sorted;
        counts = λ u. ap members_of (find-without tag_cmp tags_total t u es)
            ∙ elim (eq_by_cmp tag_cmp u t) as (λ b. eq_by_cmp tag_cmp u t ≡ b → members_of (cond b None (find tag_cmp u es)) ≡ counted es u) [
              | true ↦ λ e. sym (ap members_of (tied es u t e) ∙ is.counts t ∙ no_members)
              | false ↦ λ e. refl
            ] refl ∙ is.counts u;
      },
      same_map tags_total tag_cmp-IsAntisymmetric _ _ (λ q.
          get-sigs (without tag_cmp t es) q sorted ∙ ap sig_in (find-without tag_cmp tags_total t q es)
          ∙ elim (eq_by_cmp tag_cmp q t) as (λ b. sig_in (cond b None (find tag_cmp q es)) ≡ cond b None (sig_in (find tag_cmp q es))) [ true ↦ refl | false ↦ refl ]
          ∙ ap (cond (eq_by_cmp tag_cmp q t) None) (sym (get-sigs es q is.sorted) ∙ ap (λ n. get n q) same)
          ∙ sym (get-remove tags_total kept t q)),
    )

-- so are all that no prefix has
pub forget_all_none : (m : FinMap prefix_cmp Tag) (ts : List Tag) (es : List (Tag × Kept)) (kept : FinMap tag_cmp (List Part)) → IsCounted m es → sigs_of es ≡ kept → HaveNoMembers m ts
    → IsCounted m (without_each tag_cmp ts es) × (sigs_of (without_each tag_cmp ts es) ≡ forgotten kept ts)
forget_all_none m [] es kept is same none = (is, same)
forget_all_none m (t ∷ ts) es kept is same none =
    let one = forget_none m es t kept is same (none t (inl refl)) in
    forget_all_none m ts (without tag_cmp t es) (remove kept t) one.0 one.1 (λ u there. none u (inr there))

-- a tag that was just kept is there
pub kept_itself : (kept : FinMap tag_cmp (List Part)) (t : Tag) (sig : List Part) → is_some (get (insert kept t sig) t) ≡ true
kept_itself kept t sig = ap is_some (get-insert tags_total kept t sig t ∙ ap (λ b. cond b (Some sig) (get kept t)) (ties_itself tags_total t))

-- a prefix that gets a tag is new no more
new_ones-insert : (m : FinMap prefix_cmp Tag) (x : Prefix) (t : Tag) (ps : List Prefix) → new_ones (insert m x t) ps + cond (list_any (eq_by_cmp prefix_cmp x) ps) (missing (get m x)) 0 ≡ new_ones m ps
new_ones-insert m x t [] = omega arith
new_ones-insert m x t (p ∷ ps) = by (eq_by_cmp prefix_cmp x p) refl (new_ones-insert m x t ps)
  where
    got : get (insert m x t) p ≡ cond (eq_by_cmp prefix_cmp x p) (Some t) (get m p)
    got = get-insert prefixes_total m x t p ∙ ap (λ b. cond b (Some t) (get m p)) ((eq_by_cmp_equiv prefixes_total).symm p x)

    -- the first one, whether it stands there again or not
    first : (again : Bool) (k n old : ℕ) → k + cond again old 0 ≡ n → cond again 0 0 + k + old ≡ cond again 0 old + n
    first true k n old e = omega (arith, e)
    first false k n old e = omega (arith, e)

    by : (b : Bool) → eq_by_cmp prefix_cmp x p ≡ b
        → new_ones (insert m x t) ps + cond (list_any (eq_by_cmp prefix_cmp x) ps) (missing (get m x)) 0 ≡ new_ones m ps
        → cond (list_any (eq_by_cmp prefix_cmp p) ps) 0 (missing (get (insert m x t) p)) + new_ones (insert m x t) ps + cond (b || list_any (eq_by_cmp prefix_cmp x) ps) (missing (get m x)) 0
        ≡ cond (list_any (eq_by_cmp prefix_cmp p) ps) 0 (missing (get m p)) + new_ones m ps
    by true tie rest =
        let same : x ≡ p = prefix_tie x p tie in
        let tagged : missing (get (insert m x t) p) ≡ 0 = ap missing (got ∙ ap (λ b. cond b (Some t) (get m p)) tie) in
        (λ i. cond (list_any (eq_by_cmp prefix_cmp (sym same i)) ps) 0 (tagged i) + new_ones (insert m x t) ps + missing (get m x))
        ∙ first (list_any (eq_by_cmp prefix_cmp x) ps) (new_ones (insert m x t) ps) (new_ones m ps) (missing (get m x)) rest
        ∙ (λ i. cond (list_any (eq_by_cmp prefix_cmp (same i)) ps) 0 (missing (get m (same i))) + new_ones m ps)
    by false apart rest =
        let as_before : cond (list_any (eq_by_cmp prefix_cmp p) ps) 0 (missing (get (insert m x t) p)) ≡ cond (list_any (eq_by_cmp prefix_cmp p) ps) 0 (missing (get m p)) =
        ap (λ o. cond (list_any (eq_by_cmp prefix_cmp p) ps) 0 (missing o)) (got ∙ ap (λ b. cond b (Some t) (get m p)) apart) in
        omega (arith, as_before, rest)

at_most_one : (again : Bool) (o : Option Tag) → cond again 0 (missing o) ≤ 1
at_most_one true o = omega arith
at_most_one false None = omega arith
at_most_one false (Some t) = omega arith

pub new_ones_are_few : (m : FinMap prefix_cmp Tag) (ps : List Prefix) → new_ones m ps ≤ length ps
new_ones_are_few m [] = omega arith
new_ones_are_few m (p ∷ ps) = let first = at_most_one (list_any (eq_by_cmp prefix_cmp p) ps) (get m p) in let rest = new_ones_are_few m ps in omega (arith, first, rest)

-- a new prefix before others needs room, unless it is one of them
new_ones-first : (m : FinMap prefix_cmp Tag) (x : Prefix) (t : Tag) (ps : List Prefix) → missing (get m x) + new_ones (insert m x t) ps ≡ new_ones m (x ∷ ps)
new_ones-first m x t ps = by (list_any (eq_by_cmp prefix_cmp x) ps) (new_ones-insert m x t ps)
  where
    by : (again : Bool) → new_ones (insert m x t) ps + cond again (missing (get m x)) 0 ≡ new_ones m ps → missing (get m x) + new_ones (insert m x t) ps ≡ cond again 0 (missing (get m x)) + new_ones m ps
    by true e = omega (arith, e)
    by false e = omega (arith, e)

-- one prefix more is given the tag
pub given_more : (t : Tag) (ps : List Prefix) (i : ℕ) (x d : Prefix) (m n : FinMap prefix_cmp Tag) → i < length ps → x ≡ get_or ps i d → n ≡ insert m x t
    → (given t (drop i ps) m ≡ given t (drop (i + 1) ps) n) × (missing (get m x) + new_ones n (drop (i + 1) ps) ≤ new_ones m (drop i ps))
given_more t ps i x d m n within is next =
    let split : drop i ps ≡ x ∷ drop (i + 1) ps = drop-cons ps i d within ∙ (let one_on : suc i ≡ i + 1 = omega arith in λ j. sym is j ∷ drop (one_on j) ps) in (
      ap (λ xs. given t xs m) split ∙ ap (given t (drop (i + 1) ps)) (sym next),
      let first = new_ones-first m x t (drop (i + 1) ps) in let all = ap (new_ones m) split in let later = ap (λ k. new_ones k (drop (i + 1) ps)) next in omega (arith, first, all, later),
    )

-- where there is room for all that is new, there is room for a new one that comes first
pub room_for : (ps : List Prefix) (i : ℕ) (x d : Prefix) (t : Tag) (m : FinMap prefix_cmp Tag) (room : ℕ) → i < length ps → x ≡ get_or ps i d → new_ones m (drop i ps) ≤ room → get m x ≡ None → 0 < room
room_for ps i x d t m room within is enough new =
    let more = (given_more t ps i x d m (insert m x t) within is refl).1 in
    let one = ap missing new in
    omega (arith, more, one, enough)
