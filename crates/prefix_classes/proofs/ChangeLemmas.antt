-- What becomes of tags and of the numbers of members after changes at different prefixes.
use Rattle.std.proofs.Common.{◌≡◌, ◌+◌, true, false, cond, List, [], ◌∷◌, map, inl, inr, sym, ap, ◌∙◌, refl, arith}
use Rattle.std.specs.Prelude.{Option, Some, None, unwrap_or}
use Rattle.std.specs.Ordering.{eq_by_cmp, is_eq, ordering_reverse}
use Rattle.std.specs.FinMap.{FinMap, get, get-insert, get-remove, find}
use Rattle.std.proofs.lemmas.Bool.{false_from_ne_true}
use Rattle.net_types.proofs.OrderLemmas.{prefix_tie, prefixes_total}
use Rattle.net_types.proofs.SetLemmas.{Member-map}
use Rattle.net_types.proofs.TieLemmas.{ties_itself, less}
use Rattle.net_types.specs.Keys.{prefix_cmp}
use Rattle.net_types.specs.Sets.{Member}
use Rattle.net_types.specs.UpdateSpelling.{is_before}
use Rattle.net_types.specs.declared.address.Tag.{Tag}
use Rattle.net_types.specs.declared.prefix.Prefix.{Prefix}
use Rattle.prefix_classes.proofs.MemberLemmas.{members-insert, members-remove}
use Rattle.prefix_classes.specs.Classes.{has_tag, members}
use Rattle.prefix_classes.specs.Laws.{Change, with_change, changed, AreRising, left, joined}

-- one change
one_change : (m : FinMap prefix_cmp Tag) (p : Prefix) (after : Option Tag) (t : Tag) → members (with_change m p after) t + has_tag t (get m p) ≡ members m t + has_tag t after
one_change m p None t = let all = members-remove m p t in omega (arith, all)
one_change m p (Some u) t = members-insert m p u t

get_here : (m : FinMap prefix_cmp Tag) (p q : Prefix) (after : Option Tag) → eq_by_cmp prefix_cmp q p ≡ true → get (with_change m p after) q ≡ after
get_here m p q None tie = get-remove prefixes_total m p q ∙ ap (λ b. cond b None (get m q)) tie
get_here m p q (Some u) tie = get-insert prefixes_total m p u q ∙ ap (λ b. cond b (Some u) (get m q)) tie

get_other : (m : FinMap prefix_cmp Tag) (p q : Prefix) (after : Option Tag) → eq_by_cmp prefix_cmp q p ≡ false → get (with_change m p after) q ≡ get m q
get_other m p q None tie = get-remove prefixes_total m p q ∙ ap (λ b. cond b None (get m q)) tie
get_other m p q (Some u) tie = get-insert prefixes_total m p u q ∙ ap (λ b. cond b (Some u) (get m q)) tie

-- a prefix doesn't tie with one before it, nor one with a prefix behind it
after_apart : (p q : Prefix) → is_before p q ≡ true → eq_by_cmp prefix_cmp q p ≡ false
after_apart p q before = ap is_eq (prefixes_total.antisymm q p) ∙ ap (λ r. is_eq (ordering_reverse r)) (less (prefix_cmp p q) before)

before_apart : (p q : Prefix) → is_before p q ≡ true → eq_by_cmp prefix_cmp p q ≡ false
before_apart p q before = ap is_eq (less (prefix_cmp p q) before)

-- all these prefixes are behind the first
abbrev AreAfter : Prefix → List Change → Type 0
AreAfter p cs = (q : Prefix) → Member q (map (λ c. c.0) cs) → is_before p q ≡ true

-- a change at an earlier prefix leaves the later ones
left_same : (m : FinMap prefix_cmp Tag) (p : Prefix) (after : Option Tag) (cs : List Change) (t : Tag) → AreAfter p cs → left (with_change m p after) cs t ≡ left m cs t
left_same m p after [] t behind = refl
left_same m p after (c ∷ cs) t behind =
    let here = ap (has_tag t) (get_other m p c.0 after (after_apart p c.0 (behind c.0 (inl refl)))) in
    let rest = left_same m p after cs t (λ q member. behind q (inr member)) in
    omega (arith, here, rest)

pub changes_are_counted : (m : FinMap prefix_cmp Tag) (cs : List Change) (t : Tag) → AreRising cs → members (changed m cs) t + left m cs t ≡ members m t + joined cs t
changes_are_counted m [] t rising = refl
changes_are_counted m (c ∷ cs) t rising =
    let rest = changes_are_counted (with_change m c.0 c.1) cs t rising.1 in
    let same = left_same m c.0 c.1 cs t rising.0 in
    let one = one_change m c.0 c.1 t in
    omega (arith, rest, same, one)

-- an earlier prefix has no change among later ones
find_absent : (p : Prefix) (cs : List Change) → AreAfter p cs → find prefix_cmp p cs ≡ None
find_absent p [] behind = refl
find_absent p (c ∷ cs) behind =
    ap (λ b. cond b (Some c.1) (find prefix_cmp p cs)) (before_apart p c.0 (behind c.0 (inl refl)))
    ∙ find_absent p cs (λ q member. behind q (inr member))

pub tags_after_changes : (m : FinMap prefix_cmp Tag) (cs : List Change) (p : Prefix) → AreRising cs → get (changed m cs) p ≡ unwrap_or (find prefix_cmp p cs) (get m p)
tags_after_changes m [] p rising = refl
tags_after_changes m (c ∷ cs) p rising =
    let rest = tags_after_changes (with_change m c.0 c.1) cs p rising.1 in
    elim (eq_by_cmp prefix_cmp p c.0) as (λ b. eq_by_cmp prefix_cmp p c.0 ≡ b → get (changed (with_change m c.0 c.1) cs) p ≡ unwrap_or (cond b (Some c.1) (find prefix_cmp p cs)) (get m p)) [
      | true ↦ λ tie.
          let same : p ≡ c.0 = prefix_tie p c.0 tie in
          let none = ap (λ q. find prefix_cmp q cs) same ∙ find_absent c.0 cs rising.0 in
          rest ∙ ap (λ o. unwrap_or o (get (with_change m c.0 c.1) p)) none ∙ get_here m c.0 p c.1 tie
      | false ↦ λ apart. rest ∙ ap (unwrap_or (find prefix_cmp p cs)) (get_other m c.0 p c.1 apart)
    ] refl

-- a change is found at its prefix
find_change : (cs : List Change) (p : Prefix) (after : Option Tag) → AreRising cs → Member (p, after) cs → find prefix_cmp p cs ≡ Some after
find_change [] p after rising member = elim member [ ]
find_change (c ∷ cs) p after rising (inl e) =
    let first : p ≡ c.0 = ap (λ (d : Change). d.0) e in
    let second : c.1 ≡ after = sym (ap (λ (d : Change). d.1) e) in
    ap (λ q. cond (eq_by_cmp prefix_cmp q c.0) (Some c.1) (find prefix_cmp q cs)) first
    ∙ ap (λ b. cond b (Some c.1) (find prefix_cmp c.0 cs)) (ties_itself prefixes_total c.0)
    ∙ ap Some second
find_change (c ∷ cs) p after rising (inr member) =
    let behind = rising.0 p (Member-map (λ (d : Change). d.0) cs (p, after) member) in
    ap (λ b. cond b (Some c.1) (find prefix_cmp p cs)) (after_apart c.0 p behind) ∙ find_change cs p after rising.1 member

pub changed_prefixes_have_new_tags : (m : FinMap prefix_cmp Tag) (cs : List Change) (p : Prefix) (after : Option Tag) → AreRising cs → Member (p, after) cs → get (changed m cs) p ≡ after
changed_prefixes_have_new_tags m cs p after rising member = tags_after_changes m cs p rising ∙ ap (λ o. unwrap_or o (get m p)) (find_change cs p after rising member)

pub other_prefixes_keep_their_tags : (m : FinMap prefix_cmp Tag) (cs : List Change) (p : Prefix) → ((after : Option Tag) → ¬ Member (p, after) cs) → get (changed m cs) p ≡ get m p
other_prefixes_keep_their_tags m [] p other = refl
other_prefixes_keep_their_tags m (c ∷ cs) p other =
    let apart = false_from_ne_true (eq_by_cmp prefix_cmp p c.0) (λ tie.
    let same : p ≡ c.0 = prefix_tie p c.0 tie in
    other c.1 (inl (λ i. (same i, c.1)))) in
    other_prefixes_keep_their_tags (with_change m c.0 c.1) cs p (λ after member. other after (inr member)) ∙ get_other m c.0 p c.1 apart
