-- What single units leave of a job, and what a job has of which nothing is left to do.
use Rattle.std.proofs.Common.{◌≡◌, ℕ, ◌+◌, ◌-◌, ◌≤◌, ◌<◌, ◌⊎◌, Bool, true, false, cond, List, [], ◌∷◌, length, refl, sym, ap, subst, ◌∙◌, inl, inr, arith}
use Rattle.std.specs.Prelude.{Option, Some, None, is_some, min, nat_lt, unwrap_or}
use Rattle.std.specs.declared.cmp.Ordering.{Ordering}
use Rattle.std.specs.FinMap.{FinMap, empty, get, insert, get-insert}
use Rattle.std.specs.Cmp.{IsTotalOrder}
use Rattle.std.specs.Ordering.{eq_by_cmp}
use Rattle.std.proofs.lemmas.Bool.{ltb-false, ltb-true}
use Rattle.block_build.specs.Tight.{IsTightForm}
use Rattle.events.specs.Sound.{IsTight}
use Rattle.net_types.proofs.FindLemmas.{not_there}
use Rattle.net_types.proofs.OrderLemmas.{pairs_total, tags_total}
use Rattle.net_types.proofs.TieLemmas.{pair_tie, tag_tie, ties_itself}
use Rattle.net_types.specs.Keys.{pair_cmp, tag_cmp}
use Rattle.net_types.specs.Sets.{Member}
use Rattle.net_types.specs.declared.address.Tag.{Tag}
use Rattle.net_types.specs.declared.route.Part.{Part}
use Rattle.net_types.specs.declared.rule.Pair.{Pair}
use Rattle.net_types.specs.declared.rule.Rule.{Rule}
use Rattle.prefix_classes.specs.Classes.{members}
use Rattle.prefix_classes.specs.Merging.{IsFull, IsMergeOf}
use Rattle.recompile.proofs.TightRules.{own_form}
use Rattle.recompile.specs.Covering.{Covers, IsKeptUp, IsTagToDo, NeedsAtMost}
use Rattle.recompile.specs.Setting.{Setting}
use Rattle.recompile.specs.Underway.{Underway}
use Rattle.recompile.specs.Units.{HasRules, IsBuiltFrom, KeepsOthers, KeepsThose, NeedsFewer}
use Rattle.recompile.specs.Working.{IsProgress, with_built}
use Rattle.recompile.specs.declared.swap.Progress.TheVariants.{Ready}
use Rattle.recompile.specs.declared.swap.Swap.{Swap}

pub needs_more : (s : Setting) (j : Underway) (m n : ℕ) → m ≤ n → NeedsAtMost s j m → NeedsAtMost s j n
needs_more s j m n le needs = record { tags = needs.tags; few = omega (arith, le, needs.few); all_tags = needs.all_tags }

-- ---- a member is taken out

-- a list without one of its members, shorter
record IsLess {A : Type 0} (x : A) (xs : List A) : Type 0 where
  rest : List A
  short : length rest + 1 ≤ length xs
  others : (y : A) → Member y xs → ¬ (y ≡ x) → Member y rest

less : {A : Type 0} (x : A) (xs : List A) → Member x xs → IsLess x xs
less x [] m = elim m [ ]
less x (y ∷ ys) (inl e) = record {
  rest = ys;
  short = omega arith;
  others = λ z m other. elim m [ inl same ↦ absurd (other (same ∙ sym e)) | inr later ↦ later ];
}
less x (y ∷ ys) (inr k) =
    let r = less x ys k in
    let short : length r.rest + 1 ≤ length ys = r.short in record {
      rest = y ∷ r.rest;
      short = omega (arith, short);
      others = λ z m other. elim m [ inl same ↦ inl same | inr later ↦ inr (r.others z later other) ];
    }

-- ---- a key is put in

module _ {K X : Type 0} (R : K → K → Ordering) (total : IsTotalOrder R) (tie : (x y : K) → eq_by_cmp R x y ≡ true → x ≡ y) (m n : FinMap R X) (k : K) (v : X) (is : n ≡ insert m k v) where
  -- what a map has of a key after one is put in
  put_cases : (q : K) → ((q ≡ k) × (get n q ≡ Some v)) ⊎ (get n q ≡ get m q)
  put_cases q = by (eq_by_cmp R q k) refl
    where
      gets : (b : Bool) → eq_by_cmp R q k ≡ b → get n q ≡ cond b (Some v) (get m q)
      gets b e = ap (λ x. get x q) is ∙ get-insert total m k v q ∙ ap (λ c. cond c (Some v) (get m q)) e

      by : (b : Bool) → eq_by_cmp R q k ≡ b → ((q ≡ k) × (get n q ≡ Some v)) ⊎ (get n q ≡ get m q)
      by true e = inl (tie q k e, gets true e)
      by false e = inr (gets false e)

  -- a key without a value there is another one, and had none
  none_put : (q : K) → get n q ≡ None → (¬ (q ≡ k)) × (get m q ≡ None)
  none_put q none = elim (put_cases q) [
    | inl here ↦ absurd (not_there (get n q) v none here.1)
    | inr other ↦ (λ same. not_there (get n q) v none (itself q same), sym other ∙ none)
  ]
    where
      itself : (q : K) → q ≡ k → get n q ≡ Some v
      itself q same = subst (λ x. get n x ≡ Some v) (sym same) (ap (λ x. get x k) is ∙ get-insert total m k v k ∙ ap (λ c. cond c (Some v) (get m k)) (ties_itself total k))

-- ---- nothing is done but that a list is shortened

module _ (s : Setting) (old new : Underway) (placed : new.placed ≡ old.placed) (built : new.built ≡ old.built) (tags : KeepsThose (IsTagToDo s.tag old.placed) old.tags new.tags) (pairs : KeepsThose (HasRules s.table) old.pairs new.pairs) (fewer : length new.pairs ≤ length old.pairs) where
  tag_before : (t : Tag) → IsTagToDo s.tag new.placed t → IsTagToDo s.tag old.placed t
  tag_before t todo = (todo.0, ap (λ m. get m t) (sym placed) ∙ todo.1)

  pub shortened_kept : IsKeptUp s old → IsKeptUp s new
  shortened_kept kept = record {
    placed = λ t sig has. kept.placed t sig (ap (λ m. get m t) (sym placed) ∙ has);
    tags = λ t todo. tags t (tag_before t todo) (kept.tags t (tag_before t todo));
    pairs = λ pair rules at none. elim (kept.pairs pair rules at (ap (λ m. get m pair) (sym built) ∙ none)) [
      | inl listed ↦ inl (pairs pair (ap is_some at) listed)
      | inr tight ↦ inr tight
    ];
    built = λ pair made rules has at. kept.built pair made rules (ap (λ m. get m pair) (sym built) ∙ has) at;
  }

  pub shortened_needs : NeedsFewer s 0 old new
  shortened_needs units needs =
      let few : length needs.tags + length old.pairs ≤ units = needs.few in record {
        tags = needs.tags;
        few = omega (arith, few, fewer);
        all_tags = λ t todo. needs.all_tags t (tag_before t todo);
      }

-- ---- a tag is placed

module _ (s : Setting) (old new : Underway) (t : Tag) (sig : List Part) (todo : IsTagToDo s.tag old.placed t) (there : get s.kept t ≡ Some sig) (placed : new.placed ≡ insert old.placed t sig) (built : new.built ≡ old.built) (tags : KeepsOthers (IsTagToDo s.tag old.placed) t old.tags new.tags) (pairs : new.pairs ≡ old.pairs) where
  tag_left : (u : Tag) → IsTagToDo s.tag new.placed u → (¬ (u ≡ t)) × IsTagToDo s.tag old.placed u
  tag_left u left =
      let before = none_put tag_cmp tags_total tag_tie old.placed new.placed t sig placed u left.1 in
      (before.0, (left.0, before.1))

  pub placed_kept : IsKeptUp s old → IsKeptUp s new
  placed_kept kept = record {
    placed = λ u other has. elim (put_cases tag_cmp tags_total tag_tie old.placed new.placed t sig placed u) [
      | inl here ↦ (subst (λ x. 0 < members s.tag x) (sym here.0) todo.0, ap (get s.kept) here.0 ∙ there ∙ sym here.1 ∙ has)
      | inr same ↦ kept.placed u other (sym same ∙ has)
    ];
    tags = λ u left. let before = tag_left u left in elim (tags u before.1 (kept.tags u before.1)) [ inl listed ↦ listed | inr same ↦ absurd (before.0 same) ];
    pairs = λ pair rules at none. elim (kept.pairs pair rules at (ap (λ m. get m pair) (sym built) ∙ none)) [
      | inl listed ↦ inl (subst (Member pair) (sym pairs) listed)
      | inr tight ↦ inr tight
    ];
    built = λ pair made rules has at. kept.built pair made rules (ap (λ m. get m pair) (sym built) ∙ has) at;
  }

  pub placed_needs : NeedsFewer s 1 old new
  placed_needs units needs =
      let fewer = less t needs.tags (needs.all_tags t todo) in
      let short : length fewer.rest + 1 ≤ length needs.tags = fewer.short in
      let few : length needs.tags + length old.pairs ≤ units = needs.few in
      let same : length new.pairs ≡ length old.pairs = ap length pairs in record {
        tags = fewer.rest;
        few = omega (arith, short, few, same);
        all_tags = λ u left. let before = tag_left u left in fewer.others u (needs.all_tags u before.1) before.0;
      }

-- ---- a pair is built

module _ (s : Setting) (old new : Underway) (p : Pair) (had : List Rule) (there : get s.table p ≡ Some had) (placed : new.placed ≡ old.placed) (built : IsBuiltFrom p had old.built new.built) (tags : KeepsThose (IsTagToDo s.tag old.placed) old.tags new.tags) (pairs : KeepsOthers (HasRules s.table) p old.pairs new.pairs) (fewer : length new.pairs + 1 ≤ length old.pairs) where
  tag_still : (u : Tag) → IsTagToDo s.tag new.placed u → IsTagToDo s.tag old.placed u
  tag_still u left = (left.0, ap (λ m. get m u) (sym placed) ∙ left.1)

  -- the rules of this pair are those that were built from
  same_rules : (q : Pair) (rules : List Rule) → get s.table q ≡ Some rules → q ≡ p → had ≡ rules
  same_rules q rules at same = let e : Some had ≡ Some rules = sym there ∙ ap (get s.table) (sym same) ∙ at in cc

  -- a pair for which none are built is listed or tight, where it had none, or is this one and tight
  listed_still : (q : Pair) (rules : List Rule) → get s.table q ≡ Some rules → (q ≡ p → IsTight rules) → Member q old.pairs ⊎ IsTight rules → Member q new.pairs ⊎ IsTight rules
  listed_still q rules at here was = elim was [
    | inl listed ↦ elim (pairs q (ap is_some at) listed) [ inl still ↦ inl still | inr same ↦ inr (here same) ]
    | inr tight ↦ inr tight
  ]

  pub built_kept : IsKeptUp s old → IsKeptUp s new
  built_kept kept = record {
    placed = λ u sig has. kept.placed u sig (ap (λ m. get m u) (sym placed) ∙ has);
    tags = λ u left. let before = tag_still u left in tags u before (kept.tags u before);
    pairs = λ q rules at none. elim built [
      | inl stays ↦ listed_still q rules at (λ same. subst IsTight (same_rules q rules at same) stays.0) (kept.pairs q rules at (ap (λ m. get m q) (sym stays.1) ∙ none))
      | inr put ↦
          let before = none_put pair_cmp pairs_total pair_tie old.built new.built p put.0 put.2 q none in
          listed_still q rules at (λ same. absurd (before.0 same)) (kept.pairs q rules at before.1)
    ];
    built = λ q made rules has at. elim built [
      | inl stays ↦ kept.built q made rules (ap (λ m. get m q) (sym stays.1) ∙ has) at
      | inr put ↦ elim (put_cases pair_cmp pairs_total pair_tie old.built new.built p put.0 put.2 q) [
        | inl here ↦
            let same_made : put.0 ≡ made = let e : Some put.0 ≡ Some made = sym here.1 ∙ has in cc in
            subst (λ x. IsTightForm x made) (same_rules q rules at here.0) (subst (IsTightForm had) same_made put.1)
        | inr same ↦ kept.built q made rules (sym same ∙ has) at
      ]
    ];
  }

  pub built_needs : NeedsFewer s 1 old new
  built_needs units needs =
      let few : length needs.tags + length old.pairs ≤ units = needs.few in record {
        tags = needs.tags;
        few = omega (arith, few, fewer);
        all_tags = λ u left. needs.all_tags u (tag_still u left);
      }

-- ---- nothing is to do

no_member : {A : Type 0} (xs : List A) (x : A) → length xs ≡ 0 → Member x xs → ⊥
no_member [] x e m = elim m [ ]
no_member (y ∷ xs) x e m = absurd (omega (arith, e))

pub nothing_needed : (s : Setting) (j : Underway) → IsKeptUp s j → j.tags ≡ [] → j.pairs ≡ [] → NeedsAtMost s j 0
nothing_needed s j kept tags pairs = record {
  tags = [];
  few = let none : length j.pairs ≡ 0 = ap length pairs in omega (arith, none);
  all_tags = λ t todo. subst (Member t) tags (kept.tags t todo);
}

module _ (s : Setting) (j : Underway) (kept : IsKeptUp s j) (needs : NeedsAtMost s j 0) where
  all_placed : (t : Tag) → ¬ IsTagToDo s.tag j.placed t
  all_placed t todo = no_member needs.tags t (omega (arith, needs.few)) (needs.all_tags t todo)

  all_done : (pair : Pair) → ¬ Member pair j.pairs
  all_done pair listed = no_member j.pairs pair (omega (arith, needs.few)) listed

  pub done_is_full : IsFull s.tag s.kept j.placed
  done_is_full t = by (get j.placed t) (nat_lt 0 (members s.tag t)) refl refl
    where
      below : nat_lt 0 (members s.tag t) ≡ false → 0 < members s.tag t → ⊥
      below e some = let none : members s.tag t ≤ 0 = ltb-false 0 (members s.tag t) e in absurd (omega (arith, none, some))

      above : nat_lt 0 (members s.tag t) ≡ true → 0 < members s.tag t
      above e = ltb-true 0 (members s.tag t) e

      by : (o : Option (List Part)) (b : Bool) → get j.placed t ≡ o → nat_lt 0 (members s.tag t) ≡ b → get j.placed t ≡ cond b (get s.kept t) None
      by (Some sig) true has used = has ∙ sym (kept.placed t sig has).1
      by (Some sig) false has used = absurd (below used (kept.placed t sig has).0)
      by None true has used = absurd (all_placed t (above used, has))
      by None false has used = has

  pub done_is_built : (pair : Pair) (old : List Rule) → get s.table pair ≡ Some old → IsTightForm old (unwrap_or (get j.built pair) old)
  done_is_built pair old there = by (get j.built pair) refl
    where
      by : (o : Option (List Rule)) → get j.built pair ≡ o → IsTightForm old (unwrap_or o old)
      by (Some made) has = kept.built pair made old has there
      by None has = elim (kept.pairs pair old there has) [ inl listed ↦ absurd (all_done pair listed) | inr tight ↦ own_form old tight ]

-- ---- units one after another

pub fewer_none : (s : Setting) (j : Underway) → NeedsFewer s 0 j j
fewer_none s j units needs = needs_more s j units (units - 0) (omega arith) needs

pub fewer_then : (s : Setting) (old mid new : Underway) (m n : ℕ) → NeedsFewer s m old mid → NeedsFewer s n mid new → NeedsFewer s (m + n) old new
fewer_then s old mid new m n first then units needs = needs_more s new (units - m - n) (units - (m + n)) (omega arith) (then (units - m) (first units needs))

pub fewer_less : (s : Setting) (old new : Underway) (m n : ℕ) → n ≤ m → NeedsFewer s m old new → NeedsFewer s n old new
fewer_less s old new m n le fewer units needs = needs_more s new (units - m) (units - n) (omega (arith, le)) (fewer units needs)

-- as many units as there are are no fewer than what is left after nothing is to do
pub fewer_all : (s : Setting) (old new : Underway) (count : ℕ) → NeedsAtMost s new 0 → NeedsFewer s count old new
fewer_all s old new count none units needs = needs_more s new 0 (units - count) (omega arith) none

-- ---- a call of work

module _ (s : Setting) (old mid : Underway) (covers : Covers s old) (kept : IsKeptUp s mid) (count units : ℕ) (is : count ≡ min units old.owed) (done : NeedsFewer s count old mid) where
  -- all is done
  pub none_left : old.owed ≤ units → NeedsAtMost s mid 0
  none_left enough = needs_more s mid (old.owed - count) 0 (omega (arith, is, enough)) (done old.owed covers.enough)

  pub ready : old.owed ≤ units → (new : Underway) → mid.owed ≡ old.owed → new ≡ record mid { built = empty } → (swap : Swap) → IsMergeOf s.tag s.kept swap.moves → swap.built ≡ mid.built → IsProgress s units old new (Ready swap)
  ready enough new owed is_new swap moves built = (
    enough,
    ap (λ (j : Underway). j.owed) is_new ∙ owed,
    record { moves = moves; built = λ pair had there. subst (λ m. IsTightForm had (unwrap_or (get m pair) had)) (sym built) (done_is_built s mid kept (none_left enough) pair had there) },
    subst (Covers s) same (record { kept_up = kept; enough = needs_more s mid 0 mid.owed (omega arith) (none_left enough) }),
  )
    where
      same : mid ≡ with_built new swap
      same = ap (λ m. record mid { built = m }) (sym built) ∙ ap (λ j. with_built j swap) (sym is_new)

  pub working : units < old.owed → (new : Underway) → new ≡ record mid { owed = old.owed - units } → Covers s new
  working more new is_new = subst (Covers s) (sym is_new) (record {
    kept_up = record { placed = kept.placed; tags = kept.tags; pairs = kept.pairs; built = kept.built };
    enough = let left = needs_more s mid (old.owed - count) (old.owed - units) (omega (arith, is, more)) (done old.owed covers.enough) in record {
      tags = left.tags;
      few = left.few;
      all_tags = left.all_tags;
    };
  })
