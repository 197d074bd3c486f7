-- What a job covers at its start and after a line.
use Rattle.std.proofs.Common.{◌≡◌, ℕ, zero, suc, ◌+◌, ◌*◌, ◌≤◌, ◌<◌, ◌⊎◌, Bool, true, false, cond, List, [], ◌∷◌, ◌++◌, length, map, refl, sym, ap, subst, ◌∙◌, inl, inr, arith}
use Rattle.std.specs.Prelude.{None, is_some, nat_lt}
use Rattle.std.specs.declared.cmp.Ordering.{Ordering}
use Rattle.std.specs.Cmp.{IsTotalOrder}
use Rattle.std.specs.FinMap.{FinMap, empty, entries, get, remove, get-empty, get-remove}
use Rattle.std.specs.Ordering.{eq_by_cmp}
use Rattle.std.proofs.lemmas.Bool.{false≢true}
use Rattle.std.proofs.lemmas.List.{append-nil, length-append, length-map}
use Rattle.events.specs.Tags.{capped}
use Rattle.net_types.proofs.FindLemmas.{not_there}
use Rattle.net_types.proofs.OrderLemmas.{pairs_total, tags_total}
use Rattle.net_types.proofs.SetLemmas.{Member-append_left, Member-append_right}
use Rattle.net_types.proofs.TieLemmas.{pair_tie, tag_tie, ties_itself}
use Rattle.net_types.specs.Keys.{pair_cmp, prefix_cmp, tag_cmp}
use Rattle.net_types.specs.Sets.{Member}
use Rattle.net_types.specs.declared.address.Tag.{Tag}
use Rattle.net_types.specs.declared.prefix.Prefix.{Prefix}
use Rattle.net_types.specs.declared.rule.Pair.{Pair}
use Rattle.prefix_classes.specs.Classes.{count_of, members}
use Rattle.recompile.proofs.CoverLemmas.{needs_more}
use Rattle.recompile.specs.Changing.{CoversAfter, CoversListed, IsChange, QuietChangesKeepJobs}
use Rattle.recompile.specs.Covering.{AreFew, IsKeptUp, IsTagToDo, NeedsAtMost}
use Rattle.recompile.specs.Setting.{Setting}
use Rattle.recompile.specs.Underway.{Underway}
use Rattle.recompile.specs.Units.{AreListable, AreListed, without_each}

-- ---- enough units

-- where the tags are few and no more pairs are listed than may be, the most that a job owes are enough
pub capped_enough : (s : Setting) (j : Underway) (n : ℕ) → AreFew s → AreListable j.pairs → NeedsAtMost s j n → NeedsAtMost s j (capped n)
capped_enough s j n few listable needs = by (nat_lt 1125899906842624 n) refl
  where
    by : (b : Bool) → nat_lt 1125899906842624 n ≡ b → NeedsAtMost s j (cond b 1125899906842624 n)
    by true e =
        let tags : length few.tags ≤ 562949953421312 = few.few in
        let pairs : length j.pairs ≤ 562949953421312 = listable in record { tags = few.tags; few = omega (arith, tags, pairs); all_tags = λ t todo. few.all_tags t todo.0 }
    by false e = needs

-- ---- the start

abbrev pub second : Prefix × Tag → Tag
second e = e.1

-- a tag that an entry counts for is that of one
pub counted_is_there : (t : Tag) (es : List (Prefix × Tag)) → 0 < count_of t es → Member t (map second es)
counted_is_there t [] some = absurd (omega (arith, some))
counted_is_there t (e ∷ es) some = by (eq_by_cmp tag_cmp t e.1) refl some (counted_is_there t es)
  where
    by : (b : Bool) → eq_by_cmp tag_cmp t e.1 ≡ b → 0 < cond b 1 0 + count_of t es → (0 < count_of t es → Member t (map second es)) → Member t (map second (e ∷ es))
    by true is more later = inl (tag_tie t e.1 is)
    by false is more later = inr (later (omega (arith, more)))

pub begun_covers : (before : FinMap prefix_cmp Tag) (fresh : List Tag) (pairs : List Pair) (j : Underway) → j.placed ≡ empty → j.built ≡ empty → AreListed before j.tags → ((t : Tag) → Member t fresh → Member t j.tags) → j.pairs ≡ pairs → AreListable j.pairs → j.owed ≡ capped (length (entries before) + length pairs) → CoversListed before fresh pairs j
begun_covers before fresh pairs j no_tags no_pairs used more same listable owed s listed = record {
  kept_up = record {
    placed = λ t sig has. absurd (not_there (get j.placed t) sig (ap (λ m. get m t) no_tags ∙ get-empty tag_cmp t) has);
    tags = λ t todo. elim (listed.tags t todo.0) [ inl was ↦ used t was | inr new ↦ more t new ];
    pairs = λ pair rules at none. inl (subst (Member pair) (sym same) (listed.pairs pair (ap is_some at)));
    built = λ pair made rules has at. absurd (not_there (get j.built pair) made (ap (λ m. get m pair) no_pairs ∙ get-empty pair_cmp pair) has);
  };
  enough = subst (NeedsAtMost s j) (sym owed) (capped_enough s j (length (entries before) + length pairs) listed.few listable needs);
}
  where
    needs : NeedsAtMost s j (length (entries before) + length pairs)
    needs =
        let prefixes : length (entries s.tag) ≤ length (entries before) = listed.prefixes in
        let count : length (map second (entries s.tag)) ≡ length (entries s.tag) = length-map (entries s.tag) second in
        let all : length j.pairs ≡ length pairs = ap length same in record {
          tags = map second (entries s.tag);
          few = omega (arith, prefixes, count, all);
          all_tags = λ t todo. counted_is_there t (entries s.tag) todo.0;
        }

-- ---- keys are taken out

module _ {K X : Type 0} (R : K → K → Ordering) (total : IsTotalOrder R) (tie : (x y : K) → eq_by_cmp R x y ≡ true → x ≡ y) where
  -- what a map has without these keys: nothing of them, and the same of others
  abbrev Left : List K → FinMap R X → K → Type 0
  Left ks m q = (Member q ks × (get (without_each ks m) q ≡ None)) ⊎ ((¬ Member q ks) × (get (without_each ks m) q ≡ get m q))

  pub left_of : (ks : List K) (m : FinMap R X) (q : K) → Left ks m q
  left_of [] m q = inr (λ k. elim k [ ], refl)
  left_of (k ∷ ks) m q = by (eq_by_cmp R q k) refl (left_of ks (remove m k) q)
    where
      differs : eq_by_cmp R q k ≡ false → q ≡ k → ⊥
      differs e same = false≢true (sym e ∙ subst (λ x. eq_by_cmp R q x ≡ true) same (ties_itself total q))

      by : (b : Bool) → eq_by_cmp R q k ≡ b → Left ks (remove m k) q → Left (k ∷ ks) m q
      by b e (inl gone) = inl (inr gone.0, gone.1)
      by true e (inr stays) = inl (inl (tie q k e), stays.1 ∙ get-remove total m k q ∙ ap (λ c. cond c None (get m q)) e)
      by false e (inr stays) = inr (
        λ there. elim there [ inl same ↦ differs e same | inr later ↦ stays.0 later ],
        stays.1 ∙ get-remove total m k q ∙ ap (λ c. cond c None (get m q)) e,
      )

-- ---- a line

-- a job keeps covering where what is emptied is taken out, what is fresh or added is listed, and the added pairs are taken out
module _ (before after : Setting) (fresh emptied : List Tag) (added : List Pair) (old new : Underway) (placed : new.placed ≡ without_each emptied old.placed) (built : new.built ≡ without_each added old.built) (tags : new.tags ≡ old.tags ++ fresh) (pairs : new.pairs ≡ old.pairs ++ added) (change : IsChange before after fresh emptied added) where
  tag_cases : (t : Tag) → (Member t emptied × (get new.placed t ≡ None)) ⊎ ((¬ Member t emptied) × (get new.placed t ≡ get old.placed t))
  tag_cases t = subst (λ m. (Member t emptied × (get m t ≡ None)) ⊎ ((¬ Member t emptied) × (get m t ≡ get old.placed t))) (sym placed) (left_of tag_cmp tags_total tag_tie emptied old.placed t)

  pair_cases : (pair : Pair) → (Member pair added × (get new.built pair ≡ None)) ⊎ ((¬ Member pair added) × (get new.built pair ≡ get old.built pair))
  pair_cases pair = subst (λ m. (Member pair added × (get m pair ≡ None)) ⊎ ((¬ Member pair added) × (get m pair ≡ get old.built pair))) (sym built) (left_of pair_cmp pairs_total pair_tie added old.built pair)

  -- a number is zero or not
  some_or_none : (n : ℕ) → (n ≡ 0) ⊎ (0 < n)
  some_or_none zero = inl refl
  some_or_none (suc n) = inr (omega arith)

  -- a tag that is to do was to do, or is fresh
  tag_from : (t : Tag) → IsTagToDo after.tag new.placed t → IsTagToDo before.tag old.placed t ⊎ Member t fresh
  tag_from t todo = elim (some_or_none (members before.tag t)) [
    | inl none ↦ inr (change.new t none todo.0)
    | inr some ↦ elim (tag_cases t) [
      | inl gone ↦ let none : members after.tag t ≡ 0 = change.gone t gone.0 in let used : 0 < members after.tag t = todo.0 in absurd (omega (arith, none, used))
      | inr stays ↦ inl (some, sym stays.1 ∙ todo.1)
    ]
  ]

  added_listed : (pair : Pair) → Member pair added → Member pair new.pairs
  added_listed pair more = subst (Member pair) (sym pairs) (Member-append_right old.pairs added pair more)

  pub changed_kept : IsKeptUp before old → IsKeptUp after new
  changed_kept kept = record {
    placed = λ t sig has. elim (tag_cases t) [
      | inl gone ↦ absurd (not_there (get new.placed t) sig gone.1 has)
      | inr stays ↦
          let was = kept.placed t sig (sym stays.1 ∙ has) in
          elim (some_or_none (members after.tag t)) [
            | inl none ↦ absurd (stays.0 (change.lost t was.0 none))
            | inr some ↦ (some, change.kept t was.0 some ∙ was.1)
          ]
    ];
    tags = λ t todo. subst (Member t) (sym tags) (elim (tag_from t todo) [
      | inl was ↦ Member-append_left old.tags fresh t (kept.tags t was)
      | inr new ↦ Member-append_right old.tags fresh t new
    ]);
    pairs = λ pair rules at none. elim (pair_cases pair) [
      | inl gone ↦ inl (added_listed pair gone.0)
      | inr stays ↦ elim (change.table pair (ap is_some at)) [
        | inl more ↦ inl (added_listed pair more)
        | inr same ↦ elim (kept.pairs pair rules (sym same ∙ at) (sym stays.1 ∙ none)) [
          | inl was ↦ inl (subst (Member pair) (sym pairs) (Member-append_left old.pairs added pair was))
          | inr tight ↦ inr tight
        ]
      ]
    ];
    built = λ pair made rules has at. elim (pair_cases pair) [
      | inl gone ↦ absurd (not_there (get new.built pair) made gone.1 has)
      | inr stays ↦ elim (change.table pair (ap is_some at)) [
        | inl more ↦ absurd (stays.0 more)
        | inr same ↦ kept.built pair made rules (sym stays.1 ∙ has) (sym same ∙ at)
      ]
    ];
  }

  pub changed_needs : (units : ℕ) → NeedsAtMost before old units → NeedsAtMost after new (units + (length fresh + length added))
  changed_needs units needs =
      let few : length needs.tags + length old.pairs ≤ units = needs.few in
      let more_tags : length (needs.tags ++ fresh) ≡ length needs.tags + length fresh = length-append needs.tags fresh in
      let more_pairs : length new.pairs ≡ length old.pairs + length added = ap length pairs ∙ length-append old.pairs added in record {
        tags = needs.tags ++ fresh;
        few = omega (arith, few, more_tags, more_pairs);
        all_tags = λ t todo. elim (tag_from t todo) [
          | inl was ↦ Member-append_left needs.tags fresh t (needs.all_tags t was)
          | inr new ↦ Member-append_right needs.tags fresh t new
        ];
      }

pub changed_covers : (fresh emptied : List Tag) (added : List Pair) (newly ports : ℕ) (old new : Underway) → length added ≤ length fresh * ports → new.placed ≡ without_each emptied old.placed → new.built ≡ without_each added old.built → new.tags ≡ old.tags ++ fresh → new.pairs ≡ old.pairs ++ added → AreListable new.pairs → new.owed ≡ capped (old.owed + (newly + length fresh * (ports + 1))) → CoversAfter fresh emptied added old new
changed_covers fresh emptied added newly ports old new few placed built tags pairs listable owed before after covers change = record {
  kept_up = changed_kept before after fresh emptied added old new placed built tags pairs change covers.kept_up;
  enough = subst (NeedsAtMost after new) (sym owed) (capped_enough after new (old.owed + (newly + length fresh * (ports + 1))) change.few listable (
      needs_more after new (old.owed + (length fresh + length added)) (old.owed + (newly + length fresh * (ports + 1)))
      (let each : length fresh * (ports + 1) ≡ length fresh * ports + length fresh = one_more (length fresh) ports in omega (arith, each, few))
      (changed_needs before after fresh emptied added old new placed built tags pairs change old.owed covers.enough)
      ));
}
  where
    one_more : (a b : ℕ) → a * (b + 1) ≡ a * b + a
    one_more a b = grind arith

pub quiet_changes_keep_jobs : QuietChangesKeepJobs
quiet_changes_keep_jobs before after j covers change = record {
  kept_up = changed_kept before after [] [] [] j j refl refl (sym (append-nil j.tags)) (sym (append-nil j.pairs)) change covers.kept_up;
  enough = needs_more after j (j.owed + (0 + 0)) j.owed (omega arith) (changed_needs before after [] [] [] j j refl refl (sym (append-nil j.tags)) (sym (append-nil j.pairs)) change j.owed covers.enough);
}
