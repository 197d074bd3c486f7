-- Lists of the cells within a cube: what they have, and what is noted by them.
use Rattle.std.proofs.Common.{arith, ◌≡◌, ◌⊎◌, ℕ, ◌||◌, eqb, ◌<◌, ◌≤◌, ◌+◌, ◌/◌, Bool, true, false, cond, Option, Some, None, List, [], ◌∷◌, ◌++◌, length, refl, inl, inr, sym, ap, ◌∙◌, subst}
use Rattle.std.specs.List.{slice_get}
use Rattle.std.specs.Option.{is_some}
use Rattle.std.proofs.lemmas.Bool.{cases_Bool, cases_lt, eq-eqb, eqb-true, false≢true, or_cases}
use Rattle.std.proofs.lemmas.Option.{same_Some, slice_get_within}
use Rattle.net_types.specs.declared.cube.Cube.{Cube}
use Rattle.net_types.specs.Cubes.{lies_within_cube}
use Rattle.net_types.specs.Sets.{Member}
use Rattle.std.proofs.Math.Bool.{or-true}
use Rattle.net_types.proofs.SetLemmas.{Member-append_cases}
use Rattle.place_sets.specs.Places.{has_place}
use Rattle.cells.specs.declared.listed.Listed.{Listed}
use Rattle.cells.specs.Blocks.{KeepsInner}
use Rattle.cells.specs.Firsts.{noted}
use Rattle.cells.specs.Listed.{AreListed, IsListed, ListsAll, ListsOnly, ListsThese, is_listed}
use Rattle.cells.specs.Marks.{AreAllNoted, AreGiven, AreLeft, found_at, given}
use Rattle.cells.proofs.BlockLemmas.{Member-slice_get, slice_get-last}

-- ---- what a list has

pub front-listed : (xs ys : List ℕ) (p : ℕ) → is_listed xs p ≡ true → is_listed (xs ++ ys) p ≡ true
front-listed [] ys p h = absurd (false≢true h)
front-listed (x ∷ xs) ys p h = elim (or_cases (eqb x p) (is_listed xs p) h) [
  | inl here ↦ ap (λ b. b || is_listed (xs ++ ys) p) here
  | inr later ↦ ap (λ b. eqb x p || b) (front-listed xs ys p later) ∙ or-true (eqb x p)
]

pub end-listed : (xs : List ℕ) (p n : ℕ) → p ≡ n → is_listed (xs ++ n ∷ []) p ≡ true
end-listed [] p n e = ap (λ b. b || false) (eq-eqb n p (sym e))
end-listed (x ∷ xs) p n e = ap (λ b. eqb x p || b) (end-listed xs p n e) ∙ or-true (eqb x p)

pub listed-cases : (xs : List ℕ) (n p : ℕ) → is_listed (xs ++ n ∷ []) p ≡ true → (is_listed xs p ≡ true) ⊎ (p ≡ n)
listed-cases [] n p h = elim (or_cases (eqb n p) false h) [ inl here ↦ inr (sym (eqb-true n p here)) | inr none ↦ absurd (false≢true none) ]
listed-cases (x ∷ xs) n p h = elim (or_cases (eqb x p) (is_listed (xs ++ n ∷ []) p) h) [
  | inl here ↦ inl (ap (λ b. b || is_listed xs p) here)
  | inr later ↦ elim (listed-cases xs n p later) [ inl before ↦ inl (ap (λ b. eqb x p || b) before ∙ or-true (eqb x p)) | inr last ↦ inr last ]
]

module _ (cells : List Cube) (cube : Cube) where
  -- one more, as the place of the next cell
  pub listed-push : (start n : ℕ) (old new : List ℕ) → new ≡ old ++ n ∷ [] → ListsThese cells cube (λ p. (start ≤ p) × (p < n)) old → ListsThese cells cube (λ p. (start ≤ p) × (p < n + 1)) new
  listed-push start n old new e before p c m at inside = elim (cases_lt p n) [
    | inl earlier ↦ ap (λ xs. is_listed xs p) e ∙ front-listed old (n ∷ []) p (before p c (m.0, earlier) at inside)
    | inr last ↦
        let here : p ≡ n = omega (arith, last, m.1) in
        ap (λ xs. is_listed xs p) e ∙ end-listed old p n here
  ]

  -- the next cell doesn't lie within the cube
  pub listed-left : (start n : ℕ) (x : Cube) (old : List ℕ) → slice_get cells n ≡ Some x → lies_within_cube x cube ≡ false → ListsThese cells cube (λ p. (start ≤ p) × (p < n)) old
      → ListsThese cells cube (λ p. (start ≤ p) × (p < n + 1)) old
  listed-left start n x old at outside before p c m there inside = elim (cases_lt p n) [
    | inl earlier ↦ before p c (m.0, earlier) there inside
    | inr last ↦
        let here : p ≡ n = omega (arith, last, m.1) in
        let one : x ≡ c = same_Some x c (sym at ∙ ap (slice_get cells) (sym here) ∙ there) in
        absurd (false≢true (sym outside ∙ ap (λ y. lies_within_cube y cube) one ∙ inside))
  ]

  -- the next block was listed
  pub listed-block : (blocks : List ℕ) (b : ℕ) (old new : List ℕ) → ((p : ℕ) → is_listed old p ≡ true → is_listed new p ≡ true) → ListsThese cells cube (λ p. p / 64 ≡ b) new
      → ListsThese cells cube (λ p. (p / 64 < b) × (has_place blocks (p / 64) ≡ true)) old → ListsThese cells cube (λ p. (p / 64 < b + 1) × (has_place blocks (p / 64) ≡ true)) new
  listed-block blocks b old new kept here before p c m at inside = elim (cases_lt (p / 64) b) [
    | inl earlier ↦ kept p (before p c (earlier, m.1) at inside)
    | inr last ↦ here p c (omega (arith, last, m.0)) at inside
  ]

  -- the next block is none of them
  pub listed-skipped : (blocks : List ℕ) (b : ℕ) (old : List ℕ) → has_place blocks b ≡ false → ListsThese cells cube (λ p. (p / 64 < b) × (has_place blocks (p / 64) ≡ true)) old
      → ListsThese cells cube (λ p. (p / 64 < b + 1) × (has_place blocks (p / 64) ≡ true)) old
  listed-skipped blocks b old absent before p c m at inside = elim (cases_lt (p / 64) b) [
    | inl earlier ↦ before p c (earlier, m.1) at inside
    | inr last ↦
        let here : p / 64 ≡ b = omega (arith, last, m.0) in
        absurd (false≢true (sym absent ∙ ap (has_place blocks) (sym here) ∙ m.1))
  ]

-- one more, of a cell within the cube
pub only-push : (cells : List Cube) (cube : Cube) (n : ℕ) (x : Cube) (old new : List ℕ) → new ≡ old ++ n ∷ [] → slice_get cells n ≡ Some x → lies_within_cube x cube ≡ true → ListsOnly cells cube old → ListsOnly cells cube new
only-push cells cube n x old new e at inside before p c there stands = elim (listed-cases old n p (sym (ap (λ xs. is_listed xs p) e) ∙ there)) [
  | inl earlier ↦ before p c earlier stands
  | inr last ↦
      let one : x ≡ c = same_Some x c (sym at ∙ ap (slice_get cells) (sym last) ∙ stands) in
      ap (λ y. lies_within_cube y cube) (sym one) ∙ inside
]

-- where the blocks are those that may have cells within the cube, all are listed
pub listed-all : (old new : List Cube) (cube : Cube) (all blocks : List ℕ) (places : List ℕ) → new ≡ old → ((p : ℕ) → p < length old → has_place all (p / 64) ≡ true) → KeepsInner old cube all blocks
    → ListsThese new cube (λ p. has_place blocks (p / 64) ≡ true) places → ListsOnly new cube places → ListsAll new cube places
listed-all old new cube all blocks places same each keeps f only p c at =
    let before : slice_get old p ≡ Some c = ap (λ cs. slice_get cs p) (sym same) ∙ at in
    elim (cases_Bool (lies_within_cube c cube)) [
      | inl inside ↦ f p c (keeps p c before inside (each p (slice_get_within old p c before))) at inside ∙ sym inside
      | inr beyond ↦ elim (cases_Bool (is_listed places p)) [
        | inl there ↦ there ∙ sym (only p c there at)
        | inr absent ↦ absent ∙ sym beyond
      ]
    ]

-- ---- what is listed

pub listed-found : (cells : List Cube) (lists : List Listed) (cube : Cube) (n : ℕ) (l : Listed) → slice_get lists n ≡ Some l → l.cube ≡ cube → AreListed cells lists → IsListed cells lists cube n
listed-found cells lists cube n l at same are = (l, at, subst (λ c. ListsAll cells c l.places.items) same (are l (Member-slice_get lists n l at)))

pub lists-push : (cells : List Cube) (lists more : List Listed) (l : Listed) → more ≡ lists ++ l ∷ [] → ListsAll cells l.cube l.places.items → AreListed cells lists → AreListed cells more
lists-push cells lists more l e all are k there = elim (Member-append_cases lists (l ∷ []) k (subst (Member k) e there)) [
  | inl old ↦ are k old
  | inr new ↦ elim new [ inl same ↦ subst (λ (x : Listed). ListsAll cells x.cube x.places.items) (sym same) all | inr none ↦ elim none [ ] ]
]

pub listed-last : (cells : List Cube) (lists more : List Listed) (l : Listed) (n : ℕ) → more ≡ lists ++ l ∷ [] → n ≡ length lists → ListsAll cells l.cube l.places.items → IsListed cells more l.cube n
listed-last cells lists more l n e last all = (l, ap (λ xs. slice_get xs n) e ∙ ap (slice_get (lists ++ l ∷ [])) last ∙ slice_get-last lists l, all)

-- ---- what is given

given-some : (i : ℕ) (o : Option ℕ) → is_some o ≡ true → given i o ≡ o
given-some i None h = absurd (false≢true h)
given-some i (Some k) h = refl

listed-end : (xs : List ℕ) (n p : ℕ) → is_listed (xs ++ n ∷ []) p ≡ (is_listed xs p || eqb n p)
listed-end [] n p = of (eqb n p)
  where
    of : (b : Bool) → (b || false) ≡ b
    of true = refl
    of false = refl
listed-end (x ∷ xs) n p = ap (λ b. eqb x p || b) (listed-end xs n p) ∙ of (eqb x p)
  where
    of : (b : Bool) → (b || (is_listed xs p || eqb n p)) ≡ ((b || is_listed xs p) || eqb n p)
    of true = refl
    of false = refl

given-parts : (i : ℕ) (o : Option ℕ) (a b : Bool) → cond b (given i (cond a (given i o) o)) (cond a (given i o) o) ≡ cond (a || b) (given i o) o
given-parts i None true true = refl
given-parts i (Some k) true true = refl
given-parts i o true false = refl
given-parts i o false true = refl
given-parts i o false false = refl

-- the next place of the list was looked at
pub given-more : (i : ℕ) (front more : List ℕ) (n : ℕ) (old mid new : List (Option ℕ)) → more ≡ front ++ n ∷ [] → AreGiven i (is_listed front) old mid → AreGiven i (eqb n) mid new → AreGiven i (is_listed more) old new
given-more i front more n old mid new e f g = record {
  long = g.long ∙ f.long;
  each = λ p less.
      let o = found_at old p in
      g.each p (subst (λ m. p < m) (sym f.long) less) ∙ ap (λ y. cond (eqb n p) (given i y) y) (f.each p less)
      ∙ given-parts i o (is_listed front p) (eqb n p) ∙ ap (λ b. cond b (given i o) o) (sym (listed-end front n p) ∙ ap (λ xs. is_listed xs p) (sym e));
}

given-keeps : (i : ℕ) (o : Option ℕ) (b : Bool) → is_some o ≡ true → is_some (cond b (given i o) o) ≡ true
given-keeps i o true h = ap is_some (given-some i o h) ∙ h
given-keeps i o false h = h

-- what was found before is found now, so the same blocks are left
pub left-still : (i : ℕ) (cells : List Cube) (meant : ℕ → Bool) (old new : List (Option ℕ)) (left : List ℕ) → length old ≡ length cells → AreGiven i meant old new → AreLeft cells old left → AreLeft cells new left
left-still i cells meant old new left long f rest p within gone =
    ap is_some (f.each p (subst (λ n. p < n) (sym long) within)) ∙ given-keeps i (found_at old p) (meant p) (rest p within gone)

-- where the cells within the cube were given its place, each was looked at
pub given-noted : (i : ℕ) (a : Cube) (cells : List Cube) (places : List ℕ) (old new : List (Option ℕ)) → length old ≡ length cells → AreGiven i (is_listed places) old new → ListsAll cells a places → AreAllNoted i a cells old new
given-noted i a cells places old new long f lists = record {
  long = f.long;
  all = λ p c at.
      let o = found_at old p in
      f.each p (subst (λ n. p < n) (sym long) (slice_get_within cells p c at)) ∙ ap (λ b. cond b (given i o) o) (lists p c at) ∙ as_noted c o;
}
  where
    same : (b : Bool) (o : Option ℕ) → cond b o o ≡ o
    same true o = refl
    same false o = refl

    as_noted : (c : Cube) (o : Option ℕ) → cond (lies_within_cube c a) (given i o) o ≡ noted i a c o
    as_noted c None = refl
    as_noted c (Some k) = same (lies_within_cube c a) (Some k)
