-- Numbers of results.
use Rattle.std.proofs.Common.{◌≡◌, ◌+◌, drop, ℕ, Bool, true, false, ◌&&◌, nat_eq, cond, Some, None, List, [], ◌∷◌, ◌++◌, map, zero, suc, refl, sym, ap, ◌∙◌, subst}
use Rattle.std.specs.List.{slice_get}
use Rattle.std.specs.HashMap.{get, IsUnchanged, Updates}
use Rattle.std.specs.Map.{lookup}
use Rattle.std.specs.Prelude.{Result, Ok, Err, OnOk, OnErr, unwrap_or, ◌<◌, length}
use Rattle.std.proofs.Common.{slice_index_or as get_or}
use Rattle.std.proofs.lemmas.Option.{slice_get_read, slice_get-get_or}
use Rattle.std.specs.Option.{option_map}
use Rattle.std.proofs.lemmas.List.{drop_more, length-map}
use Rattle.net_types.specs.declared.cube.Cube.{Cube}
use Rattle.net_types.specs.Cubes.{meet_cubes}
use Rattle.classifier.specs.declared.join.Join.TheVariants.{Union}
use Rattle.classifier.specs.declared.joins.Pair.{Pair}
use Rattle.classifier.specs.declared.line.Line.{Line}
use Rattle.classifier.specs.Items.{Item, add_all}
use Rattle.classifier.specs.Lines.{add_line, add_lines, cons_line, line, row}
use Rattle.classifier.specs.Numbered.{AreNumbered, AreUnions, KeepNumbers, Made, list_at, pair_eq}
use Rattle.net_types.proofs.SetLemmas.{map-append}
use Rattle.classifier.proofs.HullLemmas.{numbers_tie}

-- ---- unions

-- unions stay while lists come
pub unions_kept : (firsts seconds : List (List Item)) (made : Made) (old new : List (List Item)) → KeepNumbers old new → AreUnions firsts seconds made old → AreUnions firsts seconds made new
unions_kept firsts seconds made old new kept are p n e = kept n (add_all (list_at firsts p.first) (list_at seconds p.second)) (are p n e)

and_first : (a b : Bool) → (a && b) ≡ true → a ≡ true
and_first true b e = refl
and_first false b e = e

and_second : (a b : Bool) → (a && b) ≡ true → b ≡ true
and_second true b e = e
and_second false b e = absurd (cc)

-- one union more is noted
unions_more : (firsts seconds : List (List Item)) (made next : Made) (lists : List (List Item)) (pair : Pair) (n : ℕ) → AreUnions firsts seconds made lists
    → ((q : Pair) → get pair_eq next q ≡ cond (pair_eq pair q) (Some n) (get pair_eq made q)) → slice_get lists n ≡ Some (add_all (list_at firsts pair.first) (list_at seconds pair.second))
    → AreUnions firsts seconds next lists
unions_more firsts seconds made next lists pair n are updates is q m e = by (pair_eq pair q) refl (sym (updates q) ∙ e)
  where
    by : (b : Bool) → pair_eq pair q ≡ b → cond b (Some n) (get pair_eq made q) ≡ Some m → slice_get lists m ≡ Some (add_all (list_at firsts q.first) (list_at seconds q.second))
    by true same noted =
        let first : pair.first ≡ q.first = numbers_tie pair.first q.first (and_first (nat_eq pair.first q.first) (nat_eq pair.second q.second) same) in
        let second : pair.second ≡ q.second = numbers_tie pair.second q.second (and_second (nat_eq pair.first q.first) (nat_eq pair.second q.second) same) in
        let number : n ≡ m = cc in
        ap (slice_get lists) (sym number) ∙ is ∙ ap (λ i. Some (add_all (list_at firsts i) (list_at seconds pair.second))) first ∙ ap (λ j. Some (add_all (list_at firsts q.first) (list_at seconds j))) second
    by false same noted = are q m noted

-- the same, where memory may have been wanting for the note
pub unions_noted : {T E : Type 0} (firsts seconds : List (List Item)) (made next : Made) (lists : List (List Item)) (pair : Pair) (n : ℕ) (r : Result T E) → AreUnions firsts seconds made lists
    → OnOk r (Updates pair_eq made next pair (Some n)) → OnErr r (IsUnchanged made next) → slice_get lists n ≡ Some (add_all (list_at firsts pair.first) (list_at seconds pair.second))
    → AreUnions firsts seconds next lists
unions_noted firsts seconds made next lists pair n (Ok x) are updates same is q m f = unions_more firsts seconds made next lists pair n are updates.0 is q m f
unions_noted firsts seconds made next lists pair n (Err e) are updates same is q m f = are q m (ap (lookup (pair_eq q)) (sym same) ∙ f)

-- the list that was read at a number
pub list_read : (lists : List (List Item)) (n : ℕ) (xs : List Item) → n < length lists → xs ≡ get_or lists n xs → xs ≡ list_at lists n
list_read lists n xs inside is = sym (ap (λ o. unwrap_or o []) (slice_get_read lists (length lists) n xs refl inside is))

-- ---- numbers of rules

-- a rule more, with its number
pub numbered_push : (lists : List (List Item)) (lines : List Line) (numbers : List ℕ) (x : Line) (n : ℕ) → AreNumbered lists lines numbers → slice_get lists n ≡ Some x.results
    → AreNumbered lists (lines ++ x ∷ []) (numbers ++ n ∷ [])
numbered_push lists lines numbers x n are is = map-append (slice_get lists) numbers (n ∷ []) ∙ ap (λ front. front ++ slice_get lists n ∷ []) are
    ∙ ap (λ o. map (λ (y : Line). Some y.results) lines ++ o ∷ []) is ∙ sym (map-append (λ (y : Line). Some y.results) lines (x ∷ []))

-- lists that keep their numbers are those of the rules still
pub numbered_kept : (old new : List (List Item)) (lines : List Line) (numbers : List ℕ) → KeepNumbers old new → AreNumbered old lines numbers → AreNumbered new lines numbers
numbered_kept old new [] [] kept are = refl
numbered_kept old new [] (n ∷ numbers) kept are = absurd (cc)
numbered_kept old new (x ∷ lines) [] kept are = absurd (cc)
numbered_kept old new (x ∷ lines) (n ∷ numbers) kept are =
    let head : slice_get old n ≡ Some x.results = cc in
    let tail : AreNumbered old lines numbers = cc in
    ap (λ o. o ∷ map (slice_get new) numbers) (kept n x.results head) ∙ ap (λ os. Some x.results ∷ os) (numbered_kept old new lines numbers kept tail)

-- the list of a rule
pub numbered_at : (lists : List (List Item)) (lines : List Line) (numbers : List ℕ) (i : ℕ) (x : Line) (n : ℕ) → AreNumbered lists lines numbers → slice_get lines i ≡ Some x → slice_get numbers i ≡ Some n
    → slice_get lists n ≡ Some x.results
numbered_at lists [] numbers i x n are e f = absurd (cc)
numbered_at lists (y ∷ lines) [] i x n are e f = absurd (cc)
numbered_at lists (y ∷ lines) (m ∷ numbers) zero x n are e f =
    let head : slice_get lists m ≡ Some y.results = cc in
    let number : m ≡ n = cc in
    let rule : y ≡ x = cc in
    ap (slice_get lists) (sym number) ∙ head ∙ ap (λ (z : Line). Some z.results) rule
numbered_at lists (y ∷ lines) (m ∷ numbers) (suc i) x n are e f =
    let tail : AreNumbered lists lines numbers = cc in
    numbered_at lists lines numbers i x n tail e f

pub numbered_length : (lists : List (List Item)) (lines : List Line) (numbers : List ℕ) → AreNumbered lists lines numbers → length numbers ≡ length lines
numbered_length lists lines numbers are = sym (length-map numbers (slice_get lists)) ∙ ap length are ∙ length-map lines (λ (x : Line). Some x.results)

-- the list of a rule that was read
pub numbered_read : (lists : List (List Item)) (lines : List Line) (numbers : List ℕ) (i : ℕ) (x : Line) → AreNumbered lists lines numbers → i < length lines → x ≡ get_or lines i x
    → slice_get lists (get_or numbers i 0) ≡ Some x.results
numbered_read lists lines numbers i x are inside is =
    numbered_at lists lines numbers i x (get_or numbers i 0) are (slice_get_read lines (length lines) i x refl inside is)
    (slice_get-get_or numbers i 0 (subst (λ n. i < n) (sym (numbered_length lists lines numbers are)) inside))

-- ---- a row

row_next : (x y : Line) (ys : List Line) (j : ℕ) → j < length ys → y ≡ get_or ys j y
    → row Union x (drop j ys) ≡ cons_line (option_map (line (add_all x.results y.results)) (meet_cubes x.cube y.cube)) (row Union x (drop (j + 1) ys))
row_next x y ys j inside is = ap (row Union x) (drop_more ys j y inside ∙ ap (λ z. z ∷ drop (j + 1) ys) (sym is))

-- a rule that has headers in common with the next
pub row_met : (x y : Line) (ys : List Line) (j : ℕ) (cube : Cube) (kept : List Line) → j < length ys → y ≡ get_or ys j y → meet_cubes x.cube y.cube ≡ Some cube
    → add_lines (add_line kept (line (add_all x.results y.results) cube)) (row Union x (drop (j + 1) ys)) ≡ add_lines kept (row Union x (drop j ys))
row_met x y ys j cube kept inside is met = ap (add_lines kept) (sym (row_next x y ys j inside is ∙ ap (λ o. cons_line (option_map (line (add_all x.results y.results)) o) (row Union x (drop (j + 1) ys))) met))

-- a rule that has none
pub row_unmet : (x y : Line) (ys : List Line) (j : ℕ) (kept : List Line) → j < length ys → y ≡ get_or ys j y → meet_cubes x.cube y.cube ≡ None
    → add_lines kept (row Union x (drop (j + 1) ys)) ≡ add_lines kept (row Union x (drop j ys))
row_unmet x y ys j kept inside is met = ap (add_lines kept) (sym (row_next x y ys j inside is ∙ ap (λ o. cons_line (option_map (line (add_all x.results y.results)) o) (row Union x (drop (j + 1) ys))) met))

-- the list that has a number
pub list_there : (lists : List (List Item)) (n : ℕ) (xs : List Item) → slice_get lists n ≡ Some xs → list_at lists n ≡ xs
list_there lists n xs is = ap (λ o. unwrap_or o []) is
