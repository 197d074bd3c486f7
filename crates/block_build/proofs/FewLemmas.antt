-- Cells whose results have numbers.
use Rattle.std.proofs.Common.{arith, ◌≡◌, ◌<◌, ◌+◌, ℕ, zero, suc, cond, Bool, true, false, Option, Some, get_or, drop, take, List, [], ◌∷◌, ◌++◌, length, map, refl, sym, ap, ◌∙◌, subst}
use Rattle.std.specs.List.{slice_get}
use Rattle.std.proofs.lemmas.List.{length-map, map-append, take-append-drop, take_more}
use Rattle.std.proofs.lemmas.Option.{same_Some, slice_get-get_or, slice_get_read, slice_get_within}
use Rattle.cells.specs.Firsts.{first_place, firsts}
use Rattle.classifier.proofs.NumberLemmas.{numbered_at, numbered_kept, numbered_length, numbered_push}
use Rattle.classifier.specs.Items.{Item, add_all}
use Rattle.classifier.specs.Lines.{line}
use Rattle.classifier.specs.Meaning.{cubes_of}
use Rattle.classifier.specs.Numbered.{AreNumbered, KeepNumbers}
use Rattle.classifier.specs.declared.line.Line.{Line}
use Rattle.net_types.specs.declared.address.Pid.{Pid}
use Rattle.net_types.specs.declared.address.PortNo.{PortNo}
use Rattle.block_build.proofs.ExitLemmas.{received_lines-append}
use Rattle.block_build.specs.Receivers.{received_items, received_lines}
use Rattle.net_types.specs.declared.cube.Cube.{Cube}
use Rattle.net_types.specs.declared.route.Offer.{Offer}
use Rattle.block_build.proofs.ByCellLemmas.{cubes-all, cubes-dropping, held-at}
use Rattle.block_build.specs.ByCells.{beside_all, beside_at, beside_first, dropping, held_by, made_at}
use Rattle.block_build.specs.Offers.{goes_to, has_one_left}
use Rattle.block_build.specs.declared.receive.Receiver.{Receiver}

-- ---- what has a place in a list made of another

map-at : {A B : Type 0} (f : A → B) (xs : List A) (i : ℕ) (x : A) → slice_get xs i ≡ Some x → slice_get (map f xs) i ≡ Some (f x)
map-at f [] zero x e = absurd (cc)
map-at f [] (suc i) x e = absurd (cc)
map-at f (y ∷ xs) zero x e = ap (λ z. Some (f z)) (same_Some y x e)
map-at f (y ∷ xs) (suc i) x e = map-at f xs i x e

-- the place of a cell stands in the table
pub first-at : (cubes cells : List Cube) (table : List (Option ℕ)) (i : ℕ) (c : Cube) (o : Option ℕ) → table ≡ firsts cubes cells → slice_get cells i ≡ Some c → slice_get table i ≡ Some o → o ≡ first_place c cubes
first-at cubes cells table i c o e at is = same_Some o (first_place c cubes) (sym is ∙ ap (λ xs. slice_get xs i) e ∙ map-at (λ a. first_place a cubes) cells i c at)

pub cube-of : (zs : List Line) (cells : List Cube) (i : ℕ) (z : Line) (c : Cube) → cubes_of zs ≡ cells → slice_get zs i ≡ Some z → slice_get cells i ≡ Some c → z.cube ≡ c
cube-of zs cells i z c same at is = same_Some z.cube c (sym (map-at (λ (y : Line). y.cube) zs i z at) ∙ ap (λ xs. slice_get xs i) same ∙ is)

module _ (best : Pid) (offers : List Offer) (xs : List Line) where
  -- a cell beside what a receiver makes in it
  added : (b : Bool) (results made : List Item) → add_all results (cond b made []) ≡ cond b (add_all results made) results
  added true results made = refl
  added false results made = refl

  pub made-results : (r : Receiver) (z : Line) → add_all z.results (made_at best offers xs r z.cube) ≡ (beside_at best offers xs r z).results
  made-results r z = added (goes_to (has_one_left offers (held_by z.cube xs)) best (held_by z.cube xs) r.who) z.results (held_by z.cube r.lines)

  -- one receiver more
  all-append : (zs : List Line) (rs : List Receiver) (r : Receiver) → beside_all best offers xs zs (rs ++ r ∷ []) ≡ map (beside_at best offers xs r) (beside_all best offers xs zs rs)
  all-append zs [] r = refl
  all-append zs (q ∷ rs) r = all-append (map (beside_at best offers xs q) zs) rs r

  pub first-more : (cells : List Cube) (rs : List Receiver) (n : ℕ) (r : Receiver) → n < length rs → r ≡ get_or rs n r → beside_first best offers xs cells rs (n + 1) ≡ map (beside_at best offers xs r) (beside_first best offers xs cells rs n)
  first-more cells rs n r lt is =
      ap (beside_all best offers xs (dropping cells)) (take_more rs n r lt ∙ ap (λ q. take n rs ++ q ∷ []) (sym is))
      ∙ all-append (dropping cells) (take n rs) r

  pub all-both : (zs : List Line) (rs qs : List Receiver) → beside_all best offers xs zs (rs ++ qs) ≡ beside_all best offers xs (beside_all best offers xs zs rs) qs
  all-both zs [] qs = refl
  all-both zs (r ∷ rs) qs = all-both (map (beside_at best offers xs r) zs) rs qs

  -- and then the others
  pub first-rest : (cells : List Cube) (rs : List Receiver) (n : ℕ) → beside_all best offers xs (beside_first best offers xs cells rs n) (drop n rs) ≡ beside_all best offers xs (dropping cells) rs
  first-rest cells rs n = sym (all-both (dropping cells) (take n rs) (drop n rs)) ∙ ap (beside_all best offers xs (dropping cells)) (take-append-drop n rs)

  pub cubes-first : (cells : List Cube) (rs : List Receiver) (n : ℕ) → cubes_of (beside_first best offers xs cells rs n) ≡ cells
  cubes-first cells rs n = cubes-all best offers xs (dropping cells) (take n rs) ∙ cubes-dropping cells

-- one rule more has its number
pub numbered-more : (old new : List (List Item)) (lines : List Line) (numbers more : List ℕ) (x : Line) (n : ℕ) → KeepNumbers old new → more ≡ numbers ++ n ∷ [] → AreNumbered old lines numbers → slice_get new n ≡ Some x.results
    → AreNumbered new (lines ++ x ∷ []) more
numbered-more old new lines numbers more x n kept e are is = subst (AreNumbered new (lines ++ x ∷ [])) (sym e) (numbered_push new lines numbers x n (numbered_kept old new lines numbers kept are) is)

-- one cell more has its number
pub numbered-next : (f : Line → Line) (zs : List Line) (i n : ℕ) (z : Line) (old new : List (List Item)) (numbers more : List ℕ) → i < length zs → slice_get zs i ≡ Some z → KeepNumbers old new
    → slice_get new n ≡ Some (f z).results → more ≡ numbers ++ n ∷ [] → AreNumbered old (map f (take i zs)) numbers → AreNumbered new (map f (take (i + 1) zs)) more
numbered-next f zs i n z old new numbers more lt at kept is e are =
    let got : get_or zs i z ≡ z = same_Some (get_or zs i z) z (sym (slice_get-get_or zs i z lt) ∙ at) in
    let front : map f (take (i + 1) zs) ≡ map f (take i zs) ++ f z ∷ [] = ap (map f) (take_more zs i z lt ∙ ap (λ y. take i zs ++ y ∷ []) got) ∙ map-append f (take i zs) (z ∷ []) in
    subst (λ ys. AreNumbered new ys more) (sym front) (numbered-more old new (map f (take i zs)) numbers more (f z) n kept e are is)

-- ---- what rules give

-- one rule more
pub received-more : (hop : PortNo) (ys : List Line) (i : ℕ) (y : Line) → i < length ys → y ≡ get_or ys i y → received_lines hop (take (i + 1) ys) ≡ received_lines hop (take i ys) ++ line (received_items hop y.results) y.cube ∷ []
received-more hop ys i y lt is = ap (received_lines hop) (take_more ys i y lt ∙ ap (λ z. take i ys ++ z ∷ []) (sym is)) ∙ received_lines-append hop (take i ys) (y ∷ [])

-- the list of the first rule that holds a cell
pub held-number : (lists : List (List Item)) (ys : List Line) (numbers : List ℕ) (c : Cube) (p n : ℕ) → AreNumbered lists ys numbers → Some p ≡ first_place c (cubes_of ys) → slice_get numbers p ≡ Some n → slice_get lists n ≡ Some (held_by c ys)
held-number lists ys numbers c p n are known is =
    let at = held-at c ys p (sym known) in
    numbered_at lists ys numbers p at.rule n are at.stands is ∙ ap Some at.gives

pub held-within : (lists : List (List Item)) (ys : List Line) (numbers : List ℕ) (c : Cube) (p : ℕ) → AreNumbered lists ys numbers → Some p ≡ first_place c (cubes_of ys) → p < length numbers
held-within lists ys numbers c p are known =
    let at = held-at c ys p (sym known) in
    subst (λ n. p < n) (sym (numbered_length lists ys numbers are)) (slice_get_within ys p at.rule at.stands)

pub cubes-length : (zs : List Line) (cells : List Cube) → cubes_of zs ≡ cells → length zs ≡ length cells
cubes-length zs cells same = sym (length-map zs (λ (z : Line). z.cube)) ∙ ap length same

-- the list of a cell that was read
pub number-there : (lists : List (List Item)) (zs : List Line) (numbers : List ℕ) (i n : ℕ) (z : Line) → AreNumbered lists zs numbers → slice_get zs i ≡ Some z → i < length numbers → n ≡ get_or numbers i n → slice_get lists n ≡ Some z.results
number-there lists zs numbers i n z are at lt is = numbered_at lists zs numbers i z n are at (slice_get_read numbers (length numbers) i n refl lt is)

-- what stands at a place
pub record Stands (A : Type 0) (xs : List A) (i : ℕ) : Type 0 where
  pub it : A
  pub at : slice_get xs i ≡ Some it

pub stands : (A : Type 0) (xs : List A) (i : ℕ) → i < length xs → Stands A xs i
stands A [] i lt = absurd (omega (arith, lt))
stands A (x ∷ xs) zero lt = record { it = x; at = refl }
stands A (x ∷ xs) (suc i) lt =
    let later = stands A xs i (omega (arith, lt)) in
    record { it = later.it; at = later.at }

-- the place that is read of a cell
pub first-read : (cubes cells : List Cube) (table : List (Option ℕ)) (i : ℕ) (c : Cube) (none : Option ℕ) → table ≡ firsts cubes cells → slice_get cells i ≡ Some c → get_or table i none ≡ first_place c cubes
first-read cubes cells table i c none e at =
    let lt : i < length table = subst (λ (xs : List (Option ℕ)). i < length xs) (sym e) (subst (λ n. i < n) (sym (length-map cells (λ a. first_place a cubes))) (slice_get_within cells i c at)) in
    first-at cubes cells table i c (get_or table i none) e at (slice_get-get_or table i none lt)

-- a cell, its place among the rules, and the list that it has
pub record CellAt (cells : List Cube) (zs : List Line) (lists : List (List Item)) (n i : ℕ) : Type 0 where
  pub rule : Line
  pub stands : slice_get zs i ≡ Some rule
  pub cell : slice_get cells i ≡ Some rule.cube
  pub list : slice_get lists n ≡ Some rule.results

pub cell-at : (cells : List Cube) (zs : List Line) (lists : List (List Item)) (numbers : List ℕ) (i n : ℕ) → cubes_of zs ≡ cells → AreNumbered lists zs numbers → i < length cells → n ≡ get_or numbers i n → CellAt cells zs lists n i
cell-at cells zs lists numbers i n same are lt is =
    let long : length zs ≡ length cells = cubes-length zs cells same in
    let z = stands Line zs i (subst (λ k. i < k) (sym long) lt) in
    let within : i < length numbers = subst (λ k. i < k) (sym (numbered_length lists zs numbers are ∙ long)) lt in
    record {
      rule = z.it;
      stands = z.at;
      cell = ap (λ cs. slice_get cs i) (sym same) ∙ map-at (λ (y : Line). y.cube) zs i z.it z.at;
      list = number-there lists zs numbers i n z.it are z.at within is;
    }
