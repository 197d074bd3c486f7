-- Runs of rules: what is made of them one by one is what is made of their rules, and where a run is passed over there was nothing to make.
use Rattle.std.proofs.Common.{◌≡◌, ℕ, ◌+◌, ◌<◌, Bool, true, false, ◌&&◌, ◌||◌, cond, Option, Some, None, List, [], ◌∷◌, ◌++◌, append_assoc, length, get_or, drop, refl, inl, inr, sym, ap, ◌∙◌}
use Rattle.std.specs.Option.{option_map}
use Rattle.std.specs.Cmp.Derive.{both_true}
use Rattle.std.proofs.Math.Bool.{and-false, or_assoc, or-false, or-true}
use Rattle.std.proofs.lemmas.Bool.{and_parts, cases_Bool, false≢true, or_cases}
use Rattle.std.proofs.lemmas.List.{append-nil, at_drop_more}
use Rattle.net_types.specs.Cubes.{has, lies_within_cube, meet_cubes, pull_cube}
use Rattle.net_types.specs.Headers.{apply}
use Rattle.net_types.specs.declared.cube.Cube.{Cube}
use Rattle.net_types.specs.declared.headers.Assign.{Assign}
use Rattle.net_types.specs.declared.headers.Headers.{Headers}
use Rattle.net_types.proofs.CubeLemmas.{has-meet, has-pull, has-within, has_option, option_ext, within_trans}
use Rattle.classifier.specs.Behind.{meet_behind, meet_found}
use Rattle.classifier.specs.Hulls.{holds_each}
use Rattle.classifier.specs.Items.{Item}
use Rattle.classifier.specs.Lines.{add_lines, add_tight, after_all, cons_line, is_within_some, joined, line, pulled, row, tightened}
use Rattle.classifier.specs.Runs.{lines_in}
use Rattle.classifier.specs.declared.join.Join.{Join}
use Rattle.classifier.specs.declared.join.Join.TheVariants.{Union}
use Rattle.classifier.specs.declared.line.Line.{Line}
use Rattle.classifier.specs.declared.run.Run.{Run}
use Rattle.classifier.proofs.AddLemmas.{add_lines_append}
use Rattle.classifier.proofs.HullLemmas.{met_by_neither}

pub lines_in-push : (runs : List Run) (run : Run) → lines_in (runs ++ run ∷ []) ≡ lines_in runs ++ run.lines.now
lines_in-push [] run = append-nil run.lines.now
lines_in-push (r ∷ runs) run = ap (λ xs. r.lines.now ++ xs) (lines_in-push runs run) ∙ sym (append_assoc r.lines.now (lines_in runs) run.lines.now)

-- ---- a cube behind an assignment

has-meet_behind : (a b : Cube) (set : Assign) (h : Headers) → has_option (meet_behind a b set) h ≡ (has a h && has b (apply set h))
has-meet_behind a b set h = go (pull_cube b set) refl
  where
    go : (o : Option Cube) → pull_cube b set ≡ o → has_option (meet_found a o) h ≡ (has a h && has b (apply set h))
    go None e = sym (ap (λ t. has a h && t) (sym (has-pull b set h) ∙ ap (λ o. has_option o h) e) ∙ and-false (has a h))
    go (Some c) e = has-meet a c h ∙ ap (λ t. has a h && t) (sym (ap (λ o. has_option o h) e) ∙ has-pull b set h)

-- what has no headers in common with a cube has none in common with one that lies within it
apart_behind : (x y hull : Cube) (set : Assign) → lies_within_cube y hull ≡ true → meet_behind x hull set ≡ None → meet_behind x y set ≡ None
apart_behind x y hull set inside none = option_ext (meet_behind x y set) None (λ h. has-meet_behind x y set h ∙ apart h)
  where
    apart : (h : Headers) → (has x h && has y (apply set h)) ≡ false
    apart h = elim (cases_Bool (has x h && has y (apply set h))) [
      | inl both ↦
          let parts = and_parts (has x h) (has y (apply set h)) both in
          absurd (false≢true (ap (λ o. has_option o h) (sym none) ∙ has-meet_behind x hull set h ∙ both_true parts.0 (has-within y hull (apply set h) inside parts.1)))
      | inr not_both ↦ not_both
    ]

-- ---- rows of products

cons_line-append : (o : Option Line) (xs ys zs : List Line) → zs ≡ xs ++ ys → cons_line o zs ≡ cons_line o xs ++ ys
cons_line-append None xs ys zs e = e
cons_line-append (Some x) xs ys zs e = ap (λ ws. x ∷ ws) e

pub row-append : (join : Join) (x : Line) (ys zs : List Line) → row join x (ys ++ zs) ≡ row join x ys ++ row join x zs
row-append join x [] zs = refl
row-append join x (y ∷ ys) zs = cons_line-append (option_map (line (joined join x.results y.results)) (meet_cubes x.cube y.cube)) (row join x ys) (row join x zs) _ (row-append join x ys zs)

-- a rule joined with those of a run that has no headers in common with it
pub row_apart : (join : Join) (x : Line) (hull : Cube) (ys : List Line) → holds_each hull ys ≡ true → meet_cubes x.cube hull ≡ None → row join x ys ≡ []
row_apart join x hull [] held none = refl
row_apart join x hull (y ∷ ys) held none =
    let parts = and_parts (lies_within_cube y.cube hull) (holds_each hull ys) held in
    ap (λ o. cons_line (option_map (line (joined join x.results y.results)) o) (row join x ys)) (met_by_neither x.cube y.cube hull parts.0 none) ∙ row_apart join x hull ys parts.1 none

-- the row of a rule with rules behind an assignment
abbrev pub row_behind : Item → Line → List Line → List Line
row_behind first x ys = row Union x (pulled first ys)

pub row_behind-more : (first : Item) (x y : Line) (ys : List Line) → row_behind first x (y ∷ ys) ≡ cons_line (option_map (line (joined Union x.results (after_all first y.results))) (meet_behind x.cube y.cube first.0)) (row_behind first x ys)
row_behind-more first x y ys = go (pull_cube y.cube first.0)
  where
    go : (o : Option Cube) → row Union x (cons_line (option_map (line (after_all first y.results)) o) (pulled first ys)) ≡ cons_line (option_map (line (joined Union x.results (after_all first y.results))) (meet_found x.cube o)) (row_behind first x ys)
    go None = refl
    go (Some c) = refl

-- the step of a loop over the rules behind an assignment
pub row_behind_at : (first : Item) (x : Line) (ys : List Line) (i : ℕ) (y : Line) → i < length ys → y ≡ get_or ys i y → row_behind first x (drop i ys) ≡ cons_line (option_map (line (joined Union x.results (after_all first y.results))) (meet_behind x.cube y.cube first.0)) (row_behind first x (drop (i + 1) ys))
row_behind_at first x ys i y lt at = at_drop_more (row_behind first x) ys i y lt ∙ ap (λ z. row_behind first x (z ∷ drop (i + 1) ys)) (sym at) ∙ row_behind-more first x y (drop (i + 1) ys)

pulled-append : (first : Item) (ys zs : List Line) → pulled first (ys ++ zs) ≡ pulled first ys ++ pulled first zs
pulled-append first [] zs = refl
pulled-append first (y ∷ ys) zs = cons_line-append (option_map (line (after_all first y.results)) (pull_cube y.cube first.0)) (pulled first ys) (pulled first zs) _ (pulled-append first ys zs)

pub row_behind-append : (first : Item) (x : Line) (ys zs : List Line) → row_behind first x (ys ++ zs) ≡ row_behind first x ys ++ row_behind first x zs
row_behind-append first x ys zs = ap (row Union x) (pulled-append first ys zs) ∙ row-append Union x (pulled first ys) (pulled first zs)

pub row_behind_apart : (first : Item) (x : Line) (hull : Cube) (ys : List Line) → holds_each hull ys ≡ true → meet_behind x.cube hull first.0 ≡ None → row_behind first x ys ≡ []
row_behind_apart first x hull [] held none = refl
row_behind_apart first x hull (y ∷ ys) held none =
    let parts = and_parts (lies_within_cube y.cube hull) (holds_each hull ys) held in
    row_behind-more first x y ys
    ∙ ap (λ o. cons_line (option_map (line (joined Union x.results (after_all first y.results))) o) (row_behind first x ys)) (apart_behind x.cube y.cube hull first.0 parts.0 none)
    ∙ row_behind_apart first x hull ys parts.1 none

-- ---- the steps of loops over runs, for what is made of each rule

module _ (f : List Line → List Line) (split : (ys zs : List Line) → f (ys ++ zs) ≡ f ys ++ f zs) (runs : List Run) (i : ℕ) (run : Run) (lt : i < length runs) (at : run ≡ get_or runs i run) where
  made_of_run : f (lines_in (drop i runs)) ≡ f run.lines.now ++ f (lines_in (drop (i + 1) runs))
  made_of_run =
      at_drop_more (λ rs. f (lines_in rs)) runs i run lt ∙ ap (λ r. f (lines_in (r ∷ drop (i + 1) runs))) (sym at) ∙ split run.lines.now (lines_in (drop (i + 1) runs))

  pub run_added : (kept : List Line) → add_lines kept (f (lines_in (drop i runs))) ≡ add_lines (add_lines kept (f run.lines.now)) (f (lines_in (drop (i + 1) runs)))
  run_added kept = ap (add_lines kept) made_of_run ∙ add_lines_append kept (f run.lines.now) (f (lines_in (drop (i + 1) runs)))

  pub run_passed : f run.lines.now ≡ [] → f (lines_in (drop i runs)) ≡ f (lines_in (drop (i + 1) runs))
  run_passed none = made_of_run ∙ ap (λ xs. xs ++ f (lines_in (drop (i + 1) runs))) none

-- ---- rules within earlier ones

inside-append : (xs ys : List Line) (y : Line) → is_within_some (xs ++ ys) y ≡ (is_within_some xs y || is_within_some ys y)
inside-append [] ys y = refl
inside-append (x ∷ xs) ys y = ap (λ t. lies_within_cube y.cube x.cube || t) (inside-append xs ys y) ∙ sym (or_assoc (lies_within_cube y.cube x.cube) (is_within_some xs y) (is_within_some ys y))

-- what lies within one of the rules lies within the cube that holds them
inside_hull : (hull : Cube) (xs : List Line) (y : Line) → holds_each hull xs ≡ true → is_within_some xs y ≡ true → lies_within_cube y.cube hull ≡ true
inside_hull hull [] y held inside = absurd (false≢true inside)
inside_hull hull (x ∷ xs) y held inside =
    let parts = and_parts (lies_within_cube x.cube hull) (holds_each hull xs) held in
    elim (or_cases (lies_within_cube y.cube x.cube) (is_within_some xs y) inside) [
      | inl first ↦ within_trans y.cube x.cube hull first parts.0
      | inr later ↦ inside_hull hull xs y parts.1 later
    ]

pub outside_hull : (hull : Cube) (xs : List Line) (y : Line) → holds_each hull xs ≡ true → lies_within_cube y.cube hull ≡ false → is_within_some xs y ≡ false
outside_hull hull xs y held outside = elim (cases_Bool (is_within_some xs y)) [
  | inl inside ↦ absurd (false≢true (sym outside ∙ inside_hull hull xs y held inside))
  | inr none ↦ none
]

-- the step of a loop that looks through the runs
pub inside_runs : (runs : List Run) (i : ℕ) (run : Run) (y : Line) → i < length runs → run ≡ get_or runs i run → is_within_some (lines_in (drop i runs)) y ≡ (is_within_some run.lines.now y || is_within_some (lines_in (drop (i + 1) runs)) y)
inside_runs runs i run y lt at =
    at_drop_more (λ rs. is_within_some (lines_in rs) y) runs i run lt ∙ ap (λ r. is_within_some (lines_in (r ∷ drop (i + 1) runs)) y) (sym at)
    ∙ inside-append run.lines.now (lines_in (drop (i + 1) runs)) y

inside_through : (xs : List Line) (x y : Line) → is_within_some xs x ≡ true → lies_within_cube y.cube x.cube ≡ true → is_within_some xs y ≡ true
inside_through [] x y inside within = absurd (false≢true inside)
inside_through (z ∷ xs) x y inside within = elim (or_cases (lies_within_cube x.cube z.cube) (is_within_some xs x) inside) [
  | inl first ↦ ap (λ t. t || is_within_some xs y) (within_trans y.cube x.cube z.cube within first)
  | inr later ↦ ap (λ t. lies_within_cube y.cube z.cube || t) (inside_through xs x y later within) ∙ or-true (lies_within_cube y.cube z.cube)
]

inside-add_tight : (xs : List Line) (x y : Line) → is_within_some (add_tight xs x) y ≡ (is_within_some xs y || lies_within_cube y.cube x.cube)
inside-add_tight xs x y = elim (cases_Bool (is_within_some xs x)) [
  | inl hidden ↦ rw hidden (absorbed (is_within_some xs y) (lies_within_cube y.cube x.cube) (inside_through xs x y hidden))
  | inr reached ↦ rw reached (inside-append xs (x ∷ []) y ∙ ap (λ t. is_within_some xs y || t) (or-false (lies_within_cube y.cube x.cube)))
]
  where
    absorbed : (a b : Bool) → (b ≡ true → a ≡ true) → a ≡ (a || b)
    absorbed true b h = refl
    absorbed false true h = h refl
    absorbed false false h = refl

-- what lies within one of the rules lies within one that is kept
pub inside-tightened : (kept xs : List Line) (y : Line) → is_within_some (tightened kept xs) y ≡ (is_within_some kept y || is_within_some xs y)
inside-tightened kept [] y = sym (or-false (is_within_some kept y))
inside-tightened kept (x ∷ xs) y =
    inside-tightened (add_tight kept x) xs y ∙ ap (λ t. t || is_within_some xs y) (inside-add_tight kept x y)
    ∙ or_assoc (is_within_some kept y) (lies_within_cube y.cube x.cube) (is_within_some xs y)

tightened-append : (kept xs ys : List Line) → tightened kept (xs ++ ys) ≡ tightened (tightened kept xs) ys
tightened-append kept [] ys = refl
tightened-append kept (x ∷ xs) ys = tightened-append (add_tight kept x) xs ys

-- a rule behind those of some runs and of the front of another: it is put last exactly where none of them holds it
pub tightened-push : (front run : List Line) (y : Line) → tightened [] (front ++ run ++ y ∷ []) ≡ cond (is_within_some front y || is_within_some run y) (tightened [] (front ++ run)) (tightened [] (front ++ run) ++ y ∷ [])
tightened-push front run y =
    let all : List Line = front ++ run in
    tightened-append [] all (y ∷ [])
    ∙ ap (λ t. cond t (tightened [] all) (tightened [] all ++ y ∷ [])) (inside-tightened [] all y ∙ inside-append front run y)
