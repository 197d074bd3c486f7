-- Cubes that are closed under meets stay so when they are cut by one more.
use Rattle.std.proofs.Common.{◌≡◌, Bool, true, false, ◌&&◌, cond, Option, Some, None, Result, Ok, Err, List, [], ◌∷◌, ◌++◌, refl, inl, inr, sym, ap, ◌∙◌, subst}
use Rattle.std.specs.List.{list_any}
use Rattle.std.specs.Result.{OnOk}
use Rattle.std.specs.HashSet.{contains, IsUnchanged, Updates}
use Rattle.std.proofs.lemmas.Bool.{cases_Bool}
use Rattle.net_types.specs.declared.cube.Cube.{Cube}
use Rattle.net_types.specs.Cubes.{has, meet_cubes, lies_within_cube}
use Rattle.net_types.specs.Meets.{cons_some}
use Rattle.net_types.specs.Sets.{Member}
use Rattle.net_types.proofs.SetLemmas
use Rattle.net_types.proofs.CubeLemmas.{has-meet, has-within, option_ext}
use Rattle.net_types.proofs.MeetLemmas.{IsMeet-member, IsMeet-append_left}
use Rattle.classifier.specs.Seen.{Cubes, cube_eq}
use Rattle.classifier.proofs.SeenLemmas.{cube_eq_exact}
use Rattle.cells.specs.Adds.{adds}
use Rattle.cells.specs.Cells.{first_of, AreCells, AreMeets, IsClosed, met_by, outside, cut}
use Rattle.cells.specs.Known.{AreAmong}
use Rattle.cells.proofs.AddsLemmas.{cubes-same}
use Rattle.cells.proofs.CellLemmas.{cells-more, within-meet}

-- ---- closed cubes

pub closed-none : IsClosed []
closed-none h a k t = elim k [ ]

-- closed cubes are the cells of themselves
pub cells-own : (xs : List Cube) → IsClosed xs → AreCells xs xs
cells-own xs f = record { narrow = f; meets = λ x k. IsMeet-member xs x k }

-- cells are closed
pub cells-closed : (atoms xs : List Cube) → AreCells atoms xs → IsClosed xs
cells-closed atoms xs f h a k t = within-meet atoms (first_of xs h) a h (f.narrow h) (f.meets a k) t

pub cut-closed : (xs : List Cube) (c : Cube) → IsClosed xs → IsClosed (cut c xs)
cut-closed xs c f = cells-closed (xs ++ c ∷ []) (cut c xs) (cells-more xs xs c (cells-own xs f))

-- ---- which cubes there are

-- a cube that lies within another is their meet
meet-inner : (c a : Cube) → lies_within_cube a c ≡ true → meet_cubes c a ≡ Some a
meet-inner c a inside = option_ext (meet_cubes c a) (Some a) (λ h. has-meet c a h ∙ of (has a h) (has c h) (λ t. has-within a c h inside t))
  where
    of : (x y : Bool) → (x ≡ true → y ≡ true) → (y && x) ≡ x
    of true y f = ap (λ b. b && true) (f refl)
    of false true f = refl
    of false false f = refl

met-there : (c a d : Cube) (xs : List Cube) → Member a xs → meet_cubes c a ≡ Some d → Member d (met_by c xs)
met-there c a d [] k e = elim k [ ]
met-there c a d (x ∷ xs) (inl same) e = subst (λ o. Member d (cons_some o (met_by c xs))) (sym (ap (meet_cubes c) (sym same) ∙ e)) (inl refl)
met-there c a d (x ∷ xs) (inr k) e = later (meet_cubes c x) (met-there c a d xs k e)
  where
    later : (o : Option Cube) → Member d (met_by c xs) → Member d (cons_some o (met_by c xs))
    later None m = m
    later (Some y) m = inr m

outside-there : (c a : Cube) (xs : List Cube) → lies_within_cube a c ≡ false → Member a xs → Member a (outside c xs)
outside-there c a [] f k = elim k [ ]
outside-there c a (x ∷ xs) f (inl same) =
    subst (λ b. Member a (cond b (outside c xs) (x ∷ outside c xs))) (sym (ap (λ y. lies_within_cube y c) (sym same) ∙ f)) (inl same)
outside-there c a (x ∷ xs) f (inr k) = later (lies_within_cube x c) (outside-there c a xs f k)
  where
    later : (b : Bool) → Member a (outside c xs) → Member a (cond b (outside c xs) (x ∷ outside c xs))
    later true m = m
    later false m = inr m

-- the cube itself
pub cut-there : (c : Cube) (xs : List Cube) → Member c (cut c xs)
cut-there c xs =
    let kept = adds cube_eq [] (met_by c xs) in
    SetLemmas.Member-append_left (adds cube_eq kept (c ∷ [])) (outside c xs) c ((cubes-same kept (c ∷ [])).back c (SetLemmas.Member-append_right kept (c ∷ []) c (inl refl)))

-- each cube that was there: one within the new cube is its meet with it
pub cut-kept : (c : Cube) (xs : List Cube) (a : Cube) → Member a xs → Member a (cut c xs)
cut-kept c xs a k =
    let kept = adds cube_eq [] (met_by c xs) in
    let all = adds cube_eq kept (c ∷ []) in
    elim (cases_Bool (lies_within_cube a c)) [
      | inl inside ↦ SetLemmas.Member-append_left all (outside c xs) a ((cubes-same kept (c ∷ [])).back a (SetLemmas.Member-append_left kept (c ∷ []) a
          ((cubes-same [] (met_by c xs)).back a (met-there c a a xs k (meet-inner c a inside)))))
      | inr beyond ↦ SetLemmas.Member-append_right all (outside c xs) a (outside-there c a xs beyond k)
    ]

-- meets of some atoms are meets of them and one more
pub meets-wider : (c : Cube) (xs atoms : List Cube) → AreMeets atoms xs → AreMeets (atoms ++ c ∷ []) xs
meets-wider c xs atoms f x k = IsMeet-append_left atoms (c ∷ []) x (f x k)

-- ---- what a set knows

-- where there are more cubes the set still knows some of them
pub among-more : (known : Cubes) (xs ys : List Cube) → ((a : Cube) → Member a xs → Member a ys) → AreAmong known xs → AreAmong known ys
among-more known xs ys more f c k = more c (f c k)

-- a set with the same keys
pub among-kept : (known new : Cubes) (xs : List Cube) → IsUnchanged known new → AreAmong known xs → AreAmong new xs
among-kept known new xs same f c k = f c (ap (list_any (cube_eq c)) (sym same) ∙ k)

-- one of them put into the set
pub among-put : (known new : Cubes) (xs : List Cube) (c : Cube) → Updates cube_eq known new c true → Member c xs → AreAmong known xs → AreAmong new xs
among-put known new xs c updates there f d k = elim (cases_Bool (cube_eq c d)) [
  | inl same ↦ subst (λ x. Member x xs) (cube_eq_exact c d same) there
  | inr apart ↦ f d (sym (updates.0 d ∙ ap (λ b. cond b true (contains cube_eq known d)) apart) ∙ k)
]

-- what holds anyhow holds where there is a value
pub ok-from : {A E : Type 0} (r : Result A E) (P : Type 0) → P → OnOk r P
ok-from (Ok x) P p = p
ok-from (Err e) P p = tt
