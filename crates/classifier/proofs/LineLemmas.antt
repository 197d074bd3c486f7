-- What holds of each line of the lists of the operations, and that the cube of everything stands in them.
use Rattle.std.proofs.Common.{◌≡◌, cond, Option, Some, None, List, [], ◌∷◌, ◌++◌, refl, inl, inr, sym, ap, ◌∙◌, subst}
use Rattle.std.specs.Option.{option_map}
use Rattle.std.proofs.lemmas.Bool.{cases_Bool}
use Rattle.net_types.specs.declared.cube.Cube.{Cube}
use Rattle.net_types.specs.Cubes.{everything, meet_cubes, pull_cube}
use Rattle.net_types.specs.Sets.{Member}
use Rattle.net_types.proofs.CubeLemmas.{meet_same, pull-everything}
use Rattle.net_types.proofs.SetLemmas
use Rattle.classifier.specs.declared.line.Line.{Line}
use Rattle.classifier.specs.declared.join.Join.{Join}
use Rattle.classifier.specs.declared.join.Join.TheVariants.{Union}
use Rattle.classifier.specs.Items.{Item, add_all}
use Rattle.classifier.specs.Lines.{is_shadowed, add_line, add_lines, joined, line, cons_line, row, product, after_all, pulled, block, composed}
use Rattle.classifier.specs.Meaning.{cubes_of}
use Rattle.classifier.proofs.ShapeLemmas.{everything-add_lines}

-- ---- the cube of everything stays

cons-here : (o : Option Cube) (items : List Item) (xs : List Line) (c : Cube) → o ≡ Some c → Member c (cubes_of (cons_line (option_map (line items) o) xs))
cons-here o items xs c e = subst (λ p. Member c (cubes_of (cons_line (option_map (line items) p) xs))) (sym e) (inl refl)

cons-later : (o : Option Cube) (items : List Item) (xs : List Line) (c : Cube) → Member c (cubes_of xs) → Member c (cubes_of (cons_line (option_map (line items) o) xs))
cons-later None items xs c h = h
cons-later (Some d) items xs c h = inr h

everything_met : (c d : Cube) → everything ≡ c → everything ≡ d → meet_cubes c d ≡ Some everything
everything_met c d e f = ap (λ x. meet_cubes x d) (sym e) ∙ ap (meet_cubes everything) (sym f) ∙ meet_same everything

row-everything : (join : Join) (x : Line) (ys : List Line) → everything ≡ x.cube → Member everything (cubes_of ys) → Member everything (cubes_of (row join x ys))
row-everything join x [] e h = elim h [ ]
row-everything join x (y ∷ ys) e (inl f) = cons-here (meet_cubes x.cube y.cube) (joined join x.results y.results) (row join x ys) everything (everything_met x.cube y.cube e f)
row-everything join x (y ∷ ys) e (inr h) = cons-later (meet_cubes x.cube y.cube) (joined join x.results y.results) (row join x ys) everything (row-everything join x ys e h)

pub product-everything : (join : Join) (xs ys : List Line) → Member everything (cubes_of xs) → Member everything (cubes_of ys) → Member everything (cubes_of (product join xs ys))
product-everything join [] ys h k = elim h [ ]
product-everything join (x ∷ xs) ys (inl e) k = subst (Member everything) (sym (SetLemmas.map-append (λ z. z.cube) (row join x ys) (product join xs ys)))
    (SetLemmas.Member-append_left (cubes_of (row join x ys)) (cubes_of (product join xs ys)) everything (row-everything join x ys e k))
product-everything join (x ∷ xs) ys (inr h) k = subst (Member everything) (sym (SetLemmas.map-append (λ z. z.cube) (row join x ys) (product join xs ys)))
    (SetLemmas.Member-append_right (cubes_of (row join x ys)) (cubes_of (product join xs ys)) everything (product-everything join xs ys h k))

pulled-everything : (first : Item) (ys : List Line) → Member everything (cubes_of ys) → Member everything (cubes_of (pulled first ys))
pulled-everything first [] h = elim h [ ]
pulled-everything first (y ∷ ys) (inl e) = cons-here (pull_cube y.cube first.0) (after_all first y.results) (pulled first ys) everything (ap (λ c. pull_cube c first.0) (sym e) ∙ pull-everything first.0)
pulled-everything first (y ∷ ys) (inr h) = cons-later (pull_cube y.cube first.0) (after_all first y.results) (pulled first ys) everything (pulled-everything first ys h)

block-everything : (xs : List Line) (items : List Item) (ys : List Line) → Member everything (cubes_of xs) → Member everything (cubes_of ys) → Member everything (cubes_of (block xs items ys))
block-everything xs [] ys h k = h
block-everything xs (first ∷ rest) ys h k =
    block-everything (add_lines [] (product Union xs (pulled first ys))) rest ys (everything-add_lines [] (product Union xs (pulled first ys)) (product-everything Union xs (pulled first ys) h (pulled-everything first ys k))) k

pub composed-everything : (xs ys : List Line) → Member everything (cubes_of xs) → Member everything (cubes_of ys) → Member everything (cubes_of (composed xs ys))
composed-everything [] ys h k = elim h [ ]
composed-everything (x ∷ xs) ys (inl e) k = subst (Member everything) (sym (SetLemmas.map-append (λ z. z.cube) (block (line [] x.cube ∷ []) x.results ys) (composed xs ys)))
    (SetLemmas.Member-append_left (cubes_of (block (line [] x.cube ∷ []) x.results ys)) (cubes_of (composed xs ys)) everything (block-everything (line [] x.cube ∷ []) x.results ys (inl e) k))
composed-everything (x ∷ xs) ys (inr h) k = subst (Member everything) (sym (SetLemmas.map-append (λ z. z.cube) (block (line [] x.cube ∷ []) x.results ys) (composed xs ys)))
    (SetLemmas.Member-append_right (cubes_of (block (line [] x.cube ∷ []) x.results ys)) (cubes_of (composed xs ys)) everything (composed-everything xs ys h k))

-- ---- what holds of each line

abbrev pub EachLine : (Line → Type 0) → List Line → Type 0
EachLine P xs = (z : Line) → Member z xs → P z

module _ (P : Line → Type 0) where
  pub each-append : (xs ys : List Line) → EachLine P xs → EachLine P ys → EachLine P (xs ++ ys)
  each-append xs ys f g = λ z h. elim (SetLemmas.Member-append_cases xs ys z h) [ inl k ↦ f z k | inr k ↦ g z k ]

  each-one : (y : Line) → P y → EachLine P (y ∷ [])
  each-one y p = λ z h. elim h [ inl e ↦ subst P (sym e) p | inr none ↦ elim none [ ] ]

  each-add_line : (xs : List Line) (y : Line) → EachLine P xs → P y → EachLine P (add_line xs y)
  each-add_line xs y f p = elim (cases_Bool (is_shadowed xs y)) [
    | inl hidden ↦ subst (λ b. EachLine P (cond b xs (xs ++ y ∷ []))) (sym hidden) f
    | inr reached ↦ subst (λ b. EachLine P (cond b xs (xs ++ y ∷ []))) (sym reached) (each-append xs (y ∷ []) f (each-one y p))
  ]

  pub each-add_lines : (xs ys : List Line) → EachLine P xs → EachLine P ys → EachLine P (add_lines xs ys)
  each-add_lines xs [] f g = f
  each-add_lines xs (y ∷ ys) f g = each-add_lines (add_line xs y) ys (each-add_line xs y f (g y (inl refl))) (λ z h. g z (inr h))

  each-cons : (o : Option Cube) (items : List Item) (xs : List Line) → ((c : Cube) → o ≡ Some c → P (line items c)) → EachLine P xs → EachLine P (cons_line (option_map (line items) o) xs)
  each-cons None items xs p f = f
  each-cons (Some c) items xs p f = λ z h. elim h [ inl e ↦ subst P (sym e) (p c refl) | inr k ↦ f z k ]

  each-row : (join : Join) (x : Line) (ys : List Line) → ((y : Line) (c : Cube) → Member y ys → meet_cubes x.cube y.cube ≡ Some c → P (line (joined join x.results y.results) c)) → EachLine P (row join x ys)
  each-row join x [] p = λ z h. elim h [ ]
  each-row join x (y ∷ ys) p = each-cons (meet_cubes x.cube y.cube) (joined join x.results y.results) (row join x ys) (λ c e. p y c (inl refl) e) (each-row join x ys (λ w c h e. p w c (inr h) e))

  pub each-product : (join : Join) (xs ys : List Line) → ((x y : Line) (c : Cube) → Member x xs → Member y ys → meet_cubes x.cube y.cube ≡ Some c → P (line (joined join x.results y.results) c)) → EachLine P (product join xs ys)
  each-product join [] ys p = λ z h. elim h [ ]
  each-product join (x ∷ xs) ys p = each-append (row join x ys) (product join xs ys) (each-row join x ys (λ y c h e. p x y c (inl refl) h e)) (each-product join xs ys (λ w y c h k e. p w y c (inr h) k e))

each-pulled : (P : Line → Type 0) (first : Item) (ys : List Line) → ((y : Line) (c : Cube) → Member y ys → pull_cube y.cube first.0 ≡ Some c → P (line (after_all first y.results) c)) → EachLine P (pulled first ys)
each-pulled P first [] p = λ z h. elim h [ ]
each-pulled P first (y ∷ ys) p = each-cons P (pull_cube y.cube first.0) (after_all first y.results) (pulled first ys) (λ c e. p y c (inl refl) e) (each-pulled P first ys (λ w c h e. p w c (inr h) e))

-- a fact that lasts where a line is joined with one behind an assignment
each-block : (P Q : Line → Type 0) (xs : List Line) (items : List Item) (ys : List Line)
    → ((z w : Line) (c : Cube) → P z → Q w → meet_cubes z.cube w.cube ≡ Some c → P (line (add_all z.results w.results) c))
    → ((first : Item) (y : Line) (c : Cube) → Member first items → Member y ys → pull_cube y.cube first.0 ≡ Some c → Q (line (after_all first y.results) c))
    → EachLine P xs → EachLine P (block xs items ys)
each-block P Q xs [] ys step behind_first f = f
each-block P Q xs (first ∷ rest) ys step behind_first f =
    each-block P Q (add_lines [] (product Union xs (pulled first ys))) rest ys step (λ i y c h k e. behind_first i y c (inr h) k e)
    (each-add_lines P [] (product Union xs (pulled first ys)) (λ z h. elim h [ ])
    (each-product P Union xs (pulled first ys) (λ z w c h k e. step z w c (f z h) (each-pulled Q first ys (λ y d stands pulls. behind_first first y d (inl refl) stands pulls) w k) e)))

pub each-composed : (P Q : Line → Type 0) (xs ys : List Line)
    → ((z w : Line) (c : Cube) → P z → Q w → meet_cubes z.cube w.cube ≡ Some c → P (line (add_all z.results w.results) c))
    → ((x : Line) (first : Item) (y : Line) (c : Cube) → Member x xs → Member first x.results → Member y ys → pull_cube y.cube first.0 ≡ Some c → Q (line (after_all first y.results) c))
    → ((x : Line) → Member x xs → P (line [] x.cube))
    → EachLine P (composed xs ys)
each-composed P Q [] ys step behind_first start = λ z h. elim h [ ]
each-composed P Q (x ∷ xs) ys step behind_first start =
    each-append P (block (line [] x.cube ∷ []) x.results ys) (composed xs ys)
    (each-block P Q (line [] x.cube ∷ []) x.results ys step (λ i y c h k e. behind_first x i y c (inl refl) h k e) (each-one P (line [] x.cube) (start x (inl refl))))
    (each-composed P Q xs ys step (λ w i y c s h k e. behind_first w i y c (inr s) h k e) (λ w h. start w (inr h)))
