-- What the lists of the operations decide for headers.
use Rattle.std.proofs.Common.{◌≡◌, Bool, true, false, ◌&&◌, cond, Option, Some, None, unwrap_or, List, [], ◌∷◌, ◌++◌, map, refl, inl, inr, sym, ap, ◌∙◌, subst}
use Rattle.std.specs.Option.{option_map, option_or}
use Rattle.std.proofs.lemmas.Bool.{cases_Bool, or_cases, and_parts, false≢true}
use Rattle.std.proofs.lemmas.List.{append-nil}
use Rattle.net_types.specs.declared.cube.Cube.{Cube}
use Rattle.net_types.specs.declared.headers.Headers.{Headers}
use Rattle.net_types.specs.Headers.{apply}
use Rattle.net_types.specs.Cubes.{has, everything, meet_cubes, pull_cube, lies_within_cube}
use Rattle.net_types.specs.Sets.{Member, SameMembers, union_over}
use Rattle.net_types.proofs.CubeLemmas.{has_option, has-meet, has-pull, has-within, has-everything}
use Rattle.net_types.proofs.FindLemmas.{cond_same}
use Rattle.net_types.proofs.SetLemmas
use Rattle.classifier.specs.declared.line.Line.{Line}
use Rattle.classifier.specs.declared.join.Join.{Join}
use Rattle.classifier.specs.declared.join.Join.TheVariants.{Union}
use Rattle.classifier.specs.Items.{Item, is_among, add, add_all}
use Rattle.classifier.specs.Lines.{same_cube, shadows, is_shadowed, add_line, add_lines, joined, line, cons_line, row, product, after, after_all, pulled, block, composed}
use Rattle.classifier.specs.Meaning.{given, ends_with_everything, decide}
use Rattle.classifier.proofs.ItemLemmas.{among-member, Member-push}

-- ---- options

pub or_none : {A : Type 0} (o : Option A) → option_or o None ≡ o
or_none (Some x) = refl
or_none None = refl

pub or_assoc : {A : Type 0} (a b c : Option A) → option_or (option_or a b) c ≡ option_or a (option_or b c)
or_assoc (Some x) b c = refl
or_assoc None b c = refl

map_id : {A : Type 0} (f : A → A) → ((x : A) → f x ≡ x) → (o : Option A) → option_map f o ≡ o
map_id f same (Some x) = ap Some (same x)
map_id f same None = refl

-- ---- added lines

pub decide-append : (xs ys : List Line) (h : Headers) → decide (xs ++ ys) h ≡ option_or (decide xs h) (decide ys h)
decide-append [] ys h = refl
decide-append (x ∷ xs) ys h = elim (cases_Bool (has x.cube h)) [
  | inl inside ↦ rw inside refl
  | inr outside ↦ rw outside (decide-append xs ys h)
]

-- a line that shadows another has its headers
shadows-has : (x y : Line) (h : Headers) → shadows x y ≡ true → has y.cube h ≡ true → has x.cube h ≡ true
shadows-has x y h s inside = elim (or_cases (same_cube x.cube y.cube) (lies_within_cube everything x.cube) s) [
  | inl same ↦ has-within y.cube x.cube h (and_parts (lies_within_cube x.cube y.cube) (lies_within_cube y.cube x.cube) same).1 inside
  | inr all ↦ has-within everything x.cube h all (has-everything h)
]

shadowed-decided : (xs : List Line) (y : Line) (h : Headers) (o : Option (List Item)) → is_shadowed xs y ≡ true → has y.cube h ≡ true → decide xs h ≡ option_or (decide xs h) o
shadowed-decided [] y h o s inside = absurd (false≢true s)
shadowed-decided (x ∷ xs) y h o s inside = elim (cases_Bool (has x.cube h)) [
  | inl here ↦ rw here refl
  | inr apart ↦ rw apart (elim (or_cases (shadows x y) (is_shadowed xs y) s) [
    | inl by_x ↦ absurd (false≢true (sym apart ∙ shadows-has x y h by_x inside))
    | inr by_xs ↦ shadowed-decided xs y h o by_xs inside
  ])
]

pub decide-add_line : (xs : List Line) (y : Line) (h : Headers) → decide (add_line xs y) h ≡ option_or (decide xs h) (decide (y ∷ []) h)
decide-add_line xs y h = elim (cases_Bool (is_shadowed xs y)) [
  | inl hidden ↦ rw hidden (elim (cases_Bool (has y.cube h)) [
    | inl inside ↦ shadowed-decided xs y h (decide (y ∷ []) h) hidden inside
    | inr outside ↦ rw outside (sym (or_none (decide xs h)))
  ])
  | inr reached ↦ rw reached (decide-append xs (y ∷ []) h)
]

pub decide-add_lines : (xs ys : List Line) (h : Headers) → decide (add_lines xs ys) h ≡ option_or (decide xs h) (decide ys h)
decide-add_lines xs [] h = sym (or_none (decide xs h))
decide-add_lines xs (y ∷ ys) h =
    decide-add_lines (add_line xs y) ys h ∙ ap (λ o. option_or o (decide ys h)) (decide-add_line xs y h)
    ∙ or_assoc (decide xs h) (decide (y ∷ []) h) (decide ys h) ∙ ap (option_or (decide xs h)) (sym (decide-append (y ∷ []) ys h))

-- ---- lines that are made where a cube is there

decide-cons_line : (o : Option Cube) (items : List Item) (xs : List Line) (h : Headers) → decide (cons_line (option_map (line items) o) xs) h ≡ cond (has_option o h) (Some items) (decide xs h)
decide-cons_line None items xs h = refl
decide-cons_line (Some c) items xs h = refl

row_step : (in_x in_y : Bool) (f : List Item → List Item) (items : List Item) (rest : Option (List Item)) → cond (in_x && in_y) (Some (f items)) (cond in_x (option_map f rest) None) ≡ cond in_x (option_map f (cond in_y (Some items) rest)) None
row_step true true f items rest = refl
row_step true false f items rest = refl
row_step false in_y f items rest = refl

pub decide-row : (join : Join) (x : Line) (ys : List Line) (h : Headers) → decide (row join x ys) h ≡ cond (has x.cube h) (option_map (joined join x.results) (decide ys h)) None
decide-row join x [] h = sym (cond_same (has x.cube h) None)
decide-row join x (y ∷ ys) h =
    decide-cons_line (meet_cubes x.cube y.cube) (joined join x.results y.results) (row join x ys) h
    ∙ rw (has-meet x.cube y.cube h, decide-row join x ys h) (row_step (has x.cube h) (has y.cube h) (joined join x.results) y.results (decide ys h))

-- where the second list gives something, the product gives it joined with what the first gives
pub decide-product : (join : Join) (xs ys : List Line) (h : Headers) (items : List Item) → decide ys h ≡ Some items → decide (product join xs ys) h ≡ option_map (λ first. joined join first items) (decide xs h)
decide-product join [] ys h items e = refl
decide-product join (x ∷ xs) ys h items e =
    decide-append (row join x ys) (product join xs ys) h
    ∙ rw (decide-row join x ys h, decide-product join xs ys h items e, e) (elim (cases_Bool (has x.cube h)) [
      | inl here ↦ rw here refl
      | inr apart ↦ rw apart refl
    ])

pub decide-pulled : (first : Item) (ys : List Line) (h : Headers) → decide (pulled first ys) h ≡ option_map (after_all first) (decide ys (apply first.0 h))
decide-pulled first [] h = refl
decide-pulled first (y ∷ ys) h =
    decide-cons_line (pull_cube y.cube first.0) (after_all first y.results) (pulled first ys) h
    ∙ rw (has-pull y.cube first.0 h, decide-pulled first ys h) (elim (cases_Bool (has y.cube (apply first.0 h))) [
      | inl here ↦ rw here refl
      | inr apart ↦ rw apart refl
    ])

-- ---- lists that give something to all headers

pub record Given (xs : List Line) (h : Headers) : Type 0 where
  pub items : List Item
  pub is : decide xs h ≡ Some items

pub total : (xs : List Line) → ends_with_everything xs ≡ true → (h : Headers) → Given xs h
total [] e h = absurd (false≢true e)
total (x ∷ []) e h = record { items = x.results; is = ap (λ b. cond b (Some x.results) None) (has-within everything x.cube h e (has-everything h)) }
total (x ∷ (y ∷ ys)) e h = elim (cases_Bool (has x.cube h)) [
  | inl here ↦ record { items = x.results; is = rw here refl }
  | inr apart ↦ let g = total (y ∷ ys) e h in record { items = g.items; is = rw apart g.is }
]

pub given_is : (xs : List Line) (h : Headers) (g : Given xs h) → decide xs h ≡ Some (given xs h)
given_is xs h g = g.is ∙ ap (λ o. Some (unwrap_or o [])) (sym g.is)

-- what the lines give after each of the items, beside what is there
abbrev pub gathered : List Line → Headers → List Item → List Item → List Item
gathered ys h items [] = items
gathered ys h items (first ∷ rest) = gathered ys h (add_all items (after_all first (given ys (apply first.0 h)))) rest

pub map_twice : {A B C : Type 0} (f : B → C) (g : A → B) (o : Option A) → option_map f (option_map g o) ≡ option_map (λ x. f (g x)) o
map_twice f g (Some x) = refl
map_twice f g None = refl

module _ (ys : List Line) (all : (h : Headers) → Given ys h) where
  pub decide-block : (xs : List Line) (items : List Item) (h : Headers) → decide (block xs items ys) h ≡ option_map (λ there. gathered ys h there items) (decide xs h)
  decide-block xs [] h = sym (map_id (λ there. there) (λ _. refl) (decide xs h))
  decide-block xs (first ∷ rest) h =
      let behind : decide (pulled first ys) h ≡ Some (after_all first (given ys (apply first.0 h))) =
      decide-pulled first ys h ∙ ap (option_map (after_all first)) (given_is ys (apply first.0 h) (all (apply first.0 h))) in
      decide-block (add_lines [] (product Union xs (pulled first ys))) rest h
      ∙ ap (option_map (λ there. gathered ys h there rest)) (decide-add_lines [] (product Union xs (pulled first ys)) h ∙ decide-product Union xs (pulled first ys) h (after_all first (given ys (apply first.0 h))) behind)
      ∙ map_twice (λ there. gathered ys h there rest) (λ there. add_all there (after_all first (given ys (apply first.0 h)))) (decide xs h)

  pub decide-composed : (xs : List Line) (h : Headers) → decide (composed xs ys) h ≡ option_map (gathered ys h []) (decide xs h)
  decide-composed [] h = refl
  decide-composed (x ∷ xs) h =
      decide-append (block (line [] x.cube ∷ []) x.results ys) (composed xs ys) h
      ∙ rw (decide-block (line [] x.cube ∷ []) x.results h, decide-composed xs h) (elim (cases_Bool (has x.cube h)) [
        | inl here ↦ rw here refl
        | inr apart ↦ rw apart refl
      ])

-- ---- as sets

same_add : (xs : List Item) (y : Item) → SameMembers (add xs y) (xs ++ y ∷ [])
same_add xs y = elim (cases_Bool (is_among xs y)) [
  | inl there ↦ subst (λ b. SameMembers (cond b xs (xs ++ y ∷ [])) (xs ++ y ∷ [])) (sym there) (record {
    onto = λ z h. SetLemmas.Member-append_left xs (y ∷ []) z h;
    back = λ z h. elim (Member-push xs y z h) [ inl k ↦ k | inr e ↦ subst (λ w. Member w xs) (sym e) (among-member xs y there) ];
  })
  | inr absent ↦ subst (λ b. SameMembers (cond b xs (xs ++ y ∷ [])) (xs ++ y ∷ [])) (sym absent) (SetLemmas.same_refl (xs ++ y ∷ []))
]

append_assoc : {A : Type 0} (xs ys zs : List A) → (xs ++ ys) ++ zs ≡ xs ++ (ys ++ zs)
append_assoc [] ys zs = refl
append_assoc (x ∷ xs) ys zs = ap (λ ws. x ∷ ws) (append_assoc xs ys zs)

pub same_add_all : (xs ys : List Item) → SameMembers (add_all xs ys) (xs ++ ys)
same_add_all xs [] = SetLemmas.same_eq (sym (append-nil xs))
same_add_all xs (y ∷ ys) =
    SetLemmas.same_trans (same_add_all (add xs y) ys) (SetLemmas.same_trans (SetLemmas.same_append (same_add xs y) (SetLemmas.same_refl ys)) (SetLemmas.same_eq (append_assoc xs (y ∷ []) ys)))

pub same_gathered : (ys : List Line) (h : Headers) (items rest : List Item) → SameMembers (gathered ys h items rest) (items ++ union_over (λ first. map (after first) (given ys (apply first.0 h))) rest)
same_gathered ys h items [] = SetLemmas.same_eq (sym (append-nil items))
same_gathered ys h items (first ∷ rest) =
    let next = map (after first) (given ys (apply first.0 h)) in
    let others = union_over (λ first. map (after first) (given ys (apply first.0 h))) rest in
    SetLemmas.same_trans (same_gathered ys h (add_all items (after_all first (given ys (apply first.0 h)))) rest)
    (SetLemmas.same_trans (SetLemmas.same_append (SetLemmas.same_trans (same_add_all items (add_all [] next)) (SetLemmas.same_append (SetLemmas.same_refl items) (same_add_all [] next))) (SetLemmas.same_refl others))
    (SetLemmas.same_eq (append_assoc items next others)))
