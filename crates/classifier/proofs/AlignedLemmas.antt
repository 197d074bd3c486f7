-- Lines of two lists with the same cubes, joined one by one.
use Rattle.std.proofs.Common.{◌≡◌, ◌<◌, ◌+◌, ℕ, List, [], ◌∷◌, ◌++◌, map, length, drop, refl, inl, inr, sym, ap, ◌∙◌, subst}
use Rattle.std.proofs.Common.{slice_index_or as get_or}
use Rattle.std.proofs.lemmas.Bool.{cases_Bool}
use Rattle.std.proofs.lemmas.List.{drop_more, length-map}
use Rattle.net_types.specs.declared.headers.Assign.{Assign}
use Rattle.net_types.specs.declared.headers.Headers.{Headers}
use Rattle.net_types.specs.declared.headers.Loc.{Loc}
use Rattle.net_types.specs.Cubes.{has}
use Rattle.net_types.specs.Sets.{Member, SameMembers}
use Rattle.net_types.proofs.SetLemmas
use Rattle.classifier.specs.declared.line.Line.{Line}
use Rattle.classifier.specs.declared.join.Join.TheVariants.{Union}
use Rattle.classifier.specs.Items.{Item, add_all}
use Rattle.classifier.specs.Lines.{aligned, line}
use Rattle.classifier.specs.Meaning.{cubes_of, assigns_of, ends_with_everything, given, carried, meaning}
use Rattle.classifier.proofs.DecideLemmas.{same_add_all}
use Rattle.classifier.proofs.LineLemmas.{EachLine}
use Rattle.classifier.proofs.ResultLemmas.{assign-stands, each-assign, joined-cases}

pub aligned-length : (xs ys : List Line) → cubes_of xs ≡ cubes_of ys → length xs ≡ length ys
aligned-length xs ys e = sym (length-map xs (λ (x : Line). x.cube)) ∙ ap length e ∙ length-map ys (λ (x : Line). x.cube)

pub cubes-aligned : (xs ys : List Line) → cubes_of xs ≡ cubes_of ys → cubes_of (aligned xs ys) ≡ cubes_of xs
cubes-aligned [] ys e = refl
cubes-aligned (x ∷ xs) [] e = absurd (cc)
cubes-aligned (x ∷ xs) (y ∷ ys) e = let later : cubes_of xs ≡ cubes_of ys = cc in ap (λ cs. x.cube ∷ cs) (cubes-aligned xs ys later)

pub ends-aligned : (xs ys : List Line) → cubes_of xs ≡ cubes_of ys → ends_with_everything (aligned xs ys) ≡ ends_with_everything xs
ends-aligned [] ys e = refl
ends-aligned (x ∷ xs) [] e = absurd (cc)
ends-aligned (x ∷ []) (y ∷ ys) e = refl
ends-aligned (x ∷ (w ∷ xs)) (y ∷ []) e = absurd (cc)
ends-aligned (x ∷ (w ∷ xs)) (y ∷ (z ∷ ys)) e = let later : cubes_of (w ∷ xs) ≡ cubes_of (z ∷ ys) = cc in ends-aligned (w ∷ xs) (z ∷ ys) later

-- the first line with the headers has the same place in both
given-aligned : (xs ys : List Line) (h : Headers) → cubes_of xs ≡ cubes_of ys → given (aligned xs ys) h ≡ add_all (given xs h) (given ys h)
given-aligned [] [] h e = refl
given-aligned [] (y ∷ ys) h e = absurd (cc)
given-aligned (x ∷ xs) [] h e = absurd (cc)
given-aligned (x ∷ xs) (y ∷ ys) h e =
    let first : x.cube ≡ y.cube = cc in
    let later : cubes_of xs ≡ cubes_of ys = cc in
    elim (cases_Bool (has x.cube h)) [
      | inl here ↦ let there = ap (λ c. has c h) (sym first) ∙ here in rw (here, there) refl
      | inr apart ↦ let away = ap (λ c. has c h) (sym first) ∙ apart in rw (apart, away) (given-aligned xs ys h later)
    ]

-- the packets of both
pub meaning-aligned : (xs ys : List Line) (h : Headers) (l : Loc) → cubes_of xs ≡ cubes_of ys → SameMembers (meaning (aligned xs ys) h l) (meaning xs h l ++ meaning ys h l)
meaning-aligned xs ys h l e =
    SetLemmas.same_trans (SetLemmas.same_eq (ap (map (carried h l)) (given-aligned xs ys h e)))
    (SetLemmas.same_trans (SetLemmas.same_map (carried h l) (same_add_all (given xs h) (given ys h))) (SetLemmas.same_eq (SetLemmas.map-append (carried h l) (given xs h) (given ys h))))

each-aligned : (P : Line → Type 0) (xs ys : List Line) → ((x y : Line) → Member x xs → Member y ys → P (line (add_all x.results y.results) x.cube)) → EachLine P (aligned xs ys)
each-aligned P [] ys f z h = elim h [ ]
each-aligned P (x ∷ xs) [] f z h = elim h [ ]
each-aligned P (x ∷ xs) (y ∷ ys) f z (inl e) = subst P (sym e) (f x y (inl refl) (inl refl))
each-aligned P (x ∷ xs) (y ∷ ys) f z (inr h) = each-aligned P xs ys (λ v w k j. f v w (inr k) (inr j)) z h

pub assigns-aligned : (xs ys : List Line) (m : Assign) → Member m (assigns_of (aligned xs ys)) → Member m (assigns_of xs ++ assigns_of ys)
assigns-aligned xs ys =
    let P : Line → Type 0 = λ z. (item : Item) → Member item z.results → Member item.0 (assigns_of xs ++ assigns_of ys) in
    each-assign (λ m. Member m (assigns_of xs ++ assigns_of ys)) (aligned xs ys)
    (each-aligned P xs ys (λ x y h k item stands.
    elim (joined-cases Union x.results y.results item stands) [
      | inl in_x ↦ SetLemmas.Member-append_left (assigns_of xs) (assigns_of ys) item.0 (assign-stands xs x item h in_x)
      | inr in_y ↦ SetLemmas.Member-append_right (assigns_of xs) (assigns_of ys) item.0 (assign-stands ys y item k in_y)
    ]))

-- one line more of each
pub aligned_more : (xs ys : List Line) (i : ℕ) (x : Line) → cubes_of xs ≡ cubes_of ys → i < length xs → x ≡ get_or xs i x
    → aligned (drop i xs) (drop i ys) ≡ line (add_all x.results (get_or ys i x).results) x.cube ∷ aligned (drop (i + 1) xs) (drop (i + 1) ys)
aligned_more xs ys i x e inside is =
    let there : i < length ys = subst (λ n. i < n) (aligned-length xs ys e) inside in
    ap (λ zs. aligned zs (drop i ys)) (drop_more xs i x inside ∙ ap (λ z. z ∷ drop (i + 1) xs) (sym is))
    ∙ ap (aligned (x ∷ drop (i + 1) xs)) (drop_more ys i x there)
