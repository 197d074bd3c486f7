-- The first of the cells with some headers lies within each atom that has them.
use Rattle.std.proofs.Common.{◌≡◌, true, false, ◌&&◌, cond, Option, Some, None, List, [], ◌∷◌, ◌++◌, append_assoc, refl, inl, inr, sym, ap, ◌∙◌, subst}
use Rattle.std.specs.List.{list_any}
use Rattle.std.proofs.lemmas.Bool.{cases_Bool, and_parts, and_from, false≢true, false_from_ne_true}
use Rattle.indexmap.specs.IndexSet.{insert_key}
use Rattle.net_types.specs.declared.cube.Cube.{Cube}
use Rattle.net_types.specs.declared.headers.Headers.{Headers}
use Rattle.net_types.specs.Cubes.{has, meet_cubes, lies_within_cube}
use Rattle.net_types.specs.Meets.{IsMeet, cons_some}
use Rattle.net_types.specs.Sets.{Member}
use Rattle.net_types.proofs.SetLemmas
use Rattle.net_types.proofs.CubeLemmas.{has-everything, has-meet, has-met, has_option, has-within, meet-everything, within-from_has, within_trans}
use Rattle.net_types.proofs.MeetLemmas.{IsMeet-meet, IsMeet-member, IsMeet-append_left}
use Rattle.classifier.specs.Seen.{cube_eq}
use Rattle.classifier.proofs.SeenLemmas.{cube_eq_exact, cube_eq_refl}
use Rattle.cells.specs.Adds.{adds}
use Rattle.cells.specs.Cells.{first_of, AreCells, AreMeets, met_by, outside, cut}
use Rattle.cells.proofs.AddsLemmas.{any-Member, cubes-same}

-- ---- cubes put last, each once

first-skip : (ks zs : List Cube) (y : Cube) (h : Headers) → has y h ≡ false → first_of (ks ++ y ∷ zs) h ≡ first_of (ks ++ zs) h
first-skip [] zs y h f = ap (λ b. cond b y (first_of zs h)) f
first-skip (k ∷ ks) zs y h f = ap (λ c. cond (has k h) k c) (first-skip ks zs y h f)

first-within : (ks zs : List Cube) (y : Cube) (h : Headers) → Member y ks → has y h ≡ true → first_of (ks ++ zs) h ≡ first_of ks h
first-within [] zs y h m t = elim m [ ]
first-within (k ∷ ks) zs y h (inl e) t =
    let here : has k h ≡ true = ap (λ c. has c h) (sym e) ∙ t in
    ap (λ b. cond b k (first_of (ks ++ zs) h)) here ∙ sym (ap (λ b. cond b k (first_of ks h)) here)
first-within (k ∷ ks) zs y h (inr m) t = ap (λ c. cond (has k h) k c) (first-within ks zs y h m t)

first-known : (ks zs : List Cube) (y : Cube) (h : Headers) → Member y ks → first_of (ks ++ y ∷ zs) h ≡ first_of (ks ++ zs) h
first-known ks zs y h m = elim (cases_Bool (has y h)) [
  | inl t ↦ first-within ks (y ∷ zs) y h m t ∙ sym (first-within ks zs y h m t)
  | inr f ↦ first-skip ks zs y h f
]

first-insert : (ks zs : List Cube) (y : Cube) (h : Headers) → first_of (insert_key cube_eq ks y ++ zs) h ≡ first_of (ks ++ y ∷ zs) h
first-insert ks zs y h = elim (cases_Bool (list_any (cube_eq y) ks)) [
  | inl there ↦ ap (λ b. first_of (cond b ks (ks ++ y ∷ []) ++ zs) h) there ∙ sym (first-known ks zs y h (any-Member cube_eq cube_eq_exact cube_eq_refl ks y there))
  | inr absent ↦ ap (λ b. first_of (cond b ks (ks ++ y ∷ []) ++ zs) h) absent ∙ ap (λ cs. first_of cs h) (append_assoc ks (y ∷ []) zs)
]

first-adds : (ks ys zs : List Cube) (h : Headers) → first_of (adds cube_eq ks ys ++ zs) h ≡ first_of (ks ++ (ys ++ zs)) h
first-adds ks [] zs h = refl
first-adds ks (y ∷ ys) zs h = first-adds (insert_key cube_eq ks y) ys zs h ∙ first-insert ks (ys ++ zs) y h

first-cut : (c : Cube) (xs : List Cube) (h : Headers) → first_of (cut c xs) h ≡ first_of (met_by c xs ++ c ∷ outside c xs) h
first-cut c xs h = first-adds (adds cube_eq [] (met_by c xs)) (c ∷ []) (outside c xs) h ∙ first-adds [] (met_by c xs) (c ∷ outside c xs) h

-- ---- headers within the atom

met-step : (c x : Cube) (xs rest : List Cube) (h : Headers) → has c h ≡ true → meet_cubes c (first_of xs h) ≡ Some (first_of (met_by c xs ++ c ∷ rest) h)
    → (o : Option Cube) → meet_cubes c x ≡ o → meet_cubes c (first_of (x ∷ xs) h) ≡ Some (first_of (cons_some o (met_by c xs) ++ c ∷ rest) h)
met-step c x xs rest h k more None e =
    let no : has x h ≡ false = sym (ap (λ b. b && has x h) k) ∙ sym (has-meet c x h) ∙ ap (λ o. has_option o h) e in
    ap (λ b. meet_cubes c (cond b x (first_of xs h))) no ∙ more
met-step c x xs rest h k more (Some d) e =
    let later = first_of (met_by c xs ++ c ∷ rest) h in
    let same : has d h ≡ has x h = has-met c x d h e ∙ ap (λ b. b && has x h) k in
    elim (cases_Bool (has x h)) [
      | inl t ↦ ap (λ b. meet_cubes c (cond b x (first_of xs h))) t ∙ e ∙ ap Some (sym (ap (λ b. cond b d later) (same ∙ t)))
      | inr f ↦ ap (λ b. meet_cubes c (cond b x (first_of xs h))) f ∙ more ∙ ap Some (sym (ap (λ b. cond b d later) (same ∙ f)))
    ]

first-met : (c : Cube) (xs rest : List Cube) (h : Headers) → has c h ≡ true → meet_cubes c (first_of xs h) ≡ Some (first_of (met_by c xs ++ c ∷ rest) h)
first-met c [] rest h k = meet-everything c ∙ ap Some (sym (ap (λ b. cond b c (first_of rest h)) k))
first-met c (x ∷ xs) rest h k = met-step c x xs rest h k (first-met c xs rest h k) (meet_cubes c x) refl

-- ---- headers elsewhere

apart-step : (c x : Cube) (zs : List Cube) (h : Headers) → has c h ≡ false → (o : Option Cube) → meet_cubes c x ≡ o → first_of (cons_some o zs) h ≡ first_of zs h
apart-step c x zs h f None e = refl
apart-step c x zs h f (Some d) e = ap (λ b. cond b d (first_of zs h)) (has-met c x d h e ∙ ap (λ b. b && has x h) f)

cons-append : (o : Option Cube) (xs ys : List Cube) → cons_some o xs ++ ys ≡ cons_some o (xs ++ ys)
cons-append None xs ys = refl
cons-append (Some c) xs ys = refl

first-apart : (c : Cube) (xs ys : List Cube) (h : Headers) → has c h ≡ false → first_of (met_by c xs ++ ys) h ≡ first_of ys h
first-apart c [] ys h f = refl
first-apart c (x ∷ xs) ys h f =
    ap (λ zs. first_of zs h) (cons-append (meet_cubes c x) (met_by c xs) ys)
    ∙ apart-step c x (met_by c xs ++ ys) h f (meet_cubes c x) refl ∙ first-apart c xs ys h f

first-outside : (c : Cube) (xs : List Cube) (h : Headers) → has c h ≡ false → first_of (outside c xs) h ≡ first_of xs h
first-outside c [] h f = refl
first-outside c (x ∷ xs) h f = elim (cases_Bool (lies_within_cube x c)) [
  | inl inside ↦
      let no : has x h ≡ false = false_from_ne_true (has x h) (λ t. false≢true (sym f ∙ has-within x c h inside t)) in
      ap (λ b. first_of (cond b (outside c xs) (x ∷ outside c xs)) h) inside ∙ first-outside c xs h f ∙ sym (ap (λ b. cond b x (first_of xs h)) no)
  | inr beyond ↦
      ap (λ b. first_of (cond b (outside c xs) (x ∷ outside c xs)) h) beyond ∙ ap (λ y. cond (has x h) x y) (first-outside c xs h f)
]

-- ---- which cubes there are

record Met (c : Cube) (xs : List Cube) (d : Cube) : Type 0 where
  pub of : Cube
  pub stands : Member of xs
  pub is : meet_cubes c of ≡ Some d

met-more : (c x : Cube) (xs : List Cube) (d : Cube) → Met c xs d → Met c (x ∷ xs) d
met-more c x xs d m = record { of = m.of; stands = inr m.stands; is = m.is }

met-cases : (c x : Cube) (xs zs : List Cube) (d : Cube) → ((k : Member d zs) → Met c xs d) → (o : Option Cube) → meet_cubes c x ≡ o → Member d (cons_some o zs) → Met c (x ∷ xs) d
met-cases c x xs zs d more None e k = met-more c x xs d (more k)
met-cases c x xs zs d more (Some y) e (inl same) = record { of = x; stands = inl refl; is = e ∙ ap Some (sym same) }
met-cases c x xs zs d more (Some y) e (inr k) = met-more c x xs d (more k)

met-from : (c : Cube) (xs : List Cube) (d : Cube) → Member d (met_by c xs) → Met c xs d
met-from c [] d k = elim k [ ]
met-from c (x ∷ xs) d k = met-cases c x xs (met_by c xs) d (λ m. met-from c xs d m) (meet_cubes c x) refl k

outside-from : (c : Cube) (xs : List Cube) (d : Cube) → Member d (outside c xs) → Member d xs
outside-from c [] d k = elim k [ ]
outside-from c (x ∷ xs) d k = elim (cases_Bool (lies_within_cube x c)) [
  | inl inside ↦ inr (outside-from c xs d (subst (λ b. Member d (cond b (outside c xs) (x ∷ outside c xs))) inside k))
  | inr beyond ↦ elim (subst (λ b. Member d (cond b (outside c xs) (x ∷ outside c xs))) beyond k) [ inl e ↦ inl e | inr m ↦ inr (outside-from c xs d m) ]
]

-- ---- one atom more

met-left : (a b d : Cube) → meet_cubes a b ≡ Some d → lies_within_cube d a ≡ true
met-left a b d e = within-from_has d a (λ h k. (and_parts (has a h) (has b h) (sym (has-met a b d h e) ∙ k)).0)

met-right : (a b d : Cube) → meet_cubes a b ≡ Some d → lies_within_cube d b ≡ true
met-right a b d e = within-from_has d b (λ h k. (and_parts (has a h) (has b h) (sym (has-met a b d h e) ∙ k)).1)

cut-narrow : (atoms xs : List Cube) (c : Cube) → AreCells atoms xs → (h : Headers) (a : Cube) → Member a (atoms ++ c ∷ []) → has a h ≡ true → lies_within_cube (first_of (cut c xs) h) a ≡ true
cut-narrow atoms xs c f h a k t = elim (cases_Bool (has c h)) [
  | inl here ↦
      let met : meet_cubes c (first_of xs h) ≡ Some (first_of (cut c xs) h) = first-met c xs (outside c xs) h here ∙ ap Some (sym (first-cut c xs h)) in
      elim (SetLemmas.Member-append_cases atoms (c ∷ []) a k) [
        | inl old ↦ within_trans (first_of (cut c xs) h) (first_of xs h) a (met-right c (first_of xs h) (first_of (cut c xs) h) met) (f.narrow h a old t)
        | inr new ↦ elim new [ inl e ↦ ap (lies_within_cube (first_of (cut c xs) h)) e ∙ met-left c (first_of xs h) (first_of (cut c xs) h) met | inr none ↦ elim none [ ] ]
      ]
  | inr away ↦
      let same : first_of (cut c xs) h ≡ first_of xs h =
      first-cut c xs h ∙ first-apart c xs (c ∷ outside c xs) h away ∙ ap (λ b. cond b c (first_of (outside c xs) h)) away ∙ first-outside c xs h away in
      elim (SetLemmas.Member-append_cases atoms (c ∷ []) a k) [
        | inl old ↦ ap (λ m. lies_within_cube m a) same ∙ f.narrow h a old t
        | inr new ↦ elim new [ inl e ↦ absurd (false≢true (sym away ∙ ap (λ b. has b h) (sym e) ∙ t)) | inr none ↦ elim none [ ] ]
      ]
]

pub cut-meets : (atoms xs : List Cube) (c : Cube) → AreMeets atoms xs → AreMeets (atoms ++ c ∷ []) (cut c xs)
cut-meets atoms xs c f x k =
    let more = atoms ++ c ∷ [] in
    let itself : IsMeet more c = IsMeet-member more c (SetLemmas.Member-append_right atoms (c ∷ []) c (inl refl)) in
    let kept = adds cube_eq [] (met_by c xs) in
    elim (SetLemmas.Member-append_cases (adds cube_eq kept (c ∷ [])) (outside c xs) x k) [
      | inl within ↦ elim (SetLemmas.Member-append_cases kept (c ∷ []) x ((cubes-same kept (c ∷ [])).onto x within)) [
        | inl met ↦
            let m = met-from c xs x ((cubes-same [] (met_by c xs)).onto x met) in
            IsMeet-meet more c m.of x itself (IsMeet-append_left atoms (c ∷ []) m.of (f m.of m.stands)) m.is
        | inr new ↦ elim new [ inl e ↦ subst (IsMeet more) (sym e) itself | inr none ↦ elim none [ ] ]
      ]
      | inr beyond ↦ IsMeet-append_left atoms (c ∷ []) x (f x (outside-from c xs x beyond))
    ]

-- no atoms, and one atom more
pub cells-none : AreCells [] []
cells-none = record { narrow = λ h a k t. elim k [ ]; meets = λ x k. elim k [ ] }

pub cells-more : (atoms xs : List Cube) (c : Cube) → AreCells atoms xs → AreCells (atoms ++ c ∷ []) (cut c xs)
cells-more atoms xs c f = record { narrow = cut-narrow atoms xs c f; meets = cut-meets atoms xs c f.meets }

-- a cube that lies within each atom that has some headers lies within each meet that has them
pub within-meet : (atoms : List Cube) (m c : Cube) (h : Headers) → ((a : Cube) → Member a atoms → has a h ≡ true → lies_within_cube m a ≡ true) → IsMeet atoms c → has c h ≡ true → lies_within_cube m c ≡ true
within-meet [] m c h narrow i t = within-from_has m c (λ k _. ap (λ d. has d k) i ∙ has-everything k)
within-meet (a ∷ atoms) m c h narrow (inl rest) t = within-meet atoms m c h (λ b k. narrow b (inr k)) rest t
within-meet (a ∷ atoms) m c h narrow (inr w) t =
    let both = and_parts (has a h) (has w.0 h) (sym (has-met a w.0 c h w.2) ∙ t) in
    let first = narrow a (inl refl) both.0 in
    let later = within-meet atoms m w.0 h (λ b k. narrow b (inr k)) w.1 both.1 in
    within-from_has m c (λ k u. has-met a w.0 c k w.2 ∙ and_from (has a k) (has w.0 k) (has-within m a k first u) (has-within m w.0 k later u))

-- an atom that is one of the cubes
pub cells-same : (atoms xs : List Cube) (c : Cube) → AreCells atoms xs → Member c xs → AreCells (atoms ++ c ∷ []) xs
cells-same atoms xs c f there = record {
  narrow = λ h a k t. elim (SetLemmas.Member-append_cases atoms (c ∷ []) a k) [
    | inl old ↦ f.narrow h a old t
    | inr new ↦ elim new [
      | inl e ↦ ap (lies_within_cube (first_of xs h)) e ∙ within-meet atoms (first_of xs h) c h (f.narrow h) (f.meets c there) (ap (λ b. has b h) (sym e) ∙ t)
      | inr none ↦ elim none [ ]
    ]
  ];
  meets = λ x k. IsMeet-append_left atoms (c ∷ []) x (f.meets x k);
}
