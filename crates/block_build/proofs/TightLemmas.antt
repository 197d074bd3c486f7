-- Rules without those that lie within an earlier one are a tight form of all, which is right where all were.
use Rattle.std.proofs.Common.{◌≡◌, ◌≤◌, Bool, true, false, ◌||◌, cond, Some, List, [], ◌∷◌, ◌++◌, length, refl, inl, inr, sym, ap, ◌∙◌, arith}
use Rattle.std.proofs.lemmas.Bool.{cases_Bool, or_parts, or_cases, false≢true}
use Rattle.events.specs.Sound.{IsTight, cubes_of}
use Rattle.events.specs.Table.{first_rule}
use Rattle.net_types.proofs.CubeLemmas.{has-within}
use Rattle.net_types.proofs.SetLemmas
use Rattle.net_types.specs.Cubes.{has, lies_within_cube}
use Rattle.net_types.specs.Sets.{HasNoRepeats, Member}
use Rattle.net_types.specs.declared.cube.Cube.{Cube}
use Rattle.net_types.specs.declared.headers.Headers.{Headers}
use Rattle.net_types.specs.declared.rule.Rule.{Rule}
use Rattle.block_build.specs.Tight.{IsTightForm, is_inside, sifted, TightFormsStayRight}

-- ---- the first rule stays the first

-- none of the cubes has the headers
abbrev AreApart : List Cube → Headers → Type 0
AreApart cubes h = (c : Cube) → Member c cubes → has c h ≡ false

apart-push : (cubes : List Cube) (c : Cube) (h : Headers) → AreApart cubes h → has c h ≡ false → AreApart (cubes ++ c ∷ []) h
apart-push cubes c h f e = λ d k. elim (SetLemmas.Member-append_cases cubes (c ∷ []) d k) [
  | inl old ↦ f d old
  | inr new ↦ elim new [ inl same ↦ ap (λ x. has x h) same ∙ e | inr none ↦ elim none [ ] ]
]

inside-apart : (cubes : List Cube) (d : Cube) (h : Headers) → AreApart cubes h → is_inside cubes d ≡ true → has d h ≡ false
inside-apart [] d h f e = absurd (false≢true e)
inside-apart (c ∷ cubes) d h f e = elim (or_cases (lies_within_cube d c) (is_inside cubes d) e) [
  | inl here ↦ elim (cases_Bool (has d h)) [
    | inl inside ↦ absurd (false≢true (sym (f c (inl refl)) ∙ has-within d c h here inside))
    | inr outside ↦ outside
  ]
  | inr later ↦ inside-apart cubes d h (λ x k. f x (inr k)) later
]

first-sifted : (earlier : List Cube) (rs : List Rule) (h : Headers) → AreApart earlier h → first_rule (sifted earlier rs) h ≡ first_rule rs h
first-sifted earlier [] h f = refl
first-sifted earlier (r ∷ rs) h f = of (is_inside earlier r.cube) refl (first-sifted earlier rs h f) (λ e. first-sifted (earlier ++ r.cube ∷ []) rs h (apart-push earlier r.cube h f e))
  where
    of : (b : Bool) → is_inside earlier r.cube ≡ b → first_rule (sifted earlier rs) h ≡ first_rule rs h
        → (has r.cube h ≡ false → first_rule (sifted (earlier ++ r.cube ∷ []) rs) h ≡ first_rule rs h)
        → first_rule (cond b (sifted earlier rs) (r ∷ sifted (earlier ++ r.cube ∷ []) rs)) h ≡ first_rule (r ∷ rs) h
    of true e dropped kept = dropped ∙ sym (ap (λ b. cond b (Some r) (first_rule rs h)) (inside-apart earlier r.cube h f e))
    of false e dropped kept = elim (cases_Bool (has r.cube h)) [
      | inl here ↦ rw here refl
      | inr apart ↦ rw apart (kept apart)
    ]

-- ---- each rule that is left was there

Member-sifted : (earlier : List Cube) (rs : List Rule) (x : Rule) → Member x (sifted earlier rs) → Member x rs
Member-sifted earlier [] x h = h
Member-sifted earlier (r ∷ rs) x h = of (is_inside earlier r.cube) (Member-sifted earlier rs x) (Member-sifted (earlier ++ r.cube ∷ []) rs x) h
  where
    of : (b : Bool) → (Member x (sifted earlier rs) → Member x rs) → (Member x (sifted (earlier ++ r.cube ∷ []) rs) → Member x rs)
        → Member x (cond b (sifted earlier rs) (r ∷ sifted (earlier ++ r.cube ∷ []) rs)) → Member x (r ∷ rs)
    of true dropped kept k = inr (dropped k)
    of false dropped kept (inl e) = inl e
    of false dropped kept (inr k) = inr (kept k)

cubes-sifted : (earlier : List Cube) (rs : List Rule) (c : Cube) → Member c (cubes_of (sifted earlier rs)) → Member c (cubes_of rs)
cubes-sifted earlier [] c h = h
cubes-sifted earlier (r ∷ rs) c h = of (is_inside earlier r.cube) (cubes-sifted earlier rs c) (cubes-sifted (earlier ++ r.cube ∷ []) rs c) h
  where
    of : (b : Bool) → (Member c (cubes_of (sifted earlier rs)) → Member c (cubes_of rs)) → (Member c (cubes_of (sifted (earlier ++ r.cube ∷ []) rs)) → Member c (cubes_of rs))
        → Member c (cubes_of (cond b (sifted earlier rs) (r ∷ sifted (earlier ++ r.cube ∷ []) rs))) → Member c (cubes_of (r ∷ rs))
    of true dropped kept k = inr (dropped k)
    of false dropped kept (inl e) = inl e
    of false dropped kept (inr k) = inr (kept k)

differ-sifted : (earlier : List Cube) (rs : List Rule) → HasNoRepeats (cubes_of rs) → HasNoRepeats (cubes_of (sifted earlier rs))
differ-sifted earlier [] d = tt
differ-sifted earlier (r ∷ rs) d = of (is_inside earlier r.cube) (differ-sifted earlier rs d.1) (differ-sifted (earlier ++ r.cube ∷ []) rs d.1)
  where
    of : (b : Bool) → HasNoRepeats (cubes_of (sifted earlier rs)) → HasNoRepeats (cubes_of (sifted (earlier ++ r.cube ∷ []) rs)) → HasNoRepeats (cubes_of (cond b (sifted earlier rs) (r ∷ sifted (earlier ++ r.cube ∷ []) rs)))
    of true dropped kept = dropped
    of false dropped kept = (λ k. d.0 (cubes-sifted (earlier ++ r.cube ∷ []) rs r.cube k), kept)

-- ---- tight

-- what is left lies in none of the earlier cubes
outside-sifted : (earlier : List Cube) (rs : List Rule) (x : Rule) → Member x (sifted earlier rs) → is_inside earlier x.cube ≡ false
outside-sifted earlier [] x h = elim h [ ]
outside-sifted earlier (r ∷ rs) x h = of (is_inside earlier r.cube) refl (outside-sifted earlier rs x) (λ k. front earlier (outside-sifted (earlier ++ r.cube ∷ []) rs x k)) h
  where
    front : (cubes : List Cube) → is_inside (cubes ++ r.cube ∷ []) x.cube ≡ false → is_inside cubes x.cube ≡ false
    front [] e = refl
    front (c ∷ cubes) e = let p = or_parts (lies_within_cube x.cube c) (is_inside (cubes ++ r.cube ∷ []) x.cube) e in ap (λ b. b || is_inside cubes x.cube) p.0 ∙ front cubes p.1

    of : (b : Bool) → is_inside earlier r.cube ≡ b → (Member x (sifted earlier rs) → is_inside earlier x.cube ≡ false) → (Member x (sifted (earlier ++ r.cube ∷ []) rs) → is_inside earlier x.cube ≡ false)
        → Member x (cond b (sifted earlier rs) (r ∷ sifted (earlier ++ r.cube ∷ []) rs)) → is_inside earlier x.cube ≡ false
    of true e dropped kept k = dropped k
    of false e dropped kept (inl same) = ap (λ (y : Rule). is_inside earlier y.cube) same ∙ e
    of false e dropped kept (inr k) = kept k

inside-last : (cubes : List Cube) (c d : Cube) → is_inside (cubes ++ c ∷ []) d ≡ false → lies_within_cube d c ≡ false
inside-last [] c d e = (or_parts (lies_within_cube d c) false e).0
inside-last (x ∷ cubes) c d e = inside-last cubes c d (or_parts (lies_within_cube d x) (is_inside (cubes ++ c ∷ []) d) e).1

tight-sifted : (earlier : List Cube) (rs : List Rule) → IsTight (sifted earlier rs)
tight-sifted earlier [] = tt
tight-sifted earlier (r ∷ rs) = of (is_inside earlier r.cube) (tight-sifted earlier rs) (tight-sifted (earlier ++ r.cube ∷ []) rs)
  where
    of : (b : Bool) → IsTight (sifted earlier rs) → IsTight (sifted (earlier ++ r.cube ∷ []) rs) → IsTight (cond b (sifted earlier rs) (r ∷ sifted (earlier ++ r.cube ∷ []) rs))
    of true dropped kept = dropped
    of false dropped kept = (λ x k. inside-last earlier r.cube x.cube (outside-sifted (earlier ++ r.cube ∷ []) rs x k), kept)

-- ---- no more

fewer-sifted : (earlier : List Cube) (rs : List Rule) → length (sifted earlier rs) ≤ length rs
fewer-sifted earlier [] = omega arith
fewer-sifted earlier (r ∷ rs) = of (is_inside earlier r.cube) (fewer-sifted earlier rs) (fewer-sifted (earlier ++ r.cube ∷ []) rs)
  where
    of : (b : Bool) → length (sifted earlier rs) ≤ length rs → length (sifted (earlier ++ r.cube ∷ []) rs) ≤ length rs → length (cond b (sifted earlier rs) (r ∷ sifted (earlier ++ r.cube ∷ []) rs)) ≤ length (r ∷ rs)
    of true dropped kept = omega (arith, dropped)
    of false dropped kept = omega (arith, kept)

-- ---- a tight form

pub sifted-form : (rs : List Rule) → IsTightForm rs (sifted [] rs)
sifted-form rs = record {
  tight = tight-sifted [] rs;
  fewer = fewer-sifted [] rs;
  first = λ h. first-sifted [] rs h (λ c k. elim k [ ]);
  among = Member-sifted [] rs;
  differ = differ-sifted [] rs;
}

-- a cube of a rule among some is one of theirs
cubes-among : (rules old : List Rule) → ((x : Rule) → Member x rules → Member x old) → (c : Cube) → Member c (cubes_of rules) → Member c (cubes_of old)
cubes-among [] old f c k = elim k [ ]
cubes-among (r ∷ rules) old f c k = elim k [
  | inl same ↦ rw same (cube-of old r (f r (inl refl)))
  | inr later ↦ cubes-among rules old (λ x m. f x (inr m)) c later
]
  where
    cube-of : (rs : List Rule) (x : Rule) → Member x rs → Member x.cube (cubes_of rs)
    cube-of [] x m = m
    cube-of (y ∷ rs) x (inl e) = inl (ap (λ (z : Rule). z.cube) e)
    cube-of (y ∷ rs) x (inr m) = inr (cube-of rs x m)

pub tight_forms_stay_right : TightFormsStayRight
tight_forms_stay_right port answer atoms old rules form right = record {
  gives = λ h valid at. let g = right.gives h valid at in (g.0, form.first h ∙ g.1, g.2);
  differ = form.differ right.differ;
  meets = λ c k. right.meets c (cubes-among rules old form.among c k);
  ordered = λ x k. right.ordered x (form.among x k);
}
