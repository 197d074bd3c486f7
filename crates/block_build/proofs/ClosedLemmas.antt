-- Rules that a receiver's don't cut, joined with these.
use Rattle.std.proofs.Common.{◌≡◌, ℕ, ◌+◌, ◌<◌, length, get_or, take, drop, ◌⊎◌, ◌&&◌, ◌||◌, Bool, true, false, cond, Option, Some, None, List, [], ◌∷◌, ◌++◌, refl, inl, inr, sym, ap, ◌∙◌, subst}
use Rattle.std.specs.Prelude.{is_some}
use Rattle.std.specs.Option.{option_map}
use Rattle.std.proofs.lemmas.List.{at_drop_more, take_more}
use Rattle.std.proofs.lemmas.Bool.{and_from, and_parts, cases_Bool, false≢true, or_parts, or_right}
use Rattle.classifier.proofs.ShapeLemmas.{cubes-push, shadowed-there, there-shadowed}
use Rattle.classifier.specs.Items.{Item, add_all}
use Rattle.classifier.specs.Hulls.{holds_each}
use Rattle.classifier.specs.Lines.{add_line, add_lines, cons_line, is_shadowed, joined, line, row, same_cube}
use Rattle.classifier.specs.Meaning.{cubes_of}
use Rattle.classifier.proofs.SeenLemmas.{same_cube_exact}
use Rattle.classifier.specs.Runs.{lines_in}
use Rattle.classifier.specs.declared.run.Run.{Run}
use Rattle.classifier.specs.Seen.{is_there}
use Rattle.classifier.specs.declared.join.Join.TheVariants.{Union}
use Rattle.classifier.specs.declared.line.Line.{Line}
use Rattle.net_types.proofs.CubeLemmas.{has-meet, has-met, has-within, meet-everything, option_ext, some_from_has, within-from_has, within_refl, within_trans, witness}
use Rattle.net_types.proofs.MeetLemmas.{IsMeet-everything, IsMeet-member, IsMeet-wider}
use Rattle.net_types.proofs.SetLemmas
use Rattle.net_types.specs.Cubes.{everything, has, lies_within_cube, meet_cubes}
use Rattle.net_types.specs.Meets.{IsMeet}
use Rattle.net_types.specs.Sets.{Member}
use Rattle.net_types.specs.declared.address.PortNo.{PortNo}
use Rattle.net_types.specs.declared.cube.Cube.{Cube}
use Rattle.block_build.proofs.PastLemmas.{shadowed-cube}
use Rattle.block_build.specs.Bounds.{AreMeets}
use Rattle.block_build.specs.Closed.{AreClosed, AreKept, AreThere, first_holding}
use Rattle.block_build.specs.Groups.{lines_within}
use Rattle.block_build.specs.declared.group.Group.{Group}
use Rattle.block_build.specs.Receivers.{received_items, received_lines}
use Rattle.std.proofs.Math.Bool.{and_assoc, or-false}
use Rattle.std.proofs.lemmas.Option.{same_Some}

-- ---- meets of tested cubes

-- x ∧ (a ∧ n) is (x ∧ a) ∧ n, where it has headers
record Split (x a n m : Cube) : Type 0 where
  middle : Cube
  is_middle : meet_cubes x a ≡ Some middle
  is_whole : meet_cubes middle n ≡ Some m

split : (x a n c m : Cube) → meet_cubes a n ≡ Some c → meet_cubes x c ≡ Some m → Split x a n m
split x a n c m first second =
    let w = witness m in
    let outer = and_parts (has x w.headers) (has c w.headers) (sym (has-met x c m w.headers second) ∙ w.inside) in
    let inner = and_parts (has a w.headers) (has n w.headers) (sym (has-met a n c w.headers first) ∙ outer.1) in
    let there = some_from_has (meet_cubes x a) w.headers (has-meet x a w.headers ∙ and_from _ _ outer.0 inner.0) in
    record {
      middle = there.0;
      is_middle = there.1;
      is_whole = option_ext _ (Some m) (λ h.
          has-meet there.0 n h ∙ ap (λ t. t && has n h) (has-met x a there.0 h there.1)
          ∙ and_assoc (has x h) (has a h) (has n h) ∙ sym (has-met x c m h second ∙ ap (λ t. has x h && t) (has-met a n c h first)));
    }

-- what is closed for the tested cubes is closed for their meets
closed_meet : (tests : List Cube) (xs : List Line) → AreClosed tests xs → (c : Cube) → IsMeet tests c → (x m : Cube) → Member x (cubes_of xs) → meet_cubes x c ≡ Some m → Member m (cubes_of xs)
closed_meet [] xs closed c k x m stands e = subst (λ d. Member d (cubes_of xs)) (same_Some _ _ (sym (ap (meet_cubes x) k ∙ meet-everything x) ∙ e)) stands
closed_meet (a ∷ tests) xs closed c (inl k) x m stands e = closed_meet tests xs (λ d t n s i f. closed d t n s (inr i) f) c k x m stands e
closed_meet (a ∷ tests) xs closed c (inr k) x m stands e =
    let s = split x a k.0 c m k.2 e in
    closed_meet tests xs (λ d t n s i f. closed d t n s (inr i) f) k.0 k.1 s.middle m (closed x a s.middle stands (inl refl) s.is_middle) s.is_whole

pub closed_none : (tests : List Cube) → AreClosed tests []
closed_none tests c test m stands i e = elim stands [ ]

-- one more rule
pub closed_more : (tests : List Cube) (xs : List Line) (z : Line) → AreClosed tests xs → AreThere xs z.cube tests → AreClosed tests (xs ++ z ∷ [])
closed_more tests xs z closed there c test m stands i e =
    subst (Member m) (sym (cubes-push xs z))
    (elim (SetLemmas.Member-append_cases (cubes_of xs) (z.cube ∷ []) c (subst (Member c) (cubes-push xs z) stands)) [
      | inl k ↦ SetLemmas.Member-append_left (cubes_of xs) (z.cube ∷ []) m (closed c test m k i e)
      | inr k ↦ elim k [
        | inl same ↦ elim (there test i m (ap (λ d. meet_cubes d test) (sym same) ∙ e)) [
          | inl old ↦ SetLemmas.Member-append_left (cubes_of xs) (z.cube ∷ []) m old
          | inr own ↦ SetLemmas.Member-append_right (cubes_of xs) (z.cube ∷ []) m (inl own)
        ]
        | inr none ↦ elim none [ ]
      ]
    ])

-- ---- a rule joined with rules that don't cut it otherwise than the rules before

within_meet : (a b : Cube) → lies_within_cube a b ≡ true → meet_cubes a b ≡ Some a
within_meet a b inside = option_ext _ (Some a) (λ h. has-meet a b h ∙ of h (has a h) refl)
  where
    of : (h : _) (t : Bool) → has a h ≡ t → (t && has b h) ≡ t
    of h true e = has-within a b h inside e
    of h false e = refl

meet_within : (a b : Cube) → meet_cubes a b ≡ Some a → lies_within_cube a b ≡ true
meet_within a b e = within-from_has a b (λ h k. (and_parts (has a h) (has b h) (sym (has-met a b a h e) ∙ k)).1)

-- where each cube is there, nothing is added
rest_hidden : (kept : List Line) (x : Line) (ys : List Line) → ((y : Line) (m : Cube) → Member y ys → meet_cubes x.cube y.cube ≡ Some m → Member m (cubes_of kept)) → add_lines kept (row Union x ys) ≡ kept
rest_hidden kept x [] there = refl
rest_hidden kept x (y ∷ ys) there = of (meet_cubes x.cube y.cube) refl (rest_hidden kept x ys (λ z m k e. there z m (inr k) e))
  where
    of : (o : Option Cube) → meet_cubes x.cube y.cube ≡ o → add_lines kept (row Union x ys) ≡ kept
        → add_lines kept (cons_line (option_map (line (joined Union x.results y.results)) o) (row Union x ys)) ≡ kept
    of None e rest = rest
    of (Some m) e rest =
        ap (λ b. add_lines (cond b kept (kept ++ line (joined Union x.results y.results) m ∷ [])) (row Union x ys))
        (there-shadowed kept (line (joined Union x.results y.results) m) (there y m (inl refl) e)) ∙ rest

-- only the rule that the first one holds is added
row_once : (kept : List Line) (x : Line) (ys : List Line) (y : Line) → is_shadowed kept (line [] x.cube) ≡ false → first_holding x.cube ys ≡ Some y
    → ((z : Line) (m : Cube) → Member z ys → meet_cubes x.cube z.cube ≡ Some m → Member m (cubes_of kept) ⊎ (m ≡ x.cube))
    → add_lines kept (row Union x ys) ≡ kept ++ line (joined Union x.results y.results) x.cube ∷ []
row_once kept x [] y fresh first there = absurd (false≢true (ap (λ (o : Option Line). is_some o) first))
row_once kept x (z ∷ ys) y fresh first there = elim (cases_Bool (lies_within_cube x.cube z.cube)) [
  | inl inside ↦
      ap (λ o. add_lines kept (cons_line (option_map (line js) o) (row Union x ys))) (within_meet x.cube z.cube inside)
      ∙ ap (λ b. add_lines (cond b kept (kept ++ line js x.cube ∷ [])) (row Union x ys)) (shadowed-cube kept js [] x.cube ∙ fresh)
      ∙ rest_hidden (kept ++ line js x.cube ∷ []) x ys (λ w m k e. subst (Member m) (sym (cubes-push kept (line js x.cube))) (elim (there w m (inr k) e) [
        | inl old ↦ SetLemmas.Member-append_left (cubes_of kept) (x.cube ∷ []) m old
        | inr own ↦ SetLemmas.Member-append_right (cubes_of kept) (x.cube ∷ []) m (inl own)
      ]))
      ∙ ap (λ (w : Line). kept ++ line (joined Union x.results w.results) x.cube ∷ []) (same_Some _ _ (sym (ap (λ b. cond b (Some z) (first_holding x.cube ys)) inside) ∙ first))
  | inr outside ↦ of outside (meet_cubes x.cube z.cube) refl (row_once kept x ys y fresh (sym (ap (λ b. cond b (Some z) (first_holding x.cube ys)) outside) ∙ first) (λ w m k e. there w m (inr k) e))
]
  where
    js : List Item
    js = joined Union x.results z.results

    of : lies_within_cube x.cube z.cube ≡ false → (o : Option Cube) → meet_cubes x.cube z.cube ≡ o → add_lines kept (row Union x ys) ≡ kept ++ line (joined Union x.results y.results) x.cube ∷ []
        → add_lines kept (cons_line (option_map (line js) o) (row Union x ys)) ≡ kept ++ line (joined Union x.results y.results) x.cube ∷ []
    of outside None e rest = rest
    of outside (Some m) e rest = elim (there z m (inl refl) e) [
      | inl old ↦ ap (λ b. add_lines (cond b kept (kept ++ line js m ∷ [])) (row Union x ys)) (there-shadowed kept (line js m) old) ∙ rest
      | inr own ↦ absurd (false≢true (sym outside ∙ meet_within x.cube z.cube (e ∙ ap Some own)))
    ]

-- ---- which cubes are there

there_member : (xs : List Line) (c : Cube) → is_there xs c ≡ true → Member c (cubes_of xs)
there_member [] c e = absurd (false≢true e)
there_member (x ∷ xs) c e = elim (cases_Bool (same_cube x.cube c)) [
  | inl same ↦ inl (sym (same_cube_exact x.cube c same))
  | inr apart ↦ inr (there_member xs c (sym (ap (λ b. b || is_there xs c) apart) ∙ e))
]

member_there : (xs : List Line) (c : Cube) → Member c (cubes_of xs) → is_there xs c ≡ true
member_there [] c k = elim k [ ]
member_there (x ∷ xs) c (inl e) = ap (λ b. b || is_there xs c) (ap (same_cube x.cube) e ∙ and_from _ _ (within_refl x.cube) (within_refl x.cube))
member_there (x ∷ xs) c (inr k) = or_right (same_cube x.cube c) (is_there xs c) (member_there xs c k)

-- a cube that is hidden, where that of all headers isn't there, is there
pub hidden_there : (xs : List Line) (c d : Cube) → (is_there xs d || is_there xs everything) ≡ false → (is_there xs c || is_there xs everything) ≡ true → Member c (cubes_of xs)
hidden_there xs c d fresh hidden =
    there_member xs c (sym (or-false (is_there xs c)) ∙ ap (λ b. is_there xs c || b) (sym (or_parts (is_there xs d) (is_there xs everything) fresh).1) ∙ hidden)

unshadowed : (xs : List Line) (c : Cube) → (is_there xs c || is_there xs everything) ≡ false → is_shadowed xs (line [] c) ≡ false
unshadowed xs c fresh =
    let parts = or_parts (is_there xs c) (is_there xs everything) fresh in
    elim (cases_Bool (is_shadowed xs (line [] c))) [
      | inl hidden ↦ elim (shadowed-there xs (line [] c) hidden) [
        | inl own ↦ absurd (false≢true (sym parts.0 ∙ member_there xs c own))
        | inr all ↦ absurd (false≢true (sym parts.1 ∙ member_there xs everything all))
      ]
      | inr clear ↦ clear
    ]

-- ---- the receiver's rules

pub first_received : (hop : PortNo) (c : Cube) (ys : List Line) (y : Line) → first_holding c ys ≡ Some y → first_holding c (received_lines hop ys) ≡ Some (line (received_items hop y.results) y.cube)
first_received hop c [] y e = absurd (false≢true (ap (λ (o : Option Line). is_some o) e))
first_received hop c (z ∷ ys) y e = elim (cases_Bool (lies_within_cube c z.cube)) [
  | inl inside ↦
      ap (λ b. cond b (Some (line (received_items hop z.results) z.cube)) (first_holding c (received_lines hop ys))) inside
      ∙ ap (option_map (λ (w : Line). line (received_items hop w.results) w.cube)) (sym (ap (λ b. cond b (Some z) (first_holding c ys)) inside) ∙ e)
  | inr outside ↦
      ap (λ b. cond b (Some (line (received_items hop z.results) z.cube)) (first_holding c (received_lines hop ys))) outside
      ∙ first_received hop c ys y (sym (ap (λ b. cond b (Some z) (first_holding c ys)) outside) ∙ e)
]

module _ (tests : List Cube) (kept : List Line) (x : Line) (hop : PortNo) (ys : List Line) (y : Line) where
  -- a rule that the receiver's don't cut is joined with the first one that holds it
  pub joined_once : AreMeets tests (received_lines hop ys) → AreClosed tests kept → AreThere kept x.cube tests → (is_there kept x.cube || is_there kept everything) ≡ false → first_holding x.cube ys ≡ Some y
      → add_line kept (line (add_all x.results (received_items hop y.results)) x.cube) ≡ add_lines kept (row Union x (received_lines hop ys))
  joined_once meets closed there fresh first =
      ap (λ b. cond b kept (kept ++ line (add_all x.results (received_items hop y.results)) x.cube ∷ [])) (shadowed-cube kept (add_all x.results (received_items hop y.results)) [] x.cube ∙ unshadowed kept x.cube fresh)
      ∙ sym (row_once kept x (received_lines hop ys) (line (received_items hop y.results) y.cube) (unshadowed kept x.cube fresh) (first_received hop x.cube ys y first) uncut)
    where
      uncut : (z : Line) (m : Cube) → Member z (received_lines hop ys) → meet_cubes x.cube z.cube ≡ Some m → Member m (cubes_of kept) ⊎ (m ≡ x.cube)
      uncut z m k e =
          let stands = closed_meet tests (kept ++ x ∷ []) (closed_more tests kept x closed there) z.cube (meets z k) x.cube m
          (subst (Member x.cube) (sym (cubes-push kept x)) (SetLemmas.Member-append_right (cubes_of kept) (x.cube ∷ []) x.cube (inl refl))) e in
          elim (SetLemmas.Member-append_cases (cubes_of kept) (x.cube ∷ []) m (subst (Member m) (cubes-push kept x) stands)) [
            | inl old ↦ inl old
            | inr own ↦ elim own [ inl is ↦ inr is | inr none ↦ elim none [ ] ]
          ]

  -- and the rules stay closed
  pub closed_once : AreClosed tests kept → AreThere kept x.cube tests → (is_there kept x.cube || is_there kept everything) ≡ false → AreClosed tests (add_line kept (line (add_all x.results (received_items hop y.results)) x.cube))
  closed_once closed there fresh =
      let z : Line = line (add_all x.results (received_items hop y.results)) x.cube in
      subst (AreClosed tests) (sym (ap (λ b. cond b kept (kept ++ line (add_all x.results (received_items hop y.results)) x.cube ∷ [])) (shadowed-cube kept (add_all x.results (received_items hop y.results)) [] x.cube ∙ unshadowed kept x.cube fresh)))
      (closed_more tests kept z closed there)

-- the cube of all headers is a meet of any cubes
pub meets_alone : (tests : List Cube) (items : List Item) → AreMeets tests (line items everything ∷ [])
meets_alone tests items z k = elim k [ inl e ↦ subst (IsMeet tests) (ap (λ (w : Line). w.cube) (sym e)) (IsMeet-everything tests) | inr none ↦ elim none [ ] ]

-- the rules of a receiver have the cubes of its own
pub meets_received : (tests : List Cube) (hop : PortNo) (ys : List Line) → AreMeets tests ys → AreMeets tests (received_lines hop ys)
meets_received tests hop [] meets z k = elim k [ ]
meets_received tests hop (y ∷ ys) meets z k = elim k [
  | inl e ↦ subst (IsMeet tests) (ap (λ (w : Line). w.cube) (sym e)) (meets y (inl refl))
  | inr later ↦ meets_received tests hop ys (λ w i. meets w (inr i)) z later
]

-- ---- the first rule that holds a cube

pub first_apart : (c hull : Cube) (ys : List Line) → holds_each hull ys ≡ true → lies_within_cube c hull ≡ false → first_holding c ys ≡ None
first_apart c hull [] held outside = refl
first_apart c hull (y ∷ ys) held outside =
    let parts = and_parts (lies_within_cube y.cube hull) (holds_each hull ys) held in
    elim (cases_Bool (lies_within_cube c y.cube)) [
      | inl inside ↦ absurd (false≢true (sym outside ∙ within_trans c y.cube hull inside parts.0))
      | inr other ↦ ap (λ b. cond b (Some y) (first_holding c ys)) other ∙ first_apart c hull ys parts.1 outside
    ]

pub first_here : (c : Cube) (ys zs : List Line) (y : Line) → first_holding c ys ≡ Some y → first_holding c (ys ++ zs) ≡ Some y
first_here c [] zs y e = absurd (false≢true (ap (λ (o : Option Line). is_some o) e))
first_here c (x ∷ ys) zs y e = elim (cases_Bool (lies_within_cube c x.cube)) [
  | inl inside ↦ ap (λ b. cond b (Some x) (first_holding c (ys ++ zs))) inside ∙ sym (ap (λ b. cond b (Some x) (first_holding c ys)) inside) ∙ e
  | inr other ↦ ap (λ b. cond b (Some x) (first_holding c (ys ++ zs))) other ∙ first_here c ys zs y (sym (ap (λ b. cond b (Some x) (first_holding c ys)) other) ∙ e)
]

pub first_later : (c : Cube) (ys zs : List Line) → first_holding c ys ≡ None → first_holding c (ys ++ zs) ≡ first_holding c zs
first_later c [] zs e = refl
first_later c (x ∷ ys) zs e = elim (cases_Bool (lies_within_cube c x.cube)) [
  | inl inside ↦ absurd (false≢true (sym (ap (λ (o : Option Line). is_some o) (sym (ap (λ b. cond b (Some x) (first_holding c ys)) inside) ∙ e))))
  | inr other ↦ ap (λ b. cond b (Some x) (first_holding c (ys ++ zs))) other ∙ first_later c ys zs (sym (ap (λ b. cond b (Some x) (first_holding c ys)) other) ∙ e)
]

pub runs_more : (runs : List Run) (i : ℕ) (run : Run) → i < length runs → run ≡ get_or runs i run → lines_in (drop i runs) ≡ run.lines.now ++ lines_in (drop (i + 1) runs)
runs_more runs i run lt at = at_drop_more (λ (rs : List Run). lines_in rs) runs i run lt ∙ ap (λ (r : Run). lines_in (r ∷ drop (i + 1) runs)) (sym at)

pub groups_more : (groups : List Group) (i : ℕ) (group : Group) → i < length groups → group ≡ get_or groups i group → lines_within (drop i groups) ≡ lines_in group.runs.items ++ lines_within (drop (i + 1) groups)
groups_more groups i group lt at = at_drop_more (λ (gs : List Group). lines_within gs) groups i group lt ∙ ap (λ (g : Group). lines_within (g ∷ drop (i + 1) groups)) (sym at)

-- ---- loops over lists

-- what holds of the first items and of one more holds of these together
pub each_more : {A : Type 0} (P : A → Type 0) (xs : List A) (i : ℕ) (x : A) → i < length xs → x ≡ get_or xs i x → ((y : A) → Member y (take i xs) → P y) → P x → (y : A) → Member y (take (i + 1) xs) → P y
each_more P xs i x lt at f p y k = elim (SetLemmas.Member-append_cases (take i xs) (x ∷ []) y (subst (Member y) (take_more xs i x lt ∙ ap (λ z. take i xs ++ z ∷ []) (sym at)) k)) [
  | inl old ↦ f y old
  | inr own ↦ elim own [ inl e ↦ subst P (sym e) p | inr none ↦ elim none [ ] ]
]

-- ---- tested cubes

-- a meet of some cubes is one of more
pub meet_kept : (cs ds : List Cube) (c : Cube) → AreKept cs ds → IsMeet cs c → IsMeet ds c
meet_kept cs ds c kept m = IsMeet-wider cs ds (λ a k. IsMeet-member ds a (kept a k)) c m
