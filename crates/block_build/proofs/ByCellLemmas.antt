-- Rules that are built cell by cell decide as those that are joined one by one.
use Rattle.std.proofs.Common.{◌≡◌, ◌≤◌, ◌<◌, ◌+◌, ℕ, zero, suc, arith, drop, get_or, Bool, true, false, cond, Option, Some, None, IfOk, IfSome, unwrap_or, List, [], ◌∷◌, ◌++◌, length, map, refl, inl, inr, sym, ap, ◌∙◌, subst}
use Rattle.std.specs.List.{slice_get}
use Rattle.std.specs.Prelude.{Result, Ok, Err}
use Rattle.std.specs.Option.{is_some, option_map, option_map_or}
use Rattle.std.proofs.lemmas.Bool.{cases_Bool, false≢true}
use Rattle.std.proofs.lemmas.List.{at_drop_more}
use Rattle.std.proofs.lemmas.Option.{same_Some}
use Rattle.cells.specs.Cells.{first_of}
use Rattle.cells.specs.Firsts.{first_place}
use Rattle.cells.proofs.FirstLemmas.{first-decides}
use Rattle.classifier.proofs.DecideLemmas.{decide-add_lines, map_twice}
use Rattle.classifier.proofs.LineLemmas.{each-add_lines}
use Rattle.classifier.proofs.ResultLemmas.{cube-stands}
use Rattle.classifier.proofs.ShapeLemmas.{distinct-add_lines}
use Rattle.classifier.specs.Items.{Item, add_all}
use Rattle.classifier.specs.Lines.{add_lines, line}
use Rattle.classifier.specs.Meaning.{cubes_of, decide, given}
use Rattle.classifier.specs.declared.line.Line.{Line}
use Rattle.net_types.proofs.MeetLemmas.{IsMeet-member}
use Rattle.net_types.proofs.SetLemmas
use Rattle.net_types.proofs.CubeLemmas.{has-everything, within-from_has}
use Rattle.net_types.specs.Cubes.{everything, has, lies_within_cube}
use Rattle.net_types.specs.Meets.{IsMeet}
use Rattle.net_types.specs.Sets.{Member}
use Rattle.net_types.specs.declared.address.Pid.{Pid}
use Rattle.net_types.specs.declared.address.PortNo.{PortNo}
use Rattle.net_types.specs.declared.cube.Cube.{Cube}
use Rattle.net_types.specs.declared.headers.Headers.{Headers}
use Rattle.net_types.specs.declared.route.Offer.{Offer}
use Rattle.block_build.proofs.DecideBlocks.{decide-blocks}
use Rattle.block_build.specs.Bounds.{AreMeets, IsBuilt, IsSome}
use Rattle.block_build.specs.ByCells.{AreCellsFor, AreTheirs, HasCubes, beside_all, beside_at, beside_them, dropping, held_by}
use Rattle.block_build.specs.Closed.{first_holding}
use Rattle.block_build.specs.Gathered.{gathered, gathered_by}
use Rattle.block_build.specs.Offers.{goes_to, has_one_left}
use Rattle.block_build.specs.Reached.{AreReached}
use Rattle.block_build.specs.Receivers.{received_items, received_lines}
use Rattle.block_build.specs.Spreads.{blocks}
use Rattle.block_build.specs.declared.receive.Receiver.{Receiver}

-- what holds of an answer, where it is one
pub ok-map : {A E : Type 0} (r : Result A E) (P Q : A → Type 0) → ((x : A) → P x → Q x) → IfOk r P → IfOk r Q
ok-map (Ok x) P Q f p = f x p
ok-map (Err e) P Q f p = p

pub some-map : {A : Type 0} (o : Option A) (P Q : A → Type 0) → ((x : A) → P x → Q x) → IfSome o P → IfSome o Q
some-map (Some x) P Q f p = f x p
some-map None P Q f p = p

-- ---- the first rule that holds a cube, by its place

at-step : (y : Line) (ys : List Line) (p : ℕ) (b : Bool) (o : Option ℕ) (f : Option Line) → ((q : ℕ) → o ≡ Some q → slice_get ys q ≡ f)
    → cond b (Some 0) (option_map suc o) ≡ Some p → slice_get (y ∷ ys) p ≡ cond b (Some y) f
at-step y ys zero true o f more e = refl
at-step y ys (suc p) true o f more e = let n = same_Some _ _ e in absurd (omega (arith, n))
at-step y ys p false None f more e = absurd (false≢true (ap (λ (o : Option ℕ). is_some o) e))
at-step y ys p false (Some q) f more e = subst (λ n. slice_get (y ∷ ys) n ≡ f) (same_Some _ _ e) (more q refl)

pub holding-at : (c : Cube) (ys : List Line) (p : ℕ) → first_place c (cubes_of ys) ≡ Some p → slice_get ys p ≡ first_holding c ys
holding-at c [] p e = absurd (false≢true (ap (λ (o : Option ℕ). is_some o) e))
holding-at c (y ∷ ys) p e = at-step y ys p (lies_within_cube c y.cube) (first_place c (cubes_of ys)) (first_holding c ys) (λ q f. holding-at c ys q f) e

none-step : (y : Line) (b : Bool) (o : Option ℕ) (f : Option Line) → (o ≡ None → f ≡ None) → cond b (Some 0) (option_map suc o) ≡ None → cond b (Some y) f ≡ None
none-step y true o f more e = absurd (false≢true (sym (ap (λ (p : Option ℕ). is_some p) e)))
none-step y false None f more e = more refl
none-step y false (Some q) f more e = absurd (false≢true (sym (ap (λ (p : Option ℕ). is_some p) e)))

pub holding-none : (c : Cube) (ys : List Line) → first_place c (cubes_of ys) ≡ None → first_holding c ys ≡ None
holding-none c [] e = refl
holding-none c (y ∷ ys) e = none-step y (lies_within_cube c y.cube) (first_place c (cubes_of ys)) (first_holding c ys) (λ f. holding-none c ys f) e

-- it is there where it has a place
there-step : (y : Line) (b : Bool) (o : Option ℕ) (f : Option Line) (p : ℕ) → ((q : ℕ) → o ≡ Some q → is_some f ≡ true) → cond b (Some 0) (option_map suc o) ≡ Some p → is_some (cond b (Some y) f) ≡ true
there-step y true o f p more e = refl
there-step y false None f p more e = absurd (false≢true (ap (λ (q : Option ℕ). is_some q) e))
there-step y false (Some q) f p more e = more q refl

pub holding-there : (c : Cube) (ys : List Line) (p : ℕ) → first_place c (cubes_of ys) ≡ Some p → is_some (first_holding c ys) ≡ true
holding-there c [] p e = absurd (false≢true (ap (λ (o : Option ℕ). is_some o) e))
holding-there c (y ∷ ys) p e = there-step y (lies_within_cube c y.cube) (first_place c (cubes_of ys)) (first_holding c ys) p (λ q f. holding-there c ys q f) e

pub none_some : {A : Type 0} (x : A) → None ≡ Some x → ⊥
none_some {A = A} x e = false≢true (ap (λ (o : Option A). is_some o) e)

-- what the rule at a place gives
pub record Holds (c : Cube) (ys : List Line) (p : ℕ) : Type 0 where
  pub rule : Line
  pub stands : slice_get ys p ≡ Some rule
  pub gives : rule.results ≡ held_by c ys

pub held-at : (c : Cube) (ys : List Line) (p : ℕ) → first_place c (cubes_of ys) ≡ Some p → Holds c ys p
held-at c ys p e = of (first_holding c ys) refl (holding-there c ys p e)
  where
    of : (o : Option Line) → first_holding c ys ≡ o → is_some o ≡ true → Holds c ys p
    of None f there = absurd (false≢true there)
    of (Some y) f there = record { rule = y; stands = holding-at c ys p e ∙ f; gives = sym (ap (λ o. option_map_or (λ (z : Line). z.results) o []) f) }

pub held-none : (c : Cube) (ys : List Line) → first_place c (cubes_of ys) ≡ None → held_by c ys ≡ []
held-none c ys e = ap (λ o. option_map_or (λ (z : Line). z.results) o []) (holding-none c ys e)

-- what the rules of a receiver give that hold a cube
received-step : (hop : PortNo) (b : Bool) (y : Line) (o p : Option Line) → o ≡ option_map (λ (z : Line). line (received_items hop z.results) z.cube) p
    → cond b (Some (line (received_items hop y.results) y.cube)) o ≡ option_map (λ (z : Line). line (received_items hop z.results) z.cube) (cond b (Some y) p)
received-step hop true y o p e = refl
received-step hop false y o p e = e

holding-received : (hop : PortNo) (c : Cube) (ys : List Line) → first_holding c (received_lines hop ys) ≡ option_map (λ (z : Line). line (received_items hop z.results) z.cube) (first_holding c ys)
holding-received hop c [] = refl
holding-received hop c (y ∷ ys) = received-step hop (lies_within_cube c y.cube) y (first_holding c (received_lines hop ys)) (first_holding c ys) (holding-received hop c ys)

pub held-received : (hop : PortNo) (c : Cube) (ys : List Line) (o : Option Line) → o ≡ first_holding c ys → option_map_or (λ (y : Line). received_items hop y.results) o [] ≡ held_by c (received_lines hop ys)
held-received hop c ys o e = of o ∙ ap (λ p. option_map_or (λ (y : Line). y.results) p []) (ap (option_map (λ (z : Line). line (received_items hop z.results) z.cube)) e ∙ sym (holding-received hop c ys))
  where
    of : (p : Option Line) → option_map_or (λ (y : Line). received_items hop y.results) p [] ≡ option_map_or (λ (y : Line). y.results) (option_map (λ (z : Line). line (received_items hop z.results) z.cube) p) []
    of None = refl
    of (Some y) = refl

pub held-everything : (c : Cube) (items : List Item) → held_by c (line items everything ∷ []) ≡ items
held-everything c items = ap (λ b. option_map_or (λ (y : Line). y.results) (cond b (Some (line items everything)) None) []) (within-from_has c everything (λ h t. has-everything h))

-- ---- rules decide by the first that holds a cube, where each holds all of it or none of the headers

holding-step : (b : Bool) (y : Line) (o : Option (List Item)) (f : Option Line) → o ≡ option_map (λ (x : Line). x.results) f → cond b (Some y.results) o ≡ option_map (λ (x : Line). x.results) (cond b (Some y) f)
holding-step true y o f e = refl
holding-step false y o f e = e

pub decide-holding : (c : Cube) (ys : List Line) (h : Headers) → ((y : Line) → Member y ys → lies_within_cube c y.cube ≡ has y.cube h) → decide ys h ≡ option_map (λ (y : Line). y.results) (first_holding c ys)
decide-holding c [] h same = refl
decide-holding c (y ∷ ys) h same =
    ap (λ b. cond b (Some y.results) (decide ys h)) (sym (same y (inl refl)))
    ∙ holding-step (lies_within_cube c y.cube) y (decide ys h) (first_holding c ys) (decide-holding c ys h (λ z k. same z (inr k)))

held_or : (o : Option Line) → unwrap_or (option_map (λ (y : Line). y.results) o) [] ≡ option_map_or (λ (y : Line). y.results) o []
held_or None = refl
held_or (Some y) = refl

given-held : (c : Cube) (ys : List Line) (h : Headers) → ((y : Line) → Member y ys → lies_within_cube c y.cube ≡ has y.cube h) → given ys h ≡ held_by c ys
given-held c ys h same = ap (λ o. unwrap_or o []) (decide-holding c ys h same) ∙ held_or (first_holding c ys)

-- the rule by which headers are decided
record Decided (xs : List Line) (h : Headers) (items : List Item) : Type 0 where
  rule : Line
  stands : Member rule xs
  holds : has rule.cube h ≡ true
  gives : rule.results ≡ items

decided-by : (xs : List Line) (h : Headers) (items : List Item) → decide xs h ≡ Some items → Decided xs h items
decided-by [] h items e = absurd (false≢true (ap (λ (o : Option (List Item)). is_some o) e))
decided-by (x ∷ xs) h items e = elim (cases_Bool (has x.cube h)) [
  | inl here ↦ record { rule = x; stands = inl refl; holds = here; gives = same_Some _ _ (sym (ap (λ b. cond b (Some x.results) (decide xs h)) here) ∙ e) }
  | inr apart ↦
      let later = decided-by xs h items (sym (ap (λ b. cond b (Some x.results) (decide xs h)) apart) ∙ e) in
      record { rule = later.rule; stands = inr later.stands; holds = later.holds; gives = later.gives }
]

-- ---- the rule of the cell of some headers

abbrev first_line : List Line → Headers → Option Line
first_line [] h = None
first_line (z ∷ zs) h = cond (has z.cube h) (Some z) (first_line zs h)

decide-step : (b : Bool) (z : Line) (o : Option (List Item)) (p : Option Line) → o ≡ option_map (λ (y : Line). y.results) p → cond b (Some z.results) o ≡ option_map (λ (y : Line). y.results) (cond b (Some z) p)
decide-step true z o p e = refl
decide-step false z o p e = e

decide-first : (zs : List Line) (h : Headers) → decide zs h ≡ option_map (λ (z : Line). z.results) (first_line zs h)
decide-first [] h = refl
decide-first (z ∷ zs) h = decide-step (has z.cube h) z (decide zs h) (first_line zs h) (decide-first zs h)

-- the cells begin with nothing
dropping-first : (cubes : List Cube) (h : Headers) (a : Cube) → Member a cubes → has a h ≡ true → first_line (dropping cubes) h ≡ Some (line [] (first_of cubes h))
dropping-first [] h a k t = elim k [ ]
dropping-first (c ∷ cs) h a k t = elim (cases_Bool (has c h)) [
  | inl here ↦ ap (λ x. cond x (Some (line [] c)) (first_line (dropping cs) h)) here ∙ sym (ap (λ x. Some (line [] (cond x c (first_of cs h)))) here)
  | inr away ↦
      let rest : Member a cs = elim k [ inl same ↦ absurd (false≢true (sym away ∙ ap (λ d. has d h) (sym same) ∙ t)) | inr later ↦ later ] in
      ap (λ x. cond x (Some (line [] c)) (first_line (dropping cs) h)) away ∙ dropping-first cs h a rest t ∙ sym (ap (λ x. Some (line [] (cond x c (first_of cs h)))) away)
]

line_id : (o : Option Line) → o ≡ option_map (λ (z : Line). z) o
line_id None = refl
line_id (Some z) = refl

module _ (best : Pid) (offers : List Offer) (xs : List Line) where
  beside-step : (r : Receiver) (z : Line) (b : Bool) (o p : Option Line) → o ≡ option_map (beside_at best offers xs r) p
      → cond b (Some (beside_at best offers xs r z)) o ≡ option_map (beside_at best offers xs r) (cond b (Some z) p)
  beside-step r z true o p e = refl
  beside-step r z false o p e = e

  first-beside : (r : Receiver) (zs : List Line) (h : Headers) → first_line (map (beside_at best offers xs r) zs) h ≡ option_map (beside_at best offers xs r) (first_line zs h)
  first-beside r [] h = refl
  first-beside r (z ∷ zs) h = beside-step r z (has z.cube h) (first_line (map (beside_at best offers xs r) zs) h) (first_line zs h) (first-beside r zs h)

  first-all : (zs : List Line) (rs : List Receiver) (h : Headers) → first_line (beside_all best offers xs zs rs) h ≡ option_map (λ z. beside_them best offers xs rs z) (first_line zs h)
  first-all zs [] h = line_id (first_line zs h)
  first-all zs (r ∷ rs) h =
      first-all (map (beside_at best offers xs r) zs) rs h
      ∙ ap (option_map (λ z. beside_them best offers xs rs z)) (first-beside r zs h)
      ∙ map_twice (λ z. beside_them best offers xs rs z) (beside_at best offers xs r) (first_line zs h)

  -- it is what the receivers' rules give, where each holds all of the cell or none of the headers
  made-gathered : (z : Line) (rs : List Receiver) (h : Headers) → ((r : Receiver) → Member r rs → given r.lines h ≡ held_by z.cube r.lines)
      → (beside_them best offers xs rs z).results ≡ gathered (has_one_left offers (held_by z.cube xs)) best (held_by z.cube xs) h z.results rs
  made-gathered z [] h same = refl
  made-gathered z (r ∷ rs) h same =
      made-gathered (beside_at best offers xs r z) rs h (λ q k. same q (inr k))
      ∙ ap (λ items. gathered (has_one_left offers (held_by z.cube xs)) best (held_by z.cube xs) h (cond (goes_to (has_one_left offers (held_by z.cube xs)) best (held_by z.cube xs) r.who) (add_all z.results items) z.results) rs) (sym (same r (inl refl)))

module _ (best : Pid) (offers : List Offer) (rs : List Receiver) (xs : List Line) (cubes : List Cube) (are : AreCellsFor rs xs cubes) where
  agrees : (h : Headers) (ys : List Line) → HasCubes cubes ys → (y : Line) → Member y ys → lies_within_cube (first_of cubes h) y.cube ≡ has y.cube h
  agrees h ys there y k = first-decides cubes h y.cube are.closed (IsMeet-member cubes y.cube (there y k))

  cells-give : (h : Headers) (items : List Item) → decide xs h ≡ Some items → decide (add_lines [] (beside_all best offers xs (dropping cubes) rs)) h ≡ Some (gathered_by best offers rs h items)
  cells-give h items e =
      let d = decided-by xs h items e in
      let c = first_of cubes h in
      let own : held_by c xs ≡ items = sym (given-held c xs h (agrees h xs are.has.own)) ∙ ap (λ o. unwrap_or o []) e in
      decide-add_lines [] (beside_all best offers xs (dropping cubes) rs) h
      ∙ decide-first (beside_all best offers xs (dropping cubes) rs) h
      ∙ ap (option_map (λ (y : Line). y.results)) (first-all best offers xs (dropping cubes) rs h
      ∙ ap (option_map (λ y. beside_them best offers xs rs y)) (dropping-first cubes h d.rule.cube (are.has.own d.rule d.stands) d.holds))
      ∙ ap Some (made-gathered best offers xs (line [] c) rs h (λ r k. given-held c r.lines h (agrees h r.lines (are.has.theirs r k)))
      ∙ ap (λ sent. gathered (has_one_left offers sent) best sent h [] rs) own)

-- ---- which cubes the rules have

cubes-beside : (best : Pid) (offers : List Offer) (xs : List Line) (r : Receiver) (zs : List Line) → cubes_of (map (beside_at best offers xs r) zs) ≡ cubes_of zs
cubes-beside best offers xs r [] = refl
cubes-beside best offers xs r (z ∷ zs) = ap (λ cs. z.cube ∷ cs) (cubes-beside best offers xs r zs)

-- one receiver more keeps them
pub cubes-kept : (best : Pid) (offers : List Offer) (xs : List Line) (r : Receiver) (zs more : List Line) → more ≡ map (beside_at best offers xs r) zs → cubes_of more ≡ cubes_of zs
cubes-kept best offers xs r zs more e = ap cubes_of e ∙ cubes-beside best offers xs r zs

-- the cell at a place
cube-front : (ys : List Line) (z : Line) (zs : List Line) → slice_get (cubes_of (ys ++ z ∷ zs)) (length ys) ≡ Some z.cube
cube-front [] z zs = refl
cube-front (y ∷ ys) z zs = cube-front ys z zs

pub cube-at : (ys : List Line) (z : Line) (zs whole : List Line) (n : ℕ) → n ≡ length ys → ys ++ z ∷ zs ≡ whole → slice_get (cubes_of whole) n ≡ Some z.cube
cube-at ys z zs whole n e all = ap (slice_get (cubes_of whole)) e ∙ ap (λ ws. slice_get (cubes_of ws) (length ys)) (sym all) ∙ cube-front ys z zs

-- the step of the loop over the receivers
pub all-more : (best : Pid) (offers : List Offer) (xs zs more : List Line) (rs : List Receiver) (i : ℕ) (r : Receiver) → i < length rs → r ≡ get_or rs i r → more ≡ map (beside_at best offers xs r) zs
    → beside_all best offers xs more (drop (i + 1) rs) ≡ beside_all best offers xs zs (drop i rs)
all-more best offers xs zs more rs i r lt at e =
    ap (λ ws. beside_all best offers xs ws (drop (i + 1) rs)) e
    ∙ sym (at_drop_more (beside_all best offers xs zs) rs i r lt ∙ ap (λ q. beside_all best offers xs zs (q ∷ drop (i + 1) rs)) (sym at))

pub cubes-all : (best : Pid) (offers : List Offer) (xs zs : List Line) (rs : List Receiver) → cubes_of (beside_all best offers xs zs rs) ≡ cubes_of zs
cubes-all best offers xs zs [] = refl
cubes-all best offers xs zs (r ∷ rs) = cubes-all best offers xs (map (beside_at best offers xs r) zs) rs ∙ cubes-beside best offers xs r zs

pub cubes-dropping : (cubes : List Cube) → cubes_of (dropping cubes) ≡ cubes
cubes-dropping [] = refl
cubes-dropping (c ∷ cubes) = ap (λ cs. c ∷ cs) (cubes-dropping cubes)

-- rules of these cubes, without those that can't be reached
meets-of : (atoms cubes : List Cube) (zs : List Line) → cubes_of zs ≡ cubes → ((c : Cube) → Member c cubes → IsMeet atoms c) → AreMeets atoms (add_lines [] zs)
meets-of atoms cubes zs same each =
    each-add_lines (λ z. IsMeet atoms z.cube) [] zs (λ z k. elim k [ ]) (λ z k. each z.cube (subst (Member z.cube) same (cube-stands zs z k)))

pub cells-built : (limit : ℕ) (best : Pid) (offers : List Offer) (rs : List Receiver) (xs : List Line) (cubes : List Cube) → AreCellsFor rs xs cubes
    → IsBuilt limit best offers rs xs (add_lines [] (beside_all best offers xs (dropping cubes) rs))
cells-built limit best offers rs xs cubes are = record {
  gives = λ within total h items e. cells-give best offers rs xs cubes are h items e;
  differ = distinct-add_lines [] (beside_all best offers xs (dropping cubes) rs) tt;
  meets = λ atoms theirs own.
      meets-of atoms cubes (beside_all best offers xs (dropping cubes) rs) (cubes-all best offers xs (dropping cubes) rs ∙ cubes-dropping cubes) (are.theirs atoms theirs own);
}

-- where there are too many
pub many-built : (limit : ℕ) (best : Pid) (offers : List Offer) (rs : List Receiver) (xs : List Line) (cubes : List Cube)
    → (length (add_lines [] (dropping cubes)) ≤ limit → ⊥) → AreTheirs rs xs cubes → IsBuilt limit best offers rs xs (add_lines [] (dropping cubes))
many-built limit best offers rs xs cubes over theirs = record {
  gives = λ within total h items e. absurd (over within);
  differ = distinct-add_lines [] (dropping cubes) tt;
  meets = λ atoms their own. meets-of atoms cubes (dropping cubes) (cubes-dropping cubes) (theirs atoms their own);
}

-- ---- rules that are joined one by one

pub some-built : (limit : ℕ) (best : Pid) (offers : List Offer) (rs : List Receiver) (xs made : List Line) → IsSome limit (add_lines [] (blocks best offers rs xs)) rs xs made → IsBuilt limit best offers rs xs made
some-built limit best offers rs xs made s = record {
  gives = λ within total h items e.
      ap (λ (zs : List Line). decide zs h) (s.whole_within within) ∙ decide-add_lines [] (blocks best offers rs xs) h ∙ decide-blocks best offers rs xs h total ∙ ap (option_map (gathered_by best offers rs h)) e;
  differ = s.differ;
  meets = s.meets;
}

-- ---- receivers that nobody sends to

gathered-append : (left : Bool) (best : Pid) (items : List Item) (h : Headers) (kept : List Item) (rs qs : List Receiver)
    → gathered left best items h kept (rs ++ qs) ≡ gathered left best items h (gathered left best items h kept rs) qs
gathered-append left best items h kept [] qs = refl
gathered-append left best items h kept (r ∷ rs) qs = gathered-append left best items h (cond (goes_to left best items r.who) (add_all kept (given r.lines h)) kept) rs qs

module _ (best : Pid) (offers : List Offer) (xs : List Line) (all made : List Receiver) (are : AreReached best offers xs all made) where
  -- one more that is left out
  pub reached-less : (r : Receiver) → ((x : Line) → Member x xs → goes_to (has_one_left offers x.results) best x.results r.who ≡ false) → AreReached best offers xs (all ++ r ∷ []) made
  reached-less r none = record {
    same = λ x k h kept.
        let left = has_one_left offers x.results in
        let before = gathered left best x.results h kept all in
        are.same x k h kept ∙ sym (gathered-append left best x.results h kept all (r ∷ []) ∙ ap (λ b. cond b (add_all before (given r.lines h)) before) (none x k));
    among = λ q k. SetLemmas.Member-append_left all (r ∷ []) q (are.among q k);
  }

  -- one more that isn't
  pub reached-more : (r : Receiver) → AreReached best offers xs (all ++ r ∷ []) (made ++ r ∷ [])
  reached-more r = record {
    same = λ x k h kept.
        let left = has_one_left offers x.results in
        gathered-append left best x.results h kept made (r ∷ [])
        ∙ ap (λ before. gathered left best x.results h before (r ∷ [])) (are.same x k h kept)
        ∙ sym (gathered-append left best x.results h kept all (r ∷ []));
    among = λ q k. elim (SetLemmas.Member-append_cases made (r ∷ []) q k) [
      | inl old ↦ SetLemmas.Member-append_left all (r ∷ []) q (are.among q old)
      | inr new ↦ SetLemmas.Member-append_right all (r ∷ []) q new
    ];
  }

  pub built-all : (limit : ℕ) (lines : List Line) → IsBuilt limit best offers made xs lines → IsBuilt limit best offers all xs lines
  built-all limit lines b = record {
    gives = λ within total h items e.
        let d = decided-by xs h items e in
        b.gives within (λ r k. total r (are.among r k)) h items e
        ∙ ap Some (subst (λ is. gathered (has_one_left offers is) best is h [] made ≡ gathered (has_one_left offers is) best is h [] all) d.gives (are.same d.rule d.stands h []));
    differ = b.differ;
    meets = λ atoms theirs own. b.meets atoms (λ r k. theirs r (are.among r k)) own;
  }
