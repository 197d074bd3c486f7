-- What is found of each cell, one cube after another.
use Rattle.std.proofs.Common.{arith, ◌≡◌, ◌⊎◌, ℕ, zero, suc, ◌<◌, ◌≤◌, ◌+◌, ◌/◌, Bool, true, false, cond, not, ◌&&◌, ◌||◌, eqb, Option, Some, None, List, [], ◌∷◌, ◌++◌, length, take, set, get_or, refl, inl, inr, sym, ap, ◌∙◌, subst}
use Rattle.std.specs.List.{slice_get}
use Rattle.std.specs.Option.{is_some}
use Rattle.std.proofs.lemmas.Bool.{and_parts, cases_Bool, cases_eq, cases_lt, eqb-true, false≢true, or_cases}
use Rattle.std.proofs.lemmas.List.{ext_get_or, get_or-set_same, get_or-set_other, length-map, length-set, take_more}
use Rattle.std.proofs.lemmas.Option.{get_or_from_slice_get, same_Some, slice_get_within}
use Rattle.net_types.specs.declared.cube.Cube.{Cube}
use Rattle.net_types.specs.Cubes.{everything, lies_within_cube}
use Rattle.place_sets.specs.Places.{has_place}
use Rattle.cells.specs.Blocks.{KeepsInner}
use Rattle.cells.specs.Firsts.{first_place, firsts, noted}
use Rattle.cells.specs.Marks.{AreAllNoted, AreFound, AreLeft, AreNoted, found_at}
use Rattle.cells.proofs.FirstLemmas.{first-front, first-more, firsts-at}

-- ---- one cell

pub noted-some : (i : ℕ) (a c : Cube) (o : Option ℕ) → is_some o ≡ true → noted i a c o ≡ o
noted-some i a c None h = absurd (false≢true h)
noted-some i a c (Some k) h = refl

pub noted-outside : (i : ℕ) (a c : Cube) (o : Option ℕ) → lies_within_cube c a ≡ false → noted i a c o ≡ o
noted-outside i a c None f = ap (λ b. cond b (Some i) None) f
noted-outside i a c (Some k) f = refl

pub noted-twice : (i : ℕ) (a c : Cube) (o : Option ℕ) → noted i a c (noted i a c o) ≡ noted i a c o
noted-twice i a c None = of (lies_within_cube c a) refl
  where
    of : (b : Bool) → lies_within_cube c a ≡ b → noted i a c (cond b (Some i) None) ≡ cond b (Some i) None
    of true e = refl
    of false e = ap (λ b. cond b (Some i) None) e
noted-twice i a c (Some k) = refl

noted-keeps : (i : ℕ) (a c : Cube) (o : Option ℕ) → is_some o ≡ true → is_some (noted i a c o) ≡ true
noted-keeps i a c o h = ap is_some (noted-some i a c o h) ∙ h

-- ---- some cells

-- none was looked at yet
pub noted-none : (i : ℕ) (a : Cube) (cells : List Cube) (found : List (Option ℕ)) (meant : ℕ → Type 0) → ((p : ℕ) → meant p → ⊥) → AreNoted i a cells meant found found
noted-none i a cells found meant empty = record { long = refl; each = λ p c at. inl refl; these = λ p c m at. absurd (empty p m) }

-- some, and then some more
noted-after : (i : ℕ) (a c : Cube) (x y z : Option ℕ) → (y ≡ x) ⊎ (y ≡ noted i a c x) → (z ≡ y) ⊎ (z ≡ noted i a c y) → (z ≡ x) ⊎ (z ≡ noted i a c x)
noted-after i a c x y z (inl f) (inl g) = inl (g ∙ f)
noted-after i a c x y z (inl f) (inr g) = inr (g ∙ ap (noted i a c) f)
noted-after i a c x y z (inr f) (inl g) = inr (g ∙ f)
noted-after i a c x y z (inr f) (inr g) = inr (g ∙ ap (noted i a c) f ∙ noted-twice i a c x)

noted-first : (i : ℕ) (a c : Cube) (x y z : Option ℕ) → y ≡ noted i a c x → (z ≡ y) ⊎ (z ≡ noted i a c y) → z ≡ noted i a c x
noted-first i a c x y z f (inl g) = g ∙ f
noted-first i a c x y z f (inr g) = g ∙ ap (noted i a c) f ∙ noted-twice i a c x

noted-second : (i : ℕ) (a c : Cube) (x y z : Option ℕ) → (y ≡ x) ⊎ (y ≡ noted i a c x) → z ≡ noted i a c y → z ≡ noted i a c x
noted-second i a c x y z (inl f) g = g ∙ ap (noted i a c) f
noted-second i a c x y z (inr f) g = g ∙ ap (noted i a c) f ∙ noted-twice i a c x

module _ (i : ℕ) (a : Cube) (cells : List Cube) where
  pub noted-more : (first more all : ℕ → Type 0) (old mid new : List (Option ℕ)) → ((p : ℕ) → all p → first p ⊎ more p) → AreNoted i a cells first old mid → AreNoted i a cells more mid new → AreNoted i a cells all old new
  noted-more first more all old mid new parts f g = record {
    long = g.long ∙ f.long;
    each = λ p c at. noted-after i a c (found_at old p) (found_at mid p) (found_at new p) (f.each p c at) (g.each p c at);
    these = λ p c m at. elim (parts p m) [
      | inl k ↦ noted-first i a c (found_at old p) (found_at mid p) (found_at new p) (f.these p c k at) (g.each p c at)
      | inr k ↦ noted-second i a c (found_at old p) (found_at mid p) (found_at new p) (f.each p c at) (g.these p c k at)
    ];
  }

  -- the same of others that are all among them
  pub noted-as : (meant all : ℕ → Type 0) (old new : List (Option ℕ)) → ((p : ℕ) → p < length cells → all p → meant p) → AreNoted i a cells meant old new → AreNoted i a cells all old new
  noted-as meant all old new among f = record { long = f.long; each = f.each; these = λ p c m at. f.these p c (among p (slice_get_within cells p c at) m) at }

  -- a single one
  pub noted-set : (old : List (Option ℕ)) (n : ℕ) (x : Cube) (o v : Option ℕ) → n < length old → slice_get cells n ≡ Some x → o ≡ found_at old n → v ≡ noted i a x o → AreNoted i a cells (λ p. p ≡ n) old (set old n v)
  noted-set old n x o v within at was is =
      let here : (p : ℕ) (c : Cube) → p ≡ n → slice_get cells p ≡ Some c → found_at (set old n v) p ≡ noted i a c (found_at old p) = λ p c e there.
      let one : x ≡ c = same_Some x c (sym at ∙ ap (slice_get cells) (sym e) ∙ there) in
      ap (found_at (set old n v)) e ∙ get_or-set_same old n v None within ∙ is ∙ ap (λ y. noted i a y o) one ∙ ap (noted i a c) (was ∙ ap (found_at old) (sym e)) in
      record {
        long = length-set old n v;
        each = λ p c there. elim (cases_eq p n) [
          | inl e ↦ inr (here p c e there)
          | inr apart ↦ inl (get_or-set_other old n p v None apart)
        ];
        these = λ p c e there. here p c e there;
      }

stands-at : {A : Type 0} (xs : List A) (p : ℕ) → p < length xs → (x : A) × (slice_get xs p ≡ Some x)
stands-at [] p h = absurd (omega (arith, h))
stands-at (x ∷ xs) zero h = (x, refl)
stands-at (x ∷ xs) (suc p) h = stands-at xs p (omega (arith, h))

-- what was found of a cell stays found
pub noted-found : (i : ℕ) (a : Cube) (cells : List Cube) (meant : ℕ → Type 0) (old new : List (Option ℕ)) (p : ℕ) → AreNoted i a cells meant old new → p < length cells → is_some (found_at old p) ≡ true → is_some (found_at new p) ≡ true
noted-found i a cells meant old new p f within h =
    let s = stands-at cells p within in
    elim (f.each p s.0 s.1) [
      | inl same ↦ ap is_some same ∙ h
      | inr step ↦ ap is_some step ∙ noted-keeps i a s.0 (found_at old p) h
    ]

-- ---- the cells of a block

-- those from a place up to another were looked at, and where it is said that something was found of each it was
pub record SoFar (i : ℕ) (a : Cube) (cells : List Cube) (start end : ℕ) (old new : List (Option ℕ)) (is_full : Bool) : Type 0 where
  pub noted : AreNoted i a cells (λ p. (start ≤ p) × (p < end)) old new
  pub full : is_full ≡ true → (p : ℕ) → start ≤ p → p < end → is_some (found_at new p) ≡ true

pub so-far-none : (i : ℕ) (a : Cube) (cells : List Cube) (start : ℕ) (found : List (Option ℕ)) → SoFar i a cells start start found found true
so-far-none i a cells start found = record {
  noted = noted-none i a cells found (λ p. (start ≤ p) × (p < start)) (λ p m. omega (arith, m.0, m.1));
  full = λ t p low less. absurd (omega (arith, low, less));
}

pub so-far-more : (i : ℕ) (a : Cube) (cells : List Cube) (start n : ℕ) (old mid : List (Option ℕ)) (x : Cube) (o v : Option ℕ) (full more : Bool) → n < length mid → slice_get cells n ≡ Some x → o ≡ found_at mid n → v ≡ noted i a x o
    → more ≡ (full && is_some v) → SoFar i a cells start n old mid full → SoFar i a cells start (n + 1) old (set mid n v) more
so-far-more i a cells start n old mid x o v full more within at was is both f =
    let one : AreNoted i a cells (λ p. p ≡ n) mid (set mid n v) = noted-set i a cells mid n x o v within at was is in
    record {
      noted = noted-more i a cells (λ p. (start ≤ p) × (p < n)) (λ p. p ≡ n) (λ p. (start ≤ p) × (p < n + 1)) old mid (set mid n v)
          (λ p m. elim (cases_lt p n) [ inl before ↦ inl (m.0, before) | inr behind ↦ inr (omega (arith, behind, m.1)) ]) f.noted one;
      full = λ t p low less.
          let parts = and_parts full (is_some v) (sym both ∙ t) in
          elim (cases_lt p n) [
            | inl before ↦ noted-found i a cells (λ p. p ≡ n) mid (set mid n v) p one (omega (arith, before, slice_get_within cells n x at)) (f.full parts.0 p low before)
            | inr behind ↦
                let here : p ≡ n = omega (arith, behind, less) in
                ap is_some (ap (found_at (set mid n v)) here ∙ get_or-set_same mid n v None within) ∙ parts.1
          ];
    }

-- ---- blocks

-- the cells of those of the blocks that stand from one on and below another
abbrev pub IsFrom : List ℕ → ℕ → ℕ → ℕ → Type 0
IsFrom blocks start b p = (start ≤ p / 64) × (p / 64 < b) × (has_place blocks (p / 64) ≡ true)

-- the next block was looked at
pub blocks-more : (i : ℕ) (a : Cube) (cells : List Cube) (blocks : List ℕ) (start b : ℕ) (old mid new : List (Option ℕ)) → AreNoted i a cells (IsFrom blocks start b) old mid → AreNoted i a cells (λ p. p / 64 ≡ b) mid new
    → AreNoted i a cells (IsFrom blocks start (b + 1)) old new
blocks-more i a cells blocks start b old mid new f g = noted-more i a cells (IsFrom blocks start b) (λ p. p / 64 ≡ b) (IsFrom blocks start (b + 1)) old mid new (λ p m. elim (cases_lt (p / 64) b) [
  | inl before ↦ inl (m.0, before, m.2)
  | inr behind ↦ inr (omega (arith, behind, m.1))
]) f g

-- the next block is none of them
pub blocks-skipped : (i : ℕ) (a : Cube) (cells : List Cube) (blocks : List ℕ) (start b : ℕ) (old new : List (Option ℕ)) → has_place blocks b ≡ false → AreNoted i a cells (IsFrom blocks start b) old new
    → AreNoted i a cells (IsFrom blocks start (b + 1)) old new
blocks-skipped i a cells blocks start b old new absent f = noted-as i a cells (IsFrom blocks start b) (IsFrom blocks start (b + 1)) old new (λ p within m. elim (cases_lt (p / 64) b) [
  | inl before ↦ (m.0, before, m.2)
  | inr behind ↦
      let here : p / 64 ≡ b = omega (arith, behind, m.1) in
      absurd (false≢true (sym absent ∙ ap (has_place blocks) (sym here) ∙ m.2))
]) f

-- the cells of those of the blocks whose bits stand in the words below one
abbrev pub IsBelow : List ℕ → ℕ → ℕ → Type 0
IsBelow blocks w p = (p / 64 / 64 < w) × (has_place blocks (p / 64) ≡ true)

-- the blocks of the next word were looked at
pub words-more : (i : ℕ) (a : Cube) (cells : List Cube) (blocks : List ℕ) (w : ℕ) (old mid new : List (Option ℕ)) → AreNoted i a cells (IsBelow blocks w) old mid
    → AreNoted i a cells (λ p. (p / 64 / 64 ≡ w) × (has_place blocks (p / 64) ≡ true)) mid new → AreNoted i a cells (IsBelow blocks (w + 1)) old new
words-more i a cells blocks w old mid new f g =
    noted-more i a cells (IsBelow blocks w) (λ p. (p / 64 / 64 ≡ w) × (has_place blocks (p / 64) ≡ true)) (IsBelow blocks (w + 1)) old mid new (λ p m. elim (cases_lt (p / 64 / 64) w) [
      | inl before ↦ inl (before, m.1)
      | inr behind ↦ inr (omega (arith, behind, m.0), m.1)
    ]) f g

-- none of them stands in the next word
pub words-skipped : (i : ℕ) (a : Cube) (cells : List Cube) (blocks : List ℕ) (w : ℕ) (old new : List (Option ℕ)) → ((k : ℕ) → k / 64 ≡ w → has_place blocks k ≡ false) → AreNoted i a cells (IsBelow blocks w) old new
    → AreNoted i a cells (IsBelow blocks (w + 1)) old new
words-skipped i a cells blocks w old new absent f = noted-as i a cells (IsBelow blocks w) (IsBelow blocks (w + 1)) old new (λ p within m. elim (cases_lt (p / 64 / 64) w) [
  | inl before ↦ (before, m.1)
  | inr behind ↦ absurd (false≢true (sym (absent (p / 64) (omega (arith, behind, m.0))) ∙ m.1))
]) f

pub found-more : (i : ℕ) (a : Cube) (cells : List Cube) (meant : ℕ → Type 0) (old new : List (Option ℕ)) (full : List ℕ) → AreNoted i a cells meant old new → AreFound cells old full → AreFound cells new full
found-more i a cells meant old new full f done p within there = noted-found i a cells meant old new p f within (done p within there)

-- a block is put in of which each cell was found
pub found-put : (cells : List Cube) (found : List (Option ℕ)) (full more : List ℕ) (block : ℕ) → ((k : ℕ) → has_place more k ≡ (has_place full k || eqb k block))
    → ((p : ℕ) → p < length cells → p / 64 ≡ block → is_some (found_at found p) ≡ true) → AreFound cells found full → AreFound cells found more
found-put cells found full more block put here done p within there = elim (or_cases (has_place full (p / 64)) (eqb (p / 64) block) (sym (put (p / 64)) ∙ there)) [
  | inl old ↦ done p within old
  | inr new ↦ here p within (eqb-true (p / 64) block new)
]

-- the cells of the other blocks have something or don't lie within
pub all-noted : (i : ℕ) (a : Cube) (cells : List Cube) (left blocks : List ℕ) (old new : List (Option ℕ)) → AreNoted i a cells (λ p. has_place blocks (p / 64) ≡ true) old new
    → KeepsInner cells a left blocks → AreLeft cells old left → AreAllNoted i a cells old new
all-noted i a cells left blocks old new f keeps rest = record {
  long = f.long;
  all = λ p c at. elim (cases_Bool (has_place left (p / 64))) [
    | inl stays ↦ elim (cases_Bool (lies_within_cube c a)) [
      | inl inside ↦ f.these p c (keeps p c at inside stays) at
      | inr beyond ↦ either (found_at old p) (found_at new p) c (f.each p c at) (noted-outside i a c (found_at old p) beyond)
    ]
    | inr gone ↦ either (found_at old p) (found_at new p) c (f.each p c at) (noted-some i a c (found_at old p) (rest p (slice_get_within cells p c at) gone))
  ];
}
  where
    either : (x y : Option ℕ) (c : Cube) → (y ≡ x) ⊎ (y ≡ noted i a c x) → noted i a c x ≡ x → y ≡ noted i a c x
    either x y c (inl same) e = same ∙ sym e
    either x y c (inr step) e = step

-- what is left without the blocks of which each cell was found
pub left-after : (i : ℕ) (a : Cube) (cells : List Cube) (meant : ℕ → Type 0) (old new : List (Option ℕ)) (left full less : List ℕ) → AreNoted i a cells meant old new
    → ((k : ℕ) → has_place less k ≡ (has_place left k && not (has_place full k))) → AreFound cells new full → AreLeft cells old left → AreLeft cells new less
left-after i a cells meant old new left full less f without done rest p within gone = elim (cases_Bool (has_place left (p / 64))) [
  | inl stays ↦ elim (cases_Bool (has_place full (p / 64))) [
    | inl there ↦ done p within there
    | inr absent ↦ absurd (false≢true (sym gone ∙ without (p / 64) ∙ ap (λ b. b && not (has_place full (p / 64))) stays ∙ ap not absent))
  ]
  | inr went ↦ noted-found i a cells meant old new p f within (rest p within went)
]

-- ---- all cells

found-first : (xs cells : List Cube) (p : ℕ) (c : Cube) → slice_get cells p ≡ Some c → found_at (firsts xs cells) p ≡ first_place c xs
found-first xs cells p c at = get_or_from_slice_get (firsts xs cells) p (first_place c xs) None (firsts-at xs cells p c at)

length-firsts : (xs cells : List Cube) → length (firsts xs cells) ≡ length cells
length-firsts xs cells = length-map cells (λ c. first_place c xs)

nothing-push : (cells : List Cube) (c : Cube) → firsts [] (cells ++ c ∷ []) ≡ firsts [] cells ++ None ∷ []
nothing-push [] c = refl
nothing-push (x ∷ cells) c = ap (λ (o : List (Option ℕ)). None ∷ o) (nothing-push cells c)

-- nothing of one cell more
pub nothing-more : (cells : List Cube) (n : ℕ) → n < length cells → firsts [] (take (n + 1) cells) ≡ firsts [] (take n cells) ++ None ∷ []
nothing-more cells n within = ap (firsts []) (take_more cells n everything within) ∙ nothing-push (take n cells) (get_or cells n everything)

-- one cube more
pub firsts-more : (xs cells : List Cube) (a : Cube) (i : ℕ) (old new : List (Option ℕ)) → i ≡ length xs → old ≡ firsts xs cells → AreAllNoted i a cells old new → new ≡ firsts (xs ++ a ∷ []) cells
firsts-more xs cells a i old new at are f =
    let long : length new ≡ length cells = f.long ∙ ap length are ∙ length-firsts xs cells in
    ext_get_or None new (firsts (xs ++ a ∷ []) cells) (long ∙ sym (length-firsts (xs ++ a ∷ []) cells)) (λ p less.
    let s = stands-at cells p (subst (λ n. p < n) long less) in
    f.all p s.0 s.1 ∙ ap (λ (o : List (Option ℕ)). noted i a s.0 (found_at o p)) are ∙ ap (noted i a s.0) (found-first xs cells p s.0 s.1)
    ∙ ap (λ n. noted n a s.0 (first_place s.0 xs)) at ∙ sym (first-more s.0 xs a) ∙ sym (found-first (xs ++ a ∷ []) cells p s.0 s.1))

-- where something was found of each cell the other cubes change nothing
pub firsts-early : (xs ys cells : List Cube) (found : List (Option ℕ)) → found ≡ firsts xs cells → ((p : ℕ) → p < length cells → is_some (found_at found p) ≡ true) → found ≡ firsts (xs ++ ys) cells
firsts-early xs ys cells found are each =
    let long : length found ≡ length cells = ap length are ∙ length-firsts xs cells in
    ext_get_or None found (firsts (xs ++ ys) cells) (long ∙ sym (length-firsts (xs ++ ys) cells)) (λ p less.
    let within : p < length cells = subst (λ n. p < n) long less in
    let s = stands-at cells p within in
    let first : found_at found p ≡ first_place s.0 xs = ap (λ (o : List (Option ℕ)). found_at o p) are ∙ found-first xs cells p s.0 s.1 in
    first ∙ sym (first-front s.0 xs ys (sym (ap is_some first) ∙ each p within)) ∙ sym (found-first (xs ++ ys) cells p s.0 s.1))
