-- The set of the cubes seen tells which lines can be reached.
use Rattle.std.proofs.Common.{◌≡◌, ◌+◌, ◌<◌, ◌≤◌, Bool, true, false, eqb, ◌&&◌, ◌||◌, cond, List, [], ◌∷◌, ◌++◌, length, length-append, refl, inl, inr, sym, subst, ap, arith, ◌∙◌}
use Rattle.std.specs.Option.{option_eq}
use Rattle.std.specs.HashSet.{contains}
use Rattle.std.proofs.lemmas.Bool.{cases_lt, lt-ltb, le-ltb, eqb-true, eq-eqb, and_parts, and_from, cases_Bool, false_from_ne_true, false≢true}
use Rattle.net_types.specs.declared.cube.Cube.{Cube}
use Rattle.net_types.specs.declared.prefix.Prefix.{Prefix}
use Rattle.net_types.specs.Cubes.{same_port, everything, lies_within_cube}
use Rattle.net_types.proofs.PrefixLemmas.{prefix_ext}
use Rattle.net_types.proofs.CubeLemmas.{cubes_antisym, within_refl, within-from_has, has-everything, built, ports_exact}
use Rattle.classifier.specs.declared.line.Line.{Line}
use Rattle.classifier.specs.Lines.{same_cube, is_shadowed, add_line}
use Rattle.classifier.proofs.ItemLemmas.{option_eq_exact, option_eq_refl}
use Rattle.classifier.specs.Seen.{Cubes, is_there, if_many, prefix_eq, cube_eq, HasAll, Agrees}
use Rattle.std.proofs.Math.Bool.{or-false}
use Rattle.net_types.proofs.WidthTests.{any_found}
use Rattle.std.specs.List.{list_any}
use Rattle.net_types.specs.Sets.{Member}

-- ---- the set's equality

prefix_eq_exact : (p q : Prefix) → prefix_eq p q ≡ true → p ≡ q
prefix_eq_exact p q h = let parts = and_parts (eqb p.address.0 q.address.0) (eqb p.len q.len) h in prefix_ext p q (eqb-true _ _ parts.0) (eqb-true _ _ parts.1)

prefix_eq_refl : (p : Prefix) → prefix_eq p p ≡ true
prefix_eq_refl p = and_from _ _ (eq-eqb p.address.0 p.address.0 refl) (eq-eqb p.len p.len refl)

pub cube_eq_refl : (a : Cube) → cube_eq a a ≡ true
cube_eq_refl a =
    and_from _ _ (option_eq_refl same_port (λ x. eq-eqb x.0 x.0 refl) a.inport) (and_from _ _ (prefix_eq_refl a.src) (and_from _ _ (prefix_eq_refl a.dst) (and_from _ _ (option_eq_refl eqb (λ x. eq-eqb x x refl) a.proto) (and_from _ _ (option_eq_refl eqb (λ x. eq-eqb x x refl) a.sport) (option_eq_refl eqb (λ x. eq-eqb x x refl) a.dport)))))

pub cube_eq_exact : (a b : Cube) → cube_eq a b ≡ true → a ≡ b
cube_eq_exact a b h =
    let i = and_parts (option_eq same_port a.inport b.inport) (prefix_eq a.src b.src && (prefix_eq a.dst b.dst && (option_eq eqb a.proto b.proto && (option_eq eqb a.sport b.sport && option_eq eqb a.dport b.dport)))) h in
    let s = and_parts (prefix_eq a.src b.src) (prefix_eq a.dst b.dst && (option_eq eqb a.proto b.proto && (option_eq eqb a.sport b.sport && option_eq eqb a.dport b.dport))) i.1 in
    let d = and_parts (prefix_eq a.dst b.dst) (option_eq eqb a.proto b.proto && (option_eq eqb a.sport b.sport && option_eq eqb a.dport b.dport)) s.1 in
    let p = and_parts (option_eq eqb a.proto b.proto) (option_eq eqb a.sport b.sport && option_eq eqb a.dport b.dport) d.1 in
    let o = and_parts (option_eq eqb a.sport b.sport) (option_eq eqb a.dport b.dport) p.1 in
    ap (λ x. built x a.src a.dst a.proto a.sport a.dport) (option_eq_exact same_port ports_exact a.inport b.inport i.0)
    ∙ ap (λ x. built b.inport x a.dst a.proto a.sport a.dport) (prefix_eq_exact a.src b.src s.0)
    ∙ ap (λ x. built b.inport b.src x a.proto a.sport a.dport) (prefix_eq_exact a.dst b.dst d.0)
    ∙ ap (λ x. built b.inport b.src b.dst x a.sport a.dport) (option_eq_exact eqb eqb-true a.proto b.proto p.0)
    ∙ ap (λ x. built b.inport b.src b.dst b.proto x a.dport) (option_eq_exact eqb eqb-true a.sport b.sport o.0)
    ∙ ap (λ x. built b.inport b.src b.dst b.proto b.sport x) (option_eq_exact eqb eqb-true a.dport b.dport o.1)

same_cube_refl : (a : Cube) → same_cube a a ≡ true
same_cube_refl a = and_from _ _ (within_refl a) (within_refl a)

pub same_cube_exact : (a b : Cube) → same_cube a b ≡ true → a ≡ b
same_cube_exact a b h = let p = and_parts (lies_within_cube a b) (lies_within_cube b a) h in cubes_antisym a b p.0 p.1

pub cube_eq_is : (a b : Cube) → cube_eq a b ≡ same_cube a b
cube_eq_is a b = elim (cases_Bool (same_cube a b)) [
  | inl same ↦ ap (cube_eq a) (sym (same_cube_exact a b same)) ∙ cube_eq_refl a ∙ sym same
  | inr apart ↦ false_from_ne_true _ (λ h. false≢true (sym apart ∙ ap (same_cube a) (sym (cube_eq_exact a b h)) ∙ same_cube_refl a)) ∙ sym apart
]

-- a cube that a test finds stands in the list
pub any_there : (cs : List Cube) (c : Cube) → list_any (λ d. cube_eq d c) cs ≡ true → Member c cs
any_there cs c e = let found = any_found (λ d. cube_eq d c) cs e in subst (λ d. Member d cs) (cube_eq_exact found.0 c found.1.passes) found.1.stands

-- ---- the list

is_there-push : (xs : List Line) (y : Line) (c : Cube) → is_there (xs ++ y ∷ []) c ≡ (is_there xs c || same_cube y.cube c)
is_there-push [] y c = or-false (same_cube y.cube c)
is_there-push (x ∷ xs) y c = ap (λ b. same_cube x.cube c || b) (is_there-push xs y c) ∙ sym (or_regroup (same_cube x.cube c) (is_there xs c) (same_cube y.cube c))
  where
    or_regroup : (a b c : Bool) → ((a || b) || c) ≡ (a || (b || c))
    or_regroup true b c = refl
    or_regroup false b c = refl

is_everything : (c : Cube) → lies_within_cube everything c ≡ same_cube c everything
is_everything c = ap (λ b. b && lies_within_cube everything c) (sym (within-from_has c everything (λ h _. has-everything h)))

-- a line is shadowed where its cube or that of everything is there
shadowed_is : (xs : List Line) (y : Line) → is_shadowed xs y ≡ (is_there xs y.cube || is_there xs everything)
shadowed_is [] y = refl
shadowed_is (x ∷ xs) y =
    ap (λ b. (same_cube x.cube y.cube || b) || is_shadowed xs y) (is_everything x.cube)
    ∙ ap (λ b. (same_cube x.cube y.cube || same_cube x.cube everything) || b) (shadowed_is xs y)
    ∙ or_swap (same_cube x.cube y.cube) (same_cube x.cube everything) (is_there xs y.cube) (is_there xs everything)
  where
    or_swap : (a b c d : Bool) → ((a || b) || (c || d)) ≡ ((a || c) || (b || d))
    or_swap true b c d = refl
    or_swap false true true d = refl
    or_swap false true false d = refl
    or_swap false false c d = refl

-- ---- which lines are shadowed

pub reached : (xs : List Line) (y : Line) → (is_there xs y.cube || is_there xs everything) ≡ false → xs ++ y ∷ [] ≡ add_line xs y
reached xs y e = sym (ap (λ b. cond b xs (xs ++ y ∷ [])) (shadowed_is xs y ∙ e))

-- the list may be read under another name
pub hidden : (xs ys : List Line) (y : Line) → ys ≡ xs → (is_there ys y.cube || is_there ys everything) ≡ true → xs ≡ add_line xs y
hidden xs ys y same e = sym (ap (λ b. cond b xs (xs ++ y ∷ [])) (shadowed_is xs y ∙ subst (λ zs. (is_there zs y.cube || is_there zs everything) ≡ true) same e))

-- ---- the set

pub many : (xs : List Line) → 16 < length xs → if_many xs ≡ xs
many xs long = ap (λ b. cond b xs []) (lt-ltb 16 (length xs) long)

pub none : (xs : List Line) → length xs ≤ 16 → if_many xs ≡ []
none xs short = ap (λ b. cond b xs []) (le-ltb 16 (length xs) short)

-- a long list's cubes are in the set
pub has_all : (xs : List Line) (seen : Cubes) → Agrees xs seen → 16 < length xs → HasAll xs seen
has_all xs seen agrees long = subst (λ ys. HasAll ys seen) (many xs long) agrees.cubes

-- a short list's aren't
pub has_none : (xs : List Line) (seen : Cubes) → Agrees xs seen → length xs ≤ 16 → HasAll [] seen
has_none xs seen agrees short = subst (λ ys. HasAll ys seen) (none xs short) agrees.cubes

-- one more line leaves the list short
pub agrees_short : (xs : List Line) (seen : Cubes) (y : Line) → Agrees xs seen → length xs < 16 → Agrees (xs ++ y ∷ []) seen
agrees_short xs seen y agrees short =
    let before : length xs ≤ 16 = omega (arith, short) in
    let size : length (xs ++ y ∷ []) ≡ length xs + 1 = length-append xs (y ∷ []) in
    let after : length (xs ++ y ∷ []) ≤ 16 = omega (arith, short, size) in
    record { cubes = subst (λ ys. HasAll ys seen) (sym (none (xs ++ y ∷ []) after)) (has_none xs seen agrees before) }

-- the set has one more cube
pub has_more : (xs : List Line) (seen next : Cubes) (y : Cube) (z : Line) → z.cube ≡ y → HasAll xs seen → ((c : Cube) → contains cube_eq next c ≡ cond (cube_eq y c) true (contains cube_eq seen c)) → HasAll (xs ++ z ∷ []) next
has_more xs seen next y z same has updates c =
    updates c ∙ either (cube_eq y c) (contains cube_eq seen c) ∙ ap (λ b. b || cube_eq y c) (has c) ∙ ap (λ b. is_there xs c || b) (cube_eq_is y c)
    ∙ ap (λ x. is_there xs c || same_cube x c) (sym same) ∙ sym (is_there-push xs z c)
  where
    either : (b d : Bool) → cond b true d ≡ (d || b)
    either true true = refl
    either true false = refl
    either false true = refl
    either false false = refl

-- and the list is long by now
pub agrees_long : (xs : List Line) (next : Cubes) (y : Line) → HasAll (xs ++ y ∷ []) next → 16 ≤ length xs → Agrees (xs ++ y ∷ []) next
agrees_long xs next y has long =
    let size : length (xs ++ y ∷ []) ≡ length xs + 1 = length-append xs (y ∷ []) in
    let after : 16 < length (xs ++ y ∷ []) = omega (arith, long, size) in
    record { cubes = subst (λ ys. HasAll ys next) (sym (many (xs ++ y ∷ []) after)) has }

-- only the cube matters
pub agrees_by_cube : (xs : List Line) (next : Cubes) (y z : Line) → y.cube ≡ z.cube → Agrees (xs ++ y ∷ []) next → Agrees (xs ++ z ∷ []) next
agrees_by_cube xs next y z same agrees = elim (cases_lt 16 (length (xs ++ y ∷ []))) [
  | inl long ↦
      let there : HasAll (xs ++ z ∷ []) next = (λ c. has_all (xs ++ y ∷ []) next agrees long c ∙ is_there-push xs y c ∙ ap (λ x. is_there xs c || same_cube x c) same ∙ sym (is_there-push xs z c)) in
      let size : length (xs ++ y ∷ []) ≡ length xs + 1 = length-append xs (y ∷ []) in
      let after : 16 ≤ length xs = omega (arith, long, size) in
      agrees_long xs next z there after
  | inr short ↦
      let size : length (xs ++ y ∷ []) ≡ length (xs ++ z ∷ []) = length-append xs (y ∷ []) ∙ sym (length-append xs (z ∷ [])) in
      let after : length (xs ++ z ∷ []) ≤ 16 = omega (arith, short, size) in
      record { cubes = subst (λ ys. HasAll ys next) (sym (none (xs ++ z ∷ []) after)) (has_none (xs ++ y ∷ []) next agrees short) }
]
