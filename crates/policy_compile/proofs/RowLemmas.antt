-- The results of each cube.
use Rattle.std.proofs.Common.{arith, ◌≡◌, ◌<◌, ◌≤◌, ◌+◌, ◌/◌, ◌++◌, ◌∷◌, [], slice_set, take, ℕ, zero, suc, Bool, true, cond, eqb, Some, List, length, Option, refl, inl, inr, sym, ap, ◌∙◌, subst}
use Rattle.std.proofs.Common.{slice_index_or as get_or}
use Rattle.std.specs.List.{filter, slice_get}
use Rattle.std.proofs.lemmas.Bool.{cases_Bool, cases_lt, eq-eqb, eqb-false, eqb-true}
use Rattle.std.proofs.lemmas.List.{append-nil, append_assoc, get_or-set_other, get_or-set_same, length_push, take_more}
use Rattle.net_types.specs.declared.address.Pid.{Pid}
use Rattle.net_types.specs.declared.cube.Cube.{Cube}
use Rattle.net_types.specs.declared.headers.Loc.{Loc}
use Rattle.net_types.specs.Policies.{Policy}
use Rattle.net_types.specs.Sets.{HasNoRepeats, Member, SameMembers, union_over}
use Rattle.net_types.proofs.RisingLemmas.{Member-filter, filter-Member}
use Rattle.net_types.proofs.SetLemmas
use Rattle.net_types.proofs.WidthLemmas.{HasNoRepeats-push}
use Rattle.classifier.specs.declared.line.Line.{Line}
use Rattle.classifier.specs.Meaning.{cubes_of}
use Rattle.classifier.specs.Items.{Item, add, add_all, is_among}
use Rattle.classifier.proofs.SumLemmas.{union-append}
use Rattle.policy_compile.specs.declared.columns.Column.{Column}
use Rattle.policy_compile.specs.declared.rows.Row.{Row}
use Rattle.policy_compile.specs.Columns.{Places, given, set_at}
use Rattle.policy_compile.specs.Groups.{alone, result_of}
use Rattle.policy_compile.specs.Paths.{AreAt, AreVisits, begun}
use Rattle.policy_compile.specs.Rows.{AreLists, AreRows, AreNear, joined, keys_with, list_at}
use Rattle.policy_compile.proofs.PathLemmas.{visits-same}

-- ---- lists of the results of columns

keys-pushed : (n : ℕ) (cs : List Column) (c : Column) → keys_with n (cs ++ c ∷ []) ≡ keys_with n cs ++ cond (eqb c.set n) (c.key ∷ []) []
keys-pushed n [] c = refl
keys-pushed n (d ∷ cs) c = elim (cases_Bool (eqb d.set n)) [
  | inl there ↦ rw there (ap (λ ks. d.key ∷ ks) (keys-pushed n cs c))
  | inr absent ↦ rw absent (keys-pushed n cs c)
]

pub empty-more : (lists : List (List Item)) → ((n : ℕ) → list_at lists n ≡ []) → (n : ℕ) → list_at (lists ++ [] ∷ []) n ≡ []
empty-more [] empty zero = refl
empty-more [] empty (suc n) = refl
empty-more (l ∷ lists) empty zero = empty zero
empty-more (l ∷ lists) empty (suc n) = empty-more lists (λ m. empty (suc m)) n

-- one more column, whose results are put to the list of its set
pub lists-more : (locations : List Loc) (cs ds : List Column) (c : Column) (lists news : List (List Item)) → ds ≡ cs ++ c ∷ []
    → ((n : ℕ) → list_at news n ≡ list_at lists n ++ cond (eqb c.set n) (result_of locations c.key) []) → AreLists locations cs lists → AreLists locations ds news
lists-more locations cs ds c lists news more put are = λ n.
    put n ∙ ap (λ xs. xs ++ cond (eqb c.set n) (result_of locations c.key) []) (are n) ∙ sym (pushed n) ∙ ap (λ es. alone locations (keys_with n es)) (sym more)
  where
    last : (n : ℕ) → alone locations (cond (eqb c.set n) (c.key ∷ []) []) ≡ cond (eqb c.set n) (result_of locations c.key) []
    last n = elim (cases_Bool (eqb c.set n)) [
      | inl there ↦ rw there (append-nil (result_of locations c.key))
      | inr absent ↦ rw absent refl
    ]

    pushed : (n : ℕ) → alone locations (keys_with n (cs ++ c ∷ [])) ≡ alone locations (keys_with n cs) ++ cond (eqb c.set n) (result_of locations c.key) []
    pushed n = ap (alone locations) (keys-pushed n cs c) ∙ union-append (result_of locations) (keys_with n cs) (cond (eqb c.set n) (c.key ∷ []) []) ∙ ap (λ xs. alone locations (keys_with n cs) ++ xs) (last n)

-- a result put last to a list
pub list-put : (lists : List (List Item)) (s : ℕ) (item : Item) → s < length lists → (n : ℕ) → list_at (slice_set lists s (list_at lists s ++ item ∷ [])) n ≡ list_at lists n ++ cond (eqb s n) (item ∷ []) []
list-put lists s item inside n = elim (cases_Bool (eqb s n)) [
  | inl there ↦ rw there (subst (λ m. list_at (slice_set lists s (list_at lists s ++ item ∷ [])) m ≡ list_at lists m ++ item ∷ []) (eqb-true s n there) (get_or-set_same lists s (list_at lists s ++ item ∷ []) [] inside))
  | inr absent ↦ rw absent (get_or-set_other lists s n (list_at lists s ++ item ∷ []) [] (λ e. eqb-false s n absent (sym e)) ∙ sym (append-nil (list_at lists n)))
]

-- ---- what is given at a place

keys-later : (locations : List Loc) (c : Column) (cs : List Column) (n : ℕ) (x : Item) → Member x (alone locations (keys_with n cs)) → Member x (alone locations (keys_with n (c ∷ cs)))
keys-later locations c cs n x m = elim (cases_Bool (eqb c.set n)) [
  | inl there ↦ rw there (SetLemmas.Member-append_right (result_of locations c.key) (alone locations (keys_with n cs)) x m)
  | inr absent ↦ rw absent m
]

given-later : (locations : List Loc) (sets : List Places) (c : Column) (cs : List Column) (k : ℕ) (x : Item) → Member x (alone locations (given sets cs k)) → Member x (alone locations (given sets (c ∷ cs) k))
given-later locations sets c cs k x m = elim (cases_Bool (set_at sets c.set k)) [
  | inl there ↦ rw there (SetLemmas.Member-append_right (result_of locations c.key) (alone locations (given sets cs k)) x m)
  | inr absent ↦ rw absent m
]

-- a set that has a place, with a column of which a result is
record IsOf (locations : List Loc) (sets : List Places) (cs : List Column) (k : ℕ) (x : Item) : Type 0 where
  pub number : ℕ
  pub has : set_at sets number k ≡ true
  pub of : Member x (alone locations (keys_with number cs))

given-IsOf : (locations : List Loc) (sets : List Places) (cs : List Column) (k : ℕ) (x : Item) → Member x (alone locations (given sets cs k)) → IsOf locations sets cs k x
given-IsOf locations sets [] k x m = elim m [ ]
given-IsOf locations sets (c ∷ cs) k x m = elim (cases_Bool (set_at sets c.set k)) [
  | inl there ↦ elim (SetLemmas.Member-append_cases (result_of locations c.key) (alone locations (given sets cs k)) x (subst (λ b. Member x (alone locations (cond b (c.key ∷ given sets cs k) (given sets cs k)))) there m)) [
    | inl here ↦ record {
      number = c.set;
      has = there;
      of = rw (eq-eqb c.set c.set refl) (SetLemmas.Member-append_left (result_of locations c.key) (alone locations (keys_with c.set cs)) x here);
    }
    | inr later ↦ further (given-IsOf locations sets cs k x later)
  ]
  | inr absent ↦ further (given-IsOf locations sets cs k x (subst (λ b. Member x (alone locations (cond b (c.key ∷ given sets cs k) (given sets cs k)))) absent m))
]
  where
    further : IsOf locations sets cs k x → IsOf locations sets (c ∷ cs) k x
    further o = record { number = o.number; has = o.has; of = keys-later locations c cs o.number x o.of }

of-given : (locations : List Loc) (sets : List Places) (cs : List Column) (k n : ℕ) (x : Item) → set_at sets n k ≡ true → Member x (alone locations (keys_with n cs)) → Member x (alone locations (given sets cs k))
of-given locations sets [] k n x has m = m
of-given locations sets (c ∷ cs) k n x has m = elim (cases_Bool (eqb c.set n)) [
  | inl there ↦ elim (SetLemmas.Member-append_cases (result_of locations c.key) (alone locations (keys_with n cs)) x (subst (λ b. Member x (alone locations (cond b (c.key ∷ keys_with n cs) (keys_with n cs)))) there m)) [
    | inl here ↦
        let is : set_at sets c.set k ≡ true = subst (λ s. set_at sets s k ≡ true) (sym (eqb-true c.set n there)) has in
        rw is (SetLemmas.Member-append_left (result_of locations c.key) (alone locations (given sets cs k)) x here)
    | inr later ↦ given-later locations sets c cs k x (of-given locations sets cs k n x has later)
  ]
  | inr absent ↦ given-later locations sets c cs k x (of-given locations sets cs k n x has (subst (λ b. Member x (alone locations (cond b (c.key ∷ keys_with n cs) (keys_with n cs)))) absent m))
]

list-inside : (lists : List (List Item)) (n : ℕ) (x : Item) → Member x (list_at lists n) → n < length lists
list-inside [] n x m = elim m [ ]
list-inside (l ∷ lists) zero x m = omega arith
list-inside (l ∷ lists) (suc n) x m = let rest = list-inside lists n x m in omega (arith, rest)

-- the lists of those near sets that have a place have the results that are given there
pub near-given : (locations : List Loc) (sets : List Places) (cs : List Column) (lists : List (List Item)) (numbers : List ℕ) (k : ℕ) → AreLists locations cs lists → length lists ≡ length sets → AreNear sets lists (k / 64) (length sets) numbers
    → SameMembers (joined lists (filter (λ n. set_at sets n k) numbers)) (alone locations (given sets cs k))
near-given locations sets cs lists numbers k are long near = record {
  onto = λ x m.
      let s = SetLemmas.union-Member (list_at lists) (filter (λ n. set_at sets n k) numbers) x m in
      of-given locations sets cs k s.of x (filter-Member (λ n. set_at sets n k) numbers s.of s.stands).passes (subst (Member x) (are s.of) s.gives);
  back = λ x m.
      let o = given-IsOf locations sets cs k x m in
      let there : Member x (list_at lists o.number) = subst (Member x) (sym (are o.number)) o.of in
      let stands = near.all o.number k x (subst (λ l. o.number < l) long (list-inside lists o.number x there)) there o.has refl in
      SetLemmas.Member-union (list_at lists) (filter (λ n. set_at sets n k) numbers) o.number x (Member-filter (λ n. set_at sets n k) numbers o.number stands o.has) there;
}

-- ---- near sets

pub near-more : (sets : List Places) (lists : List (List Item)) (word i : ℕ) (numbers : List ℕ) → AreNear sets lists word i numbers → AreNear sets lists word (i + 1) (numbers ++ i ∷ [])
near-more sets lists word i numbers near = record {
  once = HasNoRepeats-push numbers i near.once (λ m. let low = near.below i m in absurd (omega (arith, low)));
  below = λ n m. elim (SetLemmas.Member-append_cases numbers (i ∷ []) n m) [
    | inl old ↦ let low = near.below n old in omega (arith, low)
    | inr new ↦ elim new [ inl e ↦ omega (arith, e) | inr none ↦ elim none [ ] ]
  ];
  all = λ n k x small there has in_word. elim (cases_lt n i) [
    | inl low ↦ SetLemmas.Member-append_left numbers (i ∷ []) n (near.all n k x low there has in_word)
    | inr high ↦ SetLemmas.Member-append_right numbers (i ∷ []) n (inl (omega (arith, small, high)))
  ];
}

pub near-less : (sets : List Places) (lists : List (List Item)) (word i : ℕ) (numbers : List ℕ) → ((k : ℕ) → k / 64 ≡ word → set_at sets i k ≡ true → list_at lists i ≡ [])
    → AreNear sets lists word i numbers → AreNear sets lists word (i + 1) numbers
near-less sets lists word i numbers away near = record {
  once = near.once;
  below = λ n m. let low = near.below n m in omega (arith, low);
  all = λ n k x small there has in_word. elim (cases_lt n i) [
    | inl low ↦ near.all n k x low there has in_word
    | inr high ↦
        let same : n ≡ i = omega (arith, small, high) in
        elim (subst (Member x) (away k in_word (subst (λ m. set_at sets m k ≡ true) same has)) (subst (λ m. Member x (list_at lists m)) same there)) [ ]
  ];
}

pub filter-once : {A : Type 0} (test : A → Bool) (xs : List A) → HasNoRepeats xs → HasNoRepeats (filter test xs)
filter-once test [] once = tt
filter-once test (x ∷ xs) once = elim (cases_Bool (test x)) [
  | inl kept ↦ rw kept (λ m. once.0 (filter-Member test xs x m).stands, filter-once test xs once.1)
  | inr left ↦ rw left (filter-once test xs once.1)
]

-- one list more
pub joined-more : (lists : List (List Item)) (numbers : List ℕ) (i d : ℕ) → i < length numbers → joined lists (take (i + 1) numbers) ≡ joined lists (take i numbers) ++ list_at lists (get_or numbers i d)
joined-more lists numbers i d inside =
    ap (joined lists) (take_more numbers i d inside) ∙ union-append (list_at lists) (take i numbers) (get_or numbers i d ∷ []) ∙ ap (λ xs. joined lists (take i numbers) ++ xs) (append-nil (list_at lists (get_or numbers i d)))

-- ---- lists in which no result stands twice

pub add_all-pushed : (xs ys : List Item) (y : Item) → add_all xs (ys ++ y ∷ []) ≡ add (add_all xs ys) y
add_all-pushed xs [] y = refl
add_all-pushed xs (z ∷ ys) y = add_all-pushed (add xs z) ys y

-- no list grows shorter
pub add-longer : (xs ys : List Item) → length xs ≤ length (add_all xs ys)
add-longer xs [] = omega arith
add-longer xs (y ∷ ys) = elim (cases_Bool (is_among xs y)) [
  | inl there ↦ let rest = add-longer xs ys in rw there (omega (arith, rest))
  | inr absent ↦ let rest = add-longer (xs ++ y ∷ []) ys in let one = length_push xs y in rw absent (omega (arith, rest, one))
]

add-longest : (xs ys : List Item) → length (add_all xs ys) ≤ length xs + length ys
add-longest xs [] = omega (arith)
add-longest xs (y ∷ ys) = elim (cases_Bool (is_among xs y)) [
  | inl there ↦ let rest = add-longest xs ys in rw there (omega (arith, rest))
  | inr absent ↦ let rest = add-longest (xs ++ y ∷ []) ys in let one = length_push xs y in rw absent (omega (arith, rest, one))
]

-- where adding one after another leaves all, they stand behind what was there
pub add-whole : (xs ys : List Item) → length (add_all xs ys) ≡ length xs + length ys → add_all xs ys ≡ xs ++ ys
add-whole xs [] e = sym (append-nil xs)
add-whole xs (y ∷ ys) e = elim (cases_Bool (is_among xs y)) [
  | inl there ↦ absurd (let known : length (add_all xs ys) ≡ length xs + suc (length ys) = sym (ap (λ b. length (add_all (cond b xs (xs ++ y ∷ [])) ys)) there) ∙ e in
      let most = add-longest xs ys in omega (arith, known, most))
  | inr absent ↦
      let known : length (add_all (xs ++ y ∷ []) ys) ≡ length xs + suc (length ys) = sym (ap (λ b. length (add_all (cond b xs (xs ++ y ∷ [])) ys)) absent) ∙ e in
      let one = length_push xs y in
      ap (λ b. add_all (cond b xs (xs ++ y ∷ [])) ys) absent ∙ add-whole (xs ++ y ∷ []) ys (omega (arith, known, one)) ∙ append_assoc xs (y ∷ []) ys
]

-- one list more, of all
pub whole-more : (lists : List (List Item)) (i : ℕ) (l : List Item) → i < length lists → l ≡ get_or lists i l → union_over (λ xs. xs) (take (i + 1) lists) ≡ union_over (λ xs. xs) (take i lists) ++ l
whole-more lists i l inside is =
    ap (union_over (λ xs. xs)) (take_more lists i l inside) ∙ union-append (λ xs. xs) (take i lists) (get_or lists i l ∷ []) ∙ ap (λ xs. union_over (λ ys. ys) (take i lists) ++ xs) (append-nil (get_or lists i l) ∙ sym is)

-- two lists, each without repeats, that have no member in common
append-once : {A : Type 0} (xs ys : List A) → HasNoRepeats xs → HasNoRepeats ys → ((x : A) → Member x xs → Member x ys → ⊥) → HasNoRepeats (xs ++ ys)
append-once [] ys first second apart = second
append-once (x ∷ xs) ys first second apart = (λ m. elim (SetLemmas.Member-append_cases xs ys x m) [ inl here ↦ first.0 here | inr there ↦ apart x (inl refl) there ], append-once xs ys first.1 second (λ y m n. apart y (inr m) n))

-- the parts of a list without repeats
record AreParts {A : Type 0} (xs ys : List A) : Type 0 where
  pub first : HasNoRepeats xs
  pub second : HasNoRepeats ys
  pub apart : (x : A) → Member x xs → Member x ys → ⊥

once-parts : {A : Type 0} (xs ys : List A) → HasNoRepeats (xs ++ ys) → AreParts xs ys
once-parts [] ys once = record { first = tt; second = once; apart = λ x m _. elim m [ ] }
once-parts {A} (x ∷ xs) ys once =
    let rest = once-parts xs ys once.1 in
    record { first = (λ m. once.0 (SetLemmas.Member-append_left xs ys x m), rest.first); second = rest.second; apart = away rest.apart }
  where
    away : ((y : A) → Member y xs → Member y ys → ⊥) → (y : A) → Member y (x ∷ xs) → Member y ys → ⊥
    away apart y (inl e) n = once.0 (SetLemmas.Member-append_right xs ys x (subst (λ z. Member z ys) e n))
    away apart y (inr m) n = apart y m n

list-once : (lists : List (List Item)) (n : ℕ) → HasNoRepeats (union_over (λ l. l) lists) → HasNoRepeats (list_at lists n)
list-once [] n once = tt
list-once (l ∷ lists) zero once = (once-parts l (union_over (λ l. l) lists) once).first
list-once (l ∷ lists) (suc n) once = list-once lists n (once-parts l (union_over (λ l. l) lists) once).second

list-stands : (lists : List (List Item)) (n : ℕ) (x : Item) → Member x (list_at lists n) → Member x (union_over (λ l. l) lists)
list-stands [] n x m = elim m [ ]
list-stands (l ∷ lists) zero x m = SetLemmas.Member-append_left l (union_over (λ l. l) lists) x m
list-stands (l ∷ lists) (suc n) x m = SetLemmas.Member-append_right l (union_over (λ l. l) lists) x (list-stands lists n x m)

-- a result stands in one list
one-list : (lists : List (List Item)) (n m : ℕ) (x : Item) → HasNoRepeats (union_over (λ l. l) lists) → Member x (list_at lists n) → Member x (list_at lists m) → n ≡ m
one-list [] n m x once first second = elim first [ ]
one-list (l ∷ lists) zero zero x once first second = refl
one-list (l ∷ lists) zero (suc m) x once first second = absurd ((once-parts l (union_over (λ l. l) lists) once).apart x first (list-stands lists m x second))
one-list (l ∷ lists) (suc n) zero x once first second = absurd ((once-parts l (union_over (λ l. l) lists) once).apart x second (list-stands lists n x first))
one-list (l ∷ lists) (suc n) (suc m) x once first second = ap suc (one-list lists n m x (once-parts l (union_over (λ l. l) lists) once).second first second)

pub joined-once : (lists : List (List Item)) (numbers : List ℕ) → HasNoRepeats (union_over (λ l. l) lists) → HasNoRepeats numbers → HasNoRepeats (joined lists numbers)
joined-once lists [] once differ = tt
joined-once lists (n ∷ numbers) once differ =
    append-once (list_at lists n) (joined lists numbers) (list-once lists n once) (joined-once lists numbers once differ.1) (λ x first second.
    let s = SetLemmas.union-Member (list_at lists) numbers x second in
    differ.0 (subst (λ m. Member m numbers) (sym (one-list lists n s.of x once first s.gives)) s.stands))

-- ---- rows and rules

pub rows-more : (lists : List (List Item)) (is_distinct : Bool) (rows : List Row) (row : Row) → AreRows lists is_distinct rows → SameMembers row.results (joined lists row.numbers.items) → AreRows lists is_distinct (rows ++ row ∷ [])
rows-more lists is_distinct rows row made same = record {
  once = made.once;
  are = λ r m. elim (SetLemmas.Member-append_cases rows (row ∷ []) r m) [
    | inl old ↦ made.are r old
    | inr new ↦ elim new [ inl e ↦ subst (λ (q : Row). SameMembers q.results (joined lists q.numbers.items)) (sym e) same | inr none ↦ elim none [ ] ]
  ];
}

-- what holds of each line and its place, and of one more
pub lines-more : (P : ℕ → Line → Type 0) (xs : List Line) (x : Line) → ((k : ℕ) (y : Line) → slice_get xs k ≡ Some y → P k y) → P (length xs) x → (k : ℕ) (y : Line) → slice_get (xs ++ x ∷ []) k ≡ Some y → P k y
lines-more P [] x old new zero y e = let same : x ≡ y = cc in subst (P zero) same new
lines-more P [] x old new (suc k) y e = absurd (cc)
lines-more P (z ∷ xs) x old new zero y e = old zero y e
lines-more P (z ∷ xs) x old new (suc k) y e = lines-more (λ j. P (suc j)) xs x (λ j v f. old (suc j) v f) new k y e

-- ---- rules

-- a line with its place
record StandsAt (xs : List Line) (x : Line) : Type 0 where
  pub place : ℕ
  pub at : slice_get xs place ≡ Some x

stands-at : (xs : List Line) (x : Line) → Member x xs → StandsAt xs x
stands-at [] x m = elim m [ ]
stands-at (y ∷ xs) x (inl e) = record { place = zero; at = ap Some (sym e) }
stands-at (y ∷ xs) x (inr m) = let s = stands-at xs x m in record { place = suc s.place; at = s.at }

cube-at : (xs : List Line) (k : ℕ) (x : Line) → slice_get xs k ≡ Some x → slice_get (cubes_of xs) k ≡ Some x.cube
cube-at [] k x e = absurd (cc)
cube-at (y ∷ xs) zero x e = let same : y ≡ x = cc in ap (λ (z : Line). Some z.cube) same
cube-at (y ∷ xs) (suc k) x e = cube-at xs k x e

-- rules with what the policy makes at the places of their cubes of what was there
pub rules-at : (pid_of : List ℕ → Option Pid) (p : Policy) (cubes : List Cube) (old new : ℕ → List Item) (xs : List Line) → cubes_of xs ≡ cubes
    → ((k : ℕ) (m : Cube) → slice_get cubes k ≡ Some m → old k ≡ begun ∷ []) → ((k : ℕ) (m : Cube) → slice_get cubes k ≡ Some m → AreVisits pid_of p m (old k) [] (new k))
    → ((k : ℕ) (x : Line) → slice_get xs k ≡ Some x → SameMembers x.results (new k)) → AreAt pid_of p cubes xs
rules-at pid_of p cubes old new xs same start made gives = record {
  cubes_are = same;
  gives = λ x m.
      let s = stands-at xs x m in
      let there : slice_get cubes s.place ≡ Some x.cube = ap (λ (cs : List Cube). slice_get cs s.place) (sym same) ∙ cube-at xs s.place x s.at in
      visits-same pid_of p x.cube (begun ∷ []) [] (new s.place) x.results (subst (λ items. AreVisits pid_of p x.cube items [] (new s.place)) (start s.place x.cube there) (made s.place x.cube there)) (gives s.place x s.at);
}
