-- The next tag with members is that of the first of the entries with greater tags that has members.
use Rattle.std.proofs.Common.{◌≡◌, ℕ, zero, suc, ◌<◌, ◌≤◌, Bool, true, false, cond, List, [], ◌∷◌, filter, find, sym, ap, subst, ◌∙◌, refl, arith, inl, inr, ◌⊎◌}
use Rattle.std.specs.Prelude.{Option, Some, None, IfSome, IfNone, is_some, nat_lt}
use Rattle.std.specs.Cmp.{nat_cmp_is, ranked}
use Rattle.std.specs.FinMap.{FinMap, get}
use Rattle.std.specs.FinMap.Entries as entries
use Rattle.std.specs.FinMap.Entries.{is_sorted, below_all}
use Rattle.std.specs.Option.{option_map}
use Rattle.std.specs.Ordering.{eq_by_cmp, is_lt, nat_cmp}
use Rattle.std.specs.declared.cmp.Ordering.{Ordering}
use Rattle.std.specs.declared.cmp.Ordering.TheVariants.{Less, Equal, Greater}
use Rattle.ordered_map.specs.Entries.{above}
use Rattle.std.proofs.lemmas.Bool.{and_parts, ltb-true, lt-ltb}
use Rattle.net_types.proofs.OrderLemmas.{tags_total}
use Rattle.net_types.proofs.TieLemmas.{less, tag_tie, ties_itself}
use Rattle.net_types.specs.Keys.{prefix_cmp, tag_cmp}
use Rattle.net_types.specs.declared.address.Tag.{Tag}
use Rattle.net_types.specs.declared.prefix.Prefix.{Prefix}
use Rattle.net_types.specs.declared.route.Part.{Part}
use Rattle.prefix_classes.proofs.BelowLemmas.{first_below, rest_sorted}
use Rattle.prefix_classes.proofs.CountLemmas.{is_some-kept, some_there}
use Rattle.prefix_classes.proofs.MemberLemmas.{some_member}
use Rattle.prefix_classes.specs.Classes.{IsAbove, IsNextTag, members}
use Rattle.prefix_classes.specs.Counts.{IsCounted, counted, has_members, is_above, members_of, sigs_of, tag_of}
use Rattle.prefix_classes.specs.declared.members.Kept.{Kept}

-- the entries above a tag are those of greater tags
less_is : (m n : ℕ) → is_lt (nat_cmp m n) ≡ nat_lt m n
less_is m n = elim (nat_lt m n) as (λ b. nat_lt m n ≡ b → is_lt (nat_cmp m n) ≡ b) [
  | true ↦ λ e. ap is_lt (sym (nat_cmp_is m n Less (ltb-true m n e)))
  | false ↦ λ e. not_less (nat_cmp m n) refl (λ lt. let f = sym (lt-ltb m n lt) ∙ e in cc)
] refl
  where
    not_less : (r : Ordering) → nat_cmp m n ≡ r → (m < n → ⊥) → is_lt r ≡ false
    not_less Less e never = absurd (never (ranked m n Less (sym e)))
    not_less Equal e never = refl
    not_less Greater e never = refl

pub above_is_greater : (a : Tag) (es : List (Tag × Kept)) → above tag_cmp a es ≡ filter (is_above (Some a)) es
above_is_greater a [] = refl
above_is_greater a (e ∷ es) = λ i. cond (less_is a.0 e.0.0 i) (e ∷ above_is_greater a es i) (above_is_greater a es i)

pub all_pass : {X : Type 0} (xs : List X) → xs ≡ filter (λ (x : X). true) xs
all_pass [] = refl
all_pass (x ∷ xs) = ap (λ ys. x ∷ ys) (all_pass xs)

-- the first key is smaller than one that is found behind it
pub below_found : (x q : Tag) (es : List (Tag × Kept)) → below_all tag_cmp x es ≡ true → 0 < counted es q → x.0 < q.0
below_found x q [] below some = absurd (omega arith)
below_found x q (e ∷ es) below some = by (eq_by_cmp tag_cmp q e.0) refl (λ later. below_found x q es (and_parts (is_lt (tag_cmp x e.0)) (below_all tag_cmp x es) below).1 later)
  where
    parts : (is_lt (tag_cmp x e.0) ≡ true) × (below_all tag_cmp x es ≡ true)
    parts = and_parts (is_lt (tag_cmp x e.0)) (below_all tag_cmp x es) below

    by : (b : Bool) → eq_by_cmp tag_cmp q e.0 ≡ b → (0 < counted es q → x.0 < q.0) → x.0 < q.0
    by true tie rest =
        let same : q.0 ≡ e.0.0 = ap (λ (t : Tag). t.0) (tag_tie q e.0 tie) in
        let smaller : x.0 < e.0.0 = ranked x.0 e.0.0 Less (sym (less (tag_cmp x e.0) parts.0)) in
        omega arith
    by false apart rest = rest (subst (λ b. 0 < members_of (cond b (Some e.1) (entries.find tag_cmp q es))) apart some)

module _ (after : Option Tag) where
  above_is : (o : Option Tag) (e : Tag × Kept) → is_above o e ≡ true → IsAbove o e.0
  above_is None e is = tt
  above_is (Some a) e is = ltb-true a.0 e.0.0 is

  is_above_of : (o : Option Tag) (e : Tag × Kept) → IsAbove o e.0 → is_above o e ≡ true
  is_above_of None e is = refl
  is_above_of (Some a) e is = lt-ltb a.0 e.0.0 is

  -- the first of the entries of greater tags that has members
  abbrev pub next : List (Tag × Kept) → Option (Tag × Kept)
  next es = find has_members (filter (is_above after) es)

  -- by the numbers that are kept
  record IsFirst (es : List (Tag × Kept)) (t : Tag) : Type 0 where
    pub used : 0 < counted es t
    pub above : IsAbove after t
    pub least : (u : Tag) → 0 < counted es u → IsAbove after u → t.0 ≤ u.0

  module _ (d : Tag × Kept) (ds : List (Tag × Kept)) where
    here : (u : Tag) → eq_by_cmp tag_cmp u d.0 ≡ true → counted (d ∷ ds) u ≡ d.1.members
    here u tie = ap (λ b. members_of (cond b (Some d.1) (entries.find tag_cmp u ds))) tie

    behind : (u : Tag) → eq_by_cmp tag_cmp u d.0 ≡ false → counted (d ∷ ds) u ≡ counted ds u
    behind u apart = ap (λ b. members_of (cond b (Some d.1) (entries.find tag_cmp u ds))) apart

    tie_or_not : (u : Tag) → (eq_by_cmp tag_cmp u d.0 ≡ true) ⊎ (eq_by_cmp tag_cmp u d.0 ≡ false)
    tie_or_not u = elim (eq_by_cmp tag_cmp u d.0) as (λ b. (b ≡ true) ⊎ (b ≡ false)) [ true ↦ inl refl | false ↦ inr refl ]

    first_here : is_sorted tag_cmp (d ∷ ds) ≡ true → is_above after d ≡ true → has_members d ≡ true → IsFirst (d ∷ ds) d.0
    first_here sorted above some = record {
      used = let number = here d.0 (ties_itself tags_total d.0) in let positive : 0 < d.1.members = ltb-true 0 d.1.members some in omega (arith, number, positive);
      above = above_is after d above;
      least = λ u used is. least u used (tie_or_not u);
    }
      where
        least : (u : Tag) → 0 < counted (d ∷ ds) u → (eq_by_cmp tag_cmp u d.0 ≡ true) ⊎ (eq_by_cmp tag_cmp u d.0 ≡ false) → d.0.0 ≤ u.0
        least u used (inl tie) = let same : u.0 ≡ d.0.0 = ap (λ (t : Tag). t.0) (tag_tie u d.0 tie) in omega arith
        least u used (inr apart) = let later = below_found d.0 u ds (first_below tag_cmp d ds sorted) (subst (λ n. 0 < n) (behind u apart) used) in omega (arith, later)

    first_behind : is_sorted tag_cmp (d ∷ ds) ≡ true → (is_above after d ≡ true → has_members d ≡ true → ⊥) → (t : Tag) → IsFirst ds t → IsFirst (d ∷ ds) t
    first_behind sorted other t first = record {
      used = used (tie_or_not t);
      above = first.above;
      least = λ u some is. least u some is (tie_or_not u);
    }
      where
        used : (eq_by_cmp tag_cmp t d.0 ≡ true) ⊎ (eq_by_cmp tag_cmp t d.0 ≡ false) → 0 < counted (d ∷ ds) t
        used (inl tie) =
            let same : t.0 ≡ d.0.0 = ap (λ (u : Tag). u.0) (tag_tie t d.0 tie) in
            let later = below_found d.0 t ds (first_below tag_cmp d ds sorted) first.used in
            absurd (omega (arith, same, later))
        used (inr apart) = subst (λ n. 0 < n) (sym (behind t apart)) first.used

        least : (u : Tag) → 0 < counted (d ∷ ds) u → IsAbove after u → (eq_by_cmp tag_cmp u d.0 ≡ true) ⊎ (eq_by_cmp tag_cmp u d.0 ≡ false) → t.0 ≤ u.0
        least u some is (inl tie) = absurd (other
            (is_above_of after d (subst (IsAbove after) (tag_tie u d.0 tie) is))
            (lt-ltb 0 d.1.members (subst (λ n. 0 < n) (here u tie) some)))
        least u some is (inr apart) = first.least u (subst (λ n. 0 < n) (behind u apart) some) is

    none_behind : (is_above after d ≡ true → has_members d ≡ true → ⊥) → ((u : Tag) → IsAbove after u → counted ds u ≡ 0) → (u : Tag) → IsAbove after u → counted (d ∷ ds) u ≡ 0
    none_behind other none u is = by (tie_or_not u)
      where
        no_number : (n : ℕ) → (0 < n → ⊥) → n ≡ 0
        no_number zero never = refl
        no_number (suc n) never = absurd (never (omega arith))

        by : (eq_by_cmp tag_cmp u d.0 ≡ true) ⊎ (eq_by_cmp tag_cmp u d.0 ≡ false) → counted (d ∷ ds) u ≡ 0
        by (inl tie) = here u tie ∙ no_number d.1.members (λ some. other
            (is_above_of after d (subst (IsAbove after) (tag_tie u d.0 tie) is))
            (lt-ltb 0 d.1.members some))
        by (inr apart) = behind u apart ∙ none u is

  -- what is first, or that there is none
  abbrev Answer : List (Tag × Kept) → Option (Tag × Kept) → Type 0
  Answer es o = IfSome o (λ e. IsFirst es e.0) × IfNone o ((u : Tag) → IsAbove after u → counted es u ≡ 0)

  answer : (es : List (Tag × Kept)) → is_sorted tag_cmp es ≡ true → Answer es (next es)
  answer [] sorted = (tt, λ u is. refl)
  answer (d ∷ ds) sorted = by (is_above after d) (has_members d) refl refl (answer ds (rest_sorted tag_cmp d ds sorted))
    where
      lifted : (is_above after d ≡ true → has_members d ≡ true → ⊥) → (o : Option (Tag × Kept)) → Answer ds o → Answer (d ∷ ds) o
      lifted other None rest = (tt, none_behind d ds other rest.1)
      lifted other (Some e) rest = (first_behind d ds sorted other e.0 rest.0, tt)

      by : (a h : Bool) → is_above after d ≡ a → has_members d ≡ h → Answer ds (next ds) → Answer (d ∷ ds) (find has_members (cond a (d ∷ filter (is_above after) ds) (filter (is_above after) ds)))
      by true true above some rest = subst (λ b. Answer (d ∷ ds) (cond b (Some d) (next ds))) (sym some) (first_here d ds sorted above some, tt)
      by true false above none rest = subst (λ b. Answer (d ∷ ds) (cond b (Some d) (next ds))) (sym none) (lifted (λ a h. (let e = sym h ∙ none in cc)) (next ds) rest)
      by false h passed some rest = lifted (λ a k. (let e = sym a ∙ passed in cc)) (next ds) rest

  -- by the tags of prefixes
  module _ (m : FinMap prefix_cmp Tag) (es : List (Tag × Kept)) (sigs : FinMap tag_cmp (List Part)) (is : IsCounted m es) (same : sigs_of es ≡ sigs) where
    -- a tag with members is kept
    pub kept_there : (t : Tag) → 0 < members m t → is_some (get sigs t) ≡ true
    kept_there t some = is_some-kept es t sigs is.sorted same ∙ some_there (entries.find tag_cmp t es) (subst (λ n. 0 < n) (sym (is.counts t)) some)

    by_members : (t : Tag) → IsFirst es t → IsNextTag m after t
    by_members t first = record {
      used = subst (λ n. 0 < n) (is.counts t) first.used;
      above = first.above;
      least = λ u some above. first.least u (subst (λ n. 0 < n) (sym (is.counts u)) some) above;
    }

    -- what the call answers
    pub record IsAnswered (r : Option Tag) : Type 0 where
      pub next : IfSome r (IsNextTag m after)
      pub none : IfNone r ((u : Tag) → IsAbove after u → members m u ≡ 0)
      pub kept : IfSome r (λ t. is_some (get sigs t) ≡ true)

    answered_by : (o : Option (Tag × Kept)) → Answer es o → IsAnswered (option_map tag_of o)
    answered_by None found = record { next = tt; none = λ u above. sym (is.counts u) ∙ found.1 u above; kept = tt }
    answered_by (Some e) found = let next = by_members e.0 found.0 in record { next = next; none = tt; kept = kept_there e.0 next.used }

    pub answered : IsAnswered (option_map tag_of (next es))
    answered = answered_by (next es) (answer es is.sorted)

    pub found : (r : Option Tag) → r ≡ option_map tag_of (find has_members (filter (is_above after) es)) → IsAnswered r
    found r e = subst IsAnswered (sym e) answered

-- the tag of a prefix is kept
pub tag_is_kept : (m : FinMap prefix_cmp Tag) (es : List (Tag × Kept)) (sigs : FinMap tag_cmp (List Part)) → IsCounted m es → sigs_of es ≡ sigs → (p : Prefix) (o : Option Tag) → o ≡ get m p → IfSome o (λ t. is_some (get sigs t) ≡ true)
tag_is_kept m es sigs is same p None e = tt
tag_is_kept m es sigs is same p (Some t) e = kept_there None m es sigs is same t (some_member m p t (sym e))
