-- The moves of prefixes, one after the other, and that the moves of all prefixes merge the classes.
use Rattle.std.proofs.Common.{◌≡◌, ◌∙◌, ◌⊎◌, ◌≤◌, Bool, true, false, cond, nat_eq, not, List, [], ◌∷◌, ◌++◌, append_assoc, map, sym, ap, subst, refl, arith, inl, inr}
use Rattle.std.specs.Prelude.{Option, Some, None, is_some}
use Rattle.std.specs.FinMap.{FinMap, entries, entries_sorted, get, get-entries}
use Rattle.std.specs.FinMap.Entries.{find, is_sorted, below_all}
use Rattle.std.specs.Ordering.{eq_by_cmp, is_lt}
use Rattle.std.proofs.lemmas.Bool.{and_parts, false≢true}
use Rattle.net_types.proofs.EqualLemmas.{nat_test}
use Rattle.net_types.proofs.OrderLemmas.{prefix_tie, prefixes_total}
use Rattle.net_types.proofs.SetLemmas.{Member-append_cases, Member-append_left, Member-append_right, map-Member, map-append}
use Rattle.net_types.proofs.TieLemmas.{ties_itself}
use Rattle.net_types.specs.Keys.{prefix_cmp, tag_cmp}
use Rattle.net_types.specs.Sets.{IsRising, Member}
use Rattle.net_types.specs.UpdateSpelling.{is_before}
use Rattle.net_types.specs.declared.address.Tag.{Tag}
use Rattle.net_types.specs.declared.prefix.Prefix.{Prefix}
use Rattle.net_types.specs.declared.route.Part.{Part}
use Rattle.prefix_classes.proofs.BelowLemmas.{rest_sorted}
use Rattle.prefix_classes.proofs.MemberLemmas.{found_later, some_member}
use Rattle.prefix_classes.proofs.MergeLemmas.{same_number, used_is}
use Rattle.prefix_classes.specs.Merging.{IsFull, IsLeastTag, IsMergeOf, IsMove}
use Rattle.prefix_classes.specs.Moving.{AreMoves, IsMoveAmong}
use Rattle.prefix_classes.specs.Placed.{IsLeastBeside}
use Rattle.net_types.proofs.TestLemmas.{shown}
use Rattle.std.proofs.lemmas.List.{append-nil}

-- ---- entries of prefixes

pub member_found : (p : Prefix) (t : Tag) (es : List (Prefix × Tag)) → is_sorted prefix_cmp es ≡ true → Member (p, t) es → find prefix_cmp p es ≡ Some t
member_found p t [] sorted m = elim m [ ]
member_found p t (e ∷ es) sorted (inl same) =
    ap (λ (d : Prefix × Tag). cond (eq_by_cmp prefix_cmp d.0 e.0) (Some e.1) (find prefix_cmp d.0 es)) same
    ∙ ap (λ b. cond b (Some e.1) (find prefix_cmp e.0 es)) (ties_itself prefixes_total e.0)
    ∙ ap (λ (d : Prefix × Tag). Some d.1) (sym same)
member_found p t (e ∷ es) sorted (inr m) = found_later e es p t sorted (member_found p t es (rest_sorted prefix_cmp e es sorted) m)

pub found_member : (p : Prefix) (t : Tag) (es : List (Prefix × Tag)) → find prefix_cmp p es ≡ Some t → Member (p, t) es
found_member p t [] is = cc
found_member p t (e ∷ es) is = by (eq_by_cmp prefix_cmp p e.0) refl is (λ later. found_member p t es later)
  where
    by : (b : Bool) → eq_by_cmp prefix_cmp p e.0 ≡ b → cond b (Some e.1) (find prefix_cmp p es) ≡ Some t → (find prefix_cmp p es ≡ Some t → Member (p, t) es) → Member (p, t) (e ∷ es)
    by true tie here rest = let key : p ≡ e.0 = prefix_tie p e.0 tie in let value : t ≡ e.1 = cc in inl (λ i. (key i, value i))
    by false apart later rest = inr (rest later)

pub entry_is : (tags : FinMap prefix_cmp Tag) (p : Prefix) (t : Tag) → Member (p, t) (entries tags) → get tags p ≡ Some t
entry_is tags p t m = get-entries tags p ∙ member_found p t (entries tags) (shown _ (entries_sorted tags)) m

pub is_entry : (tags : FinMap prefix_cmp Tag) (p : Prefix) (t : Tag) → get tags p ≡ Some t → Member (p, t) (entries tags)
is_entry tags p t is = found_member p t (entries tags) (sym (get-entries tags p) ∙ is)

-- an entry is before each that follows it
below_member : (x : Prefix) (e : Prefix × Tag) (es : List (Prefix × Tag)) → below_all prefix_cmp x es ≡ true → Member e es → is_before x e.0 ≡ true
below_member x e [] below m = elim m [ ]
below_member x e (d ∷ es) below (inl same) = ap (λ (f : Prefix × Tag). is_before x f.0) same ∙ (and_parts (is_lt (prefix_cmp x d.0)) (below_all prefix_cmp x es) below).0
below_member x e (d ∷ es) below (inr m) = below_member x e es (and_parts (is_lt (prefix_cmp x d.0)) (below_all prefix_cmp x es) below).1 m

earlier_before : (done : List (Prefix × Tag)) (e : Prefix × Tag) (left : List (Prefix × Tag)) (d : Prefix × Tag) → is_sorted prefix_cmp (done ++ e ∷ left) ≡ true → Member d done → is_before d.0 e.0 ≡ true
earlier_before [] e left d sorted m = elim m [ ]
earlier_before (f ∷ done) e left d sorted (inl same) =
    ap (λ (g : Prefix × Tag). is_before g.0 e.0) same
    ∙ below_member f.0 e (done ++ e ∷ left) (and_parts (below_all prefix_cmp f.0 (done ++ e ∷ left)) (is_sorted prefix_cmp (done ++ e ∷ left)) sorted).0 (Member-append_right done (e ∷ left) e (inl refl))
earlier_before (f ∷ done) e left d sorted (inr m) = earlier_before done e left d (rest_sorted prefix_cmp f (done ++ e ∷ left) sorted) m

-- a prefix behind all others goes last
rising_last : (ps : List Prefix) (p : Prefix) → IsRising is_before ps → ((q : Prefix) → Member q ps → is_before q p ≡ true) → IsRising is_before (ps ++ p ∷ [])
rising_last [] p rising behind = (λ q m. elim m [ ], tt)
rising_last (x ∷ ps) p rising behind = (
  λ q m. elim (Member-append_cases ps (p ∷ []) q m) [
    | inl early ↦ rising.0 q early
    | inr last ↦ elim last [ inl same ↦ subst (λ r. is_before x r ≡ true) (sym same) (behind x (inl refl)) | inr none ↦ elim none [ ] ]
  ],
  rising_last ps p rising.1 (λ q m. behind q (inr m)),
)

-- ---- one prefix more

one_least_beside : (g : FinMap tag_cmp (List Part)) (of t u : Tag) → IsLeastBeside g of t → IsLeastBeside g of u → t ≡ u
one_least_beside g of t u one other =
    let low : t.0 ≤ u.0 = one.least u other.same in
    let high : u.0 ≤ t.0 = other.least t one.same in
    same_number t u (omega arith)

pub no_moves : (g : FinMap tag_cmp (List Part)) → AreMoves g [] []
no_moves g = record { rising = tt; right = λ p t m. elim m [ ]; all = λ p t move. elim move.had [ ] }

module _ (g : FinMap tag_cmp (List Part)) (done : List (Prefix × Tag)) (moves : List (Prefix × Tag)) (are : AreMoves g done moves) (p : Prefix) (from to : Tag) (least : IsLeastBeside g from to) where
  abbrev more : List (Prefix × Tag)
  more = done ++ (p, from) ∷ []

  widened : (q : Prefix) (u : Tag) → IsMoveAmong g done q u → IsMoveAmong g more q u
  widened q u move = record { from = move.from; had = Member-append_left done ((p, from) ∷ []) (q, move.from) move.had; to = move.to; other = move.other }

  -- a move of the prefixes so far is one of the earlier ones, or that of the last one
  narrowed : (q : Prefix) (u : Tag) → IsMoveAmong g more q u → IsMoveAmong g done q u ⊎ ((q ≡ p) × (u ≡ to) × ¬ (from ≡ to))
  narrowed q u move = by (Member-append_cases done ((p, from) ∷ []) (q, move.from) move.had)
    where
      last : ◌≡◌ {A = Prefix × Tag} (q, move.from) (p, from) → IsMoveAmong g done q u ⊎ ((q ≡ p) × (u ≡ to) × ¬ (from ≡ to))
      last same =
          let own : move.from ≡ from = ap (λ (d : Prefix × Tag). d.1) same in
          let target : u ≡ to = one_least_beside g from u to (subst (λ f. IsLeastBeside g f u) own move.to) least in
          inr (ap (λ (d : Prefix × Tag). d.0) same, target, λ stays. move.other (own ∙ stays ∙ sym target))

      by : Member (q, move.from) done ⊎ Member {A = Prefix × Tag} (q, move.from) ((p, from) ∷ []) → IsMoveAmong g done q u ⊎ ((q ≡ p) × (u ≡ to) × ¬ (from ≡ to))
      by (inl early) = inl (record { from = move.from; had = early; to = move.to; other = move.other })
      by (inr (inl same)) = last same
      by (inr (inr none)) = elim none [ ]

  pub one_stays : from ≡ to → AreMoves g more moves
  one_stays stays = record {
    rising = are.rising;
    right = λ q u m. widened q u (are.right q u m);
    all = λ q u move. elim (narrowed q u move) [ inl early ↦ are.all q u early | inr last ↦ absurd (last.2 stays) ];
  }

  module _ (left : List (Prefix × Tag)) (sorted : is_sorted prefix_cmp (done ++ (p, from) ∷ left) ≡ true) where
    behind : (q : Prefix) → Member q (map (λ (m : Prefix × Tag). m.0) moves) → is_before q p ≡ true
    behind q m =
        let image = map-Member (λ (m : Prefix × Tag). m.0) moves q m in
        let move = are.right image.of.0 image.of.1 image.stands in
        subst (λ r. is_before r p ≡ true) (sym image.is) (earlier_before done (p, from) left (image.of.0, move.from) sorted move.had)

    pub one_moves : ¬ (from ≡ to) → AreMoves g more (moves ++ (p, to) ∷ [])
    one_moves differs = record {
      rising = subst (IsRising is_before) (sym (map-append (λ (m : Prefix × Tag). m.0) moves ((p, to) ∷ []))) (rising_last (map (λ (m : Prefix × Tag). m.0) moves) p are.rising behind);
      right = λ q u m. right q u (Member-append_cases moves ((p, to) ∷ []) (q, u) m);
      all = λ q u move. elim (narrowed q u move) [
        | inl early ↦ Member-append_left moves ((p, to) ∷ []) (q, u) (are.all q u early)
        | inr last ↦ Member-append_right moves ((p, to) ∷ []) (q, u) (inl (λ i. (last.0 i, last.1 i)))
      ];
    }
      where
        own : (q : Prefix) (u : Tag) → ◌≡◌ {A = Prefix × Tag} (q, u) (p, to) → IsMoveAmong g more q u
        own q u same = subst (λ (d : Prefix × Tag). IsMoveAmong g more d.0 d.1) (sym same) (record {
          from = from;
          had = Member-append_right done ((p, from) ∷ []) (p, from) (inl refl);
          to = least;
          other = differs;
        })

        right : (q : Prefix) (u : Tag) → Member (q, u) moves ⊎ Member {A = Prefix × Tag} (q, u) ((p, to) ∷ []) → IsMoveAmong g more q u
        right q u (inl early) = widened q u (are.right q u early)
        right q u (inr (inl same)) = own q u same
        right q u (inr (inr none)) = elim none [ ]

-- ---- in the loop

-- what a comparison of two tags says
pub tags_differ : (t u : Tag) (r : Bool) → r ≡ not (nat_eq t.0 u.0) → r ≡ true → ¬ (u ≡ t)
tags_differ t u r is differ same =
    let tie : nat_eq t.0 u.0 ≡ true = (nat_test t.0 u.0).1 (ap (λ (v : Tag). v.0) (sym same)) in
    false≢true (sym (is ∙ ap not tie) ∙ differ)

pub tags_agree : (t u : Tag) (r : Bool) → r ≡ not (nat_eq t.0 u.0) → r ≡ false → u ≡ t
tags_agree t u r is agree = same_number u t (sym ((nat_test t.0 u.0).0 (by (nat_eq t.0 u.0) (sym is ∙ agree))))
  where
    by : (b : Bool) → not b ≡ false → b ≡ true
    by true e = refl
    by false e = cc

-- the moves so far, and the entries that are left
pub record ArePlanned (g : FinMap tag_cmp (List Part)) (all left moves : List (Prefix × Tag)) : Type 0 where
  pub done : List (Prefix × Tag)
  pub split : done ++ left ≡ all
  pub moves_so_far : AreMoves g done moves

pub none_planned : (g : FinMap tag_cmp (List Part)) (all left moves : List (Prefix × Tag)) → left ≡ all → moves ≡ [] → ArePlanned g all left moves
none_planned g all left moves whole none = record { done = []; split = whole; moves_so_far = subst (AreMoves g []) (sym none) (no_moves g) }

pub all_planned : (g : FinMap tag_cmp (List Part)) (all left moves : List (Prefix × Tag)) → ArePlanned g all left moves → left ≡ [] → AreMoves g all moves
all_planned g all left moves so_far none = subst (λ es. AreMoves g es moves) (sym (append-nil so_far.done) ∙ ap (λ es. so_far.done ++ es) (sym none) ∙ so_far.split) so_far.moves_so_far

module _ (g : FinMap tag_cmp (List Part)) (tags : FinMap prefix_cmp Tag) (left rest moves : List (Prefix × Tag)) (p : Prefix) (from : Tag) (so_far : ArePlanned g (entries tags) left moves) (next : left ≡ (p, from) ∷ rest) where
  whole : so_far.done ++ (p, from) ∷ rest ≡ entries tags
  whole = ap (λ es. so_far.done ++ es) (sym next) ∙ so_far.split

  pub next_has : get tags p ≡ Some from
  next_has = entry_is tags p from (subst (Member {A = Prefix × Tag} (p, from)) whole (Member-append_right so_far.done ((p, from) ∷ rest) (p, from) (inl refl)))

  module _ (to : Tag) (least : IsLeastBeside g from to) where
    advanced : (so_far.done ++ (p, from) ∷ []) ++ rest ≡ entries tags
    advanced = append_assoc so_far.done ((p, from) ∷ []) rest ∙ whole

    pub planned_stays : from ≡ to → ArePlanned g (entries tags) rest moves
    planned_stays stays = record { done = so_far.done ++ (p, from) ∷ []; split = advanced; moves_so_far = one_stays g so_far.done moves so_far.moves_so_far p from to least stays }

    pub planned_moves : ¬ (from ≡ to) → ArePlanned g (entries tags) rest (moves ++ (p, to) ∷ [])
    planned_moves differs = record {
      done = so_far.done ++ (p, from) ∷ [];
      split = advanced;
      moves_so_far = one_moves g so_far.done moves so_far.moves_so_far p from to least rest (ap (is_sorted prefix_cmp) whole ∙ shown _ (entries_sorted tags)) differs;
    }

-- ---- all prefixes

module _ (tags : FinMap prefix_cmp Tag) (kept g : FinMap tag_cmp (List Part)) (full : IsFull tags kept g) where
  had_used : (p : Prefix) (from : Tag) → get tags p ≡ Some from → get g from ≡ get kept from
  had_used p from had = full from ∙ used_is tags kept from (some_member tags p from had)

  -- each prefix's tag is placed
  pub tag_placed : (p : Prefix) (from : Tag) → get tags p ≡ Some from → is_some (get kept from) ≡ true → is_some (get g from) ≡ true
  tag_placed p from had known = ap is_some (had_used p from had) ∙ known

  least_beside : (sig : List Part) (from t : Tag) → get g from ≡ Some sig → IsLeastTag tags kept sig t → IsLeastBeside g from t
  least_beside sig from t is least = record {
    same = full t ∙ least.has ∙ sym is;
    least = λ u alike. least.least u (sym (full u) ∙ alike ∙ is);
  }

  least_tag : (sig : List Part) (from t : Tag) → get g from ≡ Some sig → IsLeastBeside g from t → IsLeastTag tags kept sig t
  least_tag sig from t is least = record {
    has = sym (full t) ∙ least.same ∙ is;
    least = λ u alike. least.least u (full u ∙ alike ∙ sym is);
  }

  pub all_merge : ((p : Prefix) (t : Tag) → get tags p ≡ Some t → is_some (get kept t) ≡ true) → (moves : List (Prefix × Tag)) → AreMoves g (entries tags) moves → IsMergeOf tags kept moves
  all_merge known moves are = record {
    rising = are.rising;
    right = λ p t m. move_of p t (are.right p t m);
    all = λ p t move. are.all p t (record {
      from = move.from;
      had = is_entry tags p move.from move.had;
      to = least_beside move.sig move.from t (had_used p move.from move.had ∙ move.kept_sig) move.to;
      other = move.other;
    });
  }
    where
      with_sig : (p : Prefix) (t from : Tag) → get tags p ≡ Some from → IsLeastBeside g from t → ¬ (from ≡ t) → (o : Option (List Part)) → get kept from ≡ o → is_some o ≡ true → IsMove tags kept p t
      with_sig p t from had to other None is some = cc
      with_sig p t from had to other (Some sig) is some = record {
        from = from;
        had = had;
        sig = sig;
        kept_sig = is;
        to = least_tag sig from t (had_used p from had ∙ is) to;
        other = other;
      }

      move_of : (p : Prefix) (t : Tag) → IsMoveAmong g (entries tags) p t → IsMove tags kept p t
      move_of p t move =
          let had = entry_is tags p move.from move.had in
          with_sig p t move.from had move.to move.other (get kept move.from) refl (known p move.from had)
