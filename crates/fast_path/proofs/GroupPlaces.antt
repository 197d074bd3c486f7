-- What ties in the order of groups is one group; where groups are found once there is one more.
use Rattle.std.proofs.Common.{◌≡◌, ℕ, suc, nat_eq, true≢false, ◌+◌, Bool, true, false, cond, List, [], ◌∷◌, ◌++◌, length, sym, ap, ◌∙◌, refl, arith}
use Rattle.std.specs.Prelude.{Option, Some, None, is_some}
use Rattle.std.specs.FinMap.Entries.{find, put, find-put}
use Rattle.std.specs.List.{list_any, position_from}
use Rattle.std.proofs.lemmas.Bool.{eqb-true}
use Rattle.std.specs.Option.{option_cmp}
use Rattle.std.specs.Ordering.{eq_by_cmp}
use Rattle.std.specs.declared.cmp.Ordering.TheVariants.{Equal}
use Rattle.events.specs.Tags.{Group, same_group}
use Rattle.exchange_laws.proofs.Sames.{group_itself, group_same}
use Rattle.net_types.proofs.TieLemmas.{first_tie, second_tie, same_from_tie, tag_cmp-IsAntisymmetric, ties_itself}
use Rattle.net_types.specs.Keys.{tag_cmp}
use Rattle.net_types.specs.declared.address.Tag.{Tag}
use Rattle.prefix_classes.proofs.PlacedLemmas.{sig_cmp-IsAntisymmetric}
use Rattle.prefix_classes.specs.Placed.{sig_cmp}
use Rattle.fast_path.specs.GroupOrder.{ArePlaces, behind, group_cmp, groups_total}
use Rattle.fast_path.specs.Grouping.{groups_of, is_first_class, one_more, same_class}
use Rattle.fast_path.specs.declared.fresh.Fresh.{Fresh}
use Rattle.fast_path.proofs.GroupLemmas.{place_among}
use Rattle.net_types.specs.declared.route.Part.{Part}
use Rattle.net_types.proofs.FindLemmas.{any_position}

-- ---- the order

befores_tie : (a b : Option Tag) → option_cmp tag_cmp a b ≡ Equal → a ≡ b
befores_tie None None e = refl
befores_tie None (Some u) e = cc
befores_tie (Some t) None e = cc
befores_tie (Some t) (Some u) e = ap (λ x. Some x) (tag_cmp-IsAntisymmetric t u e)

groups_tie : (a b : Group) → group_cmp a b ≡ Equal → a ≡ b
groups_tie a b e =
    let first = option_cmp tag_cmp a.before b.before in
    let rest = sig_cmp a.after b.after in
    λ i. record {
      before = befores_tie a.before b.before (first_tie first rest e) i;
      after = sig_cmp-IsAntisymmetric a.after b.after (second_tie first rest e) i;
    }

same_as_tied : (a b : Group) → eq_by_cmp group_cmp a b ≡ same_group a b
same_as_tied a b = by (eq_by_cmp group_cmp a b) (same_group a b) refl refl
  where
    by : (x y : Bool) → eq_by_cmp group_cmp a b ≡ x → same_group a b ≡ y → x ≡ y
    by true true tie same = refl
    by false false tie same = refl
    by true false tie same = sym (group_itself a) ∙ ap (same_group a) (same_from_tie group_cmp groups_tie a b tie) ∙ same
    by false true tie same = sym tie ∙ ap (eq_by_cmp group_cmp a) (sym (group_same a b same)) ∙ ties_itself groups_total a

-- ---- places

-- the place in a list with one more element
placed_last : {A : Type 0} (p : A → Bool) (n : ℕ) (xs : List A) (x : A) → position_from p n (xs ++ x ∷ []) ≡ cond (is_some (position_from p n xs)) (position_from p n xs) (cond (p x) (Some (n + length xs)) None)
placed_last p n [] x = let none : n ≡ n + 0 = omega arith in ap (λ k. cond (p x) (Some k) None) none
placed_last p n (y ∷ xs) x =
    let more : n + 1 + length xs ≡ n + length (y ∷ xs) = omega arith in
    ap (cond (p y) (Some n)) (placed_last p (n + 1) xs x ∙ ap (λ k. cond (is_some (position_from p (n + 1) xs)) (position_from p (n + 1) xs) (cond (p x) (Some k) None)) more)
    ∙ by (p y) (position_from p (n + 1) xs) (cond (p x) (Some (n + length (y ∷ xs))) None)
  where
    by : (b : Bool) (o last : Option ℕ) → cond b (Some n) (cond (is_some o) o last) ≡ cond (is_some (cond b (Some n) o)) (cond b (Some n) o) last
    by true o last = refl
    by false o last = refl

pub no_places : (low : ℕ) (es : List (Group × ℕ)) → es ≡ [] → ArePlaces low [] es
no_places low es none = λ g. ap (find group_cmp g) none

-- one more group at the end, where it has no place yet
pub place_more : (low : ℕ) (gs : List Group) (es : List (Group × ℕ)) (g : Group) (n : ℕ) → ArePlaces low gs es → is_some (find group_cmp g es) ≡ false → n ≡ low + length gs → ArePlaces low (gs ++ g ∷ []) (put group_cmp g n es)
place_more low gs es g n are new at = λ q.
    find-put group_cmp groups_total q g n es
    ∙ ap (λ b. cond b (Some n) (find group_cmp q es)) (same_as_tied q g)
    ∙ by q (same_group q g) refl
    ∙ sym (placed_last (same_group q) low gs g)
  where
    either : (o : Option ℕ) → o ≡ cond (is_some o) o None
    either None = refl
    either (Some k) = refl

    by : (q : Group) (b : Bool) → same_group q g ≡ b → cond b (Some n) (find group_cmp q es) ≡ cond (is_some (position_from (same_group q) low gs)) (position_from (same_group q) low gs) (cond (same_group q g) (Some (low + length gs)) None)
    by q true same =
        let it : is_some (position_from (same_group q) low gs) ≡ false = ap (λ h. is_some (position_from (same_group h) low gs)) (group_same q g same) ∙ ap is_some (sym (are g)) ∙ new in
        ap (λ k. Some k) at
        ∙ sym (ap (λ b. cond b (position_from (same_group q) low gs) (cond (same_group q g) (Some (low + length gs)) None)) it ∙ ap (λ b. cond b (Some (low + length gs)) None) same)
    by q false other =
        are q ∙ either (position_from (same_group q) low gs) ∙ ap (λ b. cond (is_some (position_from (same_group q) low gs)) (position_from (same_group q) low gs) (cond b (Some (low + length gs)) None)) (sym other)

-- ---- classes, of which the first is looked at

abbrev group_by : Option Tag → List Part → Group
group_by before sig = record { before = before; after = sig }

pub first_place : (before : Option Tag) (sig : List Part) (fs : List Fresh) → is_first_class before sig fs ≡ true → Some 0 ≡ position_from (same_class before sig) 0 fs
first_place before sig [] e = absurd (true≢false (sym e))
first_place before sig (f ∷ fs) e = sym (ap (λ b. cond b (Some 0) (position_from (same_class before sig) 1 fs)) e)

pub other_place : (before : Option Tag) (sig : List Part) (fs : List Fresh) (es : List (Group × ℕ)) → ArePlaces 1 (behind (groups_of fs)) es → is_first_class before sig fs ≡ false → find group_cmp (group_by before sig) es ≡ position_from (same_class before sig) 0 fs
other_place before sig [] es are e = are (group_by before sig)
other_place before sig (f ∷ fs) es are e =
    are (group_by before sig) ∙ sym (place_among before sig 1 fs)
    ∙ sym (ap (λ b. cond b (Some 0) (position_from (same_class before sig) 1 fs)) e)

-- what has no place isn't found behind the first
pub none_found : (before : Option Tag) (sig : List Part) (fs : List Fresh) (es : List (Group × ℕ)) → ArePlaces 1 (behind (groups_of fs)) es → is_some (position_from (same_class before sig) 0 fs) ≡ false → is_some (find group_cmp (group_by before sig) es) ≡ false
none_found before sig [] es are none = ap is_some (are (group_by before sig))
none_found before sig (f ∷ fs) es are none = ap is_some (are (group_by before sig) ∙ sym (place_among before sig 1 fs)) ∙ by (same_class before sig f) (position_from (same_class before sig) 1 fs) none
  where
    by : (b : Bool) (o : Option ℕ) → is_some (cond b (Some 0) o) ≡ false → is_some o ≡ false
    by true o none = absurd (true≢false none)
    by false o none = none

any_is : (before : Option Tag) (sig : List Part) (fs : List Fresh) → list_any (same_group (group_by before sig)) (groups_of fs) ≡ is_some (position_from (same_class before sig) 0 fs)
any_is before sig fs = any_position (same_group (group_by before sig)) 0 (groups_of fs) ∙ ap is_some (sym (place_among before sig 0 fs))

-- a group that has a place is none more, and one that has none is one more
pub placed_there : (before : Option Tag) (sig : List Part) (fs : List Fresh) → is_some (position_from (same_class before sig) 0 fs) ≡ true → groups_of fs ≡ one_more (groups_of fs) (group_by before sig)
placed_there before sig fs there = sym (ap (λ b. cond b (groups_of fs) (groups_of fs ++ group_by before sig ∷ [])) (any_is before sig fs ∙ there))

pub added_there : (before : Option Tag) (sig : List Part) (fs : List Fresh) → is_some (position_from (same_class before sig) 0 fs) ≡ false → groups_of fs ++ group_by before sig ∷ [] ≡ one_more (groups_of fs) (group_by before sig)
added_there before sig fs new = sym (ap (λ b. cond b (groups_of fs) (groups_of fs ++ group_by before sig ∷ [])) (any_is before sig fs ∙ new))

-- with one more behind others, and with a first one
pub behind_more : (gs : List Group) (g : Group) → nat_eq (length gs) 0 ≡ false → behind (gs ++ g ∷ []) ≡ behind gs ++ g ∷ []
behind_more [] g some = absurd (true≢false some)
behind_more (h ∷ gs) g some = refl

pub behind_count : (gs : List Group) → nat_eq (length gs) 0 ≡ false → length gs ≡ 1 + length (behind gs)
behind_count [] some = absurd (true≢false some)
behind_count (h ∷ gs) some = omega arith

pub behind_first : (gs : List Group) (g : Group) → nat_eq (length gs) 0 ≡ true → behind (gs ++ g ∷ []) ≡ behind gs
behind_first [] g none = refl
behind_first (h ∷ gs) g none = absurd (omega (arith, eqb-true (suc (length gs)) 0 none))
