-- Groups, each once, and the tags of their prefixes.
use Rattle.std.proofs.Common.{◌≡◌, ℕ, zero, suc, ◌+◌, ◌<◌, Bool, true, false, cond, List, [], ◌∷◌, ◌++◌, length, drop, sym, ap, ◌∙◌, refl, arith}
use Rattle.std.specs.Prelude.{Option, Some, ◌≤◌, slice_get, slice_index_or, unwrap_or}
use Rattle.std.proofs.lemmas.List.{append_assoc, drop_all}
use Rattle.std.specs.List.{position_from}
use Rattle.events.specs.declared.TagChange.{TagChange}
use Rattle.events.specs.Tags.{Group, same_group}
use Rattle.net_types.specs.declared.address.Tag.{Tag}
use Rattle.net_types.specs.declared.prefix.Prefix.{Prefix}
use Rattle.net_types.specs.declared.route.Part.{Part}
use Rattle.fast_path.specs.Committing.{kept_of}
use Rattle.fast_path.specs.Grouping.{Known, group_at, group_before, groups_of, is_moved, more_groups, moved_groups, same_class, tag_after}
use Rattle.fast_path.specs.Offers.{tagged}
use Rattle.fast_path.specs.declared.fresh.Fresh.{Fresh}

-- the element at a place is the first of those from there on
pub drop_at : {A : Type 0} (xs : List A) (n : ℕ) (x : A) → slice_get xs n ≡ Some x → drop n xs ≡ x ∷ drop (n + 1) xs
drop_at [] zero x e = cc
drop_at [] (suc n) x e = cc
drop_at (y ∷ ys) zero x e = let same : y ≡ x = ap (λ o. unwrap_or o x) e in ap (λ z. z ∷ ys) same
drop_at (y ∷ ys) (suc n) x e = let next : suc n + 1 ≡ suc (n + 1) = omega arith in drop_at ys n x e ∙ ap (λ k. x ∷ drop k (y ∷ ys)) (sym next)

-- among classes a group stands where it stands among their groups
pub place_among : (before : Option Tag) (sig : List Part) (n : ℕ) (fs : List Fresh) → position_from (same_class before sig) n fs ≡ position_from (same_group (record { before = before; after = sig })) n (groups_of fs)
place_among before sig n [] = refl
place_among before sig n (f ∷ fs) = ap (λ o. cond (same_class before sig f) (Some n) o) (place_among before sig (n + 1) fs)

-- an element that is the one at a place is found there
pub item_at : {A : Type 0} (xs : List A) (n : ℕ) (x : A) → x ≡ slice_index_or xs n x → n < length xs → slice_get xs n ≡ Some x
item_at [] n x e below = absurd (omega arith)
item_at (y ∷ ys) zero x e below = ap (λ z. Some z) (sym e)
item_at (y ∷ ys) (suc n) x e below = item_at ys n x e (omega arith)

considered : (b : Bool) (g : Group) (gs rest : List Group) → more_groups (more_groups gs (group_before b g [])) rest ≡ more_groups gs (group_before b g rest)
considered true g gs rest = refl
considered false g gs rest = refl

-- the first of the prefixes that are left, and its signature
pub moved_step : (k : Known) (ps : List Prefix) (sigs : List (List Part)) (at : ℕ) (p : Prefix) (sig : List Part) (gs : List Group) → slice_get ps at ≡ Some p → slice_get sigs at ≡ Some sig
    → more_groups gs (moved_groups k (drop at ps) (drop at sigs)) ≡ more_groups (more_groups gs (moved_groups k (p ∷ []) (sig ∷ []))) (moved_groups k (drop (at + 1) ps) (drop (at + 1) sigs))
moved_step k ps sigs at p sig gs here there =
    ap (λ xs. more_groups gs (moved_groups k xs (drop at sigs))) (drop_at ps at p here)
    ∙ ap (λ xs. more_groups gs (moved_groups k (p ∷ drop (at + 1) ps) xs)) (drop_at sigs at sig there)
    ∙ sym (considered (is_moved k p sig) (group_at k p sig) gs (moved_groups k (drop (at + 1) ps) (drop (at + 1) sigs)))

pub moved_end : (k : Known) (ps : List Prefix) (sigs : List (List Part)) (at : ℕ) → length ps ≤ at → moved_groups k (drop at ps) (drop at sigs) ≡ []
moved_end k ps sigs at past = ap (λ xs. moved_groups k xs (drop at sigs)) (drop_all at ps past) ∙ none (drop at sigs)
  where
    none : (ys : List (List Part)) → moved_groups k [] ys ≡ []
    none ys = refl

-- ---- tags

-- the first of the prefixes that are left, with its tag
pub tagged_step : (k : Known) (fs : List Fresh) (ts : List Tag) (ps : List Prefix) (sigs : List (List Part)) (at : ℕ) (p : Prefix) (sig : List Part) (cs : List TagChange) → slice_get ps at ≡ Some p → slice_get sigs at ≡ Some sig
    → cs ++ tagged k fs ts (drop at ps) (drop at sigs) ≡ (cs ++ record { prefix = p; tag = tag_after k fs ts p sig } ∷ []) ++ tagged k fs ts (drop (at + 1) ps) (drop (at + 1) sigs)
tagged_step k fs ts ps sigs at p sig cs here there =
    ap (λ xs. cs ++ tagged k fs ts xs (drop at sigs)) (drop_at ps at p here)
    ∙ ap (λ xs. cs ++ tagged k fs ts (p ∷ drop (at + 1) ps) xs) (drop_at sigs at sig there)
    ∙ sym (append_assoc cs (record { prefix = p; tag = tag_after k fs ts p sig } ∷ []) (tagged k fs ts (drop (at + 1) ps) (drop (at + 1) sigs)))

-- ---- fresh tags with their signatures

-- no signatures, nothing kept
pub none_kept : (ts : List Tag) → kept_of ts [] ≡ []
none_kept [] = refl
none_kept (t ∷ ts) = refl
