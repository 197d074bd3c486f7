-- In which cubes predicates hold.
use Rattle.std.proofs.Common.{◌≡◌, ◌+◌, ◌⊎◌, ◌∷◌, ◌++◌, [], length, unwrap_or, arith, ℕ, zero, suc, true, false, ◌||◌, nat_eq, Option, Some, None, List, refl, inl, inr, sym, ap, ◌∙◌, subst}
use Rattle.std.specs.List.{slice_get}
use Rattle.std.proofs.lemmas.Bool.{cases_lt, eq-eqb, ne_eqb}
use Rattle.std.proofs.Math.Bool.{or-false, or-true}
use Rattle.net_types.specs.declared.cube.Cube.{Cube}
use Rattle.net_types.specs.declared.headers.Assign.{Assign}
use Rattle.net_types.specs.Cubes.{lies_within_cube}
use Rattle.net_types.specs.Policies.{Pred, plain}
use Rattle.place_sets.specs.Places.{has_place}
use Rattle.policy_compile.specs.Columns.{AreWithin, IsWithin, IsWithinBefore, KeepSets, Places, TellsSet}
use Rattle.policy_compile.specs.declared.memo.Noted.{Noted}
use Rattle.net_types.specs.Sets.{Member}
use Rattle.std.proofs.lemmas.Option.{slice_get_within}
use Rattle.policy_compile.proofs.ColumnLemmas.{inside-kept, set-kept}
use Rattle.policy_compile.specs.Paths.{part_at, pred_at, taken_into, where_plain}
use Rattle.policy_compile.proofs.PathLemmas.{pred_at-is}

-- where a predicate is a conjunction of plain tests, its one cube decides
pub plain-decides : (m : Cube) (set : Assign) (p : Pred) (found : Option Cube) → plain p ≡ Some found → taken_into m set found ≡ pred_at m set p
plain-decides m set p found e = sym (ap (λ o. where_plain m set o (part_at m set p)) e) ∙ pred_at-is m set p

-- and else its parts do
pub parts-decide : (m : Cube) (set : Assign) (p : Pred) → plain p ≡ None → part_at m set p ≡ pred_at m set p
parts-decide m set p e = sym (ap (λ o. where_plain m set o (part_at m set p)) e) ∙ pred_at-is m set p

one-cube : (x m : Cube) → Some x ≡ Some m → x ≡ m
one-cube x m e = cc

-- one place more, which is put in where its cube lies within
pub within-put : (cubes : List Cube) (outer : Cube) (s t : Places) (n : ℕ) (x : Cube) → slice_get cubes n ≡ Some x → lies_within_cube x outer ≡ true → ((k : ℕ) → has_place t k ≡ (has_place s k || nat_eq k n))
    → IsWithinBefore cubes outer s n → IsWithinBefore cubes outer t (n + 1)
within-put cubes outer s t n x at inside put is = record {
  below = λ k m there less. elim (cases_lt k n) [
    | inl before ↦ put k ∙ ap (λ b. has_place s k || b) (ne_eqb k n (λ e. absurd (omega (arith, before, e)))) ∙ or-false (has_place s k) ∙ is.below k m there before
    | inr after ↦
        let here : k ≡ n = omega (arith, after, less) in
        let one : Some x ≡ Some m = sym at ∙ ap (slice_get cubes) (sym here) ∙ there in
        put k ∙ ap (λ b. has_place s k || b) (eq-eqb k n here) ∙ or-true (has_place s k) ∙ sym (sym (ap (λ c. lies_within_cube c outer) (one-cube x m one)) ∙ inside)
  ];
  above = λ k more. put k ∙ ap (λ b. b || nat_eq k n) (is.above k (omega (arith, more))) ∙ ne_eqb k n (λ e. absurd (omega (arith, more, e)));
}

-- and isn't where it doesn't
pub within-left : (cubes : List Cube) (outer : Cube) (s : Places) (n : ℕ) (x : Cube) → slice_get cubes n ≡ Some x → lies_within_cube x outer ≡ false → IsWithinBefore cubes outer s n → IsWithinBefore cubes outer s (n + 1)
within-left cubes outer s n x at outside is = record {
  below = λ k m there less. elim (cases_lt k n) [
    | inl before ↦ is.below k m there before
    | inr after ↦
        let here : k ≡ n = omega (arith, after, less) in
        let one : Some x ≡ Some m = sym at ∙ ap (slice_get cubes) (sym here) ∙ there in
        is.above k (omega (arith, here)) ∙ sym (sym (ap (λ c. lies_within_cube c outer) (one-cube x m one)) ∙ outside)
  ];
  above = λ k more. is.above k (omega (arith, more));
}

-- ---- sets that were noted

keep-pushed : (sets : List Places) (s : Places) → KeepSets sets (sets ++ s ∷ [])
keep-pushed [] s n x e = absurd (cc)
keep-pushed (y ∷ sets) s zero x e = e
keep-pushed (y ∷ sets) s (suc n) x e = keep-pushed sets s n x e

last-set : (sets : List Places) (s : Places) → slice_get (sets ++ s ∷ []) (length sets) ≡ Some s
last-set [] s = refl
last-set (y ∷ sets) s = last-set sets s

pub within-last : (cubes : List Cube) (sets news : List Places) (s : Places) (c : Cube) (n : ℕ) → news ≡ sets ++ s ∷ [] → n ≡ length sets → TellsSet cubes (λ m. lies_within_cube m c) (has_place s) → IsWithin cubes news c n
within-last cubes sets news s c n pushed last tells =
    let at : slice_get news n ≡ Some s = ap (λ xs. slice_get xs n) pushed ∙ ap (slice_get (sets ++ s ∷ [])) last ∙ last-set sets s in
    record {
      inside = slice_get_within news n s at;
      tells = λ k m there. ap (λ o. has_place (unwrap_or o []) k) at ∙ tells k m there;
    }

pub within-noted : (cubes : List Cube) (all : Places) (sets news : List Places) (found more : List (Noted Cube ℕ)) (s : Places) (c : Cube) (n : ℕ) → AreWithin cubes all sets found → news ≡ sets ++ s ∷ []
    → ((e : Noted Cube ℕ) → Member e more → Member e found ⊎ (e ≡ record { key = c; value = n })) → IsWithin cubes news c n → AreWithin cubes all news more
within-noted cubes all sets news found more s c n are pushed noted is = record {
  all_are = are.all_are;
  found_are = λ e m. elim (noted e m) [
    | inl old ↦
        let was = are.found_are e old in
        let kept : KeepSets sets news = subst (KeepSets sets) (sym pushed) (keep-pushed sets s) in
        record { inside = inside-kept sets news e.value kept was.inside; tells = λ k x there. set-kept sets news e.value kept was.inside k ∙ was.tells k x there }
    | inr same ↦ subst (λ (x : Noted Cube ℕ). IsWithin cubes news x.key x.value) (sym same) is
  ];
}
