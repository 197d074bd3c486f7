-- Meets counted as far as a limit.
use Rattle.std.proofs.Common.{◌≡◌, ◌≤◌, ◌<◌, ◌⊎◌, ℕ, arith, length, take, drop, ◌++◌, List, inl, inr, ap, subst, ◌+◌, ◌^◌, ◌∷◌, [], cond, sym, Option, Some, None}
use Rattle.std.proofs.lemmas.Bool.{cases_lt, cases_Bool}
use Rattle.std.proofs.lemmas.List.{take-append-drop, length_push}
use Rattle.std.proofs.Math.Pow.{pow_mono}
use Rattle.std.proofs.Math.Nat.{two-pow-succ}
use Rattle.net_types.specs.declared.cube.Cube.{Cube}
use Rattle.net_types.specs.Cubes.{meet_cubes}
use Rattle.net_types.specs.Meets.{meets, has_cube, add_found, add_meets}
use Rattle.net_types.specs.Sets.{Member}
use Rattle.net_types.proofs.SetLemmas
use Rattle.net_types.proofs.WidthLemmas.{meets-fewer}
use Rattle.policy_compile.specs.Sets.{IsUpTo, IsCount}

pub all_up_to : (limit : ℕ) (kept all : List Cube) → kept ≡ all → IsUpTo limit kept all
all_up_to limit kept all e = record { no_longer = omega (arith, ap length e); whole = λ short. e }

pub part_up_to : (limit : ℕ) (kept all : List Cube) → length kept ≤ length all → limit < length kept → IsUpTo limit kept all
part_up_to limit kept all part long = record { no_longer = part; whole = λ short. absurd (omega (arith, short, long)) }

-- the count of what is there once all were gone through, or once there were more than the limit
pub counted_all : (limit : ℕ) (kept cubes : List Cube) → IsUpTo limit kept (meets cubes) → IsCount limit (length (meets cubes)) (length kept)
counted_all limit kept cubes u = record {
  few = λ few. ap length (u.whole (omega (arith, few, u.no_longer)));
  many = λ many. more (cases_lt limit (length kept)) many;
}
  where
    more : (limit < length kept) ⊎ (length kept ≤ limit) → limit < length (meets cubes) → limit < length kept
    more (inr short) many = omega (arith, many, ap length (u.whole short))
    more (inl long) many = long

-- the meets of the last of some cubes are among those of all
pub fewer_dropped : (n : ℕ) (cubes others : List Cube) → length (meets (drop n cubes ++ others)) ≤ length (meets (cubes ++ others))
fewer_dropped n cubes others = meets-fewer (drop n cubes ++ others) (cubes ++ others) (λ c k. elim (SetLemmas.Member-append_cases (drop n cubes) others c k) [
  | inl h ↦ SetLemmas.Member-append_left cubes others c (subst (Member c) (take-append-drop n cubes) (SetLemmas.Member-append_right (take n cubes) (drop n cubes) c h))
  | inr h ↦ SetLemmas.Member-append_right cubes others c h
])

-- ---- few cubes have few meets

add_found-most : (kept : List Cube) (o : Option Cube) → length (add_found kept o) ≤ length kept + 1
add_found-most kept None = omega arith
add_found-most kept (Some c) = elim (cases_Bool (has_cube kept c)) [
  | inl there ↦ subst (λ b. length (cond b kept (kept ++ c ∷ [])) ≤ length kept + 1) (sym there) (omega arith)
  | inr absent ↦ subst (λ b. length (cond b kept (kept ++ c ∷ [])) ≤ length kept + 1) (sym absent) (omega (arith, length_push kept c))
]

add_meets-most : (c : Cube) (kept ms : List Cube) → length (add_meets c kept ms) ≤ length kept + length ms
add_meets-most c kept [] = omega arith
add_meets-most c kept (m ∷ ms) = omega (arith, add_found-most kept (meet_cubes c m), add_meets-most c (add_found kept (meet_cubes c m)) ms)

meets-most : (cubes : List Cube) → length (meets cubes) ≤ 2 ^ length cubes
meets-most [] = omega arith
meets-most (c ∷ cubes) =
    let twice : 2 ^ length (c ∷ cubes) ≡ 2 ^ length cubes + 2 ^ length cubes = two-pow-succ (length cubes) in
    omega (arith, meets-most cubes, add_meets-most c (meets cubes) (meets cubes), twice)

pub few_cubes : (cubes : List Cube) → length cubes ≤ 16 → length (meets cubes) ≤ 65536
few_cubes cubes few = omega (arith, meets-most cubes, pow_mono {i = length cubes} {j = 16} few)
