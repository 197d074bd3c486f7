-- How many entries stand in a run, where one of them stands, and what that says of its memory.
use Rattle.std.proofs.Common.{◌≡◌, ◌<◌, ◌≤◌, ◌-◌, ◌+◌, ◌/◌, ℕ, suc, length, arith, List, [], ◌∷◌, ap, sym, subst, ◌∙◌, get_or, Fits, w64, cond}
use Rattle.std.specs.Prelude.{slice_get, Option, None, Some, Bool, true, false, not, is_some}
use Rattle.std.specs.declared.cmp.Ordering.{Ordering}
use Rattle.std.specs.declared.cmp.Ordering.TheVariants.{Less}
use Rattle.std.proofs.lemmas.List.{get_or_default}
use Rattle.ordered_map.specs.Runs.{IsFirst, IsLess, IsPast, IsRun}
use Rattle.ordered_map.proofs.RunLemmas.{is_within}

-- ---- a run after a call

pub run_same : {size capacity : ℕ} (after left : ℕ) → IsRun size capacity → after ≡ size → left ≡ capacity → IsRun after left
run_same after left run size fits = record { few = omega (arith, run.few, size); fits = omega (arith, run.fits, fits) }

pub run_less : {size capacity : ℕ} (after left : ℕ) → IsRun size capacity → after + 1 ≡ size → left ≡ capacity → IsRun after left
run_less after left run size fits = record { few = omega (arith, run.few, size); fits = omega (arith, run.fits, fits) }

pub run_more : {size capacity : ℕ} (after left : ℕ) (more : Bool) → IsRun size capacity → size < 15 → after ≡ cond more (size + 1) size → capacity ≤ left → IsRun after left
run_more after left true run room size fits = record { few = omega (arith, room, size); fits = omega (arith, run.fits, fits) }
run_more after left false run room size fits = record { few = omega (arith, room, size); fits = omega (arith, run.fits, fits) }

pub has_room : {size capacity : ℕ} (n : ℕ) → IsRun size capacity → n ≡ size → n < 15 → n < capacity
has_room n run size room = omega (arith, run.fits, room)

pub all_there : {size capacity : ℕ} (n : ℕ) → IsRun size capacity → n ≡ size → 15 ≤ n → size ≡ 15
all_there n run size full = omega (arith, run.few, size, full)

-- ---- answers that can't come

pub no_err : (ok err : Bool) → ok ≡ true → ok ≡ not err → err ≡ true → ⊥
no_err ok err is told failed = let both : true ≡ false = sym is ∙ told ∙ ap not failed in cc

pub no_none : {A : Type 0} (o : Option A) → is_some o ≡ true → o ≡ None → ⊥
no_none None some none = cc
no_none (Some x) some none = cc

-- ---- places

pub any_size : (n : ℕ) → 0 ≤ n
any_size n = omega arith

pub up_to : (a b : ℕ) → a ≡ b → a ≤ b
up_to a b is = omega (arith, is)

pub up_from : {a b c : ℕ} → a ≤ b → b ≤ c → a ≤ c
up_from low high = omega (arith, low, high)

pub next_counted : {n count len after : ℕ} → n ≤ count → len ≡ n → (len ≡ count → ⊥) → after ≡ n + 1 → after ≤ count
next_counted few size apart next = omega (arith, few, size, apart, next)

pub one_less : (n : ℕ) → n - 1 ≤ n
one_less n = omega arith

pub last_within : (n : ℕ) → 1 ≤ n → n - 1 < n
last_within n some = omega (arith, some)

module _ (a b n : ℕ) (apart : a < b) (within : b < n) where
  pub middle_before : (a + b) / 2 < b
  middle_before = omega (arith, apart)

  pub middle_after : a ≤ (a + b) / 2
  middle_after = omega (arith, apart)

  pub middle_within : (a + b) / 2 < n
  middle_within = let before = middle_before in omega (arith, before, within)

  pub middle_bound : (a + b) / 2 ≤ n
  middle_bound = let before = middle_before in omega (arith, before, within)

  pub sum_fits : n ≤ 15 → Fits w64 (a + b)
  sum_fits few = omega (arith, apart, within, few)

  pub next_fits : n ≤ 15 → Fits w64 ((a + b) / 2 + 1)
  next_fits few = let before = middle_before in omega (arith, before, within, few)

  pub lower_half : (a + b) / 2 - a < b - a
  lower_half = let before = middle_before in let after = middle_after in omega (arith, before, after)

  pub upper_half : b - ((a + b) / 2 + 1) < b - a
  upper_half = let before = middle_before in let after = middle_after in omega (arith, before, after)

module _ {K V : Type 0} (R : K → K → Ordering) (q : K) where
  -- an entry at a place stands below the length
  pub held_within : (es : List (K × V)) (place : ℕ) (order : Ordering) (n : ℕ) → n ≡ length es → IsFirst R q es place order → place < n
  held_within es place order n size first = subst (λ m. place < m) (sym size) (is_within R q es place order first)

  pub held_up_to : (es : List (K × V)) (place : ℕ) (order : Ordering) → IsFirst R q es place order → place ≤ length es
  held_up_to es place order first = let within = is_within R q es place order first in omega (arith, within)

  pub less_at : (es : List (K × V)) (place : ℕ) (x : K × V) → place < length es → x ≡ get_or es place x → R q x.0 ≡ Less → IsLess R q es place
  less_at es place x within is low = λ d. ap (λ y. R q y.0) (get_or_default es place d x within ∙ sym is) ∙ low

  pub past_few : (es : List (K × V)) → length es < 1 → IsPast R q es
  past_few [] few = tt
  past_few (e ∷ es) few = absurd (omega (arith, few))

  pub past_none : (es : List (K × V)) → slice_get es (length es - 1) ≡ None → IsPast R q es
  past_none [] none = tt
  past_none (e ∷ es) none = absurd (last_there e es none)
    where
      last_there : (e : K × V) (es : List (K × V)) → slice_get (e ∷ es) (length (e ∷ es) - 1) ≡ None → ⊥
      last_there e [] none = cc
      last_there e (d ∷ es) none =
          let one : length (e ∷ d ∷ es) - 1 ≡ suc (length (d ∷ es) - 1) = omega arith in
          last_there d es (ap (slice_get (e ∷ d ∷ es)) (sym one) ∙ none)

pub some_there : {A : Type 0} (es : List A) (e : A) → slice_get es (length es - 1) ≡ Some e → 0 < length es
some_there [] e is = cc
some_there (x ∷ es) e is = omega arith

-- ---- sums over the parts of a node, from left to right

pub told_parts : (n n1 n2 n3 l l1 m m1 r r1 x : ℕ) → n1 + l ≡ n + l1 → n2 + m ≡ n1 + m1 → n3 + r ≡ n2 + r1 → n3 + (l + (x + (m + r))) ≡ n + (l1 + (x + (m1 + r1)))
told_parts n n1 n2 n3 l l1 m m1 r r1 x left middle right = omega (arith, left, middle, right)

pub told_then : (n n1 n2 a b c : ℕ) → n1 + a ≡ n + b → n2 + b ≡ n1 + c → n2 + a ≡ n + c
told_then n n1 n2 a b c first second = omega (arith, first, second)

pub still_counted : {n n1 a b : ℕ} → n1 + a ≡ n + b → a ≤ n → b ≤ n1
still_counted both counted = omega (arith, both, counted)
