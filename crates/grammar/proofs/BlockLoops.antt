-- What a loop has read of a block, item by item.
use Rattle.std.proofs.Common.{◌≡◌, ℕ, zero, suc, ◌≤◌, ◌<◌, List, [], ◌∷◌, ◌++◌, length, Result, Ok, Err, refl, sym, ap, ◌∙◌, append_assoc, arith}
use Rattle.std.proofs.lemmas.List.{append-nil}
use Rattle.grammar.specs.Reading.{on_read, Cause, Met, OutOfMemory, Unread, Tells}
use Rattle.grammar.specs.FormatReading.{Read, Reader, read_all}

-- Items in front of those that are read.
abbrev pub in_front : {F X : Type 0} → List X → Result (List X) F → Result (List X) F
in_front front r = on_read r (λ xs. Ok (front ++ xs))

-- the items so far and those that are still read make the whole
pub record StillReads {F S X : Type 0} (part : S → Reader F X) (next : S → X → S) (total : Result (List X) F) (state : S) (front : List X) (s : List ℕ) : Type 0 where
  pub fuel : ℕ
  pub enough : length s ≤ fuel
  pub same : in_front front (read_all fuel part next state s) ≡ total

nothing_in_front : {F X : Type 0} (r : Result (List X) F) → in_front [] r ≡ r
nothing_in_front (Ok xs) = refl
nothing_in_front (Err e) = refl

pub starts_reading : {F S X : Type 0} (part : S → Reader F X) (next : S → X → S) (state : S) (s : List ℕ) → StillReads part next (read_all (length s) part next state s) state [] s
starts_reading part next state s = record { fuel = length s; enough = omega arith; same = nothing_in_front (read_all (length s) part next state s) }

one_in_front : {F X : Type 0} (front : List X) (x : X) (r : Result (List X) F) → in_front front (on_read r (λ xs. Ok (x ∷ xs))) ≡ in_front (front ++ x ∷ []) r
one_in_front {F} {X} front x (Ok xs) = ap (λ (t : List X). Ok t) (sym (append_assoc front (x ∷ []) xs))
one_in_front front x (Err e) = refl

-- Another item was read.
pub reads_on : {F S X : Type 0} (part : S → Reader F X) (next : S → X → S) (total : Result (List X) F) (state : S) (front : List X) (s : List ℕ) (x : X) (m : List ℕ)
    → StillReads part next total state front s → 0 < length s → part state s ≡ Ok (x, m) → length m < length s → StillReads part next total (next state x) (front ++ x ∷ []) m
reads_on {F} {S} {X} part next total state front s x m h some p less = go h.fuel s h.enough h.same some p less
  where
    go : (fuel : ℕ) (s : List ℕ) → length s ≤ fuel → in_front front (read_all fuel part next state s) ≡ total → 0 < length s → part state s ≡ Ok (x, m) → length m < length s
        → StillReads part next total (next state x) (front ++ x ∷ []) m
    go fuel [] le e some p less = absurd (omega arith)
    go zero (c ∷ s) le e some p less = absurd (omega arith)
    go (suc fuel) (c ∷ s) le e some p less = record {
      fuel = fuel;
      enough = omega (arith, le, less);
      same = sym (one_in_front front x (read_all fuel part next (next state x) m))
          ∙ ap (λ (r : Read F X). in_front front (on_read r (λ q. on_read (read_all fuel part next (next state q.0) q.1) (λ xs. Ok (q.0 ∷ xs))))) (sym p) ∙ e;
    }

-- The fault of an item is that of the whole.
pub stops_with : {F S X : Type 0} (part : S → Reader F X) (next : S → X → S) (total : Result (List X) F) (state : S) (front : List X) (s : List ℕ) (fault : F)
    → StillReads part next total state front s → 0 < length s → part state s ≡ Err fault → total ≡ Err fault
stops_with {F} {S} {X} part next total state front s fault h some p = go h.fuel s h.enough h.same some p
  where
    go : (fuel : ℕ) (s : List ℕ) → length s ≤ fuel → in_front front (read_all fuel part next state s) ≡ total → 0 < length s → part state s ≡ Err fault → total ≡ Err fault
    go fuel [] le e some p = absurd (omega arith)
    go zero (c ∷ s) le e some p = absurd (omega arith)
    go (suc fuel) (c ∷ s) le e some p =
        sym e ∙ ap (λ (r : Read F X). in_front front (on_read r (λ q. on_read (read_all fuel part next (next state q.0) q.1) (λ xs. Ok (q.0 ∷ xs))))) p

-- An error that tells of an item tells of the whole.
pub stops_reading : {F S X : Type 0} (part : S → Reader F X) (next : S → X → S) (total : Result (List X) F) (state : S) (front : List X) (s : List ℕ) (cause : Cause F)
    → StillReads part next total state front s → 0 < length s → Tells cause (part state s) → Tells cause total
stops_reading part next total state front s (Met fault) h some p = stops_with part next total state front s fault h some p
stops_reading part next total state front s OutOfMemory h some p = tt
stops_reading part next total state front s Unread h some p = p

-- Nothing is left, and the whole is read.
pub has_read : {F S X : Type 0} (part : S → Reader F X) (next : S → X → S) (total : Result (List X) F) (state : S) (front : List X) (s : List ℕ)
    → StillReads part next total state front s → length s ≡ 0 → total ≡ Ok front
has_read {F} {S} {X} part next total state front s h none = go h.fuel s h.same none
  where
    go : (fuel : ℕ) (s : List ℕ) → in_front front (read_all fuel part next state s) ≡ total → length s ≡ 0 → total ≡ Ok front
    go fuel [] e none = sym e ∙ ap (λ (t : List X). Ok t) (append-nil front)
    go fuel (c ∷ s) e none = absurd (omega arith)
