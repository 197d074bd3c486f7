-- What a loop has read of a repetition, part by part.
use Rattle.std.proofs.Common.{◌≡◌, ℕ, zero, suc, ◌≤◌, ◌<◌, Bool, true, false, List, [], ◌∷◌, length, Ok, Err, refl, sym, ap, ◌∙◌, arith}
use Rattle.std.proofs.lemmas.Bool.{cond-true, cond-false}
use Rattle.grammar.specs.Octets.{next_is}
use Rattle.grammar.specs.Reading.{on_read, Cause, Met, OutOfMemory, Unread, Tells}
use Rattle.grammar.specs.TextReading.{Fault, Read, Reader, read_many}

-- What was read so far, and what is still read, make the whole.
pub record StillReads {X Y : Type 0} (first : ℕ → Bool) (join : X → Y → X) (part : Reader Y) (n : ℕ) (total : Read X) (before : X) (s : List ℕ) : Type 0 where
  pub fuel : ℕ
  pub enough : length s ≤ fuel
  pub same : read_many fuel first join part before n s ≡ total

pub starts_reading : {X Y : Type 0} (first : ℕ → Bool) (join : X → Y → X) (part : Reader Y) (n : ℕ) (before : X) (s : List ℕ) → StillReads first join part n (read_many (length s) first join part before n s) before s
starts_reading first join part n before s = record { fuel = length s; enough = omega arith; same = refl }

module _ {X Y : Type 0} (first : ℕ → Bool) (join : X → Y → X) (part : Reader Y) (n : ℕ) (total : Read X) where
  -- one part more
  one_more : (fuel : ℕ) (before : X) (s : List ℕ) → length s ≤ fuel → next_is first s ≡ true → read_many fuel first join part before n s ≡ total
      → (f : ℕ) × (fuel ≡ suc f) × (on_read (part n s) (λ r. read_many f first join part (join before r.0) n r.1) ≡ total)
  one_more fuel before [] le t e = absurd cc
  one_more zero before (c ∷ s) le t e = absurd (omega arith)
  one_more (suc fuel) before (c ∷ s) le t e =
      (fuel, refl, sym (cond-true (first c) (on_read (part n (c ∷ s)) (λ r. read_many fuel first join part (join before r.0) n r.1)) (Ok (before, c ∷ s)) t) ∙ e)

  -- Another part was read.
  pub reads_on : (before : X) (s : List ℕ) (y : Y) (m : List ℕ) → StillReads first join part n total before s → next_is first s ≡ true → part n s ≡ Ok (y, m) → length m < length s
      → StillReads first join part n total (join before y) m
  reads_on before s y m h t p less =
      let k = one_more h.fuel before s h.enough t h.same in
      record { fuel = k.0; enough = omega (arith, h.enough, k.1, less); same = sym (ap (λ (r : Read Y). on_read r (λ q. read_many k.0 first join part (join before q.0) n q.1)) p) ∙ k.2 }

  -- The fault of a part is that of the whole.
  pub stops_with : (before : X) (s : List ℕ) (fault : Fault) → StillReads first join part n total before s → next_is first s ≡ true → part n s ≡ Err fault → total ≡ Err fault
  stops_with before s fault h t p =
      let k = one_more h.fuel before s h.enough t h.same in sym k.2 ∙ ap (λ (r : Read Y). on_read r (λ q. read_many k.0 first join part (join before q.0) n q.1)) p

  -- An error that tells of a part tells of the whole.
  pub stops_reading : (before : X) (s : List ℕ) (cause : Cause Fault) → StillReads first join part n total before s → next_is first s ≡ true → Tells cause (part n s) → Tells cause total
  stops_reading before s (Met fault) h t p = stops_with before s fault h t p
  stops_reading before s OutOfMemory h t p = tt
  stops_reading before s Unread h t p = p

  -- No part begins, and the whole is read.
  pub has_read : (before : X) (s : List ℕ) → StillReads first join part n total before s → next_is first s ≡ false → total ≡ Ok (before, s)
  has_read before s h over = go h.fuel s h.same over
    where
      go : (fuel : ℕ) (s : List ℕ) → read_many fuel first join part before n s ≡ total → next_is first s ≡ false → total ≡ Ok (before, s)
      go fuel [] e t = sym e
      go zero (c ∷ s) e t = sym e
      go (suc fuel) (c ∷ s) e t =
          sym e ∙ cond-false (first c) (on_read (part n (c ∷ s)) (λ r. read_many fuel first join part (join before r.0) n r.1)) (Ok (before, c ∷ s)) t
