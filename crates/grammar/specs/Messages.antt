-- When a reader reads exactly what a format spells and gives the first fault.
use Rattle.std.specs.Prelude.{◌≡◌, ℕ, List, ◌++◌, Ok, Err}
use Rattle.grammar.specs.Formats.{Format}
use Rattle.grammar.specs.FormatReading.{Read, Reader}

-- Of all fronts of s this one spells something, it spells x and nothing else, m is left, and no check fails.
pub record Reads {F X : Type 0} (f : Format F X) (s : List ℕ) (x : X) (m : List ℕ) : Type 0 where
  pub front : List ℕ
  pub parts : s ≡ front ++ m
  pub spells : f.Spells front x
  pub only : (a b : List ℕ) (y : X) → s ≡ a ++ b → f.Spells a y → (a ≡ front) × (b ≡ m) × (y ≡ x)
  pub sound : (e : F) → f.Fails s e → ⊥

-- No front of s spells anything, and this is its one first fault.
pub record Stops {F X : Type 0} (f : Format F X) (s : List ℕ) (fault : F) : Type 0 where
  pub fails : f.Fails s fault
  pub first : (e : F) → f.Fails s e → e ≡ fault
  pub none : (a b : List ℕ) (y : X) → s ≡ a ++ b → f.Spells a y → ⊥

-- What reading s gave is right.
abbrev pub Holds : {F X : Type 0} → Format F X → List ℕ → Read F X → Type 0
Holds f s (Ok r) = Reads f s r.0 r.1
Holds f s (Err e) = Stops f s e

-- Of whatever is read. A record, so that format and reader are found from a fact of this type.
pub record IsExact {F X : Type 0} (f : Format F X) (reader : Reader F X) : Type 0 where
  pub reads : (s : List ℕ) → Holds f s (reader s)
