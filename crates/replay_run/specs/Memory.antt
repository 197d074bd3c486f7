-- Sources and sinks in memory that fail at given calls.
use Rattle.std.specs.Prelude.{ℕ, ◌+◌, ◌-◌, ◌^◌, nat_eq, min, Bool, List, if◌then◌else◌}
use Rattle.std.specs.List.{list_any}

-- bytes that are left or were written, the calls that fail, and how many calls were made and failed
pub record Failing : Type 0 where
  pub bytes : List ℕ
  pub failing : List ℕ
  pub calls : ℕ
  pub faults : ℕ

-- whether the next call fails
abbrev pub fails_now : Failing → Bool
fails_now s = list_any (λ call. nat_eq call s.calls) s.failing

-- a count that rises until it stands at the last value of 64 bits
abbrev pub raised : ℕ → ℕ
raised n = min (n + 1) (2 ^ 64 - 1)

-- one more call was made, and it failed as said
abbrev pub called : Failing → List ℕ → Failing
called s bytes = record s { bytes = bytes; calls = raised s.calls; faults = if fails_now s then raised s.faults else s.faults }
