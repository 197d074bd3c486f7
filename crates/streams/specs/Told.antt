-- What is known of a reader or a writer that counts its faults.
use Rattle.std.specs.Prelude.{ℕ, Bool, List, Option, if◌then◌else◌}
use Rattle.replay_run.specs.Memory.{raised}

-- the bytes that are left or were written, where they are told, and how often it failed
pub record Told : Type 0 where
  pub bytes : Option (List ℕ)
  pub faults : ℕ

-- the count of faults after a call: one more where it failed, and else the same
abbrev pub counted : Bool → ℕ → ℕ
counted failed faults = if failed then raised faults else faults
