-- The words of a command line (this exchange's own rule).
use Rattle.std.specs.Prelude.{ℕ, ◌-◌, ◌^◌, ◌≤◌, List, [], ◌∷◌, codes, Option, Some, None, if◌then◌else◌}
use Rattle.std.specs.Option.{option_and_then, option_map}
use Rattle.std.specs.Str.{bytes_eq}
use Rattle.events.specs.Lines.{number_within}
use Rattle.replay_run.specs.declared.words.Command.{Command}
use Rattle.replay_run.specs.declared.words.Command.TheVariants.{Replay, Load}

-- a seed of 64 bits and how many lines are drawn, in decimal and without leading zeros
abbrev pub load_of : List ℕ → List ℕ → Option Command
load_of seed count = option_and_then (λ s. option_map (λ n. Load s n) (number_within 0 1000000 count)) (number_within 0 (2 ^ 64 - 1) seed)

-- `replay`, or `load SEED COUNT`
abbrev pub command_of : List (List ℕ) → Option Command
command_of (word ∷ []) = if bytes_eq word (codes "replay") then Some Replay else None
command_of (word ∷ seed ∷ count ∷ []) = if bytes_eq word (codes "load") then load_of seed count else None
command_of others = None

-- no more than 1000000 lines are drawn
abbrev pub HasFewLines : Command → Type 0
HasFewLines Replay = Unit {0}
HasFewLines (Load seed count) = count ≤ 1000000
