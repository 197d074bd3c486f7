use Rattle.std.proofs.Common.{◌≡◌, ℕ, ◌+◌, ◌-◌, get_or, vec_len}
use Rattle.place_sets.proofs.place_set.PlaceSet.put.Given as goal

-- the words that are added are 0
abbrev pub invariant-loop-self : goal.invariant-loop-self
invariant-loop-self l = (j : ℕ) → get_or l.self-inside.words.items j 0 ≡ get_or l.initial.self-inside.words.items j 0

abbrev pub decreases-loop-self : goal.decreases-loop-self
decreases-loop-self l = l.word + 1 - vec_len l.self-inside.words
