use Rattle.std.proofs.Common.{◌≡◌, ℕ, ◌-◌, ◌^◌, ◌<◌, length, get_or}
use Rattle.place_sets.proofs.place_set.PlaceSet.first.Given as goal

abbrev pub invariant-loop-word : goal.invariant-loop-word
invariant-loop-word l = record {
  long : length l.words.items ≡ l._word;
  each : (j : ℕ) → j < l._word → get_or l.words.items j 0 ≡ 2 ^ 64 - 1;
}
