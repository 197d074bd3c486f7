use Rattle.std.proofs.Common.{◌≡◌, ℕ, ◌<◌, length, get_or, bit_and}
use Rattle.place_sets.proofs.place_set.PlaceSet.both.Given as goal

abbrev pub invariant-loop-i : goal.invariant-loop-i
invariant-loop-i l = record {
  long : length l.words.items ≡ l.i;
  each : (j : ℕ) → j < l.i → get_or l.words.items j 0 ≡ bit_and (get_or l.self-inside.words.items j 0) (get_or l.other-inside.words.items j 0);
}
