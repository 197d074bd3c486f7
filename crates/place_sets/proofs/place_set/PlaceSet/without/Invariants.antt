use Rattle.std.proofs.Common.{◌≡◌, ℕ, ◌<◌, length, get_or}
use Rattle.place_sets.proofs.PlaceLemmas.{word_without}
use Rattle.place_sets.proofs.place_set.PlaceSet.without.Given as goal

abbrev pub invariant-loop-i : goal.invariant-loop-i
invariant-loop-i l = record {
  long : length l.words.items ≡ l.i;
  each : (j : ℕ) → j < l.i → get_or l.words.items j 0 ≡ word_without (get_or l.self-inside.words.items j 0) (get_or l.other-inside.words.items j 0);
}
