-- there are enough places for the offers so far
use Rattle.std.proofs.Common.{◌≡◌, ℕ, ◌≤◌, get_or, length, take}
use Rattle.std.specs.Vec.{vec_len}
use Rattle.fast_path.specs.Offers.{Present, all_taken, place_taken}
use Rattle.fast_path.proofs.offering.places_by_count.Given as goal

abbrev pub invariant-loop-offer : goal.invariant-loop-offer
invariant-loop-offer l = record {
  size : vec_len l.places ≡ l.participants;
  long : length l.places.items ≡ l.participants;
  counted : (told present : Present) (n : ℕ) → all_taken (place_taken told) present (take l.offer-index l.offers) n ≤ get_or l.places.items n 0;
  few : (n : ℕ) → get_or l.places.items n 0 ≤ l.offer-index;
}
