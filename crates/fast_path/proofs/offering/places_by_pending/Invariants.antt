-- there are enough places for the offers so far
use Rattle.std.proofs.Common.{◌≡◌, ℕ, ◌≤◌, get_or, length, take}
use Rattle.std.specs.Vec.{vec_len}
use Rattle.fast_path.proofs.OffersNeeded.{IsAsBefore}
use Rattle.fast_path.specs.Offers.{all_taken, offered_all, place_taken}
use Rattle.fast_path.proofs.offering.places_by_pending.Given as goal

abbrev pub invariant-loop-offer : goal.invariant-loop-offer
invariant-loop-offer l = record {
  size : vec_len l.places ≡ length l.adverts.told;
  long : length l.places.items ≡ length l.adverts.told;
  counted : (n : ℕ) → all_taken (place_taken l.adverts.told) l.adverts.present (take l.offer-index l.offers) n ≤ get_or l.places.items n 0;
  few : (n : ℕ) → get_or l.places.items n 0 ≤ l.offer-index;
  same : IsAsBefore l.adverts.present (offered_all l.adverts.present (take l.offer-index l.offers)) l.greatest;
}
