-- there is room for what is offered to those so far
use Rattle.std.proofs.Common.{◌≡◌, ℕ, ◌<◌, ◌≤◌}
use Rattle.std.specs.Prelude.{slice_get, unwrap_or}
use Rattle.fast_path.specs.Offers.{all_taken, place_taken}
use Rattle.fast_path.proofs.offering.reserve_all.Given as goal

abbrev pub invariant-loop-number : goal.invariant-loop-number
invariant-loop-number l =
    let before = l.initial.adverts in
    record {
      told : l.adverts.told ≡ before.told;
      present : l.adverts.present ≡ before.present;
      places : (n : ℕ) → n < l.number → all_taken (place_taken before.told) before.present l.offers n ≤ unwrap_or (slice_get l.adverts.places n) 0;
      tags : (n : ℕ) → n < l.number → l.tags ≤ unwrap_or (slice_get l.adverts.tags n) 0;
    }
