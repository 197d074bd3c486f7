-- The receivers that one of a sender's rules sends to (this exchange's own rule).
use Rattle.std.specs.Prelude.{◌≡◌, false, List}
use Rattle.classifier.specs.Items.{Item}
use Rattle.classifier.specs.declared.line.Line.{Line}
use Rattle.net_types.specs.Sets.{Member}
use Rattle.net_types.specs.declared.address.Pid.{Pid}
use Rattle.net_types.specs.declared.headers.Headers.{Headers}
use Rattle.net_types.specs.declared.route.Offer.{Offer}
use Rattle.block_build.specs.Gathered.{gathered}
use Rattle.block_build.specs.Offers.{goes_to, has_one_left}
use Rattle.block_build.specs.declared.receive.Receiver.{Receiver}

-- none of the rules sends to a participant
abbrev pub NoneSends : Pid → List Offer → List Line → Pid → Type 0
NoneSends best offers xs who = (x : Line) → Member x xs → goes_to (has_one_left offers x.results) best x.results who ≡ false

-- Receivers of which those are left out that none of the rules sends to: it gives with these what it gives with all.
pub record AreReached (best : Pid) (offers : List Offer) (xs : List Line) (all made : List Receiver) : Type 0 where
  pub same : (x : Line) → Member x xs → (h : Headers) (kept : List Item)
      → gathered (has_one_left offers x.results) best x.results h kept made ≡ gathered (has_one_left offers x.results) best x.results h kept all
  pub among : (r : Receiver) → Member r made → Member r all
