-- What the receivers' rules give to the headers of a packet, with what the sender's rule gives (this exchange's own rule).
use Rattle.std.specs.Prelude.{◌≡◌, Bool, true, List, [], ◌∷◌, if◌then◌else◌}
use Rattle.classifier.specs.Items.{Item, add_all}
use Rattle.classifier.specs.Meaning.{given, ends_with_everything}
use Rattle.net_types.specs.Sets.{Member}
use Rattle.net_types.specs.declared.address.Pid.{Pid}
use Rattle.net_types.specs.declared.headers.Headers.{Headers}
use Rattle.net_types.specs.declared.route.Offer.{Offer}
use Rattle.block_build.specs.Offers.{goes_to, has_one_left}
use Rattle.block_build.specs.declared.receive.Receiver.{Receiver}

-- the items beside those of each receiver that some items send a packet to
abbrev pub gathered : Bool → Pid → List Item → Headers → List Item → List Receiver → List Item
gathered left best items h kept [] = kept
gathered left best items h kept (r ∷ rs) = gathered left best items h (if goes_to left best items r.who then add_all kept (given r.lines h) else kept) rs

-- what the receivers' rules give, with what the sender's rule gives
abbrev pub gathered_by : Pid → List Offer → List Receiver → Headers → List Item → List Item
gathered_by best offers rs h items = gathered (has_one_left offers items) best items h [] rs

-- the rules of each receiver give something to all headers
abbrev pub AreTotal : List Receiver → Type 0
AreTotal rs = (r : Receiver) → Member r rs → ends_with_everything r.lines ≡ true
