-- Whom the results of a sender's rule go to, among the participants in the offers.
use Rattle.std.specs.Prelude.{nat_eq, Bool, true, false, not, ◌&&◌, ◌||◌, List, [], ◌∷◌, if◌then◌else◌}
use Rattle.classifier.specs.Items.{Item}
use Rattle.net_types.specs.Answers.{is_offered}
use Rattle.net_types.specs.declared.address.Pid.{Pid}
use Rattle.net_types.specs.declared.headers.Loc.{Loc}
use Rattle.net_types.specs.declared.headers.Loc.TheVariants.{Stay, To, Out, Nowhere}
use Rattle.net_types.specs.declared.route.Offer.{Offer}

-- no participant stands in the offers twice
abbrev pub each_once : List Offer → Bool
each_once [] = true
each_once (o ∷ os) = not (is_offered os o.exporter) && each_once os

-- a result goes to a participant, where that stands in the offers
abbrev pub is_for : Pid → Pid → Loc → Bool
is_for best who Stay = nat_eq best.0 who.0
is_for best who (To other) = nat_eq other.0 who.0
is_for best who (Out port) = false
is_for best who Nowhere = false

-- a result isn't taken out
abbrev pub stays : List Offer → Loc → Bool
stays offers Stay = true
stays offers (To other) = is_offered offers other
stays offers (Out port) = false
stays offers Nowhere = true

-- one of the results goes to a participant
abbrev pub has_one_for : Pid → Pid → List Item → Bool
has_one_for best who [] = false
has_one_for best who (i ∷ items) = is_for best who i.1 || has_one_for best who items

-- one of the results isn't taken out
abbrev pub has_one_left : List Offer → List Item → Bool
has_one_left offers [] = false
has_one_left offers (i ∷ items) = stays offers i.1 || has_one_left offers items

-- the results send a packet to a participant in the offers; where none is left, to the best one
abbrev pub goes_to : Bool → Pid → List Item → Pid → Bool
goes_to left best items who = if left then has_one_for best who items else nat_eq best.0 who.0
