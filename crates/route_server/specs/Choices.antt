-- Which of a row's routes each participant chooses, by their places in the row (RFC 4271 9.1.2.2).
use Rattle.std.specs.Prelude.{◌≡◌, ℕ, List, map, Option, Some}
use Rattle.std.specs.Option.{option_and_then}
use Rattle.net_types.specs.Exports.{Routing}
use Rattle.net_types.specs.Routes.{Candidate, best_of, pids}
use Rattle.net_types.specs.Signatures.{offer}
use Rattle.net_types.specs.declared.prefix.Prefix.{Prefix}
use Rattle.net_types.specs.declared.route.Offer.{Offer}
use Rattle.decision.specs.Seen.{seen}
use Rattle.decision.specs.declared.candidate.Candidate as sight
use Rattle.route_server.specs.Rows.{held_by, held_at, offered}
use Rattle.route_server.specs.declared.held.Held.{Held}

-- what the choice sees of the routes of a row
abbrev pub seen_by : Routing → List Held → List sight.Candidate
seen_by r row = map (λ h. seen (held_by r h)) row

-- what the routes of a row offer
abbrev pub offers_by_row : Routing → List Held → List Offer
offers_by_row r row = map (λ h. offer r (held_by r h)) row

-- these routes stand at these places of a row
abbrev pub AreAt : Routing → List Held → List ℕ → List Candidate → Type 0
AreAt r row places cs = map (held_at r row) places ≡ map (λ c. Some c) cs

-- of the routes at some places of a row the best is at this one, or there is none
abbrev pub IsBestAt : Routing → List Held → List ℕ → Option ℕ → Type 0
IsBestAt r row places choice = (cs : List Candidate) → AreAt r row places cs → option_and_then (held_at r row) choice ≡ best_of cs

-- the place of each participant's best route
abbrev pub AreChosen : Routing → Prefix → List Held → List (Option ℕ) → Type 0
AreChosen r p row places = map (option_and_then (held_at r row)) places ≡ map (λ to. best_of (offered r to p row)) (pids r)
