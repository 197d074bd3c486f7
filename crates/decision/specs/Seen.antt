-- What the choice sees of a route to choose from.
use Rattle.net_types.specs.Routes as routes
use Rattle.decision.specs.declared.candidate.Candidate.{Candidate}

-- of the attributes the choice sees ORIGIN and MULTI_EXIT_DISC
abbrev pub seen : routes.Candidate → Candidate
seen c = record { hops = c.hops; origin = c.attrs.origin; asn = c.asn; med = c.attrs.med; id = c.id; peer = c.peer }
