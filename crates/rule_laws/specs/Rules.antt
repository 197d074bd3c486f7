-- Right rules of a pair, whatever the policies are (this exchange's own rule).
use Rattle.std.specs.Prelude.{◌≡◌, ◌<◌, ◌≤◌, ◌^◌, true, List, [], length, map}
use Rattle.block_build.specs.Offers.{each_once}
use Rattle.events.specs.Sound.{IsRight}
use Rattle.net_types.specs.Answers.{Policies, is_offered}
use Rattle.net_types.specs.Cells.{cell_atoms}
use Rattle.net_types.specs.Meets.{meets}
use Rattle.net_types.specs.Sets.{HasNoRepeats}
use Rattle.net_types.specs.declared.address.PortNo.{PortNo}
use Rattle.net_types.specs.declared.route.Offer.{Offer}
use Rattle.net_types.specs.declared.route.Part.{Part}
use Rattle.net_types.specs.declared.rule.Rule.{Rule}

-- some rules are right for a part at a port, where the best is one of the offers
abbrev pub RightRulesExist : Type 0
RightRulesExist =
    (ps : Policies) (part : Part) (port : PortNo) → is_offered part.offers part.best ≡ true → (rules : List Rule) × IsRight ps part port rules

-- right rules are no more than the cells
abbrev pub RightRulesAreFew : Type 0
RightRulesAreFew =
    (ps : Policies) (part : Part) (port : PortNo) (rules : List Rule) → IsRight ps part port rules → length rules ≤ length (meets (cell_atoms ps port part))

-- right rules are not none, since headers can come in by a port
abbrev pub RightRulesAreSome : Type 0
RightRulesAreSome = (ps : Policies) (part : Part) (port : PortNo) (rules : List Rule) → port.0 < 2 ^ 16 → IsRight ps part port rules → rules ≡ [] → ⊥

-- offers whose exporters differ have each exporter once
abbrev pub OffersDiffer : Type 0
OffersDiffer = (offers : List Offer) → HasNoRepeats (map (λ (o : Offer). o.exporter.0) offers) → each_once offers ≡ true
