-- What is right for a view is right for the policies that its classifiers were made of, and the other way round.
use Rattle.std.specs.Prelude.{◌≡◌, ◌<◌, ◌≤◌, true, List, length, None}
use Rattle.classifier.specs.Meaning as lines
use Rattle.events.specs.Sound.{IsRight, IsRightBy, cubes_of}
use Rattle.net_types.specs.Answers.{Policies, is_offered, policy_of}
use Rattle.net_types.specs.Cells.{cell_atoms}
use Rattle.net_types.specs.Meets.{IsMeet, meets}
use Rattle.net_types.specs.Policies.{atoms, den}
use Rattle.net_types.specs.Sets.{Member, SameMembers}
use Rattle.net_types.specs.declared.address.PortNo.{PortNo}
use Rattle.net_types.specs.declared.cube.Cube.{Cube}
use Rattle.net_types.specs.declared.headers.Headers.{Headers}
use Rattle.net_types.specs.declared.headers.Loc.TheVariants.{Stay}
use Rattle.net_types.specs.declared.route.Offer.{Offer}
use Rattle.net_types.specs.declared.route.Part.{Part}
use Rattle.net_types.specs.declared.rule.Rule.{Rule}
use Rattle.block_build.specs.Lent.{AreOf, Lent, inbound_at, outbound_at}
use Rattle.block_build.specs.Right.{IsRightFor, view_answer, view_cells}
use Rattle.block_build.specs.Views.{Viewed, inbound_of}

-- The rules of a view do what the policies of a part's sender and of the participants in its offers do, and their cubes
-- are meets of the policies' atoms.
pub record IsViewOf (ps : Policies) (part : Part) (v : Viewed) : Type 0 where
  pub sends : (h : Headers) → SameMembers (lines.meaning v.outbound h Stay) (den ps.named (policy_of ps.outbound part.sender) h Stay)
  pub sender_cubes : (c : Cube) → Member c (lines.cubes_of v.outbound) → IsMeet (atoms (policy_of ps.outbound part.sender)) c
  pub receives : (o : Offer) → Member o part.offers → (h : Headers) → SameMembers (lines.meaning (inbound_of v o.exporter) h Stay) (den ps.named (policy_of ps.inbound o.exporter) h Stay)
  pub receiver_cubes : (o : Offer) → Member o part.offers → (c : Cube) → Member c (lines.cubes_of (inbound_of v o.exporter)) → IsMeet (atoms (policy_of ps.inbound o.exporter)) c

-- rules that are right for a view are right for the policies
abbrev pub RightForPolicies : Type 0
RightForPolicies =
    (ps : Policies) (part : Part) (port : PortNo) (v : Viewed) (rules : List Rule) → is_offered part.offers part.best ≡ true → IsViewOf ps part v
    → IsRightFor v port part rules → IsRight ps part port rules

-- Rules that are right for the policies are right for a view but for their cubes, which stay meets of the policies' atoms: a
-- view may have fewer cells.
abbrev pub RightForViews : Type 0
RightForViews =
    (ps : Policies) (part : Part) (port : PortNo) (v : Viewed) (rules : List Rule) → is_offered part.offers part.best ≡ true → IsViewOf ps part v
    → IsRight ps part port rules → IsRightBy port (view_answer v part) (cell_atoms ps port part) rules

-- a view has no more cells than the policies
abbrev pub NoMoreCells : Type 0
NoMoreCells =
    (ps : Policies) (part : Part) (port : PortNo) (v : Viewed) → IsViewOf ps part v → view_cells v port part ≤ length (meets (cell_atoms ps port part))

-- where no cube of a receiver has an inport, no cube of right rules has one
abbrev pub NoInports : Type 0
NoInports =
    (v : Viewed) (port : PortNo) (part : Part) (rules : List Rule) → IsRightFor v port part rules
    → ((o : Offer) → Member o part.offers → (c : Cube) → Member c (lines.cubes_of (inbound_of v o.exporter)) → c.inport ≡ None)
    → (c : Cube) → Member c (cubes_of rules) → c.inport ≡ None

-- a view of the classifiers of all participants is one of the policies that they do
abbrev pub ViewsAreOf : Type 0
ViewsAreOf =
    (ps : Policies) (all : List Lent) (part : Part) (v : Viewed) → AreOf ps all → part.sender.0 < length all → ((o : Offer) → Member o part.offers → o.exporter.0 < length all)
    → v.outbound ≡ outbound_at all part.sender → ((o : Offer) → Member o part.offers → inbound_of v o.exporter ≡ inbound_at all o.exporter) → IsViewOf ps part v
