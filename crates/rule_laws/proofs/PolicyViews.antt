-- The view of a part by classifiers of its policies, and rules that are right for it.
use Rattle.std.proofs.Common.{◌≡◌, arith, length, true, List, [], ◌∷◌, map, refl, inl, inr, sym, ap, ◌∙◌, subst}
use Rattle.block_build.proofs.ByCellLemmas.{some-built}
use Rattle.block_build.proofs.PolicyRight.{right_for_policies}
use Rattle.block_build.proofs.RightBlocks.{right-built}
use Rattle.block_build.proofs.ShapeBlocks.{meets-spread, own-meets, their-meets}
use Rattle.block_build.proofs.ViewLemmas.{all_offered, rules_offered}
use Rattle.block_build.specs.Bounds.{AreMeets, AreTheirMeets, IsBuilt}
use Rattle.block_build.specs.Laws.{IsViewOf}
use Rattle.block_build.specs.Offers.{each_once, has_one_left}
use Rattle.block_build.specs.Receivers.{receivers}
use Rattle.block_build.specs.Right.{view_atoms}
use Rattle.block_build.specs.Rules.{rules_of}
use Rattle.block_build.specs.Spreads.{blocks, built, restricted, within_rule}
use Rattle.block_build.specs.Views.{IsTotal, Viewed, has_all, inbound_of}
use Rattle.block_build.specs.declared.receive.Receiver.{Receiver}
use Rattle.classifier.proofs.LineLemmas.{each-add_lines}
use Rattle.classifier.proofs.ShapeLemmas.{distinct-add_lines}
use Rattle.classifier.specs.Lines.{add_lines, line}
use Rattle.classifier.specs.Meaning as lines
use Rattle.classifier.specs.declared.line.Line.{Line}
use Rattle.events.specs.Sound.{IsRight}
use Rattle.net_types.proofs.SetLemmas
use Rattle.net_types.specs.Answers.{Policies, is_offered, policy_of}
use Rattle.net_types.specs.Meets.{IsMeet}
use Rattle.net_types.specs.Policies.{den}
use Rattle.net_types.specs.Sets.{Member, SameMembers}
use Rattle.net_types.specs.declared.address.Pid.{Pid}
use Rattle.net_types.specs.declared.address.PortNo.{PortNo}
use Rattle.net_types.specs.declared.cube.Cube.{Cube}
use Rattle.net_types.specs.declared.headers.Loc.TheVariants.{Stay}
use Rattle.net_types.specs.declared.route.Offer.{Offer}
use Rattle.net_types.specs.declared.route.Part.{Part}
use Rattle.net_types.specs.declared.rule.Rule.{Rule}
use Rattle.rule_laws.proofs.CompiledPolicies.{Compiled, compiled_of}

-- ---- the cubes of all rules of a view

module _ (all : List Cube) (best : Pid) (offers : List Offer) (rs : List Receiver) (theirs : AreTheirMeets all rs) where
  within-meets : (x : Line) → IsMeet all x.cube → AreMeets all (within_rule best offers rs x)
  within-meets x m = meets-spread all (has_one_left offers x.results) best x.results (line [] x.cube ∷ []) rs theirs one
    where
      one : AreMeets all (line [] x.cube ∷ [])
      one z (inl e) = subst (λ (y : Line). IsMeet all y.cube) (sym e) m
      one z (inr k) = elim k [ ]

  blocks-meets : (xs : List Line) → AreMeets all xs → AreMeets all (blocks best offers rs xs)
  blocks-meets [] f = λ z k. elim k [ ]
  blocks-meets (x ∷ xs) f = λ z k. elim (SetLemmas.Member-append_cases (within_rule best offers rs x) (blocks best offers rs xs) z k) [
    | inl m ↦ within-meets x (f x (inl refl)) z m
    | inr m ↦ blocks-meets xs (λ y j. f y (inr j)) z m
  ]

-- they are meets of any atoms of which those of the sender's and of the receivers' rules are
built-meets : (v : Viewed) (port : PortNo) (part : Part) (atoms : List Cube) → AreTheirMeets atoms (receivers (inbound_of v) part.offers) → AreMeets atoms (add_lines [] (restricted port v.outbound))
    → AreMeets atoms (built v port part)
built-meets v port part atoms theirs own =
    each-add_lines (λ z. IsMeet atoms z.cube) [] (blocks part.best part.offers (receivers (inbound_of v) part.offers) (add_lines [] (restricted port v.outbound)))
    (λ z k. elim k [ ])
    (blocks-meets atoms part.best part.offers (receivers (inbound_of v) part.offers) theirs (add_lines [] (restricted port v.outbound)) own)

built-differ : (v : Viewed) (port : PortNo) (part : Part) → lines.HasDistinctCubes (built v port part)
built-differ v port part = distinct-add_lines [] (blocks part.best part.offers (receivers (inbound_of v) part.offers) (add_lines [] (restricted port v.outbound))) tt

built-built : (v : Viewed) (port : PortNo) (part : Part)
    → IsBuilt (length (built v port part)) part.best part.offers (receivers (inbound_of v) part.offers) (add_lines [] (restricted port v.outbound)) (built v port part)
built-built v port part =
    some-built (length (built v port part)) part.best part.offers (receivers (inbound_of v) part.offers) (add_lines [] (restricted port v.outbound)) (built v port part)
    (record { whole_within = λ _. refl; differ = built-differ v port part; meets = built-meets v port part })

-- ---- the view of the policies

module _ (ps : Policies) (part : Part) where
  sender : Compiled ps.named (policy_of ps.outbound part.sender)
  sender = compiled_of ps.named (policy_of ps.outbound part.sender)

  receiver : (who : Pid) → Compiled ps.named (policy_of ps.inbound who)
  receiver who = compiled_of ps.named (policy_of ps.inbound who)

  abbrev rules : Pid → List Line
  rules who = (receiver who).made.lines

  abbrev view : Viewed
  view = record { outbound = sender.made.lines; inbound = map (λ (o : Offer). (o.exporter, rules o.exporter)) part.offers }

  view-total : IsTotal view
  view-total = record {
    outbound = sender.made.total;
    inbound = λ e k.
        let i = SetLemmas.map-Member (λ (o : Offer). let entry : Pid × List Line = (o.exporter, rules o.exporter) in entry) part.offers e k in
        ap (λ (x : Pid × List Line). lines.ends_with_everything x.1) i.is ∙ (receiver i.of.exporter).made.total;
  }

  view-all : has_all view part.offers ≡ true
  view-all = all_offered rules view.inbound part.offers refl part.offers (λ o k. k)

  received : (o : Offer) → Member o part.offers → inbound_of view o.exporter ≡ rules o.exporter
  received o k = rules_offered rules part.offers o k

  view-of : IsViewOf ps part view
  view-of = record {
    sends = λ h. sender.compiled.means h Stay;
    sender_cubes = sender.compiled.cubes;
    receives = λ o k h.
        subst (λ xs. SameMembers (lines.meaning xs h Stay) (den ps.named (policy_of ps.inbound o.exporter) h Stay)) (sym (received o k)) ((receiver o.exporter).compiled.means h Stay);
    receiver_cubes = λ o k c m. (receiver o.exporter).compiled.cubes c (subst (λ xs. Member c (lines.cubes_of xs)) (received o k) m);
  }

  module _ (port : PortNo) (there : is_offered part.offers part.best ≡ true) (once : each_once part.offers ≡ true) where
    right : IsRight ps part port (rules_of (built view port part))
    right =
        right_for_policies ps part port view (rules_of (built view port part)) there view-of
        (right-built view port part view-total there once view-all (length (built view port part)) (built view port part) (built-built view port part) (omega (arith))
        (built-meets view port part (view_atoms view port part) (their-meets (inbound_of view) part port view.outbound) (own-meets (inbound_of view) part port view.outbound)))

    pub some_right : (rs : List Rule) × IsRight ps part port rs
    some_right = (rules_of (built view port part), right)
