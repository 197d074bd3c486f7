-- The rules that are built are right, and right rules are no more than the cells.
use Rattle.std.proofs.Common.{◌≡◌, ◌≤◌, ℕ, Bool, true, false, cond, suc, length, List, [], ◌∷◌, map, refl, inl, inr, sym, ap, ◌∙◌, subst}
use Rattle.std.specs.Prelude.{Option, Some, None, is_some, nat_eq}
use Rattle.std.specs.List.{list_all}
use Rattle.std.specs.Option.{option_map_or}
use Rattle.std.proofs.lemmas.Bool.{cases_Bool, and_parts, false≢true}
use Rattle.classifier.proofs.DecideLemmas.{total, given_is, decide-add_lines}
use Rattle.classifier.specs.Items.{Item}
use Rattle.classifier.specs.Lines.{add_lines}
use Rattle.classifier.specs.Meaning as lines
use Rattle.classifier.specs.Meaning.{decide, given, HasDistinctCubes, ends_with_everything}
use Rattle.classifier.specs.declared.line.Line.{Line}
use Rattle.events.specs.Sound.{cubes_of}
use Rattle.events.specs.Table.{done_by, first_rule}
use Rattle.net_types.proofs.ActionOrder.{actions_rise}
use Rattle.net_types.proofs.CubeLemmas.{within_refl}
use Rattle.net_types.proofs.FindLemmas.{find-IsFound}
use Rattle.net_types.proofs.MeetLemmas.{IsMeet-meets}
use Rattle.net_types.proofs.SetLemmas
use Rattle.net_types.proofs.WidthLemmas.{no_longer}
use Rattle.net_types.specs.Actions.{AreInOrder}
use Rattle.net_types.specs.Answers.{is_offered}
use Rattle.net_types.specs.Cubes.{everything, has}
use Rattle.net_types.specs.Meets.{IsMeet, meets}
use Rattle.net_types.specs.Sets.{Member, HasNoRepeats}
use Rattle.net_types.specs.declared.address.Pid.{Pid}
use Rattle.net_types.specs.declared.address.PortNo.{PortNo}
use Rattle.net_types.specs.declared.cube.Cube.{Cube}
use Rattle.net_types.specs.declared.headers.Headers.{Headers}
use Rattle.net_types.specs.declared.route.Offer.{Offer}
use Rattle.net_types.specs.declared.route.Part.{Part}
use Rattle.net_types.specs.declared.rule.Rule.{Rule}
use Rattle.block_build.proofs.AnswerBlocks.{left-outs, outs-answer}
use Rattle.block_build.proofs.DecideBlocks.{decide-restricted, ends-received}
use Rattle.block_build.specs.Gathered.{AreTotal, gathered_by}
use Rattle.block_build.specs.Offers.{each_once}
use Rattle.block_build.specs.Receivers.{discarding, receiver, received_lines, receivers}
use Rattle.block_build.specs.Bounds.{AreMeets, IsBuilt}
use Rattle.block_build.specs.Right.{IsRightFor, view_atoms}
use Rattle.block_build.specs.Rules.{actions_in, actions_of, rule_of, rules_of}
use Rattle.block_build.specs.Spreads.{restricted}
use Rattle.block_build.specs.Views.{Viewed, IsTotal, entry_of, rules_in, inbound_of, has_all}
use Rattle.block_build.specs.declared.receive.Receiver.{Receiver}
use Rattle.std.proofs.lemmas.Option.{same_Some}

-- ---- lines as rules

-- the first rule is the first line, with its actions
record Matches (xs : List Line) (h : Headers) (items : List Item) : Type 0 where
  rule : Rule
  first : first_rule (rules_of xs) h ≡ Some rule
  acts : rule.actions ≡ actions_of items

match-rules : (xs : List Line) (h : Headers) (items : List Item) → decide xs h ≡ Some items → Matches xs h items
match-rules [] h items e = absurd (cc)
match-rules (x ∷ xs) h items e = elim (cases_Bool (has x.cube h)) [
  | inl here ↦ record {
    rule = rule_of x;
    first = ap (λ b. cond b (Some (rule_of x)) (first_rule (rules_of xs) h)) here;
    acts = ap actions_of (same_Some _ _ (sym (ap (λ b. cond b (Some x.results) (decide xs h)) here) ∙ e));
  }
  | inr apart ↦
      let later = match-rules xs h items (sym (ap (λ b. cond b (Some x.results) (decide xs h)) apart) ∙ e) in
      record { rule = later.rule; first = ap (λ b. cond b (Some (rule_of x)) (first_rule (rules_of xs) h)) apart ∙ later.first; acts = later.acts }
]

cubes-rules : (xs : List Line) → cubes_of (rules_of xs) ≡ lines.cubes_of xs
cubes-rules [] = refl
cubes-rules (x ∷ xs) = ap (λ cs. x.cube ∷ cs) (cubes-rules xs)

pub no_repeats : (xs : List Line) → HasDistinctCubes xs → HasNoRepeats (lines.cubes_of xs)
no_repeats [] d = tt
no_repeats (x ∷ xs) d = (λ k. d.0 k, no_repeats xs d.1)

-- ---- the receivers' rules give something to all headers

found_total : (entries : List (Pid × List Line)) (who : Pid) → ((e : Pid × List Line) → Member e entries → ends_with_everything e.1 ≡ true) → is_some (entry_of entries who) ≡ true → ends_with_everything (rules_in entries who) ≡ true
found_total entries who each there = of (entry_of entries who) refl there
  where
    of : (o : Option (Pid × List Line)) → entry_of entries who ≡ o → is_some o ≡ true → ends_with_everything (option_map_or (λ (e : Pid × List Line). e.1) o []) ≡ true
    of None e is = absurd (false≢true is)
    of (Some x) e is = each x (find-IsFound (λ (y : Pid × List Line). nat_eq y.0.0 who.0) entries x e).stands

all_found : (entries : List (Pid × List Line)) (offers : List Offer) (o : Offer) → list_all (λ (x : Offer). is_some (entry_of entries x.exporter)) offers ≡ true → Member o offers → is_some (entry_of entries o.exporter) ≡ true
all_found entries [] o all k = elim k [ ]
all_found entries (x ∷ xs) o all (inl e) =
    ap (λ (z : Offer). is_some (entry_of entries z.exporter)) e ∙ (and_parts (is_some (entry_of entries x.exporter)) (list_all (λ (z : Offer). is_some (entry_of entries z.exporter)) xs) all).0
all_found entries (x ∷ xs) o all (inr k) = all_found entries xs o (and_parts (is_some (entry_of entries x.exporter)) (list_all (λ (z : Offer). is_some (entry_of entries z.exporter)) xs) all).1 k

pub offered-total : (v : Viewed) (offers : List Offer) → IsTotal v → has_all v offers ≡ true → (o : Offer) → Member o offers → ends_with_everything (inbound_of v o.exporter) ≡ true
offered-total v offers t all o k = found_total v.inbound o.exporter t.inbound (all_found v.inbound offers o all k)

receivers-total : (inbound : Pid → List Line) (offers : List Offer) → ((o : Offer) → Member o offers → ends_with_everything (inbound o.exporter) ≡ true) → AreTotal (receivers inbound offers)
receivers-total inbound offers each r k =
    let i = SetLemmas.map-Member (receiver inbound) offers r k in
    ap (λ (q : Receiver). ends_with_everything q.lines) i.is ∙ of i.of.hole i.of.port (inbound i.of.exporter) (each i.of i.stands)
  where
    of : (b : Bool) (port : PortNo) (ys : List Line) → ends_with_everything ys ≡ true → ends_with_everything (cond b discarding (received_lines port ys)) ≡ true
    of true port ys t = within_refl everything
    of false port ys t = ends-received port ys ∙ t

-- ---- the rules that are built

module _ (v : Viewed) (port : PortNo) (p : Part) (t : IsTotal v) (there : is_offered p.offers p.best ≡ true) (once : each_once p.offers ≡ true) (all : has_all v p.offers ≡ true) where
  abbrev their_total : (o : Offer) → Member o p.offers → ends_with_everything (inbound_of v o.exporter) ≡ true
  their_total = offered-total v p.offers t all

  abbrev their_rules : List Receiver
  their_rules = receivers (inbound_of v) p.offers

  module _ (limit : ℕ) (made : List Line) (built : IsBuilt limit p.best p.offers their_rules (add_lines [] (restricted port v.outbound)) made) (within : length made ≤ limit) where
    decided : (h : Headers) → h.inport ≡ port → decide made h ≡ Some (gathered_by p.best p.offers their_rules h (given v.outbound h))
    decided h e =
        built.gives within (receivers-total (inbound_of v) p.offers their_total) h (given v.outbound h)
        (decide-add_lines [] (restricted port v.outbound) h ∙ decide-restricted port v.outbound h e ∙ given_is v.outbound h (total v.outbound t.outbound h))

    pub right-built : AreMeets (view_atoms v port p) made → IsRightFor v port p (rules_of made)
    right-built meets = record {
      gives = λ h valid e.
          let m = match-rules made h (gathered_by p.best p.offers their_rules h (given v.outbound h)) (decided h e) in (
            m.rule,
            m.first,
            SetLemmas.same_trans (SetLemmas.same_eq (ap (map (done_by h)) m.acts))
                (SetLemmas.same_trans (left-outs h (gathered_by p.best p.offers their_rules h (given v.outbound h))) (outs-answer (inbound_of v) p h their_total v.outbound once there)),
          );
      differ = subst HasNoRepeats (sym (cubes-rules made)) (no_repeats made built.differ);
      meets = λ c k.
          let i = SetLemmas.map-Member (λ (z : Line). z.cube) made c (subst (Member c) (cubes-rules made) k) in
          subst (IsMeet (view_atoms v port p)) (sym i.is) (meets i.of i.stands);
      ordered = λ rule k.
          let i = SetLemmas.map-Member rule_of made rule k in
          subst (λ (r : Rule). AreInOrder r.actions) (sym i.is) (actions_rise (actions_in i.of.results));
    }

-- ---- right rules are no more than the cells

pub within_cells : (atoms cubes : List Cube) → HasNoRepeats cubes → ((c : Cube) → Member c cubes → IsMeet atoms c) → length cubes ≤ length (meets atoms)
within_cells atoms cubes d each = no_longer cubes (meets atoms) d (λ c k. IsMeet-meets atoms c (each c k))

length-cubes : (xs : List Line) → length (lines.cubes_of xs) ≡ length xs
length-cubes [] = refl
length-cubes (x ∷ xs) = ap suc (length-cubes xs)

-- lines whose cubes differ and are meets of the atoms are no more than the cells
pub lines_within : (atoms : List Cube) (xs : List Line) → HasDistinctCubes xs → AreMeets atoms xs → length xs ≤ length (meets atoms)
lines_within atoms xs d each =
    subst (λ n. n ≤ length (meets atoms)) (length-cubes xs) (within_cells atoms (lines.cubes_of xs) (no_repeats xs d) (λ c k.
    let i = SetLemmas.map-Member (λ (z : Line). z.cube) xs c k in subst (IsMeet atoms) (sym i.is) (each i.of i.stands)))
