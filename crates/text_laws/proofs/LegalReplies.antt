-- Legal replies to lines that can be written are told by their texts.
use Rattle.std.proofs.Common.{◌≡◌, ℕ, ◌≤◌, ◌<◌, ◌^◌, Bool, true, false, List, [], ◌∷◌, ◌++◌, flat_map, inl, inr, codes, decimal, refl, sym, ap, subst, ◌∙◌, arith}
use Rattle.std.specs.Prelude.{Option, Some, None}
use Rattle.std.proofs.lemmas.List.{append_cancel_left}
use Rattle.events.specs.After.{after, next}
use Rattle.events.specs.Fits.{Fits, FitsBy, IsAccepted, IsFull, Passes, is_building}
use Rattle.events.specs.Forms.{IsWellFormed}
use Rattle.events.specs.Legal.{LegalFrom}
use Rattle.events.specs.Lines.{Numbered, bare_events}
use Rattle.events.specs.Refusals.{refusal}
use Rattle.events.specs.State.{State, first}
use Rattle.events.specs.Text.{advert_text, drop_text, end_line, exchange_text, frame_text, head_text, reply_text, rule_line, tag_text, text}
use Rattle.events.specs.declared.Event.{Event}
use Rattle.events.specs.declared.Flow.{Flow}
use Rattle.events.specs.declared.Head.{Head}
use Rattle.events.specs.declared.Head.TheVariants.{Fine, Refused}
use Rattle.events.specs.declared.Refusal.{Refusal}
use Rattle.events.specs.declared.Refusal.TheVariants.{TableFull}
use Rattle.events.specs.declared.Reply.{Reply}
use Rattle.exchange_laws.specs.Steady.{PortsAreNumbered}
use Rattle.job_laws.proofs.AllSteps.{all_steps_stay_steady, first_steady}
use Rattle.job_laws.specs.Jobs.{IsSteadyInJob}
use Rattle.net_types.specs.Sets.{Each, Member}
use Rattle.text_laws.specs.Naming.{AddsNoPort, IsOfNoPort, IsWritable, TextsNameReplies}
use Rattle.text_laws.specs.Widths.{HasActionWidths, IsHead, IsPair}
use Rattle.text_laws.proofs.Counts.{cells_written}
use Rattle.text_laws.proofs.Details.{DetailsFit, FlowFits, details_fit, plain_flows}
use Rattle.text_laws.proofs.Determined.{AreAlike, building_fine, building_keeps, determined}
use Rattle.text_laws.proofs.Joined.{cons_is}
use Rattle.text_laws.proofs.Lines.{IsPlainFlow, drop_begins, drops_told, part, part_told, rule_begins, rules_told}
use Rattle.text_laws.proofs.Replies.{adds_on, adverts_on, any, asks_on, behind_adds, behind_drops, drops_on, frames_on, heads_told, nested_told, reply_is, reply_told, tags_on, text_part}

-- ---- one reply

-- what stands behind the same text
behind_same : (x y s t : List ℕ) → x ≡ y → x ++ s ≡ y ++ t → s ≡ t
behind_same x y s t is e = append_cancel_left y s t (ap (λ z. z ++ s) (sym is) ∙ e)

same_told : (n : ℕ) (e : Event) (r q : Reply) (s t : List ℕ) → r ≡ q → reply_text n e r ++ s ≡ reply_text n e q ++ t → (r ≡ q) × (s ≡ t)
same_told n e r q s t is same = (is, behind_same (reply_text n e r) (reply_text n e q) s t (ap (reply_text n e) is) same)

flows_free : (fs : List Flow) → Each FlowFits fs → Each (λ (f : Flow). IsOfNoPort f.rule.cube) fs
flows_free [] each = tt
flows_free (f ∷ fs) each = (each.0.rule.of_no_port, flows_free fs each.1)

-- replies that are alike but for what they drop and add
alike_told : (n : ℕ) (e : Event) (r q : Reply) (s t : List ℕ) → AreAlike r q → DetailsFit r → DetailsFit q → HasActionWidths r → part s ≡ 7 → part t ≡ 7 → reply_text n e r ++ s ≡ reply_text n e q ++ t → (r ≡ q) × (s ≡ t)
alike_told n e r q s t alike one two here ends stops same =
    let head = behind_same (decimal n ++ codes " " ++ head_text r.head ++ end_line) (decimal n ++ codes " " ++ head_text q.head ++ end_line) (tags_on e r s) (tags_on e q t) (ap (λ h. decimal n ++ codes " " ++ head_text h ++ end_line) alike.head) (nested_told n e r q s t same) in
    let tags = behind_same (flat_map tag_text r.tags) (flat_map tag_text q.tags) (drops_on e r s) (drops_on e q t) (ap (flat_map tag_text) alike.tags) head in
    let drops = part_told drop_text IsPair (λ p. Unit {0}) 2 drop_begins drops_told r.drops q.drops (adds_on e r s) (adds_on e q t) one.drops (any q.drops) (behind_drops e r s ends 2 (omega arith)) (behind_drops e q t stops 2 (omega arith)) tags in
    let adds =
    part_told (rule_line e) IsPlainFlow (λ f. IsOfNoPort f.rule.cube) 3 (rule_begins e) (rules_told e) r.adds q.adds (adverts_on r s) (adverts_on q t) (plain_flows r.adds one.adds here) (flows_free q.adds two.adds) (behind_adds e r s ends 3 (omega arith)) (behind_adds e q t stops 3 (omega arith)) drops.1 in
    let adverts = behind_same (flat_map advert_text r.adverts) (flat_map advert_text q.adverts) (asks_on r s) (asks_on q t) (ap (flat_map advert_text) alike.adverts) adds.1 in
    let asks = behind_same (flat_map exchange_text r.asks) (flat_map exchange_text q.asks) (frames_on r s) (frames_on q t) (ap (flat_map exchange_text) alike.asks) adverts in
    (reply_is r q alike.head alike.tags drops.0 adds.0 alike.adverts alike.asks alike.frames, behind_same (flat_map frame_text r.frames) (flat_map frame_text q.frames) s t (ap (flat_map frame_text) alike.frames) asks)

-- ---- one line

fine_refused : (h : Head) (why : Refusal) → h ≡ Fine → h ≡ Refused why → ⊥
fine_refused h why one two = let e : Fine ≡ Refused why = sym one ∙ two in absurd (cc)

module _ (s : State) (e : Event) (steady : IsSteadyInJob s) (formed : IsWellFormed e) where
  -- a full table has a number of at most 63 digits
  full_written : (r : Reply) → is_building e ≡ true → IsFull s e r → IsWritable r
  full_written r builds full =
      let keeps = building_keeps s e builds in
      let ports : PortsAreNumbered (after s e).routing.ports = subst PortsAreNumbered (sym keeps.ports) steady.steady.numbered in
      let small : (after s e).size ≤ 65536 = subst (λ n. n ≤ 65536) (sym keeps.size) steady.steady.sized.small in
      let all = cells_written (after s e) ports small full.read.0 full.read.1 in
      let few = full.few full.read.0 full.read.1 in
      let rules : full.rules < 10 ^ 63 = omega (arith, all, few) in
      let room : s.capacity < 10 ^ 63 = let is : s.capacity ≤ 1000000 = steady.steady.sized.room in omega (arith, is) in
      subst IsWritable (sym full.head) (record { widths = record { head = (rules, room); tags = tt; drops = tt; adds = tt; frames = tt }; of_no_port = tt })

  full_free : (r : Reply) → IsFull s e r → AddsNoPort r
  full_free r full = subst AddsNoPort (sym full.head) tt

  module _ (r q : Reply) (fits : Fits s e r) (also : Fits s e q) (here : HasActionWidths r) (n : ℕ) (t u : List ℕ) (ends : part t ≡ 7) (stops : part u ≡ 7) (same : reply_text n e r ++ t ≡ reply_text n e q ++ u) where
    details : (x : Reply) → Fits s e x → IsAccepted s e x → DetailsFit x
    details x fits is = details_fit s (next s e x) steady.steady (all_steps_stay_steady s e x steady formed fits).steady x e is.answer

    both_accepted : IsAccepted s e r → IsAccepted s e q → (r ≡ q) × (t ≡ u)
    both_accepted one two = alike_told n e r q t u (determined s e r q one.answer two.answer) (details r fits one) (details q also two) here ends stops same

    -- the heads differ where the one is accepted and the other finds the table full
    first_accepted : is_building e ≡ true → IsAccepted s e r → IsFull s e q → ⊥
    first_accepted builds one two =
        let fine = building_fine s (next s e r) e r builds one.answer in
        fine_refused q.head (TableFull two.rules s.capacity) (sym (heads_told n e r q t u (subst IsHead (sym fine) tt) same).0 ∙ fine) (ap (λ (x : Reply). x.head) two.head)

    second_accepted : is_building e ≡ true → IsFull s e r → IsAccepted s e q → ⊥
    second_accepted builds one two =
        let fine = building_fine s (next s e q) e q builds two.answer in
        let full = full_written r builds one in
        fine_refused r.head (TableFull one.rules s.capacity) ((heads_told n e r q t u full.widths.head same).0 ∙ fine) (ap (λ (x : Reply). x.head) one.head)

    passed : (b : Bool) → is_building e ≡ b → Passes b s e r → Passes b s e q → (r ≡ q) × (t ≡ u)
    passed true builds (inl one) (inl two) = both_accepted one two
    passed true builds (inl one) (inr two) = absurd (first_accepted builds one two)
    passed true builds (inr one) (inl two) = absurd (second_accepted builds one two)
    passed true builds (inr one) (inr two) = reply_told n e r q t u (full_written r builds one) (full_free q two) ends stops same
    passed false builds one two = both_accepted one two

    by_refusal : (o : Option Refusal) → FitsBy o s e r → FitsBy o s e q → (r ≡ q) × (t ≡ u)
    by_refusal (Some why) one two = same_told n e r q t u (one ∙ sym two) same
    by_refusal None one two = passed (is_building e) refl one two

    line_told : (r ≡ q) × (t ≡ u)
    line_told = by_refusal (refusal s e) fits also

-- ---- runs

from_told : (s : State) (ns : List Numbered) (rs qs : List Reply) → IsSteadyInJob s → ((e : Event) → Member e (bare_events ns) → IsWellFormed e) → LegalFrom s (bare_events ns) rs → LegalFrom s (bare_events ns) qs
    → Each HasActionWidths rs → text ns rs ≡ text ns qs → rs ≡ qs
from_told s [] [] [] steady formed legal also here same = refl
from_told s [] [] (q ∷ qs) steady formed legal also here same = absurd also
from_told s [] (r ∷ rs) qs steady formed legal also here same = absurd legal
from_told s (n ∷ ns) [] qs steady formed legal also here same = absurd legal
from_told s (n ∷ ns) (r ∷ rs) [] steady formed legal also here same = absurd also
from_told s (n ∷ ns) (r ∷ rs) (q ∷ qs) steady formed legal also here same =
    let one : IsWellFormed n.event = formed n.event (inl refl) in
    let told = line_told s n.event steady one r q legal.0 also.0 here.0 n.number (text ns rs) (text ns qs) (text_part ns rs) (text_part ns qs) same in
    let follows : LegalFrom (next s n.event r) (bare_events ns) qs = subst (λ x. LegalFrom (next s n.event x) (bare_events ns) qs) (sym told.0) also.1 in
    cons_is r q rs qs told.0 (from_told (next s n.event r) ns rs qs (all_steps_stay_steady s n.event r steady one legal.0) (λ e m. formed e (inr m)) legal.1 follows here.1 told.1)

pub texts_name_replies : TextsNameReplies
texts_name_replies ns rs qs formed legal also here same = from_told first ns rs qs first_steady formed legal also here same
