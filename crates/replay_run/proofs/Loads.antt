-- Runs over generated lines, one line after the other.
use Rattle.std.proofs.Common.{cond, ◌≡◌, ℕ, zero, suc, ◌+◌, ◌-◌, ◌<◌, ◌≤◌, Bool, true, false, nat_lt, List, [], ◌∷◌, ◌++◌, append-nil, length, map, refl, sym, ap, subst, ◌∙◌, arith}
use Rattle.std.specs.Prelude.{Option, Some, None, Result, Ok, Err, OnOk, OnErr}
use Rattle.std.specs.Io.KnownBytes.{Appends}
use Rattle.std.proofs.lemmas.List.{length-map, map-append}
use Rattle.events.specs.After.{next}
use Rattle.events.specs.Fits.{Fits}
use Rattle.events.specs.Legal.{Legal, state_after, state_from}
use Rattle.events.specs.Lines.{Numbered, bare_events, event_of, numbered, numbered_event}
use Rattle.events.specs.Sound.{rule_count}
use Rattle.events.specs.State.{State, first}
use Rattle.events.specs.declared.Event.{Event}
use Rattle.load_gen.specs.Generated.{generated}
use Rattle.net_types.specs.Routes.{numbers}
use Rattle.net_types.specs.Sets.{Member}
use Rattle.job_laws.specs.Replying.{AllRunsGoOn}
use Rattle.run_laws.proofs.OneMore.{legal_more, state_more}
use Rattle.sdx_core.specs.Steps.{step_bound}
use Rattle.replay_run.specs.Bounds.{first_bound, line_bound, run_bound}
use Rattle.replay_run.specs.Load.{BeginsSummary, CountsEvent, HasLoaded, Loaded, LoadedBy, Loads, Summarizes, counted_with, generated_events, generated_lines, live_count, load_events, summary, tally_of, tally_text}
use Rattle.replay_run.specs.Run.{IsAtEndOrMemory, fault_status}
use Rattle.replay_run.specs.declared.Status.{Status}
use Rattle.replay_run.specs.declared.Status.TheVariants.{Done, Refused, Usage, ReadFault, WriteFault, Memory, TooLong}
use Rattle.replay_run.specs.declared.outside.SinkFault.{SinkFault}
use Rattle.replay_run.specs.declared.outside.SinkFault.TheVariants as sinks
use Rattle.replay_run.specs.declared.tally.Tally.{Tally}
use Rattle.replay_run.proofs.Begun.{within_all}
use Rattle.replay_run.proofs.Bytes.{Appends_none}
use Rattle.replay_run.proofs.LineSplits.{numbered-append}
use Rattle.replay_run.proofs.Octets.{IsWritten, lines_written}
use Rattle.replay_run.proofs.Parts.{within_more}
use Rattle.replay_run.proofs.Runs.{bare_append, line_within}
use Rattle.replay_run.proofs.Tallies.{refused_counted, tally_more}

-- ---- lines

numbers_split : (low j k : ℕ) → numbers low (j + k) ≡ numbers low j ++ numbers (low + j) k
numbers_split low zero k =
    let whole : zero + k ≡ k = omega arith in
    let here : low ≡ low + zero = omega arith in
    ap (numbers low) whole ∙ ap (λ n. numbers n k) here
numbers_split low (suc j) k =
    let whole : suc j + k ≡ suc (j + k) = omega arith in
    let there : low + 1 + j ≡ low + suc j = omega arith in
    ap (numbers low) whole ∙ ap (λ ns. low ∷ ns) (numbers_split (low + 1) j k ∙ ap (λ n. numbers (low + 1) j ++ numbers n k) there)

length_numbers : (low count : ℕ) → length (numbers low count) ≡ count
length_numbers low zero = refl
length_numbers low (suc count) = omega (arith, length_numbers (low + 1) count)

-- the lines from one on
abbrev from : ℕ → ℕ → ℕ → List (List ℕ)
from seed low count = map (generated seed) (numbers low count)

lines_split : (seed j k : ℕ) → generated_lines seed (j + k) ≡ generated_lines seed j ++ from seed j k
lines_split seed j k =
    let there : 0 + j ≡ j = omega arith in
    ap (map (generated seed)) (numbers_split 0 j k ∙ ap (λ n. numbers 0 j ++ numbers n k) there) ∙ map-append (generated seed) (numbers 0 j) (numbers j k)

length_lines : (seed j : ℕ) → length (generated_lines seed j) ≡ j
length_lines seed j = length-map (numbers 0 j) (generated seed) ∙ length_numbers 0 j

-- the events of the lines behind the first
abbrev behind : ℕ → ℕ → ℕ → List Numbered
behind seed j k = numbered (1 + j) (from seed j k)

events_split : (seed j k : ℕ) → load_events seed (j + k) ≡ load_events seed j ++ bare_events (behind seed j k)
unfolding load_events
events_split seed j k =
    ap bare_events
    (ap (numbered 1) (lines_split seed j k) ∙ numbered-append 1 (generated_lines seed j) (from seed j k)
    ∙ ap (λ n. generated_events seed j ++ numbered (1 + n) (from seed j k)) (length_lines seed j))
    ∙ bare_append (generated_events seed j) (behind seed j k)

-- the lines may all be written
loads_written : (seed lines : ℕ) (e : Event) → Member e (load_events seed lines) → IsWritten e
unfolding load_events
loads_written seed lines e m = lines_written 1 (generated_lines seed lines) e m

-- ---- steps

no_steps : (mid n : ℕ) → mid ≤ mid + n
no_steps mid n = omega arith

widened : (after mid a b : ℕ) → after ≤ mid + a → a ≤ b → after ≤ mid + b
widened after mid a b few within = omega arith

joined : (before mid after a b : ℕ) → mid ≤ before + a → after ≤ mid + b → after ≤ before + a + b
joined before mid after a b some more = omega arith

none_more : (before mid after a : ℕ) → mid ≤ before + a → after ≤ mid + 0 → after ≤ before + a
none_more before mid after a some more = omega arith

-- ---- one line more

event_more : (seed j : ℕ) (o : Option Event) → event_of (generated seed j) ≡ o → load_events seed (j + 1) ≡ load_events seed j ++ bare_events (numbered_event (1 + j) o [])
event_more seed j o is = events_split seed j 1 ∙ ap (λ x. load_events seed j ++ bare_events (numbered_event (1 + j) x [])) is

loaded_event : (seed j : ℕ) (old new : Tally) (s t : State) (before mid after : ℕ) (o : Option Event) → event_of (generated seed j) ≡ o → CountsEvent o s old new t → after ≤ mid + line_bound s o
    → Loaded seed j old s before mid → Loaded seed (j + 1) new t before after
loaded_event seed j old new s t before mid after None is r few h =
    let same : load_events seed (j + 1) ≡ load_events seed j = event_more seed j None is ∙ append-nil (load_events seed j) in
    record {
      replies = h.replies;
      legal = subst (λ es. Legal es h.replies) (sym same) h.legal;
      counted = r.0 ∙ h.counted;
      state = r.1 ∙ h.state ∙ ap (λ es. state_after es h.replies) (sym same);
      steps = subst (λ es. after ≤ before + run_bound first es h.replies) (sym same) (none_more before mid after (run_bound first (load_events seed j) h.replies) h.steps few);
    }
loaded_event seed j old new s t before mid after (Some e) is r few h =
    let es : List Event = load_events seed j in
    let more : load_events seed (j + 1) ≡ es ++ e ∷ [] = event_more seed j (Some e) is in
    record {
      replies = h.replies ++ r.0 ∷ [];
      legal = subst (λ fs. Legal fs (h.replies ++ r.0 ∷ [])) (sym more) (legal_more first es h.replies e r.0 h.legal (subst (λ x. Fits x e r.0) h.state r.1.fits));
      counted = r.2 ∙ ap (λ x. counted_with x r.0) h.counted ∙ sym (tally_more h.replies r.0);
      state = r.1.next ∙ ap (λ x. next x e r.0) h.state ∙ sym (state_more first es h.replies e r.0 h.legal) ∙ ap (λ fs. state_after fs (h.replies ++ r.0 ∷ [])) (sym more);
      steps = subst (λ fs. after ≤ before + run_bound first fs (h.replies ++ r.0 ∷ [])) (sym more)
          (within_more first es h.replies e r.0 before mid after h.legal h.steps (subst (λ x. after ≤ mid + step_bound x e) h.state few));
    }

pub loaded_line : (seed j : ℕ) (line : List ℕ) (old new : Tally) (s t : State) (before mid after : ℕ) → line ≡ generated seed j → CountsEvent (event_of line) s old new t → after ≤ mid + line_bound s (event_of line)
    → Loaded seed j old s before mid → Loaded seed (j + 1) new t before after
loaded_line seed j line old new s t before mid after is r few h = loaded_event seed j old new s t before mid after (event_of line) (ap event_of (sym is)) r few h

pub nothing_loaded : (seed before : ℕ) → Loaded seed 0 (tally_of []) first before before
unfolding load_events
nothing_loaded seed before = record { replies = []; legal = tt; counted = refl; state = refl; steps = no_steps before 0 }

-- ---- lines that are given up

-- where at most the line behind the first took steps too, replies go on to all
go_on : AllRunsGoOn → (seed j k : ℕ) (tally : Tally) (s : State) (before mid after : ℕ) → after ≤ mid + line_bound s (event_of (generated seed j)) → Loaded seed j tally s before mid → Loads seed (j + suc k) before after
go_on runs_go_on seed j k tally s before mid after few h =
    let es : List Event = load_events seed j in
    let fs : List Event = bare_events (behind seed j (suc k)) in
    let all : load_events seed (j + suc k) ≡ es ++ fs = events_split seed j (suc k) in
    let on = runs_go_on es fs h.replies (λ e m. loads_written seed (j + suc k) e (subst (Member e) (sym all) m)) h.legal in
    let one : line_bound s (event_of (generated seed j)) ≤ first_bound s fs = line_within s (1 + j) (event_of (generated seed j)) (numbered (1 + j + 1) (from seed (j + 1) k)) in
    let here : after ≤ mid + first_bound (state_from first es h.replies) fs = subst (λ x. after ≤ mid + first_bound x fs) h.state (widened after mid (line_bound s (event_of (generated seed j))) (first_bound s fs) few one) in
    record {
      replies = h.replies ++ on.0;
      legal = subst (λ gs. Legal gs (h.replies ++ on.0)) (sym all) on.1;
      steps = subst (λ gs. after ≤ before + run_bound first gs (h.replies ++ on.0)) (sym all) (within_all first es fs h.replies on.0 before after h.legal on.1
          (joined before mid after (run_bound first es h.replies) (first_bound (state_from first es h.replies) fs) h.steps here));
    }

all_lines : (j lines : ℕ) → j < lines → j + suc (lines - j - 1) ≡ lines
all_lines j lines within = omega arith

pub loads_on : AllRunsGoOn → (seed j lines : ℕ) (line : List ℕ) (tally : Tally) (s : State) (before mid after : ℕ) → j < lines → line ≡ generated seed j → after ≤ mid + line_bound s (event_of line)
    → Loaded seed j tally s before mid → Loads seed lines before after
loads_on law seed j lines line tally s before mid after within is few h =
    let whole : j + suc (lines - j - 1) ≡ lines = all_lines j lines within in
    subst (λ n. Loads seed n before after) whole (go_on law seed j (lines - j - 1) tally s before mid after (subst (λ l. after ≤ mid + line_bound s (event_of l)) is few) h)

-- the same where the line took no steps
pub loads_here : AllRunsGoOn → (seed j lines : ℕ) (tally : Tally) (s : State) (before mid : ℕ) → j < lines → Loaded seed j tally s before mid → Loads seed lines before mid
loads_here law seed j lines tally s before mid within h = loads_on law seed j lines (generated seed j) tally s before mid mid within refl (no_steps mid (line_bound s (event_of (generated seed j)))) h

-- ---- the end

pub loads_all : (seed lines : ℕ) (tally : Tally) (s : State) (before after : ℕ) → Loaded seed lines tally s before after → Loads seed lines before after
loads_all seed lines tally s before after h = record { replies = h.replies; legal = h.legal; steps = h.steps }

-- what is written of a run over all lines
module _ (seed lines : ℕ) (tally : Tally) (s : State) (before after : ℕ) (text : List ℕ) (live rules : ℕ) (h : Loaded seed lines tally s before after)
    (live_is : live ≡ live_count s) (rules_is : rules ≡ rule_count s) (text_is : text ≡ tally_text lines tally live rules) where
  written : text ≡ summary lines h.replies (state_after (load_events seed lines) h.replies)
  written =
      text_is ∙ ap (λ n. tally_text lines tally n rules) live_is ∙ ap (λ n. tally_text lines tally (live_count s) n) rules_is
      ∙ ap (λ x. tally_text lines x (live_count s) (rule_count s)) h.counted ∙ ap (λ x. summary lines h.replies x) h.state

  pub summarized : (refused : Bool) → refused ≡ nat_lt 0 tally.refused → Summarizes seed lines text s refused before after
  summarized refused is = record {
    replies = h.replies;
    legal = h.legal;
    written = written;
    state = h.state;
    refused_is = is ∙ ap (λ (x : Tally). nat_lt 0 x.refused) h.counted ∙ refused_counted h.replies;
    steps = h.steps;
  }

  pub summary_begun : (front rest : List ℕ) → text ≡ front ++ rest → BeginsSummary seed lines front before after
  summary_begun front rest is = record { replies = h.replies; rest = rest; legal = h.legal; written = sym written ∙ is; steps = h.steps }

pub loaded_end : (refused : Bool) (seed lines : ℕ) (w : List ℕ) (s : State) (before after : ℕ) → Summarizes seed lines w s refused before after → LoadedBy (cond refused Refused Done) seed lines w s before after
loaded_end true seed lines w s before after h = h
loaded_end false seed lines w s before after h = h

pub loaded_fault : (fault : SinkFault) (seed lines : ℕ) (w : List ℕ) (s : State) (before after : ℕ) → BeginsSummary seed lines w before after → LoadedBy (fault_status fault) seed lines w s before after
loaded_fault sinks.Failed seed lines w s before after h = h
loaded_fault sinks.Memory seed lines w s before after h = h

-- the same with the number of drawn lines
pub with_count : (status : Status) (seed count lines : ℕ) (held held_after : Option (List ℕ)) (s : State) (before after : ℕ) (w : List ℕ) → lines ≡ 17 + count → Appends held held_after w → LoadedBy status seed lines w s before after
    → HasLoaded status seed count held held_after s before after
with_count status seed count lines held held_after s before after w is wrote h = (w, wrote, subst (λ n. LoadedBy status seed n w s before after) is h)

-- nothing was written
none_begun : (seed lines before after : ℕ) → Loads seed lines before after → BeginsSummary seed lines [] before after
none_begun seed lines before after h = record { replies = h.replies; rest = summary lines h.replies (state_after (load_events seed lines) h.replies); legal = h.legal; written = refl; steps = h.steps }

pub nothing_written : (seed count : ℕ) (held : Option (List ℕ)) (s : State) (lines before after : ℕ) → lines ≡ 17 + count → Loads seed lines before after → HasLoaded Memory seed count held held s before after
nothing_written seed count held s lines before after is h = with_count Memory seed count lines held held s before after [] is (Appends_none held) (none_begun seed lines before after h)

-- where the sink doesn't fail, the lines are run to their end
pub ends_loaded : (status : Status) (seed count : ℕ) (held held_after : Option (List ℕ)) (s : State) (before after : ℕ) → HasLoaded status seed count held held_after s before after → (status ≡ WriteFault → ⊥) → IsAtEndOrMemory status
ends_loaded Done seed count held held_after s before after h no_write = tt
ends_loaded Refused seed count held held_after s before after h no_write = tt
ends_loaded Memory seed count held held_after s before after h no_write = tt
ends_loaded Usage seed count held held_after s before after h no_write = absurd h.2
ends_loaded ReadFault seed count held held_after s before after h no_write = absurd h.2
ends_loaded TooLong seed count held held_after s before after h no_write = absurd h.2
ends_loaded WriteFault seed count held held_after s before after h no_write = absurd (no_write refl)

-- such runs end otherwise
pub not_usage : (status : Status) (seed count : ℕ) (held held_after : Option (List ℕ)) (s : State) (before after : ℕ) → HasLoaded status seed count held held_after s before after → status ≡ Usage → ⊥
not_usage status seed count held held_after s before after h is = (subst (λ x. HasLoaded x seed count held held_after s before after) is h).2

pub not_read : (status : Status) (seed count : ℕ) (held held_after : Option (List ℕ)) (s : State) (before after : ℕ) → HasLoaded status seed count held held_after s before after → status ≡ ReadFault → ⊥
not_read status seed count held held_after s before after h is = (subst (λ x. HasLoaded x seed count held held_after s before after) is h).2

-- ---- the same by answers

-- what holds holds of each fault
pub told_err : {T E : Type 0} (result : Result T E) (P : Type 0) → P → OnErr result P
told_err (Ok x) P h = tt
told_err (Err e) P h = h

pub counted_result : {T E : Type 0} (result : Result T E) (seed j : ℕ) (line : List ℕ) (old new : Tally) (s t : State) (before mid after : ℕ) → line ≡ generated seed j → OnOk result (CountsEvent (event_of line) s old new t)
    → after ≤ mid + line_bound s (event_of line) → Loaded seed j old s before mid → OnOk result (Loaded seed (j + 1) new t before after)
counted_result (Ok x) seed j line old new s t before mid after is r few h = loaded_line seed j line old new s t before mid after is r few h
counted_result (Err e) seed j line old new s t before mid after is r few h = tt

pub stopped_result : AllRunsGoOn → {T E : Type 0} (result : Result T E) (seed j lines : ℕ) (line : List ℕ) (tally : Tally) (s : State) (before mid after : ℕ) → j < lines → line ≡ generated seed j → after ≤ mid + line_bound s (event_of line)
    → Loaded seed j tally s before mid → OnErr result (Loads seed lines before after)
stopped_result law (Ok x) seed j lines line tally s before mid after within is few h = tt
stopped_result law (Err e) seed j lines line tally s before mid after within is few h = loads_on law seed j lines line tally s before mid after within is few h

-- a summary that was written
pub load_done : (status : Status) (refused : Bool) (seed count lines : ℕ) (held held_after : Option (List ℕ)) (s : State) (before after : ℕ) (text : List ℕ) (tally : Tally) (live rules : ℕ) → status ≡ cond refused Refused Done → lines ≡ 17 + count
    → Appends held held_after text → Loaded seed lines tally s before after → live ≡ live_count s → rules ≡ rule_count s → text ≡ tally_text lines tally live rules → refused ≡ nat_lt 0 tally.refused
    → HasLoaded status seed count held held_after s before after
load_done status refused seed count lines held held_after s before after text tally live rules status_is is wrote h live_is rules_is text_is refused_is =
    with_count status seed count lines held held_after s before after text is wrote
    (subst (λ x. LoadedBy x seed lines text s before after) (sym status_is)
    (loaded_end refused seed lines text s before after (summarized seed lines tally s before after text live rules h live_is rules_is text_is refused refused_is)))

-- a summary of which a front was written
pub load_failed : (status : Status) (fault : SinkFault) (seed count lines : ℕ) (held held_after : Option (List ℕ)) (s : State) (before after : ℕ) (text front rest : List ℕ) (tally : Tally) (live rules : ℕ) → status ≡ fault_status fault → lines ≡ 17 + count
    → text ≡ front ++ rest → Appends held held_after front → Loaded seed lines tally s before after → live ≡ live_count s → rules ≡ rule_count s → text ≡ tally_text lines tally live rules
    → HasLoaded status seed count held held_after s before after
load_failed status fault seed count lines held held_after s before after text front rest tally live rules status_is is cut wrote h live_is rules_is text_is =
    with_count status seed count lines held held_after s before after front is wrote
    (subst (λ x. LoadedBy x seed lines front s before after) (sym status_is)
    (loaded_fault fault seed lines front s before after (summary_begun seed lines tally s before after text live rules h live_is rules_is text_is front rest cut)))
