-- What a run over generated lines writes and leaves, by its status.
use Rattle.std.specs.Prelude.{◌≡◌, ℕ, ◌+◌, ◌-◌, ◌^◌, ◌++◌, ◌≤◌, Bool, true, false, not, List, length, map, filter, min, sum_by, codes, Option, Some, None, if◌then◌else◌}
use Rattle.std.specs.Fmt.{decimal}
use Rattle.std.specs.List.{list_any}
use Rattle.std.specs.Io.KnownBytes.{Appends}
use Rattle.events.specs.declared.Event.{Event}
use Rattle.events.specs.declared.Reply.{Reply}
use Rattle.events.specs.Fits.{IsStep}
use Rattle.events.specs.Legal.{Legal, state_after}
use Rattle.events.specs.Lines.{Numbered, bare_events, numbered}
use Rattle.events.specs.Sound.{rule_count}
use Rattle.events.specs.State.{State, first}
use Rattle.events.specs.Tags.{is_live, tags}
use Rattle.events.specs.Text.{end_line}
use Rattle.load_gen.specs.Generated.{generated}
use Rattle.net_types.specs.Routes.{numbers}
use Rattle.replay_run.specs.declared.Status.{Status}
use Rattle.replay_run.specs.declared.Status.TheVariants.{Done, Refused, Usage, ReadFault, WriteFault, Memory, TooLong}
use Rattle.replay_run.specs.declared.tally.Tally.{Tally}
use Rattle.replay_run.specs.Bounds.{run_bound}
use Rattle.replay_run.specs.Progress.{is_refused}

-- ---- lines

-- the first lines of a seed
abbrev pub generated_lines : ℕ → ℕ → List (List ℕ)
generated_lines seed count = map (generated seed) (numbers 0 count)

-- their events, with their numbers
abbrev pub generated_events : ℕ → ℕ → List Numbered
generated_events seed count = numbered 1 (generated_lines seed count)

-- the events without their numbers
unfoldable pub load_events : ℕ → ℕ → List Event
load_events seed count = bare_events (generated_events seed count)

-- ---- what is counted

abbrev pub accepted_count : List Reply → ℕ
accepted_count rs = length (filter (λ r. not (is_refused r)) rs)

abbrev pub refused_count : List Reply → ℕ
refused_count rs = length (filter is_refused rs)

abbrev pub advert_count : List Reply → ℕ
advert_count rs = sum_by (λ (r : Reply). length r.adverts) rs

abbrev pub frame_count : List Reply → ℕ
frame_count rs = sum_by (λ (r : Reply). length r.frames) rs

-- a count stands still at the last value of 64 bits
abbrev pub up_to_last : ℕ → ℕ
up_to_last n = min n (2 ^ 64 - 1)

-- what is counted of replies
abbrev pub tally_of : List Reply → Tally
tally_of rs = record { ok = up_to_last (accepted_count rs); refused = up_to_last (refused_count rs); adverts = up_to_last (advert_count rs); frames = up_to_last (frame_count rs) }

-- the live tags of a state
abbrev pub live_count : State → ℕ
live_count s = length (filter (is_live s) (tags s))

-- ---- the summary

-- a word and a number
abbrev pub summary_line : List ℕ → ℕ → List ℕ
summary_line word n = word ++ codes " " ++ decimal n ++ end_line

-- so many lines, what was counted, and tags and rules
abbrev pub tally_text : ℕ → Tally → ℕ → ℕ → List ℕ
tally_text lines tally live rules =
    summary_line (codes "lines") lines ++ summary_line (codes "ok") tally.ok ++ summary_line (codes "refused") tally.refused
    ++ summary_line (codes "adverts") tally.adverts ++ summary_line (codes "frames") tally.frames
    ++ summary_line (codes "tags") live ++ summary_line (codes "rules") rules

-- the summary of the replies to so many lines that leave this state
abbrev pub summary : ℕ → List Reply → State → List ℕ
summary lines rs s = tally_text lines (tally_of rs) (live_count s) (rule_count s)

-- ---- runs

-- The first lines of the seed were run: with these replies, which are counted, in no more steps than these lines may take.
pub record Loaded (seed lines : ℕ) (tally : Tally) (s : State) (before after : ℕ) : Type 0 where
  pub replies : List Reply
  pub legal : Legal (load_events seed lines) replies
  pub counted : tally ≡ tally_of replies
  pub state : s ≡ state_after (load_events seed lines) replies
  pub steps : after ≤ before + run_bound first (load_events seed lines) replies

-- some legal replies to the lines, which may take so many steps
pub record Loads (seed lines before after : ℕ) : Type 0 where
  pub replies : List Reply
  pub legal : Legal (load_events seed lines) replies
  pub steps : after ≤ before + run_bound first (load_events seed lines) replies

-- What is written is the summary of legal replies to the lines, the state is the one to which they fold, and no more steps
-- were taken than these lines may take.
pub record Summarizes (seed lines : ℕ) (w : List ℕ) (s : State) (refused : Bool) (before after : ℕ) : Type 0 where
  pub replies : List Reply
  pub legal : Legal (load_events seed lines) replies
  pub written : w ≡ summary lines replies (state_after (load_events seed lines) replies)
  pub state : s ≡ state_after (load_events seed lines) replies
  pub refused_is : refused ≡ list_any is_refused replies
  pub steps : after ≤ before + run_bound first (load_events seed lines) replies

-- What is written begins such a summary.
pub record BeginsSummary (seed lines : ℕ) (w : List ℕ) (before after : ℕ) : Type 0 where
  pub replies : List Reply
  pub rest : List ℕ
  pub legal : Legal (load_events seed lines) replies
  pub written : summary lines replies (state_after (load_events seed lines) replies) ≡ w ++ rest
  pub steps : after ≤ before + run_bound first (load_events seed lines) replies

-- the lines that declare the exchange, its participants and their ports
abbrev pub declared_lines : ℕ
declared_lines = 17

-- what is written of a run over so many lines, by its status
abbrev pub LoadedBy : Status → (seed lines : ℕ) → (w : List ℕ) → State → (before after : ℕ) → Type 0
LoadedBy Done seed lines w s before after = Summarizes seed lines w s false before after
LoadedBy Refused seed lines w s before after = Summarizes seed lines w s true before after
LoadedBy WriteFault seed lines w s before after = BeginsSummary seed lines w before after
LoadedBy Memory seed lines w s before after = BeginsSummary seed lines w before after
LoadedBy Usage seed lines w s before after = ⊥
LoadedBy ReadFault seed lines w s before after = ⊥
LoadedBy TooLong seed lines w s before after = ⊥

-- The declarations and so many drawn lines were run, and some octets were written, as the status says; where the sink tells
-- its octets, they are these.
abbrev pub HasLoaded : Status → (seed count : ℕ) → (held held_after : Option (List ℕ)) → State → (before after : ℕ) → Type 0
HasLoaded status seed count held held_after s before after =
    (w : List ℕ) × Appends held held_after w × LoadedBy status seed (declared_lines + count) w s before after

-- one more where the test holds
abbrev pub one_if : Bool → ℕ
one_if b = if b then 1 else 0

-- a tally with one reply more
abbrev pub counted_with : Tally → Reply → Tally
counted_with t r = record {
  ok = up_to_last (t.ok + one_if (not (is_refused r)));
  refused = up_to_last (t.refused + one_if (is_refused r));
  adverts = up_to_last (t.adverts + length r.adverts);
  frames = up_to_last (t.frames + length r.frames);
}

-- what a line with this event adds to a tally, and what it leaves
abbrev pub CountsEvent : Option Event → State → Tally → Tally → State → Type 0
CountsEvent None s old new t = (new ≡ old) × (t ≡ s)
CountsEvent (Some e) s old new t = (r : Reply) × IsStep s e r t × (new ≡ counted_with old r)
