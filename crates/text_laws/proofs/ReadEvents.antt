-- Each event that octets are read as is such as lines give; so what is written for them names the replies.
use Rattle.std.proofs.Common.{◌≡◌, ℕ, ◌+◌, Bool, true, false, cond, nat_lt, length, List, [], ◌∷◌, inl, inr, refl, sym, subst}
use Rattle.std.specs.Prelude.{Option, Some, None}
use Rattle.events.specs.Forms.{IsWellFormed}
use Rattle.events.specs.Lines.{Numbered, bare_events, event_of, event_of_line, events_of, is_skipped, lines_of, numbered, numbered_event}
use Rattle.events.specs.declared.Event.{Event}
use Rattle.events.specs.declared.Event.TheVariants.{Bad}
use Rattle.net_types.specs.Sets.{Member}
use Rattle.replay_text.proofs.Formed.{line_formed}
use Rattle.text_laws.specs.Naming.{OutputsNameReplies, ReadEventsAreWellFormed}
use Rattle.text_laws.proofs.LegalReplies.{texts_name_replies}

-- each event is such as lines give
abbrev AllFormed : List Numbered → Type 0
AllFormed ns = (e : Event) → Member e (bare_events ns) → IsWellFormed e

with_event : (k : ℕ) (o : Option Event) (ns : List Numbered) → ((e : Event) → o ≡ Some e → IsWellFormed e) → AllFormed ns → AllFormed (numbered_event k o ns)
with_event k None ns formed rest e m = rest e m
with_event k (Some x) ns formed rest e (inl is) = subst IsWellFormed (sym is) (formed x refl)
with_event k (Some x) ns formed rest e (inr m) = rest e m

some_event : (x y : Event) → Some x ≡ Some y → x ≡ y
some_event x y e = cc

event_formed : (line : List ℕ) (e : Event) → event_of line ≡ Some e → IsWellFormed e
event_formed line e is = long (nat_lt 20000 (length line)) (is_skipped line) is
  where
    skipped : (b : Bool) → cond b None (Some (event_of_line line)) ≡ Some e → IsWellFormed e
    skipped true is = absurd (cc)
    skipped false is = subst IsWellFormed (some_event (event_of_line line) e is) (line_formed line)

    long : (b c : Bool) → cond b (Some Bad) (cond c None (Some (event_of_line line))) ≡ Some e → IsWellFormed e
    long true c is = subst IsWellFormed (some_event Bad e is) tt
    long false c is = skipped c is

lines_formed : (k : ℕ) (lines : List (List ℕ)) → AllFormed (numbered k lines)
lines_formed k [] e m = elim m [ ]
lines_formed k (line ∷ lines) e m = with_event k (event_of line) (numbered (k + 1) lines) (event_formed line) (lines_formed (k + 1) lines) e m

pub read_events_are_well_formed : ReadEventsAreWellFormed
read_events_are_well_formed octets e m = lines_formed 1 (lines_of octets) e m

pub outputs_name_replies : OutputsNameReplies
outputs_name_replies octets rs qs legal also here same = texts_name_replies (events_of octets) rs qs (read_events_are_well_formed octets) legal also here same
