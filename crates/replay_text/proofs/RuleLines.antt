-- The lines of rules, one after the other.
use Rattle.std.proofs.Common.{◌≡◌, ℕ, ◌+◌, ◌<◌, List, ◌++◌, length, flat_map, get_or, sym, ap, ◌∙◌, append_assoc, length-append, arith}
use Rattle.std.proofs.lemmas.List.{drop_more}
use Rattle.events.specs.Text.{rule_line}
use Rattle.events.specs.declared.Event.{Event}
use Rattle.events.specs.declared.Event.TheVariants.{Bad, Exchange, Participant, Port, Update, Down, Export, Outbound, Inbound, Take, Drain, Arp, Resolve, Packet, Frame, Recompile, Work, Table}
use Rattle.events.specs.declared.Flow.{Flow}
use Rattle.replay_text.specs.ReplyTexts.{rules_from}

-- the line of a rule has some octets
some_line : (e : Event) (f : Flow) → 0 < length (rule_line e f)
some_line Bad f = omega arith
some_line (Exchange base size capacity) f = omega arith
some_line (Participant name asn id) f = omega arith
some_line (Port name number ip mac) f = omega arith
some_line (Update name bytes) f = omega arith
some_line (Down name) f = omega arith
some_line (Export name text) f = omega arith
some_line (Outbound name text) f = omega arith
some_line (Inbound name text) f = omega arith
some_line (Take name count) f = omega arith
some_line (Drain name) f = omega arith
some_line (Arp port bytes) f = omega arith
some_line (Resolve port) f = omega arith
some_line (Packet port bytes) f = omega arith
some_line (Frame port bytes) f = omega arith
some_line Recompile f = omega arith
some_line (Work units) f = omega arith
some_line Table f = omega arith

-- one more line is written
module _ (e : Event) (flows : List Flow) (place : ℕ) (d : Flow) (within : place < length flows) (before after : List ℕ) (written : after ≡ before ++ rule_line e (get_or flows place d)) where
  pub one_more : after ++ rules_from e flows (place + 1) ≡ before ++ rules_from e flows place
  one_more =
      ap (λ l. l ++ rules_from e flows (place + 1)) written ∙ append_assoc before (rule_line e (get_or flows place d)) (rules_from e flows (place + 1))
      ∙ ap (λ l. before ++ l) (sym (ap (flat_map (rule_line e)) (drop_more flows place d within)))

  pub longer : length before < length after
  longer =
      let more = some_line e (get_or flows place d) in
      omega (arith, more, ap length written, length-append before (rule_line e (get_or flows place d)))
