-- What a view is seen as: the rules of a sender and those of its receivers.
use Rattle.std.specs.Prelude.{◌≡◌, nat_eq, Bool, true, List, [], find, Option, is_some}
use Rattle.std.specs.List.{list_all}
use Rattle.std.specs.Option.{option_map_or}
use Rattle.classifier.specs.Classifiers.{lines_of}
use Rattle.classifier.specs.Meaning.{ends_with_everything}
use Rattle.classifier.specs.declared.line.Line.{Line}
use Rattle.net_types.specs.Sets.{Member}
use Rattle.net_types.specs.declared.address.Pid.{Pid}
use Rattle.net_types.specs.declared.route.Offer.{Offer}
use Rattle.block_build.specs.declared.view.Inbound.{Inbound}

-- the rules of the sender's outbound classifier, and those of participants' inbound ones, in the order in which they came
pub record Viewed : Type 0 where
  pub outbound : List Line
  pub inbound : List (Pid × List Line)

-- a participant with the rules of its classifier
abbrev pub entry : Inbound → Pid × List Line
entry i = (i.who, lines_of i.classifier.now)

-- the first entry of a participant
abbrev pub entry_of : List (Pid × List Line) → Pid → Option (Pid × List Line)
entry_of entries who = find (λ (e : Pid × List Line). nat_eq e.0.0 who.0) entries

-- the rules of a participant as a receiver: those of its first entry, none where it has no entry
abbrev pub rules_in : List (Pid × List Line) → Pid → List Line
rules_in entries who = option_map_or (λ (e : Pid × List Line). e.1) (entry_of entries who) []

-- the rules of a participant as a receiver
abbrev pub inbound_of : Viewed → Pid → List Line
inbound_of v who = rules_in v.inbound who

-- each participant in the offers has an entry
abbrev pub has_all : Viewed → List Offer → Bool
has_all v offers = list_all (λ (o : Offer). is_some (entry_of v.inbound o.exporter)) offers

-- each of the lists of rules gives something to all headers
pub record IsTotal (v : Viewed) : Type 0 where
  pub outbound : ends_with_everything v.outbound ≡ true
  pub inbound : (e : Pid × List Line) → Member e v.inbound → ends_with_everything e.1 ≡ true
