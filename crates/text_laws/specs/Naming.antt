-- The octets that are written name the replies (this exchange's own rule).
use Rattle.std.specs.Prelude.{◌≡◌, ℕ, List, [], ◌∷◌, None}
use Rattle.net_types.specs.Answers.{Policies}
use Rattle.net_types.specs.Sets.{Each, Member}
use Rattle.net_types.specs.declared.address.PortNo.{PortNo}
use Rattle.net_types.specs.declared.cube.Cube.{Cube}
use Rattle.net_types.specs.declared.route.Part.{Part}
use Rattle.net_types.specs.declared.rule.Rule.{Rule}
use Rattle.events.specs.Forms.{IsWellFormed}
use Rattle.events.specs.Legal.{Legal}
use Rattle.events.specs.Lines.{Numbered, bare_events, events_of}
use Rattle.events.specs.Sound.{IsRight}
use Rattle.events.specs.State.{State, ArePassed}
use Rattle.events.specs.Text.{text}
use Rattle.events.specs.declared.Event.{Event}
use Rattle.events.specs.declared.Flow.{Flow}
use Rattle.events.specs.declared.Reply.{Reply}
use Rattle.text_laws.specs.Widths.{HasActionWidths, HasWidths}

-- a reply for each line
abbrev pub HasAsMany : List Numbered → List Reply → Type 0
HasAsMany [] [] = Unit {0}
HasAsMany (n ∷ ns) (r ∷ rs) = HasAsMany ns rs
HasAsMany [] (r ∷ rs) = ⊥
HasAsMany (n ∷ ns) [] = ⊥

-- a cube without an inport
abbrev pub IsOfNoPort : Cube → Type 0
IsOfNoPort c = c.inport ≡ None

-- no rule of a reply has a cube with an inport
abbrev pub AddsNoPort : Reply → Type 0
AddsNoPort r = Each (λ (f : Flow). IsOfNoPort f.rule.cube) r.adds

-- a reply can be written where its numbers have these widths, and no rule has an inport
pub record IsWritable (r : Reply) : Type 0 where
  pub widths : HasWidths r
  pub of_no_port : AddsNoPort r

-- For given lines, replies of which each can be written are the same as any others with their text of whose rules none has an
-- inport.
abbrev pub WritableTextsNameReplies : Type 0
WritableTextsNameReplies =
    (ns : List Numbered) (rs qs : List Reply) → HasAsMany ns rs → HasAsMany ns qs → Each IsWritable rs → Each AddsNoPort qs → text ns rs ≡ text ns qs → rs ≡ qs

-- So the text of legal replies to lines that can be written is that of no other legal replies. Asked is only that of the one list
-- the numbers of the rules' actions have at most 63 digits, and the addresses 32 bits: they are free where a rule never acts,
-- since its cube lies within earlier ones.
abbrev pub TextsNameReplies : Type 0
TextsNameReplies =
    (ns : List Numbered) (rs qs : List Reply) → ((e : Event) → Member e (bare_events ns) → IsWellFormed e) → Legal (bare_events ns) rs → Legal (bare_events ns) qs → Each HasActionWidths rs
    → text ns rs ≡ text ns qs → rs ≡ qs

-- the events of the lines of any octets are such as lines give
abbrev pub ReadEventsAreWellFormed : Type 0
ReadEventsAreWellFormed = (octets : List ℕ) (e : Event) → Member e (bare_events (events_of octets)) → IsWellFormed e

-- so, of any octets, what is written for their lines names the replies to them
abbrev pub OutputsNameReplies : Type 0
OutputsNameReplies =
    (octets : List ℕ) (rs qs : List Reply) → Legal (bare_events (events_of octets)) rs → Legal (bare_events (events_of octets)) qs → Each HasActionWidths rs → text (events_of octets) rs ≡ text (events_of octets) qs → rs ≡ qs

-- where the policies passed isolation, the cubes of right rules are of no port
abbrev pub RightRulesAreOfNoPort : Type 0
RightRulesAreOfNoPort =
    (s : State) (ps : Policies) → ArePassed s ps → (part : Part) (port : PortNo) (rules : List Rule) → IsRight ps part port rules → Each (λ (r : Rule). IsOfNoPort r.cube) rules

-- so no rule of a legal reply has a cube with an inport
abbrev pub LegalRulesAreOfNoPort : Type 0
LegalRulesAreOfNoPort = (es : List Event) (rs : List Reply) → Legal es rs → Each AddsNoPort rs
