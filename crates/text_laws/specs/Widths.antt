-- Which numbers replies have (this exchange's own rule).
use Rattle.std.specs.Prelude.{ℕ, ◌^◌, ◌<◌, IfSome}
use Rattle.net_types.specs.declared.address.Ip.{Ip}
use Rattle.net_types.specs.declared.address.Tag.{Tag}
use Rattle.net_types.specs.declared.actions.Action.{Action}
use Rattle.net_types.specs.declared.cube.Cube.{Cube}
use Rattle.net_types.specs.declared.rule.Pair.{Pair}
use Rattle.net_types.specs.declared.rule.Rule.{Rule}
use Rattle.events.specs.declared.Flow.{Flow}
use Rattle.events.specs.declared.Frame.{Frame}
use Rattle.events.specs.declared.Head.{Head}
use Rattle.events.specs.declared.Head.TheVariants.{Fine, Working, Finished, Unrouted, Unresolved, Silent, Refused}
use Rattle.events.specs.declared.Refusal.{Refusal}
use Rattle.events.specs.declared.Refusal.TheVariants.{BadLine, Misplaced, Unknown, Clash, Full, BadUpdate, FirstAs, NextHop, Oversize, TextLong, Syntax, TooDeep, Isolate, TooWide, NoNextHop, TableFull, BadPacket}
use Rattle.events.specs.declared.Reply.{Reply}
use Rattle.events.specs.declared.TagChange.{TagChange}
use Rattle.net_types.specs.Sets.{Each}

-- A number of at most 63 digits. Of one with more than 64 the last 64 alone are written, as of one that has 64.
abbrev pub IsNumber : ℕ → Type 0
IsNumber n = n < 10 ^ 63

-- an address has 32 bits
abbrev pub IsAddress : Ip → Type 0
IsAddress ip = ip.0 < 2 ^ 32

-- a port and a tag
pub record IsPair (q : Pair) : Type 0 where
  pub port : IsNumber q.port.0
  pub tag : IsNumber q.tag.0

-- an assignment's addresses and ports
pub record IsAction (a : Action) : Type 0 where
  pub port : IsNumber a.port.0
  pub src : IfSome a.set.src IsAddress
  pub dst : IfSome a.set.dst IsAddress
  pub sport : IfSome a.set.sport IsNumber
  pub dport : IfSome a.set.dport IsNumber

-- the numbers of a cube; its prefixes have their own bounds
pub record IsCube (c : Cube) : Type 0 where
  pub proto : IfSome c.proto IsNumber
  pub sport : IfSome c.sport IsNumber
  pub dport : IfSome c.dport IsNumber

-- a rule's cube and actions
pub record IsRule (r : Rule) : Type 0 where
  pub cube : IsCube r.cube
  pub actions : Each IsAction r.actions

pub record IsFlow (f : Flow) : Type 0 where
  pub pair : IsPair f.pair
  pub rule : IsRule f.rule

pub record IsTagChange (t : TagChange) : Type 0 where
  pub tag : IfSome t.tag (λ (x : Tag). IsNumber x.0)

pub record IsFrame (f : Frame) : Type 0 where
  pub port : IsNumber f.port.0

-- the numbers of a refusal
abbrev pub IsRefusal : Refusal → Type 0
IsRefusal BadLine = Unit {0}
IsRefusal Misplaced = Unit {0}
IsRefusal Unknown = Unit {0}
IsRefusal Clash = Unit {0}
IsRefusal Full = Unit {0}
IsRefusal (BadUpdate fault) = Unit {0}
IsRefusal FirstAs = Unit {0}
IsRefusal NextHop = Unit {0}
IsRefusal Oversize = Unit {0}
IsRefusal TextLong = Unit {0}
IsRefusal (Syntax at) = IsNumber at
IsRefusal (TooDeep at) = IsNumber at
IsRefusal (Isolate kind start end) = IsNumber start × IsNumber end
IsRefusal TooWide = Unit {0}
IsRefusal (NoNextHop need free) = IsNumber need × IsNumber free
IsRefusal (TableFull rules capacity) = IsNumber rules × IsNumber capacity
IsRefusal BadPacket = Unit {0}

-- the numbers of a head
abbrev pub IsHead : Head → Type 0
IsHead Fine = Unit {0}
IsHead (Working units) = IsNumber units
IsHead Finished = Unit {0}
IsHead Unrouted = Unit {0}
IsHead (Unresolved ip) = IsAddress ip
IsHead Silent = Unit {0}
IsHead (Refused why) = IsRefusal why

-- the numbers of a reply; of its octets nothing is asked
pub record HasWidths (r : Reply) : Type 0 where
  pub head : IsHead r.head
  pub tags : Each IsTagChange r.tags
  pub drops : Each IsPair r.drops
  pub adds : Each IsFlow r.adds
  pub frames : Each IsFrame r.frames

-- the numbers of the actions of a reply's rules
abbrev pub HasActionWidths : Reply → Type 0
HasActionWidths r = Each (λ (f : Flow). Each IsAction f.rule.actions) r.adds
