-- Why a line isn't carried out: a refusal that fits it, or want of memory (this exchange's own rule).
use Rattle.std.specs.Prelude.{◌≡◌, Option, Some, None, Result, Ok, Err}
use Rattle.bgp_update.specs.declared.fault.UpdateFault.{UpdateFault}
use Rattle.bgp_update.specs.declared.fault.UpdateFault.TheVariants as updates
use Rattle.events.specs.Fits.{Fits, bare}
use Rattle.events.specs.State.{State}
use Rattle.events.specs.declared.Event.{Event}
use Rattle.events.specs.declared.Head.TheVariants as heads
use Rattle.events.specs.declared.Refusal.{Refusal}
use Rattle.events.specs.declared.Refusal.TheVariants.{BadUpdate, FirstAs, Isolate, NextHop, NoNextHop, Oversize, Syntax, TableFull, TextLong, TooDeep, Unknown}
use Rattle.export_rules.specs.declared.fault.BindFault.{BindFault}
use Rattle.export_rules.specs.declared.fault.BindFault.TheVariants as binding
use Rattle.export_rules.specs.declared.fault.RulesFault.{RulesFault}
use Rattle.export_rules.specs.declared.fault.RulesFault.TheVariants as rules
use Rattle.fast_path.specs.declared.planned.FastFault.{FastFault}
use Rattle.fast_path.specs.declared.planned.FastFault.TheVariants as fast
use Rattle.net_types.specs.declared.isolation.IsolateFault.{IsolateFault}
use Rattle.policy_syntax.specs.declared.fault.SyntaxFault.{SyntaxFault}
use Rattle.policy_syntax.specs.declared.fault.SyntaxFault.TheVariants as syntax
use Rattle.route_server.specs.declared.fault.RouteFault.{RouteFault}
use Rattle.route_server.specs.declared.fault.RouteFault.TheVariants as routes
use Rattle.exchange_core.specs.declared.stop.Stop.{Stop}
use Rattle.exchange_core.specs.declared.stop.Stop.TheVariants.{Refused, Memory}

-- where the line is refused, that fits it
abbrev pub IsStop : State → Event → Stop → Type 0
IsStop s e (Refused why) = Fits s e (bare (heads.Refused why))
IsStop s e Memory = Unit {0}

-- the first refusal is this one, where memory didn't run out
abbrev pub IsFirst : Option Refusal → Stop → Type 0
IsFirst first (Refused why) = first ≡ Some why
IsFirst first Memory = Unit {0}

-- a result is this one, unless memory ran out
abbrev pub Gives : {X : Type 0} → Result X Refusal → Result X Stop → Type 0
Gives want (Ok x) = want ≡ Ok x
Gives want (Err (Refused why)) = want ≡ Err why
Gives want (Err Memory) = Unit {0}

-- what is found is declared, or it is unknown
abbrev pub IsKnown : {X : Type 0} → Option X → Result X Stop → Type 0
IsKnown found (Ok x) = found ≡ Some x
IsKnown found (Err stop) = (found ≡ None) × (stop ≡ Refused Unknown)

-- the octets are no UPDATE
abbrev pub update_stop : UpdateFault → Stop
update_stop (updates.Bad fault) = Refused (BadUpdate fault)
update_stop updates.Memory = Memory

-- the UPDATE is none that the participant may send
abbrev pub route_stop : RouteFault → Stop
route_stop routes.FirstAs = Refused FirstAs
route_stop routes.NextHop = Refused NextHop
route_stop routes.Oversize = Refused Oversize
route_stop routes.Memory = Memory

-- the text is no rules
abbrev pub rules_stop : RulesFault → Stop
rules_stop rules.TextLong = Refused TextLong
rules_stop (rules.Syntax at) = Refused (Syntax at)
rules_stop rules.Memory = Memory

-- a name in the rules isn't declared
abbrev pub bind_stop : BindFault → Stop
bind_stop binding.UnknownName = Refused Unknown
bind_stop binding.Memory = Memory

-- the text is no policy
abbrev pub syntax_stop : SyntaxFault → Stop
syntax_stop syntax.TextLong = Refused TextLong
syntax_stop (syntax.Syntax at) = Refused (Syntax at)
syntax_stop (syntax.TooDeep at) = Refused (TooDeep at)
syntax_stop syntax.Memory = Memory

-- the policy breaks isolation
abbrev pub isolate_stop : IsolateFault → Stop
isolate_stop fault = Refused (Isolate fault.kind fault.span.start fault.span.end)

-- there are too few tags, or there is too little room
abbrev pub fast_stop : FastFault → Stop
fast_stop (fast.NoNextHop need free) = Refused (NoNextHop need free)
fast_stop (fast.TableFull rules capacity) = Refused (TableFull rules capacity)
fast_stop fast.Memory = Memory
