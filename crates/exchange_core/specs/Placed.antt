-- Which lines are in place, and which addresses are the pool's.
use Rattle.std.specs.Prelude.{ℕ, ◌+◌, ◌&&◌, nat_le, nat_lt, Bool, true, false}
use Rattle.events.specs.declared.Phase.{Phase}
use Rattle.events.specs.declared.Phase.TheVariants.{Start, Declaring, Running}
use Rattle.net_types.specs.declared.address.Ip.{Ip}

-- the pool and the table are declared
abbrev pub is_declared : Phase → Bool
is_declared Start = false
is_declared Declaring = true
is_declared Running = true

-- an address is above the base, by at most the pool's size
abbrev pub lies_in : Ip → ℕ → Ip → Bool
lies_in base size ip = nat_lt base.0 ip.0 && nat_le ip.0 (base.0 + size)
