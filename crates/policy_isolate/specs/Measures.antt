-- How many nodes a policy has.
use Rattle.std.specs.Prelude.{ℕ, ◌+◌}
use Rattle.net_types.specs.Policies.{Policy, Drop, Pass, Block, Fwd, Match, Set, Both, Then}

-- the whole and each part count
abbrev pub nodes_of : Policy → ℕ
nodes_of Drop = 1
nodes_of Pass = 1
nodes_of Block = 1
nodes_of (Fwd target span) = 1
nodes_of (Match p) = 1
nodes_of (Set set span) = 1
nodes_of (Both p q) = nodes_of p + nodes_of q + 1
nodes_of (Then p q) = nodes_of p + nodes_of q + 1
