-- Changes that a line asks for.
use Rattle.std.specs.Prelude.{◌≡◌, nat_eq, List, map, Option, if◌then◌else◌}
use Rattle.std.specs.FinMap.{FinMap, get}
use Rattle.net_types.specs.Keys.{route_cmp}
use Rattle.net_types.specs.declared.address.Pid.{Pid}
use Rattle.net_types.specs.declared.prefix.Prefix.{Prefix}
use Rattle.net_types.specs.declared.route.Attrs.{Attrs}
use Rattle.route_server.specs.Rows.{look}
use Rattle.route_server.specs.declared.change.Change.{Change}

-- the prefixes of changes
abbrev pub prefixes_of : List Change → List Prefix
prefixes_of cs = map (λ (c : Change). c.prefix) cs

-- a change has the routes for its prefix, but for one participant's, which is another or none
pub record IsEdit (m : FinMap route_cmp Attrs) (from : Pid) (o : Option Attrs) (c : Change) : Type 0 where
  pub looks : (f : Pid) → look c.row f.0 ≡ (if nat_eq from.0 f.0 then o else get m (record { from = f; prefix = c.prefix }))

-- a change has the routes for its prefix
pub record IsKept (m : FinMap route_cmp Attrs) (c : Change) : Type 0 where
  pub looks : (f : Pid) → get m (record { from = f; prefix = c.prefix }) ≡ look c.row f.0
