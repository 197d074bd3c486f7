-- Which fields a predicate tests, and what it sees of an assignment.
use Rattle.std.specs.Prelude.{◌≡◌, Bool, true, false, ◌||◌, Option, None}
use Rattle.net_types.specs.declared.cube.Cube.{Cube}
use Rattle.net_types.specs.declared.headers.Assign.{Assign}
use Rattle.net_types.specs.Policies.{Test, Inport, Src, Dst, Proto, Sport, Dport, Pred, Yes, Is, Not, And, Or}
use Rattle.policy_compile.specs.declared.seen.Fields.{Fields}
use Rattle.policy_compile.specs.Paths.{pred_at}

-- ---- fields

-- no field
abbrev pub no_fields : Fields
no_fields = record { src = false; dst = false; sport = false; dport = false }

-- the fields of both
abbrev pub both_fields : Fields → Fields → Fields
both_fields a b = record { src = a.src || b.src; dst = a.dst || b.dst; sport = a.sport || b.sport; dport = a.dport || b.dport }

-- the field that a test is of, where it can be set
abbrev pub field_tested : Test → Fields
field_tested (Inport port) = no_fields
field_tested (Src prefix) = record { src = true; dst = false; sport = false; dport = false }
field_tested (Dst prefix) = record { src = false; dst = true; sport = false; dport = false }
field_tested (Proto proto) = no_fields
field_tested (Sport port) = record { src = false; dst = false; sport = true; dport = false }
field_tested (Dport port) = record { src = false; dst = false; sport = false; dport = true }

-- the fields that the tests of a predicate are of
abbrev pub tested : Pred → Fields
tested Yes = no_fields
tested (Is test span) = field_tested test
tested (Not p) = tested p
tested (And p q) = both_fields (tested p) (tested q)
tested (Or p q) = both_fields (tested p) (tested q)

-- ---- assignments

-- what a field is set to, where it counts
abbrev pub kept : {A : Type 0} → Bool → Option A → Option A
kept true value = value
kept false value = None

-- what an assignment sets of the fields
abbrev pub seen : Fields → Assign → Assign
seen fields set = record {
  src = kept fields.src set.src;
  dst = kept fields.dst set.dst;
  sport = kept fields.sport set.sport;
  dport = kept fields.dport set.dport;
}

-- in which cubes a predicate holds behind an assignment depends only on what that sets of the fields
abbrev pub Decide : Fields → Pred → Type 0
Decide fields p = (m : Cube) (set : Assign) → pred_at m (seen fields set) p ≡ pred_at m set p
