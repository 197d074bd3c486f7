-- The lists that the loops over sets make: values put last, each once.
pub use Rattle.cells.specs.Adds.{adds}
use Rattle.std.specs.Prelude.{◌≡◌, ℕ, ◌<◌, ◌≤◌, nat_eq, Bool, ◌&&◌, List, length, map}
use Rattle.std.specs.Option.{option_eq}
use Rattle.net_types.specs.declared.headers.Assign.{Assign}
use Rattle.net_types.specs.Headers.{followed_by}
use Rattle.policy_compile.specs.declared.fields.Fields.{Fields}
use Rattle.net_types.specs.Sets.{union_over}
use Rattle.net_types.specs.Attributes.{same_ip}

-- the assignment of these fields
abbrev pub assign_of : Fields → Assign
assign_of f = record { src = f.src; dst = f.dst; sport = f.sport; dport = f.dport }

-- the fields of an assignment
abbrev pub fields_of : Assign → Fields
fields_of a = record { src = a.src; dst = a.dst; sport = a.sport; dport = a.dport }

-- the assignments of a list of fields
abbrev pub assigns_of : List Fields → List Assign
assigns_of fs = map assign_of fs

-- the fields are equal, one by one
abbrev pub same_fields : Fields → Fields → Bool
same_fields a b = option_eq same_ip a.src b.src && (option_eq same_ip a.dst b.dst && (option_eq nat_eq a.sport b.sport && option_eq nat_eq a.dport b.dport))

-- one assignment and then another, as fields
abbrev pub after : Fields → Fields → Fields
after first next = fields_of (followed_by (assign_of first) (assign_of next))

-- each of the first assignments followed by each of the second
abbrev pub followed : List Fields → List Fields → List Fields
followed firsts nexts = union_over (λ first. map (after first) nexts) firsts

-- the list is all of them, or a part that is longer than a limit
pub record IsUpTo {A : Type 0} (limit : ℕ) (kept all : List A) : Type 0 where
  pub no_longer : length kept ≤ length all
  pub whole : length kept ≤ limit → kept ≡ all

-- a number counted as far as a limit
pub record IsCount (limit all count : ℕ) : Type 0 where
  pub few : all ≤ limit → count ≡ all
  pub many : limit < all → limit < count
