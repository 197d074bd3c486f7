-- Entries whose values lapse as they change.
use Rattle.std.specs.Prelude.{Bool, List, Option, None, Some, option_map, if◌then◌else◌}
use Rattle.std.specs.declared.cmp.Ordering.{Ordering}
use Rattle.std.specs.FinMap.Entries.{find, put}
use Rattle.ordered_map.specs.Entries.{without}

-- a value that hasn't lapsed
abbrev pub lasting : {V : Type 0} → (V → Bool) → Option V → Option V
lasting lapsed None = None
lasting lapsed (Some v) = if lapsed v then None else Some v

-- a value that has
abbrev pub lapsing : {V : Type 0} → (V → Bool) → Option V → Option V
lapsing lapsed None = None
lapsing lapsed (Some v) = if lapsed v then Some v else None

-- the entries with this value for a key, or without one
abbrev pub with_value : {K V : Type 0} → (K → K → Ordering) → K → Option V → List (K × V) → List (K × V)
with_value R q None es = without R q es
with_value R q (Some v) es = put R q v es

-- the value of this key changed, where it has one, and the key without one where that has lapsed
abbrev pub changed_or_without : {K V : Type 0} → (K → K → Ordering) → K → (V → V) → (V → Bool) → List (K × V) → List (K × V)
changed_or_without R q f lapsed es = with_value R q (lasting lapsed (option_map f (find R q es))) es
