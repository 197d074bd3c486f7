-- Entries whose values change where they stand.
use Rattle.std.specs.Prelude.{List, Option, map, option_map, unwrap_or, if◌then◌else◌}
use Rattle.std.specs.FinMap.Entries.{find, put}
use Rattle.std.specs.Option.{option_or}
use Rattle.std.specs.Ordering.{eq_by_cmp}
use Rattle.std.specs.declared.cmp.Ordering.{Ordering}
use Rattle.ordered_map.specs.Entries.{put_given}

-- the same keys, each with its new value
abbrev pub with_values : {K V : Type 0} → (K → V → V) → List (K × V) → List (K × V)
with_values f es = map (λ e. (e.0, f e.0 e.1)) es

-- the value of this key changed
abbrev pub changed_at : {K V : Type 0} → (K → K → Ordering) → K → (V → V) → List (K × V) → List (K × V)
changed_at R q f es = with_values (λ k v. if eq_by_cmp R q k then f v else v) es

-- each value changed
abbrev pub changed_all : {K V : Type 0} → (V → V) → List (K × V) → List (K × V)
changed_all f es = with_values (λ k v. f v) es

-- the value of this key changed, or this one given to it where it has none
abbrev pub changed_or_put : {K V : Type 0} → (K → K → Ordering) → K → (V → V) → V → List (K × V) → List (K × V)
changed_or_put R q f v es = put R q (unwrap_or (option_map f (find R q es)) v) es

-- the same, where one is handed in
abbrev pub changed_or_given : {K V : Type 0} → (K → K → Ordering) → K → (V → V) → Option V → List (K × V) → List (K × V)
changed_or_given R q f given es = put_given R q (option_or (option_map f (find R q es)) given) es
