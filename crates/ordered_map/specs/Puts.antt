-- What becomes of entries among which a key is put, as long as there is room for it.
use Rattle.std.specs.Prelude.{◌≡◌, Option, None, Some, List, is_some}
use Rattle.std.specs.declared.cmp.Ordering.{Ordering}
use Rattle.std.specs.FinMap.Entries.{find}
use Rattle.ordered_map.specs.Changes.{changed_or_given}
use Rattle.ordered_map.specs.Entries.{put_given}

-- a new key that found no room comes back, with what was to be its value, and the entries are as they were
abbrev pub HasNoRoom : {K V : Type 0} → (K → K → Ordering) → K → Option V → List (K × V) → K → Option V → List (K × V) → Type 0
HasNoRoom R q given es key back fs = (key ≡ q) × (back ≡ given) × (fs ≡ es) × (find R q es ≡ None)

-- else it has its value, and the one before is handed out
abbrev pub IsPut : {K V : Type 0} → (K → K → Ordering) → K → Option V → List (K × V) → Option K → Option V → List (K × V) → Type 0
IsPut R q given es None back fs = (back ≡ find R q es) × (fs ≡ put_given R q given es)
IsPut R q given es (Some key) back fs = HasNoRoom R q given es key back fs

-- else its value has changed, or it has the one that was handed in, which is used up
abbrev pub IsChangedOrPut : {K V : Type 0} → (K → K → Ordering) → K → (V → V) → Option V → List (K × V) → Option K → Option V → List (K × V) → Type 0
IsChangedOrPut R q f given es None back fs = (is_some back ≡ is_some (find R q es)) × (fs ≡ changed_or_given R q f given es)
IsChangedOrPut R q f given es (Some key) back fs = HasNoRoom R q given es key back fs
