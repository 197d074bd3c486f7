-- Paths of AS numbers, and how AS_PATH and AS4_PATH are put together (RFC 6793 4.2.3; which part of AS_PATH is taken, and
-- when two segments become one, is this exchange's own rule).
use Rattle.std.specs.Prelude.{ℕ, ◌+◌, ◌-◌, nat_le, nat_lt, Bool, List, [], ◌∷◌, ◌++◌, length, take, Option, Some, None, sum_by, if◌then◌else◌}
use Rattle.std.specs.List.{list_any}
use Rattle.net_types.specs.declared.route.Segment.{Segment}
use Rattle.net_types.specs.declared.route.Segment.TheVariants.{Set, Sequence}

-- the AS numbers of a segment
abbrev pub asns : Segment → List ℕ
asns (Set ns) = ns
asns (Sequence ns) = ns

-- a set of AS numbers counts one as a whole (RFC 4271 9.1.2.2 a)
abbrev pub hops_of : Segment → ℕ
hops_of (Set ns) = 1
hops_of (Sequence ns) = length ns

-- how many AS numbers a path counts
abbrev pub hops : List Segment → ℕ
hops path = sum_by hops_of path

-- The leading part of a path that counts k: whole segments while they fit, and then the first numbers of a sequence that
-- has more than are left. Of the sequence 1, 2 and the sequence 3, 4, 5 the part that counts 3 is 1, 2 and 3.
abbrev pub leading : ℕ → List Segment → List Segment
leading k [] = []
leading k (Set ns ∷ path) = if nat_le 1 k then Set ns ∷ leading (k - 1) path else []
leading k (Sequence ns ∷ path) =
    if nat_le (length ns) k then Sequence ns ∷ leading (k - length ns) path
    else if nat_le 1 k then Sequence (take k ns) ∷ [] else []

-- two sequences are one, where that has at most 255 numbers
abbrev pub merged_sequence : List ℕ → List Segment → List Segment
merged_sequence ms [] = Sequence ms ∷ []
merged_sequence ms (Set ns ∷ path) = Sequence ms ∷ Set ns ∷ path
merged_sequence ms (Sequence ns ∷ path) =
    if nat_le (length ms + length ns) 255 then Sequence (ms ++ ns) ∷ path else Sequence ms ∷ Sequence ns ∷ path

-- one path before another: the last segment of the one and the first of the other become one where both are sequences
-- that fit together
abbrev pub joined : List Segment → List Segment → List Segment
joined [] back = back
joined (Set ns ∷ []) back = Set ns ∷ back
joined (Sequence ns ∷ []) back = merged_sequence ns back
joined (s ∷ t ∷ front) back = s ∷ joined (t ∷ front) back

-- The path of AS_PATH and AS4_PATH: without the latter, or where it counts more, AS_PATH alone; else it has AS4_PATH
-- behind as much of AS_PATH as that counts more.
abbrev pub whole_path : List Segment → Option (List Segment) → List Segment
whole_path path None = path
whole_path path (Some wide) = if nat_lt (hops path) (hops wide) then path else joined (leading (hops path - hops wide) path) wide

-- some number takes more than two octets
abbrev pub has_wide : List Segment → Bool
has_wide path = list_any (λ s. list_any (nat_le 65536) (asns s)) path
