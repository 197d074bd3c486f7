-- Which tags of a pool are free (this exchange's own rule).
use Rattle.std.specs.Prelude.{◌≡◌, ℕ, ◌+◌, ◌-◌, ◌<◌, ◌≤◌, Bool, true, false, not, nat_lt, List, map, filter, length, Option, Some, None, slice_index_or, slice_set, replicate}
use Rattle.net_types.specs.Routes.{numbers}
use Rattle.net_types.specs.declared.address.Ip.{Ip}
use Rattle.net_types.specs.declared.address.Tag.{Tag}

-- a base address, and of the tags 1, 2, .. in turn whether they are taken
pub record Tags : Type 0 where
  pub base : Ip
  pub taken : List Bool

-- a tag of the pool
pub record IsTag (p : Tags) (t : Tag) : Type 0 where
  pub above : 0 < t.0
  pub within : t.0 ≤ length p.taken

-- whether the place of a tag is marked, where there is one
abbrev pub is_taken_in : List Bool → Tag → Bool
is_taken_in taken t = slice_index_or taken (t.0 - 1) true

-- of a tag of the pool, whether it is taken
abbrev pub is_taken : Tags → Tag → Bool
is_taken p t = is_taken_in p.taken t

-- tags are numbers
abbrev pub tag : ℕ → Tag
tag n = record { 0 = n }

-- the tags 1, 2, .. whose places aren't marked, ascending
abbrev pub free_in : List Bool → List Tag
free_in taken = filter (λ t. not (is_taken_in taken t)) (map tag (numbers 1 (length taken)))

-- the free tags of the pool, ascending
abbrev pub free_tags : Tags → List Tag
free_tags p = free_in p.taken

-- greater than the given tag, where one is given
abbrev pub is_above : Option Tag → Tag → Bool
is_above None t = true
is_above (Some a) t = nat_lt a.0 t.0

-- the pool with this tag taken or free
abbrev pub marked : Tags → Tag → Bool → Tags
marked p t b = record p { taken = slice_set p.taken (t.0 - 1) b }

-- the pool of so many tags, all free
abbrev pub all_free : Ip → ℕ → Tags
all_free base size = record { base = base; taken = replicate size false }

-- what is kept of a pool: all addresses are below 2 ^ 32, no tag below the mark is free, and the free ones are counted.
pub record IsKept (base : ℕ) (taken : List Bool) (least free : ℕ) : Type 0 where
  pub small : length taken ≤ 65536
  pub within : base + length taken < 4294967296
  pub full : (k : ℕ) → k < least → slice_index_or taken k true ≡ true
  pub count : free ≡ length (free_in taken)
