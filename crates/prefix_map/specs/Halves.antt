-- The addresses of a prefix and of its two halves, and what lies there.
use Rattle.std.specs.Prelude.{ℕ, ◌+◌, ◌-◌, ◌^◌, ◌≤◌, ◌<◌}
use Rattle.net_types.specs.declared.prefix.Prefix.{Prefix}

-- the first address past a prefix
abbrev pub past : Prefix → ℕ
past p = p.address.0 + 2 ^ (32 - p.len)

-- the first address of the upper half
abbrev pub middle : Prefix → ℕ
middle p = p.address.0 + 2 ^ (31 - p.len)

-- a prefix lies in another, or is the same
pub record LiesIn (p q : Prefix) : Type 0 where
  pub from : p.address.0 ≤ q.address.0
  pub until : past q ≤ past p
  pub longer : p.len ≤ q.len

-- a prefix lies in the lower half of another
pub record LiesLow (p q : Prefix) : Type 0 where
  pub from : p.address.0 ≤ q.address.0
  pub until : past q ≤ middle p
  pub longer : p.len < q.len

-- a prefix lies in the upper half of another
pub record LiesHigh (p q : Prefix) : Type 0 where
  pub from : middle p ≤ q.address.0
  pub until : past q ≤ past p
  pub longer : p.len < q.len
