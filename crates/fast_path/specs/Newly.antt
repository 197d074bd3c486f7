-- How many prefixes get a tag that had none (this exchange's own rule).
use Rattle.std.specs.Prelude.{ℕ, Bool, ◌&&◌, List, count_by, is_none, is_some}
use Rattle.std.specs.FinMap.{FinMap, get}
use Rattle.events.specs.declared.TagChange.{TagChange}
use Rattle.net_types.specs.Keys.{prefix_cmp}
use Rattle.net_types.specs.declared.address.Tag.{Tag}

-- the prefix had no tag, and gets one
abbrev pub is_newly_tagged : FinMap prefix_cmp Tag → TagChange → Bool
is_newly_tagged m c = is_none (get m c.prefix) && is_some c.tag

-- so many changes are such
abbrev pub newly_tagged : FinMap prefix_cmp Tag → List TagChange → ℕ
newly_tagged m cs = count_by (is_newly_tagged m) cs
