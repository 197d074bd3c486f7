-- What is told: the tags in it, and what is pending (this exchange's own rule).
use Rattle.std.specs.Prelude.{ℕ, Bool, not, List, ◌++◌, map, filter, Option, Some, None}
use Rattle.std.specs.FinMap.{FinMap, get, keys, values}
use Rattle.events.specs.Pending.{same_entry}
use Rattle.events.specs.declared.Entry.{Entry}
use Rattle.net_types.specs.Attributes.{same_option}
use Rattle.net_types.specs.Frames.{address_of}
use Rattle.net_types.specs.Keys.{prefix_cmp, tag_cmp}
use Rattle.net_types.specs.Maps.{ordered}
use Rattle.net_types.specs.Updates.{announcement, withdrawal}
use Rattle.net_types.specs.declared.address.Ip.{Ip}
use Rattle.net_types.specs.declared.address.Tag.{Tag}
use Rattle.net_types.specs.declared.prefix.Prefix.{Prefix}

-- the tags of the entries, ascending, each once
abbrev pub tags_of : FinMap prefix_cmp Entry → List Tag
tags_of entries = ordered tag_cmp (map (λ (e : Entry). e.tag) (values entries))

-- what was told and what is present differ at the prefix
abbrev pub is_pending : FinMap prefix_cmp Entry → FinMap prefix_cmp Entry → Prefix → Bool
is_pending told present p = not (same_option same_entry (get told p) (get present p))

-- the prefixes at which they differ, in order
abbrev pub pending : FinMap prefix_cmp Entry → FinMap prefix_cmp Entry → List Prefix
pending told present = filter (λ p. is_pending told present p) (ordered prefix_cmp (keys told ++ keys present))

-- a withdrawal, or an announcement with the tag's address as NEXT_HOP (RFC 4271 4.3)
abbrev pub advert_with : Ip → Prefix → Option Entry → List ℕ
advert_with base p None = withdrawal p
advert_with base p (Some entry) = announcement p entry.attrs (address_of base entry.tag)

-- what is told of each of these prefixes, in their order
abbrev pub adverts : Ip → FinMap prefix_cmp Entry → List Prefix → List (List ℕ)
adverts base present ps = map (λ p. advert_with base p (get present p)) ps
