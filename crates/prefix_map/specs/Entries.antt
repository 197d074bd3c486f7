-- The entries of a trie in ascending order of their prefixes, and what is read and left of them.
use Rattle.std.specs.Prelude.{Option, None, Some, List, [], ◌∷◌, ◌++◌, map, not, nat_lt, if◌then◌else◌}
use Rattle.std.specs.Borrow.{Bor}
use Rattle.std.specs.Ordering.{eq_by_cmp, is_lt}
use Rattle.std.specs.FinMap.Entries.{where_key}
use Rattle.net_types.specs.Keys.{prefix_cmp}
use Rattle.net_types.specs.Prefixes.{covers}
use Rattle.net_types.specs.declared.address.Ip.{Ip}
use Rattle.net_types.specs.declared.prefix.Prefix.{Prefix}
use Rattle.prefix_map.specs.declared.trie.Trie.{Trie, Empty, Lone, Fork'}
use Rattle.prefix_map.specs.declared.trie.Node.{Node}
use Rattle.net_types.specs.Routes.{first_of_list}

-- a prefix with its value, where it has one
abbrev pub own : {V : Type 0} → Prefix → Option V → List (Prefix × V)
own at None = []
own at (Some value) = (at, value) ∷ []

-- a fork's own prefix, those of its lower half, and those of its upper half
abbrev pub entries_of : {V : Type 0} → Trie V → List (Prefix × V)
entries_of Empty = []
entries_of (Lone at value) = (at, value) ∷ []
entries_of (Fork' p at low high held) = own at held ++ (entries_of low ++ entries_of high)

-- those of a fork with this node
abbrev pub node_entries : {V : Type 0} → Node V → List (Prefix × V)
node_entries node = own node.at node.held ++ (entries_of node.low ++ entries_of node.high)

-- the entries with other prefixes
abbrev pub without : {V : Type 0} → Prefix → List (Prefix × V) → List (Prefix × V)
without q es = where_key prefix_cmp (λ x. not (eq_by_cmp prefix_cmp q x)) es

-- the entries with greater prefixes
abbrev pub above : {V : Type 0} → Prefix → List (Prefix × V) → List (Prefix × V)
above q es = where_key prefix_cmp (λ x. is_lt (prefix_cmp q x)) es

-- the entries after the last that was given, and all where none was
abbrev pub left_after : {V : Type 0} → Option Prefix → List (Prefix × V) → List (Prefix × V)
left_after None es = es
left_after (Some last) es = above last es

-- an entry whose value is lent
abbrev pub seen_entry : {V : Type 0} → Prefix × Bor V → Prefix × V
seen_entry e = (e.0, e.1.now)

-- entries whose values are lent
abbrev pub seen_entries : {V : Type 0} → List (Prefix × Bor V) → List (Prefix × V)
seen_entries es = map seen_entry es

-- the entry with the longer prefix, the first where they are alike
abbrev pub longer_entry : {V : Type 0} → Option (Prefix × V) → Option (Prefix × V) → Option (Prefix × V)
longer_entry None d = d
longer_entry (Some e) None = Some e
longer_entry (Some e) (Some d) = if nat_lt e.0.len d.0.len then Some d else Some e

-- the entry with the longest prefix that covers an address
abbrev pub longest_entry : {V : Type 0} → List (Prefix × V) → Ip → Option (Prefix × V)
longest_entry [] ip = None
longest_entry (e ∷ es) ip = longer_entry (if covers e.0 ip then Some e else None) (longest_entry es ip)

-- an entry further down, and else a prefix's own
abbrev pub entry_or : {V : Type 0} → Option (Prefix × V) → Prefix → Option V → Option (Prefix × V)
entry_or (Some e) at held = Some e
entry_or None at held = first_of_list (own at held)
