-- The entries of a tree, and what is left of entries without a key.
use Rattle.std.specs.Prelude.{Bool, true, false, not, Option, None, Some, List, [], ◌∷◌, ◌++◌}
use Rattle.std.specs.Borrow.{Bor}
use Rattle.std.specs.Ordering.{eq_by_cmp, is_lt}
use Rattle.std.specs.declared.cmp.Ordering.{Ordering}
use Rattle.std.specs.FinMap.Entries.{put, where_key}
use Rattle.ordered_map.specs.declared.tree.Tree.{Tree, Empty, Fork'}
use Rattle.ordered_map.specs.declared.tree.Node.{Node, Blank, Full}

-- from left to right
abbrev mutual
  pub entries_of : {K V : Type 0} → Tree K V → List (K × V)
  entries_of Empty = []
  entries_of (Fork' p node) = node_entries node

  pub node_entries : {K V : Type 0} → Node K V → List (K × V)
  node_entries Blank = []
  node_entries (Full height key left right value others) = entries_of left ++ (key, value) ∷ (others ++ entries_of right)

-- those of a node alone
abbrev pub own_entries : {K V : Type 0} → Node K V → List (K × V)
own_entries Blank = []
own_entries (Full height key left right value others) = (key, value) ∷ others

abbrev pub is_full : {K V : Type 0} → Node K V → Bool
is_full Blank = false
is_full (Full height key left right value others) = true

-- the entries with a value for a key, where one is given
abbrev pub put_given : {K V : Type 0} → (K → K → Ordering) → K → Option V → List (K × V) → List (K × V)
put_given R q None es = es
put_given R q (Some v) es = put R q v es

-- the entries with other keys
abbrev pub without : {K V : Type 0} → (K → K → Ordering) → K → List (K × V) → List (K × V)
without R q es = where_key R (λ x. not (eq_by_cmp R q x)) es

-- the entries without each of these keys, one after the other
abbrev pub without_each : {K V : Type 0} → (K → K → Ordering) → List K → List (K × V) → List (K × V)
without_each R [] es = es
without_each R (q ∷ qs) es = without_each R qs (without R q es)

-- the entries with greater keys
abbrev pub above : {K V : Type 0} → (K → K → Ordering) → K → List (K × V) → List (K × V)
above R q es = where_key R (λ x. is_lt (R q x)) es

-- the first of a list
abbrev pub head_of : {A : Type 0} → List A → Option A
head_of [] = None
head_of (x ∷ xs) = Some x

-- an element, or else the best one so far
abbrev pub first_or : {A : Type 0} → Option A → Option A → Option A
first_or None best = best
first_or (Some x) best = Some x

-- ---- the least entry of a tree's root, and the others
abbrev pub value_here : {K V : Type 0} → Node K V → Option V
value_here Blank = None
value_here (Full height key left right value others) = Some value

abbrev pub beside : {K V : Type 0} → Node K V → List (K × V)
beside Blank = []
beside (Full height key left right value others) = entries_of left ++ (others ++ entries_of right)

abbrev pub root_value : {K V : Type 0} → Tree K V → Option V
root_value Empty = None
root_value (Fork' p node) = value_here node

abbrev pub beside_root : {K V : Type 0} → Tree K V → List (K × V)
beside_root Empty = []
beside_root (Fork' p node) = beside node

-- those beside the least one of a node, and of a tree's root
abbrev pub others_of : {K V : Type 0} → Node K V → List (K × V)
others_of Blank = []
others_of (Full height key left right value others) = others

abbrev pub root_others : {K V : Type 0} → Tree K V → List (K × V)
root_others Empty = []
root_others (Fork' p node) = others_of node

-- those left of a tree's root
abbrev pub left_entries : {K V : Type 0} → Node K V → List (K × V)
left_entries Blank = []
left_entries (Full height key left right value others) = entries_of left

abbrev pub root_left : {K V : Type 0} → Tree K V → List (K × V)
root_left Empty = []
root_left (Fork' p node) = left_entries node

-- the entries after the last that was given, and all where none was
abbrev pub left_after : {K V : Type 0} → (K → K → Ordering) → Option (Bor K) → List (K × V) → List (K × V)
left_after R None es = es
left_after R (Some last) es = above R last.now es
