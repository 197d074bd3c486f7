-- The entries of a trie rise.
use Rattle.std.proofs.Common.{◌≡◌, true, Option, List, [], ◌∷◌, ◌++◌, ap, refl}
use Rattle.std.specs.Prelude.{Some, None}
use Rattle.std.specs.Ordering.{is_lt}
use Rattle.std.specs.FinMap.Entries.{is_sorted, below_all}
use Rattle.std.proofs.lemmas.Bool.{and_parts, and_from}
use Rattle.net_types.specs.Keys.{prefix_cmp}
use Rattle.net_types.specs.declared.prefix.Prefix.{Prefix}
use Rattle.prefix_map.specs.Entries.{own, entries_of}
use Rattle.prefix_map.specs.Halves.{LiesLow}
use Rattle.prefix_map.specs.Tries.{AllKeys, IsTrie}
use Rattle.prefix_map.specs.declared.trie.Trie.{Trie, Empty, Lone, Fork'}
use Rattle.prefix_map.proofs.ListLemmas.{all_of, IsBefore}
use Rattle.prefix_map.proofs.NodeLemmas.{all_after}
use Rattle.prefix_map.proofs.StandLemmas.{low_before_high}

below_before : {V : Type 0} (x : Prefix) (es : List (Prefix × V)) → IsBefore x es → below_all prefix_cmp x es ≡ true
below_before x [] h = refl
below_before x (e ∷ es) h = and_from _ _ (ap is_lt h.0) (below_before x es h.1)

below_append : {V : Type 0} (x : Prefix) (es ds : List (Prefix × V)) → below_all prefix_cmp x es ≡ true → IsBefore x ds → below_all prefix_cmp x (es ++ ds) ≡ true
below_append x [] ds h k = below_before x ds k
below_append x (e ∷ es) ds h k =
    let parts = and_parts (is_lt (prefix_cmp x e.0)) (below_all prefix_cmp x es) h in
    and_from _ _ parts.0 (below_append x es ds parts.1 k)

pub sorted_append : {V : Type 0} (es ds : List (Prefix × V)) → is_sorted prefix_cmp es ≡ true → is_sorted prefix_cmp ds ≡ true → AllKeys (λ p. IsBefore p ds) es → is_sorted prefix_cmp (es ++ ds) ≡ true
sorted_append [] ds h k apart = k
sorted_append (e ∷ es) ds h k apart =
    let parts = and_parts (below_all prefix_cmp e.0 es) (is_sorted prefix_cmp es) h in
    and_from _ _ (below_append e.0 es ds parts.0 apart.0) (sorted_append es ds parts.1 k apart.1)

sorted_own : {V : Type 0} (at : Prefix) (held : Option V) (es : List (Prefix × V)) → IsBefore at es → is_sorted prefix_cmp es ≡ true → is_sorted prefix_cmp (own at held ++ es) ≡ true
sorted_own at None es before h = h
sorted_own at (Some v) es before h = and_from _ _ (below_before at es before) h

pub trie_sorted : {V : Type 0} (t : Trie V) → IsTrie t → is_sorted prefix_cmp (entries_of t) ≡ true
trie_sorted Empty h = refl
trie_sorted (Lone at value) h = refl
trie_sorted (Fork' p at low high held) h =
    let apart : AllKeys (λ p. IsBefore p (entries_of high)) (entries_of low) =
    all_of (λ p (is : LiesLow at p). all_of (λ q there. low_before_high at p q is there) (entries_of high) h.1) (entries_of low) h.0 in
    sorted_own at held (entries_of low ++ entries_of high) (all_after at held (entries_of low) (entries_of high) h.0 h.1)
    (sorted_append (entries_of low) (entries_of high) (trie_sorted low h.2) (trie_sorted high h.3) apart)
