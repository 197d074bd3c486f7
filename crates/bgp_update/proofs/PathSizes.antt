-- How long paths are when they are written, and how long the path is that is put together of two.
use Rattle.std.proofs.Common.{◌≡◌, ℕ, ◌+◌, ◌-◌, ◌*◌, ◌≤◌, Bool, true, false, cond, leb, ltb, List, [], ◌∷◌, ◌++◌, length, take, flat_map, ap, subst, arith}
use Rattle.std.specs.Prelude.{Option, Some, None}
use Rattle.std.specs.Option.{option_map}
use Rattle.std.proofs.lemmas.Bool.{cond_both}
use Rattle.std.proofs.lemmas.List.{length-append, length-take}
use Rattle.std.proofs.lemmas.List.Sums.{sum_by-cons}
use Rattle.net_types.specs.Paths.{hops, hops_of, joined, leading, merged_sequence, whole_path}
use Rattle.net_types.specs.Updates as written
use Rattle.net_types.specs.Updates.{segment_octets, wide_segment_octets}
use Rattle.net_types.specs.declared.route.Segment.{Segment}
use Rattle.net_types.specs.declared.route.Segment.TheVariants.{Set, Sequence}
use Rattle.bgp_update.proofs.LengthSums.{attribute_length, longs_len, shorts_len}
use Rattle.bgp_update.proofs.PathLists.{joined_more}
use Rattle.std.proofs.lemmas.Option.{same_Some}

-- how many octets are written of all
abbrev pub size : {A : Type 0} → (A → List ℕ) → List A → ℕ
size f xs = length (flat_map f xs)

-- the length of an attribute whose value has n octets
abbrev pub framed_size : ℕ → ℕ
framed_size n = cond (leb n 255) (3 + n) (4 + n)

abbrev pub path_octets : Option (List Segment) → List ℕ
path_octets None = []
path_octets (Some ss) = written.attribute 64 2 (flat_map segment_octets ss)

abbrev pub wide_size : Option (List Segment) → ℕ
wide_size None = 0
wide_size (Some ss) = length (written.attribute 192 17 (flat_map wide_segment_octets ss))

cond_size : (f : Segment → List ℕ) (xs ys : List Segment) (b : Bool) (n : ℕ) → size f xs ≤ n → size f ys ≤ n → size f (cond b xs ys) ≤ n
cond_size f xs ys true n h k = h
cond_size f xs ys false n h k = k

sequence_size : (ns : List ℕ) → length (segment_octets (Sequence ns)) ≡ 2 + 2 * length ns
sequence_size ns = omega (arith, shorts_len ns)

leading_size : (k : ℕ) (path : List Segment) → size segment_octets (leading k path) ≤ size segment_octets path
leading_size k [] = omega arith
leading_size k (Set ns ∷ path) =
    let later = leading_size (k - 1) path in
    let one = length-append (segment_octets (Set ns)) (flat_map segment_octets path) in
    cond_size segment_octets (Set ns ∷ leading (k - 1) path) [] (leb 1 k) (size segment_octets (Set ns ∷ path)) (omega (arith, later, one, length-append (segment_octets (Set ns)) (flat_map segment_octets (leading (k - 1) path)))) (omega arith)
leading_size k (Sequence ns ∷ path) =
    let later = leading_size (k - length ns) path in
    let one = length-append (segment_octets (Sequence ns)) (flat_map segment_octets path) in
    let cut = length-append (segment_octets (Sequence (take k ns))) [] in
    cond_size segment_octets (Sequence ns ∷ leading (k - length ns) path) (cond (leb 1 k) (Sequence (take k ns) ∷ []) []) (leb (length ns) k) (size segment_octets (Sequence ns ∷ path))
    (omega (arith, later, one, length-append (segment_octets (Sequence ns)) (flat_map segment_octets (leading (k - length ns) path))))
    (cond_size segment_octets (Sequence (take k ns) ∷ []) [] (leb 1 k) (size segment_octets (Sequence ns ∷ path)) (omega (arith, one, cut, sequence_size ns, sequence_size (take k ns), length-take k ns)) (omega arith))

merged_size : (ms : List ℕ) (path : List Segment) → size segment_octets (merged_sequence ms path) ≤ length (segment_octets (Sequence ms)) + size segment_octets path
merged_size ms [] = omega (arith, length-append (segment_octets (Sequence ms)) [])
merged_size ms (Set ns ∷ path) = omega (arith, length-append (segment_octets (Sequence ms)) (flat_map segment_octets (Set ns ∷ path)))
merged_size ms (Sequence ns ∷ path) =
    let one = length-append (segment_octets (Sequence ns)) (flat_map segment_octets path) in
    let both = length-append (segment_octets (Sequence (ms ++ ns))) (flat_map segment_octets path) in
    cond_size segment_octets (Sequence (ms ++ ns) ∷ path) (Sequence ms ∷ Sequence ns ∷ path) (leb (length ms + length ns) 255) (length (segment_octets (Sequence ms)) + size segment_octets (Sequence ns ∷ path))
    (omega (arith, one, both, sequence_size ms, sequence_size ns, sequence_size (ms ++ ns), length-append ms ns))
    (omega (arith, length-append (segment_octets (Sequence ms)) (flat_map segment_octets (Sequence ns ∷ path))))

joined_size : (front back : List Segment) → size segment_octets (joined front back) ≤ size segment_octets front + size segment_octets back
joined_size [] back = omega arith
joined_size (Set ns ∷ []) back = omega (arith, length-append (segment_octets (Set ns)) [], length-append (segment_octets (Set ns)) (flat_map segment_octets back))
joined_size (Sequence ns ∷ []) back = omega (arith, merged_size ns back, length-append (segment_octets (Sequence ns)) [])
joined_size (s ∷ t ∷ front) back =
    let later = joined_size (t ∷ front) back in
    let same : size segment_octets (joined (s ∷ t ∷ front) back) ≡ size segment_octets (s ∷ joined (t ∷ front) back) = ap (λ (ss : List Segment). size segment_octets ss) (joined_more s t front back) in
    omega (arith, later, same, length-append (segment_octets s) (flat_map segment_octets (joined (t ∷ front) back)), length-append (segment_octets s) (flat_map segment_octets (t ∷ front)))

narrower : (path : List Segment) → size segment_octets path ≤ size wide_segment_octets path
narrower [] = omega arith
narrower (Set ns ∷ path) =
    omega (arith, narrower path, shorts_len ns, longs_len ns, length-append (segment_octets (Set ns)) (flat_map segment_octets path), length-append (wide_segment_octets (Set ns)) (flat_map wide_segment_octets path))
narrower (Sequence ns ∷ path) =
    omega (arith, narrower path, shorts_len ns, longs_len ns, length-append (segment_octets (Sequence ns)) (flat_map segment_octets path), length-append (wide_segment_octets (Sequence ns)) (flat_map wide_segment_octets path))

-- one attribute is no longer than two
framed_sum : (k m n : ℕ) → k ≤ m + n → framed_size k ≤ framed_size m + framed_size n
framed_sum k m n le =
    let most : framed_size k ≤ 4 + k = cond_both (leb k 255) (3 + k) (4 + k) (λ (j : ℕ). j ≤ 4 + k) (λ t. omega arith) (λ t. omega arith) in
    let one : 3 + m ≤ framed_size m = cond_both (leb m 255) (3 + m) (4 + m) (λ (j : ℕ). 3 + m ≤ j) (λ t. omega arith) (λ t. omega arith) in
    let two : 3 + n ≤ framed_size n = cond_both (leb n 255) (3 + n) (4 + n) (λ (j : ℕ). 3 + n ≤ j) (λ t. omega arith) (λ t. omega arith) in
    omega (arith, le, most, one, two)

together_size : (path wide : List Segment) (b : Bool) → size segment_octets (cond b path (joined (leading (hops path - hops wide) path) wide)) ≤ size segment_octets path + size wide_segment_octets wide
together_size path wide true = omega arith
together_size path wide false = omega (arith, joined_size (leading (hops path - hops wide) path) wide, leading_size (hops path - hops wide) path, narrower wide)

whole_size : (path : List Segment) (wide : Option (List Segment)) → length (path_octets (Some (whole_path path wide))) ≤ length (path_octets (Some path)) + wide_size wide
whole_size path None = omega arith
whole_size path (Some wide) =
    let sum = framed_sum (size segment_octets (whole_path path (Some wide))) (size segment_octets path) (size wide_segment_octets wide) (together_size path wide (ltb (hops path) (hops wide))) in
    omega (
      arith,
      sum,
      attribute_length 64 2 (flat_map segment_octets (whole_path path (Some wide))),
      attribute_length 64 2 (flat_map segment_octets path),
      attribute_length 192 17 (flat_map wide_segment_octets wide),
    )

pub said_path_size : (o wide : Option (List Segment)) (path : List Segment) → option_map (λ ss. whole_path ss wide) o ≡ Some path → length (path_octets (Some path)) ≤ length (path_octets o) + wide_size wide
said_path_size None wide path e = absurd cc
said_path_size (Some ss) wide path e = subst (λ (p : List Segment). length (path_octets (Some p)) ≤ length (path_octets (Some ss)) + wide_size wide) (same_Some (whole_path ss wide) path e) (whole_size ss wide)

-- a path counts no more numbers than it is written with octets
pub hops_size : (path : List Segment) → hops path ≤ size segment_octets path
hops_size [] = omega arith
hops_size (Set ns ∷ path) = omega (arith, hops_size path, sum_by-cons hops_of (Set ns) path, length-append (segment_octets (Set ns)) (flat_map segment_octets path))
hops_size (Sequence ns ∷ path) = omega (arith, hops_size path, sum_by-cons hops_of (Sequence ns) path, shorts_len ns, length-append (segment_octets (Sequence ns)) (flat_map segment_octets path))
