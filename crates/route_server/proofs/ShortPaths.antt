-- The path of an update that is taken is short, since its announcements can be told.
use Rattle.std.proofs.Common.{◌≡◌, ℕ, ◌+◌, ◌<◌, ◌≤◌, ◌^◌, Bool, true, false, cond, nat_le, List, [], ◌∷◌, ◌++◌, length, refl, arith, sum_by}
use Rattle.std.specs.Prelude.{Option, Some, None, IfSome, ◌&&◌, ◌||◌, nat_lt, filter, flat_map}
use Rattle.std.specs.List.{list_any}
use Rattle.std.specs.Option.{option_and_then}
use Rattle.std.proofs.lemmas.Bool.{ltb-false}
use Rattle.std.proofs.lemmas.List.{length-append}
use Rattle.std.proofs.lemmas.List.Sums.{sum_by-cons}
use Rattle.net_types.specs.Octets.{address_octets, word}
use Rattle.net_types.specs.Paths.{hops_of}
use Rattle.net_types.specs.SoundUpdates.{HasSoundAttrs, IsSoundUpdate}
use Rattle.net_types.specs.Updates.{aggregator_octets, announcement, atomic_octets, attribute, attrs_octets, communities_octets, is_oversize, is_oversize_with, marker, med_octets, prefix_octets, segment_octets, short, unknown_octets, update_message, wide_octets}
use Rattle.net_types.specs.declared.address.Pid.{Pid}
use Rattle.net_types.specs.declared.prefix.Prefix.{Prefix}
use Rattle.net_types.specs.declared.route.Attrs.{Attrs}
use Rattle.net_types.specs.declared.route.Segment.{Segment}
use Rattle.net_types.specs.declared.route.Segment.TheVariants.{Set, Sequence}
use Rattle.net_types.specs.declared.route.Unknown.{Unknown}
use Rattle.net_types.specs.declared.update.Update.{Update}
use Rattle.registry.specs.Registered.{Registered}
use Rattle.route_server.specs.Admission.{attrs_refusal, or_oversize, refusal}
use Rattle.route_server.specs.declared.fault.RouteFault.{RouteFault}

-- a list is no longer than it is with another
more_left : {A : Type 0} (xs ys : List A) → length xs ≤ length (xs ++ ys)
more_left xs ys = omega (arith, length-append xs ys)

more_right : {A : Type 0} (xs ys : List A) → length ys ≤ length (xs ++ ys)
more_right xs ys = omega (arith, length-append xs ys)

words_length : (f : ℕ → List ℕ) → ((n : ℕ) → 1 ≤ length (f n)) → (ns : List ℕ) → length ns ≤ length (flat_map f ns)
words_length f some [] = omega arith
words_length f some (n ∷ ns) = let here = some n in let later = words_length f some ns in let both = length-append (f n) (flat_map f ns) in omega (arith, here, later, both)

sequence_hops : (ns : List ℕ) → length ns ≤ length (segment_octets (Sequence ns))
sequence_hops ns = let words = words_length short (λ n. let two : 1 ≤ 2 = omega arith in two) ns in omega (arith, words)

segment_hops : (s : Segment) → hops_of s ≤ length (segment_octets s)
segment_hops (Set ns) = omega arith
segment_hops (Sequence ns) = sequence_hops ns

path_hops : (path : List Segment) → sum_by hops_of path ≤ length (flat_map segment_octets path)
path_hops [] = omega arith
path_hops (s ∷ path) =
    let here = segment_hops s in
    let later = path_hops path in
    let both : length (flat_map segment_octets (s ∷ path)) ≡ length (segment_octets s) + length (flat_map segment_octets path) = length-append (segment_octets s) (flat_map segment_octets path) in
    let sum : sum_by hops_of (s ∷ path) ≡ hops_of s + sum_by hops_of path = sum_by-cons hops_of s path in
    omega (arith, here, later, both, sum)

valued : (flags kind : ℕ) (value : List ℕ) → length value ≤ length (attribute flags kind value)
valued flags kind value = by (nat_le (length value) 255)
  where
    by : (b : Bool) → length value ≤ length (cond b (flags ∷ kind ∷ length value ∷ value) ((flags + 16) ∷ kind ∷ word (length value) ++ value))
    by true = omega arith
    by false = let both = length-append (word (length value)) value in omega (arith, both)

-- the path's part of the attributes
attrs_hops : (a : Attrs) → sum_by hops_of a.path ≤ length (attrs_octets a)
attrs_hops a =
    let path = path_hops a.path in
    let value = valued 64 2 (flat_map segment_octets a.path) in
    let before : List ℕ = unknown_octets (filter (λ (u : Unknown). nat_lt u.kind 1) a.unknown) ++ attribute 64 1 (a.origin ∷ []) in
    let one : List ℕ = before ++ attribute 64 2 (flat_map segment_octets a.path) in
    let two : List ℕ = one ++ attribute 64 3 (address_octets a.next_hop) in
    let three : List ℕ = two ++ med_octets a.med in
    let four : List ℕ = three ++ atomic_octets a.atomic in
    let five : List ℕ = four ++ aggregator_octets a.aggregator in
    let six : List ℕ = five ++ communities_octets a.communities_partial a.communities in
    let seven : List ℕ = six ++ unknown_octets (filter (λ (u : Unknown). nat_le 1 u.kind && nat_lt u.kind 17) a.unknown) in
    let eight : List ℕ = seven ++ wide_octets a.path in
    let nine : List ℕ = eight ++ unknown_octets (filter (λ (u : Unknown). nat_le 17 u.kind) a.unknown) in
    let in_one : length (attribute 64 2 (flat_map segment_octets a.path)) ≤ length one = more_right before (attribute 64 2 (flat_map segment_octets a.path)) in
    let in_two : length one ≤ length two = more_left one (attribute 64 3 (address_octets a.next_hop)) in
    let in_three : length two ≤ length three = more_left two (med_octets a.med) in
    let in_four : length three ≤ length four = more_left three (atomic_octets a.atomic) in
    let in_five : length four ≤ length five = more_left four (aggregator_octets a.aggregator) in
    let in_six : length five ≤ length six = more_left five (communities_octets a.communities_partial a.communities) in
    let in_seven : length six ≤ length seven = more_left six (unknown_octets (filter (λ (u : Unknown). nat_le 1 u.kind && nat_lt u.kind 17) a.unknown)) in
    let in_eight : length seven ≤ length eight = more_left seven (wide_octets a.path) in
    let in_nine : length eight ≤ length nine = more_left eight (unknown_octets (filter (λ (u : Unknown). nat_le 17 u.kind) a.unknown)) in
    let whole : length (attrs_octets a) ≡ length nine = refl in
    omega (arith, path, value, in_one, in_two, in_three, in_four, in_five, in_six, in_seven, in_eight, in_nine, whole)

message_length : (withdrawn attrs announced : List ℕ) → length attrs ≤ length (update_message withdrawn attrs announced)
message_length withdrawn attrs announced =
    let before : List ℕ = marker ++ word (23 + length withdrawn + length attrs + length announced) ++ 2 ∷ word (length withdrawn) ++ withdrawn ++ word (length attrs) in
    let one : length attrs ≤ length (before ++ attrs) = more_right before attrs in
    let two : length (before ++ attrs) ≤ length (before ++ attrs ++ announced) = more_left (before ++ attrs) announced in
    let whole : length (update_message withdrawn attrs announced) ≡ length (before ++ attrs ++ announced) = refl in
    omega (arith, one, two, whole)

-- the attributes of an announcement that can be told are short
told_short : (p : Prefix) (a : Attrs) → nat_lt 4096 (length (announcement p a a.next_hop)) ≡ false → sum_by hops_of a.path < 2 ^ 32
told_short p a can =
    let fits : length (announcement p a a.next_hop) ≤ 4096 = ltb-false 4096 (length (announcement p a a.next_hop)) can in
    let hops = attrs_hops a in
    let whole : length (attrs_octets a) ≤ length (announcement p a a.next_hop) = message_length [] (attrs_octets a) (prefix_octets p) in
    omega (arith, hops, whole, fits)

first_any : (b c : Bool) → (b || c) ≡ false → b ≡ false
first_any true c e = e
first_any false c e = refl

announced_short : (ps : List Prefix) (o : Option Attrs) → HasSoundAttrs ps o → is_oversize_with o ps ≡ false → IfSome o (λ a. sum_by hops_of a.path < 2 ^ 32)
announced_short [] None sound can = tt
announced_short [] (Some a) sound can = absurd sound
announced_short (p ∷ ps) None sound can = tt
announced_short (p ∷ ps) (Some a) sound can =
    told_short p a (first_any (nat_lt 4096 (length (announcement p a a.next_hop))) (list_any (λ (q : Prefix). nat_lt 4096 (length (announcement q a a.next_hop))) ps) can)

not_oversize : (oversize : Bool) (o : Option RouteFault) → or_oversize oversize o ≡ None → oversize ≡ false
not_oversize true None e = absurd (cc)
not_oversize false None e = refl
not_oversize oversize (Some fault) e = absurd (cc)

pub taken_short : (names : Registered) (from : Pid) (u : Update) → IsSoundUpdate u → refusal names from u ≡ None → IfSome u.attrs (λ a. sum_by hops_of a.path < 2 ^ 32)
taken_short names from u sound taken = announced_short u.announced u.attrs sound.attrs (not_oversize (is_oversize u) (option_and_then (attrs_refusal names from) u.attrs) taken)
