-- The canonical message of what octets spell is no longer than they are, where no AS number of the path is wide.
use Rattle.std.proofs.Common.{◌≡◌, ℕ, ◌+◌, ◌*◌, ◌/◌, ◌<◌, ◌≤◌, Bool, true, false, not, cond, leb, eqb, List, [], ◌∷◌, ◌++◌, length, take, drop, flat_map, refl, sym, ap, subst, ◌∙◌, inl, inr, arith}
use Rattle.std.specs.Prelude.{Option, Some, None, Result, Ok, Err, IfOk, IfSome, ◌&&◌}
use Rattle.std.specs.List.{fold}
use Rattle.std.proofs.lemmas.Bool.{and_parts, cond_both, eqb-true, ne_eqb, leb-true, leb-false}
use Rattle.std.proofs.lemmas.List.{length-append, length-take}
use Rattle.grammar.specs.Formats.{AllSpell, ItemsSpell, ◌>>=◌}
use Rattle.net_types.specs.AttributeTypes.{has_length, type_length}
use Rattle.net_types.specs.Octets.{address_octets, word}
use Rattle.net_types.specs.Paths.{has_wide, hops}
use Rattle.net_types.specs.Sets.{IsRising, Member}
use Rattle.net_types.specs.UpdateFormat.{address, Head, IsWide, Parts, attribute, head, known_value, longs, message, prefix, segment, segment_by, segment_of, unknown_value, value, value_length, wide_segment, wide_value, with_type, words}
use Rattle.grammar.specs.Numbers.{big_endian, two_octets}
use Rattle.net_types.specs.UpdateSpelling.{AreAttrs, AreSaid, IsUpdateOf, is_before, is_type_before}
use Rattle.net_types.specs.UpdateValue.{Said, nothing_said, said, with_attribute}
use Rattle.net_types.specs.Updates as written
use Rattle.net_types.specs.Updates.{aggregator_octets, atomic_octets, attrs_octets, canonical, communities_octets, long, med_octets, optional_attrs_octets, passed_on, prefix_octets, prefixes_octets, segment_octets, unknown_octets, wide_octets, wide_segment_octets}
use Rattle.net_types.specs.declared.address.Ip.{Ip}
use Rattle.net_types.specs.declared.attribute.Attribute.{Attribute}
use Rattle.net_types.specs.declared.attribute.Attribute.TheVariants as attributes
use Rattle.net_types.specs.declared.attribute.AttributeType.{AttributeType}
use Rattle.net_types.specs.declared.attribute.AttributeType.TheVariants as types
use Rattle.net_types.specs.declared.prefix.Prefix.{Prefix}
use Rattle.net_types.specs.declared.route.Attrs.{Attrs}
use Rattle.net_types.specs.declared.route.Segment.{Segment}
use Rattle.net_types.specs.declared.route.Segment.TheVariants.{Set, Sequence}
use Rattle.net_types.specs.declared.route.Unknown.{Unknown}
use Rattle.net_types.specs.declared.update.Fault.TheVariants as faults
use Rattle.net_types.specs.declared.update.Update.{Update}
use Rattle.bgp_update.proofs.Decoded.{spells_said}
use Rattle.bgp_update.proofs.LengthSums.{attribute_length, attrs_length, longs_len, message_length, shorts_len}
use Rattle.bgp_update.proofs.OneUpdate.{before_itself, type_itself}
use Rattle.bgp_update.proofs.PathSizes.{framed_size, hops_size, path_octets, said_path_size, size, wide_size}
use Rattle.bgp_update.proofs.SoundReading.{AreOctets, behind, front, longs_count, words_count}
use Rattle.bgp_update.proofs.SpelledAttributes.{octets_of}
use Rattle.bgp_update.specs.Answers.{IsDecoded}
use Rattle.bgp_update.specs.declared.fault.UpdateFault.{UpdateFault}
use Rattle.std.proofs.Math.Bool.{and-true}

-- ---- rising lists of members

record IsSplit {A : Type 0} (x : A) (ys : List A) : Type 0 where
  before : List A
  after : List A
  is : ys ≡ before ++ x ∷ after

split : {A : Type 0} (x : A) (ys : List A) → Member x ys → IsSplit x ys
split x [] m = elim m [ ]
split x (y ∷ ys) (inl e) = record { before = []; after = ys; is = ap (λ z. z ∷ ys) (sym e) }
split x (y ∷ ys) (inr m) = let s = split x ys m in record { before = y ∷ s.before; after = s.after; is = ap (λ zs. y ∷ zs) s.is }

other : {A : Type 0} (x z : A) (before after : List A) → (z ≡ x → ⊥) → Member z (before ++ x ∷ after) → Member z (before ++ after)
other x z [] after apart (inl e) = absurd (apart e)
other x z [] after apart (inr m) = m
other x z (y ∷ before) after apart (inl e) = inl e
other x z (y ∷ before) after apart (inr m) = inr (other x z before after apart m)

size_split : {A : Type 0} (f : A → List ℕ) (x : A) (before after : List A) → size f (before ++ x ∷ after) ≡ length (f x) + size f (before ++ after)
size_split f x [] after = length-append (f x) (flat_map f after)
size_split f x (y ∷ before) after =
    let later = size_split f x before after in
    omega (arith, later, length-append (f y) (flat_map f (before ++ x ∷ after)), length-append (f y) (flat_map f (before ++ after)))

fewer : {A : Type 0} (below : A → A → Bool) → ((x : A) → below x x ≡ true → ⊥) → (f : A → List ℕ) (xs ys : List A) → IsRising below xs → ((z : A) → Member z xs → Member z ys) → size f xs ≤ size f ys
fewer below irreflexive f [] ys r sub = omega arith
fewer below irreflexive f (x ∷ xs) ys r sub =
    let s = split x ys (sub x (inl refl)) in
    let later : size f xs ≤ size f (s.before ++ s.after) =
    fewer below irreflexive f xs (s.before ++ s.after) r.1 (λ z m. other x z s.before s.after (λ e. irreflexive x (subst (λ w. below x w ≡ true) e (r.0 z m))) (subst (Member z) s.is (sub z (inr m)))) in
    let all : size f ys ≡ length (f x) + size f (s.before ++ s.after) = ap (size f) s.is ∙ size_split f x s.before s.after in
    omega (arith, later, all, length-append (f x) (flat_map f xs))

-- ---- prefixes

prefix_size : (s : List ℕ) (p : Prefix) → prefix.Spells s p → length (prefix_octets p) ≤ length s
unfolding ◌>>=◌
prefix_size s p sp =
    let one = ap length sp.4 in
    let sp1 = sp.5 in
    let two : length sp1.0 ≡ (sp.2 + 7) / 8 = sp1.4.0 in
    let len : p.len ≡ sp.2 = sp1.5.1 in
    omega (arith, ap length sp.3 ∙ length-append sp.0 sp.1, one, ap length sp1.3 ∙ length-append sp1.0 sp1.1, two, len, length-take ((p.len + 7) / 8) (address_octets p.address))

prefixes_size : (s : List ℕ) (ps : List Prefix) → ItemsSpell prefix s ps → size prefix_octets ps ≤ length s
prefixes_size s [] sp = omega arith
prefixes_size s (p ∷ ps) sp =
    let later = prefixes_size sp.1 ps sp.4 in
    omega (arith, later, prefix_size sp.0 p sp.3, ap length sp.2 ∙ length-append sp.0 sp.1, length-append (prefix_octets p) (flat_map prefix_octets ps))

-- ---- values

segment_len : (kind : ℕ) (ns : List ℕ) → length (segment_octets (segment_of kind ns)) ≡ 2 + length ns * 2
segment_len kind ns = go (eqb kind 1)
  where
    go : (b : Bool) → length (segment_octets (cond b (Set ns) (Sequence ns))) ≡ 2 + length ns * 2
    go true = omega (arith, shorts_len ns)
    go false = omega (arith, shorts_len ns)

wide_segment_len : (kind : ℕ) (ns : List ℕ) → length (wide_segment_octets (segment_of kind ns)) ≡ 2 + length ns * 4
wide_segment_len kind ns = go (eqb kind 1)
  where
    go : (b : Bool) → length (wide_segment_octets (cond b (Set ns) (Sequence ns))) ≡ 2 + length ns * 4
    go true = omega (arith, longs_len ns)
    go false = omega (arith, longs_len ns)

segment_size : (width : ℕ) (numbers : List ℕ → List ℕ) (octets : Segment → List ℕ) → ((kind : ℕ) (ns : List ℕ) → length (octets (segment_of kind ns)) ≡ 2 + length ns * width)
    → ((n : ℕ) (t : List ℕ) → length t ≡ n * width → length (numbers t) ≡ n) → (s : List ℕ) (x : Segment) → (segment_by width numbers).Spells s x → length (octets x) ≤ length s
unfolding ◌>>=◌
segment_size width numbers octets octets_len numbers_count s x sp =
    let sp1 = sp.5 in
    let sp2 = sp1.5 in
    let sp3 = sp2.5 in
    let sp4 = sp3.5 in
    let len : length (numbers sp4.0) ≡ sp2.2 = numbers_count sp2.2 sp4.0 sp4.4.0 in
    let is : x ≡ segment_of sp.2 (numbers sp4.0) = sp4.5.1 ∙ ap (λ (t : List ℕ). segment_of sp.2 (numbers t)) sp4.4.1 in
    let same : length (octets x) ≡ 2 + length sp4.0 =
    ap (λ (y : Segment). length (octets y)) is ∙ octets_len sp.2 (numbers sp4.0) ∙ ap (λ (n : ℕ). 2 + n * width) len ∙ ap (λ (n : ℕ). 2 + n) (sym sp4.4.0) in
    omega (
      arith,
      same,
      ap length sp.4,
      ap length sp2.4,
      ap length sp.3 ∙ length-append sp.0 sp.1,
      ap length sp1.3 ∙ length-append sp1.0 sp1.1,
      ap length sp2.3 ∙ length-append sp2.0 sp2.1,
      ap length sp3.3 ∙ length-append sp3.0 sp3.1,
      ap length sp4.3 ∙ length-append sp4.0 sp4.1,
    )

path_size : (s : List ℕ) (xs : List Segment) → ItemsSpell segment s xs → size segment_octets xs ≤ length s
path_size s [] sp = omega arith
path_size s (x ∷ xs) sp =
    let later = path_size sp.1 xs sp.4 in
    omega (arith, later, segment_size 2 words segment_octets segment_len words_count sp.0 x sp.3, ap length sp.2 ∙ length-append sp.0 sp.1, length-append (segment_octets x) (flat_map segment_octets xs))

wide_path_size : (s : List ℕ) (xs : List Segment) → ItemsSpell wide_segment s xs → size wide_segment_octets xs ≤ length s
wide_path_size s [] sp = omega arith
wide_path_size s (x ∷ xs) sp =
    let later = wide_path_size sp.1 xs sp.4 in
    omega (arith, later, segment_size 4 longs wide_segment_octets wide_segment_len longs_count sp.0 x sp.3, ap length sp.2 ∙ length-append sp.0 sp.1, length-append (wide_segment_octets x) (flat_map wide_segment_octets xs))

longs_size : (s : List ℕ) → 4 * length (longs s) ≤ length s
longs_size [] = omega arith
longs_size (a ∷ []) = omega arith
longs_size (a ∷ b ∷ []) = omega arith
longs_size (a ∷ b ∷ c ∷ []) = omega arith
longs_size (a ∷ b ∷ c ∷ d ∷ s) = let later = longs_size s in omega (arith, later)

framed_more : (m n : ℕ) → m ≤ n → framed_size m ≤ framed_size n
framed_more m n le =
    cond_both (leb m 255) (3 + m) (4 + m) (λ (k : ℕ). k ≤ framed_size n)
    (λ t. cond_both (leb n 255) (3 + n) (4 + n) (λ (k : ℕ). 3 + m ≤ k) (λ u. omega (arith, le)) (λ u. omega (arith, le)))
    (λ t. cond_both (leb n 255) (3 + n) (4 + n) (λ (k : ℕ). 4 + m ≤ k) (λ u. let a : 255 < m = leb-false m 255 t in let b : n ≤ 255 = leb-true n 255 u in omega (arith, a, b, le)) (λ u. omega (arith, le)))

written_size : (flags number n : ℕ) (inner : List ℕ) → length inner ≤ n → length (written.attribute flags number inner) ≤ framed_size n
written_size flags number n inner le = subst (λ (k : ℕ). k ≤ framed_size n) (sym (attribute_length flags number inner)) (framed_more (length inner) n le)

wide_value_size : (ss : List Segment) (n : ℕ) → size wide_segment_octets ss ≤ n → length (octets_of (wide_value ss)) ≤ framed_size n
wide_value_size [] n le = omega arith
wide_value_size (s ∷ ss) n le = written_size 192 17 n (flat_map wide_segment_octets (s ∷ ss)) le

is_wide_size : (inner : List ℕ) (x : Attribute) → IsWide inner x → length (octets_of x) ≤ framed_size (length inner)
is_wide_size inner x (inl w) = subst (λ (y : Attribute). length (octets_of y) ≤ framed_size (length inner)) (sym w.2) (wide_value_size w.0 (length inner) (wide_path_size inner w.0 w.1))
is_wide_size inner x (inr w) = subst (λ (y : Attribute). length (octets_of y) ≤ framed_size (length inner)) (sym w.2) (omega arith)

known_size : (type : AttributeType) (partial : Bool) (inner b : List ℕ) (x : Attribute) → has_length (type_length type) (length inner) ≡ true → (known_value type partial inner).Spells b x → length (octets_of x) ≤ framed_size (length inner)
unfolding ◌>>=◌
known_size types.Origin partial inner b x len sp = let n : length inner ≡ 1 = eqb-true _ _ len in subst (λ (y : Attribute). length (octets_of y) ≤ framed_size (length inner)) (sym sp.5.1) (written_size 64 1 (length inner) (big_endian inner ∷ []) (omega (arith, n)))
known_size types.AsPath partial inner b x len sp = subst (λ (y : Attribute). length (octets_of y) ≤ framed_size (length inner)) (sym sp.5.1) (written_size 64 2 (length inner) (flat_map segment_octets sp.2) (path_size inner sp.2 sp.4.1))
known_size types.NextHop partial inner b x len sp = let n : length inner ≡ 4 = eqb-true _ _ len in subst (λ (y : Attribute). length (octets_of y) ≤ framed_size (length inner)) (sym sp.5.1) (written_size 64 3 (length inner) (address_octets (address inner)) (omega (arith, n)))
known_size types.MultiExitDisc partial inner b x len sp = let n : length inner ≡ 4 = eqb-true _ _ len in subst (λ (y : Attribute). length (octets_of y) ≤ framed_size (length inner)) (sym sp.1) (written_size 128 4 (length inner) (long (big_endian inner)) (omega (arith, n)))
known_size types.LocalPref partial inner b x len sp = subst (λ (y : Attribute). length (octets_of y) ≤ framed_size (length inner)) (sym sp.1) (omega arith)
known_size types.AtomicAggregate partial inner b x len sp = subst (λ (y : Attribute). length (octets_of y) ≤ framed_size (length inner)) (sym sp.1) (written_size 64 6 (length inner) [] (omega arith))
known_size types.Aggregator partial inner b x len sp =
    let n : length inner ≡ 6 = eqb-true _ _ len in
    subst (λ (y : Attribute). length (octets_of y) ≤ framed_size (length inner)) (sym sp.1) (written_size (passed_on partial) 7 (length inner) (word (big_endian (take 2 inner)) ++ address_octets (address (drop 2 inner))) (omega (arith, n)))
known_size types.Communities partial inner b x len sp =
    subst (λ (y : Attribute). length (octets_of y) ≤ framed_size (length inner)) (sym sp.1) (written_size (passed_on partial) 8 (length inner) (flat_map long (longs inner)) (omega (arith, longs_len (longs inner), longs_size inner)))
known_size types.As4Path partial inner b x len sp = is_wide_size inner x sp.1

unknown_size : (transitive : Bool) (number : ℕ) (inner : List ℕ) → length (octets_of (unknown_value transitive number inner)) ≤ framed_size (length inner)
unknown_size true number inner = written_size 224 number (length inner) inner (omega arith)
unknown_size false number inner = omega arith

value_size : (t : Option AttributeType) (number flags : ℕ) (inner b : List ℕ) (x : Attribute) → (value t number flags inner).Spells b x → length (octets_of x) ≤ framed_size (length inner)
unfolding ◌>>=◌
value_size None number flags inner b x sp = subst (λ (y : Attribute). length (octets_of y) ≤ framed_size (length inner)) (sym sp.5.1) (unknown_size _ number inner)
value_size (Some type) number flags inner b x sp = known_size type _ inner _ x sp.5.4.1 sp.5.5

-- a length is at least one octet, and two where it is over 255
length_size : (long : Bool) (s : List ℕ) (n : ℕ) → AreOctets s → (value_length long).Spells s n → framed_size n ≤ 2 + length s + n
unfolding ◌>>=◌
length_size true s n h sp =
    let one = ap length sp.4 in
    let two = ap length sp.5.4 in
    let len : length s ≡ 2 + length sp.5.1 = omega (arith, one, two, ap length sp.3 ∙ length-append sp.0 sp.1, ap length sp.5.3 ∙ length-append sp.5.0 sp.5.1) in
    cond_both (leb n 255) (3 + n) (4 + n) (λ (k : ℕ). k ≤ 2 + length s + n) (λ t. omega (arith, len)) (λ t. omega (arith, len))
length_size false s n h sp =
    let len : length s ≡ 1 = ap length sp in
    let small : n < 256 = (subst AreOctets sp h).0 in
    cond_both (leb n 255) (3 + n) (4 + n) (λ (k : ℕ). k ≤ 2 + length s + n) (λ t. omega (arith, len)) (λ t. let more : 255 < n = leb-false n 255 t in omega (arith, small, more))

attribute_size : (seen : ℕ → Bool) (s : List ℕ) (x : Attribute) → AreOctets s → (attribute seen).Spells s x → length (octets_of x) ≤ length s
unfolding ◌>>=◌
attribute_size seen s x h sp =
    let h1 : AreOctets sp.1 = behind s sp.0 sp.1 sp.3 h in
    let sp1 = sp.5 in
    let h2 : AreOctets sp1.1 = behind _ sp1.0 sp1.1 sp1.3 h1 in
    let sp2 = sp1.5 in
    let len : AreOctets sp2.0 = front _ sp2.0 sp2.1 sp2.3 h2 in
    let sp3 = sp2.5 in
    let n : length sp3.2 ≡ sp2.2 = ap length sp3.4.1 ∙ sp3.4.0 in
    let inner : length (octets_of x) ≤ framed_size (length sp3.2) = value_size _ sp1.2 sp.2 sp3.2 _ x sp3.5.5 in
    let frame : framed_size sp2.2 ≤ 2 + length sp2.0 + sp2.2 = length_size _ sp2.0 sp2.2 len sp2.4 in
    let same : framed_size (length sp3.2) ≡ framed_size sp2.2 = ap (λ (k : ℕ). cond (leb k 255) (3 + k) (4 + k)) n in
    omega (
      arith,
      inner,
      frame,
      same,
      sp3.4.0,
      ap length sp.4,
      ap length sp1.4,
      ap length sp.3 ∙ length-append sp.0 sp.1,
      ap length sp1.3 ∙ length-append sp1.0 sp1.1,
      ap length sp2.3 ∙ length-append sp2.0 sp2.1,
      ap length sp3.3 ∙ length-append sp3.0 sp3.1,
    )

attributes_size : (seen : ℕ → Bool) (s : List ℕ) (xs : List Attribute) → AreOctets s → AllSpell attribute with_type seen s xs → size octets_of xs ≤ length s
attributes_size seen s [] h sp = omega arith
attributes_size seen s (x ∷ xs) h sp =
    let later = attributes_size (with_type seen x) sp.1 xs (behind s sp.0 sp.1 sp.2 h) sp.4 in
    omega (arith, later, attribute_size seen sp.0 x (front s sp.0 sp.1 sp.2 h) sp.3, ap length sp.2 ∙ length-append sp.0 sp.1, length-append (octets_of x) (flat_map octets_of xs))

-- ---- what is said

abbrev origin_size : Option ℕ → ℕ
origin_size None = 0
origin_size (Some n) = 4

abbrev next_hop_size : Option Ip → ℕ
next_hop_size None = 0
next_hop_size (Some ip) = 7

abbrev said_size : Said → ℕ
said_size s = length (unknown_octets s.unknown) + length (path_octets s.path) + wide_size s.wide + origin_size s.origin + next_hop_size s.next_hop
    + length (med_octets s.med) + length (atomic_octets s.atomic) + length (aggregator_octets s.aggregator) + length (communities_octets s.communities_partial s.communities)

communities_size : (partial : Bool) (cs : List ℕ) → length (communities_octets (partial && not (eqb (length cs) 0)) cs) ≤ length (octets_of (attributes.Communities partial cs))
communities_size partial [] = omega arith
communities_size partial (c ∷ cs) =
    let kept : (partial && not (eqb (length (c ∷ cs)) 0)) ≡ partial = ap (λ (b : Bool). partial && not b) (ne_eqb (length (c ∷ cs)) 0 (λ e. omega (arith, e))) ∙ and-true partial in
    let same : length (communities_octets (partial && not (eqb (length (c ∷ cs)) 0)) (c ∷ cs)) ≡ length (octets_of (attributes.Communities partial (c ∷ cs))) = ap (λ (b : Bool). length (communities_octets b (c ∷ cs))) kept in
    omega (arith, same)

unknown_more : (us : List Unknown) (u : Unknown) → length (unknown_octets (us ++ u ∷ [])) ≡ length (unknown_octets us) + length (written.attribute 224 u.kind u.value)
unknown_more [] u = omega (arith, length-append (written.attribute 224 u.kind u.value) [])
unknown_more (v ∷ us) u =
    omega (arith, unknown_more us u, length-append (written.attribute 224 v.kind v.value) (unknown_octets us), length-append (written.attribute 224 v.kind v.value) (unknown_octets (us ++ u ∷ [])))

more_size : (s : Said) (a : Attribute) → said_size (with_attribute s a) ≤ said_size s + length (octets_of a)
more_size s (attributes.Origin n) = omega arith
more_size s (attributes.AsPath ss) = omega arith
more_size s (attributes.NextHop ip) = omega arith
more_size s (attributes.MultiExitDisc n) = omega arith
more_size s attributes.LocalPref = omega arith
more_size s attributes.AtomicAggregate = omega arith
more_size s (attributes.Aggregator a) = omega arith
more_size s (attributes.Communities partial cs) = omega (arith, communities_size partial cs)
more_size s (attributes.As4Path ss) = omega arith
more_size s (attributes.Unknown u) = omega (arith, unknown_more s.unknown u)
more_size s (attributes.Ignored n) = omega arith

all_size : (s : Said) (all : List Attribute) → said_size (fold with_attribute s all) ≤ said_size s + size octets_of all
all_size s [] = omega arith
all_size s (a ∷ all) =
    let later = all_size (with_attribute s a) all in
    omega (arith, later, more_size s a, length-append (octets_of a) (flat_map octets_of all))

-- ---- the attributes of a route

module _ (s : Said) (a : Attrs) (k : AreSaid s a) where
  path_said : length (written.attribute 64 2 (flat_map segment_octets a.path)) ≤ length (path_octets s.path) + wide_size s.wide
  path_said = said_path_size s.path s.wide a.path k.path

  hops_said : hops a.path ≤ said_size s
  hops_said =
      let whole : size segment_octets a.path ≤ framed_size (size segment_octets a.path) =
      cond_both (leb (size segment_octets a.path) 255) (3 + size segment_octets a.path) (4 + size segment_octets a.path) (λ (j : ℕ). size segment_octets a.path ≤ j) (λ t. omega arith) (λ t. omega arith) in
      omega (arith, path_said, hops_size a.path, whole, attribute_length 64 2 (flat_map segment_octets a.path))

  attrs_size : has_wide a.path ≡ false → length (attrs_octets a) ≤ said_size s
  attrs_size narrow =
      let unknown : length (unknown_octets a.unknown) ≤ length (unknown_octets s.unknown) = fewer is_type_before type_itself (λ (u : Unknown). written.attribute 224 u.kind u.value) a.unknown s.unknown k.rising (λ u m. k.same.onto u m) in
      let origin : origin_size s.origin ≡ 4 = ap origin_size k.origin in
      let wide : length (wide_octets a.path) ≡ 0 = ap (λ (b : Bool). length (cond b (written.attribute 192 17 (flat_map wide_segment_octets a.path)) [])) narrow in
      let next_hop : next_hop_size s.next_hop ≡ 7 = ap next_hop_size k.next_hop in
      let med : length (med_octets a.med) ≡ length (med_octets s.med) = ap (λ (o : Option ℕ). length (med_octets o)) k.med in
      let atomic : length (atomic_octets a.atomic) ≡ length (atomic_octets s.atomic) = ap (λ (b : Bool). length (atomic_octets b)) k.atomic in
      let aggregator : length (aggregator_octets a.aggregator) ≡ length (aggregator_octets s.aggregator) = ap (λ o. length (aggregator_octets o)) k.aggregator in
      let communities : length (communities_octets a.communities_partial a.communities) ≡ length (communities_octets s.communities_partial s.communities) =
      ap (λ (b : Bool). length (communities_octets b a.communities)) k.communities_partial ∙ ap (λ (cs : List ℕ). length (communities_octets s.communities_partial cs)) k.communities in
      omega (arith, attrs_length a, unknown, origin, path_said, wide, next_hop, med, atomic, aggregator, communities)

optional_size : (s : Said) (ps : List Prefix) (a : Option Attrs) → AreAttrs s ps a → IfSome a (λ (b : Attrs). has_wide b.path ≡ false) → length (optional_attrs_octets a) ≤ said_size s
optional_size s ps None k narrow = omega arith
optional_size s [] (Some a) k narrow = absurd k
optional_size s (p ∷ ps) (Some a) k narrow = attrs_size s a k narrow

optional_hops : (s : Said) (ps : List Prefix) (a : Option Attrs) (most : ℕ) → AreAttrs s ps a → said_size s ≤ most → IfSome a (λ (b : Attrs). hops b.path ≤ most)
optional_hops s ps None most k le = tt
optional_hops s [] (Some a) most k le = absurd k
optional_hops s (p ∷ ps) (Some a) most k le = omega (arith, hops_said s a k, le)

-- ---- the message

-- the octets of the three blocks and those in front of them
record AreBlocks (n : ℕ) (s : List ℕ) (h : Head) : Type 0 where
  most : n ≤ 4096
  parts : 23 + size prefix_octets h.withdrawn + size octets_of h.attributes ≤ length s

two_len : {F : Type 0} (fault : F) (s : List ℕ) (n : ℕ) → (two_octets fault).Spells s n → length s ≡ 2
unfolding ◌>>=◌
two_len fault s n sp = omega (arith, ap length sp.4, ap length sp.5.4, ap length sp.5.5.0, ap length sp.3 ∙ length-append sp.0 sp.1, ap length sp.5.3 ∙ length-append sp.5.0 sp.5.1)

cut : (s a b : List ℕ) (k : ℕ) → s ≡ a ++ b → length a ≡ k → length s ≡ k + length b
cut s a b k e len = omega (arith, len, ap length e ∙ length-append a b)

head_blocks : (n : ℕ) (s : List ℕ) (h : Head) → AreOctets s → (head n).Spells s h → AreBlocks n s h
unfolding ◌>>=◌
head_blocks n s h octets sp =
    let h1 : AreOctets sp.1 = behind s sp.0 sp.1 sp.3 octets in
    let c0 : length s ≡ 16 + length sp.1 = cut s sp.0 sp.1 16 sp.3 sp.4.0 in
    let sp1 = sp.5 in
    let h2 : AreOctets sp1.1 = behind _ sp1.0 sp1.1 sp1.3 h1 in
    let c1 : length sp.1 ≡ 0 + length sp1.1 = cut _ sp1.0 sp1.1 0 sp1.3 (ap length sp1.4.0) in
    let sp2 = sp1.5 in
    let h3 : AreOctets sp2.1 = behind _ sp2.0 sp2.1 sp2.3 h2 in
    let c2 : length sp1.1 ≡ 2 + length sp2.1 = cut _ sp2.0 sp2.1 2 sp2.3 (two_len faults.BadHeader sp2.0 sp2.2 sp2.4) in
    let sp3 = sp2.5 in
    let h4 : AreOctets sp3.1 = behind _ sp3.0 sp3.1 sp3.3 h3 in
    let c3 : length sp2.1 ≡ 0 + length sp3.1 = cut _ sp3.0 sp3.1 0 sp3.3 (ap length sp3.4.0) in
    let bounds = and_parts (leb 19 sp2.2) (leb sp2.2 4096 && eqb sp2.2 n) sp3.4.1 in
    let above = and_parts (leb sp2.2 4096) (eqb sp2.2 n) bounds.1 in
    let is : sp2.2 ≡ n = eqb-true sp2.2 n above.1 in
    let most : sp2.2 ≤ 4096 = leb-true sp2.2 4096 above.0 in
    let sp4 = sp3.5 in
    let h5 : AreOctets sp4.1 = behind _ sp4.0 sp4.1 sp4.3 h4 in
    let c4 : length sp3.1 ≡ 1 + length sp4.1 = cut _ sp4.0 sp4.1 1 sp4.3 (ap length sp4.4) in
    let sp5 = sp4.5 in
    let h6 : AreOctets sp5.1 = behind _ sp5.0 sp5.1 sp5.3 h5 in
    let c5 : length sp4.1 ≡ 0 + length sp5.1 = cut _ sp5.0 sp5.1 0 sp5.3 (ap length sp5.4.0) in
    let sp6 = sp5.5 in
    let h7 : AreOctets sp6.1 = behind _ sp6.0 sp6.1 sp6.3 h6 in
    let c6 : length sp5.1 ≡ 0 + length sp6.1 = cut _ sp6.0 sp6.1 0 sp6.3 (ap length sp6.4.0) in
    let sp7 = sp6.5 in
    let h8 : AreOctets sp7.1 = behind _ sp7.0 sp7.1 sp7.3 h7 in
    let c7 : length sp6.1 ≡ 2 + length sp7.1 = cut _ sp7.0 sp7.1 2 sp7.3 (two_len faults.Malformed sp7.0 sp7.2 sp7.4) in
    let sp8 = sp7.5 in
    let h9 : AreOctets sp8.1 = behind _ sp8.0 sp8.1 sp8.3 h8 in
    let c8 : length sp7.1 ≡ 0 + length sp8.1 = cut _ sp8.0 sp8.1 0 sp8.3 (ap length sp8.4.0) in
    let sp9 = sp8.5 in
    let h10 : AreOctets sp9.1 = behind _ sp9.0 sp9.1 sp9.3 h9 in
    let c9 : length sp8.1 ≡ length sp9.2 + length sp9.1 = cut _ sp9.0 sp9.1 (length sp9.2) sp9.3 (ap length (sym sp9.4.1)) in
    let sp10 = sp9.5 in
    let h11 : AreOctets sp10.1 = behind _ sp10.0 sp10.1 sp10.3 h10 in
    let c10 : length sp9.1 ≡ 2 + length sp10.1 = cut _ sp10.0 sp10.1 2 sp10.3 (two_len faults.Malformed sp10.0 sp10.2 sp10.4) in
    let sp11 = sp10.5 in
    let h12 : AreOctets sp11.1 = behind _ sp11.0 sp11.1 sp11.3 h11 in
    let c11 : length sp10.1 ≡ 0 + length sp11.1 = cut _ sp11.0 sp11.1 0 sp11.3 (ap length sp11.4.0) in
    let sp12 = sp11.5 in
    let h13 : AreOctets sp12.1 = behind _ sp12.0 sp12.1 sp12.3 h12 in
    let c12 : length sp11.1 ≡ 0 + length sp12.1 = cut _ sp12.0 sp12.1 0 sp12.3 (ap length sp12.4.0) in
    let withdrawn : size prefix_octets sp12.2 ≤ length sp9.2 = prefixes_size sp9.2 sp12.2 sp12.4.1 in
    let sp13 = sp12.5 in
    let inner : AreOctets sp13.2 = subst AreOctets (sym sp13.4.1) (front _ sp13.0 sp13.1 sp13.3 h13) in
    let c13 : length sp12.1 ≡ length sp13.2 + length sp13.1 = cut _ sp13.0 sp13.1 (length sp13.2) sp13.3 (ap length (sym sp13.4.1)) in
    let last = sp13.5 in
    let attributes : size octets_of last.2 ≤ length sp13.2 = attributes_size _ sp13.2 last.2 inner last.4.1 in
    let upper : length s ≡ 19 + length sp6.1 = omega (arith, c0, c1, c2, c3, c4, c5, c6) in
    let lower : length sp6.1 ≡ 4 + length sp9.2 + length sp13.2 + length sp13.1 = omega (arith, c7, c8, c9, c10, c11, c12, c13) in
    subst (λ (x : Head). AreBlocks n s x) (sym last.5.1) (record { most = omega (arith, is, most); parts = omega (arith, upper, lower, withdrawn, attributes) })

module _ (b : List ℕ) (parts : Parts) (u : Update) (octets : AreOctets b) (sp : (message (length b)).Spells b parts) (k : IsUpdateOf parts u) where
  -- what is said takes no more than the octets that are left by the prefixes
  said_fits : 23 + size prefix_octets u.withdrawn + said_size (said parts.attributes) + size prefix_octets u.announced ≤ 4096
  said_fits =
      let blocks : AreBlocks (length b) sp.0 sp.2 = head_blocks (length b) sp.0 sp.2 (front b sp.0 sp.1 sp.4 octets) sp.5 in
      let most = blocks.most in
      let held = blocks.parts in
      let last : size prefix_octets sp.3 ≤ length sp.1 = prefixes_size sp.1 sp.3 sp.6 in
      let sum : length b ≡ length sp.0 + length sp.1 = ap length sp.4 ∙ length-append sp.0 sp.1 in
      let withdrawn : size prefix_octets u.withdrawn ≤ size prefix_octets sp.2.withdrawn =
      fewer is_before before_itself prefix_octets u.withdrawn sp.2.withdrawn k.withdrawn.rising (λ p m. subst (λ (x : Parts). Member p x.withdrawn) sp.8 (k.withdrawn.onto p m).stands) in
      let announced : size prefix_octets u.announced ≤ size prefix_octets sp.3 =
      fewer is_before before_itself prefix_octets u.announced sp.3 k.announced.rising (λ p m. subst (λ (x : Parts). Member p x.announced) sp.8 (k.announced.same.onto p m)) in
      let all = all_size nothing_said parts.attributes in
      let same : size octets_of parts.attributes ≡ size octets_of sp.2.attributes = ap (λ (x : Parts). size octets_of x.attributes) sp.8 in
      omega (arith, most, held, last, sum, withdrawn, announced, all, same)

  update_short : IfSome u.attrs (λ (a : Attrs). has_wide a.path ≡ false) → length (canonical u) ≤ 4096
  update_short narrow =
      let attrs = optional_size (said parts.attributes) parts.announced u.attrs k.attrs narrow in
      omega (arith, said_fits, attrs, message_length (prefixes_octets u.withdrawn) (optional_attrs_octets u.attrs) (prefixes_octets u.announced))

  update_hops : IfSome u.attrs (λ (a : Attrs). hops a.path ≤ 4096)
  update_hops = optional_hops (said parts.attributes) parts.announced u.attrs 4096 k.attrs (omega (arith, said_fits))

pub short_said : (b : List ℕ) (r : Result Update UpdateFault) → AreOctets b → IsDecoded b r → IfOk r (λ u. IfSome u.attrs (λ (a : Attrs). has_wide a.path ≡ false) → length (canonical u) ≤ 4096)
short_said b (Ok u) octets k = let s = spells_said b (Ok u) k in λ narrow. update_short b s.parts u octets s.spells s.value narrow
short_said b (Err e) octets k = tt

pub hops_counted : (b : List ℕ) (r : Result Update UpdateFault) → AreOctets b → IsDecoded b r → IfOk r (λ u. IfSome u.attrs (λ (a : Attrs). hops a.path ≤ 4096))
hops_counted b (Ok u) octets k = let s = spells_said b (Ok u) k in update_hops b s.parts u octets s.spells s.value
hops_counted b (Err e) octets k = tt
