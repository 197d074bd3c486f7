-- What is written of an attribute spells it.
use Rattle.std.proofs.Common.{◌≡◌, ℕ, ◌+◌, ◌*◌, ◌/◌, ◌%◌, ◌<◌, ◌≤◌, Bool, true, false, not, cond, List, [], ◌∷◌, ◌++◌, length, map, flat_map, leb, ltb, refl, sym, ap, subst, ◌∙◌, ◌||◌, inl, arith}
use Rattle.std.specs.Prelude.{None, ◌==◌}
use Rattle.std.proofs.lemmas.Bool.{and_from, cond_both, eq-eqb, le-leb, lt-ltb, ltb-true}
use Rattle.std.proofs.lemmas.List.{append-nil, length-append}
use Rattle.grammar.specs.Formats.{AllSpell, Format, ItemsSpell, ◌>>=◌, octet}
use Rattle.grammar.specs.Numbers.{big_endian, two_octets}
use Rattle.net_types.specs.AttributeTypes.{type_of}
use Rattle.net_types.specs.Octets.{address_octets, word}
use Rattle.net_types.specs.SoundUpdates.{IsSoundNextHop, IsSoundSegment}
use Rattle.net_types.specs.UpdateFormat.{attribute, is_long, known_value, longs, segment, segment_by, segment_of, value, number_of, value_length, wide_segment, wide_value, with_type, words}
use Rattle.net_types.specs.Updates as written
use Rattle.net_types.specs.Updates.{long, passed_on, segment_octets, short, wide_segment_octets}
use Rattle.net_types.specs.declared.address.Ip.{Ip}
use Rattle.net_types.specs.declared.attribute.Attribute.{Attribute}
use Rattle.net_types.specs.declared.attribute.Attribute.TheVariants as attributes
use Rattle.net_types.specs.declared.attribute.AttributeType.TheVariants as types
use Rattle.net_types.specs.declared.route.Segment.{Segment}
use Rattle.net_types.specs.declared.route.Segment.TheVariants.{Set, Sequence}
use Rattle.net_types.specs.declared.route.Unknown.{Unknown}
use Rattle.net_types.specs.declared.update.Fault.{Fault}
use Rattle.bgp_update.proofs.LengthSums.{attribute_length, longs_len, shorts_len}
use Rattle.bgp_update.specs.Answers.{AreNew}
use Rattle.net_types.specs.Sets.{Each}

-- one after another
pub then_spells : {F X Y : Type 0} (f : Format F X) (g : X → Format F Y) (a b : List ℕ) (x : X) (y : Y) → f.Spells a x → (g x).Spells b y → (f >>= g).Spells (a ++ b) y
unfolding ◌>>=◌
then_spells f g a b x y one two = (a, b, x, refl, one, two)

-- a number in two octets
word_is : (n : ℕ) → n < 65536 → n / 256 % 256 * 256 + n % 256 ≡ n
word_is n less = omega arith

pub two_spells : (fault : Fault) (n : ℕ) → n < 65536 → (two_octets fault).Spells (word n) n
two_spells fault n less =
    then_spells (octet fault) _ (n / 256 % 256 ∷ []) (n % 256 ∷ []) (n / 256 % 256) n refl
    (then_spells (octet fault) _ (n % 256 ∷ []) [] (n % 256) n refl (refl, sym (word_is n less)))

-- ---- lists of numbers

-- what AS_PATH tells of a number
abbrev pub told : ℕ → ℕ
told n = cond (ltb n 65536) n 23456

pub told_small : (n : ℕ) → told n < 65536
told_small n = cond_both (ltb n 65536) n 23456 (λ (m : ℕ). m < 65536) (λ t. ltb-true n 65536 t) (λ t. omega arith)

pub told_same : (n : ℕ) → n < 65536 → told n ≡ n
told_same n less = ap (λ (b : Bool). let m : ℕ = cond b n 23456 in m) (lt-ltb n 65536 less)

word_back : (n : ℕ) → n < 65536 → (0 * 256 + n / 256 % 256) * 256 + n % 256 ≡ n
word_back n less = omega arith

shorts_back : (ns : List ℕ) → words (flat_map short ns) ≡ map told ns
shorts_back [] = refl
shorts_back (n ∷ ns) = ap (λ (m : ℕ). m ∷ words (flat_map short ns)) (word_back (told n) (told_small n)) ∙ ap (λ (ms : List ℕ). told n ∷ ms) (shorts_back ns)

long_is : (n : ℕ) → n < 4294967296 → big_endian (long n) ≡ n
long_is n less = omega arith

longs_back : (ns : List ℕ) → Each (λ n. n < 4294967296) ns → longs (flat_map long ns) ≡ ns
longs_back [] h = refl
longs_back (n ∷ ns) h = ap (λ (m : ℕ). m ∷ longs (flat_map long ns)) (long_is n h.0) ∙ ap (λ (ms : List ℕ). n ∷ ms) (longs_back ns h.1)

address_is : (n : ℕ) → n < 4294967296 → big_endian (address_octets (record { 0 = n })) ≡ n
address_is n less = omega arith

-- ---- segments

-- a segment's type and its numbers
segment_spells_as : (size : ℕ) (numbers : List ℕ → List ℕ) (kind : ℕ) (ns t : List ℕ) (s : Segment) → ((kind == 1) || (kind == 2)) ≡ true → 1 ≤ length ns → length ns ≤ 255
    → length t ≡ length ns * size → segment_of kind (numbers t) ≡ s → (segment_by size numbers).Spells (kind ∷ length ns % 256 ∷ t) s
segment_spells_as size numbers kind ns t s is some few fill e =
    let small : length ns % 256 ≡ length ns = omega arith in
    let len : length t ≡ length ns % 256 * size = fill ∙ ap (λ (k : ℕ). k * size) (sym small) in
    let positive : leb 1 (length ns % 256) ≡ true = le-leb 1 (length ns % 256) (omega (arith, small, some)) in
    subst (λ (u : List ℕ). (segment_by size numbers).Spells (kind ∷ length ns % 256 ∷ u) s) (append-nil t)
    (then_spells _ _ (kind ∷ []) (length ns % 256 ∷ t ++ []) kind s refl
    (then_spells _ _ [] (length ns % 256 ∷ t ++ []) tt s (refl, is)
    (then_spells _ _ (length ns % 256 ∷ []) (t ++ []) (length ns % 256) s refl
    (then_spells _ _ [] (t ++ []) tt s (refl, positive)
    (then_spells _ _ t [] t s (len, refl) (refl, sym e))))))

-- what AS_PATH tells of a segment
abbrev pub told_segment : Segment → Segment
told_segment (Set ns) = Set (map told ns)
told_segment (Sequence ns) = Sequence (map told ns)

segment_spells : (s : Segment) → IsSoundSegment s → segment.Spells (segment_octets s) (told_segment s)
segment_spells (Set ns) h = segment_spells_as 2 words 1 ns (flat_map short ns) (Set (map told ns)) refl h.some h.few (omega (arith, shorts_len ns)) (ap (λ (ms : List ℕ). Set ms) (shorts_back ns))
segment_spells (Sequence ns) h = segment_spells_as 2 words 2 ns (flat_map short ns) (Sequence (map told ns)) refl h.some h.few (omega (arith, shorts_len ns)) (ap (λ (ms : List ℕ). Sequence ms) (shorts_back ns))

path_spells : (ss : List Segment) → Each IsSoundSegment ss → ItemsSpell segment (flat_map segment_octets ss) (map told_segment ss)
path_spells [] h = refl
path_spells (s ∷ ss) h = (segment_octets s, flat_map segment_octets ss, refl, segment_spells s h.0, path_spells ss h.1)

wide_segment_spells : (s : Segment) → IsSoundSegment s → wide_segment.Spells (wide_segment_octets s) s
wide_segment_spells (Set ns) h = segment_spells_as 4 longs 1 ns (flat_map long ns) (Set ns) refl h.some h.few (omega (arith, longs_len ns)) (ap (λ (ms : List ℕ). Set ms) (longs_back ns h.asns))
wide_segment_spells (Sequence ns) h = segment_spells_as 4 longs 2 ns (flat_map long ns) (Sequence ns) refl h.some h.few (omega (arith, longs_len ns)) (ap (λ (ms : List ℕ). Sequence ms) (longs_back ns h.asns))

wide_path_spells : (ss : List Segment) → Each IsSoundSegment ss → ItemsSpell wide_segment (flat_map wide_segment_octets ss) ss
wide_path_spells [] h = refl
wide_path_spells (s ∷ ss) h = (wide_segment_octets s, flat_map wide_segment_octets ss, refl, wide_segment_spells s h.0, wide_path_spells ss h.1)

-- what is told of a path is written as the path is
shorts_told : (ns : List ℕ) → flat_map short (map told ns) ≡ flat_map short ns
shorts_told [] = refl
shorts_told (n ∷ ns) = ap (λ (m : ℕ). word m ++ flat_map short (map told ns)) (told_same (told n) (told_small n)) ∙ ap (λ (t : List ℕ). short n ++ t) (shorts_told ns)

pub length_told : (ns : List ℕ) → length (map told ns) ≡ length ns
length_told [] = refl
length_told (n ∷ ns) = let later : length (map told ns) ≡ length ns = length_told ns in omega (arith, later)

segment_told : (s : Segment) → segment_octets (told_segment s) ≡ segment_octets s
segment_told (Set ns) = ap (λ (k : ℕ). 1 ∷ k % 256 ∷ flat_map short (map told ns)) (length_told ns) ∙ ap (λ (t : List ℕ). 1 ∷ length ns % 256 ∷ t) (shorts_told ns)
segment_told (Sequence ns) = ap (λ (k : ℕ). 2 ∷ k % 256 ∷ flat_map short (map told ns)) (length_told ns) ∙ ap (λ (t : List ℕ). 2 ∷ length ns % 256 ∷ t) (shorts_told ns)

pub path_told : (ss : List Segment) → flat_map segment_octets (map told_segment ss) ≡ flat_map segment_octets ss
path_told [] = refl
path_told (s ∷ ss) = ap (λ (t : List ℕ). t ++ flat_map segment_octets (map told_segment ss)) (segment_told s) ∙ ap (λ (t : List ℕ). segment_octets s ++ t) (path_told ss)

-- ---- attributes

-- an attribute whose type hasn't come and whose value is right with its flags, with and without that of a long length
pub attribute_spells : (seen : ℕ → Bool) (flags number : ℕ) (inner : List ℕ) (x : Attribute) → is_long flags ≡ false → is_long (flags + 16) ≡ true → length inner < 65536 → seen number ≡ false
    → (value (type_of number) number flags inner).Spells [] x → (value (type_of number) number (flags + 16) inner).Spells [] x
    → (attribute seen).Spells (written.attribute flags number inner) x
attribute_spells seen flags number inner x short lengthy less new plain extended =
    cond_both (leb (length inner) 255) (flags ∷ number ∷ length inner ∷ inner) ((flags + 16) ∷ number ∷ word (length inner) ++ inner) (λ (s : List ℕ). (attribute seen).Spells s x)
    (λ t. built flags (length inner ∷ []) (subst (λ (b : Bool). (value_length b).Spells (length inner ∷ []) (length inner)) (sym short) refl) plain)
    (λ t. built (flags + 16) (word (length inner)) (subst (λ (b : Bool). (value_length b).Spells (word (length inner)) (length inner)) (sym lengthy) (two_spells _ (length inner) less)) extended)
  where
    built : (f : ℕ) (len : List ℕ) → (value_length (is_long f)).Spells len (length inner) → (value (type_of number) number f inner).Spells [] x → (attribute seen).Spells (f ∷ number ∷ len ++ inner) x
    built f len spelled right =
        subst (λ (t : List ℕ). (attribute seen).Spells (f ∷ number ∷ len ++ t) x) (append-nil inner)
        (then_spells _ _ (f ∷ []) (number ∷ (len ++ (inner ++ []))) f x refl
        (then_spells _ _ (number ∷ []) (len ++ (inner ++ [])) number x refl
        (then_spells _ _ len (inner ++ []) (length inner) x spelled
        (then_spells _ _ inner [] inner x (refl, refl)
        (then_spells _ _ [] [] tt x (refl, ap not new) right)))))

-- no unknown type is that of a length over the limit: what is unknown is optional and passed on
unknown_spells : (seen : ℕ → Bool) (u : Unknown) → type_of u.kind ≡ None → length u.value < 65536 → seen u.kind ≡ false → (attribute seen).Spells (written.attribute 224 u.kind u.value) (attributes.Unknown u)
unknown_spells seen u none less new =
    attribute_spells seen 224 u.kind u.value (attributes.Unknown u) refl refl less new
    (subst (λ t. (value t u.kind 224 u.value).Spells [] (attributes.Unknown u)) (sym none) (then_spells _ _ [] [] tt _ (refl, refl) (refl, refl)))
    (subst (λ t. (value t u.kind 240 u.value).Spells [] (attributes.Unknown u)) (sym none) (then_spells _ _ [] [] tt _ (refl, refl) (refl, refl)))

-- a value of the table, of which the flags and the length are right
known_spells : (seen : ℕ → Bool) (flags number : ℕ) (inner : List ℕ) (x : Attribute) → is_long flags ≡ false → is_long (flags + 16) ≡ true → length inner < 65536 → seen number ≡ false
    → (value (type_of number) number flags inner).Spells [] x → (value (type_of number) number (flags + 16) inner).Spells [] x → (attribute seen).Spells (written.attribute flags number inner) x
known_spells seen flags number inner x a b c d e f = attribute_spells seen flags number inner x a b c d e f

origin_spells : (seen : ℕ → Bool) (n : ℕ) → n ≤ 2 → seen 1 ≡ false → (attribute seen).Spells (written.attribute 64 1 (n ∷ [])) (attributes.Origin n)
origin_spells seen n le new =
    let is : big_endian (n ∷ []) ≡ n = omega arith in
    let small : leb (big_endian (n ∷ [])) 2 ≡ true = le-leb _ 2 (omega arith) in
    let right : (known_value types.Origin false (n ∷ [])).Spells [] (attributes.Origin n) = then_spells _ _ [] [] tt _ (refl, small) (refl, ap (λ (m : ℕ). attributes.Origin m) (sym is)) in
    known_spells seen 64 1 (n ∷ []) (attributes.Origin n) refl refl (omega arith) new
    (then_spells _ _ [] [] tt _ (refl, refl) (then_spells _ _ [] [] tt _ (refl, refl) right))
    (then_spells _ _ [] [] tt _ (refl, refl) (then_spells _ _ [] [] tt _ (refl, refl) right))

path_attribute_spells : (seen : ℕ → Bool) (ss : List Segment) → Each IsSoundSegment ss → length (flat_map segment_octets ss) < 65536 → seen 2 ≡ false
    → (attribute seen).Spells (written.attribute 64 2 (flat_map segment_octets ss)) (attributes.AsPath (map told_segment ss))
path_attribute_spells seen ss sound less new =
    let right : (known_value types.AsPath false (flat_map segment_octets ss)).Spells [] (attributes.AsPath (map told_segment ss)) = then_spells _ _ [] [] (map told_segment ss) _ (refl, path_spells ss sound) (refl, refl) in
    known_spells seen 64 2 (flat_map segment_octets ss) (attributes.AsPath (map told_segment ss)) refl refl less new
    (then_spells _ _ [] [] tt _ (refl, refl) (then_spells _ _ [] [] tt _ (refl, refl) right))
    (then_spells _ _ [] [] tt _ (refl, refl) (then_spells _ _ [] [] tt _ (refl, refl) right))

told_spells : (seen : ℕ → Bool) (ss told : List Segment) → Each IsSoundSegment ss → told ≡ map told_segment ss → length (flat_map segment_octets told) < 65536 → seen 2 ≡ false
    → (attribute seen).Spells (written.attribute 64 2 (flat_map segment_octets told)) (attributes.AsPath told)
told_spells seen ss told sound e less new =
    let same : flat_map segment_octets told ≡ flat_map segment_octets ss = ap (λ (ts : List Segment). flat_map segment_octets ts) e ∙ path_told ss in
    subst (λ (ts : List Segment). (attribute seen).Spells (written.attribute 64 2 (flat_map segment_octets told)) (attributes.AsPath ts)) (sym e)
    (subst (λ (t : List ℕ). (attribute seen).Spells (written.attribute 64 2 t) (attributes.AsPath (map told_segment ss))) (sym same)
    (path_attribute_spells seen ss sound (subst (λ (t : List ℕ). length t < 65536) same less) new))

wide_is_value : (ss : List Segment) → 1 ≤ length ss → attributes.As4Path ss ≡ wide_value ss
wide_is_value [] some = absurd (omega (arith, some))
wide_is_value (s ∷ ss) some = refl

wide_attribute_spells : (seen : ℕ → Bool) (ss : List Segment) → Each IsSoundSegment ss → 1 ≤ length ss → length (flat_map wide_segment_octets ss) < 65536 → seen 17 ≡ false
    → (attribute seen).Spells (written.attribute 192 17 (flat_map wide_segment_octets ss)) (attributes.As4Path ss)
wide_attribute_spells seen ss sound some less new =
    let right : (known_value types.As4Path false (flat_map wide_segment_octets ss)).Spells [] (attributes.As4Path ss) = (refl, inl (ss, wide_path_spells ss sound, wide_is_value ss some)) in
    known_spells seen 192 17 (flat_map wide_segment_octets ss) (attributes.As4Path ss) refl refl less new
    (then_spells _ _ [] [] tt _ (refl, refl) (then_spells _ _ [] [] tt _ (refl, refl) right))
    (then_spells _ _ [] [] tt _ (refl, refl) (then_spells _ _ [] [] tt _ (refl, refl) right))

next_hop_spells : (seen : ℕ → Bool) (ip : Ip) → IsSoundNextHop ip → seen 3 ≡ false → (attribute seen).Spells (written.attribute 64 3 (address_octets ip)) (attributes.NextHop ip)
next_hop_spells seen ip sound new =
    let low = sound.low in
    let high = sound.high in
    let is : big_endian (address_octets ip) ≡ ip.0 = omega arith in
    let one : leb 1 (ip.0 / 16777216) ≡ true = le-leb 1 (ip.0 / 16777216) (omega arith) in
    let two : ltb (ip.0 / 16777216) 224 ≡ true = lt-ltb (ip.0 / 16777216) 224 (omega arith) in
    let right : (known_value types.NextHop false (address_octets ip)).Spells [] (attributes.NextHop ip) = then_spells _ _ [] [] tt _ (refl, and_from _ _ one two) (refl, ap (λ (m : ℕ). attributes.NextHop (record { 0 = m })) (sym is)) in
    known_spells seen 64 3 (address_octets ip) (attributes.NextHop ip) refl refl (omega arith) new
    (then_spells _ _ [] [] tt _ (refl, refl) (then_spells _ _ [] [] tt _ (refl, refl) right))
    (then_spells _ _ [] [] tt _ (refl, refl) (then_spells _ _ [] [] tt _ (refl, refl) right))

med_spells : (seen : ℕ → Bool) (n : ℕ) → n < 4294967296 → seen 4 ≡ false → (attribute seen).Spells (written.attribute 128 4 (long n)) (attributes.MultiExitDisc n)
med_spells seen n less new =
    let right : (known_value types.MultiExitDisc false (long n)).Spells [] (attributes.MultiExitDisc n) = (refl, ap (λ (m : ℕ). attributes.MultiExitDisc m) (sym (long_is n less))) in
    known_spells seen 128 4 (long n) (attributes.MultiExitDisc n) refl refl (omega arith) new
    (then_spells _ _ [] [] tt _ (refl, refl) (then_spells _ _ [] [] tt _ (refl, refl) right))
    (then_spells _ _ [] [] tt _ (refl, refl) (then_spells _ _ [] [] tt _ (refl, refl) right))

atomic_spells : (seen : ℕ → Bool) → seen 6 ≡ false → (attribute seen).Spells (written.attribute 64 6 []) attributes.AtomicAggregate
atomic_spells seen new =
    known_spells seen 64 6 [] attributes.AtomicAggregate refl refl (omega arith) new
    (then_spells _ _ [] [] tt _ (refl, refl) (then_spells _ _ [] [] tt _ (refl, refl) (refl, refl)))
    (then_spells _ _ [] [] tt _ (refl, refl) (then_spells _ _ [] [] tt _ (refl, refl) (refl, refl)))

aggregator_is : (partial : Bool) (asn ip : ℕ) → asn < 65536 → ip < 4294967296
    → attributes.Aggregator (record { partial = partial; asn = asn; ip = record { 0 = ip } }) ≡ attributes.Aggregator (record { partial = partial; asn = big_endian (word asn); ip = record { 0 = big_endian (address_octets (record { 0 = ip })) } })
aggregator_is partial asn ip a b =
    let e : asn ≡ big_endian (word asn) = omega arith in
    let f : ip ≡ big_endian (address_octets (record { 0 = ip })) = sym (address_is ip b) in
    λ i. attributes.Aggregator (record { partial = partial; asn = e i; ip = record { 0 = f i } })

aggregator_spells_as : (seen : ℕ → Bool) (partial : Bool) (asn ip : ℕ) → asn < 65536 → ip < 4294967296 → seen 7 ≡ false
    → (attribute seen).Spells (written.attribute (passed_on partial) 7 (word asn ++ address_octets (record { 0 = ip }))) (attributes.Aggregator (record { partial = partial; asn = asn; ip = record { 0 = ip } }))
aggregator_spells_as seen true asn ip a b new =
    known_spells seen 224 7 (word asn ++ address_octets (record { 0 = ip })) _ refl refl (omega arith) new
    (then_spells _ _ [] [] tt _ (refl, refl) (then_spells _ _ [] [] tt _ (refl, refl) (refl, aggregator_is true asn ip a b)))
    (then_spells _ _ [] [] tt _ (refl, refl) (then_spells _ _ [] [] tt _ (refl, refl) (refl, aggregator_is true asn ip a b)))
aggregator_spells_as seen false asn ip a b new =
    known_spells seen 192 7 (word asn ++ address_octets (record { 0 = ip })) _ refl refl (omega arith) new
    (then_spells _ _ [] [] tt _ (refl, refl) (then_spells _ _ [] [] tt _ (refl, refl) (refl, aggregator_is false asn ip a b)))
    (then_spells _ _ [] [] tt _ (refl, refl) (then_spells _ _ [] [] tt _ (refl, refl) (refl, aggregator_is false asn ip a b)))

communities_spells : (seen : ℕ → Bool) (partial : Bool) (cs : List ℕ) → Each (λ n. n < 4294967296) cs → length (flat_map long cs) < 65536 → seen 8 ≡ false
    → (attribute seen).Spells (written.attribute (passed_on partial) 8 (flat_map long cs)) (attributes.Communities partial cs)
communities_spells seen partial cs fit less new = go partial
  where
    four : (length (flat_map long cs) % 4 == 0) ≡ true
    four = eq-eqb (length (flat_map long cs) % 4) 0 (omega (arith, longs_len cs))

    is : (b : Bool) → attributes.Communities b cs ≡ attributes.Communities b (longs (flat_map long cs))
    is b = ap (λ (ns : List ℕ). attributes.Communities b ns) (sym (longs_back cs fit))

    go : (b : Bool) → (attribute seen).Spells (written.attribute (passed_on b) 8 (flat_map long cs)) (attributes.Communities b cs)
    go true = known_spells seen 224 8 (flat_map long cs) (attributes.Communities true cs) refl refl less new
        (then_spells _ _ [] [] tt _ (refl, refl) (then_spells _ _ [] [] tt _ (refl, four) (refl, is true)))
        (then_spells _ _ [] [] tt _ (refl, refl) (then_spells _ _ [] [] tt _ (refl, four) (refl, is true)))
    go false = known_spells seen 192 8 (flat_map long cs) (attributes.Communities false cs) refl refl less new
        (then_spells _ _ [] [] tt _ (refl, refl) (then_spells _ _ [] [] tt _ (refl, four) (refl, is false)))
        (then_spells _ _ [] [] tt _ (refl, refl) (then_spells _ _ [] [] tt _ (refl, four) (refl, is false)))

-- ---- all attributes

-- what is written of an attribute
abbrev pub octets_of : Attribute → List ℕ
octets_of (attributes.Origin n) = written.attribute 64 1 (n ∷ [])
octets_of (attributes.AsPath ss) = written.attribute 64 2 (flat_map segment_octets ss)
octets_of (attributes.NextHop ip) = written.attribute 64 3 (address_octets ip)
octets_of (attributes.MultiExitDisc n) = written.attribute 128 4 (long n)
octets_of attributes.LocalPref = []
octets_of attributes.AtomicAggregate = written.attribute 64 6 []
octets_of (attributes.Aggregator a) = written.attribute (passed_on a.partial) 7 (word a.asn ++ address_octets a.ip)
octets_of (attributes.Communities partial cs) = written.attribute (passed_on partial) 8 (flat_map long cs)
octets_of (attributes.As4Path ss) = written.attribute 192 17 (flat_map wide_segment_octets ss)
octets_of (attributes.Unknown u) = written.attribute 224 u.kind u.value
octets_of (attributes.Ignored n) = []

-- its value is one that the checks take
abbrev pub IsTaken : Attribute → Type 0
IsTaken (attributes.Origin n) = n ≤ 2
IsTaken (attributes.AsPath ss) = (path : List Segment) × Each IsSoundSegment path × (ss ≡ map told_segment path)
IsTaken (attributes.NextHop ip) = IsSoundNextHop ip
IsTaken (attributes.MultiExitDisc n) = n < 4294967296
IsTaken attributes.LocalPref = ⊥
IsTaken attributes.AtomicAggregate = Unit {0}
IsTaken (attributes.Aggregator a) = (a.asn < 65536) × (a.ip.0 < 4294967296)
IsTaken (attributes.Communities partial cs) = Each (λ n. n < 4294967296) cs
IsTaken (attributes.As4Path ss) = Each IsSoundSegment ss × (1 ≤ length ss)
IsTaken (attributes.Unknown u) = type_of u.kind ≡ None
IsTaken (attributes.Ignored n) = ⊥

within : (flags number : ℕ) (value : List ℕ) → length (written.attribute flags number value) < 65536 → length value < 65536
within flags number value less = let e = attribute_length flags number value in inside (leb (length value) 255) (sym e)
  where
    inside : (b : Bool) → cond b (3 + length value) (4 + length value) ≡ length (written.attribute flags number value) → length value < 65536
    inside true e = omega (arith, e, less)
    inside false e = omega (arith, e, less)

pub taken_spells : (seen : ℕ → Bool) (x : Attribute) → IsTaken x → length (octets_of x) < 65536 → seen (number_of x) ≡ false → (attribute seen).Spells (octets_of x) x
taken_spells seen (attributes.Origin n) h less new = origin_spells seen n h new
taken_spells seen (attributes.AsPath ss) h less new = told_spells seen h.0 ss h.1 h.2 (within 64 2 (flat_map segment_octets ss) less) new
taken_spells seen (attributes.NextHop ip) h less new = next_hop_spells seen ip h new
taken_spells seen (attributes.MultiExitDisc n) h less new = med_spells seen n h new
taken_spells seen attributes.LocalPref h less new = absurd h
taken_spells seen attributes.AtomicAggregate h less new = atomic_spells seen new
taken_spells seen (attributes.Aggregator a) h less new = aggregator_spells_as seen a.partial a.asn a.ip.0 h.0 h.1 new
taken_spells seen (attributes.Communities partial cs) h less new = communities_spells seen partial cs h (within (passed_on partial) 8 (flat_map long cs) less) new
taken_spells seen (attributes.As4Path ss) h less new = wide_attribute_spells seen ss h.0 h.1 (within 192 17 (flat_map wide_segment_octets ss) less) new
taken_spells seen (attributes.Unknown u) h less new = unknown_spells seen u h (within 224 u.kind u.value less) new
taken_spells seen (attributes.Ignored n) h less new = absurd h

pub all_spell : (seen : ℕ → Bool) (xs : List Attribute) → Each IsTaken xs → AreNew seen xs → length (flat_map octets_of xs) < 65536 → AllSpell attribute with_type seen (flat_map octets_of xs) xs
all_spell seen [] h new less = refl
all_spell seen (x ∷ xs) h new less =
    let sum = length-append (octets_of x) (flat_map octets_of xs) in
    (octets_of x, flat_map octets_of xs, refl, taken_spells seen x h.0 (omega (arith, sum, less)) new.0, all_spell (with_type seen x) xs h.1 new.1 (omega (arith, sum, less)))
