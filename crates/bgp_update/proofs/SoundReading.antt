-- What octets spell has the form of what messages may say.
use Rattle.std.proofs.Common.{◌≡◌, ℕ, suc, zero, ◌+◌, ◌-◌, ◌*◌, ◌<◌, ◌≤◌, leb, ltb, Bool, true, false, not, cond, List, [], ◌∷◌, ◌++◌, length, take, eqb, refl, sym, ap, subst, ◌∙◌, inl, inr, arith}
use Rattle.std.specs.Prelude.{Option, Some, None, Result, Ok, Err, IfOk, ◌&&◌, slice_index}
use Rattle.std.specs.List.{fold}
use Rattle.std.specs.Option.{option_map}
use Rattle.std.proofs.lemmas.Bool.{and_parts, eqb-true, leb-false, leb-true, ltb-true}
use Rattle.std.proofs.lemmas.List.{length-append, length-take}
use Rattle.grammar.specs.Formats.{AllSpell, ItemsSpell, ◌>>=◌}
use Rattle.grammar.specs.Numbers.{big_endian}
use Rattle.net_types.specs.AttributeTypes.{has_length, type_length, type_of}
use Rattle.net_types.proofs.SetLemmas.{empty_same, same_sym}
use Rattle.net_types.specs.Paths.{hops, joined, leading, merged_sequence, whole_path}
use Rattle.net_types.specs.Sets.{Each, SameMembers}
use Rattle.net_types.specs.SoundUpdates.{AreSoundAttrs, HasSoundAttrs, IsSoundAggregator, IsSoundNextHop, IsSoundSegment, IsSoundUpdate}
use Rattle.net_types.specs.UpdateFormat.{Head, IsWide, Parts, address, attribute, head, known_value, longs, message, segment, segment_by, segment_of, unknown_value, value, wide_segment, wide_value, with_type, words}
use Rattle.net_types.specs.UpdateSpelling.{AreAttrs, AreSaid, IsUpdateOf, Spells}
use Rattle.net_types.specs.UpdateValue.{Said, nothing_said, said, with_attribute}
use Rattle.net_types.specs.declared.attribute.Attribute.{Attribute}
use Rattle.net_types.specs.declared.attribute.Attribute.TheVariants as attributes
use Rattle.net_types.specs.declared.attribute.AttributeType.{AttributeType}
use Rattle.net_types.specs.declared.attribute.AttributeType.TheVariants as types
use Rattle.net_types.specs.declared.prefix.Prefix.{Prefix}
use Rattle.net_types.specs.declared.route.Attrs.{Attrs}
use Rattle.net_types.specs.declared.route.Segment.{Segment}
use Rattle.net_types.specs.declared.route.Segment.TheVariants.{Set, Sequence}
use Rattle.net_types.specs.declared.route.Unknown.{Unknown}
use Rattle.net_types.specs.declared.update.Update.{Update}
use Rattle.bgp_update.proofs.Decoded.{spells_said}
use Rattle.bgp_update.proofs.PathLists.{joined_more}
use Rattle.bgp_update.specs.Answers.{IsDecoded}
use Rattle.bgp_update.specs.declared.fault.UpdateFault.{UpdateFault}
use Rattle.net_types.proofs.MemberLemmas.{each_append, each_of, of_each}

-- each number is an octet
abbrev pub AreOctets : List ℕ → Type 0
AreOctets s = Each (λ c. c < 256) s

each_front : {A : Type 0} (P : A → Type 0) (a b : List A) → Each P (a ++ b) → Each P a
each_front P [] b h = tt
each_front P (x ∷ a) b h = (h.0, each_front P a b h.1)

each_back : {A : Type 0} (P : A → Type 0) (a b : List A) → Each P (a ++ b) → Each P b
each_back P [] b h = h
each_back P (x ∷ a) b h = each_back P a b h.1

pub front : (s a b : List ℕ) → s ≡ a ++ b → AreOctets s → AreOctets a
front s a b e h = each_front (λ c. c < 256) a b (subst AreOctets e h)

pub behind : (s a b : List ℕ) → s ≡ a ++ b → AreOctets s → AreOctets b
behind s a b e h = each_back (λ c. c < 256) a b (subst AreOctets e h)

-- ---- segments

words_fit : (s : List ℕ) → AreOctets s → Each (λ n. n < 4294967296) (words s)
words_fit [] h = tt
words_fit (a ∷ []) h = tt
words_fit (a ∷ b ∷ s) h = let one : a < 256 = h.0 in let two : b < 256 = h.1.0 in (omega (arith, one, two), words_fit s h.1.1)

longs_fit : (s : List ℕ) → AreOctets s → Each (λ n. n < 4294967296) (longs s)
longs_fit [] h = tt
longs_fit (a ∷ []) h = tt
longs_fit (a ∷ b ∷ []) h = tt
longs_fit (a ∷ b ∷ c ∷ []) h = tt
longs_fit (a ∷ b ∷ c ∷ d ∷ s) h =
    let one : a < 256 = h.0 in
    let two : b < 256 = h.1.0 in
    let three : c < 256 = h.1.1.0 in
    let four : d < 256 = h.1.1.1.0 in
    (omega (arith, one, two, three, four), longs_fit s h.1.1.1.1)

pub words_count : (n : ℕ) (s : List ℕ) → length s ≡ n * 2 → length (words s) ≡ n
words_count zero [] e = refl
words_count zero (a ∷ s) e = absurd (omega (arith, e))
words_count (suc n) [] e = absurd (omega (arith, e))
words_count (suc n) (a ∷ []) e = absurd (omega (arith, e))
words_count (suc n) (a ∷ b ∷ s) e = let rest : length (words s) ≡ n = words_count n s (omega (arith, e)) in omega (arith, rest)

pub longs_count : (n : ℕ) (s : List ℕ) → length s ≡ n * 4 → length (longs s) ≡ n
longs_count zero [] e = refl
longs_count zero (a ∷ s) e = absurd (omega (arith, e))
longs_count (suc n) [] e = absurd (omega (arith, e))
longs_count (suc n) (a ∷ []) e = absurd (omega (arith, e))
longs_count (suc n) (a ∷ b ∷ []) e = absurd (omega (arith, e))
longs_count (suc n) (a ∷ b ∷ c ∷ []) e = absurd (omega (arith, e))
longs_count (suc n) (a ∷ b ∷ c ∷ d ∷ s) e = let rest : length (longs s) ≡ n = longs_count n s (omega (arith, e)) in omega (arith, rest)

sound_of : (kind : ℕ) (ns : List ℕ) → 1 ≤ length ns → length ns ≤ 255 → Each (λ n. n < 4294967296) ns → IsSoundSegment (segment_of kind ns)
sound_of kind ns some few fit = go (eqb kind 1)
  where
    go : (b : Bool) → IsSoundSegment (cond b (Set ns) (Sequence ns))
    go true = record { some = some; few = few; asns = fit }
    go false = record { some = some; few = few; asns = fit }

segment_sound : (size : ℕ) (numbers : List ℕ → List ℕ) → ((t : List ℕ) → AreOctets t → Each (λ n. n < 4294967296) (numbers t)) → ((n : ℕ) (t : List ℕ) → length t ≡ n * size → length (numbers t) ≡ n)
    → (s : List ℕ) (x : Segment) → AreOctets s → (segment_by size numbers).Spells s x → IsSoundSegment x
unfolding ◌>>=◌
segment_sound size numbers fit number_count s x h sp =
    let h1 : AreOctets sp.1 = behind s sp.0 sp.1 sp.3 h in
    let sp1 = sp.5 in
    let h2 : AreOctets sp1.1 = behind _ sp1.0 sp1.1 sp1.3 h1 in
    let sp2 = sp1.5 in
    let count : AreOctets sp2.0 = front _ sp2.0 sp2.1 sp2.3 h2 in
    let h3 : AreOctets sp2.1 = behind _ sp2.0 sp2.1 sp2.3 h2 in
    let sp3 = sp2.5 in
    let h4 : AreOctets sp3.1 = behind _ sp3.0 sp3.1 sp3.3 h3 in
    let sp4 = sp3.5 in
    let asns : AreOctets sp4.0 = front _ sp4.0 sp4.1 sp4.3 h4 in
    let few : sp2.2 < 256 = (subst AreOctets sp2.4 count).0 in
    let some : 1 ≤ sp2.2 = leb-true 1 sp2.2 sp3.4.1 in
    let len : length (numbers sp4.0) ≡ sp2.2 = number_count sp2.2 sp4.0 sp4.4.0 in
    subst IsSoundSegment (sym (sp4.5.1 ∙ ap (λ (t : List ℕ). segment_of sp.2 (numbers t)) sp4.4.1))
    (sound_of sp.2 (numbers sp4.0) (omega (arith, len, some)) (omega (arith, len, few)) (fit sp4.0 asns))

path_sound : (s : List ℕ) (xs : List Segment) → AreOctets s → ItemsSpell segment s xs → Each IsSoundSegment xs
path_sound s [] h sp = tt
path_sound s (x ∷ xs) h sp = (segment_sound 2 words words_fit words_count sp.0 x (front s sp.0 sp.1 sp.2 h) sp.3, path_sound sp.1 xs (behind s sp.0 sp.1 sp.2 h) sp.4)

wide_sound : (s : List ℕ) (xs : List Segment) → AreOctets s → ItemsSpell wide_segment s xs → Each IsSoundSegment xs
wide_sound s [] h sp = tt
wide_sound s (x ∷ xs) h sp = (segment_sound 4 longs longs_fit longs_count sp.0 x (front s sp.0 sp.1 sp.2 h) sp.3, wide_sound sp.1 xs (behind s sp.0 sp.1 sp.2 h) sp.4)

-- ---- a path put together

each_take : {A : Type 0} (P : A → Type 0) (k : ℕ) (xs : List A) → Each P xs → Each P (take k xs)
each_take P zero xs h = tt
each_take P (suc k) [] h = tt
each_take P (suc k) (x ∷ xs) h = (h.0, each_take P k xs h.1)

leading_set : (k : ℕ) (ns : List ℕ) (path : List Segment) (b : Bool) → IsSoundSegment (Set ns) → Each IsSoundSegment (leading (k - 1) path) → Each IsSoundSegment (cond b (Set ns ∷ leading (k - 1) path) [])
leading_set k ns path true h later = (h, later)
leading_set k ns path false h later = tt

leading_cut : (k : ℕ) (ns : List ℕ) (b : Bool) → leb 1 k ≡ b → k < length ns → IsSoundSegment (Sequence ns) → Each IsSoundSegment (cond b (Sequence (take k ns) ∷ []) [])
leading_cut k ns true e less h =
    let some : 1 ≤ k = leb-true 1 k e in
    let few : length ns ≤ 255 = h.few in
    (record { some = omega (arith, some, less, length-take k ns); few = omega (arith, few, length-take k ns); asns = each_take _ k ns h.asns }, tt)
leading_cut k ns false e less h = tt

leading_sequence : (k : ℕ) (ns : List ℕ) (path : List Segment) (b : Bool) → leb (length ns) k ≡ b → IsSoundSegment (Sequence ns) → Each IsSoundSegment (leading (k - length ns) path)
    → Each IsSoundSegment (cond b (Sequence ns ∷ leading (k - length ns) path) (cond (leb 1 k) (Sequence (take k ns) ∷ []) []))
leading_sequence k ns path true e h later = (h, later)
leading_sequence k ns path false e h later = leading_cut k ns (leb 1 k) refl (leb-false (length ns) k e) h

leading_sound : (k : ℕ) (path : List Segment) → Each IsSoundSegment path → Each IsSoundSegment (leading k path)
leading_sound k [] h = tt
leading_sound k (Set ns ∷ path) h = leading_set k ns path (leb 1 k) h.0 (leading_sound (k - 1) path h.1)
leading_sound k (Sequence ns ∷ path) h = leading_sequence k ns path (leb (length ns) k) refl h.0 (leading_sound (k - length ns) path h.1)

merged_case : (ms ns : List ℕ) (path : List Segment) (b : Bool) → leb (length ms + length ns) 255 ≡ b → IsSoundSegment (Sequence ms) → IsSoundSegment (Sequence ns) → Each IsSoundSegment path
    → Each IsSoundSegment (cond b (Sequence (ms ++ ns) ∷ path) (Sequence ms ∷ Sequence ns ∷ path))
merged_case ms ns path true e h k later =
    let few : length ms + length ns ≤ 255 = leb-true (length ms + length ns) 255 e in
    let some : 1 ≤ length ms = h.some in
    (record { some = omega (arith, some, length-append ms ns); few = omega (arith, few, length-append ms ns); asns = each_append _ ms ns h.asns k.asns }, later)
merged_case ms ns path false e h k later = (h, (k, later))

merged_sound : (ms : List ℕ) (path : List Segment) → IsSoundSegment (Sequence ms) → Each IsSoundSegment path → Each IsSoundSegment (merged_sequence ms path)
merged_sound ms [] h k = (h, tt)
merged_sound ms (Set ns ∷ path) h k = (h, k)
merged_sound ms (Sequence ns ∷ path) h k = merged_case ms ns path (leb (length ms + length ns) 255) refl h k.0 k.1

joined_sound : (front back : List Segment) → Each IsSoundSegment front → Each IsSoundSegment back → Each IsSoundSegment (joined front back)
joined_sound [] back h k = k
joined_sound (Set ns ∷ []) back h k = (h.0, k)
joined_sound (Sequence ns ∷ []) back h k = merged_sound ns back h.0 k
joined_sound (s ∷ t ∷ front) back h k = subst (Each IsSoundSegment) (sym (joined_more s t front back)) (h.0, joined_sound (t ∷ front) back h.1 k)

put_together : (path wide : List Segment) (b : Bool) → Each IsSoundSegment path → Each IsSoundSegment wide → Each IsSoundSegment (cond b path (joined (leading (hops path - hops wide) path) wide))
put_together path wide true h k = h
put_together path wide false h k = joined_sound (leading (hops path - hops wide) path) wide (leading_sound (hops path - hops wide) path h) k

-- ---- attributes

-- the value of an attribute has the form of what messages say
abbrev IsSound : Attribute → Type 0
IsSound (attributes.Origin n) = n ≤ 2
IsSound (attributes.AsPath ss) = Each IsSoundSegment ss
IsSound (attributes.NextHop ip) = IsSoundNextHop ip
IsSound (attributes.MultiExitDisc n) = Unit {0}
IsSound attributes.LocalPref = Unit {0}
IsSound attributes.AtomicAggregate = Unit {0}
IsSound (attributes.Aggregator a) = a.asn < 65536
IsSound (attributes.Communities partial cs) = Unit {0}
IsSound (attributes.As4Path ss) = Each IsSoundSegment ss
IsSound (attributes.Unknown u) = type_of u.kind ≡ None
IsSound (attributes.Ignored n) = Unit {0}

-- an address of four octets of which the first is in bounds
address_sound : (s : List ℕ) → length s ≡ 4 → AreOctets s → 1 ≤ slice_index s 0 → slice_index s 0 < 224 → IsSoundNextHop (address s)
address_sound (a ∷ b ∷ c ∷ d ∷ []) e h low high =
    let one : a < 256 = h.0 in
    let two : b < 256 = h.1.0 in
    let three : c < 256 = h.1.1.0 in
    let four : d < 256 = h.1.1.1.0 in
    let least : 1 ≤ a = low in
    let most : a < 224 = high in
    record { low = omega (arith, one, two, three, four, least, most); high = omega (arith, one, two, three, four, least, most) }
address_sound s e h low high = absurd (omega (arith, e))

asn_sound : (s : List ℕ) → AreOctets s → big_endian (take 2 s) < 65536
asn_sound [] h = omega arith
asn_sound (a ∷ []) h = let one : a < 256 = h.0 in omega (arith, one)
asn_sound (a ∷ b ∷ s) h = let one : a < 256 = h.0 in let two : b < 256 = h.1.0 in omega (arith, one, two)

wide_value_sound : (ss : List Segment) → Each IsSoundSegment ss → IsSound (wide_value ss)
wide_value_sound [] h = tt
wide_value_sound (s ∷ ss) h = h

is_wide_sound : (inner : List ℕ) (x : Attribute) → AreOctets inner → IsWide inner x → IsSound x
is_wide_sound inner x h (inl w) = subst IsSound (sym w.2) (wide_value_sound w.0 (wide_sound inner w.0 h w.1))
is_wide_sound inner x h (inr w) = subst IsSound (sym w.2) tt

known_sound : (type : AttributeType) (partial : Bool) (inner b : List ℕ) (x : Attribute) → AreOctets inner → has_length (type_length type) (length inner) ≡ true → (known_value type partial inner).Spells b x → IsSound x
unfolding ◌>>=◌
known_sound types.Origin partial inner b x h len sp = subst IsSound (sym sp.5.1) (leb-true _ 2 sp.4.1)
known_sound types.AsPath partial inner b x h len sp = subst IsSound (sym sp.5.1) (path_sound inner sp.2 h sp.4.1)
known_sound types.NextHop partial inner b x h len sp =
    let bounds = and_parts _ _ sp.4.1 in
    subst IsSound (sym sp.5.1) (address_sound inner (eqb-true (length inner) 4 len) h (leb-true 1 (slice_index inner 0) bounds.0) (ltb-true (slice_index inner 0) 224 bounds.1))
known_sound types.MultiExitDisc partial inner b x h len sp = subst IsSound (sym sp.1) tt
known_sound types.LocalPref partial inner b x h len sp = subst IsSound (sym sp.1) tt
known_sound types.AtomicAggregate partial inner b x h len sp = subst IsSound (sym sp.1) tt
known_sound types.Aggregator partial inner b x h len sp = subst IsSound (sym sp.1) (asn_sound inner h)
known_sound types.Communities partial inner b x h len sp = subst IsSound (sym sp.1) tt
known_sound types.As4Path partial inner b x h len sp = is_wide_sound inner x h sp.1

unknown_sound : (transitive : Bool) (number : ℕ) (inner : List ℕ) → type_of number ≡ None → IsSound (unknown_value transitive number inner)
unknown_sound true number inner e = e
unknown_sound false number inner e = tt

value_sound : (t : Option AttributeType) (number flags : ℕ) (inner b : List ℕ) (x : Attribute) → type_of number ≡ t → AreOctets inner → (value t number flags inner).Spells b x → IsSound x
unfolding ◌>>=◌
value_sound None number flags inner b x e h sp = subst IsSound (sym sp.5.1) (unknown_sound _ number inner e)
value_sound (Some type) number flags inner b x e h sp = known_sound type _ inner _ x h sp.5.4.1 sp.5.5

attribute_sound : (seen : ℕ → Bool) (s : List ℕ) (x : Attribute) → AreOctets s → (attribute seen).Spells s x → IsSound x
unfolding ◌>>=◌
attribute_sound seen s x h sp =
    let h1 : AreOctets sp.1 = behind s sp.0 sp.1 sp.3 h in
    let sp1 = sp.5 in
    let h2 : AreOctets sp1.1 = behind _ sp1.0 sp1.1 sp1.3 h1 in
    let sp2 = sp1.5 in
    let h3 : AreOctets sp2.1 = behind _ sp2.0 sp2.1 sp2.3 h2 in
    let sp3 = sp2.5 in
    let inner : AreOctets sp3.2 = subst AreOctets (sym sp3.4.1) (front _ sp3.0 sp3.1 sp3.3 h3) in
    value_sound _ sp1.2 sp.2 sp3.2 _ x refl inner sp3.5.5

attributes_sound : (seen : ℕ → Bool) (s : List ℕ) (xs : List Attribute) → AreOctets s → AllSpell attribute with_type seen s xs → Each IsSound xs
attributes_sound seen s [] h sp = tt
attributes_sound seen s (x ∷ xs) h sp = (attribute_sound seen sp.0 x (front s sp.0 sp.1 sp.2 h) sp.3, attributes_sound (with_type seen x) sp.1 xs (behind s sp.0 sp.1 sp.2 h) sp.4)

head_sound : (n : ℕ) (s : List ℕ) (x : Head) → AreOctets s → (head n).Spells s x → Each IsSound x.attributes
unfolding ◌>>=◌
head_sound n s x h sp =
    let h1 : AreOctets sp.1 = behind s sp.0 sp.1 sp.3 h in
    let sp1 = sp.5 in
    let h2 : AreOctets sp1.1 = behind _ sp1.0 sp1.1 sp1.3 h1 in
    let sp2 = sp1.5 in
    let h3 : AreOctets sp2.1 = behind _ sp2.0 sp2.1 sp2.3 h2 in
    let sp3 = sp2.5 in
    let h4 : AreOctets sp3.1 = behind _ sp3.0 sp3.1 sp3.3 h3 in
    let sp4 = sp3.5 in
    let h5 : AreOctets sp4.1 = behind _ sp4.0 sp4.1 sp4.3 h4 in
    let sp5 = sp4.5 in
    let h6 : AreOctets sp5.1 = behind _ sp5.0 sp5.1 sp5.3 h5 in
    let sp6 = sp5.5 in
    let h7 : AreOctets sp6.1 = behind _ sp6.0 sp6.1 sp6.3 h6 in
    let sp7 = sp6.5 in
    let h8 : AreOctets sp7.1 = behind _ sp7.0 sp7.1 sp7.3 h7 in
    let sp8 = sp7.5 in
    let h9 : AreOctets sp8.1 = behind _ sp8.0 sp8.1 sp8.3 h8 in
    let sp9 = sp8.5 in
    let h10 : AreOctets sp9.1 = behind _ sp9.0 sp9.1 sp9.3 h9 in
    let sp10 = sp9.5 in
    let h11 : AreOctets sp10.1 = behind _ sp10.0 sp10.1 sp10.3 h10 in
    let sp11 = sp10.5 in
    let h12 : AreOctets sp11.1 = behind _ sp11.0 sp11.1 sp11.3 h11 in
    let sp12 = sp11.5 in
    let h13 : AreOctets sp12.1 = behind _ sp12.0 sp12.1 sp12.3 h12 in
    let sp13 = sp12.5 in
    let inner : AreOctets sp13.2 = subst AreOctets (sym sp13.4.1) (front _ sp13.0 sp13.1 sp13.3 h13) in
    let last = sp13.5 in
    subst (λ (y : Head). Each IsSound y.attributes) (sym last.5.1) (attributes_sound _ _ last.2 inner last.4.1)

parts_sound : (n : ℕ) (s : List ℕ) (parts : Parts) → AreOctets s → (message n).Spells s parts → Each IsSound parts.attributes
parts_sound n s parts h sp = subst (λ (x : Parts). Each IsSound x.attributes) (sym sp.8) (head_sound n sp.0 sp.2 (front s sp.0 sp.1 sp.4 h) sp.5)

-- ---- what is said

abbrev IsThere : {X : Type 0} → (X → Type 0) → Option X → Type 0
IsThere P None = Unit {0}
IsThere P (Some x) = P x

record AreSoundSaid (s : Said) : Type 0 where
  origin : IsThere (λ n. n ≤ 2) s.origin
  path : IsThere (λ (ss : List Segment). Each IsSoundSegment ss) s.path
  wide : IsThere (λ (ss : List Segment). Each IsSoundSegment ss) s.wide
  next_hop : IsThere IsSoundNextHop s.next_hop
  aggregator : IsSoundAggregator s.aggregator
  partial : s.communities ≡ [] → s.communities_partial ≡ false
  unknown : Each (λ (u : Unknown). type_of u.kind ≡ None) s.unknown

no_mark : (partial : Bool) (ns : List ℕ) → ns ≡ [] → (partial && not (eqb (length ns) 0)) ≡ false
no_mark true ns e = ap (λ (ms : List ℕ). not (eqb (length ms) 0)) e
no_mark false ns e = refl

more_sound : (s : Said) (a : Attribute) → AreSoundSaid s → IsSound a → AreSoundSaid (with_attribute s a)
more_sound s (attributes.Origin n) h x = record { origin = x; path = h.path; wide = h.wide; next_hop = h.next_hop; aggregator = h.aggregator; partial = h.partial; unknown = h.unknown }
more_sound s (attributes.AsPath ss) h x = record { origin = h.origin; path = x; wide = h.wide; next_hop = h.next_hop; aggregator = h.aggregator; partial = h.partial; unknown = h.unknown }
more_sound s (attributes.NextHop ip) h x = record { origin = h.origin; path = h.path; wide = h.wide; next_hop = x; aggregator = h.aggregator; partial = h.partial; unknown = h.unknown }
more_sound s (attributes.MultiExitDisc n) h x = record { origin = h.origin; path = h.path; wide = h.wide; next_hop = h.next_hop; aggregator = h.aggregator; partial = h.partial; unknown = h.unknown }
more_sound s attributes.LocalPref h x = h
more_sound s attributes.AtomicAggregate h x = record { origin = h.origin; path = h.path; wide = h.wide; next_hop = h.next_hop; aggregator = h.aggregator; partial = h.partial; unknown = h.unknown }
more_sound s (attributes.Aggregator a) h x = record { origin = h.origin; path = h.path; wide = h.wide; next_hop = h.next_hop; aggregator = x; partial = h.partial; unknown = h.unknown }
more_sound s (attributes.Communities partial cs) h x = record { origin = h.origin; path = h.path; wide = h.wide; next_hop = h.next_hop; aggregator = h.aggregator; partial = no_mark partial cs; unknown = h.unknown }
more_sound s (attributes.As4Path ss) h x = record { origin = h.origin; path = h.path; wide = x; next_hop = h.next_hop; aggregator = h.aggregator; partial = h.partial; unknown = h.unknown }
more_sound s (attributes.Unknown u) h x = record { origin = h.origin; path = h.path; wide = h.wide; next_hop = h.next_hop; aggregator = h.aggregator; partial = h.partial; unknown = each_append _ s.unknown (u ∷ []) h.unknown (x, tt) }
more_sound s (attributes.Ignored n) h x = h

all_sound : (s : Said) (all : List Attribute) → AreSoundSaid s → Each IsSound all → AreSoundSaid (fold with_attribute s all)
all_sound s [] h x = h
all_sound s (a ∷ all) h x = all_sound (with_attribute s a) all (more_sound s a h x.0) x.1

said_sound : (all : List Attribute) → Each IsSound all → AreSoundSaid (said all)
said_sound all x = all_sound nothing_said all (record { origin = tt; path = tt; wide = tt; next_hop = tt; aggregator = tt; partial = λ e. refl; unknown = tt }) x

-- ---- the update

whole_sound : (path wide : Option (List Segment)) → IsThere (Each IsSoundSegment) path → IsThere (Each IsSoundSegment) wide → IsThere (Each IsSoundSegment) (option_map (λ ss. whole_path ss wide) path)
whole_sound None wide h k = tt
whole_sound (Some path) None h k = h
whole_sound (Some path) (Some wide) h k = put_together path wide (ltb (hops path) (hops wide)) h k

attrs_sound : (s : Said) (a : Attrs) → AreSoundSaid s → AreSaid s a → AreSoundAttrs a
attrs_sound s a h k = record {
  origin = subst (IsThere (λ n. n ≤ 2)) k.origin h.origin;
  path = subst (IsThere (λ (ss : List Segment). Each IsSoundSegment ss)) k.path (whole_sound s.path s.wide h.path h.wide);
  next_hop = subst (IsThere IsSoundNextHop) k.next_hop h.next_hop;
  aggregator = subst IsSoundAggregator (sym k.aggregator) h.aggregator;
  partial = λ e. k.communities_partial ∙ h.partial (sym k.communities ∙ e);
  rising = k.rising;
  unknown = of_each _ a.unknown (λ u m. each_of _ s.unknown u h.unknown (k.same.onto u m));
}

given_sound : (s : Said) (ps qs : List Prefix) (a : Option Attrs) → AreSoundSaid s → (ps ≡ [] → qs ≡ []) → (qs ≡ [] → ps ≡ []) → AreAttrs s ps a → HasSoundAttrs qs a
given_sound s [] [] None h e f k = tt
given_sound s [] [] (Some a) h e f k = absurd k
given_sound s [] (q ∷ qs) a h e f k = absurd (filled q qs (e refl))
  where
    filled : (q : Prefix) (qs : List Prefix) → (q ∷ qs) ≡ [] → ⊥
    filled q qs e = cc
given_sound s (p ∷ ps) [] a h e f k = absurd (filled p ps (f refl))
  where
    filled : (q : Prefix) (qs : List Prefix) → (q ∷ qs) ≡ [] → ⊥
    filled q qs e = cc
given_sound s (p ∷ ps) (q ∷ qs) None h e f k = absurd k
given_sound s (p ∷ ps) (q ∷ qs) (Some a) h e f k = attrs_sound s a h k

update_sound : (parts : Parts) (u : Update) → Each IsSound parts.attributes → IsUpdateOf parts u → IsSoundUpdate u
update_sound parts u x k = record {
  announced = k.announced.rising;
  withdrawn = k.withdrawn.rising;
  apart = λ p m n. (k.withdrawn.onto p m).apart (k.announced.same.onto p n);
  attrs = given_sound (said parts.attributes) parts.announced u.announced u.attrs (said_sound parts.attributes x)
      (λ e. empty_same u.announced (subst (λ (ps : List Prefix). SameMembers u.announced ps) e k.announced.same))
      (λ e. empty_same parts.announced (same_sym (subst (λ (ps : List Prefix). SameMembers ps parts.announced) e k.announced.same)))
      k.attrs;
}

pub spells_sound : (b : List ℕ) (u : Update) → AreOctets b → Spells b u → IsSoundUpdate u
spells_sound b u h s = update_sound s.parts u (parts_sound (length b) b s.parts h s.spells) s.value

-- so does what decoding answers
pub form_said : (b : List ℕ) (r : Result Update UpdateFault) → AreOctets b → IsDecoded b r → IfOk r IsSoundUpdate
form_said b (Ok u) h k = spells_sound b u h (spells_said b (Ok u) k)
form_said b (Err e) h k = tt

-- octets by their places
pub by_places : (s : List ℕ) → ((k : ℕ) → slice_index s k < 256) → AreOctets s
by_places [] h = tt
by_places (c ∷ s) h = (h 0, by_places s (λ k. h (suc k)))
