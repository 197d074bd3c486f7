-- Messages are read exactly.
use Rattle.std.proofs.Common.{◌≡◌, ℕ, Bool, true, false, List, [], ◌++◌, length, Result, Ok, Err, refl, sym, ap, ◌∙◌, inl, inr, arith}
use Rattle.std.specs.Prelude.{Option, Some, None}
use Rattle.grammar.specs.Formats.{block, items}
use Rattle.grammar.specs.FormatReading as reading
use Rattle.grammar.specs.Messages.{IsExact}
use Rattle.grammar.specs.Reading.{on_read}
use Rattle.grammar.proofs.Blocks.{AllHold, all_hold, block_exact, items_exact}
use Rattle.grammar.proofs.FormatExact.{ensure_exact, octet_exact, octet_first, octets_exact, pure_exact, then_exact}
use Rattle.grammar.proofs.FormatNumbers.{two_octets_exact}
use Rattle.grammar.proofs.Messages.{Says, to_end_said}
use Rattle.net_types.specs.UpdateFormat.{Head, IsWide, Parts, attribute, head, is_complete, is_long, is_partial, known_value, longs, message, no_types, prefix, segment, segment_by, value, value_length, wide_path, wide_segment, wide_value, with_type, words}
use Rattle.net_types.specs.UpdateValue.{said}
use Rattle.net_types.specs.AttributeTypes.{type_of}
use Rattle.net_types.specs.declared.attribute.Attribute.{Attribute}
use Rattle.net_types.specs.declared.attribute.AttributeType.{AttributeType}
use Rattle.net_types.specs.declared.attribute.AttributeType.TheVariants as types
use Rattle.net_types.specs.declared.route.Segment.{Segment}
use Rattle.net_types.specs.declared.update.Fault.{Fault}
use Rattle.net_types.specs.declared.update.Fault.TheVariants as faults
use Rattle.bgp_update.proofs.PrefixReading.{prefix_exact}
use Rattle.net_types.specs.UpdateReading.{read_attribute, read_attributes, read_head, read_known_value, read_message, read_prefix, read_prefixes, read_segment_by, read_segments, read_value, read_value_length, read_wide_segments, wide_read}

segment_exact : (size : ℕ) (numbers : List ℕ → List ℕ) → IsExact (segment_by size numbers) (read_segment_by size numbers)
unfolding read_segment_by
segment_exact size numbers =
    then_exact _ _ _ _ (octet_exact _) (λ kind. then_exact _ _ _ _ (ensure_exact _ _) (λ _. then_exact _ _ _ _ (octet_exact _) (λ count.
    then_exact _ _ _ _ (ensure_exact _ _) (λ _. then_exact _ _ _ _ (octets_exact _ _) (λ asns. pure_exact _)))))

prefixes_exact : (inner : List ℕ) → IsExact (items prefix inner) (λ s. on_read (read_prefixes inner) (λ ps. Ok (ps, s)))
unfolding read_prefixes
prefixes_exact inner = items_exact prefix read_prefix prefix_exact (λ a x sp. octet_first _ _ a x sp) inner

segments_exact : (inner : List ℕ) → IsExact (items segment inner) (λ s. on_read (read_segments inner) (λ ps. Ok (ps, s)))
unfolding read_segments
segments_exact inner = items_exact segment (read_segment_by 2 words) (segment_exact 2 words) (λ a x sp. octet_first _ _ a x sp) inner

-- what was read of an AS4_PATH is what it says, and nothing else is
wide_is : (inner : List ℕ) (r : Result (List Segment) Fault) → AllHold {S = Unit {0}} (λ _. wide_segment) (λ _ _. tt) tt inner r → IsWide inner (wide_read r)
wide_is inner (Ok segments) h = inl (segments, h.spells, refl)
wide_is inner (Err e) h = inr (e, (h.count, h.fails), refl)

wide_only : (inner : List ℕ) (r : Result (List Segment) Fault) → AllHold {S = Unit {0}} (λ _. wide_segment) (λ _ _. tt) tt inner r → (x : Attribute) → IsWide inner x → x ≡ wide_read r
wide_only inner (Ok segments) h x (inl w) = w.2 ∙ ap wide_value (h.only w.0 w.1)
wide_only inner (Ok segments) h x (inr w) = absurd (h.sound w.1.0 w.0 w.1.1)
wide_only inner (Err e) h x (inl w) = absurd (h.none w.0 w.1)
wide_only inner (Err e) h x (inr w) = w.2

wide_path_exact : (inner : List ℕ) → IsExact (wide_path inner) (reading.pure (wide_read (read_wide_segments inner)))
unfolding read_wide_segments
wide_path_exact inner = record {
  reads = λ s. record {
    front = [];
    parts = refl;
    spells = (refl, wide_is inner _ held);
    only = λ a b x e sp. (sp.0, sym (ap (λ (t : List ℕ). t ++ b) sp.0) ∙ sym e, wide_only inner _ held x sp.1);
    sound = λ e h. h;
  };
}
  where
    held : AllHold {S = Unit {0}} (λ _. wide_segment) (λ _ _. tt) tt inner (reading.read_items (read_segment_by 4 longs) inner)
    held = all_hold {S = Unit {0}} (λ _. wide_segment) (λ _ _. tt) (λ _. read_segment_by 4 longs) (λ _. segment_exact 4 longs) (λ _ a x sp. octet_first _ _ a x sp) (length inner) tt inner (omega arith)

value_length_exact : (long : Bool) → IsExact (value_length long) (read_value_length long)
unfolding read_value_length
value_length_exact true = two_octets_exact faults.Malformed
value_length_exact false = octet_exact faults.Malformed

known_value_exact : (type : AttributeType) (partial : Bool) (inner : List ℕ) → IsExact (known_value type partial inner) (read_known_value type partial inner)
unfolding read_known_value
known_value_exact types.Origin partial inner = then_exact _ _ _ _ (ensure_exact _ _) (λ _. pure_exact _)
known_value_exact types.AsPath partial inner = then_exact _ _ _ _ (segments_exact inner) (λ segments. pure_exact _)
known_value_exact types.NextHop partial inner = then_exact _ _ _ _ (ensure_exact _ _) (λ _. pure_exact _)
known_value_exact types.MultiExitDisc partial inner = pure_exact _
known_value_exact types.LocalPref partial inner = pure_exact _
known_value_exact types.AtomicAggregate partial inner = pure_exact _
known_value_exact types.Aggregator partial inner = pure_exact _
known_value_exact types.Communities partial inner = pure_exact _
known_value_exact types.As4Path partial inner = wide_path_exact inner

value_exact : (type : Option AttributeType) (number flags : ℕ) (inner : List ℕ) → IsExact (value type number flags inner) (read_value type number flags inner)
unfolding read_value
value_exact None number flags inner = then_exact _ _ _ _ (ensure_exact _ _) (λ _. pure_exact _)
value_exact (Some type) number flags inner =
    then_exact _ _ _ _ (ensure_exact _ _) (λ _. then_exact _ _ _ _ (ensure_exact _ _) (λ _. known_value_exact type (is_partial flags) inner))

pub attribute_exact : (seen : ℕ → Bool) → IsExact (attribute seen) (read_attribute seen)
unfolding read_attribute
attribute_exact seen =
    then_exact _ _ _ _ (octet_exact _) (λ flags. then_exact _ _ _ _ (octet_exact _) (λ number. then_exact _ _ _ _ (value_length_exact (is_long flags)) (λ len.
    then_exact _ _ _ _ (octets_exact _ _) (λ inner. then_exact _ _ _ _ (ensure_exact _ _) (λ _. value_exact (type_of number) number flags inner)))))

attributes_exact : (inner : List ℕ) → IsExact (block attribute with_type no_types inner) (λ s. on_read (read_attributes inner) (λ all. Ok (all, s)))
unfolding read_attributes
attributes_exact inner = block_exact attribute with_type read_attribute attribute_exact (λ seen a x sp. octet_first _ _ a x sp) no_types inner

head_exact : (n : ℕ) → IsExact (head n) (read_head n)
unfolding read_head
head_exact n =
    then_exact _ _ _ _ (octets_exact _ _) (λ marker. then_exact _ _ _ _ (ensure_exact _ _) (λ _. then_exact _ _ _ _ (two_octets_exact _) (λ len. then_exact _ _ _ _ (ensure_exact _ _) (λ _.
    then_exact _ _ _ _ (octet_exact _) (λ type. then_exact _ _ _ _ (ensure_exact _ _) (λ _. then_exact _ _ _ _ (ensure_exact _ _) (λ _. then_exact _ _ _ _ (two_octets_exact _) (λ withdrawn_len.
    then_exact _ _ _ _ (ensure_exact _ _) (λ _. then_exact _ _ _ _ (octets_exact _ _) (λ withdrawn. then_exact _ _ _ _ (two_octets_exact _) (λ attributes_len. then_exact _ _ _ _ (ensure_exact _ _) (λ _.
    then_exact _ _ _ _ (prefixes_exact withdrawn) (λ prefixes. then_exact _ _ _ _ (octets_exact _ _) (λ attributes. then_exact _ _ _ _ (attributes_exact attributes) (λ all. pure_exact _)))))))))))))))

-- What reading a whole message gives is right.
pub message_said : (b : List ℕ) → Says (message (length b)) b (read_message b)
unfolding read_message
message_said b =
    to_end_said (head (length b)) prefix (λ h ps. is_complete (said h.attributes) ps) faults.MissingWellKnown (λ (h : Head) ps. let made : Parts = record { withdrawn = h.withdrawn; attributes = h.attributes; announced = ps } in made) b
    (read_head (length b)) read_prefix (head_exact (length b)) prefix_exact (λ a x sp. octet_first _ _ a x sp)
