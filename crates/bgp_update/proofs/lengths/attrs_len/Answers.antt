-- The lengths of all attributes together.
use Rattle.std.proofs.Common.{◌≡◌, ◌+◌, ℕ, List, length, min, flat_map, ap, sym, ◌∙◌, arith}
use Rattle.net_types.specs.Updates.{attribute, attrs_octets, communities_octets, segment_octets, unknown_octets, wide_octets}
use Rattle.net_types.specs.declared.route.Segment.{Segment}
use Rattle.net_types.specs.declared.route.Unknown.{Unknown}
use Rattle.bgp_update.proofs.LengthSums.{attribute_capped, attribute_length, attrs_length, attrs_sum}
use Rattle.bgp_update.proofs.lengths.attrs_len.Goals as goal

pub returns : goal.returns
returns c =
    let a = c.args.attrs.now in
    let path : c.attribute_len-path.result ≡ min 65535 (length (attribute 64 2 (flat_map segment_octets c.args.attrs.now.path))) =
    c.attribute_len-path.ensures
    ∙ attribute_capped c.path_len.result (length (flat_map segment_octets c.args.attrs.now.path)) (c.path_len.ensures ∙ ap (λ (ss : List Segment). min 65535 (length (flat_map segment_octets ss))) c.items.ensures)
    ∙ ap (λ (n : ℕ). min 65535 n) (sym (attribute_length 64 2 (flat_map segment_octets c.args.attrs.now.path))) in
    let unknown : c.unknown_len-unknown.result ≡ min 65535 (length (unknown_octets c.args.attrs.now.unknown)) =
    c.unknown_len-unknown.ensures ∙ ap (λ (us : List Unknown). min 65535 (length (unknown_octets us))) c.items-2.ensures in
    let communities : c.communities_len-communities.result ≡ min 65535 (length (communities_octets c.args.attrs.now.communities_partial c.args.attrs.now.communities)) =
    c.communities_len-communities.ensures ∙ ap (λ (ns : List ℕ). min 65535 (length (communities_octets c.args.attrs.now.communities_partial ns))) c.items-3.ensures in
    let wide : c.as4_path_len-wide.result ≡ min 65535 (length (wide_octets c.args.attrs.now.path)) =
    c.as4_path_len-wide.ensures ∙ ap (λ (ss : List Segment). min 65535 (length (wide_octets ss))) c.items-4.ensures in
    let whole : length (unknown_octets c.args.attrs.now.unknown) + length (attribute 64 2 (flat_map segment_octets c.args.attrs.now.path)) + (11 + c.med_len.result + c.atomic_len.result + c.aggregator_len.result)
    + length (communities_octets c.args.attrs.now.communities_partial c.args.attrs.now.communities) + length (wide_octets c.args.attrs.now.path) ≡ length (attrs_octets c.args.attrs.now) =
    omega (arith, attrs_length c.args.attrs.now, c.med_len.ensures, c.atomic_len.ensures, c.aggregator_len.ensures) in
    attrs_sum c.add-4.result c.add-3.result c.add.result c.add-2.result _ _ (11 + c.med_len.result + c.atomic_len.result + c.aggregator_len.result) _ _ _ _ _ _
    c.add-4.ensures c.add-3.ensures c.add.ensures c.add-2.ensures unknown path communities wide
    ∙ ap (λ (n : ℕ). min 65535 n) whole
