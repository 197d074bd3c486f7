-- The pieces are the attributes in their order.
use Rattle.std.proofs.Common.{◌++◌, ◌∙◌, [], List, ap, flat_map}
use Rattle.std.specs.Prelude.{nat_le, nat_lt, ◌&&◌, if◌then◌else◌}
use Rattle.net_types.specs.Updates.{attribute, wide_octets}
use Rattle.net_types.specs.declared.route.Segment.{Segment}
use Rattle.net_types.specs.declared.route.Unknown.{Unknown}
use Rattle.bgp_update.proofs.LengthSums.{attrs_written}
use Rattle.bgp_update.proofs.encoding.push_attrs.Goals as goal

pub returns : goal.returns
returns c =
    attrs_written (record c.args.attrs.now { next_hop = c.args.next_hop }) c.args.out.now.items _ _ _ _ _ _
    (c.in_ok-push_lowest.ensures ∙ ap (λ (us : List Unknown). c.args.out.now.items ++ flat_map (λ (u : Unknown). if nat_lt u.kind 1 then attribute 224 u.kind u.value else []) us) c.items.ensures)
    c.in_ok-push_needed.ensures
    c.in_ok-push_optional.ensures
    (c.in_ok-push_middle.ensures ∙ ap (λ (us : List Unknown). c.push_optional.new.out.items ++ flat_map (λ (u : Unknown). if nat_le 1 u.kind && nat_lt u.kind 17 then attribute 224 u.kind u.value else []) us) c.items-2.ensures)
    (c.in_ok-push_as4_path.ensures ∙ ap (λ (ss : List Segment). c.push_middle.new.out.items ++ wide_octets ss) c.items-3.ensures)
    (c.in_ok-push_highest.ensures ∙ ap (λ (us : List Unknown). c.push_as4_path.new.out.items ++ flat_map (λ (u : Unknown). if nat_le 17 u.kind then attribute 224 u.kind u.value else []) us) c.items-4.ensures)
