-- What ties in the order of signatures is one signature.
use Rattle.std.proofs.Common.{◌≡◌, Some, sym, ap, ◌∙◌, arith}
use Rattle.std.specs.Ordering.{is_eq}
use Rattle.net_types.proofs.TieLemmas.{same_from_tie}
use Rattle.tag_table.specs.Entries.{value_in}
use Rattle.prefix_classes.proofs.PlacedLemmas.{sig_cmp-IsAntisymmetric}
use Rattle.prefix_classes.proofs.SlotLemmas.{value_read}
use Rattle.prefix_classes.specs.Placed.{sig_cmp}
use Rattle.prefix_classes.specs.Slots.{shared_sig}
use Rattle.prefix_classes.proofs.kept.slot_of.Goals as goal

pub returns-then-is_eq : goal.returns-then-is_eq
returns-then-is_eq c =
    let there : value_in c.args.shared.now c.loop-at.at ≡ Some c.in-Some.one = value_read c.args.shared.now c.loop-at.at c.index-shared-at.result c.loop-at-test.true ∙ sym c.index-shared-at.is ∙ c.in-Some.is in
    let few = c.if-one-lt18446744073709551615.true in
    record {
      joinable = record { one = c.in-Some.one; there = there; few = omega (arith, few) };
      is = ap shared_sig there ∙ same_from_tie sig_cmp sig_cmp-IsAntisymmetric c.in-Some.one.sig c.args.sig.now (sym (c.is_eq.ensures ∙ ap is_eq c.compare_sigs.ensures) ∙ c.if-is_eq.true);
    }
