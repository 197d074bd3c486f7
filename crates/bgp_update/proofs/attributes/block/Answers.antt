-- One attribute more, whose type is marked.
use Rattle.std.proofs.Common.{◌<◌, ℕ, Bool, [], ◌∷◌, ◌++◌, ◌∙◌, refl, sym, subst, length, rules, arith}
use Rattle.std.proofs.lemmas.List.{length-set}
use Rattle.net_types.specs.UpdateFormat.{no_types, number_of, with_type}
use Rattle.net_types.specs.UpdateReading.{read_attribute, read_attributes}
use Rattle.grammar.proofs.BlockLoops.{StillReads, reads_on, starts_reading}
use Rattle.bgp_update.proofs.Marks.{marked-none, marked-set}
use Rattle.bgp_update.proofs.attributes.block.Goals as goal

pub loop-left-init : goal.loop-left-init
unfolding read_attributes
loop-left-init c =
    rw c.new-all.ensures.items (
      subst (λ (f : ℕ → Bool). StillReads read_attribute with_type (read_attributes c.args.block.now) f [] c.args.block.now) (sym (marked-none 256))
          (starts_reading read_attribute with_type no_types c.args.block.now),
      refl,
    )

pub loop-left-preserved : goal.loop-left-preserved
loop-left-preserved c =
    let some : 0 < length c.loop-left.left.now = search rules in
    let less : number_of c.in_ok-item.item < length c.loop-left.seen = omega (arith, c.loop-left.invariant.1, c.number.ensures, c.number.type_inv) in
    rw (c.in_ok-push.ensures.items, c.number.ensures) (
      subst (λ (f : ℕ → Bool). StillReads read_attribute with_type (read_attributes c.args.block.now) f (c.loop-left.all.items ++ c.in_ok-item.item ∷ []) c.in_ok-item.after.now) (sym (marked-set c.loop-left.seen c.in_ok-item.item less))
          (reads_on read_attribute with_type (read_attributes c.args.block.now) _ c.loop-left.all.items c.loop-left.left.now c.in_ok-item.item c.in_ok-item.after.now
          c.loop-left.invariant.0 some c.in_ok-item.ensures.reads c.in_ok-item.ensures.left),
      length-set c.loop-left.seen (number_of c.in_ok-item.item) _ ∙ c.loop-left.invariant.1,
    )
