use Rattle.std.proofs.Common.{◌∙◌}
use Rattle.cells.specs.declared.inside.Inner.{Inner}
use Rattle.cells.proofs.BlockLemmas.{inner-last, known-push}
use Rattle.cells.proofs.inside.Inside.number_of.Goals as goal

pub invariant_of-self-2 : goal.invariant_of-self-2
invariant_of-self-2 c =
    let old = c.args.self.now in
    let i : Inner = record { cube = c.args.outer.now; blocks = c.in_ok-blocks.blocks } in
    record { are = known-push old.cells.now old.known.items c.push.new.self.items i c.in_ok-push.ensures.items c.in_ok-blocks.ensures old.are; listed = old.listed }

pub returns-clause-number : goal.returns-clause-number
returns-clause-number c =
    let old = c.args.self.now in
    let i : Inner = record { cube = c.args.outer.now; blocks = c.in_ok-blocks.blocks } in
    inner-last old.cells.now old.known.items c.push.new.self.items i c.len-number.result c.in_ok-push.ensures.items (c.len-number.ensures ∙ old.known.ok.0) c.in_ok-blocks.ensures
