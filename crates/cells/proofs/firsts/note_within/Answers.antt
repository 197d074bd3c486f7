use Rattle.std.proofs.Common.{◌≡◌, ◌/◌, true}
use Rattle.place_sets.specs.Places.{has_place}
use Rattle.cells.proofs.MarkLemmas.{all-noted, left-after}
use Rattle.cells.proofs.firsts.note_within.Goals as goal

pub returns-clause-noted : goal.returns-clause-noted
returns-clause-noted c =
    all-noted c.args.place c.args.cube.now c.args.inside.now.cells.now c.args.left.now c.in_ok-blocks.blocks c.args.found.now.items c.note_blocks.new.found.items
    c.in_ok-full.ensures.noted c.in_ok-blocks.ensures.keeps c.requires.left

pub returns-clause-left : goal.returns-clause-left
returns-clause-left c =
    let blocks = c.in_ok-blocks.blocks in
    left-after c.args.place c.args.cube.now c.args.inside.now.cells.now (λ p. has_place blocks (p / 64) ≡ true) c.args.found.now.items c.note_blocks.new.found.items
    c.args.left.now c.in_ok-full.full c.in_ok-rest.rest c.in_ok-full.ensures.noted c.in_ok-rest.ensures c.in_ok-full.ensures.full c.requires.left
