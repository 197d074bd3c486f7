use Rattle.cells.proofs.BlockLemmas.{Member-got}
use Rattle.cells.proofs.ClosedLemmas.{among-kept, among-put}
use Rattle.cells.proofs.cells.note.Goals as goal

pub loop-cube-init : goal.loop-cube-init
loop-cube-init c = λ all stand among. among

pub returns-in_err-insert : goal.returns-in_err-insert
returns-in_err-insert c = λ all stand among.
    among-kept c.loop-cube.known c.insert.new.self all c.in_err-insert.ensures.err (c.loop-cube.invariant all stand among)

pub loop-cube-preserved : goal.loop-cube-preserved
loop-cube-preserved c = λ all stand among.
    let x = c.cube-item.result in
    let there = stand x (Member-got c.args.cubes.now c.loop-cube.cube-index x c.loop-cube-test.true c.cube-item.is) in
    among-put c.loop-cube.known c.insert.new.self all x c.in_ok-insert.ensures.updates there (c.loop-cube.invariant all stand among)

pub returns : goal.returns
returns c = c.loop-cube.invariant
