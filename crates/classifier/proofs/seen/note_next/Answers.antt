use Rattle.std.proofs.Common.{refl, []}
use Rattle.classifier.specs.Lines.{line}
use Rattle.classifier.proofs.SeenLemmas.{agrees_short, agrees_long, has_more}
use Rattle.classifier.proofs.seen.note_next.Goals as goal

pub returns-then-lines-lt-FEW : goal.returns-then-lines-lt-FEW
returns-then-lines-lt-FEW c = agrees_short c.args.lines.now c.args.seen.now (line [] c.args.cube) c.requires c.if-lines-lt-FEW.true

pub returns : goal.returns
returns c =
    let xs = c.args.lines.now in
    let last = line [] c.args.cube in
    agrees_long xs c.insert.new.self last (has_more xs c.note_all.new.seen c.insert.new.self c.args.cube last refl c.in_ok-note_all.ensures c.in_ok-insert.ensures.updates.0) c.if-lines-lt-FEW.false
