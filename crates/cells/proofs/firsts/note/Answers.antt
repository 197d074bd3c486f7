use Rattle.cells.specs.Listed.{is_listed}
use Rattle.cells.proofs.ListedLemmas.{left-still}
use Rattle.cells.proofs.firsts.note.Goals as goal

pub returns-in-Some-clause-left : goal.returns-in-Some-clause-left
returns-in-Some-clause-left c =
    left-still c.args.place c.args.inside.now.cells.now (is_listed c.deref.result.now) c.args.found.now.items c.note_listed.new.found.items c.args.left
    c.requires.long c.note_listed.ensures c.requires.left
