use Rattle.std.proofs.Common.{arith, ◌≡◌, ◌+◌, ◌≤◌, [], ◌∷◌, ◌++◌, length, get_or, take, subst}
use Rattle.std.proofs.lemmas.List.{take_all, take_more}
use Rattle.cells.specs.Listed.{is_listed}
use Rattle.cells.specs.Marks.{AreGiven}
use Rattle.cells.proofs.ListedLemmas.{given-more}
use Rattle.cells.proofs.firsts.note_listed.Goals as goal

pub loop-i-preserved : goal.loop-i-preserved
loop-i-preserved c =
    let listed = c.args.listed.now in
    let k = c.loop-i.i in
    let n = get_or listed k 0 in
    let more : take (k + 1) listed ≡ take k listed ++ n ∷ [] = take_more listed k 0 c.loop-i-test.true in
    given-more c.args.place (take k listed) (take (k + 1) listed) n c.args.found.now.items c.loop-i.found.items c.note_at.new.found.items more c.loop-i.invariant c.note_at.ensures

pub returns : goal.returns
returns c =
    let listed = c.args.listed.now in
    let k = c.loop-i.i in
    let past : length listed ≤ k = omega (arith, c.loop-i-test.false) in
    subst (λ xs. AreGiven c.args.place (is_listed xs) c.args.found.now.items c.loop-i.found.items) (take_all k listed past) c.loop-i.invariant
