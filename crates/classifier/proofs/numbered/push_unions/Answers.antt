use Rattle.std.proofs.Common.{List, ◌≡◌, ◌∙◌, ◌+◌, ◌<◌, ap, drop, length, sym, subst, slice_index_or}
use Rattle.std.proofs.lemmas.Option.{slice_get_within}
use Rattle.net_types.specs.Cubes.{meet_cubes}
use Rattle.classifier.specs.declared.line.Line.{Line}
use Rattle.classifier.specs.declared.join.Join.TheVariants.{Union}
use Rattle.classifier.specs.Items.{Item, add_all}
use Rattle.classifier.specs.Lines.{add_line, add_lines, line, row}
use Rattle.classifier.specs.Numbered.{list_at}
use Rattle.classifier.proofs.NumberLemmas.{list_there, numbered_read, row_met, row_unmet}
use Rattle.classifier.proofs.numbered.push_unions.Goals as goal
use Rattle.classifier.proofs.numbered.push_unions.Goals.{in-Some+in_ok-push_union, in_default}

pub push_union-requires-clause-second : goal.push_union-requires-clause-second
push_union-requires-clause-second c =
    let seconds = c.args.joins.now.seconds.now in
    let number = slice_index_or c.args.seconds.now c.loop-j.j 0 in
    subst (λ (xs : List (List Item)). number < length xs) (sym c.loop-j.invariant.seconds)
    (slice_get_within seconds number c.index-ys-j.result.results
    (numbered_read seconds c.args.ys.now c.args.seconds.now c.loop-j.j c.index-ys-j.result c.requires.ys c.loop-j-test.true c.index-ys-j.is))

pub loop-j-preserved : goal.loop-j-preserved
loop-j-preserved c =
    let x = c.args.x.now in
    let y = c.index-ys-j.result in
    let ys = c.args.ys.now in
    let j = c.loop-j.j in
    let kept = c.loop-j.lines.items in
    let rest = row Union x (drop (j + 1) ys) in
    let number = slice_index_or c.args.seconds.now j 0 in
    let first : list_at c.loop-j.joins.firsts.now c.args.first ≡ x.results =
    ap (λ (xs : List (List Item)). list_at xs c.args.first) c.loop-j.invariant.firsts ∙ list_there c.args.joins.now.firsts.now c.args.first x.results c.requires.x
    in
    let second : list_at c.loop-j.joins.seconds.now number ≡ y.results =
    ap (λ (xs : List (List Item)). list_at xs number) c.loop-j.invariant.seconds
    ∙ list_there c.args.joins.now.seconds.now number y.results (numbered_read c.args.joins.now.seconds.now ys c.args.seconds.now j y c.requires.ys c.loop-j-test.true c.index-ys-j.is)
    in
    let met : meet_cubes x.cube y.cube ≡ c.meet.result = ap (λ (z : Line). meet_cubes x.cube z.cube) c.index-ys-j.is ∙ sym c.meet.ensures.value in
    elim c.match-meet.branch [
      | in-Some+in_ok-push_union w ↦ record {
        whole =
            ap (λ v. add_lines v.items rest) w.lines-is
            ∙ ap (λ (xs : List Line). add_lines xs rest) (w.in_ok-push_union.ensures.lines
            ∙ ap (λ (a : List Item). add_line kept (line (add_all a (list_at c.loop-j.joins.seconds.now number)) w.in-Some.cube)) first
            ∙ ap (λ (b : List Item). add_line kept (line (add_all x.results b) w.in-Some.cube)) second)
            ∙ row_met x y ys j w.in-Some.cube kept c.loop-j-test.true c.index-ys-j.is (met ∙ w.in-Some.is)
            ∙ c.loop-j.invariant.whole;
        numbered = rw (w.joins-is, w.lines-is, w.numbers-is) w.in_ok-push_union.ensures.numbered;
        agrees = rw (w.lines-is, w.seen-is) w.in_ok-push_union.ensures.agrees;
        firsts = ap (λ v. v.firsts.now) w.joins-is ∙ w.push_union.ensures.firsts ∙ c.loop-j.invariant.firsts;
        seconds = ap (λ v. v.seconds.now) w.joins-is ∙ w.push_union.ensures.seconds ∙ c.loop-j.invariant.seconds;
      }
      | in_default w ↦ record {
        whole = ap (λ v. add_lines v.items rest) w.lines-is ∙ row_unmet x y ys j kept c.loop-j-test.true c.index-ys-j.is (met ∙ w.in_default.is) ∙ c.loop-j.invariant.whole;
        numbered = rw (w.joins-is, w.lines-is, w.numbers-is) c.loop-j.invariant.numbered;
        agrees = rw (w.lines-is, w.seen-is) c.loop-j.invariant.agrees;
        firsts = ap (λ v. v.firsts.now) w.joins-is ∙ c.loop-j.invariant.firsts;
        seconds = ap (λ v. v.seconds.now) w.joins-is ∙ c.loop-j.invariant.seconds;
      }
    ]
