use Rattle.std.proofs.Common.{◌≡◌, ◌+◌, drop, List, Some, None, sym, ap, ◌∙◌, subst}
use Rattle.std.specs.Prelude.{Option}
use Rattle.std.specs.Option.{option_map}
use Rattle.net_types.specs.declared.cube.Cube.{Cube}
use Rattle.classifier.specs.declared.join.Join.TheVariants.{Union}
use Rattle.classifier.specs.Items.{Item}
use Rattle.classifier.specs.Lines.{add_lines, after_all, cons_line, joined, line}
use Rattle.classifier.specs.Seen.{Agrees}
use Rattle.classifier.specs.declared.line.Line.{Line}
use Rattle.classifier.proofs.RunLemmas.{row_behind, row_behind_at}
use Rattle.classifier.proofs.composition.push_row_behind.Goals as goal
use Rattle.classifier.proofs.composition.push_row_behind.Goals.{in-Some+in_ok-push_behind, in_default}

pub loop-y-preserved : goal.loop-y-preserved
loop-y-preserved c =
    let first = c.args.first in
    let x : Line = c.args.x.now in
    let ys : List Line = c.args.ys.now in
    let i = c.loop-y.y-index in
    let y : Line = c.y-item.result in
    let kept : List Line = c.loop-y.lines.items in
    let rest : List Line = row_behind first x (drop (i + 1) ys) in
    let next : List Item → Cube → Line = λ items. line (joined Union x.results (after_all first items)) in
    let step : (o : Option Cube) → c.meet_behind.result ≡ o → add_lines kept (cons_line (option_map (next y.results) o) rest) ≡ add_lines kept (row_behind first x (drop i ys)) =
    λ o e. ap (λ (found : Option Cube). add_lines kept (cons_line (option_map (next y.results) found) rest)) (sym e ∙ c.meet_behind.ensures) ∙ ap (add_lines kept) (sym (row_behind_at first x ys i y c.loop-y-test.true c.y-item.is)) in
    record {
      whole = elim c.match-meet_behind.branch [
        | in-Some+in_ok-push_behind w ↦
            ap (λ v. add_lines v.items rest) w.lines-is ∙ ap (λ (lines : List Line). add_lines lines rest) w.in_ok-push_behind.ensures.lines
            ∙ step (Some w.in-Some.cube) w.in-Some.is ∙ c.loop-y.invariant.whole
        | in_default w ↦ ap (λ v. add_lines v.items rest) w.lines-is ∙ step None w.in_default.is ∙ c.loop-y.invariant.whole
      ];
      agrees = elim c.match-meet_behind.branch [
        | in-Some+in_ok-push_behind w ↦ subst (λ v. Agrees v.items c.match-meet_behind.seen) (sym w.lines-is) (subst (λ seen. Agrees w.push_behind.new.lines.items seen) (sym w.seen-is) w.in_ok-push_behind.ensures.agrees)
        | in_default w ↦ subst (λ v. Agrees v.items c.match-meet_behind.seen) (sym w.lines-is) (subst (λ seen. Agrees kept seen) (sym w.seen-is) c.loop-y.invariant.agrees)
      ];
    }
