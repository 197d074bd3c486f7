-- Some receivers more.
use Rattle.std.proofs.Common.{◌≡◌, ◌≤◌, ◌+◌, ◌-◌, List, ℕ, arith, drop, length, map, refl, take, ap, subst, sym, ◌∙◌}
use Rattle.std.proofs.lemmas.List.{drop-drop, length-drop, take_rest}
use Rattle.cells.specs.Firsts.{firsts}
use Rattle.classifier.specs.Meaning.{cubes_of}
use Rattle.classifier.specs.declared.line.Line.{Line}
use Rattle.net_types.specs.declared.cube.Cube.{Cube}
use Rattle.block_build.proofs.ByCellLemmas.{cubes-all}
use Rattle.block_build.proofs.FewLemmas.{cubes-first, first-rest}
use Rattle.block_build.proofs.RowLemmas.{all-each, all-rest, all-taken}
use Rattle.block_build.specs.ByCells.{beside_all, beside_them, dropping}
use Rattle.block_build.specs.Ports.{AllTaken}
use Rattle.block_build.specs.Tables.{AreTables}
use Rattle.block_build.specs.declared.receive.Receiver.{Receiver}
use Rattle.block_build.proofs.by_cells.beside_all.Goals as goal

pub loop-next-init : goal.loop-next-init
loop-next-init c =
    let s = c.args.sending.now in
    let rs = c.args.receivers.now in
    let n = c.in_ok-all.n in
    let mid = c.firsts_of.new.inside.cells.now in
    let first : mid ≡ c.args.inside.now.cells.now = c.firsts_of.ensures.cells in
    let second : c.beside_firsts.new.inside.cells.now ≡ mid = c.beside_firsts.ensures.cells in
    let lines = c.in_ok-all.ensures.lines in
    record {
      whole =
          ap (λ (zs : List Line). beside_all s.best s.offers.now s.rules.now zs (drop n rs)) lines
          ∙ first-rest s.best s.offers.now s.rules.now mid rs n
          ∙ ap (λ (cells : List Cube). beside_all s.best s.offers.now s.rules.now (dropping cells) rs) first;
      own =
          c.in_ok-own.ensures.firsts
          ∙ ap (λ (cubes : List Cube). firsts cubes c.args.inside.now.cells.now) (c.deref.ensures.value ∙ c.in_ok-cubes_of.ensures)
          ∙ ap (firsts (cubes_of s.rules.now)) (sym (second ∙ first));
      within = c.in_ok-all.ensures.within;
      cubes = ap cubes_of lines ∙ cubes-first s.best s.offers.now s.rules.now mid rs n ∙ sym second;
      tables = subst (λ (cells : List Cube). AreTables cells c.beside_firsts.new.tables.all.items) (sym second) c.beside_firsts.ensures.tables;
      cells = refl;
      same = second ∙ first;
      taken = subst (AllTaken c.take_lines.new.ports) c.deref-3.ensures.value c.in_ok-take_lines.ensures.taken;
    }

pub loop-next-preserved : goal.loop-next-preserved
loop-next-preserved c =
    let s = c.args.sending.now in
    let l = c.loop-next in
    let all : List Receiver = c.args.receivers.now in
    let rs : List Receiver = take (length all - l.next) (drop l.next all) in
    let rest : rs ≡ drop l.next all = take_rest all l.next in
    let known = c.in_ok-known.known.items in
    let n = length known in
    let one : c.len.result ≡ n = omega (arith, c.len.ensures, c.in_ok-known.known.ok.0) in
    let other : c.len-in-loop-next.result ≡ n = omega (arith, c.len-in-loop-next.ensures, c.in_ok-known.known.ok.0) in
    let more : c.in_ok-all-2.all.items ≡ map (beside_them s.best s.offers.now s.rules.now (take n rs)) l.all.items =
    c.in_ok-all-2.ensures ∙ ap (λ (m : ℕ). map (beside_them s.best s.offers.now s.rules.now (take m rs)) l.all.items) one in
    let same = c.known_firsts.ensures.cells in
    let fewer : n ≤ length (drop l.next all) = subst (λ (qs : List Receiver). n ≤ length qs) rest c.in_ok-known.ensures.within in
    record {
      whole =
          ap (λ (zs : List Line). beside_all s.best s.offers.now s.rules.now zs (drop (l.next + c.len-in-loop-next.result) all)) more
          ∙ ap (beside_all s.best s.offers.now s.rules.now (map (beside_them s.best s.offers.now s.rules.now (take n rs)) l.all.items))
          (ap (λ (m : ℕ). drop (l.next + m) all) other ∙ sym (drop-drop n l.next all) ∙ ap (λ (qs : List Receiver). drop n qs) (sym rest))
          ∙ all-rest s.best s.offers.now s.rules.now l.all.items rs n
          ∙ ap (beside_all s.best s.offers.now s.rules.now l.all.items) rest
          ∙ l.invariant.whole;
      own = l.invariant.own;
      within = omega (arith, fewer, other, l.invariant.within, length-drop l.next all);
      cubes =
          ap cubes_of (more ∙ sym (all-each s.best s.offers.now s.rules.now l.all.items (take n rs)))
          ∙ cubes-all s.best s.offers.now s.rules.now l.all.items (take n rs)
          ∙ l.invariant.cubes;
      tables = subst (λ (cells : List Cube). AreTables cells c.known_firsts.new.tables.all.items) (sym same) c.known_firsts.ensures.tables;
      cells = same ∙ l.invariant.cells;
      same = l.invariant.same;
      taken =
          subst (AllTaken c.known_firsts.new.ports) (sym more)
          (all-taken s.best s.offers.now s.rules.now l.inside.cells.now l.ports l.all.items known (take n rs) c.known_firsts.new.ports l.invariant.taken c.in_ok-known.ensures.known);
    }
