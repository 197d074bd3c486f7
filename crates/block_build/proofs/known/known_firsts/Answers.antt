-- One more receiver is known.
use Rattle.std.proofs.Common.{◌+◌, ◌∷◌, [], List, ap, length, refl, subst, sym, ◌∙◌}
use Rattle.std.proofs.lemmas.List.{length-append}
use Rattle.net_types.specs.declared.cube.Cube.{Cube}
use Rattle.block_build.proofs.RowLemmas.{known-more}
use Rattle.block_build.specs.Known.{AreKnown}
use Rattle.block_build.specs.Tables.{AreTables}
use Rattle.block_build.specs.declared.known.Known.{Known}
use Rattle.block_build.proofs.known.known_firsts.Goals as goal

pub loop-receiver-init : goal.loop-receiver-init
loop-receiver-init c = record {
  known = subst (λ (ks : List Known). AreKnown c.args.inside.now.cells.now c.args.ports.now ks [] c.args.ports.now) (sym c.new-all.ensures.items) refl;
  many = ap length c.new-all.ensures.items;
  tables = c.requires;
  cells = refl;
}

pub returns-then-held-gt-MOST-clause-known : goal.returns-then-held-gt-MOST-clause-known
returns-then-held-gt-MOST-clause-known c =
    let l = c.loop-receiver in
    known-more c.args.inside.now.cells.now l.inside.cells.now c.args.ports.now l.all.items c.push.new.self.items c.args.receivers.now l.receiver-index l.ports c.in_ok-known.known c.receiver-item.result c.known_of.new.ports (length c.push.new.self.items)
    l.invariant.cells c.loop-receiver-test.true c.receiver-item.is c.in_ok-push.ensures.items
    (ap length c.in_ok-push.ensures.items ∙ length-append l.all.items (c.in_ok-known.known ∷ []) ∙ ap (λ n. n + 1) l.invariant.many) l.invariant.known c.in_ok-known.ensures.known

pub loop-receiver-preserved : goal.loop-receiver-preserved
loop-receiver-preserved c =
    let l = c.loop-receiver in
    let cells = c.known_of.ensures.cells in
    record {
      known =
          known-more c.args.inside.now.cells.now l.inside.cells.now c.args.ports.now l.all.items c.push.new.self.items c.args.receivers.now l.receiver-index l.ports c.in_ok-known.known c.receiver-item.result c.known_of.new.ports (l.receiver-index + 1)
          l.invariant.cells c.loop-receiver-test.true c.receiver-item.is c.in_ok-push.ensures.items refl l.invariant.known c.in_ok-known.ensures.known;
      many = ap length c.in_ok-push.ensures.items ∙ length-append l.all.items (c.in_ok-known.known ∷ []) ∙ ap (λ n. n + 1) l.invariant.many;
      tables = subst (λ (cs : List Cube). AreTables cs c.known_of.new.tables.all.items) (sym cells) c.known_of.ensures.tables;
      cells = cells ∙ l.invariant.cells;
    }
