-- The cells so far have the numbers of what they give beside what the receiver makes in them.
use Rattle.std.proofs.Common.{◌≡◌, map, take}
use Rattle.std.specs.Prelude.{IfSome}
use Rattle.classifier.specs.Numbered.{AreNumbered}
use Rattle.block_build.specs.ByCells.{beside_at, beside_first}
use Rattle.block_build.specs.Few.{IsUnion}
use Rattle.block_build.proofs.few.beside_next.Given as goal

abbrev pub invariant-loop-i : goal.invariant-loop-i
invariant-loop-i l = record {
  numbered :
      AreNumbered l.joins.table.lists.items
      (map (beside_at l.sending.best l.sending.offers.now l.sending.rules.now l.receiver) (take l.i (beside_first l.sending.best l.sending.offers.now l.sending.rules.now l.cells l.receivers l.n))) l.numbers.items;
  firsts : l.joins.firsts.now ≡ l.few.table.lists.items;
  seconds : l.joins.seconds.now ≡ l.initial.joins.seconds.now;
  last : IfSome l.last (IsUnion l.joins.firsts.now l.joins.seconds.now l.joins.table.lists.items);
}
