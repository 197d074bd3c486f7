use Rattle.std.proofs.Common.{◌≡◌, ◌<◌, length}
use Rattle.std.specs.Prelude.{IfSome, None}
use Rattle.decision.proofs.WinnerLemmas.{rest_picked}
use Rattle.decision.proofs.choice.winner_of.Given as goal

abbrev pub invariant-loop-place : goal.invariant-loop-place
invariant-loop-place l = record {
  picked : rest_picked l.lead l.routes l.winner l.place ≡ rest_picked l.lead l.routes None 0;
  within : IfSome l.winner (λ i. i < length l.routes);
}
