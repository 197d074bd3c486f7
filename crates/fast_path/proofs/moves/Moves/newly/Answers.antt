use Rattle.std.proofs.Common.{◌-◌, ◌∙◌}
use Rattle.fast_path.proofs.MoveCount.{newly_count}
use Rattle.fast_path.proofs.moves.Moves.newly.Goals as goal

pub returns : goal.returns
returns c = λ k cs are had.
    c.saturating_sub.ensures ∙ (λ i. c.len.ensures i - (c.len-2.ensures ∙ c.args.self.now.left.ok.0) i)
    ∙ newly_count k cs c.args.self.now.changes c.args.self.now.left.items are had
