-- Those among the pairs so far.
use Rattle.std.proofs.Common.{◌≡◌, take}
use Rattle.std.specs.Prelude.{filter}
use Rattle.job_end.specs.Rebuilt.{is_changed}
use Rattle.job_end.proofs.changed.changed_among.Given as goal

abbrev pub invariant-loop-pair : goal.invariant-loop-pair
invariant-loop-pair g l = l.changed ≡ filter (is_changed (g.B.Blocks.installed l.switch).table l.built l.gone) (take l.pair-index l.pairs)
