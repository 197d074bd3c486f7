-- One item more.
use Rattle.std.proofs.Common.{◌<◌, length, rules}
use Rattle.net_types.specs.UpdateReading.{read_segment_by}
use Rattle.grammar.specs.FormatReading.{read_items}
use Rattle.bgp_update.specs.Answers.{numbers_of}
use Rattle.grammar.proofs.BlockLoops.{reads_on, starts_reading}
use Rattle.bgp_update.proofs.attributes.segments.Goals as goal

pub loop-left-init : goal.loop-left-init
loop-left-init c = rw c.new-all.ensures (starts_reading {S = Unit {0}} (λ _. read_segment_by c.args.size (numbers_of c.args.size)) (λ _ _. tt) tt c.args.block.now)

pub loop-left-preserved : goal.loop-left-preserved
loop-left-preserved c =
    let some : 0 < length c.loop-left.left.now = search rules in
    rw c.in_ok-push.ensures.ok
    (reads_on {S = Unit {0}} (λ _. read_segment_by c.args.size (numbers_of c.args.size)) (λ _ _. tt) (read_items (read_segment_by c.args.size (numbers_of c.args.size)) c.args.block.now) tt c.loop-left.all c.loop-left.left.now c.in_ok-item.item c.in_ok-item.after.now
    c.loop-left.invariant some c.in_ok-item.ensures.reads c.in_ok-item.ensures.left)
