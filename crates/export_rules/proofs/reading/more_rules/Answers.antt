use Rattle.std.specs.Prelude.{codes}
use Rattle.grammar.specs.Octets.{among}
use Rattle.grammar.proofs.RepeatLoops.{starts_reading}
use Rattle.net_types.specs.ExportTexts.{put_last}
use Rattle.net_types.specs.ExportReading.{read_more_rule, read_more_rules}
use Rattle.export_rules.proofs.reading.more_rules.Goals as goal

pub loop-left-init : goal.loop-left-init
unfolding read_more_rules
loop-left-init c = starts_reading (among (codes ";")) put_last read_more_rule c.args.size c.args.first.items c.args.rest.now
