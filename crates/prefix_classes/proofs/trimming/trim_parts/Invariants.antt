use Rattle.std.proofs.Common.{◌≡◌, ◌++◌, drop, map, take}
use Rattle.net_types.specs.Signatures.{trimmed_part}
use Rattle.prefix_classes.proofs.trimming.trim_parts.Given as goal

abbrev pub invariant-loop-part : goal.invariant-loop-part
invariant-loop-part l = l.parts ≡ map (trimmed_part l.who l.named) (take l.part-index l.initial.parts) ++ drop l.part-index l.initial.parts
