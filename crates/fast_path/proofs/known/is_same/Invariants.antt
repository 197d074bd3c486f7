use Rattle.std.proofs.Common.{◌≡◌, List, drop, length, map}
use Rattle.std.specs.Option.{option_map}
use Rattle.net_types.specs.Attributes.{same_signature}
use Rattle.net_types.specs.declared.address.Pid.{Pid}
use Rattle.fast_path.specs.Grouping.{part_by}
use Rattle.fast_path.proofs.known.is_same.Given as goal

-- what is left to compare decides
abbrev pub invariant-loop-i : goal.invariant-loop-i
invariant-loop-i l = record {
  left : same_signature (map (part_by (option_map (λ e. let n : Pid × List Pid = (e.0, e.1.now) in n) l.named)) (drop l.i l.kept)) (drop l.i l.sig) ≡ same_signature (map (part_by (option_map (λ e. let n : Pid × List Pid = (e.0, e.1.now) in n) l.named)) l.kept) l.sig;
  long : length l.kept ≡ length l.sig;
}
