-- The words so far are written.
use Rattle.std.proofs.Common.{◌≡◌, take, flat_map}
use Rattle.net_types.specs.Octets.{word}
use Rattle.load_gen.proofs.datagrams.octets_of.Given as goal

abbrev pub invariant-loop-word : goal.invariant-loop-word
invariant-loop-word l = l.octets.items ≡ flat_map word (take l.word-index l.words)
