use Rattle.std.proofs.Common.{length, ◌+◌, ◌≡◌, drop}
use Rattle.grammar.specs.TextReading.{read_word}
use Rattle.text_fields.proofs.tokens.word.Given as goal

-- what is left of the word is still to be read
abbrev pub invariant-loop-octet : goal.invariant-loop-octet
invariant-loop-octet l = record { reads : read_word (drop l.octet-index l.word) l.size l.left ≡ read_word l.word l.size l.rest; left_len : length l.left + l.octet-index ≡ length l.rest }
