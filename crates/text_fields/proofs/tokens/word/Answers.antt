use Rattle.std.proofs.Common.{subst, sym}
use Rattle.grammar.specs.Reading.{Tells}
use Rattle.text_fields.specs.Answers.{cause_of}
use Rattle.grammar.specs.TextReading.{read_word}
use Rattle.grammar.proofs.TokenLoops.{word_at_end}
use Rattle.text_fields.proofs.tokens.word.Goals as goal

pub returns-in-empty-clause-reads : goal.returns-in-empty-clause-reads
returns-in-empty-clause-reads c =
    subst (λ e. Tells (cause_of e) (read_word c.args.word.now c.args.size c.args.rest.now)) (sym c.wrong.ensures)
    (word_at_end c.args.word.now c.loop-octet.octet-index c.args.size c.loop-octet.left.now _ c.loop-octet-test.true c.in-empty.len_below c.loop-octet.invariant.reads)
