use Rattle.std.proofs.Common.{rules, sym, ◌≡◌, ◌∷◌, codes, subst, List, ℕ}
use Rattle.std.specs.Prelude.{IfOk}
use Rattle.std.specs.Cmp.Lexicographic.{same_text}
use Rattle.events.specs.Lines.{event_of_words, or_bad, pieces}
use Rattle.replay_text.proofs.PieceSplits.{pieces_some}
use Rattle.replay_text.proofs.Verbs.{other_word}
use Rattle.replay_text.proofs.lines.words_event.Goals as goal

pub returns-then-eq-11 : goal.returns-then-eq-11
returns-then-eq-11 c =
    let same : c.args.word.now ≡ codes "participant" = same_text c.args.word.now (codes "participant") (search rules) in
    subst (λ (w : List ℕ). IfOk c.participant.result (λ event. or_bad event ≡ event_of_words (w ∷ pieces 32 c.args.rest.now))) (sym same) c.participant.ensures

pub returns-else-eq-12 : goal.returns-else-eq-12
returns-else-eq-12 c =
    let rest = c.args.rest.now in
    sym (other_word c.args.word.now (pieces 32 rest) (pieces_some 32 rest) (cc) (cc) (cc) (cc) (cc) (cc) (cc) (cc) (cc) (cc) (cc) (cc))
