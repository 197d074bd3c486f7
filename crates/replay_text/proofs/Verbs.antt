-- Which event a first word gives.
use Rattle.std.proofs.Common.{◌≡◌, ℕ, ◌<◌, false, List, [], ◌∷◌, length, refl, ◌∙◌, codes, arith}
use Rattle.std.proofs.lemmas.Bool.{cond-false}
use Rattle.events.specs.declared.Event.TheVariants.{Bad}
use Rattle.events.specs.Lines.{event_of_words, is_word}

-- a word that begins no line of several words
pub other_word : (w : List ℕ) (ps : List (List ℕ)) → 0 < length ps → is_word w (codes "update") ≡ false → is_word w (codes "take") ≡ false → is_word w (codes "drain") ≡ false → is_word w (codes "down") ≡ false
    → is_word w (codes "packet") ≡ false → is_word w (codes "frame") ≡ false → is_word w (codes "arp") ≡ false → is_word w (codes "resolve") ≡ false → is_word w (codes "work") ≡ false
    → is_word w (codes "exchange") ≡ false → is_word w (codes "participant") ≡ false → is_word w (codes "port") ≡ false → event_of_words (w ∷ ps) ≡ Bad
other_word w [] some update takes drain down packet frame arp resolve work exchange participant port = absurd (omega arith)
other_word w (a ∷ []) some update takes drain down packet frame arp resolve work exchange participant port = cond-false _ _ _ drain ∙ cond-false _ _ _ down ∙ cond-false _ _ _ resolve ∙ cond-false _ _ _ work
other_word w (a ∷ b ∷ []) some update takes drain down packet frame arp resolve work exchange participant port =
    cond-false _ _ _ update ∙ cond-false _ _ _ takes ∙ cond-false _ _ _ arp ∙ cond-false _ _ _ packet ∙ cond-false _ _ _ frame
other_word w (a ∷ b ∷ c ∷ []) some update takes drain down packet frame arp resolve work exchange participant port = cond-false _ _ _ exchange ∙ cond-false _ _ _ participant
other_word w (a ∷ b ∷ c ∷ d ∷ []) some update takes drain down packet frame arp resolve work exchange participant port = cond-false _ _ _ port
other_word w (a ∷ b ∷ c ∷ d ∷ e ∷ ps) some update takes drain down packet frame arp resolve work exchange participant port = refl
