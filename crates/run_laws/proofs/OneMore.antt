-- A legal run with one line more.
use Rattle.std.proofs.Common.{◌≡◌, List, [], ◌∷◌, ◌++◌, refl}
use Rattle.events.specs.After.{next}
use Rattle.events.specs.Fits.{Fits}
use Rattle.events.specs.Legal.{LegalFrom, state_from}
use Rattle.events.specs.State.{State}
use Rattle.events.specs.declared.Event.{Event}
use Rattle.events.specs.declared.Reply.{Reply}

-- it is legal with a reply that fits
pub legal_more : (s : State) (es : List Event) (rs : List Reply) (e : Event) (r : Reply) → LegalFrom s es rs → Fits (state_from s es rs) e r → LegalFrom s (es ++ e ∷ []) (rs ++ r ∷ [])
legal_more s [] [] e r h f = (f, tt)
legal_more s [] (q ∷ rs) e r h f = absurd h
legal_more s (d ∷ es) [] e r h f = absurd h
legal_more s (d ∷ es) (q ∷ rs) e r h f = (h.0, legal_more (next s d q) es rs e r h.1 f)

-- and comes to the next state
pub state_more : (s : State) (es : List Event) (rs : List Reply) (e : Event) (r : Reply) → LegalFrom s es rs → state_from s (es ++ e ∷ []) (rs ++ r ∷ []) ≡ next (state_from s es rs) e r
state_more s [] [] e r h = refl
state_more s [] (q ∷ rs) e r h = absurd h
state_more s (d ∷ es) [] e r h = absurd h
state_more s (d ∷ es) (q ∷ rs) e r h = state_more (next s d q) es rs e r h.1
