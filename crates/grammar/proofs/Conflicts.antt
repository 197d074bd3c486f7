-- What octets spell, and what they fail by, exclude each other.
use Rattle.std.proofs.Common.{◌≡◌, ℕ, List, ◌++◌, Ok, Err, sym, ◌∙◌}
use Rattle.grammar.specs.Formats.{Format}
use Rattle.grammar.specs.FormatReading.{Read, Reader}
use Rattle.grammar.specs.Messages.{Holds, IsExact}

module _ {F X : Type 0} (f : Format F X) (reader : Reader F X) (exact : IsExact f reader) (s : List ℕ) where
  -- Where a front of the octets spells something, no check fails.
  pub spells_or_fails : (a b : List ℕ) (x : X) (e : F) → s ≡ a ++ b → f.Spells a x → f.Fails s e → ⊥
  spells_or_fails a b x e eq sp bad = go (reader s) (exact.reads s)
    where
      go : (read : Read F X) → Holds f s read → ⊥
      go (Ok r) h = h.sound e bad
      go (Err g) h = h.none a b x eq sp

  -- There is one first fault.
  pub one_first_fault : (e g : F) → f.Fails s e → f.Fails s g → e ≡ g
  one_first_fault e g one two = go (reader s) (exact.reads s)
    where
      go : (read : Read F X) → Holds f s read → e ≡ g
      go (Ok r) h = absurd (h.sound e one)
      go (Err first) h = h.first e one ∙ sym (h.first g two)

  -- One front of the octets spells something, and it spells one value.
  pub one_front : (a b c d : List ℕ) (x y : X) → s ≡ a ++ b → s ≡ c ++ d → f.Spells a x → f.Spells c y → (a ≡ c) × (x ≡ y)
  one_front a b c d x y e g one two = go (reader s) (exact.reads s)
    where
      go : (read : Read F X) → Holds f s read → (a ≡ c) × (x ≡ y)
      go (Ok r) h = let p = h.only a b x e one in let q = h.only c d y g two in (p.0 ∙ sym q.0, p.2 ∙ sym q.2)
      go (Err first) h = absurd (h.none a b x e one)
