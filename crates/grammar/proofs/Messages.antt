-- A whole message is read exactly, with its first fault.
use Rattle.std.proofs.Common.{◌≡◌, ℕ, Bool, true, false, List, ◌++◌, length, Result, Ok, Err, refl, sym, ap, subst, ◌∙◌, arith, inl, inr, cond}
use Rattle.std.specs.Prelude.{◌⊎◌}
use Rattle.std.proofs.lemmas.Bool.{cond_both, both_ways}
use Rattle.grammar.specs.Octets.{IsLonger}
use Rattle.grammar.specs.Reading.{on_read}
use Rattle.grammar.specs.Formats.{AllFail, FailsToEnd, Format, ItemsFail, ItemsSpell, SpellsToEnd, to_end}
use Rattle.grammar.specs.FormatReading.{Read, Reader, read_items, read_to_end}
use Rattle.grammar.specs.Messages.{Holds, IsExact, Reads, Stops}
use Rattle.grammar.proofs.Blocks.{AllHold, AllRead, AllStop, all_hold}

-- The octets are the whole message of x and of nothing else, and no check fails.
pub record IsMessage {F X : Type 0} (f : Format F X) (b : List ℕ) (x : X) : Type 0 where
  pub spells : f.Spells b x
  pub only : (y : X) → f.Spells b y → y ≡ x
  pub sound : (e : F) → f.Fails b e → ⊥

-- The octets are no message, and this is their one first fault.
pub record IsBad {F X : Type 0} (f : Format F X) (b : List ℕ) (fault : F) : Type 0 where
  pub fails : f.Fails b fault
  pub first : (e : F) → f.Fails b e → e ≡ fault
  pub none : (x : X) → f.Spells b x → ⊥

-- What reading a whole message gave is right.
abbrev pub Says : {F X : Type 0} → Format F X → List ℕ → Result X F → Type 0
Says f b (Ok x) = IsMessage f b x
Says f b (Err e) = IsBad f b e

module _ {F X Y Z : Type 0} (f : Format F X) (item : Format F Y) (test : X → List Y → Bool) (fault : F) (make : X → List Y → Z) (b : List ℕ) where
  first_bad_of : (e : F) → Stops f b e → IsBad (to_end f item test fault make) b e
  first_bad_of e h = record { fails = inl h.fails; first = λ g k. first_case g k; none = λ u sp. h.none sp.0 sp.1 sp.2 sp.4 sp.5 }
    where
      first_case : (g : F) → FailsToEnd f item test fault b g → g ≡ e
      first_case g (inl k) = h.first g k
      first_case g (inr p) = absurd (h.none p.0 p.1 p.2 p.3 p.4)

  module _ (x : X) (m : List ℕ) (h : Reads f b x m) where
    -- what any reading has as items is what is left
    left_items : (a r : List ℕ) (y : X) (ys : List Y) → b ≡ a ++ r → f.Spells a y → ItemsSpell item r ys → (y ≡ x) × ItemsSpell item m ys
    left_items a r y ys e sp k = let p = h.only a r y e sp in (p.2, subst (λ (t : List ℕ). ItemsSpell item t ys) p.1 k)

    moved : (a r : List ℕ) (y : X) (e : F) → b ≡ a ++ r → f.Spells a y → (n : ℕ) → AllFail {S = Unit {0}} (λ _. item) (λ _ _. tt) n tt r e → AllFail {S = Unit {0}} (λ _. item) (λ _ _. tt) n tt m e
    moved a r y e eq sp n k = subst (λ (t : List ℕ). AllFail {S = Unit {0}} (λ _. item) (λ _ _. tt) n tt t e) (h.only a r y eq sp).1 k

    -- what fails behind f
    Later : List ℕ → X → F → Type 0
    Later r y e = ItemsFail item r e ⊎ ((ys : List Y) × ItemsSpell item r ys × (test y ys ≡ false) × (e ≡ fault))

    items_bad : (e : F) → AllStop {S = Unit {0}} (λ _. item) (λ _ _. tt) tt m e → IsBad (to_end f item test fault make) b e
    items_bad e k = record {
      fails = inr (h.front, m, x, h.parts, h.spells, inl (k.count, k.fails));
      first = λ g c. first_case g c;
      none = λ u sp. k.none sp.3 (left_items sp.0 sp.1 sp.2 sp.3 sp.4 sp.5 sp.6).1;
    }
      where
        inner : (a r : List ℕ) (y : X) (g : F) → b ≡ a ++ r → f.Spells a y → ItemsFail item r g ⊎ ((ys : List Y) × ItemsSpell item r ys × (test y ys ≡ false) × (g ≡ fault)) → g ≡ e
        inner a r y g eq sp (inl p) = k.first p.0 g (moved a r y g eq sp p.0 p.1)
        inner a r y g eq sp (inr p) = absurd (k.none p.0 (left_items a r y p.0 eq sp p.1).1)

        first_case : (g : F) → FailsToEnd f item test fault b g → g ≡ e
        first_case g (inl c) = absurd (h.sound g c)
        first_case g (inr p) = inner p.0 p.1 p.2 g p.3 p.4 p.5

    module _ (ys : List Y) (k : AllRead {S = Unit {0}} (λ _. item) (λ _ _. tt) tt m ys) where
      -- the test has one outcome
      same_test : (a r : List ℕ) (y : X) (zs : List Y) → b ≡ a ++ r → f.Spells a y → ItemsSpell item r zs → test y zs ≡ test x ys
      same_test a r y zs eq sp all =
          let p = left_items a r y zs eq sp all in ap (λ (z : X). test z zs) p.0 ∙ ap (test x) (k.only zs p.1)

      whole : test x ys ≡ true → IsMessage (to_end f item test fault make) b (make x ys)
      whole t = record {
        spells = (h.front, m, x, ys, h.parts, h.spells, k.spells, t, refl);
        only = λ v sp. only_case v sp;
        sound = λ e c. sound_case e c;
      }
        where
          only_case : (v : Z) → SpellsToEnd f item test make b v → v ≡ make x ys
          only_case v sp =
              let p = left_items sp.0 sp.1 sp.2 sp.3 sp.4 sp.5 sp.6 in
              sp.8 ∙ ap (λ (y : X). make y sp.3) p.0 ∙ ap (make x) (k.only sp.3 p.1)

          inner : (a r : List ℕ) (y : X) (g : F) → b ≡ a ++ r → f.Spells a y → ItemsFail item r g ⊎ ((zs : List Y) × ItemsSpell item r zs × (test y zs ≡ false) × (g ≡ fault)) → ⊥
          inner a r y g eq sp (inl p) = k.sound p.0 g (moved a r y g eq sp p.0 p.1)
          inner a r y g eq sp (inr p) = both_ways (test y p.0) p.2 (same_test a r y p.0 eq sp p.1 ∙ t)

          sound_case : (e : F) → FailsToEnd f item test fault b e → ⊥
          sound_case e (inl c) = h.sound e c
          sound_case e (inr p) = inner p.0 p.1 p.2 e p.3 p.4 p.5

      failed : test x ys ≡ false → IsBad (to_end f item test fault make) b fault
      failed t = record {
        fails = inr (h.front, m, x, h.parts, h.spells, inr (ys, k.spells, t, refl));
        first = λ g c. first_case g c;
        none = λ u sp. both_ways (test x ys) t (sym (same_test sp.0 sp.1 sp.2 sp.3 sp.4 sp.5 sp.6) ∙ sp.7);
      }
        where
          inner : (a r : List ℕ) (y : X) (g : F) → b ≡ a ++ r → f.Spells a y → ItemsFail item r g ⊎ ((zs : List Y) × ItemsSpell item r zs × (test y zs ≡ false) × (g ≡ fault)) → g ≡ fault
          inner a r y g eq sp (inl p) = absurd (k.sound p.0 g (moved a r y g eq sp p.0 p.1))
          inner a r y g eq sp (inr p) = p.3

          first_case : (g : F) → FailsToEnd f item test fault b g → g ≡ fault
          first_case g (inl c) = absurd (h.sound g c)
          first_case g (inr p) = inner p.0 p.1 p.2 g p.3 p.4 p.5

  -- Readers that are exact for f and for the items read a whole message rightly.
  pub to_end_said : (rf : Reader F X) (ri : Reader F Y) → IsExact f rf → IsExact item ri → ((a : List ℕ) (y : Y) → item.Spells a y → IsLonger a)
      → Says (to_end f item test fault make) b (read_to_end rf ri test fault make b)
  unfolding read_to_end
  to_end_said rf ri one two some = go (rf b) (one.reads b)
    where
      ended : (x : X) (m : List ℕ) → Reads f b x m → (r : Result (List Y) F) → AllHold {S = Unit {0}} (λ _. item) (λ _ _. tt) tt m r
          → Says (to_end f item test fault make) b (on_read r (λ ys. cond (test x ys) (Ok (make x ys)) (Err fault)))
      ended x m h (Err e) k = items_bad x m h e k
      ended x m h (Ok ys) k =
          cond_both (test x ys) (Ok (make x ys)) (Err fault) (λ (r : Result Z F). Says (to_end f item test fault make) b r) (λ t. whole x m h ys k t) (λ t. failed x m h ys k t)

      go : (read : Read F X) → Holds f b read → Says (to_end f item test fault make) b (on_read read (λ r. on_read (read_items ri r.1) (λ ys. cond (test r.0 ys) (Ok (make r.0 ys)) (Err fault))))
      go (Err e) h = first_bad_of e h
      go (Ok r) h = ended r.0 r.1 h (read_items ri r.1) (all_hold {S = Unit {0}} (λ _. item) (λ _ _. tt) (λ _. ri) (λ _. two) (λ _ a y sp. some a y sp) (length r.1) tt r.1 (omega arith))
