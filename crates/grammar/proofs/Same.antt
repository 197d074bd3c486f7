-- Rules that say the same are read by the same reader.
use Rattle.std.proofs.Common.{ℕ, suc, ◌+◌, Bool, List, [], ◌∷◌, ◌++◌, length, Ok, Err}
use Rattle.grammar.specs.TextReading.{Deep, Fault, Read, Reader, Wrong}
use Rattle.grammar.specs.Exactness.{Deeper, Family, Holds, IsExact}
use Rattle.grammar.proofs.Firsts.{Heads}

pub record Same {X : Type 0} (f g : Family X) : Type 0 where
  pub spells : (e at : ℕ) (s : List ℕ) (x : X) → (f e).Spells at s x → (g e).Spells at s x
  pub spells_back : (e at : ℕ) (s : List ℕ) (x : X) → (g e).Spells at s x → (f e).Spells at s x
  pub begins : (e at : ℕ) (s : List ℕ) → (f e).Begins at s → (g e).Begins at s
  pub begins_back : (e at : ℕ) (s : List ℕ) → (g e).Begins at s → (f e).Begins at s

pub same_exact : {X : Type 0} (f g : Family X) (d : ℕ) (follow : ℕ → Bool) (rf : Reader X) → Same f g → IsExact f d follow rf → IsExact g d follow rf
same_exact {X} f g d follow rf same exact = record { reads = λ at s. go at s (rf (at + length s) s) (exact.reads at s) }
  where
    deeper_case : (at : ℕ) (fault : Fault) (front back : List ℕ) → Deeper f d at front back fault → Deeper g d at front back fault
    deeper_case at (Wrong p) front back h = tt
    deeper_case at (Deep p) front back h = (h.0, h.1, same.begins (suc d) at (front ++ 40 ∷ []) h.2)

    go : (at : ℕ) (s : List ℕ) (read : Read X) → Holds f d follow at s read → Holds g d follow at s read
    go at s (Ok r) k = record {
      front = k.front;
      parts = k.parts;
      spells = λ e le. same.spells e at k.front r.0 (k.spells e le);
      begins = λ e le. same.begins e at k.front (k.begins e le);
      only = λ e a n n' z st sp fol eq. k.only e a n n' z st (same.spells_back e at a z sp) fol eq;
      ends = λ e n st lo b. k.ends e n st lo (same.begins_back e at (k.front ++ n) b);
    }
    go at s (Err fault) k = record {
      front = k.front;
      back = k.back;
      parts = k.parts;
      place = k.place;
      begins = λ e le. same.begins e at k.front (k.begins e le);
      ends = λ e cov n st lo b. k.ends e cov n st lo (same.begins_back e at (k.front ++ n) b);
      none = λ e cov a n n' z st sp fol eq. k.none e cov a n n' z st (same.spells_back e at a z sp) fol eq;
      deeper = deeper_case at fault k.front k.back k.deeper;
    }

pub Same-trans : {X : Type 0} (f g h : Family X) → Same f g → Same g h → Same f h
Same-trans f g h p q = record {
  spells = λ e at s x k. q.spells e at s x (p.spells e at s x k);
  spells_back = λ e at s x k. p.spells_back e at s x (q.spells_back e at s x k);
  begins = λ e at s k. q.begins e at s (p.begins e at s k);
  begins_back = λ e at s k. p.begins_back e at s (q.begins_back e at s k);
}

pub same_heads : {X : Type 0} (f g : Family X) (to : ℕ → Bool) → Same f g → Heads f to → Heads g to
same_heads f g to same h = record { spells = λ e at s x sp. h.spells e at s x (same.spells_back e at s x sp); begins = λ e at s b. h.begins e at s (same.begins_back e at s b) }
