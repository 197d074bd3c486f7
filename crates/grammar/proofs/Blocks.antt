-- The items of a block are read exactly.
use Rattle.std.proofs.Common.{◌≡◌, ℕ, zero, suc, ◌≤◌, ◌<◌, List, [], ◌∷◌, ◌++◌, length, Result, Ok, Err, refl, sym, ap, subst, ◌∙◌, arith}
use Rattle.std.proofs.lemmas.List.{length-append}
use Rattle.grammar.specs.Octets.{IsLonger}
use Rattle.grammar.specs.Reading.{on_read}
use Rattle.grammar.specs.Formats.{AllFail, AllSpell, Format, block, items}
use Rattle.grammar.specs.FormatReading.{Read, Reader, read_all, read_block, read_items}
use Rattle.grammar.specs.Messages.{Holds, IsExact, Reads, Stops}

pub record AllRead {F S X : Type 0} (part : S → Format F X) (next : S → X → S) (state : S) (s : List ℕ) (xs : List X) : Type 0 where
  pub spells : AllSpell part next state s xs
  pub only : (ys : List X) → AllSpell part next state s ys → ys ≡ xs
  pub sound : (n : ℕ) (e : F) → AllFail part next n state s e → ⊥

pub record AllStop {F S X : Type 0} (part : S → Format F X) (next : S → X → S) (state : S) (s : List ℕ) (fault : F) : Type 0 where
  pub count : ℕ
  pub fails : AllFail part next count state s fault
  pub first : (n : ℕ) (e : F) → AllFail part next n state s e → e ≡ fault
  pub none : (ys : List X) → AllSpell part next state s ys → ⊥

abbrev pub AllHold : {F S X : Type 0} → (S → Format F X) → (S → X → S) → S → List ℕ → Result (List X) F → Type 0
AllHold part next state s (Ok xs) = AllRead part next state s xs
AllHold part next state s (Err e) = AllStop part next state s e

module _ {F S X : Type 0} (part : S → Format F X) (next : S → X → S) (rp : S → Reader F X) (exact : (state : S) → IsExact (part state) (rp state)) (some : (state : S) (a : List ℕ) (x : X) → (part state).Spells a x → IsLonger a) where
  nothing_left : (state : S) → AllRead part next state [] []
  nothing_left state = record { spells = refl; only = λ ys sp. only_case ys sp; sound = λ n e h. sound_case n e h }
    where
      no_front : (a b : List ℕ) → [] ≡ a ++ b → IsLonger a → ⊥
      no_front [] b e lo = lo
      no_front (c ∷ a) b e lo = cc

      only_case : (ys : List X) → AllSpell part next state [] ys → ys ≡ []
      only_case [] sp = refl
      only_case (y ∷ ys) sp = absurd (no_front sp.0 sp.1 sp.2 (some state sp.0 y sp.3))

      sound_case : (n : ℕ) (e : F) → AllFail part next n state [] e → ⊥
      sound_case zero e h = h.0
      sound_case (suc n) e h = no_front h.0 h.1 h.3 (some state h.0 h.2 h.4)

  first_bad : (state : S) (c : ℕ) (s : List ℕ) (e : F) → Stops (part state) (c ∷ s) e → AllStop part next state (c ∷ s) e
  first_bad state c s e h = record {
    count = 0;
    fails = (tt, h.fails);
    first = λ n e' k. first_case n e' k;
    none = λ ys sp. none_case ys sp;
  }
    where
      first_case : (n : ℕ) (e' : F) → AllFail part next n state (c ∷ s) e' → e' ≡ e
      first_case zero e' k = h.first e' k.1
      first_case (suc n) e' k = absurd (h.none k.0 k.1 k.2 k.3 k.4)

      none_case : (ys : List X) → AllSpell part next state (c ∷ s) ys → ⊥
      none_case [] sp = cc
      none_case (y ∷ ys) sp = h.none sp.0 sp.1 y sp.2 sp.3

  module _ (state : S) (c : ℕ) (s : List ℕ) (x : X) (m : List ℕ) (h : Reads (part state) (c ∷ s) x m) where
    later_read : (xs : List X) → AllRead part next (next state x) m xs → AllRead part next state (c ∷ s) (x ∷ xs)
    later_read xs k = record { spells = (h.front, m, h.parts, h.spells, k.spells); only = λ ys sp. only_case ys sp; sound = λ n e b. sound_case n e b }
      where
        only_case : (ys : List X) → AllSpell part next state (c ∷ s) ys → ys ≡ x ∷ xs
        only_case [] sp = absurd cc
        only_case (y ∷ ys) sp =
            let p = h.only sp.0 sp.1 y sp.2 sp.3 in
            let rest : AllSpell part next (next state x) m ys = subst (λ (v : X). AllSpell part next (next state v) m ys) p.2 (subst (λ (t : List ℕ). AllSpell part next (next state y) t ys) p.1 sp.4) in
            let q = k.only ys rest in ap (λ (v : X). v ∷ ys) p.2 ∙ ap (λ (vs : List X). x ∷ vs) q

        sound_case : (n : ℕ) (e : F) → AllFail part next n state (c ∷ s) e → ⊥
        sound_case zero e b = h.sound e b.1
        sound_case (suc n) e b =
            let p = h.only b.0 b.1 b.2 b.3 b.4 in
            k.sound n e (subst (λ (v : X). AllFail part next n (next state v) m e) p.2 (subst (λ (t : List ℕ). AllFail part next n (next state b.2) t e) p.1 b.5))

    later_bad : (e : F) → AllStop part next (next state x) m e → AllStop part next state (c ∷ s) e
    later_bad e k = record {
      count = suc k.count;
      fails = (h.front, m, x, h.parts, h.spells, k.fails);
      first = λ n e' b. first_case n e' b;
      none = λ ys sp. none_case ys sp;
    }
      where
        first_case : (n : ℕ) (e' : F) → AllFail part next n state (c ∷ s) e' → e' ≡ e
        first_case zero e' b = absurd (h.sound e' b.1)
        first_case (suc n) e' b =
            let p = h.only b.0 b.1 b.2 b.3 b.4 in
            k.first n e' (subst (λ (v : X). AllFail part next n (next state v) m e') p.2 (subst (λ (t : List ℕ). AllFail part next n (next state b.2) t e') p.1 b.5))

        none_case : (ys : List X) → AllSpell part next state (c ∷ s) ys → ⊥
        none_case [] sp = cc
        none_case (y ∷ ys) sp =
            let p = h.only sp.0 sp.1 y sp.2 sp.3 in
            k.none ys (subst (λ (v : X). AllSpell part next (next state v) m ys) p.2 (subst (λ (t : List ℕ). AllSpell part next (next state y) t ys) p.1 sp.4))

  pub all_hold : (fuel : ℕ) (state : S) (s : List ℕ) → length s ≤ fuel → AllHold part next state s (read_all fuel rp next state s)
  all_hold fuel state [] le = nothing_left state
  all_hold zero state (c ∷ s) le = absurd (omega arith)
  all_hold (suc fuel) state (c ∷ s) le = go (λ st t l. all_hold fuel st t l) (rp state (c ∷ s)) ((exact state).reads (c ∷ s))
    where
      shorter : (x : X) (m : List ℕ) (h : Reads (part state) (c ∷ s) x m) → length m ≤ fuel
      shorter x m h = omega (arith, le, ap length h.parts, length-append h.front m, positive h.front (some state h.front x h.spells))
        where
          positive : (a : List ℕ) → IsLonger a → 0 < length a
          positive [] lo = absurd lo
          positive (y ∷ a) lo = omega arith

      last : (x : X) (m : List ℕ) (h : Reads (part state) (c ∷ s) x m) (r : Result (List X) F) → AllHold part next (next state x) m r → AllHold part next state (c ∷ s) (on_read r (λ xs. Ok (x ∷ xs)))
      last x m h (Ok xs) k = later_read state c s x m h xs k
      last x m h (Err e) k = later_bad state c s x m h e k

      go : ((st : S) (t : List ℕ) → length t ≤ fuel → AllHold part next st t (read_all fuel rp next st t)) → (read : Read F X) → Holds (part state) (c ∷ s) read
          → AllHold part next state (c ∷ s) (on_read read (λ r. on_read (read_all fuel rp next (next state r.0) r.1) (λ xs. Ok (r.0 ∷ xs))))
      go more (Ok r) h = last r.0 r.1 h (read_all fuel rp next (next state r.0) r.1) (more (next state r.0) r.1 (shorter r.0 r.1 h))
      go more (Err e) h = first_bad state c s e h

  block_holds : (state : S) (inner s : List ℕ) (r : Result (List X) F) → AllHold part next state inner r → Holds (block part next state inner) s (on_read r (λ xs. Ok (xs, s)))
  block_holds state inner s (Ok xs) k = record {
    front = [];
    parts = refl;
    spells = (refl, k.spells);
    only = λ a b y e sp. (sp.0, sym (ap (λ (t : List ℕ). t ++ b) sp.0) ∙ sym e, k.only y sp.1);
    sound = λ e h. k.sound h.0 e h.1;
  }
  block_holds state inner s (Err e) k = record { fails = (k.count, k.fails); first = λ e' h. k.first h.0 e' h.1; none = λ a b y eq sp. k.none y sp.1 }

  pub block_exact : (state : S) (inner : List ℕ) → IsExact (block part next state inner) (read_block rp next state inner)
  block_exact state inner = record { reads = λ s. block_holds state inner s (read_all (length inner) rp next state inner) (all_hold (length inner) state inner (omega arith)) }

-- Items, none of which depends on another, are read exactly.
pub items_exact : {F X : Type 0} (item : Format F X) (reader : Reader F X) → IsExact item reader → ((a : List ℕ) (x : X) → item.Spells a x → IsLonger a)
    → (inner : List ℕ) → IsExact (items item inner) (λ s. on_read (read_items reader inner) (λ xs. Ok (xs, s)))
items_exact item reader exact some inner = block_exact {S = Unit {0}} (λ _. item) (λ _ _. tt) (λ _. reader) (λ _. exact) (λ _ a x sp. some a x sp) tt inner
