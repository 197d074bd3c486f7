-- The simple formats, and one after another, are read exactly.
use Rattle.std.proofs.Common.{◌≡◌, ℕ, ◌≤◌, ◌<◌, Bool, true, false, List, [], ◌∷◌, ◌++◌, length, take, drop, Ok, Err, refl, sym, ap, subst, ◌∙◌, append_assoc, arith, inl, inr, ltb}
use Rattle.std.proofs.lemmas.List.{take-append-drop, take_at, drop_at, length-append, length-take}
use Rattle.std.proofs.lemmas.Bool.{cond_both, ltb-false, ltb-true}
use Rattle.grammar.specs.Formats as formats
use Rattle.grammar.specs.FormatReading as reading
use Rattle.grammar.specs.Octets.{IsLonger}
use Rattle.grammar.specs.Reading.{on_read}
use Rattle.grammar.specs.Formats.{Format, ensure, octet, octets, ◌>>=◌}
use Rattle.grammar.specs.FormatReading.{Read, Reader, read_ensure, read_octets}
use Rattle.grammar.specs.Messages.{Holds, IsExact, Reads, Stops}

pub pure_exact : {F X : Type 0} (x : X) → IsExact {F = F} (formats.pure x) (reading.pure x)
pure_exact x = record {
  reads = λ s. record {
    front = [];
    parts = refl;
    spells = (refl, refl);
    only = λ a b y e sp. (sp.0, sym (ap (λ (t : List ℕ). t ++ b) sp.0) ∙ sym e, sp.1);
    sound = λ e h. h;
  };
}

pub octets_front : (n : ℕ) (s a b : List ℕ) → n ≤ length s → s ≡ a ++ b → length a ≡ n → (a ≡ take n s) × (b ≡ drop n s)
octets_front n s a b le e len = (sym (ap (take n) e ∙ take_at a b n len), sym (ap (drop n) e ∙ drop_at a b n len))

octets_holds : {F : Type 0} (n : ℕ) (fault : F) (s : List ℕ) → Holds (octets n fault) s (read_octets n fault s)
octets_holds {F} n fault s =
    cond_both (ltb (length s) n) (Err fault) (Ok (take n s, drop n s)) (λ (r : Read F (List ℕ)). Holds (octets n fault) s r)
    (λ t. let short : length s < n = ltb-true (length s) n t in record {
      fails = (short, refl);
      first = λ e h. h.1;
      none = λ a b y e sp. omega (arith, short, ap length e, length-append a b, sp.0);
    })
    (λ t. let long : n ≤ length s = ltb-false (length s) n t in record {
      front = take n s;
      parts = sym (take-append-drop n s);
      spells = (omega (arith, long, length-take n s), refl);
      only = λ a b y e sp. let p = octets_front n s a b long e sp.0 in (p.0, p.1, sp.1 ∙ p.0);
      sound = λ e h. omega (arith, h.0, long);
    })

pub octets_exact : {F : Type 0} (n : ℕ) (fault : F) → IsExact (octets n fault) (read_octets n fault)
octets_exact n fault = record { reads = octets_holds n fault }

ensure_holds : {F : Type 0} (test : Bool) (fault : F) (s : List ℕ) → Holds (ensure test fault) s (read_ensure test fault s)
ensure_holds true fault s = record {
  front = [];
  parts = refl;
  spells = (refl, refl);
  only = λ a b y e sp. (sp.0, sym (ap (λ (t : List ℕ). t ++ b) sp.0) ∙ sym e, refl);
  sound = λ e h. wrong h.0;
}
  where
    wrong : true ≡ false → ⊥
    wrong e = cc
ensure_holds false fault s = record { fails = (refl, refl); first = λ e h. h.1; none = λ a b y e sp. wrong sp.1 }
  where
    wrong : false ≡ true → ⊥
    wrong e = cc

pub ensure_exact : {F : Type 0} (test : Bool) (fault : F) → IsExact (ensure test fault) (read_ensure test fault)
ensure_exact test fault = record { reads = ensure_holds test fault }

octet_holds : {F : Type 0} (fault : F) (s : List ℕ) → Holds (formats.octet fault) s (reading.read_octet fault s)
octet_holds fault [] = record { fails = (refl, refl); first = λ e h. h.1; none = λ a b y e sp. wrong a b y e sp }
  where
    wrong : (a b : List ℕ) (y : ℕ) → [] ≡ a ++ b → a ≡ y ∷ [] → ⊥
    wrong a b y e sp = let f : [] ≡ (y ∷ []) ++ b = e ∙ ap (λ (t : List ℕ). t ++ b) sp in cc
octet_holds fault (c ∷ s) = record {
  front = c ∷ [];
  parts = refl;
  spells = refl;
  only = λ a b y e sp. case a b y e sp;
  sound = λ e h. none h.0;
}
  where
    none : c ∷ s ≡ [] → ⊥
    none e = cc

    case : (a b : List ℕ) (y : ℕ) → c ∷ s ≡ a ++ b → a ≡ y ∷ [] → (a ≡ c ∷ []) × (b ≡ s) × (y ≡ c)
    case a b y e sp = let f : c ∷ s ≡ y ∷ b = e ∙ ap (λ (t : List ℕ). t ++ b) sp in let g : y ≡ c = cc in (sp ∙ ap (λ (z : ℕ). z ∷ []) g, cc, g)

pub octet_exact : {F : Type 0} (fault : F) → IsExact (formats.octet fault) (reading.read_octet fault)
octet_exact fault = record { reads = octet_holds fault }

module _ {F X Y : Type 0} (f : Format F X) (g : X → Format F Y) (s : List ℕ) where
  first_stops : (e : F) → Stops f s e → Stops (f >>= g) s e
  unfolding ◌>>=◌
  first_stops e h = record {
    fails = inl h.fails;
    first = λ e' b. first_case e' b;
    none = λ a b y eq sp. h.none sp.0 (sp.1 ++ b) sp.2 (eq ∙ ap (λ (t : List ℕ). t ++ b) sp.3 ∙ append_assoc sp.0 sp.1 b) sp.4;
  }
    where
      first_case : (e' : F) → (f >>= g).Fails s e' → e' ≡ e
      first_case e' (inl b) = h.first e' b
      first_case e' (inr p) = absurd (h.none p.0 p.1 p.2 p.3 p.4)

  module _ (x : X) (m : List ℕ) (h : Reads f s x m) where
    both_reads : (y : Y) (r : List ℕ) → Reads (g x) m y r → Reads (f >>= g) s y r
    unfolding ◌>>=◌
    both_reads y r k = record {
      front = h.front ++ k.front;
      parts = h.parts ∙ ap (λ (t : List ℕ). h.front ++ t) k.parts ∙ sym (append_assoc h.front k.front r);
      spells = (h.front, k.front, x, refl, h.spells, k.spells);
      only = λ a b z eq sp.
          let p = h.only sp.0 (sp.1 ++ b) sp.2 (eq ∙ ap (λ (t : List ℕ). t ++ b) sp.3 ∙ append_assoc sp.0 sp.1 b) sp.4 in
          let moved : (g x).Spells sp.1 z = subst (λ (v : X). (g v).Spells sp.1 z) p.2 sp.5 in
          let q = k.only sp.1 b z (sym p.1) moved in
          (sp.3 ∙ ap (λ (t : List ℕ). t ++ sp.1) p.0 ∙ ap (λ (t : List ℕ). h.front ++ t) q.0, q.1, q.2);
      sound = λ e b. sound_case e b;
    }
      where
        sound_case : (e : F) → (f >>= g).Fails s e → ⊥
        sound_case e (inl b) = h.sound e b
        sound_case e (inr p) =
            let q = h.only p.0 p.1 p.2 p.3 p.4 in
            k.sound e (subst (λ (v : X). (g v).Fails m e) q.2 (subst (λ (t : List ℕ). (g p.2).Fails t e) q.1 p.5))

    second_stops : (e : F) → Stops (g x) m e → Stops (f >>= g) s e
    unfolding ◌>>=◌
    second_stops e k = record {
      fails = inr (h.front, m, x, h.parts, h.spells, k.fails);
      first = λ e' b. first_case e' b;
      none = λ a b z eq sp.
          let p = h.only sp.0 (sp.1 ++ b) sp.2 (eq ∙ ap (λ (t : List ℕ). t ++ b) sp.3 ∙ append_assoc sp.0 sp.1 b) sp.4 in
          k.none sp.1 b z (sym p.1) (subst (λ (v : X). (g v).Spells sp.1 z) p.2 sp.5);
    }
      where
        first_case : (e' : F) → (f >>= g).Fails s e' → e' ≡ e
        first_case e' (inl b) = absurd (h.sound e' b)
        first_case e' (inr p) =
            let q = h.only p.0 p.1 p.2 p.3 p.4 in
            k.first e' (subst (λ (v : X). (g v).Fails m e') q.2 (subst (λ (t : List ℕ). (g p.2).Fails t e') q.1 p.5))

pub then_exact : {F X Y : Type 0} (f : Format F X) (g : X → Format F Y) (rf : Reader F X) (rg : X → Reader F Y) → IsExact f rf → ((x : X) → IsExact (g x) (rg x)) → IsExact (f >>= g) (reading.◌>>=◌ rf rg)
then_exact {F} {X} {Y} f g rf rg one two = record { reads = λ s. go s (rf s) (one.reads s) }
  where
    second : (s : List ℕ) (x : X) (m : List ℕ) → Reads f s x m → (read : Read F Y) → Holds (g x) m read → Holds (f >>= g) s read
    second s x m h (Ok r) k = both_reads f g s x m h r.0 r.1 k
    second s x m h (Err e) k = second_stops f g s x m h e k

    go : (s : List ℕ) (read : Read F X) → Holds f s read → Holds (f >>= g) s (on_read read (λ r. rg r.0 r.1))
    go s (Ok r) h = second s r.0 r.1 h (rg r.0 r.1) ((two r.0).reads r.1)
    go s (Err e) h = first_stops f g s e h

-- What begins with an octet isn't empty.
pub octet_first : {F X : Type 0} (fault : F) (g : ℕ → Format F X) (a : List ℕ) (x : X) → (formats.octet fault >>= g).Spells a x → IsLonger a
unfolding ◌>>=◌
octet_first fault g a x sp = subst IsLonger (sym (sp.3 ∙ ap (λ (t : List ℕ). t ++ sp.1) sp.4)) tt
