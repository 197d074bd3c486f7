-- A word is read exactly.
use Rattle.std.proofs.Common.{◌≡◌, ℕ, ◌+◌, ◌-◌, Bool, List, [], ◌∷◌, ◌++◌, length, Ok, Err, refl, sym, ap, subst, ◌∙◌, arith, eqb}
use Rattle.std.proofs.lemmas.Bool.{cond_both, eqb-true, eqb-false}
use Rattle.grammar.specs.TextReading as reading
use Rattle.grammar.specs.Octets.{IsLonger, StartsAs}
use Rattle.grammar.specs.Rules.{word}
use Rattle.grammar.specs.TextReading.{Deep, Fault, Read, Reader, Wrong, read_word}
use Rattle.grammar.specs.Exactness.{Deeper, Family, Holds, IsExact, ReadsExactly, Stops}
use Rattle.grammar.proofs.Lists.{tail_is}
use Rattle.grammar.proofs.OctetKinds.{any}
use Rattle.grammar.proofs.Firsts.{any_leads}
use Rattle.grammar.proofs.Exact.{both, both_exact}

-- what is begun here is empty, or begins as m does
abbrev EndsHere : List ℕ → (List ℕ → Type 0) → Type 0
EndsHere m P = (n : List ℕ) → StartsAs m n → IsLonger n → P n → ⊥

pub end_of : (P : List ℕ → Type 0) → EndsHere [] P
end_of P [] st lo p = lo
end_of P (c ∷ n) st lo p = st

word_over : (n more : List ℕ) → IsLonger n → [] ≡ n ++ more → ⊥
word_over [] more lo e = lo
word_over (c ∷ n) more lo e = cc

other_octet : (c b : ℕ) (w s n more : List ℕ) → (c ≡ b → ⊥) → StartsAs (b ∷ s) n → IsLonger n → c ∷ w ≡ n ++ more → ⊥
other_octet c b w s [] more ne st lo e = lo
other_octet c b w s (x ∷ n) more ne st lo e = ne cc

ends_before : (c : ℕ) (w a n n' : List ℕ) → StartsAs [] n → a ≡ c ∷ w → a ++ n' ≡ n → ⊥
ends_before c w a [] n' st e eq = let f : (c ∷ w) ++ n' ≡ [] = ap (λ (t : List ℕ). t ++ n') (sym e) ∙ eq in cc
ends_before c w a (x ∷ n) n' st e eq = st

differs_before : (c b : ℕ) (w s a n n' : List ℕ) → (c ≡ b → ⊥) → StartsAs (b ∷ s) n → a ≡ c ∷ w → a ++ n' ≡ n → ⊥
differs_before c b w s a [] n' ne st e eq = let f : (c ∷ w) ++ n' ≡ [] = ap (λ (t : List ℕ). t ++ n') (sym e) ∙ eq in cc
differs_before c b w s a (x ∷ n) n' ne st e eq = let f : (c ∷ w) ++ n' ≡ x ∷ n = ap (λ (t : List ℕ). t ++ n') (sym e) ∙ eq in ne cc

word_stops : (c : ℕ) (w back : List ℕ) (d : ℕ) (follow : ℕ → Bool) (at p : ℕ) → p ≡ at
    → EndsHere back (λ n. (more : List ℕ) × (c ∷ w ≡ n ++ more))
    → ((a n n' : List ℕ) → StartsAs back n → a ≡ c ∷ w → a ++ n' ≡ n → ⊥)
    → Stops (λ e. word (c ∷ w)) d follow at back (Wrong p)
word_stops c w back d follow at p p_is ends none = record {
  front = [];
  back = back;
  parts = refl;
  place = omega arith;
  begins = λ e le. (c ∷ w, refl);
  ends = λ e cov n st lo b. ends n st lo b;
  none = λ e cov a n n' y st sp fol eq. none a n n' st sp eq;
  deeper = tt;
}

-- the same word one octet longer
word_more : (c b : ℕ) (w s : List ℕ) (d : ℕ) (follow : ℕ → Bool) (at : ℕ) → c ≡ b → (read : Read (Unit {0})) → Holds (λ e. word w) d follow (at + 1) s read → Holds (λ e. word (c ∷ w)) d follow at (b ∷ s) read
word_more c b w s d follow at same (Ok r) h = record {
  front = c ∷ h.front;
  parts = let p = h.parts in cc;
  spells = λ e le. ap (λ (t : List ℕ). c ∷ t) (h.spells e le);
  begins = λ e le. let p = h.begins e le in (p.0, ap (λ (t : List ℕ). c ∷ t) p.1);
  only = λ e a n n' y st sp fol eq.
      let q = h.only e w n n' y st refl fol (tail_is c c (w ++ n') (h.front ++ n) (ap (λ (t : List ℕ). t ++ n') (sym sp) ∙ eq)) in
      (sp ∙ ap (λ (t : List ℕ). c ∷ t) q.0, q.1, refl);
  ends = λ e n st lo b. h.ends e n st lo (b.0, tail_is c c w ((h.front ++ n) ++ b.0) b.1);
}
word_more c b w s d follow at same (Err fault) h = record {
  front = c ∷ h.front;
  back = h.back;
  parts = let p = h.parts in cc;
  place = omega (arith, h.place);
  begins = λ e le. let p = h.begins e le in (p.0, ap (λ (t : List ℕ). c ∷ t) p.1);
  ends = λ e cov n st lo b. h.ends e cov n st lo (b.0, tail_is c c w ((h.front ++ n) ++ b.0) b.1);
  none = λ e cov a n n' y st sp fol eq.
      h.none e cov w n n' y st refl fol (tail_is c c (w ++ n') (h.front ++ n) (ap (λ (t : List ℕ). t ++ n') (sym sp) ∙ eq));
  deeper = deeper_more fault h.front h.back h.deeper;
}
  where
    deeper_more : (fault : Fault) (front back : List ℕ) → Deeper (λ e. word w) d (at + 1) front back fault → Deeper (λ e. word (c ∷ w)) d at (c ∷ front) back fault
    deeper_more (Wrong p) front back k = tt
    deeper_more (Deep p) front back k = (k.0, k.1, (k.2.0, ap (λ (t : List ℕ). c ∷ t) k.2.1))

word_holds : (w : List ℕ) (d : ℕ) (follow : ℕ → Bool) → ReadsExactly (λ e. word w) d follow (read_word w)
word_holds [] d follow at s = record {
  front = [];
  parts = refl;
  spells = λ e le. refl;
  begins = λ e le. ([], refl);
  only = λ e a n n' y st sp fol eq. (sp, sym (ap (λ (t : List ℕ). t ++ n') sp) ∙ eq, refl);
  ends = λ e n st lo b. word_over n b.0 lo b.1;
}
word_holds (c ∷ w) d follow at [] =
    word_stops c w [] d follow at (at + 0) (omega arith) (end_of (λ n. (more : List ℕ) × (c ∷ w ≡ n ++ more))) (λ a n n' st e eq. ends_before c w a n n' st e eq)
word_holds (c ∷ w) d follow at (b ∷ s) =
    let total : at + length (b ∷ s) ≡ at + 1 + length s = omega arith in
    cond_both (eqb c b) (read_word w (at + length (b ∷ s)) s) (Err (Wrong ((at + length (b ∷ s)) - length (b ∷ s)))) (λ (r : Read (Unit {0})). Holds (λ e. word (c ∷ w)) d follow at (b ∷ s) r)
    (λ t. word_more c b w s d follow at (eqb-true c b t) (read_word w (at + length (b ∷ s)) s)
    (subst (λ (n : ℕ). Holds (λ e. word w) d follow (at + 1) s (read_word w n s)) (sym total) (word_holds w d follow (at + 1) s)))
    (λ t. let ne = eqb-false c b t in
    word_stops c w (b ∷ s) d follow at ((at + length (b ∷ s)) - length (b ∷ s)) (omega arith)
    (λ n st lo p. other_octet c b w s n p.0 ne st lo p.1) (λ a n n' st e eq. differs_before c b w s a n n' ne st e eq))

pub word_exact : (w : List ℕ) (d : ℕ) (follow : ℕ → Bool) → IsExact (λ e. word w) d follow (read_word w)
word_exact w d follow = record { reads = word_holds w d follow }

pub word_then : {X : Type 0} (w : List ℕ) (g : Family X) (d : ℕ) (follow : ℕ → Bool) (rg : Reader X) → IsExact g d follow rg
    → IsExact (both (λ e. word w) (λ _. g)) d follow (reading.◌>>◌ (read_word w) rg)
word_then w g d follow rg exact =
    both_exact (λ e. word w) (λ _. g) d any follow (λ _. any_leads g follow) (read_word w) (λ _. rg) (word_exact w d any) (λ _. exact)
