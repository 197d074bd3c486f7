-- A whole text is read exactly, and each fault is at its place.
use Rattle.std.proofs.Common.{◌≡◌, ℕ, zero, suc, ◌-◌, ◌≤◌, ◌<◌, Bool, List, [], ◌∷◌, ◌++◌, length, take, Result, Ok, Err, Some, refl, sym, ap, subst, ◌∙◌, arith, inl, inr}
use Rattle.std.specs.Prelude.{◌⊎◌, slice_get}
use Rattle.std.proofs.lemmas.List.{append-nil, take_at, length-append}
use Rattle.std.proofs.lemmas.Bool.{cases_lt}
use Rattle.grammar.specs.Octets.{IsLonger, StartsAs}
use Rattle.grammar.specs.TextReading.{Deep, Fault, Read, Reader, Wrong}
use Rattle.grammar.specs.Exactness.{Family, Holds, IsExact, Reads, Stops}
use Rattle.grammar.specs.Texts.{BeginsText, IsDeepFault, IsSyntaxFault, Says, at_end, finish, read_whole}

starts_self : (s : List ℕ) → StartsAs s s
starts_self [] = tt
starts_self (c ∷ s) = refl

starts_take : (j : ℕ) (s : List ℕ) → StartsAs s (take j s)
starts_take zero s = tt
starts_take (suc j) [] = tt
starts_take (suc j) (c ∷ s) = refl

longer_take : (j : ℕ) (s : List ℕ) → 0 < j → j ≤ length s → IsLonger (take j s)
longer_take zero s lo hi = omega arith
longer_take (suc j) [] lo hi = omega arith
longer_take (suc j) (c ∷ s) lo hi = tt

take_past : (a b : List ℕ) (k : ℕ) → length a ≤ k → take k (a ++ b) ≡ a ++ take (k - length a) b
take_past [] b k le = ap (λ (n : ℕ). take n b) (omega arith)
take_past (c ∷ a) b zero le = absurd (omega arith)
take_past (c ∷ a) b (suc k) le = let same : k - length a ≡ suc k - suc (length a) = omega arith in
    ap (λ (t : List ℕ). c ∷ t) (take_past a b k (omega arith)) ∙ ap (λ (n : ℕ). c ∷ (a ++ take n b)) same

get_at : (a b : List ℕ) (c : ℕ) → slice_get (a ++ c ∷ b) (length a) ≡ Some c
get_at [] b c = refl
get_at (x ∷ a) b c = get_at a b c

pub get_within : (p : ℕ) (text : List ℕ) → slice_get text p ≡ Some 40 → suc p ≤ length text
get_within p [] e = absurd cc
get_within zero (c ∷ text) e = omega arith
get_within (suc p) (c ∷ text) e = omega (arith, get_within p text e)

front_of : (text front back : List ℕ) (n : ℕ) → n ≡ length front → text ≡ front ++ back → take n text ≡ front
front_of text front back n n_is parts = ap (take n) parts ∙ take_at front back n (sym n_is)

module _ {X : Type 0} (f : Family X) where
  -- no longer front of a text begins one
  pub longest_for : (e : ℕ) (text front back : List ℕ) (n : ℕ) → n ≡ length front → text ≡ front ++ back
      → ((t : List ℕ) → StartsAs back t → IsLonger t → (f e).Begins 0 (front ++ t) → ⊥)
      → (k : ℕ) → k ≤ length text → (f e).Begins 0 (take k text) → k ≤ n
  longest_for e text front back n n_is parts ends k le b = go (cases_lt n k)
    where
      go : (n < k) ⊎ (k ≤ n) → k ≤ n
      go (inr h) = h
      go (inl h) =
          let cut : take k text ≡ front ++ take (k - length front) back = ap (take k) parts ∙ take_past front back k (omega arith) in
          let long : k - length front ≤ length back = omega (arith, ap length parts, length-append front back) in
          absurd (ends (take (k - length front) back) (starts_take (k - length front) back) (longer_take (k - length front) back (omega arith) long)
          (subst (λ (t : List ℕ). (f e).Begins 0 t) cut b))

  longest_at : (text front back : List ℕ) (n : ℕ) → n ≡ length front → text ≡ front ++ back
      → ((e : ℕ) (t : List ℕ) → StartsAs back t → IsLonger t → (f e).Begins 0 (front ++ t) → ⊥)
      → (k : ℕ) → k ≤ length text → BeginsText f (take k text) → k ≤ n
  longest_at text front back n n_is parts ends k le b = longest_for b.0 text front back n n_is parts (ends b.0) k le b.1

  module _ (d : ℕ) (follow : ℕ → Bool) (text : List ℕ) where
    syntax_fault : (p : ℕ) → Stops f d follow 0 text (Wrong p) → IsSyntaxFault f d text p
    syntax_fault p h =
        let p_is : p ≡ length h.front = omega (arith, h.place) in
        record {
          none = λ y k. h.none k.0 tt text h.back [] y (starts_self h.back) k.1 tt (append-nil text ∙ h.parts);
          within = omega (arith, p_is, ap length h.parts, length-append h.front h.back);
          begins = subst (λ (t : List ℕ). (f d).Begins 0 t) (sym (front_of text h.front h.back p p_is h.parts)) (h.begins d (omega arith));
          longest = longest_at text h.front h.back p p_is h.parts (λ e t st lo b. h.ends e tt t st lo b);
        }

    deep_fault : (p : ℕ) → Stops f d follow 0 text (Deep p) → IsDeepFault f d text p
    deep_fault p h =
        let p_is : p ≡ length h.front = omega (arith, h.place) in
        let rest = h.deeper.0 in
        let whole : text ≡ h.front ++ 40 ∷ rest = h.parts ∙ ap (λ (t : List ℕ). h.front ++ t) h.deeper.1 in
        let one : suc p - length h.front ≡ 1 = omega arith in
        let cut : take (suc p) text ≡ h.front ++ 40 ∷ [] =
        ap (take (suc p)) whole ∙ take_past h.front (40 ∷ rest) (suc p) (omega arith) ∙ ap (λ (n : ℕ). h.front ++ take n (40 ∷ rest)) one in
        record {
          opens = ap (λ (t : List ℕ). slice_get t p) whole ∙ ap (slice_get (h.front ++ 40 ∷ rest)) p_is ∙ get_at h.front rest 40;
          begins = subst (λ (t : List ℕ). (f (suc d)).Begins 0 t) (sym cut) h.deeper.2;
          before = subst (λ (t : List ℕ). (f d).Begins 0 t) (sym (front_of text h.front h.back p p_is h.parts)) (h.begins d (omega arith));
          longest = longest_for d text h.front h.back p p_is h.parts (λ t st lo b. h.ends d (omega arith) t st lo b);
          none = λ y k. h.none d (omega arith) text h.back [] y (starts_self h.back) k tt (append-nil text ∙ h.parts);
        }

    behind : (x : X) (back : List ℕ) → Reads f d follow 0 text x back → Says f d text (at_end text x back)
    behind x [] h =
        let whole : h.front ≡ text = sym (append-nil h.front) ∙ sym h.parts in
        record {
          spells = subst (λ (t : List ℕ). (f d).Spells 0 t x) whole (h.spells d (omega arith));
          only = λ y k. (h.only k.0 text [] [] y tt k.1 tt (ap (λ (t : List ℕ). t ++ []) (sym whole))).2;
        }
    behind x (c ∷ s) h =
        let n_is : length text - length (c ∷ s) ≡ length h.front = omega (arith, ap length h.parts, length-append h.front (c ∷ s)) in
        record {
          none = λ y k. left c s (h.only k.0 text (c ∷ s) [] y refl k.1 tt (append-nil text ∙ h.parts)).1;
          within = omega arith;
          begins = (subst (λ (t : List ℕ). (f d).Begins 0 t) (sym (front_of text h.front (c ∷ s) (length text - length (c ∷ s)) n_is h.parts)) (h.begins d (omega arith)));
          longest = longest_at text h.front (c ∷ s) (length text - length (c ∷ s)) n_is h.parts (λ e t st lo b. h.ends e t st lo b);
        }
      where
        left : (c : ℕ) (s : List ℕ) → [] ≡ c ∷ s → ⊥
        left c s e = cc

    -- A reader that is exact for the rule reads a whole text rightly.
    pub text_said : (reader : Reader X) → IsExact f d follow reader → Says f d text (read_whole reader text)
    unfolding read_whole
    text_said reader exact = go (reader (length text) text) total
      where
        total : Holds f d follow 0 text (reader (length text) text)
        total = subst (λ (n : ℕ). Holds f d follow 0 text (reader n text)) (omega arith) (exact.reads 0 text)

        go : (read : Read X) → Holds f d follow 0 text read → Says f d text (finish text read)
        go (Ok r) h = behind r.0 r.1 h
        go (Err (Wrong p)) h = syntax_fault p h
        go (Err (Deep p)) h = deep_fault p h

    -- A text spells one value at most.
    pub one_value : (reader : Reader X) → IsExact f d follow reader → (x y : X) → (f d).Spells 0 text x → (f d).Spells 0 text y → x ≡ y
    one_value reader exact x y a b = go (read_whole reader text) (text_said reader exact)
      where
        go : (read : Result X Fault) → Says f d text read → x ≡ y
        go (Ok z) h = h.only x (d, a) ∙ sym (h.only y (d, b))
        go (Err (Wrong p)) h = absurd (h.none x (d, a))
        go (Err (Deep p)) h = absurd (h.none x a)

  -- No text has two places where it is wrong.
  pub one_syntax_fault : (limit : ℕ) (text : List ℕ) (n m : ℕ) → IsSyntaxFault f limit text n → IsSyntaxFault f limit text m → n ≡ m
  one_syntax_fault limit text n m s r = omega (arith, s.longest m r.within (limit, r.begins), r.longest n s.within (limit, s.begins))

  -- No text is both wrong and too deep.
  pub deep_or_syntax : (limit : ℕ) (text : List ℕ) (n p : ℕ) → IsSyntaxFault f limit text n → IsDeepFault f limit text p → ⊥
  deep_or_syntax limit text n p s d = omega (arith, d.longest n s.within s.begins, s.longest (suc p) (get_within p text d.opens) (suc limit, d.begins))

  -- No text has two places where it is too deep.
  pub one_deep_fault : (limit : ℕ) (text : List ℕ) (n m : ℕ) → IsDeepFault f limit text n → IsDeepFault f limit text m → n ≡ m
  one_deep_fault limit text n m s r = omega (arith, s.longest m (omega (arith, get_within m text r.opens)) r.before, r.longest n (omega (arith, get_within n text s.opens)) s.before)
