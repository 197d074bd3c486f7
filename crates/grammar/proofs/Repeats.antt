-- A repetition is read exactly.
use Rattle.std.proofs.Common.{◌≡◌, ℕ, zero, suc, ◌+◌, ◌≤◌, ◌<◌, Bool, true, false, List, [], ◌∷◌, ◌++◌, length, Ok, Err, refl, sym, ap, subst, ◌∙◌, append_assoc, arith, inl, inr}
use Rattle.std.proofs.lemmas.List.{length-append}
use Rattle.std.proofs.lemmas.Bool.{cond_both, both_ways}
use Rattle.grammar.specs.Octets.{Follows, IsLonger, StartsAs}
use Rattle.grammar.specs.Rules.{BeginsTimes, SpellsTimes, many, ◌>>=◌}
use Rattle.grammar.specs.Reading.{on_read}
use Rattle.grammar.specs.TextReading.{Deep, Fault, Read, Reader, Wrong, read_many}
use Rattle.grammar.specs.Exactness.{Covers, Deeper, Family, Holds, IsExact, Reads, Stops}
use Rattle.grammar.proofs.Lists.{no_longer, starts_behind, never_empty}
use Rattle.grammar.proofs.OctetKinds.{Apart, Follows-starts, Follows-within, Within, not_nothing}
use Rattle.grammar.proofs.Firsts.{Heads, Leads}
use Rattle.grammar.proofs.Exact.{both, both_reads, both_stops, both_stops_later}
use Rattle.grammar.proofs.Starts.{StartsIn}

abbrev pub many_of : {X Y : Type 0} → (X → Y → X) → Family Y → X → Family X
many_of join part before = λ e. many join (part e) before

module _ {X Y : Type 0} (join : X → Y → X) (part : Family Y) (d : ℕ) (first test follow : ℕ → Bool) (heads : Heads part first) (apart : Apart first follow)
    (opens : (at c : ℕ) → first c ≡ true → (part d).Begins at (c ∷ [])) (in_first : Within first test) (in_follow : Within follow test) (rp : Reader Y) (exact : IsExact part d test rp) where
  -- what may stand behind a part
  times_spells : (n e at : ℕ) (before : X) (s t : List ℕ) (x : X) → SpellsTimes join (part e) n before at s x → Follows follow t → Follows test (s ++ t)
  times_spells zero e at before s t x sp fol = subst (λ (w : List ℕ). Follows test (w ++ t)) (sym sp.0) (Follows-within follow test in_follow t fol)
  times_spells (suc n) e at before s t x sp fol =
      subst (λ (w : List ℕ). Follows test (w ++ t)) (sym sp.3) (subst (Follows test) (sym (append_assoc sp.0 sp.1 t)) (Follows-starts first test in_first sp.0 (sp.1 ++ t) (heads.spells e at sp.0 sp.2 sp.4)))

  times_begins : (n e at : ℕ) (s : List ℕ) → BeginsTimes (part e) n at s → Follows test s
  times_begins zero e at s b = subst (Follows test) (sym b) tt
  times_begins (suc n) e at s (inl b) = Follows-within first test in_first s (heads.begins e at s b)
  times_begins (suc n) e at s (inr p) = subst (Follows test) (sym p.3) (Follows-starts first test in_first p.0 p.1 (heads.spells e at p.0 p.2 p.4))

  pub many_leads : (before : X) → Leads (many_of join part before) follow test
  many_leads before = record { spells = λ e at s n x sp fol. times_spells sp.0 e at before s n x sp.1 fol; begins = λ e at s b. times_begins b.0 e at s b.1 }

  abbrev again : X → Y → Family X
  again before y = many_of join part (join before y)

  many_reads : (at c : ℕ) (s : List ℕ) (before x : X) (m : List ℕ) → first c ≡ true → Reads (both part (again before)) d follow at (c ∷ s) x m → Reads (many_of join part before) d follow at (c ∷ s) x m
  unfolding ◌>>=◌
  many_reads at c s before x m t k = record {
    front = k.front;
    parts = k.parts;
    spells = λ e le. let p = k.spells e le in (suc p.5.0, (p.0, p.1, p.2, p.3, p.4, p.5.1));
    begins = λ e le. begun_case e k.front (k.begins e le);
    only = λ e a n n' y st sp fol eq. only_case e a n n' y st sp.0 sp.1 fol eq;
    ends = λ e n st lo b. ends_case e n st lo b.0 b.1;
  }
    where
      begun_case : (e : ℕ) (front : List ℕ) → (both part (again before) e).Begins at front → (many_of join part before e).Begins at front
      begun_case e front (inl b) = (1, inl b)
      begun_case e front (inr p) = (suc p.5.0, inr (p.0, p.1, p.2, p.3, p.4, p.5.1))

      takes_some : (front : List ℕ) → c ∷ s ≡ front ++ m → ((n : List ℕ) → StartsAs m n → IsLonger n → BeginsTimes (part d) 1 at (front ++ n) → ⊥) → IsLonger front
      takes_some [] e over = absurd (over (c ∷ []) (subst (λ (w : List ℕ). StartsAs w (c ∷ [])) e refl) tt (inl (opens at c t)))
      takes_some (y ∷ front) e over = tt

      ends_case : (e : ℕ) (n : List ℕ) → StartsAs m n → IsLonger n → (j : ℕ) → BeginsTimes (part e) j at (k.front ++ n) → ⊥
      ends_case e n st lo zero b = never_empty k.front n lo b
      ends_case e n st lo (suc j) (inl b) = k.ends e n st lo (inl b)
      ends_case e n st lo (suc j) (inr p) = k.ends e n st lo (inr (p.0, p.1, p.2, p.3, p.4, (j, p.5)))

      only_case : (e : ℕ) (a n n' : List ℕ) (y : X) → StartsAs m n → (j : ℕ) → SpellsTimes join (part e) j before at a y → Follows follow n' → a ++ n' ≡ k.front ++ n → (a ≡ k.front) × (n' ≡ n) × (y ≡ x)
      only_case e a n n' y st zero sp fol eq =
          absurd (not_nothing first follow apart c s a k.front n n' t (starts_behind k.front (c ∷ s) m n k.parts st) (takes_some k.front k.parts (λ n st lo b. ends_case d n st lo 1 b)) fol sp.0 eq)
      only_case e a n n' y st (suc j) sp fol eq = k.only e a n n' y st (sp.0, sp.1, sp.2, sp.3, sp.4, (j, sp.5)) fol eq

  many_stops : (at c : ℕ) (s : List ℕ) (before : X) (fault : Fault) → first c ≡ true → Stops (both part (again before)) d follow at (c ∷ s) fault → Stops (many_of join part before) d follow at (c ∷ s) fault
  unfolding ◌>>=◌
  many_stops at c s before fault t k = record {
    front = k.front;
    back = k.back;
    parts = k.parts;
    place = k.place;
    begins = λ e le. begun_case e k.front (k.begins e le);
    ends = λ e cov n st lo b. ends_case e cov n st lo b.0 b.1;
    none = λ e cov a n n' y st sp fol eq. none_case e cov a n n' y st sp.0 sp.1 fol eq;
    deeper = deeper_case fault k.front k.back k.deeper;
  }
    where
      covers_self : (fault : Fault) → Covers fault d d
      covers_self (Wrong p) = tt
      covers_self (Deep p) = omega arith

      begun_case : (e : ℕ) (front : List ℕ) → (both part (again before) e).Begins at front → (many_of join part before e).Begins at front
      begun_case e front (inl b) = (1, inl b)
      begun_case e front (inr p) = (suc p.5.0, inr (p.0, p.1, p.2, p.3, p.4, p.5.1))

      deeper_case : (fault : Fault) (front back : List ℕ) → Deeper (both part (again before)) d at front back fault → Deeper (many_of join part before) d at front back fault
      deeper_case (Wrong p) front back h = tt
      deeper_case (Deep p) front back h = (h.0, h.1, begun_case (suc d) (front ++ 40 ∷ []) h.2)

      takes_some : (front : List ℕ) → c ∷ s ≡ front ++ k.back → ((n : List ℕ) → StartsAs k.back n → IsLonger n → BeginsTimes (part d) 1 at (front ++ n) → ⊥) → IsLonger front
      takes_some [] e over = absurd (over (c ∷ []) (subst (λ (w : List ℕ). StartsAs w (c ∷ [])) e refl) tt (inl (opens at c t)))
      takes_some (y ∷ front) e over = tt

      ends_case : (e : ℕ) → Covers fault d e → (n : List ℕ) → StartsAs k.back n → IsLonger n → (j : ℕ) → BeginsTimes (part e) j at (k.front ++ n) → ⊥
      ends_case e cov n st lo zero b = never_empty k.front n lo b
      ends_case e cov n st lo (suc j) (inl b) = k.ends e cov n st lo (inl b)
      ends_case e cov n st lo (suc j) (inr p) = k.ends e cov n st lo (inr (p.0, p.1, p.2, p.3, p.4, (j, p.5)))

      none_case : (e : ℕ) → Covers fault d e → (a n n' : List ℕ) (y : X) → StartsAs k.back n → (j : ℕ) → SpellsTimes join (part e) j before at a y → Follows follow n' → a ++ n' ≡ k.front ++ n → ⊥
      none_case e cov a n n' y st zero sp fol eq =
          not_nothing first follow apart c s a k.front n n' t (starts_behind k.front (c ∷ s) k.back n k.parts st) (takes_some k.front k.parts (λ n st lo b. ends_case d (covers_self fault) n st lo 1 b)) fol sp.0 eq
      none_case e cov a n n' y st (suc j) sp fol eq = k.none e cov a n n' y st (sp.0, sp.1, sp.2, sp.3, sp.4, (j, sp.5)) fol eq

  -- where no part begins, the repetition is over
  over_reads : (at : ℕ) (s : List ℕ) (before : X) → ((n : List ℕ) → StartsAs s n → Follows first n → n ≡ []) → Reads (many_of join part before) d follow at s before s
  over_reads at s before over = record {
    front = [];
    parts = refl;
    spells = λ e le. (0, (refl, refl));
    begins = λ e le. (0, refl);
    only = λ e a n n' y st sp fol eq. only_case e a n n' y st sp.0 sp.1 fol eq;
    ends = λ e n st lo b. ends_case e n st lo b.0 b.1;
  }
    where
      ends_case : (e : ℕ) (n : List ℕ) → StartsAs s n → IsLonger n → (j : ℕ) → BeginsTimes (part e) j at n → ⊥
      ends_case e n st lo zero b = no_longer n b lo
      ends_case e n st lo (suc j) (inl b) = no_longer n (over n st (heads.begins e at n b)) lo
      ends_case e n st lo (suc j) (inr p) = no_longer n (over n st (headed p.0 p.1 n p.3 (heads.spells e at p.0 p.2 p.4))) lo
        where
          headed : (a b n : List ℕ) → n ≡ a ++ b → StartsIn first a → Follows first n
          headed a b n e h = subst (Follows first) (sym e) (Follows-starts first first (λ c t. t) a b h)

      only_case : (e : ℕ) (a n n' : List ℕ) (y : X) → StartsAs s n → (j : ℕ) → SpellsTimes join (part e) j before at a y → Follows follow n' → a ++ n' ≡ n → (a ≡ []) × (n' ≡ n) × (y ≡ before)
      only_case e a n n' y st zero sp fol eq = (sp.0, ap (λ (w : List ℕ). w ++ n') (sym sp.0) ∙ eq, sp.1)
      only_case e a n n' y st (suc j) sp fol eq =
          let starts : StartsIn first sp.0 = heads.spells e at sp.0 sp.2 sp.4 in
          absurd (some_front sp.0 sp.1 n n' a starts sp.3 eq st)
        where
          some_front : (p q n n' a : List ℕ) → StartsIn first p → a ≡ p ++ q → a ++ n' ≡ n → StartsAs s n → ⊥
          some_front [] q n n' a h e eq st = h
          some_front (x ∷ p) q n n' a h e eq st =
              let same : x ∷ (p ++ q ++ n') ≡ n = ap (λ (w : List ℕ). w ++ n') (sym e) ∙ eq in
              let gone : n ≡ [] = over n st (subst (Follows first) same h) in cc

  many_done : (at : ℕ) (s : List ℕ) (before : X) (c : ℕ) → first c ≡ false → Reads (many_of join part before) d follow at (c ∷ s) before (c ∷ s)
  many_done at s before c t = over_reads at (c ∷ s) before (λ n st h. other n st h)
    where
      other : (n : List ℕ) → StartsAs (c ∷ s) n → Follows first n → n ≡ []
      other [] st h = refl
      other (x ∷ n) st h = absurd (both_ways (first x) (ap first (sym st) ∙ t) h)

  many_holds : (fuel at : ℕ) (s : List ℕ) (before : X) → length s ≤ fuel → Holds (many_of join part before) d follow at s (read_many fuel first join rp before (at + length s) s)
  many_holds fuel at [] before le = over_reads at [] before (λ n st h. empty n st)
    where
      empty : (n : List ℕ) → StartsAs [] n → n ≡ []
      empty [] st = refl
      empty (x ∷ n) st = absurd st
  many_holds zero at (c ∷ s) before le = absurd (omega arith)
  many_holds (suc fuel) at (c ∷ s) before le =
      cond_both (first c) (on_read (rp (at + length (c ∷ s)) (c ∷ s)) (λ r. read_many fuel first join rp (join before r.0) (at + length (c ∷ s)) r.1)) (Ok (before, c ∷ s)) (λ (r : Read X). Holds (many_of join part before) d follow at (c ∷ s) r)
      (λ t. go (λ at s before le. many_holds fuel at s before le) t (rp (at + length (c ∷ s)) (c ∷ s)) (exact.reads at (c ∷ s)))
      (λ t. many_done at s before c t)
    where
      total : (y : Y) (m : List ℕ) (h : Reads part d test at (c ∷ s) y m) → (at + length h.front) + length m ≡ at + length (c ∷ s)
      total y m h = omega (arith, ap length h.parts, length-append h.front m)

      shorter : (y : Y) (m : List ℕ) → first c ≡ true → (h : Reads part d test at (c ∷ s) y m) → length m ≤ fuel
      shorter y m t h = omega (arith, le, ap length h.parts, length-append h.front m, some h.front (h.spells d (omega arith)))
        where
          some : (front : List ℕ) → (part d).Spells at front y → 0 < length front
          some [] sp = absurd (heads.spells d at [] y sp)
          some (x ∷ front) sp = omega arith

      then_more : (y : Y) (m : List ℕ) → first c ≡ true → (h : Reads part d test at (c ∷ s) y m) → (read : Read X) → Holds (again before y) d follow (at + length h.front) m read → Holds (many_of join part before) d follow at (c ∷ s) read
      then_more y m t h (Ok r) k = many_reads at c s before r.0 r.1 t (both_reads part (again before) d test follow (λ z. many_leads (join before z)) at (c ∷ s) y m h r.0 r.1 k)
      then_more y m t h (Err e) k = many_stops at c s before e t (both_stops_later part (again before) d test follow (λ z. many_leads (join before z)) at (c ∷ s) y m h e k)

      go : ((at : ℕ) (s : List ℕ) (before : X) → length s ≤ fuel → Holds (many_of join part before) d follow at s (read_many fuel first join rp before (at + length s) s)) → first c ≡ true → (read : Read Y) → Holds part d test at (c ∷ s) read → Holds (many_of join part before) d follow at (c ∷ s) (on_read read (λ r. read_many fuel first join rp (join before r.0) (at + length (c ∷ s)) r.1))
      go next t (Err e) h = many_stops at c s before e t (both_stops part (again before) d test follow (λ z. many_leads (join before z)) at (c ∷ s) e h)
      go next t (Ok r) h = then_more r.0 r.1 t h (read_many fuel first join rp (join before r.0) (at + length (c ∷ s)) r.1)
          (subst (λ (n : ℕ). Holds (again before r.0) d follow (at + length h.front) r.1 (read_many fuel first join rp (join before r.0) n r.1)) (total r.0 r.1 h)
          (next (at + length h.front) r.1 (join before r.0) (shorter r.0 r.1 t h)))

  pub many_exact : (before : X) → IsExact (many_of join part before) d follow (λ n s. read_many (length s) first join rp before n s)
  many_exact before = record { reads = λ at s. many_holds (length s) at s before (omega arith) }
