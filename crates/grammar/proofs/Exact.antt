-- One rule after another is read exactly, and a reader may be replaced by its equal.
use Rattle.std.proofs.Common.{◌≡◌, ℕ, suc, ◌+◌, Bool, true, List, [], ◌∷◌, ◌++◌, length, Result, Ok, Err, refl, sym, ap, subst, ◌∙◌, append_assoc, arith, inl, inr}
use Rattle.std.specs.Prelude.{not}
use Rattle.std.proofs.lemmas.List.{length-append}
use Rattle.grammar.specs.TextReading as reading
use Rattle.grammar.specs.Octets.{Follows, IsLonger, StartsAs}
use Rattle.grammar.specs.Rules.{BeginsBoth, SpellsBoth, ◌>>=◌}
use Rattle.grammar.specs.Reading.{on_read}
use Rattle.grammar.specs.TextReading.{Deep, Fault, Read, Reader, Wrong}
use Rattle.grammar.specs.Exactness.{Covers, Deeper, Family, Holds, IsExact, Reads, ReadsExactly, Stops}
use Rattle.grammar.proofs.Lists.{longer_append, regroup, starts_behind}
use Rattle.grammar.proofs.OctetKinds.{Follows-starts}
use Rattle.grammar.proofs.Firsts.{Heads, Leads}
use Rattle.grammar.proofs.Starts.{StartsIn}

abbrev pub both : {X Y : Type 0} → Family X → (X → Family Y) → Family Y
both f g = λ e. f e >>= λ x. g x e

deeper_first : {X Y : Type 0} (f : Family X) (g : X → Family Y) (d at : ℕ) (front m : List ℕ) (fault : Fault) → Deeper f d at front m fault → Deeper (both f g) d at front m fault
unfolding ◌>>=◌
deeper_first f g d at front m (Wrong p) h = tt
deeper_first f g d at front m (Deep p) h = (h.0, h.1, inl h.2)

-- the first stops
pub both_stops : {X Y : Type 0} (f : Family X) (g : X → Family Y) (d : ℕ) (test follow : ℕ → Bool) → ((x : X) → Leads (g x) follow test)
    → (at : ℕ) (s : List ℕ) (fault : Fault) → Stops f d test at s fault → Stops (both f g) d follow at s fault
unfolding ◌>>=◌
both_stops {X} {Y} f g d test follow leads at s fault h = record {
  front = h.front;
  back = h.back;
  parts = h.parts;
  place = h.place;
  begins = λ e le. inl (h.begins e le);
  ends = λ e cov n st lo b. ends_case e cov n st lo b;
  none = λ e cov a n n' y st sp fol eq.
      h.none e cov sp.0 n (sp.1 ++ n') sp.2 st sp.4 ((leads sp.2).spells e (at + length sp.0) sp.1 n' y sp.5 fol) (regroup a sp.0 sp.1 n' h.front n sp.3 eq);
  deeper = deeper_first f g d at h.front h.back fault h.deeper;
}
  where
    ends_case : (e : ℕ) → Covers fault d e → (n : List ℕ) → StartsAs h.back n → IsLonger n → BeginsBoth (f e) (λ x. g x e) at (h.front ++ n) → ⊥
    ends_case e cov n st lo (inl b) = h.ends e cov n st lo b
    ends_case e cov n st lo (inr b) = h.none e cov b.0 n b.1 b.2 st b.4 ((leads b.2).begins e (at + length b.0) b.1 b.5) (sym b.3)

-- what is left of both, where the first spells x
deeper_second : {X Y : Type 0} (f : Family X) (g : X → Family Y) (d at : ℕ) (a b m : List ℕ) (x : X) (fault : Fault) → (f (suc d)).Spells at a x
    → Deeper (g x) d (at + length a) b m fault → Deeper (both f g) d at (a ++ b) m fault
unfolding ◌>>=◌
deeper_second f g d at a b m x (Wrong p) sp h = tt
deeper_second f g d at a b m x (Deep p) sp h = (h.0, h.1, inr (a, b ++ 40 ∷ [], x, append_assoc a b (40 ∷ []), sp, h.2))

-- the part of a text that the second rule has to spell, once the first part is known
record Rest {Y : Type 0} (g : Family Y) (e at : ℕ) (b n q n' : List ℕ) (y : Y) : Type 0 where
  spells : (g e).Spells at q y
  parts : q ++ n' ≡ b ++ n

module _ {X Y : Type 0} (f : Family X) (g : X → Family Y) (d : ℕ) (test follow : ℕ → Bool) (leads : (x : X) → Leads (g x) follow test) (at : ℕ) (s : List ℕ) (x : X) (m : List ℕ) (h : Reads f d test at s x m) where
  -- a text of both has this front, and the second rule spells the rest
  rest_of : (e : ℕ) (a b r n n' : List ℕ) (y : Y) → m ≡ b ++ r → StartsAs r n → (sp : SpellsBoth (f e) (λ x. g x e) at a y) → Follows follow n'
      → a ++ n' ≡ (h.front ++ b) ++ n → (sp.0 ≡ h.front) × Rest (g x) e (at + length h.front) b n sp.1 n' y
  rest_of e a b r n n' y m_is st sp fol eq =
      let one = h.only e sp.0 (b ++ n) (sp.1 ++ n') sp.2 (starts_behind b m r n m_is st) sp.4 ((leads sp.2).spells e (at + length sp.0) sp.1 n' y sp.5 fol)
      (regroup a sp.0 sp.1 n' h.front (b ++ n) sp.3 (eq ∙ append_assoc h.front b n)) in
      let moved : (g x e).Spells (at + length h.front) sp.1 y =
      subst (λ (z : X). (g z e).Spells (at + length h.front) sp.1 y) one.2 (subst (λ (t : List ℕ). (g sp.2 e).Spells (at + length t) sp.1 y) one.0 sp.5) in
      (one.0, record { spells = moved; parts = one.1 })

  -- no more of both is begun where no more of the second is
  begun : (e : ℕ) (b r n : List ℕ) → m ≡ b ++ r → StartsAs r n → IsLonger n → ((g x e).Begins (at + length h.front) (b ++ n) → ⊥)
      → BeginsBoth (f e) (λ x. g x e) at ((h.front ++ b) ++ n) → ⊥
  begun e b r n m_is st lo not (inl begins) =
      h.ends e (b ++ n) (starts_behind b m r n m_is st) (longer_append b n lo) (subst (λ (t : List ℕ). (f e).Begins at t) (append_assoc h.front b n) begins)
  begun e b r n m_is st lo not (inr p) =
      let one = h.only e p.0 (b ++ n) p.1 p.2 (starts_behind b m r n m_is st) p.4 ((leads p.2).begins e (at + length p.0) p.1 p.5) (sym p.3 ∙ append_assoc h.front b n) in
      let moved : (g x e).Begins (at + length h.front) p.1 =
      subst (λ (z : X). (g z e).Begins (at + length h.front) p.1) one.2 (subst (λ (t : List ℕ). (g p.2 e).Begins (at + length t) p.1) one.0 p.5) in
      not (subst (λ (t : List ℕ). (g x e).Begins (at + length h.front) t) one.1 moved)

  pub both_reads : (y : Y) (r : List ℕ) → Reads (g x) d follow (at + length h.front) m y r → Reads (both f g) d follow at s y r
  unfolding ◌>>=◌
  both_reads y r k = record {
    front = h.front ++ k.front;
    parts = h.parts ∙ ap (λ (t : List ℕ). h.front ++ t) k.parts ∙ sym (append_assoc h.front k.front r);
    spells = λ e le. (h.front, k.front, x, refl, h.spells e le, k.spells e le);
    begins = λ e le. inr (h.front, k.front, x, refl, h.spells e le, k.begins e le);
    only = λ e a n n' z st sp fol eq.
        let p = rest_of e a k.front r n n' z k.parts st sp fol eq in
        let q = k.only e sp.1 n n' z st p.1.spells fol p.1.parts in
        (sp.3 ∙ ap (λ (t : List ℕ). t ++ sp.1) p.0 ∙ ap (λ (t : List ℕ). h.front ++ t) q.0, q.1, q.2);
    ends = λ e n st lo b. begun e k.front r n k.parts st lo (k.ends e n st lo) b;
  }

  pub both_stops_later : (fault : Fault) → Stops (g x) d follow (at + length h.front) m fault → Stops (both f g) d follow at s fault
  unfolding ◌>>=◌
  both_stops_later fault k = record {
    front = h.front ++ k.front;
    back = k.back;
    parts = h.parts ∙ ap (λ (t : List ℕ). h.front ++ t) k.parts ∙ sym (append_assoc h.front k.front k.back);
    place = omega (arith, k.place, length-append h.front k.front);
    begins = λ e le. inr (h.front, k.front, x, refl, h.spells e le, k.begins e le);
    ends = λ e cov n st lo b. begun e k.front k.back n k.parts st lo (k.ends e cov n st lo) b;
    none = λ e cov a n n' z st sp fol eq.
        let p = rest_of e a k.front k.back n n' z k.parts st sp fol eq in
        k.none e cov sp.1 n n' z st p.1.spells fol p.1.parts;
    deeper = deeper_second f g d at h.front k.front k.back x fault (h.spells (suc d) (omega arith)) k.deeper;
  }

both_holds : {X Y : Type 0} (f : Family X) (g : X → Family Y) (d : ℕ) (test follow : ℕ → Bool) → ((x : X) → Leads (g x) follow test)
    → (rf : Reader X) (rg : X → Reader Y) → IsExact f d test rf → ((x : X) → IsExact (g x) d follow (rg x)) → ReadsExactly (both f g) d follow (reading.◌>>=◌ rf rg)
both_holds {X} {Y} f g d test follow leads rf rg one two at s = go (rf (at + length s) s) (one.reads at s)
  where
    second : (x : X) (m : List ℕ) (h : Reads f d test at s x m) (read : Read Y) → Holds (g x) d follow (at + length h.front) m read → Holds (both f g) d follow at s read
    second x m h (Ok r) k = both_reads f g d test follow leads at s x m h r.0 r.1 k
    second x m h (Err e) k = both_stops_later f g d test follow leads at s x m h e k

    total : (x : X) (m : List ℕ) (h : Reads f d test at s x m) → (at + length h.front) + length m ≡ at + length s
    total x m h = omega (arith, ap length h.parts, length-append h.front m)

    go : (read : Read X) → Holds f d test at s read → Holds (both f g) d follow at s (on_read read (λ r. rg r.0 (at + length s) r.1))
    go (Err e) h = both_stops f g d test follow leads at s e h
    go (Ok r) h = second r.0 r.1 h (rg r.0 (at + length s) r.1)
        (subst (λ (n : ℕ). Holds (g r.0) d follow (at + length h.front) r.1 (rg r.0 n r.1)) (total r.0 r.1 h) ((two r.0).reads (at + length h.front) r.1))

pub both_exact : {X Y : Type 0} (f : Family X) (g : X → Family Y) (d : ℕ) (test follow : ℕ → Bool) → ((x : X) → Leads (g x) follow test)
    → (rf : Reader X) (rg : X → Reader Y) → IsExact f d test rf → ((x : X) → IsExact (g x) d follow (rg x)) → IsExact (both f g) d follow (reading.◌>>=◌ rf rg)
both_exact {X} {Y} f g d test follow leads rf rg one two = record { reads = λ at s. both_holds f g d test follow leads rf rg one two at s }

-- fewer things may follow
pub tighter : {X : Type 0} (f : Family X) (d : ℕ) (follow to : ℕ → Bool) (rf : Reader X) → ((c : ℕ) → to c ≡ true → follow c ≡ true) → IsExact f d follow rf → IsExact f d to rf
tighter {X} f d follow to rf within exact = record { reads = λ at s. go at s (rf (at + length s) s) (exact.reads at s) }
  where
    follows : (s : List ℕ) → Follows to s → Follows follow s
    follows [] h = tt
    follows (c ∷ s) h = within c h

    go : (at : ℕ) (s : List ℕ) (read : Read X) → Holds f d follow at s read → Holds f d to at s read
    go at s (Ok r) k = record { front = k.front; parts = k.parts; spells = k.spells; begins = k.begins; only = λ e a n n' y st sp fol eq. k.only e a n n' y st sp (follows n' fol) eq; ends = k.ends }
    go at s (Err fault) k = record {
      front = k.front;
      back = k.back;
      parts = k.parts;
      place = k.place;
      begins = k.begins;
      ends = k.ends;
      none = λ e cov a n n' y st sp fol eq. k.none e cov a n n' y st sp (follows n' fol) eq;
      deeper = k.deeper;
    }

-- readers that give the same
pub same_reader : {X : Type 0} (f : Family X) (d : ℕ) (follow : ℕ → Bool) (rf rg : Reader X) → ((n : ℕ) (s : List ℕ) → rg n s ≡ rf n s) → IsExact f d follow rf → IsExact f d follow rg
same_reader {X} f d follow rf rg same exact = record { reads = λ at s. subst (λ (r : Read X). Holds f d follow at s r) (sym (same (at + length s) s)) (exact.reads at s) }

pub on_read-on_read : {A B C : Type 0} (a : Result A Fault) (f : A → Result B Fault) (g : B → Result C Fault) → on_read (on_read a f) g ≡ on_read a (λ x. on_read (f x) g)
on_read-on_read (Ok x) f g = refl
on_read-on_read (Err e) f g = refl

pub both_heads : {X Y : Type 0} (f : Family X) (g : X → Family Y) (test : ℕ → Bool) → Heads f test → Heads (both f g) test
unfolding ◌>>=◌
both_heads f g test h = record {
  spells = λ e at s y sp. subst (StartsIn test) (sym sp.3) (front sp.0 sp.1 (h.spells e at sp.0 sp.2 sp.4));
  begins = λ e at s b. begun e at s b;
}
  where
    front : (a b : List ℕ) → StartsIn test a → StartsIn test (a ++ b)
    front [] b k = absurd k
    front (c ∷ a) b k = k

    begun : (e at : ℕ) (s : List ℕ) → (both f g e).Begins at s → Follows test s
    begun e at s (inl b) = h.begins e at s b
    begun e at s (inr p) = subst (Follows test) (sym p.3) (Follows-starts test test (λ c t. t) p.0 p.1 (h.spells e at p.0 p.2 p.4))

pub both_leads : {X Y : Type 0} (f : Family X) (g : X → Family Y) (follow test to : ℕ → Bool) → Leads f test to → ((x : X) → Leads (g x) follow test) → Leads (both f g) follow to
unfolding ◌>>=◌
both_leads f g follow test to one two = record {
  spells = λ e at s n y sp fol.
      subst (λ (w : List ℕ). Follows to (w ++ n)) (sym sp.3) (subst (Follows to) (sym (append_assoc sp.0 sp.1 n))
      (one.spells e at sp.0 (sp.1 ++ n) sp.2 sp.4 ((two sp.2).spells e (at + length sp.0) sp.1 n y sp.5 fol)));
  begins = λ e at s b. begun e at s b;
}
  where
    begun : (e at : ℕ) (s : List ℕ) → (both f g e).Begins at s → Follows to s
    begun e at s (inl b) = one.begins e at s b
    begun e at s (inr p) = subst (Follows to) (sym p.3) (one.spells e at p.0 p.1 p.2 p.4 ((two p.2).begins e (at + length p.0) p.1 p.5))
