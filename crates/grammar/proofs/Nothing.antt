-- No octet, and the place, are read exactly.
use Rattle.std.proofs.Common.{ℕ, ◌+◌, ◌-◌, Bool, List, [], ◌++◌, length, refl, sym, ap, subst, ◌∙◌, arith, inl, inr}
use Rattle.grammar.specs.Rules as rules
use Rattle.grammar.specs.TextReading as reading
use Rattle.grammar.specs.Octets.{Follows}
use Rattle.grammar.specs.Rules.{place, pure, ◌>>=◌}
use Rattle.grammar.specs.TextReading.{Reader}
use Rattle.grammar.specs.Exactness.{Family, IsExact, Reads}
use Rattle.grammar.proofs.Lists.{no_longer}
use Rattle.grammar.proofs.OctetKinds.{Follows-within, Within}
use Rattle.grammar.proofs.Firsts.{Heads, Leads}
use Rattle.grammar.proofs.Exact.{both, both_exact}
use Rattle.grammar.proofs.Starts.{StartsIn}

pure_reads : {X : Type 0} (x : X) (d : ℕ) (follow : ℕ → Bool) (at : ℕ) (s : List ℕ) → Reads (λ e. rules.pure x) d follow at s x s
pure_reads x d follow at s = record {
  front = [];
  parts = refl;
  spells = λ e le. (refl, refl);
  begins = λ e le. refl;
  only = λ e a n n' y st sp fol eq. (sp.0, sym (ap (λ (t : List ℕ). t ++ n') sp.0) ∙ eq, sp.1);
  ends = λ e n st lo b. no_longer n b lo;
}

pub pure_exact : {X : Type 0} (x : X) (d : ℕ) (follow : ℕ → Bool) → IsExact (λ e. pure x) d follow (reading.pure x)
pure_exact x d follow = record { reads = λ at s. pure_reads x d follow at s }

place_reads : (d : ℕ) (follow : ℕ → Bool) (at : ℕ) (s : List ℕ) → Reads (λ e. place) d follow at s ((at + length s) - length s) s
place_reads d follow at s = record {
  front = [];
  parts = refl;
  spells = λ e le. (refl, omega arith);
  begins = λ e le. refl;
  only = λ e a n n' y st sp fol eq. (sp.0, sym (ap (λ (t : List ℕ). t ++ n') sp.0) ∙ eq, sp.1 ∙ omega arith);
  ends = λ e n st lo b. no_longer n b lo;
}

pub place_exact : (d : ℕ) (follow : ℕ → Bool) → IsExact (λ e. place) d follow reading.place
place_exact d follow = record { reads = λ at s. place_reads d follow at s }

pub pure_leads : {X : Type 0} (x : X) (follow test : ℕ → Bool) → Within follow test → Leads (λ e. pure x) follow test
pure_leads x follow test w = record {
  spells = λ e at s n y sp fol. subst (λ (t : List ℕ). Follows test (t ++ n)) (sym sp.0) (Follows-within follow test w n fol);
  begins = λ e at s b. subst (Follows test) (sym b) tt;
}

pub place_leads : (follow test : ℕ → Bool) → Within follow test → Leads (λ e. place) follow test
place_leads follow test w = record {
  spells = λ e at s n y sp fol. subst (λ (t : List ℕ). Follows test (t ++ n)) (sym sp.0) (Follows-within follow test w n fol);
  begins = λ e at s b. subst (Follows test) (sym b) tt;
}

-- a rule behind a place begins as the rule does
pub place_heads : {X : Type 0} (g : ℕ → Family X) (to : ℕ → Bool) → ((x : ℕ) → Heads (g x) to) → Heads (both (λ e. place) g) to
unfolding ◌>>=◌
place_heads g to h = record {
  spells = λ e at s y sp. subst (StartsIn to) (sym (sp.3 ∙ ap (λ (a : List ℕ). a ++ sp.1) sp.4.0)) ((h sp.2).spells e (at + length sp.0) sp.1 y sp.5);
  begins = λ e at s b. begun e at s b;
}
  where
    begun : (e at : ℕ) (s : List ℕ) → (both (λ e. place) g e).Begins at s → Follows to s
    begun e at s (inl b) = subst (Follows to) (sym b) tt
    begun e at s (inr p) = subst (Follows to) (sym (p.3 ∙ ap (λ (a : List ℕ). a ++ p.1) p.4.0)) ((h p.2).begins e (at + length p.0) p.1 p.5)

-- a rule whose value is changed
abbrev pub map_of : {X Y : Type 0} → Family X → (X → Y) → Family Y
map_of f make = both f (λ x e. rules.pure (make x))

pub map_exact : {X Y : Type 0} (f : Family X) (make : X → Y) (d : ℕ) (follow : ℕ → Bool) (rf : Reader X) → IsExact f d follow rf → IsExact (map_of f make) d follow (reading.◌>>=◌ rf (λ x. reading.pure (make x)))
map_exact f make d follow rf exact =
    both_exact f (λ x e. rules.pure (make x)) d follow follow (λ x. pure_leads (make x) follow follow (λ c h. h)) rf (λ x. reading.pure (make x)) exact (λ x. pure_exact (make x) d follow)
