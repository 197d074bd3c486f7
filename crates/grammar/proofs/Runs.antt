-- A run of octets of a kind is read exactly.
use Rattle.std.proofs.Common.{◌≡◌, ℕ, Bool, true, false, List, [], ◌∷◌, ◌++◌, refl, sym, ap, ◌∙◌}
use Rattle.std.proofs.lemmas.Bool.{cond_both, both_ways}
use Rattle.grammar.specs.Octets.{AllPass, Follows, IsLonger, StartsAs}
use Rattle.grammar.specs.Rules.{run}
use Rattle.grammar.specs.TextReading.{after_run}
use Rattle.grammar.specs.Exactness.{Reads}
use Rattle.grammar.proofs.Lists.{tail_is}
use Rattle.grammar.proofs.OctetKinds.{Apart, Follows-within, Within}
use Rattle.grammar.proofs.Firsts.{Leads}
use Rattle.grammar.proofs.Words.{end_of}

nothing_here : (a n n' : List ℕ) → StartsAs [] n → a ++ n' ≡ n → (a ≡ []) × (n' ≡ n)
nothing_here [] n n' st eq = (refl, eq)
nothing_here (x ∷ a) [] n' st eq = absurd cc
nothing_here (x ∷ a) (c ∷ n) n' st eq = absurd st

module _ (test follow : ℕ → Bool) (apart : Apart test follow) where
  run_goes : (c : ℕ) (front a n n' : List ℕ) → test c ≡ true → ((a' : List ℕ) → AllPass test a' → a' ++ n' ≡ front ++ n → (a' ≡ front) × (n' ≡ n))
      → AllPass test a → Follows follow n' → a ++ n' ≡ c ∷ (front ++ n) → (a ≡ c ∷ front) × (n' ≡ n)
  run_goes c front [] n [] t more p fol eq = absurd cc
  run_goes c front [] n (x ∷ n') t more p fol eq = let e : x ≡ c = cc in absurd (apart x (ap test e ∙ t) fol)
  run_goes c front (x ∷ a) n n' t more p fol eq =
      let q = more a p.1 (tail_is x c (a ++ n') (front ++ n) eq) in
      let e : x ≡ c = cc in
      (ap (λ (t : List ℕ). x ∷ t) q.0 ∙ ap (λ (t : ℕ). t ∷ front) e, q.1)

  run_ends : (c : ℕ) (s a n n' : List ℕ) → test c ≡ false → StartsAs (c ∷ s) n → AllPass test a → a ++ n' ≡ n → (a ≡ []) × (n' ≡ n)
  run_ends c s [] n n' t st p eq = (refl, eq)
  run_ends c s (x ∷ a) [] n' t st p eq = absurd cc
  run_ends c s (x ∷ a) (b ∷ n) n' t st p eq = let e : x ≡ c = cc in absurd (both_ways (test c) t (ap test (sym e) ∙ p.0))

  run_over : (c : ℕ) (s n : List ℕ) → test c ≡ false → StartsAs (c ∷ s) n → IsLonger n → AllPass test n → ⊥
  run_over c s [] t st lo p = lo
  run_over c s (b ∷ n) t st lo p = both_ways (test c) t (ap test st ∙ p.0)

  pub run_reads : (d at : ℕ) (s : List ℕ) → Reads (λ e. run test) d follow at s tt (after_run test s)
  run_reads d at [] = record {
    front = [];
    parts = refl;
    spells = λ e le. tt;
    begins = λ e le. tt;
    only = λ e a n n' y st sp fol eq. let p = nothing_here a n n' st eq in (p.0, p.1, refl);
    ends = λ e n st lo b. end_of (AllPass test) n st lo b;
  }
  run_reads d at (c ∷ s) =
      cond_both (test c) (after_run test s) (c ∷ s) (λ (m : List ℕ). Reads (λ e. run test) d follow at (c ∷ s) tt m)
      (λ t. let h = run_reads d at s in record {
        front = c ∷ h.front;
        parts = ap (λ (w : List ℕ). c ∷ w) h.parts;
        spells = λ e le. (t, h.spells e le);
        begins = λ e le. (t, h.spells e le);
        only = λ e a n n' y st sp fol eq.
            let p = run_goes c h.front a n n' t (λ a' sp' eq'. let q = h.only e a' n n' tt st sp' fol eq' in (q.0, q.1)) sp fol eq in (p.0, p.1, refl);
        ends = λ e n st lo b. h.ends e n st lo b.1;
      })
      (λ t. record {
        front = [];
        parts = refl;
        spells = λ e le. tt;
        begins = λ e le. tt;
        only = λ e a n n' y st sp fol eq. let p = run_ends c s a n n' t st sp eq in (p.0, p.1, refl);
        ends = λ e n st lo b. run_over c s n t st lo b;
      })

pub run_leads : (test follow to : ℕ → Bool) → Within test to → Within follow to → Leads (λ e. run test) follow to
run_leads test follow to w v = record { spells = λ e at s n x sp fol. go s n sp fol; begins = λ e at s b. begun s b }
  where
    go : (s n : List ℕ) → AllPass test s → Follows follow n → Follows to (s ++ n)
    go [] n p fol = Follows-within follow to v n fol
    go (c ∷ s) n p fol = w c p.0

    begun : (s : List ℕ) → AllPass test s → Follows to s
    begun [] p = tt
    begun (c ∷ s) p = w c p.0
