-- At least one octet of a kind is read exactly.
use Rattle.std.proofs.Common.{◌≡◌, ℕ, ◌+◌, ◌-◌, Bool, false, List, [], ◌∷◌, ◌++◌, length, Ok, Err, refl, sym, ap, ◌∙◌, arith}
use Rattle.std.proofs.lemmas.Bool.{cond_both, both_ways}
use Rattle.grammar.specs.Octets.{AllPass, IsLonger}
use Rattle.grammar.specs.Rules.{IsNonemptyRun, nonempty_run}
use Rattle.grammar.specs.TextReading.{Read, Wrong, after_run, read_nonempty_run}
use Rattle.grammar.specs.Exactness.{Holds, IsExact, ReadsExactly}
use Rattle.grammar.proofs.Lists.{AllPass-at, AllPass-front}
use Rattle.grammar.proofs.OctetKinds.{Apart}
use Rattle.grammar.proofs.Firsts.{Heads}
use Rattle.grammar.proofs.Tokens.{IsLast, IsToken, token_heads, token_reads, token_stops}
use Rattle.grammar.proofs.Starts.{StartsIn}

pub nonempty_runs : (test : ℕ → Bool) → IsToken (IsNonemptyRun test) test test
nonempty_runs test = record {
  closed = λ a b lo h. (lo, AllPass-front test a b h.1);
  octets = λ a b c lo h. AllPass-at test a b c h.1;
  starts = λ a h. first a h.0 h.1;
}
  where
    first : (a : List ℕ) → IsLonger a → AllPass test a → StartsIn test a
    first [] lo all = lo
    first (c ∷ a) lo all = all.0

-- the octets of a kind at the front of s
record IsRunFront (test : ℕ → Bool) (s m : List ℕ) : Type 0 where
  front : List ℕ
  parts : s ≡ front ++ m
  all : AllPass test front
  last : (c : ℕ) (more : List ℕ) → m ≡ c ∷ more → test c ≡ false

run_front : (test : ℕ → Bool) (s : List ℕ) → IsRunFront test s (after_run test s)
run_front test [] = record { front = []; parts = refl; all = tt; last = λ c more e. absurd cc }
run_front test (c ∷ s) =
    cond_both (test c) (after_run test s) (c ∷ s) (λ (m : List ℕ). IsRunFront test (c ∷ s) m)
    (λ t. let h = run_front test s in record { front = c ∷ h.front; parts = ap (λ (w : List ℕ). c ∷ w) h.parts; all = (t, h.all); last = h.last })
    (λ t. record { front = []; parts = refl; all = tt; last = λ x more e. let same : c ≡ x = cc in ap test (sym same) ∙ t })

run_last : (test : ℕ → Bool) (front m : List ℕ) → ((c : ℕ) (more : List ℕ) → m ≡ c ∷ more → test c ≡ false) → IsLast (IsNonemptyRun test) front m
run_last test front [] last = tt
run_last test front (x ∷ m) last = λ is. both_ways (test x) (last x m refl) (AllPass-at test front [] x is.1)

module _ (test : ℕ → Bool) (d : ℕ) (follow : ℕ → Bool) (apart : Apart test follow) where
  nonempty_run_holds : ReadsExactly (λ e. nonempty_run test) d follow (read_nonempty_run test)
  nonempty_run_holds at [] = token_stops (IsNonemptyRun test) (λ _. tt) test test follow (nonempty_runs test) apart d at (at + 0) [] (omega arith) tt
  nonempty_run_holds at (c ∷ s) =
      let h = run_front test s in
      cond_both (test c) (Ok (tt, after_run test s)) (Err (Wrong ((at + length (c ∷ s)) - length (c ∷ s)))) (λ (r : Read (Unit {0})). Holds (λ e. nonempty_run test) d follow at (c ∷ s) r)
      (λ t. token_reads (IsNonemptyRun test) (λ _. tt) test test follow (nonempty_runs test) apart d at (c ∷ s) (c ∷ h.front) (after_run test s)
      (ap (λ (w : List ℕ). c ∷ w) h.parts) (tt, (t, h.all)) (run_last test (c ∷ h.front) (after_run test s) h.last))
      (λ t. token_stops (IsNonemptyRun test) (λ _. tt) test test follow (nonempty_runs test) apart d at ((at + length (c ∷ s)) - length (c ∷ s)) (c ∷ s) (omega arith)
      (λ is. both_ways (test c) t is.1.0))

  pub nonempty_run_exact : IsExact (λ e. nonempty_run test) d follow (read_nonempty_run test)
  nonempty_run_exact = record { reads = nonempty_run_holds }

pub nonempty_run_heads : (test : ℕ → Bool) → Heads (λ e. nonempty_run test) test
nonempty_run_heads test = token_heads (IsNonemptyRun test) (λ _. tt) test test (λ c. false) (nonempty_runs test) (λ c h k. absurd cc)
