-- Classifiers that are compiled from texts are those of the policies that the texts are read as.
use Rattle.std.proofs.Common.{◌≡◌, ℕ, zero, suc, ◌<◌, List, [], ◌∷◌, ◌++◌, length, map, unwrap_or, sym, ap, subst, refl, arith}
use Rattle.std.specs.Prelude.{Option, Ok, slice_get}
use Rattle.std.specs.Option.{option_map_or}
use Rattle.block_build.specs.Lent.{AreOf, Lent}
use Rattle.classifier.specs.Classifiers.{lines_of}
use Rattle.classifier.specs.Meaning as lines
use Rattle.classifier.specs.declared.line.Line.{Line}
use Rattle.events.specs.State.{State, ArePolicies, AreRead}
use Rattle.exchange_laws.proofs.ReadPolicies.{one_policy}
use Rattle.net_types.specs.Answers.{Policies}
use Rattle.net_types.specs.Exports.{pid_of}
use Rattle.net_types.specs.Meets.{IsMeet}
use Rattle.net_types.specs.Policies.{Drop, Policy, atoms, den}
use Rattle.net_types.specs.PolicyReading.{policy_of_text}
use Rattle.net_types.specs.Sets.{Member, SameMembers}
use Rattle.net_types.specs.declared.address.Pid.{Pid}
use Rattle.net_types.specs.declared.cube.Cube.{Cube}
use Rattle.net_types.specs.declared.headers.Headers.{Headers}
use Rattle.net_types.specs.declared.headers.Loc.{Loc}
use Rattle.net_types.specs.declared.headers.Loc.TheVariants.{Stay}
use Rattle.plan_cases.specs.Policies.{AreCompiled, AreRulesOf, inbound_texts, lent_of, outbound_texts}
use Rattle.plan_cases.specs.declared.policies.Texts.{Texts}
use Rattle.plan_cases.specs.declared.programs.Programs.{Programs}

-- rules that do what the policy does that the text was read as
pub compiles : (names : List ℕ → Option Pid) (text : List ℕ) (p : Policy) (rules : List Line) → policy_of_text text ≡ Ok p
    → ((h : Headers) (l : Loc) → SameMembers (lines.meaning rules h l) (den names p h l)) → ((c : Cube) → Member c (lines.cubes_of rules) → IsMeet (atoms p) c) → AreRulesOf names text rules
compiles names text p rules is means cubes = record {
  means = λ q again h. subst (λ x. SameMembers (lines.meaning rules h Stay) (den names x h Stay)) (this q again) (means h Stay);
  cubes = λ q again c m. subst (λ x. IsMeet (atoms x) c) (this q again) (cubes c m);
}
  where
    this : (q : Policy) → policy_of_text text ≡ Ok q → p ≡ q
    this q again = one_policy (policy_of_text text) p q is again

module _ (names : List ℕ → Option Pid) where
  -- the classifiers of a further participant
  pub one_more : (ts : List Texts) (bs : List Programs) (t : Texts) (b : Programs) → AreCompiled names ts bs → AreRulesOf names t.outbound (lines_of b.outbound) → AreRulesOf names t.inbound (lines_of b.inbound)
      → AreCompiled names (ts ++ t ∷ []) (bs ++ b ∷ [])
  one_more [] [] t b are outbound inbound = (outbound, inbound, tt)
  one_more [] (y ∷ ys) t b are outbound inbound = absurd are
  one_more (x ∷ xs) [] t b are outbound inbound = absurd are
  one_more (x ∷ xs) (y ∷ ys) t b are outbound inbound = (are.0, are.1, one_more xs ys t b are.2 outbound inbound)

  -- as many are lent as there are texts
  pub lent_length : (ts : List Texts) (bs : List Programs) → AreCompiled names ts bs → length (map lent_of bs) ≡ length (outbound_texts ts)
  lent_length [] [] are = refl
  lent_length [] (y ∷ ys) are = absurd are
  lent_length (x ∷ xs) [] are = absurd are
  lent_length (x ∷ xs) (y ∷ ys) are = ap suc (lent_length xs ys are.2)

  module _ (T : List Line → Policy → Type 0) (f : Texts → List ℕ) (g : Lent → List Line)
      (each : (t : Texts) (b : Programs) → AreRulesOf names t.outbound (lines_of b.outbound) → AreRulesOf names t.inbound (lines_of b.inbound) → (p : Policy) → policy_of_text (f t) ≡ Ok p → T (g (lent_of b)) p) where
    at_place : (ts : List Texts) (bs : List Programs) (ps : List Policy) (k : ℕ) → k < length (map lent_of bs) → AreCompiled names ts bs → AreRead (map f ts) ps
        → T (option_map_or g (slice_get (map lent_of bs) k) []) (unwrap_or (slice_get ps k) Drop)
    at_place ts [] ps k below are read = absurd (omega (arith, below))
    at_place [] (b ∷ bs) ps k below are read = absurd are
    at_place (t ∷ ts) (b ∷ bs) [] k below are read = absurd read
    at_place (t ∷ ts) (b ∷ bs) (p ∷ ps) zero below are read = each t b are.0 are.1 p read.0
    at_place (t ∷ ts) (b ∷ bs) (p ∷ ps) (suc k) below are read = at_place ts bs ps k (omega (arith, below)) are.2 read.1

-- the rules that are lent are those of the policies that the texts are read as
pub lent_are_of : (s : State) (ts : List Texts) (bs : List Programs) (ps : Policies) → s.outbound ≡ outbound_texts ts → s.inbound ≡ inbound_texts ts → AreCompiled (pid_of s.routing) ts bs → ArePolicies s ps → AreOf ps (map lent_of bs)
lent_are_of s ts bs ps outbound inbound are policies =
    let names : pid_of s.routing ≡ ps.named = sym policies.names in
    let compiled : AreCompiled ps.named ts bs = subst (λ n. AreCompiled n ts bs) names are in
    let sent : AreRead (outbound_texts ts) ps.outbound = subst (λ texts. AreRead texts ps.outbound) outbound policies.outbound in
    let received : AreRead (inbound_texts ts) ps.inbound = subst (λ texts. AreRead texts ps.inbound) inbound policies.inbound in
    record {
      sends = λ who below h. at_place ps.named (λ rules p. SameMembers (lines.meaning rules h Stay) (den ps.named p h Stay)) (λ (t : Texts). t.outbound) (λ (l : Lent). l.outbound)
          (λ t b sends receives p read. sends.means p read h) ts bs ps.outbound who.0 below compiled sent;
      sender_cubes = λ who below c m. at_place ps.named (λ rules p. Member c (lines.cubes_of rules) → IsMeet (atoms p) c) (λ (t : Texts). t.outbound) (λ (l : Lent). l.outbound)
          (λ t b sends receives p read. sends.cubes p read c) ts bs ps.outbound who.0 below compiled sent m;
      receives = λ who below h. at_place ps.named (λ rules p. SameMembers (lines.meaning rules h Stay) (den ps.named p h Stay)) (λ (t : Texts). t.inbound) (λ (l : Lent). l.inbound)
          (λ t b sends receives p read. receives.means p read h) ts bs ps.inbound who.0 below compiled received;
      receiver_cubes = λ who below c m. at_place ps.named (λ rules p. Member c (lines.cubes_of rules) → IsMeet (atoms p) c) (λ (t : Texts). t.inbound) (λ (l : Lent). l.inbound)
          (λ t b sends receives p read. receives.cubes p read c) ts bs ps.inbound who.0 below compiled received m;
    }
