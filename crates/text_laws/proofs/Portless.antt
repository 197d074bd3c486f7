-- The cubes of right rules are of no port: inbound policies that passed test none, and a sender's own is freed.
use Rattle.std.proofs.Common.{◌≡◌, ℕ, Bool, true, false, cond, nat_eq, List, [], ◌∷◌, inl, inr, refl, sym, subst}
use Rattle.std.specs.Prelude.{IfSome, Option, Some, None}
use Rattle.net_types.specs.Answers.{policy_of}
use Rattle.net_types.specs.Cells.{cell_atoms, freed, freed_from}
use Rattle.net_types.specs.Isolation.{in_faults, in_test, pred_faults}
use Rattle.net_types.specs.Policies.{Test, Inport, Src, Dst, Proto, Sport, Dport, Pred, Yes, Is, Not, And, Or, Policy, Drop, Pass, Block, Fwd, Match, Set, Both, Then, atoms}
use Rattle.net_types.specs.Sets.{Each, Member, union_over}
use Rattle.net_types.specs.declared.address.Pid.{Pid}
use Rattle.net_types.specs.declared.address.PortNo.{PortNo}
use Rattle.net_types.specs.declared.cube.Cube.{Cube}
use Rattle.net_types.specs.declared.headers.Span.{Span}
use Rattle.net_types.specs.declared.route.Offer.{Offer}
use Rattle.net_types.specs.declared.rule.Rule.{Rule}
use Rattle.events.specs.Sound.{cubes_of}
use Rattle.events.specs.State.{owner_of}
use Rattle.replay_text.proofs.Formed.{any_holds}
use Rattle.text_laws.specs.Naming.{IsOfNoPort, RightRulesAreOfNoPort}
use Rattle.text_laws.proofs.Atoms.{OfCube, OfPolicy, OfPred, OfTest, atoms_hold, meets_hold, union_holds}
use Rattle.exchange_laws.proofs.OwnPorts.{empty_parts}
use Rattle.net_types.proofs.MemberLemmas.{each_append}

-- ---- policies that passed

-- no port is tested or met
abbrev NoPort : PortNo → Type 0
NoPort port = ⊥

-- all other values may be
abbrev Any : ℕ → Type 0
Any n = Unit {0}

test_free : (t : Test) (span : Span) → in_test t span ≡ [] → OfTest NoPort Any Any Any t
test_free (Inport port) span e = absurd (cc)
test_free (Src prefix) span e = tt
test_free (Dst prefix) span e = tt
test_free (Proto n) span e = tt
test_free (Sport n) span e = tt
test_free (Dport n) span e = tt

tests_free : (p : Pred) → pred_faults in_test p ≡ [] → OfPred NoPort Any Any Any p
tests_free Yes e = tt
tests_free (Is test span) e = test_free test span e
tests_free (Not p) e = tests_free p e
tests_free (And p q) e = let none = empty_parts (pred_faults in_test p) (pred_faults in_test q) e in (tests_free p none.0, tests_free q none.1)
tests_free (Or p q) e = let none = empty_parts (pred_faults in_test p) (pred_faults in_test q) e in (tests_free p none.0, tests_free q none.1)

matches_free : (owners : PortNo → Option Pid) (me : Pid) (p : Policy) → in_faults owners me p ≡ [] → OfPolicy NoPort Any Any Any p
matches_free owners me Drop e = tt
matches_free owners me Pass e = tt
matches_free owners me Block e = tt
matches_free owners me (Fwd target span) e = tt
matches_free owners me (Match p) e = tests_free p e
matches_free owners me (Set set span) e = tt
matches_free owners me (Both p q) e = let none = empty_parts (in_faults owners me p) (in_faults owners me q) e in (matches_free owners me p none.0, matches_free owners me q none.1)
matches_free owners me (Then p q) e = let none = empty_parts (in_faults owners me p) (in_faults owners me q) e in (matches_free owners me p none.0, matches_free owners me q none.1)

-- ---- cubes

abbrev IsFree : Cube → Type 0
IsFree c = OfCube NoPort Any Any Any c

is_free : (c : Cube) → IsOfNoPort c → IsFree c
is_free c none = record { inport = subst (λ o. IfSome o NoPort) (sym none) tt; proto = any_holds c.proto; sport = any_holds c.sport; dport = any_holds c.dport }

of_no_port : (o : Option PortNo) → IfSome o NoPort → o ≡ None
of_no_port None free = refl
of_no_port (Some port) free = absurd free

freed_free : (port : PortNo) (c : Cube) (o : Option PortNo) → c.inport ≡ o → Each IsFree (freed_from port c o)
freed_free port c None e = (is_free c e, tt)
freed_free port c (Some q) e = by (nat_eq q.0 port.0)
  where
    by : (b : Bool) → Each IsFree (cond b (record c { inport = None } ∷ []) [])
    by true = (is_free (record c { inport = None }) refl, tt)
    by false = tt

-- ---- rules

rules_free : (rules : List Rule) → ((c : Cube) → Member c (cubes_of rules) → IsOfNoPort c) → Each (λ (r : Rule). IsOfNoPort r.cube) rules
rules_free [] frees = tt
rules_free (r ∷ rules) frees = (frees r.cube (inl refl), rules_free rules (λ c m. frees c (inr m)))

pub right_rules_are_of_no_port : RightRulesAreOfNoPort
right_rules_are_of_no_port s ps passed part port rules right =
    let inbound = λ (o : Offer). policy_of ps.inbound o.exporter in
    let own : Each IsFree (union_over (freed port) (atoms (policy_of ps.outbound part.sender))) = union_holds IsFree (freed port) (atoms (policy_of ps.outbound part.sender)) (λ c. freed_free port c c.inport refl) in
    let theirs : Each IsFree (union_over (λ (o : Offer). atoms (policy_of ps.inbound o.exporter)) part.offers) =
    union_holds IsFree (λ (o : Offer). atoms (inbound o)) part.offers (λ o. atoms_hold NoPort Any Any Any (inbound o) (matches_free (owner_of s) o.exporter (inbound o) (passed.inbound o.exporter))) in
    rules_free rules (λ c m. of_no_port c.inport (meets_hold NoPort Any Any Any (cell_atoms ps port part) c (each_append IsFree _ _ own theirs) (right.meets c m)).inport)
