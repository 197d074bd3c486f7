-- What is so of the values that a policy tests is so of those of its atoms and of their meets.
use Rattle.std.proofs.Common.{◌≡◌, ℕ, Bool, true, false, cond, nat_eq, List, [], ◌∷◌, ◌++◌, inl, inr, refl, sym, subst}
use Rattle.std.specs.Prelude.{IfSome, Option, Some, None}
use Rattle.net_types.specs.Cubes.{agrees, cube_of, meet_cubes, meet_values, pull_cube, pull_prefix, pull_value, same_port}
use Rattle.net_types.specs.Meets.{IsMeet, behind, behind_one, cons_some}
use Rattle.net_types.specs.Policies.{Test, Inport, Src, Dst, Proto, Sport, Dport, Pred, Yes, Is, Not, And, Or, Policy, Drop, Pass, Block, Fwd, Match, Set, Both, Then, atoms, atoms_where_plain, meet_optional, mods, one_more, part_atoms, plain, pred_atoms, test_cube}
use Rattle.net_types.specs.Prefixes.{meet_prefixes}
use Rattle.net_types.specs.Sets.{Each, union_over}
use Rattle.net_types.specs.declared.address.PortNo.{PortNo}
use Rattle.net_types.specs.declared.cube.Cube.{Cube}
use Rattle.net_types.specs.declared.headers.Assign.{Assign}
use Rattle.net_types.specs.declared.prefix.Prefix.{Prefix}
use Rattle.std.proofs.lemmas.Option.{same_Some}
use Rattle.net_types.proofs.MemberLemmas.{each_append}

-- ---- fields

-- a field that came out has such a value, or none
abbrev Met : {A : Type 0} → (A → Type 0) → Option (Option A) → Type 0
Met P None = Unit {0}
Met P (Some o) = IfSome o P

met : {A : Type 0} (P : A → Type 0) (same : A → A → Bool) (x y : Option A) → IfSome x P → IfSome y P → Met P (meet_values same x y)
met P same None y one two = two
met P same (Some x) None one two = one
met P same (Some x) (Some y) one two = by (same x y)
  where
    by : (b : Bool) → Met P (cond b (Some (Some x)) None)
    by true = one
    by false = tt

pulled : (P : ℕ → Type 0) (o wanted : Option ℕ) → IfSome wanted P → Met P (pull_value o wanted)
pulled P None wanted is = is
pulled P (Some n) wanted is = by (agrees nat_eq wanted n)
  where
    by : (b : Bool) → Met P (cond b (Some None) None)
    by true = tt
    by false = tt

-- ---- cubes and tests

-- the values of a cube are such ones
pub record OfCube (ports : PortNo → Type 0) (protos sources targets : ℕ → Type 0) (c : Cube) : Type 0 where
  pub inport : IfSome c.inport ports
  pub proto : IfSome c.proto protos
  pub sport : IfSome c.sport sources
  pub dport : IfSome c.dport targets

module _ (ports : PortNo → Type 0) (protos sources targets : ℕ → Type 0) where
  abbrev P : Cube → Type 0
  P c = OfCube ports protos sources targets c

  -- the value of a test
  abbrev pub OfTest : Test → Type 0
  OfTest (Inport port) = ports port
  OfTest (Src prefix) = Unit {0}
  OfTest (Dst prefix) = Unit {0}
  OfTest (Proto n) = protos n
  OfTest (Sport n) = sources n
  OfTest (Dport n) = targets n

  -- the values of the tests of a predicate
  abbrev pub OfPred : Pred → Type 0
  OfPred Yes = Unit {0}
  OfPred (Is test span) = OfTest test
  OfPred (Not p) = OfPred p
  OfPred (And p q) = OfPred p × OfPred q
  OfPred (Or p q) = OfPred p × OfPred q

  -- and of a policy
  abbrev pub OfPolicy : Policy → Type 0
  OfPolicy Drop = Unit {0}
  OfPolicy Pass = Unit {0}
  OfPolicy Block = Unit {0}
  OfPolicy (Fwd target span) = Unit {0}
  OfPolicy (Match p) = OfPred p
  OfPolicy (Set set span) = Unit {0}
  OfPolicy (Both p q) = OfPolicy p × OfPolicy q
  OfPolicy (Then p q) = OfPolicy p × OfPolicy q

  tested : (t : Test) → OfTest t → P (test_cube t)
  tested (Inport port) is = record { inport = is; proto = tt; sport = tt; dport = tt }
  tested (Src prefix) is = record { inport = tt; proto = tt; sport = tt; dport = tt }
  tested (Dst prefix) is = record { inport = tt; proto = tt; sport = tt; dport = tt }
  tested (Proto n) is = record { inport = tt; proto = is; sport = tt; dport = tt }
  tested (Sport n) is = record { inport = tt; proto = tt; sport = is; dport = tt }
  tested (Dport n) is = record { inport = tt; proto = tt; sport = tt; dport = is }

  made : (i : Option (Option PortNo)) (s d : Option Prefix) (p q r : Option (Option ℕ)) (c : Cube) → Met ports i → Met protos p → Met sources q → Met targets r → cube_of i s d p q r ≡ Some c → P c
  made (Some i) (Some s) (Some d) (Some p) (Some q) (Some r) c one two three four e =
      subst P (same_Some (record { inport = i; src = s; dst = d; proto = p; sport = q; dport = r }) c e) (record { inport = one; proto = two; sport = three; dport = four })
  made i s d p q r c one two three four e = absurd (cc)

  meets : (a b c : Cube) → P a → P b → meet_cubes a b ≡ Some c → P c
  unfolding meet_cubes
  meets a b c one two e =
      made (meet_values same_port a.inport b.inport) (meet_prefixes a.src b.src) (meet_prefixes a.dst b.dst) (meet_values nat_eq a.proto b.proto) (meet_values nat_eq a.sport b.sport) (meet_values nat_eq a.dport b.dport) c
      (met ports same_port a.inport b.inport one.inport two.inport) (met protos nat_eq a.proto b.proto one.proto two.proto)
      (met sources nat_eq a.sport b.sport one.sport two.sport) (met targets nat_eq a.dport b.dport one.dport two.dport) e

  pulls : (c d : Cube) (set : Assign) → P c → pull_cube c set ≡ Some d → P d
  unfolding pull_cube
  pulls c d set one e =
      made (Some c.inport) (pull_prefix set.src c.src) (pull_prefix set.dst c.dst) (Some c.proto) (pull_value set.sport c.sport) (pull_value set.dport c.dport) d one.inport one.proto
      (pulled sources set.sport c.sport one.sport) (pulled targets set.dport c.dport one.dport) e

  -- ---- predicates

  -- a conjunction of plain tests, where it has headers
  abbrev OfPlain : Option (Option Cube) → Type 0
  OfPlain None = Unit {0}
  OfPlain (Some None) = Unit {0}
  OfPlain (Some (Some c)) = P c

  optional_holds : (o : Option Cube) (c : Cube) → OfPlain (Some o) → P c → OfPlain (Some (meet_optional o c))
  optional_holds None c is one = tt
  optional_holds (Some d) c is one = by (meet_cubes d c) (λ x e. meets d c x is one e)
    where
      by : (o : Option Cube) → ((x : Cube) → o ≡ Some x → P x) → OfPlain (Some o)
      by None holds = tt
      by (Some x) holds = holds x refl

  more_holds : (o : Option (Option Cube)) (q : Pred) → OfPlain o → OfPred q → OfPlain (one_more o q)
  more_holds None q is each = tt
  more_holds (Some c) Yes is each = tt
  more_holds (Some c) (Is test span) is each = optional_holds c (test_cube test) is (tested test each)
  more_holds (Some c) (Not p) is each = tt
  more_holds (Some c) (And p q) is each = tt
  more_holds (Some c) (Or p q) is each = tt

  plain_holds : (p : Pred) → OfPred p → OfPlain (plain p)
  plain_holds Yes each = tt
  plain_holds (Is test span) each = tested test each
  plain_holds (Not p) each = tt
  plain_holds (And p q) each = more_holds (plain p) q (plain_holds p each.0) each.1
  plain_holds (Or p q) each = tt

  where_holds : (o : Option (Option Cube)) (parts : List Cube) → OfPlain o → Each P parts → Each P (atoms_where_plain o parts)
  where_holds None parts is each = each
  where_holds (Some None) parts is each = tt
  where_holds (Some (Some c)) parts is each = (is, tt)

  -- the atoms of a predicate, and those of its parts
  tests_hold : (p : Pred) → OfPred p → Each P (pred_atoms p) × Each P (part_atoms p)
  tests_hold Yes each = (tt, tt)
  tests_hold (Is test span) each = ((tested test each, tt), (tested test each, tt))
  tests_hold (Not p) each = let is = tests_hold p each in (is.0, is.0)
  tests_hold (And p q) each =
      let parts : Each P (part_atoms p ++ pred_atoms q) = each_append P (part_atoms p) (pred_atoms q) (tests_hold p each.0).1 (tests_hold q each.1).0 in
      (where_holds (one_more (plain p) q) (part_atoms p ++ pred_atoms q) (more_holds (plain p) q (plain_holds p each.0) each.1) parts, parts)
  tests_hold (Or p q) each =
      let both : Each P (pred_atoms p ++ pred_atoms q) = each_append P (pred_atoms p) (pred_atoms q) (tests_hold p each.0).0 (tests_hold q each.1).0 in
      (both, both)

  -- ---- policies

  there_holds : (o : Option Cube) (cs : List Cube) → ((x : Cube) → o ≡ Some x → P x) → Each P cs → Each P (cons_some o cs)
  there_holds None cs holds each = each
  there_holds (Some x) cs holds each = (holds x refl, each)

  one_holds : (set : Assign) (cs : List Cube) → Each P cs → Each P (behind_one set cs)
  one_holds set [] each = tt
  one_holds set (c ∷ cs) each = there_holds (pull_cube c set) (behind_one set cs) (λ x e. pulls c x set each.0 e) (one_holds set cs each.1)

  behind_holds : (sets : List Assign) (cs : List Cube) → Each P cs → Each P (behind sets cs)
  behind_holds [] cs each = tt
  behind_holds (set ∷ sets) cs each = each_append P (behind_one set cs) (behind sets cs) (one_holds set cs each) (behind_holds sets cs each)

  pub atoms_hold : (p : Policy) → OfPolicy p → Each P (atoms p)
  atoms_hold Drop each = tt
  atoms_hold Pass each = tt
  atoms_hold Block each = tt
  atoms_hold (Fwd target span) each = tt
  atoms_hold (Match p) each = (tests_hold p each).0
  atoms_hold (Set set span) each = tt
  atoms_hold (Both p q) each = each_append P (atoms p) (atoms q) (atoms_hold p each.0) (atoms_hold q each.1)
  atoms_hold (Then p q) each = each_append P (atoms p) (behind (mods p) (atoms q)) (atoms_hold p each.0) (behind_holds (mods p) (atoms q) (atoms_hold q each.1))

  -- ---- meets

  pub meets_hold : (cs : List Cube) (c : Cube) → Each P cs → IsMeet cs c → P c
  meets_hold [] c each is = subst P (sym is) (record { inport = tt; proto = tt; sport = tt; dport = tt })
  meets_hold (a ∷ cs) c each (inl is) = meets_hold cs c each.1 is
  meets_hold (a ∷ cs) c each (inr is) = meets a is.0 c each.0 (meets_hold cs is.0 each.1 is.1) is.2

-- what is made of each
pub union_holds : {A : Type 0} (P : Cube → Type 0) (f : A → List Cube) (xs : List A) → ((x : A) → Each P (f x)) → Each P (union_over f xs)
union_holds P f [] holds = tt
union_holds P f (x ∷ xs) holds = each_append P (f x) (union_over f xs) (holds x) (union_holds P f xs holds)
