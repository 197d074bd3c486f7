-- The numbers of the tests of a policy that is read are in the ranges of their fields.
use Rattle.std.proofs.Common.{◌≡◌, ℕ, zero, suc, ◌+◌, ◌-◌, ◌*◌, ◌^◌, ◌<◌, ◌≤◌, Bool, true, false, cond, ◌&&◌, nat_le, nat_lt, List, [], ◌∷◌, codes, length, refl, sym, arith}
use Rattle.std.specs.Prelude.{Result, Ok, Err}
use Rattle.std.proofs.lemmas.Bool.{and_parts, leb-true}
use Rattle.grammar.specs.Octets.{among}
use Rattle.grammar.specs.Reading.{on_read}
use Rattle.grammar.specs.TextReading.{Deep, Fault, Read, Reader, Wrong, ◌>>=◌, ◌>>◌, place, pure, read_either, read_many, read_word}
use Rattle.grammar.specs.Texts.{at_end, finish, read_whole}
use Rattle.grammar.specs.TokenReading.{digits_from, read_number, read_parens, read_sign, read_spaces, read_too_deep}
use Rattle.grammar.specs.Tokens.{is_digit}
use Rattle.net_types.specs.Headers.{no_change}
use Rattle.net_types.specs.Policies.{Test, Src, Dst, Proto, Sport, Dport, Pred, Yes, Is, Not, And, Or, Policy, Drop, Pass, Block, Fwd, Match, Set, Both, Then}
use Rattle.net_types.specs.PolicyGrammar.{inport_is, span, with_field}
use Rattle.net_types.specs.PolicyReading.{policy_of_text, read_and, read_ands, read_assign_spaces, read_atom, read_atom_from, read_chain, read_conj, read_end, read_field, read_fwd, read_is, read_keyword, read_lead, read_lit, read_m, read_match, read_modify, read_not, read_or, read_ors, read_plus, read_pluses, read_policy, read_policy_group, read_pred, read_pred_group, read_prim, read_sets, read_start, read_target, read_test, read_then, read_thens, read_true}
use Rattle.net_types.specs.PrefixReading.{read_prefix}
use Rattle.net_types.specs.declared.address.PortNo.{PortNo}
use Rattle.text_laws.proofs.Atoms.{OfPolicy, OfPred, OfTest}

-- ---- readers

-- what was read has it
abbrev Has : {X : Type 0} → (X → Type 0) → Read X → Type 0
Has P (Ok r) = P r.0
Has P (Err e) = Unit {0}

-- whatever a reader gives has it
record Gives {X : Type 0} (P : X → Type 0) (f : Reader X) : Type 0 where
  has : (n : ℕ) (s : List ℕ) → Has P (f n s)

any_read : {X : Type 0} (f : Reader X) → Gives (λ (x : X). Unit {0}) f
any_read {X} f = record { has = λ n s. by (f n s) }
  where
    by : (r : Read X) → Has (λ (x : X). Unit {0}) r
    by (Ok r) = tt
    by (Err e) = tt

bound : {X Y : Type 0} (P : X → Type 0) (Q : Y → Type 0) (f : Reader X) (g : X → Reader Y) → Gives P f → ((x : X) → P x → Gives Q (g x)) → Gives Q (f >>= g)
bound {X} {Y} P Q f g one two = record { has = λ n s. by n (f n s) (one.has n s) }
  where
    by : (n : ℕ) (r : Read X) → Has P r → Has Q (on_read r (λ x. g x.0 n x.1))
    by n (Ok x) is = (two x.0 is).has n x.1
    by n (Err e) is = tt

behind : {X Y : Type 0} (Q : Y → Type 0) (f : Reader X) (g : Reader Y) → Gives Q g → Gives Q (f >> g)
behind {X} Q f g two = bound (λ (x : X). Unit {0}) Q f (λ x. g) (any_read f) (λ x is. two)

-- what is made of anything
made : {X Y : Type 0} (Q : Y → Type 0) (f : Reader X) (g : X → Reader Y) → ((x : X) → Gives Q (g x)) → Gives Q (f >>= g)
made {X} Q f g two = bound (λ (x : X). Unit {0}) Q f g (any_read f) (λ x is. two x)

given : {X : Type 0} (P : X → Type 0) (x : X) → P x → Gives P (pure x)
given P x is = record { has = λ n s. is }

chosen : {X : Type 0} (P : X → Type 0) (first : ℕ → Bool) (f g : Reader X) → Gives P f → Gives P g → Gives P (read_either first f g)
chosen P first f g one two = record { has = by }
  where
    which : (b : Bool) (n c : ℕ) (s : List ℕ) → Has P (cond b (f n (c ∷ s)) (g n (c ∷ s)))
    which true n c s = one.has n (c ∷ s)
    which false n c s = two.has n (c ∷ s)

    by : (n : ℕ) (s : List ℕ) → Has P (read_either first f g n s)
    by n [] = two.has n []
    by n (c ∷ s) = which (first c) n c s

module _ {X Y : Type 0} (P : X → Type 0) (Q : Y → Type 0) (join : X → Y → X) (keeps : (x : X) (y : Y) → P x → Q y → P (join x y)) (first : ℕ → Bool) (part : Reader Y) (each : Gives Q part) where
  many_read : (fuel : ℕ) (before : X) → P before → (n : ℕ) (s : List ℕ) → Has P (read_many fuel first join part before n s)
  many_read zero before is n [] = is
  many_read (suc fuel) before is n [] = is
  many_read zero before is n (c ∷ s) = is
  many_read (suc fuel) before is n (c ∷ s) = by (first c) (λ x has rest. many_read fuel x has n rest)
    where
      on : (r : Read Y) → Has Q r → ((x : X) → P x → (rest : List ℕ) → Has P (read_many fuel first join part x n rest)) → Has P (on_read r (λ r. read_many fuel first join part (join before r.0) n r.1))
      on (Ok r) has more = more (join before r.0) (keeps before r.0 is has) r.1
      on (Err e) has more = tt

      by : (b : Bool) → ((x : X) → P x → (rest : List ℕ) → Has P (read_many fuel first join part x n rest))
          → Has P (cond b (on_read (part n (c ∷ s)) (λ r. read_many fuel first join part (join before r.0) n r.1)) (Ok (before, c ∷ s)))
      by true more = on (part n (c ∷ s)) (each.has n (c ∷ s)) more
      by false more = is

-- ---- numbers

digits_low : (high v : ℕ) (s : List ℕ) → v ≤ high → (digits_from high v s).0 ≤ high
digits_low high v [] is = is
digits_low high v (c ∷ s) is = by (is_digit c && (nat_lt 0 v && nat_le (v * 10 + (c - 48)) high)) refl (λ less. digits_low high (v * 10 + (c - 48)) s less)
  where
    by : (b : Bool) → (is_digit c && (nat_lt 0 v && nat_le (v * 10 + (c - 48)) high)) ≡ b → (v * 10 + (c - 48) ≤ high → (digits_from high (v * 10 + (c - 48)) s).0 ≤ high)
        → (cond b (digits_from high (v * 10 + (c - 48)) s) (v, c ∷ s)).0 ≤ high
    by true e more = more (leb-true (v * 10 + (c - 48)) high (and_parts (nat_lt 0 v) (nat_le (v * 10 + (c - 48)) high) (and_parts (is_digit c) (nat_lt 0 v && nat_le (v * 10 + (c - 48)) high) e).1).1)
    by false e more = is

number_read : (low high : ℕ) → 9 ≤ high → Gives (λ n. n ≤ high) (read_number low high)
number_read low high nine = record { has = by }
  where
    digit : (c : ℕ) → is_digit c ≡ true → c - 48 ≤ high
    digit c e = let is = leb-true c 57 (and_parts (nat_le 48 c) (nat_le c 57) e).1 in omega (arith, is, nine)

    which : (b : Bool) (n c : ℕ) (s : List ℕ) → (is_digit c && nat_le low (c - 48)) ≡ b → Has (λ n. n ≤ high) (cond b (Ok (digits_from high (c - 48) s)) (Err (Wrong (n - length (c ∷ s)))))
    which true n c s e = digits_low high (c - 48) s (digit c (and_parts (is_digit c) (nat_le low (c - 48)) e).0)
    which false n c s e = tt

    by : (n : ℕ) (s : List ℕ) → Has (λ n. n ≤ high) (read_number low high n s)
    by n [] = tt
    by n (c ∷ s) = which (is_digit c && nat_le low (c - 48)) n c s refl

-- ---- tests

-- a port, and numbers of eight and of sixteen bits
abbrev pub PortFits : PortNo → Type 0
PortFits port = port.0 < 2 ^ 16

abbrev pub OctetFits : ℕ → Type 0
OctetFits n = n < 2 ^ 8

abbrev pub WordFits : ℕ → Type 0
WordFits n = n < 2 ^ 16

-- the number of a test is in the range of its field
abbrev pub TestFits : Test → Type 0
TestFits = OfTest PortFits OctetFits WordFits WordFits

-- so are those of a predicate
abbrev pub PredFits : Pred → Type 0
PredFits = OfPred PortFits OctetFits WordFits WordFits

-- and those of a policy
abbrev pub PolicyFits : Policy → Type 0
PolicyFits = OfPolicy PortFits OctetFits WordFits WordFits

field_read : {X Y : Type 0} (P : X → Type 0) (Q : Y → Type 0) (w : List ℕ) (value : Reader X) (make : X → Y) → Gives P value → ((x : X) → P x → Q (make x)) → Gives Q (read_field w value make)
unfolding read_field
field_read P Q w value make one two = behind Q (read_lead w) _ (bound P Q value _ one (λ x is. given Q (make x) (two x is)))

end_read : {X : Type 0} (w : List ℕ) (value : Reader X) (address : X → Test) (port : ℕ → Test) → ((x : X) → TestFits (address x)) → ((n : ℕ) → n < 2 ^ 16 → TestFits (port n)) → Gives TestFits (read_end w value address port)
unfolding read_end
end_read {X} w value address port one two =
    behind TestFits (read_word w) _
    (chosen TestFits (among (codes "i")) _ _ (field_read (λ (x : X). Unit {0}) TestFits (codes "ip") value address (any_read value) (λ x is. one x))
    (field_read (λ n. n ≤ 65535) TestFits (codes "port") (read_number 0 65535) port (number_read 0 65535 (omega arith)) (λ n is. two n (omega (arith, is)))))

test_read : Gives TestFits read_test
unfolding read_test
test_read =
    chosen TestFits (among (codes "i")) _ _ (field_read (λ n. n ≤ 65279) TestFits (codes "inport") (read_number 1 65279) inport_is (number_read 1 65279 (omega arith)) (λ n is. omega (arith, is)))
    (chosen TestFits (among (codes "p")) _ _ (field_read (λ n. n ≤ 255) TestFits (codes "proto") (read_number 0 255) Proto (number_read 0 255 (omega arith)) (λ n is. omega (arith, is)))
    (chosen TestFits (among (codes "s")) _ _ (end_read (codes "src") read_prefix Src Sport (λ p. tt) (λ n is. is)) (end_read (codes "dst") read_prefix Dst Dport (λ p. tt) (λ n is. is))))

-- ---- predicates

is_read : Gives PredFits read_is
unfolding read_is
is_read = made PredFits place _ (λ start. bound TestFits PredFits read_test _ test_read (λ t is. made PredFits place _ (λ end. behind PredFits read_spaces _ (given PredFits (Is t (span start end)) is))))

module _ (group : Reader Pred) (inner : Gives PredFits group) where
  prim_read : Gives PredFits (read_prim group)
  unfolding read_prim read_true
  prim_read = chosen PredFits (among (codes "t")) _ _ true_read (chosen PredFits (among (codes "(")) _ _ inner is_read)
    where
      true_read : Gives PredFits read_true
      true_read = behind PredFits (read_word (codes "true")) (read_spaces >> pure Yes) (behind PredFits read_spaces (pure Yes) (given PredFits Yes tt))

  lit_read : Gives PredFits (read_lit group)
  unfolding read_lit read_not
  lit_read = chosen PredFits (among (codes "!")) _ _ not_read prim_read
    where
      not_read : Gives PredFits (read_not group)
      not_read = behind PredFits (read_sign (codes "!")) (read_prim group >>= λ p. pure (Not p)) (bound PredFits PredFits (read_prim group) (λ p. pure (Not p)) prim_read (λ p is. given PredFits (Not p) is))

  and_read : Gives PredFits (read_and group)
  unfolding read_and
  and_read = behind PredFits (read_either (among (codes "&")) (read_sign (codes "&")) (read_sign (codes ","))) _ lit_read

  conj_read : Gives PredFits (read_conj group)
  unfolding read_conj read_ands
  conj_read = bound PredFits PredFits (read_lit group) _ lit_read ands_read
    where
      ands_read : (p : Pred) → PredFits p → Gives PredFits (read_ands group p)
      ands_read p is = record { has = λ n s. many_read PredFits PredFits And (λ x y one two. (one, two)) (among (codes "&,")) (read_and group) and_read (length s) p is n s }

  or_read : Gives PredFits (read_or group)
  unfolding read_or
  or_read = behind PredFits (read_sign (codes "|")) _ conj_read

  pred_read : Gives PredFits (read_pred group)
  unfolding read_pred read_ors
  pred_read = bound PredFits PredFits (read_conj group) _ conj_read ors_read
    where
      ors_read : (p : Pred) → PredFits p → Gives PredFits (read_ors group p)
      ors_read p is = record { has = λ n s. many_read PredFits PredFits Or (λ x y one two. (one, two)) (among (codes "|")) (read_or group) or_read (length s) p is n s }

too_deep : {X : Type 0} (P : X → Type 0) → Gives P read_too_deep
unfolding read_too_deep
too_deep {X} P = record { has = by }
  where
    which : (b : Bool) (n : ℕ) → Has P (cond b (Err (Deep n)) (Err (Wrong n)))
    which true n = tt
    which false n = tt

    by : (n : ℕ) (s : List ℕ) → Has P (read_too_deep n s)
    by n [] = tt
    by n (c ∷ s) = which (among (codes "(") c) (n - length (c ∷ s))

parens_read : {X : Type 0} (P : X → Type 0) (inner : Reader X) → Gives P inner → Gives P (read_parens inner)
unfolding read_parens
parens_read P inner one = behind P (read_sign (codes "(")) _ (bound P P inner _ one (λ p is. behind P (read_sign (codes ")")) _ (given P p is)))

group_read : (d : ℕ) → Gives PredFits (read_pred_group d)
unfolding read_pred_group
group_read zero = too_deep PredFits
group_read (suc d) = parens_read PredFits (read_pred (read_pred_group d)) (pred_read (read_pred_group d) (group_read d))

-- ---- policies

fwd_read : (start : ℕ) → Gives PolicyFits (read_fwd start)
unfolding read_fwd
fwd_read start =
    behind PolicyFits (read_word (codes "fwd")) _ (behind PolicyFits read_spaces _ (behind PolicyFits (read_sign (codes "(")) _
    (made PolicyFits read_target _ (λ t. behind PolicyFits read_spaces _ (behind PolicyFits (read_word (codes ")")) _ (made PolicyFits place _ (λ end. behind PolicyFits read_spaces _ (given PolicyFits (Fwd t (span start end)) tt))))))))

modify_read : (start : ℕ) → Gives PolicyFits (read_modify start)
unfolding read_modify
modify_read start =
    behind PolicyFits (read_word (codes "odify")) _ (behind PolicyFits read_spaces _ (behind PolicyFits (read_sign (codes "(")) _
    (made PolicyFits read_assign_spaces _ (λ first. made PolicyFits (read_sets (with_field no_change first)) _ (λ all. behind PolicyFits (read_word (codes ")")) _ (made PolicyFits place _ (λ end. behind PolicyFits read_spaces _ (given PolicyFits (Set all (span start end)) tt))))))))

keyword_read : (w : List ℕ) (p : Policy) → PolicyFits p → Gives PolicyFits (read_keyword w p)
unfolding read_keyword
keyword_read w p is = behind PolicyFits (read_word w) _ (behind PolicyFits read_spaces _ (given PolicyFits p is))

module _ (inner : Reader Pred) (group : Reader Policy) (tests : Gives PredFits inner) (parts : Gives PolicyFits group) where
  m_read : (start : ℕ) → Gives PolicyFits (read_m inner start)
  unfolding read_m read_match
  m_read start = behind PolicyFits (read_word (codes "m")) _ (chosen PolicyFits (among (codes "a")) _ _ match_read (modify_read start))
    where
      match_read : Gives PolicyFits (read_match inner)
      match_read =
          behind PolicyFits (read_word (codes "atch")) (read_spaces >> (read_sign (codes "(") >> (read_pred inner >>= λ p. read_sign (codes ")") >> pure (Match p))))
          (behind PolicyFits read_spaces (read_sign (codes "(") >> (read_pred inner >>= λ p. read_sign (codes ")") >> pure (Match p)))
          (behind PolicyFits (read_sign (codes "(")) (read_pred inner >>= λ p. read_sign (codes ")") >> pure (Match p))
          (bound PredFits PolicyFits (read_pred inner) (λ p. read_sign (codes ")") >> pure (Match p)) (pred_read inner tests)
          (λ p is. behind PolicyFits (read_sign (codes ")")) (pure (Match p)) (given PolicyFits (Match p) is)))))

  atom_read : Gives PolicyFits (read_atom inner group)
  unfolding read_atom read_atom_from
  atom_read = made PolicyFits place _ from_read
    where
      from_read : (start : ℕ) → Gives PolicyFits (read_atom_from inner group start)
      from_read start =
          chosen PolicyFits (among (codes "d")) (read_keyword (codes "drop") Drop) (read_either (among (codes "p")) (read_keyword (codes "pass") Pass) (read_either (among (codes "b")) (read_keyword (codes "block") Block) (read_either (among (codes "f")) (read_fwd start) (read_either (among (codes "m")) (read_m inner start) group)))) (keyword_read (codes "drop") Drop tt)
          (chosen PolicyFits (among (codes "p")) (read_keyword (codes "pass") Pass) (read_either (among (codes "b")) (read_keyword (codes "block") Block) (read_either (among (codes "f")) (read_fwd start) (read_either (among (codes "m")) (read_m inner start) group))) (keyword_read (codes "pass") Pass tt)
          (chosen PolicyFits (among (codes "b")) (read_keyword (codes "block") Block) (read_either (among (codes "f")) (read_fwd start) (read_either (among (codes "m")) (read_m inner start) group)) (keyword_read (codes "block") Block tt)
          (chosen PolicyFits (among (codes "f")) (read_fwd start) (read_either (among (codes "m")) (read_m inner start) group) (fwd_read start) (chosen PolicyFits (among (codes "m")) (read_m inner start) group (m_read start) parts))))

  then_read : Gives PolicyFits (read_then inner group)
  unfolding read_then
  then_read = behind PolicyFits (read_sign (codes ">>")) _ atom_read

  chain_read : Gives PolicyFits (read_chain inner group)
  unfolding read_chain read_thens
  chain_read = bound PolicyFits PolicyFits (read_atom inner group) _ atom_read thens_read
    where
      thens_read : (p : Policy) → PolicyFits p → Gives PolicyFits (read_thens inner group p)
      thens_read p is = record { has = λ n s. many_read PolicyFits PolicyFits Then (λ x y one two. (one, two)) (among (codes ">")) (read_then inner group) then_read (length s) p is n s }

  plus_read : Gives PolicyFits (read_plus inner group)
  unfolding read_plus
  plus_read = behind PolicyFits (read_sign (codes "+")) _ chain_read

  policy_read : Gives PolicyFits (read_policy inner group)
  unfolding read_policy read_pluses
  policy_read = bound PolicyFits PolicyFits (read_chain inner group) _ chain_read pluses_read
    where
      pluses_read : (p : Policy) → PolicyFits p → Gives PolicyFits (read_pluses inner group p)
      pluses_read p is = record { has = λ n s. many_read PolicyFits PolicyFits Both (λ x y one two. (one, two)) (among (codes "+")) (read_plus inner group) plus_read (length s) p is n s }

policy_group_read : (d : ℕ) → Gives PolicyFits (read_policy_group d)
unfolding read_policy_group
policy_group_read zero = too_deep PolicyFits
policy_group_read (suc d) = parens_read PolicyFits (read_policy (read_pred_group d) (read_policy_group d)) (policy_read (read_pred_group d) (read_policy_group d) (group_read d) (policy_group_read d))

start_read : (d : ℕ) → Gives PolicyFits (read_start d)
unfolding read_start
start_read d = behind PolicyFits read_spaces _ (policy_read (read_pred_group d) (read_policy_group d) (group_read d) (policy_group_read d))

-- what a text is read as
abbrev Whole : Result Policy Fault → Type 0
Whole (Ok p) = PolicyFits p
Whole (Err e) = Unit {0}

whole_read : (text : List ℕ) → Whole (policy_of_text text)
unfolding policy_of_text read_whole
whole_read text = by (read_start 64 (length text) text) ((start_read 64).has (length text) text)
  where
    ended : (p : Policy) (rest : List ℕ) → PolicyFits p → Whole (at_end text p rest)
    ended p [] is = is
    ended p (c ∷ s) is = tt

    by : (r : Read Policy) → Has PolicyFits r → Whole (finish text r)
    by (Ok r) is = ended r.0 r.1 is
    by (Err e) is = tt

pub read_fits : (text : List ℕ) (p : Policy) → policy_of_text text ≡ Ok p → PolicyFits p
read_fits text p e = is (policy_of_text text) e (whole_read text)
  where
    is : (r : Result Policy Fault) → r ≡ Ok p → Whole r → PolicyFits p
    is (Ok q) same fits = subst_policy q p same fits
      where
        subst_policy : (q p : Policy) → (let x : Result Policy Fault = Ok q in x) ≡ Ok p → PolicyFits q → PolicyFits p
        subst_policy q p same fits = let e : q ≡ p = cc in rw (sym e) fits
    is (Err e) same fits = absurd (cc)
