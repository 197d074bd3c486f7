-- The canonical text of a policy.
use Rattle.std.specs.Prelude.{ℕ, ◌==◌, ◌&&◌, Bool, true, false, Option, Some, None, List, [], ◌++◌, codes, if◌then◌else◌}
use Rattle.std.specs.Fmt.{decimal}
use Rattle.grammar.specs.Tokens.{address_text}
use Rattle.net_types.specs.declared.address.Ip.{Ip}
use Rattle.net_types.specs.declared.prefix.Prefix.{Prefix}
use Rattle.net_types.specs.declared.headers.Assign.{Assign}
use Rattle.net_types.specs.Policies.{Policy, Drop, Pass, Block, Fwd, Match, Set, Both, Then, Pred, Yes, Is, Not, And, Or, Test, Inport, Src, Dst, Proto, Sport, Dport, Target, Name, Number}

-- where a part stands: whether a sum, a chain or only an atom may stand there without a group, and likewise of a
-- predicate a disjunction, a conjunction, a negation or only what is none of these
pub data Level : Type 0 where
  Loose : Level
  Middle : Level
  Tight : Level
  Single : Level

-- what opens a group, where there is one
abbrev pub opening : Bool → List ℕ
opening true = codes "("
opening false = []

-- what closes it
abbrev pub closing : Bool → List ℕ
closing true = codes ")"
closing false = []

-- a text, as a group where it has to be one
abbrev pub grouped : Bool → List ℕ → List ℕ
grouped is s = opening is ++ (s ++ closing is)

-- a sum or a disjunction
abbrev pub group_first : Level → Bool
group_first Loose = false
group_first Middle = true
group_first Tight = true
group_first Single = true

-- a chain or a conjunction
abbrev pub group_second : Level → Bool
group_second Loose = false
group_second Middle = false
group_second Tight = true
group_second Single = true

-- a negation
abbrev pub group_third : Level → Bool
group_third Loose = false
group_third Middle = false
group_third Tight = false
group_third Single = true

-- an address
abbrev pub ip_text : Ip → List ℕ
ip_text ip = address_text ip.0

-- the number of bits, but where all 32 count
abbrev pub len_text : ℕ → List ℕ
len_text len = if len == 32 then [] else codes "/" ++ decimal len

-- a prefix; one of 32 bits is written as its address
abbrev pub prefix_text : Prefix → List ℕ
prefix_text p = address_text p.address.0 ++ len_text p.len

-- a test of one field
abbrev pub test_text : Test → List ℕ
test_text (Inport n) = codes "inport=" ++ decimal n.0
test_text (Src p) = codes "srcip=" ++ prefix_text p
test_text (Dst p) = codes "dstip=" ++ prefix_text p
test_text (Proto n) = codes "proto=" ++ decimal n
test_text (Sport n) = codes "srcport=" ++ decimal n
test_text (Dport n) = codes "dstport=" ++ decimal n

-- a predicate where it stands
abbrev pub pred_text : Level → Pred → List ℕ
pred_text level Yes = codes "true"
pred_text level (Is t span) = test_text t
pred_text level (Not p) = grouped (group_third level) (codes "!" ++ pred_text Single p)
pred_text level (And p q) = grouped (group_second level) (pred_text Middle p ++ (codes " & " ++ pred_text Tight q))
pred_text level (Or p q) = grouped (group_first level) (pred_text Loose p ++ (codes " | " ++ pred_text Middle q))

-- a name as it is, or a number
abbrev pub target_text : Target → List ℕ
target_text (Name n) = n
target_text (Number n) = decimal n.0

-- what stands in front of a field, but of the first
abbrev pub comma : Bool → List ℕ
comma true = []
comma false = codes ","

-- a field that is set, behind those before it
abbrev pub field_text : {A : Type 0} → Bool → List ℕ → Option A → (A → List ℕ) → List ℕ
field_text first w None text = []
field_text first w (Some x) text = comma first ++ (w ++ text x)

-- there is no value
abbrev pub is_unset : {A : Type 0} → Option A → Bool
is_unset None = true
is_unset (Some x) = false

-- the fields that are set, in this order, each once
abbrev pub assign_text : Assign → List ℕ
assign_text a =
    field_text true (codes "srcip=") a.src ip_text
    ++ (field_text (is_unset a.src) (codes "dstip=") a.dst ip_text
    ++ (field_text (is_unset a.src && is_unset a.dst) (codes "srcport=") a.sport decimal
    ++ field_text (is_unset a.src && is_unset a.dst && is_unset a.sport) (codes "dstport=") a.dport decimal))

-- a policy where it stands
abbrev pub policy_text : Level → Policy → List ℕ
policy_text level Drop = codes "drop"
policy_text level Pass = codes "pass"
policy_text level Block = codes "block"
policy_text level (Fwd t span) = codes "fwd(" ++ (target_text t ++ codes ")")
policy_text level (Match p) = codes "match(" ++ (pred_text Loose p ++ codes ")")
policy_text level (Set a span) = codes "modify(" ++ (assign_text a ++ codes ")")
policy_text level (Then p q) = grouped (group_second level) (policy_text Middle p ++ (codes " >> " ++ policy_text Tight q))
policy_text level (Both p q) = grouped (group_first level) (policy_text Loose p ++ (codes " + " ++ policy_text Middle q))

-- a whole policy
abbrev pub canonical : Policy → List ℕ
canonical p = policy_text Loose p
