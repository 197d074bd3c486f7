-- The grammar of policies, rule by rule (this exchange's own language, in the manner of Pyretic). Spaces may stand at the
-- start of the text and behind each token. A policy's value is its tree.
use Rattle.std.specs.Prelude.{ℕ, zero, suc, Some, List, codes}
use Rattle.grammar.specs.Rules.{Rule, pure, place, ◌>>=◌, ◌>>◌, either, maybe, never, many, word}
use Rattle.grammar.specs.Tokens.{parens, address, sign, spaces, name, number}
use Rattle.net_types.specs.declared.address.Ip.{Ip}
use Rattle.net_types.specs.declared.address.PortNo.{PortNo}
use Rattle.net_types.specs.declared.headers.Span.{Span}
use Rattle.net_types.specs.declared.headers.Assign.{Assign}
use Rattle.net_types.specs.declared.prefix.Prefix.{Prefix}
use Rattle.net_types.specs.Headers.{no_change}
use Rattle.net_types.specs.Policies.{Target, Name, Number, Test, Inport, Src, Dst, Proto, Sport, Dport, Pred, Yes, Is, Not, And, Or, Policy, Drop, Pass, Block, Fwd, Match, Set, Both, Then}
use Rattle.net_types.specs.FirstBits.{first_bits_of}

-- an assignment to one field
pub data Field : Type 0 where
  SrcIs : ℕ → Field
  DstIs : ℕ → Field
  SportIs : ℕ → Field
  DportIs : ℕ → Field

-- the octets from a up to b
abbrev pub span : ℕ → ℕ → Span
span a b = record { start = a; end = b }

-- the prefix of the first len bits of an address
abbrev pub prefix_of : ℕ → ℕ → Prefix
prefix_of ip len = first_bits_of len ip

-- a number as an address
abbrev pub ip_of : ℕ → Ip
ip_of n = record { 0 = n }

-- a number as a port
abbrev pub port_of : ℕ → PortNo
port_of n = record { 0 = n }

-- the test of a packet's port
abbrev pub inport_is : ℕ → Test
inport_is n = Inport (port_of n)

-- the port that a packet is sent to
abbrev pub number_is : ℕ → Target
number_is n = Number (port_of n)

-- the last assignment to a field counts
abbrev pub with_field : Assign → Field → Assign
with_field a (SrcIs ip) = record a { src = Some (ip_of ip) }
with_field a (DstIs ip) = record a { dst = Some (ip_of ip) }
with_field a (SportIs n) = record a { sport = Some n }
with_field a (DportIs n) = record a { dport = Some n }

-- whom a forward names
abbrev pub target : Rule Target
target = either (do n ← name; pure (Name n)) (do n ← number 1 65279; pure (number_is n))

-- an address and its number of bits, 32 where none is written
abbrev pub prefix : Rule Prefix
prefix = do
  ip ← address
  len ← maybe 32 (do word (codes "/"); number 0 32)
  pure (prefix_of ip len)

-- a field's name, = and a value
abbrev pub field : {X Y : Type 0} → List ℕ → Rule X → (X → Y) → Rule Y
field w value make = do
  word w
  spaces
  sign (codes "=")
  x ← value
  pure (make x)

-- a test of one field
abbrev pub test : Rule Test
test =
    either (field (codes "inport") (number 1 65279) inport_is) (
    either (field (codes "proto") (number 0 255) Proto) (
    either (either (field (codes "srcip") prefix Src) (field (codes "srcport") (number 0 65535) Sport))
    (either (field (codes "dstip") prefix Dst) (field (codes "dstport") (number 0 65535) Dport))))

-- an assignment to one field
abbrev pub assign : Rule Field
assign =
    either (either (field (codes "srcip") address SrcIs) (field (codes "srcport") (number 0 65535) SportIs))
    (either (field (codes "dstip") address DstIs) (field (codes "dstport") (number 0 65535) DportIs))

-- the predicate that holds of all
abbrev pub truth : Rule Pred
truth = do
  word (codes "true")
  spaces
  pure Yes

-- a test with its place
abbrev pub tested : Rule Pred
tested = do
  start ← place
  t ← test
  end ← place
  spaces
  pure (Is t (span start end))

-- what stands in for a predicate's group is handed in
abbrev pub prim_with : Rule Pred → Rule Pred
prim_with group = either truth (either group tested)

-- a predicate turned round
abbrev pub negation : Rule Pred → Rule Pred
negation group = do
  sign (codes "!")
  p ← prim_with group
  pure (Not p)

-- a predicate with or without a negation
abbrev pub lit_with : Rule Pred → Rule Pred
lit_with group = either (negation group) (prim_with group)

-- a further part of a conjunction; both signs mean the same
abbrev pub and_lit : Rule Pred → Rule Pred
and_lit group = do
  either (sign (codes "&")) (sign (codes ","))
  lit_with group

-- a conjunction, from the left
abbrev pub conj_with : Rule Pred → Rule Pred
conj_with group = do
  first ← lit_with group
  many And (and_lit group) first

-- a further part of a disjunction
abbrev pub or_conj : Rule Pred → Rule Pred
or_conj group = do
  sign (codes "|")
  conj_with group

-- a disjunction, from the left
abbrev pub pred_with : Rule Pred → Rule Pred
pred_with group = do
  first ← conj_with group
  many Or (or_conj group) first

-- a predicate in parentheses, with at most so many groups open at once
abbrev pub pred_group : ℕ → Rule Pred
pred_group zero = never
pred_group (suc d) = parens (pred_with (pred_group d))

-- a forward that starts at this place
abbrev pub fwd : ℕ → Rule Policy
fwd start = do
  word (codes "fwd")
  spaces
  sign (codes "(")
  t ← target
  spaces
  word (codes ")")
  end ← place
  spaces
  pure (Fwd t (span start end))

-- a test of headers
abbrev pub match_with : Rule Pred → Rule Policy
match_with group = do
  word (codes "match")
  spaces
  sign (codes "(")
  p ← pred_with group
  sign (codes ")")
  pure (Match p)

-- an assignment and the spaces behind it
abbrev pub assigned : Rule Field
assigned = do
  f ← assign
  spaces
  pure f

-- a further assignment
abbrev pub more_assigned : Rule Field
more_assigned = do
  sign (codes ",")
  assigned

-- assignments that start at this place
abbrev pub modify : ℕ → Rule Policy
modify start = do
  word (codes "modify")
  spaces
  sign (codes "(")
  first ← assigned
  all ← many with_field more_assigned (with_field no_change first)
  word (codes ")")
  end ← place
  spaces
  pure (Set all (span start end))

-- a policy of one word
abbrev pub keyword : List ℕ → Policy → Rule Policy
keyword w p = do
  word w
  spaces
  pure p

-- an atom that starts at this place; what stands in for the groups is handed in
abbrev pub atom_from : Rule Pred → Rule Policy → ℕ → Rule Policy
atom_from inner group start =
    either (keyword (codes "drop") Drop) (
    either (keyword (codes "pass") Pass) (
    either (keyword (codes "block") Block) (
    either (fwd start) (
    either (either (match_with inner) (modify start))
    group))))

-- an atom with its place
abbrev pub atom_with : Rule Pred → Rule Policy → Rule Policy
atom_with inner group = do
  start ← place
  atom_from inner group start

-- a further part of a chain
abbrev pub then_atom : Rule Pred → Rule Policy → Rule Policy
then_atom inner group = do
  sign (codes ">>")
  atom_with inner group

-- a chain, from the left
abbrev pub chain_with : Rule Pred → Rule Policy → Rule Policy
chain_with inner group = do
  first ← atom_with inner group
  many Then (then_atom inner group) first

-- a further part of a sum
abbrev pub plus_chain : Rule Pred → Rule Policy → Rule Policy
plus_chain inner group = do
  sign (codes "+")
  chain_with inner group

-- a sum, from the left
abbrev pub policy_with : Rule Pred → Rule Policy → Rule Policy
policy_with inner group = do
  first ← chain_with inner group
  many Both (plus_chain inner group) first

-- a policy in parentheses, with at most so many groups open at once
abbrev pub policy_group : ℕ → Rule Policy
policy_group zero = never
policy_group (suc d) = parens (policy_with (pred_group d) (policy_group d))

-- a whole text, with at most so many groups open at once
abbrev pub policy : ℕ → Rule Policy
policy d = do
  spaces
  policy_with (pred_group d) (policy_group d)
