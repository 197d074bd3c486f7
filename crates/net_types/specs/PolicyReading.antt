-- Reading a policy from left to right, one octet ahead.
use Rattle.std.specs.Prelude.{ℕ, zero, suc, List, length, codes, Result}
use Rattle.grammar.specs.Tokens.{is_letter}
use Rattle.grammar.specs.TextReading.{Fault, Reader, ◌>>=◌, ◌>>◌, pure, place, read_word, read_either, read_many}
use Rattle.grammar.specs.Texts.{read_whole}
use Rattle.grammar.specs.Octets.{among}
use Rattle.grammar.specs.TokenReading.{read_parens, read_too_deep, read_address, read_sign, read_spaces, read_name, read_number}
use Rattle.net_types.specs.Policies.{Target, Name, Test, Src, Dst, Proto, Sport, Dport, Pred, Yes, Is, Not, And, Or, Policy, Drop, Pass, Block, Fwd, Match, Set, Both, Then}
use Rattle.net_types.specs.PrefixReading.{read_prefix}
use Rattle.net_types.specs.declared.headers.Assign.{Assign}
use Rattle.net_types.specs.Headers.{no_change}
use Rattle.net_types.specs.PolicyGrammar.{inport_is, number_is, Field, SrcIs, DstIs, SportIs, DportIs, span, with_field}

unfoldable pub read_target : Reader Target
read_target = read_either is_letter (do n ← read_name; pure (Name n)) (do n ← read_number 1 65279; pure (number_is n))

-- a field from behind the part of its name that tells it apart
unfoldable pub read_lead : List ℕ → Reader (Unit {0})
read_lead w = do
  read_word w
  read_spaces
  read_sign (codes "=")

unfoldable pub read_field : {X Y : Type 0} → List ℕ → Reader X → (X → Y) → Reader Y
read_field w value make = do
  read_lead w
  x ← value
  pure (make x)

-- the address or the port of an end
unfoldable pub read_end : {X Y : Type 0} → List ℕ → Reader X → (X → Y) → (ℕ → Y) → Reader Y
read_end w value address port = do
  read_word w
  read_either (among (codes "i")) (read_field (codes "ip") value address) (read_field (codes "port") (read_number 0 65535) port)

unfoldable pub read_test : Reader Test
read_test =
    read_either (among (codes "i")) (read_field (codes "inport") (read_number 1 65279) inport_is) (
    read_either (among (codes "p")) (read_field (codes "proto") (read_number 0 255) Proto) (
    read_either (among (codes "s")) (read_end (codes "src") read_prefix Src Sport) (read_end (codes "dst") read_prefix Dst Dport)))

unfoldable pub read_assign : Reader Field
read_assign =
    read_either (among (codes "s")) (read_end (codes "src") read_address SrcIs SportIs) (read_end (codes "dst") read_address DstIs DportIs)

unfoldable pub read_is : Reader Pred
read_is = do
  start ← place
  t ← read_test
  end ← place
  read_spaces
  pure (Is t (span start end))

unfoldable pub read_true : Reader Pred
read_true = do
  read_word (codes "true")
  read_spaces
  pure Yes

unfoldable pub read_prim : Reader Pred → Reader Pred
read_prim group = read_either (among (codes "t")) read_true (read_either (among (codes "(")) group read_is)

unfoldable pub read_not : Reader Pred → Reader Pred
read_not group = do
  read_sign (codes "!")
  p ← read_prim group
  pure (Not p)

unfoldable pub read_lit : Reader Pred → Reader Pred
read_lit group = read_either (among (codes "!")) (read_not group) (read_prim group)

-- a further part of a conjunction
unfoldable pub read_and : Reader Pred → Reader Pred
read_and group = do
  read_either (among (codes "&")) (read_sign (codes "&")) (read_sign (codes ","))
  read_lit group

unfoldable pub read_ands : Reader Pred → Pred → Reader Pred
read_ands group first n s = read_many (length s) (among (codes "&,")) And (read_and group) first n s

unfoldable pub read_conj : Reader Pred → Reader Pred
read_conj group = do
  first ← read_lit group
  read_ands group first

unfoldable pub read_or : Reader Pred → Reader Pred
read_or group = do
  read_sign (codes "|")
  read_conj group

unfoldable pub read_ors : Reader Pred → Pred → Reader Pred
read_ors group first n s = read_many (length s) (among (codes "|")) Or (read_or group) first n s

unfoldable pub read_pred : Reader Pred → Reader Pred
read_pred group = do
  first ← read_conj group
  read_ors group first

unfoldable pub read_pred_group : ℕ → Reader Pred
read_pred_group zero = read_too_deep
read_pred_group (suc d) = read_parens (read_pred (read_pred_group d))

unfoldable pub read_fwd : ℕ → Reader Policy
read_fwd start = do
  read_word (codes "fwd")
  read_spaces
  read_sign (codes "(")
  t ← read_target
  read_spaces
  read_word (codes ")")
  end ← place
  read_spaces
  pure (Fwd t (span start end))

-- behind the first letter of match
unfoldable pub read_match : Reader Pred → Reader Policy
read_match group = do
  read_word (codes "atch")
  read_spaces
  read_sign (codes "(")
  p ← read_pred group
  read_sign (codes ")")
  pure (Match p)

unfoldable pub read_assign_spaces : Reader Field
read_assign_spaces = do
  f ← read_assign
  read_spaces
  pure f

unfoldable pub read_set : Reader Field
read_set = do
  read_sign (codes ",")
  read_assign_spaces

unfoldable pub read_sets : Assign → Reader Assign
read_sets first n s = read_many (length s) (among (codes ",")) with_field read_set first n s

-- behind the first letter of modify
unfoldable pub read_modify : ℕ → Reader Policy
read_modify start = do
  read_word (codes "odify")
  read_spaces
  read_sign (codes "(")
  first ← read_assign_spaces
  all ← read_sets (with_field no_change first)
  read_word (codes ")")
  end ← place
  read_spaces
  pure (Set all (span start end))

unfoldable pub read_keyword : List ℕ → Policy → Reader Policy
read_keyword w p = do
  read_word w
  read_spaces
  pure p

unfoldable pub read_m : Reader Pred → ℕ → Reader Policy
read_m inner start = do
  read_word (codes "m")
  read_either (among (codes "a")) (read_match inner) (read_modify start)

unfoldable pub read_atom_from : Reader Pred → Reader Policy → ℕ → Reader Policy
read_atom_from inner group start =
    read_either (among (codes "d")) (read_keyword (codes "drop") Drop) (
    read_either (among (codes "p")) (read_keyword (codes "pass") Pass) (
    read_either (among (codes "b")) (read_keyword (codes "block") Block) (
    read_either (among (codes "f")) (read_fwd start) (
    read_either (among (codes "m")) (read_m inner start)
    group))))

unfoldable pub read_atom : Reader Pred → Reader Policy → Reader Policy
read_atom inner group = do
  start ← place
  read_atom_from inner group start

unfoldable pub read_then : Reader Pred → Reader Policy → Reader Policy
read_then inner group = do
  read_sign (codes ">>")
  read_atom inner group

unfoldable pub read_thens : Reader Pred → Reader Policy → Policy → Reader Policy
read_thens inner group first n s = read_many (length s) (among (codes ">")) Then (read_then inner group) first n s

unfoldable pub read_chain : Reader Pred → Reader Policy → Reader Policy
read_chain inner group = do
  first ← read_atom inner group
  read_thens inner group first

unfoldable pub read_plus : Reader Pred → Reader Policy → Reader Policy
read_plus inner group = do
  read_sign (codes "+")
  read_chain inner group

unfoldable pub read_pluses : Reader Pred → Reader Policy → Policy → Reader Policy
read_pluses inner group first n s = read_many (length s) (among (codes "+")) Both (read_plus inner group) first n s

unfoldable pub read_policy : Reader Pred → Reader Policy → Reader Policy
read_policy inner group = do
  first ← read_chain inner group
  read_pluses inner group first

unfoldable pub read_policy_group : ℕ → Reader Policy
read_policy_group zero = read_too_deep
read_policy_group (suc d) = read_parens (read_policy (read_pred_group d) (read_policy_group d))

-- the policy of a text without what may stand behind it
unfoldable pub read_start : ℕ → Reader Policy
read_start d = do
  read_spaces
  read_policy (read_pred_group d) (read_policy_group d)

-- the policy that a whole text spells with at most 64 groups open at once, or why it spells none, and where
unfoldable pub policy_of_text : List ℕ → Result Policy Fault
policy_of_text text = read_whole (read_start 64) text
