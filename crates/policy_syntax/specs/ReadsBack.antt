-- When the canonical text of a policy is read as the same policy but for its spans.
use Rattle.std.specs.Prelude.{◌≡◌, ℕ}
use Rattle.net_types.specs.Policies.{Pred, Yes, Is, Not, And, Or, Policy, Drop, Pass, Block, Fwd, Match, Set, Both, Then}
use Rattle.net_types.specs.PolicyGrammar.{span, policy}
use Rattle.policy_syntax.specs.Canonical.{canonical}

-- without its spans
abbrev pub bare_pred : Pred → Pred
bare_pred Yes = Yes
bare_pred (Is t s) = Is t (span 0 0)
bare_pred (Not p) = Not (bare_pred p)
bare_pred (And p q) = And (bare_pred p) (bare_pred q)
bare_pred (Or p q) = Or (bare_pred p) (bare_pred q)

-- without its spans
abbrev pub bare : Policy → Policy
bare Drop = Drop
bare Pass = Pass
bare Block = Block
bare (Fwd t s) = Fwd t (span 0 0)
bare (Match p) = Match (bare_pred p)
bare (Set a s) = Set a (span 0 0)
bare (Then p q) = Then (bare p) (bare q)
bare (Both p q) = Both (bare p) (bare q)

-- the canonical text spells the policy, but for its spans, with at most d groups open at once
abbrev pub ReadsBack : ℕ → Policy → Type 0
ReadsBack d p = (q : Policy) × (policy d).Spells 0 (canonical p) q × (bare q ≡ bare p)

-- a policy and each of its parts
abbrev pub EachPart : (Policy → Type 0) → Policy → Type 0
EachPart P Drop = P Drop
EachPart P Pass = P Pass
EachPart P Block = P Block
EachPart P (Fwd t s) = P (Fwd t s)
EachPart P (Match p) = P (Match p)
EachPart P (Set a s) = P (Set a s)
EachPart P (Then p q) = P (Then p q) × EachPart P p × EachPart P q
EachPart P (Both p q) = P (Both p q) × EachPart P p × EachPart P q
