-- The canonical text of a whole policy.
use Rattle.std.proofs.Common.{ℕ, List, [], subst}
use Rattle.std.proofs.lemmas.List.{append-nil}
use Rattle.net_types.specs.Policies.{Policy}
use Rattle.net_types.specs.PolicyGrammar.{policy_with, pred_group, policy_group}
use Rattle.policy_syntax.specs.Canonical.{canonical, Loose}
use Rattle.policy_syntax.specs.ReadsBack.{ReadsBack}
use Rattle.policy_syntax.proofs.FittingPolicies.{FitsPolicy, SoundAssign}
use Rattle.policy_syntax.proofs.ReadBack.{no_spaces}
use Rattle.policy_syntax.proofs.PolicyBack.{policy_back}
use Rattle.policy_syntax.proofs.SetsBack.{sets_back}

pub canonical_back : (d : ℕ) (p : Policy) → FitsPolicy SoundAssign d Loose p → ReadsBack d p
canonical_back d p h =
    let k = policy_back SoundAssign sets_back p Loose d h 0 [] tt in
    (k.found, no_spaces _ 0 (canonical p) k.found (subst (λ (w : List ℕ). (policy_with (pred_group d) (policy_group d)).Spells 0 w k.found) (append-nil (canonical p)) k.spells), k.alike)
