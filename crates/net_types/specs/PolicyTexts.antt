-- What a text says as a policy.
use Rattle.std.specs.Prelude.{ℕ, List}
use Rattle.grammar.specs.Texts.{SpellsText}
use Rattle.net_types.specs.Policies.{Policy}
use Rattle.net_types.specs.PolicyGrammar.{policy}

-- the text spells the policy, whatever its length and however many groups are open at once
abbrev pub SpellsPolicy : List ℕ → Policy → Type 0
SpellsPolicy text p = SpellsText policy text p
