-- What may stand behind a policy that is a part of a text.
use Rattle.std.specs.Prelude.{ℕ, Bool, codes}
use Rattle.grammar.specs.Octets.{among}

-- a group ends behind it
abbrev pub after_policy : ℕ → Bool
after_policy = among (codes ")")
