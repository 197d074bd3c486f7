-- The fields of a line beside the tokens of policies and export rules.
use Rattle.std.specs.Prelude.{◌≡◌, ◌↔◌, ℕ, List, Some}
use Rattle.grammar.specs.Tokens as tokens
use Rattle.net_types.specs.declared.address.Ip.{Ip}
use Rattle.events.specs.Lines as lines

-- A field is read as a name, a number or an address exactly where the token spells it, whole. So the name that a line
-- declares is one that a policy can say, and no other is.
pub record FieldsAreTokens : Type 0 where
  pub names : (text who : List ℕ) → (lines.name text ≡ Some who) ↔ tokens.name.Spells 0 text who
  pub numbers : (low high : ℕ) (text : List ℕ) (n : ℕ) → (lines.number_within low high text ≡ Some n) ↔ (tokens.number low high).Spells 0 text n
  pub addresses : (text : List ℕ) (ip : Ip) → (lines.address text ≡ Some ip) ↔ tokens.address.Spells 0 text ip.0
