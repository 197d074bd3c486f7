-- The rule at the place is the first one that holds the cube.
use Rattle.std.proofs.Common.{sym, ap, ◌∙◌, []}
use Rattle.std.specs.Option.{option_map_or}
use Rattle.std.specs.Prelude.{option_copied}
use Rattle.classifier.specs.declared.line.Line.{Line}
use Rattle.block_build.proofs.exits.items_at.Goals as goal

pub returns-in-Some : goal.returns-in-Some
returns-in-Some c = λ cube known. c.items.ensures ∙ ap (λ o. option_map_or (λ (y : Line). y.results) o []) (sym (ap option_copied c.in-Some.is) ∙ c.line_at.ensures cube known)

pub returns-in-None : goal.returns-in-None
returns-in-None c = λ cube known. ap (λ o. option_map_or (λ (y : Line). y.results) o []) (sym (ap option_copied c.in-None.is) ∙ c.line_at.ensures cube known)
