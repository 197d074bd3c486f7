use Rattle.std.proofs.Common.{◌∙◌}
use Rattle.grammar.proofs.TokenLoops.{next_is_any}
use Rattle.text_fields.proofs.tokens.next_is.Goals as goal

pub returns-in-len1-up : goal.returns-in-len1-up
returns-in-len1-up c = c.is_among.ensures ∙ next_is_any c.args.octets.now c.args.rest.now c.in-len1-up.len_at_least
