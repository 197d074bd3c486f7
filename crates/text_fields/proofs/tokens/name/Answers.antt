use Rattle.std.proofs.Common.{sym, ◌∙◌, subst}
use Rattle.std.specs.Str.{IsUtf8}
use Rattle.grammar.proofs.TokenLoops.{name_utf8}
use Rattle.text_fields.proofs.tokens.name.Goals as goal

pub unreachable-requires : goal.unreachable-requires
unreachable-requires c =
    c.in-Err.ensures.cases.0 (subst IsUtf8 (sym c.split_at.ensures.front)
    (name_utf8 c.args.rest.now c.name_len.result c.in-len1-up.len_at_least (sym c.is_letter.ensures ∙ c.if-is_letter.true) c.name_len.ensures.len))
