use Rattle.std.proofs.Common.{◌∙◌}
use Rattle.replay_text.proofs.Utf8.{told_by}
use Rattle.replay_text.proofs.fields.is_utf8.Goals as goal

pub returns : goal.returns
returns c = c.is_ok.ensures.value ∙ told_by c.args.text.now c.from_utf8.result _ _ c.from_utf8.ensures.cases
