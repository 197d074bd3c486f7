use Rattle.std.proofs.Common.{sym, ap, ◌∙◌}
use Rattle.std.specs.Prelude.{Some}
use Rattle.fast_path.proofs.TrimmedKept.{trimmed_is}
use Rattle.fast_path.specs.Grouping.{known_by}
use Rattle.fast_path.proofs.parts.trim_named.Goals as goal

pub returns-in-Some-clause-kept : goal.returns-in-Some-clause-kept
returns-in-Some-clause-kept c =
    trimmed_is c.args.classes.now c.trim.new.self.kept c.in-Some.who c.items.result.now c.trim.ensures.kept
    ∙ ap (λ pids. (known_by (Some (c.in-Some.who, pids)) c.args.classes.now).kept) c.items.ensures
    ∙ ap (λ named. (known_by named c.args.classes.now).kept) (sym c.in-Some.is)
