use Rattle.std.proofs.Common.{ap, ◌∙◌}
use Rattle.std.specs.Prelude.{slice_set}
use Rattle.ordered_map.proofs.RunLemmas.{value_changed}
use Rattle.ordered_map.proofs.run.change_value.Goals as goal

pub returns-clause-entries : goal.returns-clause-entries
returns-clause-entries g c = λ before e after whole at.
    ap (λ v. slice_set c.args.entries.now.items c.args.place (c.index_mut.result.now.0, v)) c.change.ensures
    ∙ value_changed c.args.entries.now.items c.args.place c.index_mut.result.now c.index_mut.ensures.value (g.C.Change.changed c.args.change.now) before e after whole at
