-- One that has no place was told nothing.
use Rattle.std.proofs.Common.{◌≤◌, length, sym, ap, subst, ◌∙◌}
use Rattle.std.specs.Prelude.{unwrap_or}
use Rattle.std.specs.FinMap.{empty}
use Rattle.std.proofs.lemmas.Option.{slice_get_past}
use Rattle.events.specs.Tags.{tells}
use Rattle.fast_path.proofs.Loops.{nothing_told}
use Rattle.fast_path.proofs.pairs.was_told.Goals as goal

pub returns-else-who-len : goal.returns-else-who-len
returns-else-who-len c =
    let past : length c.args.adverts.now.told ≤ c.args.who.0 = subst (λ n. n ≤ c.args.who.0) c.len.ensures.told c.if-who-len.false in
    sym (ap (λ o. tells (unwrap_or o empty) c.args.tag) (slice_get_past c.args.adverts.now.told c.args.who.0 past) ∙ nothing_told c.args.tag)
