-- The place that the search answers.
use Rattle.std.proofs.Common.{◌+◌, subst, sym, take}
use Rattle.std.specs.Prelude.{true, false}
use Rattle.ordered_map.specs.Parted.{IsParted}
use Rattle.ordered_map.proofs.PartLemmas.{all_after, found_parts, between_parts, places_rise}
use Rattle.ordered_map.proofs.keys.part.Goals as goal

pub returns-in-Ok : goal.returns-in-Ok
returns-in-Ok g c =
    let keys = c.args.keys.now in
    subst (IsParted g.K.Ord.cmp c.args.key.now keys (take c.in-Ok.place keys) true) (sym (all_after keys (c.in-Ok.place + 1)))
    (found_parts g.K.Ord.cmp g.met.K.Ord.total c.args.key.now keys c.in-Ok.place c.requires c.in-Ok.ensures.bound c.in-Ok.ensures.ok)

pub returns-in-Err : goal.returns-in-Err
returns-in-Err g c =
    let keys = c.args.keys.now in
    subst (IsParted g.K.Ord.cmp c.args.key.now keys (take c.in-Err.place keys) false) (sym (all_after keys c.in-Err.place))
    (between_parts g.K.Ord.cmp g.met.K.Ord.total c.args.key.now keys c.in-Err.place c.requires c.in-Err.ensures.bound (c.in-Err.ensures.position (places_rise g.K.Ord.cmp g.met.K.Ord.total c.args.key.now keys c.requires)))
