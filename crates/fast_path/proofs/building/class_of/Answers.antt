-- A search in rising tags finds the class of the tag.
use Rattle.std.proofs.Common.{rules}
use Rattle.std.proofs.lemmas.Fn.{always_returns_same}
use Rattle.fast_path.proofs.ClassSearch.{class_absent, class_at}
use Rattle.fast_path.specs.declared.planned.Class.{Class}
use Rattle.fast_path.proofs.building.class_of.Goals as goal

pub returns-in-Ok : goal.returns-in-Ok
returns-in-Ok c =
    let by_key = c.in-Ok.ensures.position (λ (x : Class). x.tag) (always_returns_same _ _ _ (λ a r f called. search rules)) in
    class_at c.args.fresh.now c.args.tag c.in-Ok.at c.index-fresh-at.result c.requires c.in-Ok.ensures.bound by_key c.index-fresh-at.is

pub returns-in-Err : goal.returns-in-Err
returns-in-Err c =
    let by_key = c.in-Err.ensures.position (λ (x : Class). x.tag) (always_returns_same _ _ _ (λ a r f called. search rules)) in
    class_absent c.args.fresh.now c.args.tag c.in-Err.field-0 c.requires by_key
