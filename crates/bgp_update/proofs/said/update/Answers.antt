-- The parts are joined as the value says.
use Rattle.std.proofs.Common.{List, subst, sym}
use Rattle.net_types.specs.UpdateSpelling.{IsOrderedWithout, is_before}
use Rattle.net_types.specs.declared.prefix.Prefix.{Prefix}
use Rattle.bgp_update.proofs.Finished.{finished_err, finished_ok, given_at}
use Rattle.bgp_update.proofs.PrefixLists.{in_order}
use Rattle.net_types.specs.Sets.{IsRising}
use Rattle.bgp_update.proofs.said.update.Goals as goal

pub without-requires : goal.without-requires
without-requires c = subst (λ (ps : List Prefix). IsRising is_before ps) (sym c.as_slice.ensures.value) (in_order c.args.announced.items _ c.ascending-announced.ensures).rising

pub returns-in-Ok : goal.returns-in-Ok
returns-in-Ok c =
    let ow = subst (λ (ps : List Prefix). IsOrderedWithout c.without.result.items c.args.withdrawn.items ps) c.as_slice.ensures.value c.without.ensures in
    let given = given_at _ _ _ _ _ _ c.in_ok-said.ensures c.as_slice-2.ensures.value c.in-Ok.is c.attrs.ensures in
    rw (c.from_vec-withdrawn.ensures, c.from_vec.ensures)
    (finished_ok c.args.withdrawn.items c.args.attributes.items c.args.announced.items c.without.result.items c.ascending-announced.result.items c.requires (in_order c.args.announced.items _ c.ascending-announced.ensures) ow c.in-Ok.attrs given)

pub returns-in-Err : goal.returns-in-Err
returns-in-Err c =
    let ow = subst (λ (ps : List Prefix). IsOrderedWithout c.without.result.items c.args.withdrawn.items ps) c.as_slice.ensures.value c.without.ensures in
    let given = given_at _ _ _ _ _ _ c.in_ok-said.ensures c.as_slice-2.ensures.value c.in-Err.is c.attrs.ensures in
    finished_err c.args.withdrawn.items c.args.attributes.items c.args.announced.items c.without.result.items c.ascending-announced.result.items c.requires (in_order c.args.announced.items _ c.ascending-announced.ensures) ow c.in-Err.fault given
