use Rattle.std.proofs.Common.{ap, ◌∙◌, ◌++◌, ◌∷◌, [], take, get_or, ◌+◌, arith}
use Rattle.std.specs.Prelude.{is_some}
use Rattle.std.proofs.lemmas.List.{take_more}
use Rattle.net_types.specs.Keys.{ip_cmp}
use Rattle.net_types.specs.Maps.{ordered}
use Rattle.net_types.specs.declared.address.Ip.{Ip}
use Rattle.exchange_core.specs.Addresses.{addresses_in}
use Rattle.exchange_core.proofs.AddressSets.{more_after, none_more, one_at_most, put_is}
use Rattle.exchange_core.proofs.address_set.put_all.Goals as goal

pub loop-ip-init : goal.loop-ip-init
loop-ip-init c = record {
  rising = c.requires.rising;
  items = none_more c.args.addresses.now.items c.requires.rising;
  room = omega (arith, c.requires.room);
}

pub loop-ip-preserved : goal.loop-ip-preserved
loop-ip-preserved c =
    let ips = c.args.ips.now in
    let i = c.loop-ip.ip-index in
    let ip : Ip = get_or ips i (record { 0 = 0 }) in record {
      rising = c.put.ensures.rising;
      items = put_is ip c.loop-ip.addresses.items c.put.new.self.items c.put.ensures.rising c.put.ensures.items ∙ ap (λ xs. ordered ip_cmp (xs ++ ip ∷ [])) c.loop-ip.invariant.items
          ∙ more_after (addresses_in c.args.addresses.now.items) (take i ips) (take (i + 1) ips) ip (take_more ips i (record { 0 = 0 }) c.loop-ip-test.true);
      room = omega (arith, c.loop-ip.invariant.room, c.put.ensures.room, one_at_most (is_some c.put.result));
    }
