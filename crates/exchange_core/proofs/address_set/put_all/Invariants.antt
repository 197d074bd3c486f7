use Rattle.std.proofs.Common.{◌≡◌, true, ◌+◌, ◌≤◌, ◌++◌, take, length}
use Rattle.std.specs.FinMap.Entries.{is_sorted}
use Rattle.net_types.specs.Keys.{ip_cmp}
use Rattle.net_types.specs.Maps.{ordered}
use Rattle.exchange_core.specs.Addresses.{addresses_in}
use Rattle.exchange_core.proofs.address_set.put_all.Given as goal

-- those so far are in, and there is room for the rest
abbrev pub invariant-loop-ip : goal.invariant-loop-ip
invariant-loop-ip l = record {
  rising : is_sorted ip_cmp l.addresses.items ≡ true;
  items : addresses_in l.addresses.items ≡ ordered ip_cmp (addresses_in l.fn.addresses.items ++ take l.ip-index l.ips);
  room : length l.ips ≤ l.addresses.room + l.ip-index;
}
