-- What a map of entries has once there are news of a prefix.
use Rattle.std.proofs.Common.{◌≡◌, cond}
use Rattle.std.specs.Prelude.{Option, Some, None}
use Rattle.std.specs.FinMap.{FinMap, get, get-insert, get-remove}
use Rattle.std.specs.Ordering.{eq_by_cmp}
use Rattle.events.specs.Pending.{with_news}
use Rattle.events.specs.declared.Entry.{Entry}
use Rattle.net_types.proofs.OrderLemmas.{prefixes_total}
use Rattle.net_types.specs.Keys.{prefix_cmp}
use Rattle.net_types.specs.declared.prefix.Prefix.{Prefix}

-- of the prefix that, and of the others what it had
pub get-with_news : (m : FinMap prefix_cmp Entry) (p : Prefix) (o : Option Entry) (q : Prefix) → get (with_news m p o) q ≡ cond (eq_by_cmp prefix_cmp q p) o (get m q)
get-with_news m p None q = get-remove prefixes_total m p q
get-with_news m p (Some e) q = get-insert prefixes_total m p e q
