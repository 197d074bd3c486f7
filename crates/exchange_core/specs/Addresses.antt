-- The addresses of a set, which is a map without values (this exchange's own rule).
use Rattle.std.specs.Prelude.{List, map}
use Rattle.net_types.specs.declared.address.Ip.{Ip}

-- the addresses, in the order of the entries
abbrev pub addresses_in : List (Ip × Unit {0}) → List Ip
addresses_in es = map (λ e. e.0) es
