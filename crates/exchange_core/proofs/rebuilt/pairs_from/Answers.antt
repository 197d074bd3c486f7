use Rattle.std.proofs.Common.{◌≡◌, ◌++◌, List, ap, ◌∙◌, sym, filter}
use Rattle.std.specs.FinMap.{keys}
use Rattle.std.proofs.lemmas.List.{append-nil, drop_all}
use Rattle.net_types.specs.Keys.{pair_cmp}
use Rattle.net_types.specs.Maps.{ordered}
use Rattle.net_types.specs.Sets.{union_over}
use Rattle.net_types.specs.declared.address.PortNo.{PortNo}
use Rattle.net_types.specs.declared.rule.Pair.{Pair}
use Rattle.exchange_core.proofs.PortPairs.{theirs_are}
use Rattle.exchange_core.specs.Rebuilt.{is_at}
use Rattle.exchange_core.proofs.rebuilt.pairs_from.Goals as goal

pub returns : goal.returns
returns c =
    let ks = keys c.args.switch.now.table in
    let own : PortNo → List Pair = λ port. filter (is_at port) ks in
    let ports = c.ports_of-ports.result.now in
    let pairs = c.loop-port.pairs.items in
    let all : pairs ≡ union_over own ports =
    sym (append-nil pairs) ∙ sym (ap (λ xs. pairs ++ union_over own xs) (drop_all c.loop-port.port-index ports c.loop-port-test.false)) ∙ c.loop-port.invariant in
    c.ascending.ensures ∙ ap (ordered pair_cmp) (all ∙ ap (union_over own) c.ports_of-ports.ensures)
    ∙ theirs_are c.args.switch.now.table c.args.names.now c.args.who c.requires.apart
