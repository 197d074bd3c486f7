use Rattle.std.proofs.Common.{List, [], arith, ap, subst, sym, length, replicate, ◌≡◌, ◌≤◌, ◌∙◌}
use Rattle.std.specs.FinMap.{FinMap, empty}
use Rattle.events.specs.declared.Entry.{Entry}
use Rattle.net_types.specs.Keys.{prefix_cmp}
use Rattle.net_types.specs.declared.address.Ip.{Ip}
use Rattle.net_types.specs.declared.address.Pid.{Pid}
use Rattle.plan_cases.proofs.Starts.{start_kept}
use Rattle.plan_cases.proofs.parts.Parts.new.Goals as goal

abbrev nobody : List Pid
nobody = []

abbrev nothing : FinMap prefix_cmp Entry
nothing = empty

pub invariant_of-result : goal.invariant_of-result
invariant_of-result c =
    let names = c.in_ok-registry.registry in
    let base : Ip = record { 0 = 2886729728 } in
    let there : length c.participants-there.result.now ≡ length names.participants = ap length c.participants-there.ensures.all in
    let room : c.new-3.result.capacity ≤ 1000000 = subst (λ n. n ≤ 1000000) (sym c.new-3.ensures.capacity) c.requires.room in
    start_kept names c.in_ok-server.server c.new-2.result base c.args.size c.in_ok-adverts.adverts.told c.new-3.result c.in_ok-policies.policies.items c.in_ok-registry.ensures c.in_ok-policies.ensures c.in_ok-server.ensures.routes
    (c.in_ok-server.ensures.named ∙ ap (λ n. replicate n nobody) there) c.new-2.ensures.tag c.new-2.ensures.kept (c.in_ok-adverts.ensures.told ∙ ap (λ n. replicate n nothing) there) c.new-3.ensures.table
    c.requires.few (omega arith) (let few = c.requires.few in omega (arith, few)) room c.in_ok-pool.pool c.in_ok-pool.ensures c.in_ok-adverts.adverts.present (c.in_ok-adverts.ensures.present ∙ ap (λ n. replicate n nothing) there)
