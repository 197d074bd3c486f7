use Rattle.std.proofs.Common.{◌≡◌, ◌+◌, ◌-◌, sym, subst, arith}
use Rattle.prefix_map.specs.Tables.{all_entries, AreShort}
use Rattle.prefix_map.proofs.CoverLemmas.{none_short}
use Rattle.prefix_map.proofs.table.Table.longest_short.Goals as goal

pub covering-requires-clause-len : goal.covering-requires-clause-len
covering-requires-clause-len g c = let least = c.loop-len.invariant.0 in let some = c.loop-len-test.true in omega (arith, least, some)

pub covering-requires-clause-short : goal.covering-requires-clause-short
covering-requires-clause-short g c =
    let some = c.loop-len-test.true in
    let same : c.loop-len.len ≡ c.loop-len.len - 1 + 1 = omega (arith, some) in
    subst (λ n. AreShort n c.args.ip (all_entries c.args.self.now.parts.items)) same c.loop-len.invariant.1

pub returns : goal.returns
returns g c =
    let none = c.loop-len-test.false in
    let zero : c.loop-len.len ≡ 0 = omega (arith, none) in
    sym (none_short c.args.ip (all_entries c.args.self.now.parts.items) (subst (λ n. AreShort n c.args.ip (all_entries c.args.self.now.parts.items)) zero c.loop-len.invariant.1))
