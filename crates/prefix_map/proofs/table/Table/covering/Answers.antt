use Rattle.std.proofs.Common.{◌≡◌, ◌+◌, suc, true, sym, ap, subst, ◌∙◌, arith}
use Rattle.std.specs.Option.{option_copied}
use Rattle.net_types.specs.Bits.{same_bits}
use Rattle.net_types.specs.Prefixes.{covers}
use Rattle.prefix_map.specs.Tables.{all_entries, AreShort}
use Rattle.prefix_map.proofs.CoverLemmas.{found_is_longest, unmarked_short, missing_short}
use Rattle.prefix_map.proofs.table.Table.covering.Goals as goal

pub returns-then-not-self-len-clause-none : goal.returns-then-not-self-len-clause-none
returns-then-not-self-len-clause-none g c = λ _. unmarked_short c.args.ip c.args.self.now.lengths c.args.len (all_entries c.args.self.now.parts.items) c.requires.table.marked c.if-not-self-len.true c.requires.short

pub returns-in_err-value-clause-none : goal.returns-in_err-value-clause-none
returns-in_err-value-clause-none g c = λ _.
    let here : covers c.in-Ok.at c.args.ip ≡ true = ap (λ n. same_bits n c.in-Ok.at.address.0 c.args.ip.0) c.in-Ok.ensures.len ∙ c.in-Ok.ensures.bits in
    missing_short c.args.ip c.in-Ok.at c.args.len (all_entries c.args.self.now.parts.items) c.in-Ok.ensures.len here (sym c.value.ensures ∙ ap option_copied c.in_err-value.was) c.requires.short

pub returns-clause-found : goal.returns-clause-found
returns-clause-found g c =
    let here : covers c.in-Ok.at c.args.ip ≡ true = ap (λ n. same_bits n c.in-Ok.at.address.0 c.args.ip.0) c.in-Ok.ensures.len ∙ c.in-Ok.ensures.bits in
    let more : c.args.len + 1 ≡ suc c.in-Ok.at.len = let same = c.in-Ok.ensures.len in omega (arith, same) in
    sym (found_is_longest c.args.ip c.in-Ok.at c.in_ok-value.value.now (all_entries c.args.self.now.parts.items) (sym c.value.ensures ∙ ap option_copied c.in_ok-value.was) here (subst (λ n. AreShort n c.args.ip (all_entries c.args.self.now.parts.items)) more c.requires.short))
