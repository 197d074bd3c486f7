use Rattle.std.proofs.Common.{◌≤◌, ap, drop, arith, length, length-append, length-drop, rules}
use Rattle.std.specs.Fmt.{decimal}
use Rattle.std.proofs.lemmas.Fmt.{length-decimal-le}
use Rattle.replay_text.proofs.front.Front.octet.Goals as goal

pub write_digits-self-inside-requires : goal.write_digits-self-inside-requires
write_digits-self-inside-requires c =
    let few : length (decimal c.args.number) ≤ 3 = search (rules, length-decimal-le 3) in
    let behind = ap length c.self.view_is in
    let left = length-drop c.self.inside.from c.self.inside.octets in
    grind (arith, few, behind, left, c.requires, c.self.invariant)

pub returns-clause-room : goal.returns-clause-room
returns-clause-room c =
    let few : length (decimal c.from.result) ≤ 3 = search (rules, length-decimal-le 3) in
    let behind = ap length c.self.view_is in
    omega (arith, few, behind, ap length c.write_digits-self-inside.ensures.written, length-append (decimal c.from.result) (drop c.self.inside.from c.self.inside.octets))
