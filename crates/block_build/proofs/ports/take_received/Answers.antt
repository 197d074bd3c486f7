-- The port of the NEXT_HOP is taken before the others, and stays taken.
use Rattle.std.proofs.Common.{◌≡◌, true, subst}
use Rattle.net_types.specs.declared.headers.Loc.{Loc}
use Rattle.net_types.specs.declared.headers.Loc.TheVariants.{Out}
use Rattle.block_build.proofs.TakenLemmas.{lines-received, received-go}
use Rattle.block_build.specs.Ports.{AreTaken, is_taken}
use Rattle.block_build.proofs.ports.take_received.Goals as goal

pub returns-clause-taken : goal.returns-clause-taken
returns-clause-taken c =
    let ports = c.take_lines.new.ports in
    let hop = c.args.hop in
    let taken = c.in_ok-take_lines.ensures.taken in
    lines-received (AreTaken ports) hop c.args.lines.now
    (λ y stands. received-go (λ (loc : Loc). is_taken ports loc ≡ true) hop y.results
    (c.in_ok-take_lines.ensures.kept (Out hop) c.in_ok-take.ensures.taken)
    (λ i in-y port goes. subst (λ (loc : Loc). is_taken ports loc ≡ true) goes (taken y stands i in-y)))
