-- One more cube is there.
use Rattle.std.proofs.Common.{IfSome, arith, sym, subst}
use Rattle.std.proofs.lemmas.List.{take_all}
use Rattle.net_types.specs.Sets.{Member}
use Rattle.net_types.specs.declared.cube.Cube.{Cube}
use Rattle.block_build.proofs.BoundLemmas.{Member-got}
use Rattle.block_build.proofs.ClosedLemmas.{each_more}
use Rattle.block_build.proofs.cutting.add_each.Goals as goal

pub returns-in_err-left-clause-meets : goal.returns-in_err-left-clause-meets
returns-in_err-left-clause-meets c = λ among before atoms.
    let stands = Member-got c.args.atoms.now c.loop-atom.atom-index c.atom-item.result c.loop-atom-test.true c.atom-item.is in
    c.add_one.ensures.meets among (c.loop-atom.invariant.meets among before atoms) (atoms c.atom-item.result stands)

pub returns-in-None-clause-meets : goal.returns-in-None-clause-meets
returns-in-None-clause-meets c = λ among before atoms.
    let stands = Member-got c.args.atoms.now c.loop-atom.atom-index c.atom-item.result c.loop-atom-test.true c.atom-item.is in
    c.add_one.ensures.meets among (c.loop-atom.invariant.meets among before atoms) (atoms c.atom-item.result stands)

pub loop-atom-preserved : goal.loop-atom-preserved
loop-atom-preserved c =
    let stands = Member-got c.args.atoms.now c.loop-atom.atom-index c.atom-item.result c.loop-atom-test.true c.atom-item.is in
    record {
      there = each_more (λ (d : Cube). Member d c.add_one.new.cells) c.args.atoms.now c.loop-atom.atom-index c.atom-item.result c.loop-atom-test.true c.atom-item.is
          (λ d k. c.add_one.ensures.kept d (c.loop-atom.invariant.there d k)) (subst (λ o. IfSome o (λ _. Member c.atom-item.result c.add_one.new.cells)) c.in-Some.is c.in_ok-left.ensures.there);
      meets = λ among before atoms. c.add_one.ensures.meets among (c.loop-atom.invariant.meets among before atoms) (atoms c.atom-item.result stands);
    }

pub returns-clause-there : goal.returns-clause-there
returns-clause-there c = λ _ d k.
    c.loop-atom.invariant.there d (subst (Member d) (sym (take_all c.loop-atom.atom-index c.args.atoms.now (omega (arith, c.loop-atom-test.false)))) k)
