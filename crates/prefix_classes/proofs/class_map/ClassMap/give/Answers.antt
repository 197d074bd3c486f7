use Rattle.std.proofs.Common.{ap, ◌∙◌, arith}
use Rattle.std.specs.Prelude.{is_some}
use Rattle.std.specs.FinMap.{get}
use Rattle.prefix_classes.proofs.KeepLemmas.{kept_itself, given_more, room_for}
use Rattle.prefix_classes.proofs.class_map.ClassMap.give.Goals as goal

pub put-requires-clause-kept : goal.put-requires-clause-kept
put-requires-clause-kept c = ap (λ m. is_some (get m c.args.tag)) c.loop-prefix.invariant.1 ∙ kept_itself c.args.self.now.kept c.args.tag c.args.sig

pub put-requires-clause-room : goal.put-requires-clause-room
put-requires-clause-room c =
    let room = c.loop-prefix.invariant.2 in
    let enough = c.requires.prefixes in
    room_for c.args.members.now c.loop-prefix.prefix-index c.prefix-item.result _ c.args.tag c.loop-prefix.self.tag c.loop-prefix.self.prefixes c.loop-prefix-test.true c.prefix-item.is (omega (arith, room, enough))

pub loop-prefix-preserved : goal.loop-prefix-preserved
loop-prefix-preserved c =
    let it = given_more c.args.tag c.args.members.now c.loop-prefix.prefix-index c.prefix-item.result _ c.loop-prefix.self.tag c.put.new.self.tag c.loop-prefix-test.true c.prefix-item.is c.put.ensures.tag in (
      c.loop-prefix.invariant.0 ∙ it.0,
      c.put.ensures.kept ∙ c.loop-prefix.invariant.1,
      (let before = c.loop-prefix.invariant.2 in let after = c.put.ensures.prefixes in omega (arith, before, after, it.1)),
      c.put.ensures.tags ∙ c.loop-prefix.invariant.3,
    )
