-- The next tag is placed with what is kept for it.
use Rattle.std.proofs.Common.{refl, subst, sym}
use Rattle.std.specs.FinMap.{get}
use Rattle.std.specs.Prelude.{None}
use Rattle.class_cases.proofs.PlacedTags.{ArePlaced, next_placed, none_placed}
use Rattle.class_cases.proofs.classes.place_all.Goals as goal

pub loop-tag-init : goal.loop-tag-init
loop-tag-init g c = subst (ArePlaced c.args.classes.now.tag c.args.classes.now.kept None) (sym c.new-grouping.ensures) (none_placed c.args.classes.now.tag c.args.classes.now.kept)

pub loop-tag-preserved : goal.loop-tag-preserved
loop-tag-preserved g c =
    let classes = c.args.classes.now in
    next_placed classes.tag classes.kept c.loop-tag.last c.in-Some.tag c.in-Some.ensures.next (get classes.kept c.in-Some.tag) refl c.in_ok-place.ensures.kept c.loop-tag.grouping c.place.new.grouping c.in_ok-place.ensures.placed c.loop-tag.invariant
