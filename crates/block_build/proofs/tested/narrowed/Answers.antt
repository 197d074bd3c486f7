-- The meet with one of the cubes is a meet of them.
use Rattle.std.proofs.Common.{sym, ◌∙◌}
use Rattle.net_types.proofs.MeetLemmas.{IsMeet-meet, IsMeet-member}
use Rattle.block_build.proofs.tested.narrowed.Goals as goal

pub returns-in-Some : goal.returns-in-Some
returns-in-Some c = λ tests meets stands.
    IsMeet-meet tests c.args.whole.now c.args.test.now c.in-Some.found meets (IsMeet-member tests c.args.test.now stands) (sym c.meet.ensures.value ∙ c.in-Some.is)
