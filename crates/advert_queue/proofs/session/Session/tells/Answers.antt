use Rattle.std.proofs.Common.{ap, ◌∙◌}
use Rattle.std.specs.Prelude.{nat_eq, not}
use Rattle.events.specs.Tags.{tells}
use Rattle.advert_queue.proofs.CountLemmas.{told_number}
use Rattle.advert_queue.specs.Counts.{number}
use Rattle.advert_queue.specs.Kept.{Queued}
use Rattle.advert_queue.specs.declared.counts.Side.TheVariants.{Told}
use Rattle.advert_queue.proofs.session.Session.tells.Goals as goal

pub returns : goal.returns
returns c =
    ap (λ u. not (nat_eq (number Told u) 0)) c.uses_of.ensures
    ∙ told_number _ Told _ c.args.tag (c.self.invariant.tellable.counts.counts Told c.args.tag) ∙ ap (λ (q : Queued). tells q.told c.args.tag) c.self.view_is
