use Rattle.advert_queue.proofs.SessionLemmas.{none_kept}
use Rattle.advert_queue.proofs.session.Session.new.Goals as goal

pub invariant_of-result : goal.invariant_of-result
invariant_of-result c = none_kept c.new.result c.new-2.result c.new-3.result c.new.ensures c.new-2.ensures.items c.new-3.ensures.items
