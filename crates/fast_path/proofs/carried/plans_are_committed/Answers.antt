use Rattle.fast_path.proofs.CommittedPlans.{can_commit, leads_on, offers_known}
use Rattle.fast_path.proofs.CommittedReplies.{line_committed}
use Rattle.fast_path.proofs.carried.plans_are_committed.Goals as goal

pub returns-clause-known : goal.returns-clause-known
returns-clause-known c = λ s r is_rebuilt plan is. offers_known s r is_rebuilt plan is.base is.alike is.planned

pub returns-clause-allowed : goal.returns-clause-allowed
returns-clause-allowed c = λ s r is_rebuilt plan classes pool switch adverts is parts room. can_commit s r is_rebuilt plan is.base is.alike is.planned classes pool switch adverts parts room

pub returns-clause-reached : goal.returns-clause-reached
returns-clause-reached c = λ s r is_rebuilt plan classes pool switch adverts is parts. leads_on s r is_rebuilt plan is.base is.alike is.planned classes pool switch adverts parts

pub returns-clause-replied : goal.returns-clause-replied
returns-clause-replied c = λ s e s0 r is_rebuilt plan is edit.
    line_committed s0 r is_rebuilt plan is.base is.alike is.planned (record {
      dropped = c.gone_pairs_are_dropped.ensures;
      added = c.new_pairs_are_added.ensures;
      some = c.right_rules_are_some.ensures;
      accepted = c.edits_are_accepted.ensures;
    }) s e edit
