-- One prefix is a list of one.
use Rattle.bgp_update.proofs.ReadBack.{one_announced, one_withdrawn}
use Rattle.bgp_update.proofs.laws.single_messages_are_canonical.Goals as goal

pub returns-clause-announcement : goal.returns-clause-announcement
returns-clause-announcement c = λ p a ip. one_announced p a ip

pub returns-clause-withdrawal : goal.returns-clause-withdrawal
returns-clause-withdrawal c = λ p. one_withdrawn p
