-- Nothing else is noted.
use Rattle.std.proofs.Common.{subst}
use Rattle.net_types.specs.Sets.{Member}
use Rattle.policy_compile.proofs.MemoLemmas.{member_pushed}
use Rattle.policy_compile.proofs.memo.Memo.note.Goals as goal

pub returns-in_err-push-2 : goal.returns-in_err-push-2
returns-in_err-push-2 g c e m = member_pushed c.args.self.now.noted.items _ e (subst (Member e) c.in_ok-push.ensures.items m)

pub returns : goal.returns
returns g c e m = member_pushed c.args.self.now.noted.items _ e (subst (Member e) c.in_ok-push.ensures.items m)
