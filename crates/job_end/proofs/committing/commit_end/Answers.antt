use Rattle.std.proofs.Common.{sym, subst}
use Rattle.fast_path.specs.Committing.{AreUnused}
use Rattle.job_end.proofs.committing.commit_end.Goals as goal

pub forget_all-requires : goal.forget_all-requires
forget_all-requires g c = subst (AreUnused c.merge.new.self.tag) (sym c.deref.ensures.value) (subst (λ m. AreUnused m c.args.end.dead.items) (sym c.merge.ensures.tag) c.requires.unused)
