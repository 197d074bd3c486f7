use Rattle.std.proofs.Common.{length, subst, sym}
use Rattle.fast_path.specs.Offers.{AreTo}
use Rattle.job_end.proofs.committing.reserve_end.Goals as goal

pub reserve_all-requires-clause-known : goal.reserve_all-requires-clause-known
reserve_all-requires-clause-known c = subst (AreTo (length c.args.adverts.now.told)) (sym c.deref.ensures.value) c.requires.known
