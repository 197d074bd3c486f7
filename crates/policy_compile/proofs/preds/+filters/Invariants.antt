use Rattle.std.proofs.Common.{◌+◌, ◌*◌}
use Rattle.policy_syntax.specs.Views.{pred_of}
use Rattle.policy_compile.specs.Measures.{pred_size}
use Rattle.policy_compile.proofs.preds.+filters.Given as goal

abbrev pub decreases-compile_pred : goal.decreases-compile_pred
decreases-compile_pred l = 3 * pred_size (pred_of l.pred.now)

abbrev pub decreases-filters_of : goal.decreases-filters_of
decreases-filters_of l = 3 * pred_size (pred_of l.pred.now) + 1

abbrev pub decreases-filters_of_both : goal.decreases-filters_of_both
decreases-filters_of_both l = 3 * (pred_size (pred_of l.first.now) + pred_size (pred_of l.second.now)) + 2
