use Rattle.classifier.proofs.SumLemmas.{sum-halves}
use Rattle.policy_compile.specs.Summed.{whole_of}
use Rattle.policy_compile.proofs.sums.+sum_of.Goals as goal

pub returns : goal.returns
returns t c =
    let f = c.in_ok-all.ensures in
    sum-halves _ c.args.parts.now c.split_at.result.0.now c.split_at.result.1.now (whole_of c.in_ok-left.left) (whole_of c.in_ok-right.right) (whole_of c.in_ok-all.all)
    c.split_at.ensures.front c.split_at.ensures.back c.in_ok-left.ensures c.in_ok-right.ensures f.union f.cubes f.assigns
