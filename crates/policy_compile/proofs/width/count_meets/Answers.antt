use Rattle.std.proofs.Common.{◌≡◌, length, ap, ◌∙◌, arith}
use Rattle.net_types.specs.Meets.{meets}
use Rattle.net_types.specs.Policies.{atoms}
use Rattle.policy_syntax.specs.Views.{policy_of}
use Rattle.policy_compile.proofs.AtomLemmas.{same_count}
use Rattle.policy_compile.proofs.width.count_meets.Goals as goal

pub returns-clause-few : goal.returns-clause-few
returns-clause-few c = λ few.
    let all = atoms (policy_of c.args.tree.now) in
    let e : length (meets c.as_slice.result.now) ≡ length (meets all) = ap (λ xs. length (meets xs)) c.as_slice.ensures.keys ∙ same_count c.in_ok-cubes.cubes.keys all c.in_ok-cubes.ensures in
    let counted = c.in_ok-count.ensures.few (omega (arith, few, e)) in
    c.capped.ensures.few (omega (arith, few, e, counted)) ∙ counted ∙ e

pub returns-clause-many : goal.returns-clause-many
returns-clause-many c = λ many.
    let all = atoms (policy_of c.args.tree.now) in
    let e : length (meets c.as_slice.result.now) ≡ length (meets all) = ap (λ xs. length (meets xs)) c.as_slice.ensures.keys ∙ same_count c.in_ok-cubes.cubes.keys all c.in_ok-cubes.ensures in
    c.capped.ensures.many (c.in_ok-count.ensures.many (omega (arith, many, e)))
