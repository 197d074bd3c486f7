use Rattle.std.proofs.Common.{[], length, sym, subst}
use Rattle.std.proofs.lemmas.List.{append-nil}
use Rattle.net_types.specs.Meets.{meets}
use Rattle.policy_compile.specs.Sets.{IsUpTo, IsCount}
use Rattle.policy_compile.proofs.CountLemmas.{counted_all}
use Rattle.policy_compile.proofs.meets.count_of.Goals as goal

pub returns : goal.returns
returns c =
    let limit = c.args.limit in
    let cubes = c.args.cubes.now in
    let keys = c.push_cubes.new.kept.keys in
    let all = subst (λ xs. IsUpTo limit keys (meets xs)) (append-nil cubes) (c.in_ok-push_cubes.ensures [] c.in_ok-kept.ensures) in
    subst (IsCount limit (length (meets cubes))) (sym c.len.ensures.len) (counted_all limit keys cubes all)
