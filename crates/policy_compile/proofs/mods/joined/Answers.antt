use Rattle.std.proofs.Common.{◌++◌, ap, ◌∙◌}
use Rattle.net_types.proofs.SetLemmas
use Rattle.policy_compile.specs.Sets.{adds, same_fields, assign_of, assigns_of}
use Rattle.policy_compile.proofs.SetsLemmas.{fields-same}
use Rattle.policy_compile.proofs.ModsLemmas.{few-of}
use Rattle.policy_compile.proofs.mods.joined.Goals as goal

pub returns : goal.returns
returns c =
    let ks = c.args.first.keys in
    let ls = c.args.second.now.keys in
    few-of c.few.result c.push_all.new.set.keys (assigns_of ks ++ assigns_of ls)
    (SetLemmas.same_trans (SetLemmas.same_map assign_of (SetLemmas.same_trans (SetLemmas.same_eq (c.in_ok-push_all.ensures ∙ ap (adds same_fields ks) c.as_slice.ensures.keys)) (fields-same ks ls))) (SetLemmas.same_eq (SetLemmas.map-append assign_of ks ls))) c.few.ensures
