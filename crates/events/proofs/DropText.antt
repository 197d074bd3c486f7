-- The text `drop` is read as the policy that drops.
use Rattle.std.proofs.Common.{◌≡◌, refl}
use Rattle.std.specs.Prelude.{Ok, codes}
use Rattle.grammar.specs.Texts.{read_whole}
use Rattle.net_types.specs.Policies.{Drop}
use Rattle.net_types.specs.PolicyReading.{policy_of_text, read_atom, read_atom_from, read_chain, read_keyword, read_pluses, read_policy, read_start, read_thens}

pub drop_is_read : policy_of_text (codes "drop") ≡ Ok Drop
unfolding policy_of_text read_whole read_start read_policy read_chain read_atom read_atom_from read_keyword read_thens read_pluses
drop_is_read = refl
