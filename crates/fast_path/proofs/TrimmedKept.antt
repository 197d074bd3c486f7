-- The signatures that are kept, trimmed one by one, are those that are known by whom a policy names.
use Rattle.std.proofs.Common.{◌≡◌, List, sym, ◌∙◌}
use Rattle.std.specs.Prelude.{Some}
use Rattle.std.specs.FinMap.{FinMap, get, same_map}
use Rattle.std.specs.Option.{option_map}
use Rattle.net_types.proofs.OrderLemmas.{tags_total}
use Rattle.net_types.proofs.TieLemmas.{tag_cmp-IsAntisymmetric}
use Rattle.net_types.specs.Keys.{tag_cmp}
use Rattle.net_types.specs.Signatures.{trimmed}
use Rattle.net_types.specs.declared.address.Pid.{Pid}
use Rattle.net_types.specs.declared.address.Tag.{Tag}
use Rattle.net_types.specs.declared.route.Part.{Part}
use Rattle.prefix_classes.specs.Classes.{Classes}
use Rattle.fast_path.proofs.KnownSignatures.{known_kept}
use Rattle.fast_path.specs.Grouping.{known_by}

pub trimmed_is : (c : Classes) (new : FinMap tag_cmp (List Part)) (who : Pid) (named : List Pid) → ((t : Tag) → get new t ≡ option_map (trimmed who named) (get c.kept t)) → new ≡ (known_by (Some (who, named)) c).kept
trimmed_is c new who named each = same_map tags_total tag_cmp-IsAntisymmetric new (known_by (Some (who, named)) c).kept (λ t. each t ∙ sym (known_kept (Some (who, named)) c t))
