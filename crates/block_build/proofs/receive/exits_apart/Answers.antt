-- Each leaves once.
use Rattle.std.proofs.Common.{◌++◌, List, [], ap, subst, sym, ◌∙◌}
use Rattle.net_types.specs.Sets.{HasNoRepeats}
use Rattle.classifier.specs.Items.{Item}
use Rattle.block_build.specs.Receivers.{add_exits}
use Rattle.block_build.proofs.ReceiveLemmas.{added-once}
use Rattle.block_build.proofs.receive.exits_apart.Goals as goal

pub from_vec-requires : goal.from_vec-requires
from_vec-requires c =
    let exits = add_exits c.args.hop [] c.args.results.now in
    subst HasNoRepeats (sym (c.in_ok-push_apart.ensures ∙ ap (λ (items : List Item). items ++ exits) c.in_ok-pairs.ensures.items)) (added-once c.args.hop c.args.results.now)
