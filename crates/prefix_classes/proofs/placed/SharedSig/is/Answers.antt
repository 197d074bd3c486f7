-- What ties in the order of signatures is one signature.
use Rattle.std.proofs.Common.{sym, ap, ◌∙◌}
use Rattle.std.specs.Ordering.{is_eq}
use Rattle.net_types.proofs.TieLemmas.{same_from_tie}
use Rattle.prefix_classes.proofs.PlacedLemmas.{sig_cmp-IsAntisymmetric}
use Rattle.prefix_classes.specs.Placed.{sig_cmp}
use Rattle.prefix_classes.proofs.placed.SharedSig.is.Goals as goal

pub returns : goal.returns
returns c = λ yes. same_from_tie sig_cmp sig_cmp-IsAntisymmetric c.args.self.now c.args.sig.now
    (sym (c.is_eq.ensures ∙ ap is_eq c.rank_items.ensures ∙ (λ i. is_eq (sig_cmp (c.parts.ensures i) (c.items.ensures i)))) ∙ yes)
