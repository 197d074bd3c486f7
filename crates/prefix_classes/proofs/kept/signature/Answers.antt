-- Where a tag holds the signature of a slot, there is one.
use Rattle.std.proofs.Common.{sym, ap, subst, ◌∙◌, ℕ, ◌≤◌}
use Rattle.std.specs.Prelude.{option_copied}
use Rattle.prefix_classes.proofs.SlotLemmas.{held_there}
use Rattle.prefix_classes.specs.Slots.{is_at, tags_at}
use Rattle.prefix_classes.proofs.kept.signature.Goals as goal

pub unreachable-requires : goal.unreachable-requires
unreachable-requires c =
    held_there c.args.shared.now c.in-At.at (subst (λ held. (n : ℕ) → is_at n held ≤ tags_at c.args.shared.now n) c.in-At.is c.requires) (sym c.shared_at.ensures ∙ ap option_copied c.in-None.is)
