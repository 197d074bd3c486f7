-- The canonical message spells the update.
use Rattle.std.proofs.Common.{◌≡◌, ℕ, List, rules, subst, sym}
use Rattle.net_types.specs.UpdateSpelling.{Spells}
use Rattle.net_types.specs.Updates.{canonical}
use Rattle.bgp_update.proofs.ReadBack.{reads_back}
use Rattle.bgp_update.proofs.messages.encode.Goals as goal

pub returns-clause-reads_back : goal.returns-clause-reads_back
returns-clause-reads_back c =
    let is : c.in_ok-message.message.items ≡ canonical c.args.update.now = search rules in
    λ s. subst (λ (t : List ℕ). Spells t c.args.update.now) (sym is) (reads_back c.args.update.now s c.optional_fit.ensures c.requires.short)
