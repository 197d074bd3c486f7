-- As many are lent as are declared.
use Rattle.std.proofs.Common.{◌<◌, sym, subst}
use Rattle.table_cases.proofs.OfferLemmas.{each_below}
use Rattle.table_cases.proofs.building.declared_blocks.Goals as goal

pub view-requires-clause-exporters : goal.view-requires-clause-exporters
view-requires-clause-exporters g c = λ offer m.
    subst (λ n. offer.exporter.0 < n) (sym c.in_ok-views.ensures) (each_below _ c.args.asked.now.part.offers c.requires.declared offer m)
