use Rattle.std.proofs.Common.{◌++◌, ap, ◌∙◌}
use Rattle.prefix_map.specs.Entries.{seen_entries}
use Rattle.prefix_map.specs.Parts.{entries_in}
use Rattle.prefix_map.proofs.MapLemmas.{entries_are}
use Rattle.prefix_map.proofs.map.PrefixMap.entries.Goals as goal

pub returns : goal.returns
returns g c =
    c.in_ok-gather.ensures
    ∙ ap (λ es. seen_entries es ++ entries_in c.self.inside.parts) c.in_ok-entries.ensures.items
    ∙ entries_are c.self.inside.parts c.self.invariant.whole c.args.self.now.map (ap (λ s. s.map) c.self.view_is)
