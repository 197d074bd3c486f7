use Rattle.std.proofs.Common.{ap, map, sym, ◌∙◌}
use Rattle.events.specs.Table.{frame_cmp}
use Rattle.events.specs.declared.Frame.{Frame}
use Rattle.net_types.proofs.ValueLemmas.{no_entries}
use Rattle.match_switch.proofs.switch.Switch.forward.Goals as goal

-- a frame without headers leaves nowhere
pub returns-in-None : goal.returns-in-None
returns-in-None c =
    rw (sym c.headers.ensures ∙ c.in-None.is)
    (c.new.ensures ∙ sym (ap (map (λ (e : Frame × Frame). e.0)) (no_entries Frame Frame frame_cmp)))
