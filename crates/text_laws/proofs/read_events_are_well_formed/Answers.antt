use Rattle.text_laws.proofs.ReadEvents.{read_events_are_well_formed}
use Rattle.text_laws.proofs.read_events_are_well_formed.Goals as goal

pub returns : goal.returns
returns c = read_events_are_well_formed
