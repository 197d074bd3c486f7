use Rattle.run_laws.proofs.Fitting.{adverts_fit_messages}
use Rattle.run_laws.proofs.adverts_fit_messages.Goals as goal

pub returns : goal.returns
returns c = adverts_fit_messages
