use Rattle.exchange_laws.proofs.Parts.{signature_whole}
use Rattle.exchange_laws.proofs.whole.signatures_are_whole.Goals as goal

pub returns : goal.returns
returns c = signature_whole
