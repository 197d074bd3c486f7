use Rattle.std.proofs.Common.{arith}
use Rattle.std.proofs.lemmas.Grind.{common_steps}
use Rattle.replay_text.proofs.HexFields.{one_octet-decode}
use Rattle.replay_text.proofs.fields.one_octet.Goals as goal

pub returns-in-Ok : goal.returns-in-Ok
returns-in-Ok c = let is = one_octet-decode c.args.text.now in grind (arith, common_steps, is)

pub returns-in-Err : goal.returns-in-Err
returns-in-Err c = let is = one_octet-decode c.args.text.now in grind (arith, common_steps, is)
