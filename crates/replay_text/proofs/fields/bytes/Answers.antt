use Rattle.std.proofs.Common.{arith}
use Rattle.std.proofs.lemmas.Grind.{common_steps}
use Rattle.replay_text.proofs.HexFields.{bytes-decode}
use Rattle.replay_text.proofs.fields.bytes.Goals as goal

pub returns-in-Ok : goal.returns-in-Ok
returns-in-Ok c = let is = bytes-decode c.args.text.now in grind (arith, common_steps, is)

pub returns-in-Ok-2 : goal.returns-in-Ok-2
returns-in-Ok-2 c = let is = bytes-decode c.args.text.now in grind (arith, common_steps, is)

pub returns-in-Err : goal.returns-in-Err
returns-in-Err c = let is = bytes-decode c.args.text.now in grind (arith, common_steps, is)
