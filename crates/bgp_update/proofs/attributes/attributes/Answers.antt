-- What is read has types of its own.
use Rattle.std.proofs.Common.{ℕ, List, Result, Ok, Err}
use Rattle.std.specs.Prelude.{IfOk}
use Rattle.std.proofs.Common.{Vec, Global}
use Rattle.net_types.specs.UpdateFormat.{no_types}
use Rattle.net_types.specs.declared.attribute.Attribute.{Attribute}
use Rattle.bgp_update.proofs.NewTypes.{read_new}
use Rattle.bgp_update.specs.Answers.{AreNew, Gives}
use Rattle.net_types.specs.UpdateReading.{read_attributes}
use Rattle.bgp_update.specs.declared.fault.UpdateFault.{UpdateFault}
use Rattle.bgp_update.proofs.attributes.attributes.Goals as goal

new : (s : List ℕ) (r : Result (Vec Attribute Global) UpdateFault) → Gives (λ v. v.items) r (read_attributes s) → IfOk r (λ v. AreNew no_types v.items)
new s (Ok v) e = read_new s v.items e
new s (Err e) h = tt

pub returns-clause-new : goal.returns-clause-new
returns-clause-new c = new c.args.octets.now c.block.result c.block.ensures
