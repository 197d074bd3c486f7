-- Reading is exact, and a message has one value.
use Rattle.std.proofs.Common.{arith}
use Rattle.bgp_update.proofs.Decoded.{fault_said, found_said, only_said, refused_said, sound_said, spells_said}
use Rattle.bgp_update.proofs.ReadAsSpelled.{answer_said, cause_said}
use Rattle.bgp_update.proofs.ShortReading.{hops_counted, short_said}
use Rattle.bgp_update.proofs.SoundReading.{by_places, form_said}
use Rattle.bgp_update.proofs.decoding.decode.Goals as goal

pub returns-clause-spells : goal.returns-clause-spells
returns-clause-spells c = spells_said c.args.bytes.now c.read.result c.read.ensures

pub returns-clause-only : goal.returns-clause-only
returns-clause-only c = only_said c.args.bytes.now c.read.result c.read.ensures

pub returns-clause-sound : goal.returns-clause-sound
returns-clause-sound c = sound_said c.args.bytes.now c.read.result c.read.ensures

pub returns-clause-fault : goal.returns-clause-fault
returns-clause-fault c = fault_said c.args.bytes.now c.read.result c.read.ensures

pub returns-clause-refused : goal.returns-clause-refused
returns-clause-refused c = refused_said c.args.bytes.now c.read.result c.read.ensures

pub returns-clause-found : goal.returns-clause-found
returns-clause-found c = found_said c.args.bytes.now c.read.result c.read.ensures

pub returns-clause-value : goal.returns-clause-value
returns-clause-value c = answer_said c.args.bytes.now c.read.result c.read.ensures

pub returns-clause-cause : goal.returns-clause-cause
returns-clause-cause c = cause_said c.args.bytes.now c.read.result c.read.ensures

pub returns-clause-form : goal.returns-clause-form
returns-clause-form c = form_said c.args.bytes.now c.read.result (by_places c.args.bytes.now (λ k. omega (arith, c.type_inv.bytes k))) c.read.ensures

pub returns-clause-short : goal.returns-clause-short
returns-clause-short c = short_said c.args.bytes.now c.read.result (by_places c.args.bytes.now (λ k. omega (arith, c.type_inv.bytes k))) c.read.ensures

pub returns-clause-hops : goal.returns-clause-hops
returns-clause-hops c = hops_counted c.args.bytes.now c.read.result (by_places c.args.bytes.now (λ k. omega (arith, c.type_inv.bytes k))) c.read.ensures
