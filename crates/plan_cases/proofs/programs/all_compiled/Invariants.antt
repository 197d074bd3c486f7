-- The classifiers so far are those of the first texts.
use Rattle.std.proofs.Common.{take}
use Rattle.registry.specs.Registered.{named}
use Rattle.plan_cases.specs.Policies.{AreCompiled}
use Rattle.plan_cases.proofs.programs.all_compiled.Given as goal

abbrev pub invariant-loop-texts : goal.invariant-loop-texts
invariant-loop-texts l = AreCompiled (named l.names) (take l.texts-index l.all) l.programs.items
