-- The classifier of a sum.
use Rattle.classifier.specs.declared.classifier.Classifier.{Classifier}
use Rattle.policy_compile.specs.declared.sums.Sum.{Sum}
use Rattle.policy_compile.specs.declared.sums.Sum.TheVariants.{Few, Many}

-- the classifier, with numbers or without
abbrev pub whole_of : Sum → Classifier
whole_of (Few whole) = whole
whole_of (Many numbered) = numbered.whole
