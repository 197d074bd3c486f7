use Rattle.std.proofs.Common.{map, ap, ◌∙◌}
use Rattle.classifier.specs.Classifiers.{lines_of}
use Rattle.classifier.specs.Meaning.{carried}
use Rattle.exchange_core.proofs.Compiled.{drops}
use Rattle.exchange_core.proofs.programs.dropping.Goals as goal

pub returns : goal.returns
returns c =
    let text = c.from_vec-text.ensures ∙ c.in_ok-from_slice.ensures.items ∙ c.as_bytes.ensures.value in record {
      text = text;
      compiled = drops c.from_vec-text.result (lines_of c.in_ok-classifier.classifier) text (λ h l. c.in_ok-classifier.ensures.all h l ∙ ap (map (carried h l)) c.new.ensures) c.in_ok-classifier.ensures.cubes;
    }
