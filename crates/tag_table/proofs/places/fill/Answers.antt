use Rattle.std.proofs.Common.{◌≡◌, ◌∷◌, ◌++◌, [], length, length-append, ap, ◌∙◌, arith, if◌then◌else◌}
use Rattle.std.specs.Prelude.{None}
use Rattle.std.specs.Result.{is_ok}
use Rattle.tag_table.specs.Entries.{entries_of}
use Rattle.tag_table.proofs.PlaceLemmas.{one_empty_more}
use Rattle.tag_table.proofs.places.fill.Goals as goal

pub loop-places-preserved : goal.loop-places-preserved
loop-places-preserved g c =
    let ps = c.loop-places.places.items in
    let one_more : c.push.new.self.items ≡ ps ++ None ∷ [] = c.push.ensures.items ∙ ap (λ r. if is_ok r then ps ++ None ∷ [] else ps) c.in_ok-push.was in
    let size = ap length one_more ∙ length-append ps (None ∷ []) in
    let less = c.loop-places-test.true in
    record {
      entries = ap entries_of one_more ∙ one_empty_more 0 ps ∙ c.loop-places.invariant.entries;
      kept = omega (arith, size, c.loop-places.invariant.kept);
      few = λ within. omega (arith, size, less, c.len.ensures, c.loop-places.places.ok.0);
    }
