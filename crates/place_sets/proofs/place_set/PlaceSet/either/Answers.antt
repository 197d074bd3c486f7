use Rattle.std.proofs.Common.{◌∙◌}
use Rattle.place_sets.specs.Places.{has_place}
use Rattle.place_sets.proofs.PlaceLemmas.{has_either, or_swap}
use Rattle.place_sets.proofs.place_set.PlaceSet.either.Goals as goal
use Rattle.place_sets.proofs.place_set.PlaceSet.either.Goals.{then-len+in_ok-words, else-len+in_ok-words-2}

pub returns : goal.returns
returns c k = elim c.if-len.branch [
  | then-len+in_ok-words w ↦
      has_either c.if-len.words.items c.args.other.now c.args.self.now (λ j. cc (w.in_ok-words.ensures j)) k
      ∙ or_swap (has_place c.args.other.now k) (has_place c.args.self.now k)
  | else-len+in_ok-words-2 w ↦
      has_either c.if-len.words.items c.args.self.now c.args.other.now (λ j. cc (w.in_ok-words-2.ensures j)) k
]
