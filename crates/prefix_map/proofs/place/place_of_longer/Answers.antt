use Rattle.std.proofs.Common.{sym, ◌∙◌, arith}
use Rattle.prefix_map.proofs.HalfLemmas.{stops_at, is_low, is_high, covered, missed_past}
use Rattle.std.proofs.lemmas.Bool.{ltb-true, ltb-false}
use Rattle.prefix_map.proofs.place.place_of_longer.Goals as goal

pub returns-then-key-at : goal.returns-then-key-at
returns-then-key-at c = stops_at c.args.at c.args.key (omega (arith, c.requires)) (omega (arith, c.if-key-at.true))

pub returns-then-is_below : goal.returns-then-is_below
returns-then-is_below c = is_low c.args.at c.args.key c.requires (omega (arith, c.if-key-at.false)) (ltb-true _ _ (sym c.is_below.ensures ∙ c.if-is_below.true))

pub returns-then-covers : goal.returns-then-covers
returns-then-covers c =
    is_high c.args.at c.args.key c.requires (ltb-false _ _ (sym c.is_below.ensures ∙ c.if-is_below.false)) (covered c.args.at c.args.key.address c.args.key.in_range (sym c.covers.ensures ∙ c.if-covers.true)).1

pub returns : goal.returns
returns c = missed_past c.args.at c.args.key.address (omega (arith, c.if-key-at.false)) (sym c.covers.ensures ∙ c.if-covers.false)
