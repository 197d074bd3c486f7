use Rattle.std.proofs.Common.{sym, ◌∙◌, arith}
use Rattle.prefix_map.proofs.HalfLemmas.{stops_at, is_low, is_high, covered, missed_past}
use Rattle.std.proofs.lemmas.Bool.{ltb-true, ltb-false}
use Rattle.prefix_map.proofs.place.place_of_shorter.Goals as goal

pub returns-then-at-key : goal.returns-then-at-key
returns-then-at-key c = stops_at c.args.key c.args.at (omega (arith, c.requires)) (omega (arith, c.if-at-key.true))

pub returns-then-is_below : goal.returns-then-is_below
returns-then-is_below c = is_low c.args.key c.args.at c.requires (omega (arith, c.if-at-key.false)) (ltb-true _ _ (sym c.is_below.ensures ∙ c.if-is_below.true))

pub returns-then-covers : goal.returns-then-covers
returns-then-covers c =
    is_high c.args.key c.args.at c.requires (ltb-false _ _ (sym c.is_below.ensures ∙ c.if-is_below.false)) (covered c.args.key c.args.at.address c.args.at.in_range (sym c.covers.ensures ∙ c.if-covers.true)).1

pub returns : goal.returns
returns c = missed_past c.args.key c.args.at.address (omega (arith, c.if-at-key.false)) (sym c.covers.ensures ∙ c.if-covers.false)
