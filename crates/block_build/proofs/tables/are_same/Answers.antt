-- One more cube is the same.
use Rattle.std.proofs.Common.{◌≡◌, ◌+◌, ◌<◌, ◌++◌, ◌∷◌, [], ap, length, sym, subst, take, ◌∙◌}
use Rattle.std.proofs.lemmas.List.{take_more}
use Rattle.block_build.proofs.tables.are_same.Goals as goal

pub loop-i-preserved : goal.loop-i-preserved
loop-i-preserved c =
    let one = c.args.one.now in
    let other = c.args.other.now in
    let there : c.loop-i.i < length other = subst (λ n. c.loop-i.i < n) c.loop-i.invariant.long c.loop-i-test.true in
    let same = c.is_same.ensures c.if-not-is_same.false in
    let first : take (c.loop-i.i + 1) one ≡ take c.loop-i.i one ++ c.index-one-i.result ∷ [] = take_more one c.loop-i.i c.index-one-i.result c.loop-i-test.true ∙ ap (λ z. take c.loop-i.i one ++ z ∷ []) (sym c.index-one-i.is) in
    let second : take (c.loop-i.i + 1) other ≡ take c.loop-i.i other ++ c.index-other-i.result ∷ [] = take_more other c.loop-i.i c.index-other-i.result there ∙ ap (λ z. take c.loop-i.i other ++ z ∷ []) (sym c.index-other-i.is) in
    record {
      same = first ∙ ap (λ xs. xs ++ c.index-one-i.result ∷ []) c.loop-i.invariant.same ∙ ap (λ z. take c.loop-i.i other ++ z ∷ []) same ∙ sym second;
      long = c.loop-i.invariant.long;
    }
