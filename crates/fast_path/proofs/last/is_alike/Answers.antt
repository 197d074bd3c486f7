-- The best participants, the offers and the senders' rules are the same.
use Rattle.std.proofs.Common.{◌≡◌, true, rules, sym, ap, ◌∙◌, arith}
use Rattle.std.specs.Cmp.Lexicographic.{pointwise}
use Rattle.fast_path.proofs.LastLemmas.{offers_right}
use Rattle.net_types.specs.Attributes.{same_offer}
use Rattle.fast_path.proofs.last.is_alike.Goals as goal

pub returns : goal.returns
returns c = λ yes.
    let one = c.args.one.now in
    let other = c.args.other.now in
    let best : one.best.0 ≡ other.best.0 = let same = c.if-one-other.false in omega (arith, same) in
    let told : c.same_items.result ≡ true = let is = c.if-not-same_items.false in search rules in
    let offers : pointwise same_offer one.offers other.offers ≡ true = sym (c.same_items.ensures ∙ ap (λ xs. pointwise same_offer xs c.items-else-one-other.result.now) c.items.ensures ∙ ap (pointwise same_offer one.offers) c.items-else-one-other.ensures) ∙ told in
    record {
      best = λ i. record { 0 = best i };
      offers = offers_right one.offers other.offers offers;
      outbound = c.send_alike.ensures yes;
    }
