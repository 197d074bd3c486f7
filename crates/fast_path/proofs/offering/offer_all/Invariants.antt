-- with those that are left offered, it is present as promised, and there is room for them
use Rattle.std.proofs.Common.{◌≡◌, length}
use Rattle.fast_path.specs.Offers.{AreTo, HaveRoom, offered_all}
use Rattle.fast_path.proofs.offering.offer_all.Given as goal

abbrev pub invariant-loop-offer : goal.invariant-loop-offer
invariant-loop-offer l = record {
  told : l.adverts.told ≡ l.fn.adverts.told;
  rest : offered_all l.adverts.present l.offer-iterator.rest.items ≡ offered_all l.fn.adverts.present l.fn.offers.items;
  known : AreTo (length l.adverts.told) l.offer-iterator.rest.items;
  room : HaveRoom l.adverts l.offer-iterator.rest.items;
}
