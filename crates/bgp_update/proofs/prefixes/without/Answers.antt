-- What is retained is what isn't announced.
use Rattle.std.proofs.Common.{not, rules}
use Rattle.std.proofs.lemmas.Fn.{filter_same}
use Rattle.bgp_update.proofs.PrefixLists.{in_order, ordered_without}
use Rattle.bgp_update.specs.Answers.{is_among}
use Rattle.bgp_update.proofs.prefixes.without.Goals as goal

pub returns : goal.returns
returns c =
    let is = filter_same _ (λ p. not (is_among p c.args.announced.now)) _ (λ x b f' k. search rules) _ _ c.retain.ensures.filtered in
    rw is (ordered_without c.ascending-kept.result.items c.args.list.items c.args.announced.now (in_order c.args.list.items _ c.ascending-kept.ensures))
