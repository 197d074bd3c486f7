use Rattle.std.proofs.Common.{◌≡◌, false, rules, sym, ◌∙◌}
use Rattle.std.proofs.lemmas.Bool.{false≢true}
use Rattle.classifier.specs.Items.{is_among}
use Rattle.classifier.proofs.ItemLemmas.{member-among}
use Rattle.net_types.proofs.WidthLemmas.{HasNoRepeats-push}
use Rattle.classifier.proofs.results.Results.put_last.Goals as goal

pub invariant_of-self-2 : goal.invariant_of-self-2
invariant_of-self-2 c =
    let items = c.self.inside.pairs in
    let fresh : is_among items c.args.pair ≡ false = search rules in
    rw c.in_ok-push.ensures.ok (HasNoRepeats-push items c.args.pair c.self.invariant (λ k. false≢true (sym fresh ∙ member-among items c.args.pair k)))
