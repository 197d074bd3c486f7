-- What is noted at the place is what was asked.
use Rattle.std.proofs.Common.{◌≡◌, subst, sym, ◌∙◌}
use Rattle.net_types.specs.Sets.{Member}
use Rattle.net_types.proofs.MemberLemmas.{Member-at}
use Rattle.policy_compile.proofs.memo.Memo.find.Goals as goal

pub returns-then-eq : goal.returns-then-eq
returns-then-eq g c =
    let noted = c.in_ok-noted.noted.now in
    let read = c.in_ok-noted.ensures.lookup in
    let same : noted.key ≡ c.args.key.now = g.met.K.Asked.exact noted.key c.args.key.now (sym c.eq.ensures ∙ c.if-eq.true) in
    subst (λ key. Member (record { key = key; value = noted.value }) c.args.self.now.noted.items) same
    (subst (Member noted) c.deref.ensures.value (Member-at c.deref.result.now c.in_ok-place.place noted noted read.3.0 (sym read.1)))
