use Rattle.std.proofs.Common.{◌≡◌, ◌∙◌, sym, subst, true, false}
use Rattle.net_types.specs.Sets.{Member}
use Rattle.route_server.specs.Listed.{list_at}
use Rattle.route_server.proofs.announced.Announced.list.Goals as goal
use Rattle.route_server.proofs.announced.Announced.list.Goals.{then-self, else-self}

pub returns-clause-kept : goal.returns-clause-kept
returns-clause-kept c n p l is =
    elim c.if-self.branch [
      | then-self w ↦ let a = w.self-is in subst (λ s. Member p (list_at s.lists.items n)) (sym w.self-is) (w.put_in_list-self.ensures.kept n p (l w.if-self.true))
      | else-self w ↦ absurd (let a : true ≡ false = sym is ∙ w.self2-is ∙ w.if-self.false in cc)
    ]

pub returns-clause-listed : goal.returns-clause-listed
returns-clause-listed c is =
    elim c.if-self.branch [
      | then-self w ↦ subst (λ s. Member c.args.prefix (list_at s.lists.items c.args.from.0)) (sym w.self-is) (w.put_in_list-self.ensures.there (sym w.self2-is ∙ is))
      | else-self w ↦ absurd (let a : true ≡ false = sym is ∙ w.self2-is ∙ w.if-self.false in cc)
    ]
