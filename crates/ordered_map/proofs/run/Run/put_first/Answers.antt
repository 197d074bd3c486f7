use Rattle.std.proofs.Common.{◌<◌, ◌∷◌, length, ◌+◌, sym, ap, subst, ◌∙◌, cond}
use Rattle.std.specs.Result.{is_ok}
use Rattle.ordered_map.proofs.SizeLemmas.{any_size, has_room, no_err, run_more}
use Rattle.ordered_map.proofs.run.Run.put_first.Goals as goal

pub insert-requires : goal.insert-requires
insert-requires g c = any_size _

pub unreachable-requires : goal.unreachable-requires
unreachable-requires g c = no_err (is_ok c.insert.result) c.is_err.result (c.insert.ensures.succeeds (has_room _ c.self.invariant c.self.inside.entries.ok.0 (subst (λ n. n < 15) (sym (c.self.inside.entries.ok.0 ∙ ap length c.self.view_is)) c.requires))) c.is_err.ensures.negation c.if-is_err.true

pub invariant_of-self : goal.invariant_of-self
invariant_of-self g c = run_more _ _ (is_ok c.insert.result) c.self.invariant (subst (λ n. n < 15) (sym (ap length c.self.view_is)) c.requires) (sym c.insert.new.self.ok.0 ∙ c.insert.ensures.len ∙ ap (λ n. cond (is_ok c.insert.result) (n + 1) n) c.self.inside.entries.ok.0) c.insert.ensures.capacity

pub returns : goal.returns
returns g c = c.insert.ensures.items ∙ ap (λ b. cond b ((c.args.key, c.args.value) ∷ c.self.inside.entries.items) c.self.inside.entries.items) (c.insert.ensures.succeeds (has_room _ c.self.invariant c.self.inside.entries.ok.0 (subst (λ n. n < 15) (sym (c.self.inside.entries.ok.0 ∙ ap length c.self.view_is)) c.requires))) ∙ ap (λ es. (c.args.key, c.args.value) ∷ es) c.self.view_is
