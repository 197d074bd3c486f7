use Rattle.std.proofs.Common.{◌≡◌, ◌≤◌, ◌<◌, IfSome, length, insert, ◌+◌, sym, ap, subst, ◌∙◌, cond, refl}
use Rattle.std.specs.Result.{is_ok}
use Rattle.ordered_map.proofs.SizeLemmas.{all_there, has_room, no_err, no_none, run_more}
use Rattle.ordered_map.proofs.run.Run.put_at.Goals as goal

pub returns-then-len-ge-MOST-clause-key : goal.returns-then-len-ge-MOST-clause-key
returns-then-len-ge-MOST-clause-key g c = refl

pub returns-then-len-ge-MOST-clause-kept : goal.returns-then-len-ge-MOST-clause-kept
returns-then-len-ge-MOST-clause-kept g c = refl

pub returns-then-len-ge-MOST-clause-same : goal.returns-then-len-ge-MOST-clause-same
returns-then-len-ge-MOST-clause-same g c = refl

pub returns-then-len-ge-MOST-clause-full : goal.returns-then-len-ge-MOST-clause-full
returns-then-len-ge-MOST-clause-full g c = sym (ap length c.self.view_is) ∙ all_there _ c.self.invariant (c.len.ensures ∙ c.self.inside.entries.ok.0) c.if-len-ge-MOST.true

pub insert-requires : goal.insert-requires
insert-requires g c = subst (λ n. c.args.place ≤ n) (sym (c.self.inside.entries.ok.0 ∙ ap length c.self.view_is)) c.requires.within

pub unreachable-requires : goal.unreachable-requires
unreachable-requires g c = no_err (is_ok c.insert.result) c.is_err.result (c.insert.ensures.succeeds (has_room _ c.self.invariant c.self.inside.entries.ok.0 (subst (λ n. n < 15) c.len.ensures c.if-len-ge-MOST.false))) c.is_err.ensures.negation c.if-is_err.true

pub invariant_of-self : goal.invariant_of-self
invariant_of-self g c = run_more _ _ (is_ok c.insert.result) c.self.invariant (subst (λ n. n < 15) (c.len.ensures ∙ c.self.inside.entries.ok.0) c.if-len-ge-MOST.false) (sym c.insert.new.self.ok.0 ∙ c.insert.ensures.len ∙ ap (λ n. cond (is_ok c.insert.result) (n + 1) n) c.self.inside.entries.ok.0) c.insert.ensures.capacity

pub unreachable-requires-in-None : goal.unreachable-requires-in-None
unreachable-requires-in-None g c = no_none c.args.value.now c.requires.given (sym c.take.ensures.value ∙ c.in-None.is)

pub returns-clause-used : goal.returns-clause-used
returns-clause-used g c = c.take.ensures.after

pub returns-clause-entries : goal.returns-clause-entries
returns-clause-entries g c = subst (λ o. IfSome o (λ v. c.insert.new.self.items ≡ insert c.args.self.now c.args.place (c.args.key, v))) (sym c.in-Some.is ∙ c.take.ensures.value) (c.insert.ensures.items ∙ ap (λ b. cond b (insert c.self.inside.entries.items c.args.place (c.args.key, c.in-Some.value)) c.self.inside.entries.items) (c.insert.ensures.succeeds (has_room _ c.self.invariant c.self.inside.entries.ok.0 (subst (λ n. n < 15) c.len.ensures c.if-len-ge-MOST.false))) ∙ ap (λ es. insert es c.args.place (c.args.key, c.in-Some.value)) c.self.view_is)
