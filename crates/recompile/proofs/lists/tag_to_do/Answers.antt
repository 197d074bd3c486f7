-- The last one isn't to do any more.
use Rattle.std.proofs.Common.{◌-◌, length, sym, subst, ap, ◌∙◌, inl, inr}
use Rattle.std.specs.Prelude.{slice_get}
use Rattle.recompile.specs.Covering.{IsTagToDo}
use Rattle.recompile.proofs.ListLemmas.{all_but_last}
use Rattle.recompile.proofs.lists.tag_to_do.Goals as goal

pub loop-tag-preserved : goal.loop-tag-preserved
loop-tag-preserved c = λ t todo old. elim (
    all_but_last c.loop-tag.tags.items c.pop.new.self.items c.loop-tag.tags.len c.in-Some.field-0.now (sym c.deref.ensures.len ∙ ap length c.deref.ensures.value) c.pop.ensures.rest
    (c.in-Some.ensures.value ∙ ap (λ xs. slice_get xs (length xs - 1)) c.deref.ensures.value) t (c.loop-tag.invariant t todo old)
    ) [
      | inl there ↦ there
      | inr last ↦ absurd (c.is_tag_to_do.ensures.no c.if-is_tag_to_do.false (subst (IsTagToDo c.args.classes.now.tag c.args.placed.now) last todo))
    ]
