use Rattle.std.proofs.Common.{◌≡◌, ◌∷◌, false, true, List, not, sym, ap, subst, ◌∙◌}
use Rattle.std.specs.Prelude.{is_some}
use Rattle.std.specs.FinMap.Entries.{find, put}
use Rattle.net_types.specs.declared.address.Tag.{Tag}
use Rattle.net_types.specs.declared.route.Part.{Part}
use Rattle.net_types.proofs.FindLemmas.{is_some-copied}
use Rattle.prefix_classes.proofs.LeastLemmas.{AreFirstsSoFar, all_found, found_before, found_now, none_found}
use Rattle.prefix_classes.specs.Placed.{sig_cmp}
use Rattle.prefix_classes.proofs.grouping.firsts_of.Goals as goal

pub loop-tag-init : goal.loop-tag-init
loop-tag-init c = none_found c.args.tags.now.items _ _ (c.into_iter-tag-iterator.ensures.into_iter_gives ∙ c.iter-tag-items.ensures) c.new-firsts.ensures.items

pub loop-tag-preserved-in_ok-insert : goal.loop-tag-preserved-in_ok-insert
loop-tag-preserved-in_ok-insert c =
    let e : Tag × List Part = (c.in-Some.tag, c.in-Some.sig.now) in
    let so_far : AreFirstsSoFar c.args.tags.now.items (e ∷ c.next.new.self) c.loop-tag.firsts.items = subst (λ l. AreFirstsSoFar c.args.tags.now.items l c.loop-tag.firsts.items) c.in-Some.ensures.steps c.loop-tag.invariant in
    let missing : is_some (find sig_cmp c.in-Some.sig.now c.loop-tag.firsts.items) ≡ false = sym (ap is_some c.get.ensures) ∙ is_some-copied c.get.result ∙ c.is_none.ensures ∙ ap not c.if-is_none.true in
    subst (AreFirstsSoFar c.args.tags.now.items c.next.new.self)
    (sym (c.in_ok-insert.ensures.items ∙ ap (λ s. put sig_cmp s c.in-Some.tag c.loop-tag.firsts.items) c.in_ok-share.ensures))
    (found_now c.args.tags.now.items e c.next.new.self c.loop-tag.firsts.items so_far missing)

pub loop-tag-preserved : goal.loop-tag-preserved
loop-tag-preserved c =
    let e : Tag × List Part = (c.in-Some.tag, c.in-Some.sig.now) in
    let so_far : AreFirstsSoFar c.args.tags.now.items (e ∷ c.next.new.self) c.loop-tag.firsts.items = subst (λ l. AreFirstsSoFar c.args.tags.now.items l c.loop-tag.firsts.items) c.in-Some.ensures.steps c.loop-tag.invariant in
    let found : is_some (find sig_cmp c.in-Some.sig.now c.loop-tag.firsts.items) ≡ true = sym (ap is_some c.get.ensures) ∙ is_some-copied c.get.result ∙ c.is_none.ensures ∙ ap not c.if-is_none.false in
    found_before c.args.tags.now.items e c.next.new.self c.loop-tag.firsts.items so_far found

pub returns : goal.returns
returns c = all_found c.args.tags.now.items c.loop-tag.firsts.items (subst (λ l. AreFirstsSoFar c.args.tags.now.items l c.loop-tag.firsts.items) c.in-None.ensures.steps.0 c.loop-tag.invariant)
