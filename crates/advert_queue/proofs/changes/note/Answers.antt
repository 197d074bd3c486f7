use Rattle.std.proofs.Common.{◌≡◌, sym, ap, ◌∙◌}
use Rattle.std.specs.Prelude.{Some, None, unwrap_or}
use Rattle.std.specs.FinMap.{get}
use Rattle.std.specs.FinMap.Entries.{find}
use Rattle.net_types.specs.Keys.{prefix_cmp}
use Rattle.advert_queue.proofs.ChangedMaps.{get_change, get_changed, noted_is}
use Rattle.advert_queue.specs.Changes.{tag_in}
use Rattle.advert_queue.proofs.changes.note.Goals as goal

pub returns-in-Some-clause-before : goal.returns-in-Some-clause-before
returns-in-Some-clause-before c =
    let there : find prefix_cmp c.args.prefix c.args.news.now.items ≡ Some c.in-Some.before = sym c.put_news.ensures.value ∙ c.in-Some.is in
    c.tag_of.ensures ∙ ap tag_in (c.as_ref.ensures.value ∙ sym (get_change c.args.told.now.map c.args.news.now.items c.args.prefix c.in-Some.before c.requires.rising there))

pub returns-in-Some-clause-differ : goal.returns-in-Some-clause-differ
returns-in-Some-clause-differ c = (noted_is c.args.told.now.map c.args.prefix c.args.entry _ c.args.news.now.items _ c.requires.rising c.requires.differ c.get-told.ensures c.put_news.ensures.items).differ

pub returns-in-Some-clause-present : goal.returns-in-Some-clause-present
returns-in-Some-clause-present c = (noted_is c.args.told.now.map c.args.prefix c.args.entry _ c.args.news.now.items _ c.requires.rising c.requires.differ c.get-told.ensures c.put_news.ensures.items).present

pub returns-in-None-clause-before : goal.returns-in-None-clause-before
returns-in-None-clause-before c =
    let absent : find prefix_cmp c.args.prefix c.args.news.now.items ≡ None = sym c.put_news.ensures.value ∙ c.in-None.is in
    c.tag_of-in-None.ensures
    ∙ ap tag_in (c.get-told.ensures ∙ sym (ap (λ o. unwrap_or o (get c.args.told.now.map c.args.prefix)) absent) ∙ sym (get_changed c.args.told.now.map c.args.news.now.items c.args.prefix c.requires.rising))

pub returns-in-None-clause-differ : goal.returns-in-None-clause-differ
returns-in-None-clause-differ c = (noted_is c.args.told.now.map c.args.prefix c.args.entry _ c.args.news.now.items _ c.requires.rising c.requires.differ c.get-told.ensures c.put_news.ensures.items).differ

pub returns-in-None-clause-present : goal.returns-in-None-clause-present
returns-in-None-clause-present c = (noted_is c.args.told.now.map c.args.prefix c.args.entry _ c.args.news.now.items _ c.requires.rising c.requires.differ c.get-told.ensures c.put_news.ensures.items).present
