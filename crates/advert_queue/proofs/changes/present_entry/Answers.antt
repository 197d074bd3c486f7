use Rattle.std.proofs.Common.{◌≡◌, sym, ap, ◌∙◌}
use Rattle.std.specs.Prelude.{Some, None, option_copied, unwrap_or}
use Rattle.std.specs.FinMap.{get}
use Rattle.std.specs.FinMap.Entries.{find}
use Rattle.net_types.specs.Keys.{prefix_cmp}
use Rattle.advert_queue.proofs.ChangedMaps.{get_change, get_changed}
use Rattle.advert_queue.proofs.changes.present_entry.Goals as goal

pub returns-in-Some : goal.returns-in-Some
returns-in-Some c =
    let there : find prefix_cmp c.args.prefix c.args.news.now.items ≡ Some c.in-Some.now.now = sym c.get.ensures ∙ ap option_copied c.in-Some.is in
    c.as_ref.ensures.value ∙ sym (get_change c.args.told.now.map c.args.news.now.items c.args.prefix c.in-Some.now.now c.requires.rising there)

pub returns-in-None : goal.returns-in-None
returns-in-None c =
    let absent : find prefix_cmp c.args.prefix c.args.news.now.items ≡ None = sym c.get.ensures ∙ ap option_copied c.in-None.is in
    c.get-in-None.ensures ∙ sym (ap (λ o. unwrap_or o (get c.args.told.now.map c.args.prefix)) absent) ∙ sym (get_changed c.args.told.now.map c.args.news.now.items c.args.prefix c.requires.rising)
