use Rattle.std.proofs.Common.{◌≡◌, ◌∷◌, sym, ap, ◌∙◌, arith, take}
use Rattle.std.specs.Prelude.{Some, None}
use Rattle.std.specs.FinMap.{get}
use Rattle.std.specs.FinMap.Entries.{is_sorted}
use Rattle.net_types.specs.Keys.{prefix_cmp}
use Rattle.ordered_map.specs.Entries.{head_of}
use Rattle.advert_queue.proofs.RisingEntries.{headed}
use Rattle.advert_queue.proofs.SessionLemmas.{can_rise, first_present, in_use, no_room, still_present, told_first}
use Rattle.advert_queue.specs.Changes.{Change, changed, tag_in}
use Rattle.advert_queue.specs.declared.counts.Side.TheVariants as sides
use Rattle.advert_queue.proofs.changes.tell_first.Goals as goal

pub move_use-requires : goal.move_use-requires
move_use-requires c =
    let cs = c.args.news.now.items in
    let e : Change = (c.in-Some.prefix, c.in-Some.entry) in
    let head : head_of cs ≡ Some e = sym c.take_first.ensures.first ∙ c.in-Some.is in
    let first : cs ≡ e ∷ c.take_first.new.self.items = headed cs e head ∙ ap (λ ds. e ∷ ds) (sym c.take_first.ensures.items) in
    let here : get (changed c.args.told.now.map cs) c.in-Some.prefix ≡ c.in-Some.entry =
    ap (λ ds. get (changed c.args.told.now.map ds) c.in-Some.prefix) first ∙ first_present c.args.told.now.map e c.take_first.new.self.items (ap (is_sorted prefix_cmp) (sym first) ∙ c.requires.kept.rising) in
    let there = in_use sides.Present c.args.counts.now.items (changed c.args.told.now.map cs) c.in-Some.prefix c.tag_of-after.result (c.requires.kept.counts.counts sides.Present) (c.tag_of-after.ensures ∙ ap tag_in (c.as_ref.ensures.value ∙ sym here)) in
    record {
      rising = c.requires.kept.counts.rising;
      used = c.requires.kept.counts.used;
      some =
          in_use sides.Told c.args.counts.now.items c.args.told.now.map c.in-Some.prefix _ (c.requires.kept.counts.counts sides.Told)
          (c.tag_of.ensures ∙ ap tag_in (c.as_ref-2.ensures.value ∙ c.tell_one-before.ensures.value));
      room = no_room sides.Present c.args.counts.now.items c.args.counts.now.room c.tag_of-after.result there;
      small = can_rise sides.Told c.args.counts.now.items c.args.told.now.map _ (c.requires.kept.counts.counts sides.Told) (omega (arith, c.requires.some, c.requires.kept.fits));
    }

pub returns-clause-told : goal.returns-clause-told
returns-clause-told c =
    let cs = c.args.news.now.items in
    let e : Change = (c.in-Some.prefix, c.in-Some.entry) in
    let head : head_of cs ≡ Some e = sym c.take_first.ensures.first ∙ c.in-Some.is in
    let first : cs ≡ e ∷ c.take_first.new.self.items = headed cs e head ∙ ap (λ ds. e ∷ ds) (sym c.take_first.ensures.items) in
    c.tell_one-before.ensures.map ∙ sym (ap (λ ds. changed c.args.told.now.map (take 1 ds)) first)

pub returns-clause-present : goal.returns-clause-present
returns-clause-present c =
    let cs = c.args.news.now.items in
    let e : Change = (c.in-Some.prefix, c.in-Some.entry) in
    let head : head_of cs ≡ Some e = sym c.take_first.ensures.first ∙ c.in-Some.is in
    let first : cs ≡ e ∷ c.take_first.new.self.items = headed cs e head ∙ ap (λ ds. e ∷ ds) (sym c.take_first.ensures.items) in
    still_present c.args.told.now c.tell_one-before.new.told c.args.news.now c.take_first.new.self c.args.counts.now c.move_use.new.counts 0 e None None first c.tell_one-before.ensures.map

pub returns-clause-kept : goal.returns-clause-kept
returns-clause-kept c =
    let cs = c.args.news.now.items in
    let e : Change = (c.in-Some.prefix, c.in-Some.entry) in
    let head : head_of cs ≡ Some e = sym c.take_first.ensures.first ∙ c.in-Some.is in
    let first : cs ≡ e ∷ c.take_first.new.self.items = headed cs e head ∙ ap (λ ds. e ∷ ds) (sym c.take_first.ensures.items) in
    λ more kept. told_first c.args.told.now c.tell_one-before.new.told c.args.news.now c.take_first.new.self c.args.counts.now c.move_use.new.counts more e _ _ kept first
    c.tell_one-before.ensures.map c.tell_one-before.ensures.room (c.tag_of.ensures ∙ ap tag_in (c.as_ref-2.ensures.value ∙ c.tell_one-before.ensures.value)) (c.tag_of-after.ensures ∙ ap tag_in c.as_ref.ensures.value)
    c.move_use.ensures.counts
