use Rattle.std.proofs.Common.{◌+◌, drop, sym, ap, ◌∙◌, arith}
use Rattle.net_types.specs.Keys.{tag_cmp}
use Rattle.ordered_map.specs.Entries.{above}
use Rattle.tag_table.specs.Entries.{entries_from}
use Rattle.tag_table.proofs.PlaceLemmas.{above_at, above_none, whole_rest}
use Rattle.tag_table.proofs.table.TagTable.iter_after.Goals as goal

pub returns-then-place-len : goal.returns-then-place-len
returns-then-place-len g c =
    c.new.ensures
    ∙ ap (λ ps. entries_from (c.args.tag.0 + 1) ps) (whole_rest (c.args.tag.0 + 1) c.deref.result.now ∙ ap (drop (c.args.tag.0 + 1)) c.deref.ensures.value)
    ∙ sym (above_at c.args.tag c.self.inside.places.items)
    ∙ ap (λ s. above tag_cmp c.args.tag s.items) c.self.view_is

pub returns-else-place-len : goal.returns-else-place-len
returns-else-place-len g c =
    c.new-else-place-len.ensures
    ∙ sym (above_none c.args.tag c.self.inside.places.items (let past = c.if-place-len.false in omega (arith, past, c.len.ensures, c.self.inside.places.ok.0)))
    ∙ ap (λ s. above tag_cmp c.args.tag s.items) c.self.view_is
