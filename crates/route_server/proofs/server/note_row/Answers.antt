use Rattle.std.proofs.Common.{ap, sym, ◌∙◌}
use Rattle.std.specs.Prelude.{is_some}
use Rattle.std.specs.Option.{option_and_then}
use Rattle.route_server.specs.Rows.{look}
use Rattle.route_server.proofs.server.note_row.Goals as goal

pub note-requires : goal.note-requires
note-requires c n there = c.requires n (ap (λ o. is_some (option_and_then (λ row. look row n) o)) c.in-Some.is ∙ ap (λ row. is_some (look row n)) (sym c.items.ensures) ∙ there)
