use Rattle.std.proofs.Common.{◌≡◌, ◌∷◌, length, sym, ap, ◌∙◌, arith}
use Rattle.prefix_map.specs.Entries.{above, seen_entry}
use Rattle.prefix_map.specs.Parts.{entries_in}
use Rattle.net_types.specs.Routes.{first_of_list}
use Rattle.prefix_map.proofs.TableLemmas.{parts_sorted}
use Rattle.prefix_map.proofs.WalkLemmas.{after_left}
use Rattle.prefix_map.proofs.iter.IterIterator.next.Goals as goal

pub returns-clause-steps : goal.returns-clause-steps
returns-clause-steps g c =
    sym c.self.view_is
    ∙ after_left c.self.inside.last (entries_in c.self.inside.parts.now) (seen_entry (c.in_ok-key.key, c.in_ok-key.value)) (parts_sorted c.self.inside.parts.now c.self.invariant) (ap first_of_list c.self.view_is ∙ sym c.in_ok-key.ensures)

pub returns-clause-goes : goal.returns-clause-goes
returns-clause-goes g c =
    let steps : c.args.self.now ≡ seen_entry (c.in_ok-key.key, c.in_ok-key.value) ∷ above c.in_ok-key.key (entries_in c.self.inside.parts.now) =
    sym c.self.view_is
    ∙ after_left c.self.inside.last (entries_in c.self.inside.parts.now) (seen_entry (c.in_ok-key.key, c.in_ok-key.value)) (parts_sorted c.self.inside.parts.now c.self.invariant) (ap first_of_list c.self.view_is ∙ sym c.in_ok-key.ensures) in
    let size = ap length steps in
    record { on = λ _. (tt, tt, omega (arith, size)); keeps = tt; rests = λ _. tt }
