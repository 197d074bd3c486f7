use Rattle.std.proofs.Common.{◌≡◌, ◌∙◌, Some, List, ap}
use Rattle.std.specs.List.{slice_get}
use Rattle.std.specs.Option.{option_map}
use Rattle.policy_compile.specs.declared.columns.Column.{Column}
use Rattle.policy_compile.proofs.ColumnLemmas.{last-place, place-noted}
use Rattle.policy_compile.proofs.columns.Columns.push_noted.Goals as goal

pub invariant_of-self : goal.invariant_of-self
invariant_of-self c =
    let old = c.args.self.now in
    let new = c.push.new.self in
    let x : Column = record { key = c.args.key; set = c.args.set } in
    let at : slice_get new.columns.items c.len-place.result ≡ Some x =
    ap (λ (cs : List Column). slice_get cs c.len-place.result) c.in_ok-push.ensures.columns
    ∙ ap (slice_get _) (c.len-place.ensures ∙ old.columns.ok.0) ∙ last-place old.columns.items x in
    record {
      are = place-noted new.sets.sets.items new.columns.items new.unions.noted.items new.places.noted.items c.note.new.self.noted.items (c.args.key) c.len-place.result
          new.are c.note.ensures (ap (option_map (λ (d : Column). d.key)) at);
    }

pub returns-clause-below : goal.returns-clause-below
returns-clause-below c = λ n are inside. c.push.ensures.below n are inside
