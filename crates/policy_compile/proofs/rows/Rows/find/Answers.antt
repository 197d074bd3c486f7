use Rattle.std.proofs.Common.{◌≡◌, ◌∙◌, Some, List, length, refl, sym, ap}
use Rattle.std.specs.List.{slice_get}
use Rattle.std.proofs.lemmas.Bool.Decides.{Decides-eqb}
use Rattle.std.proofs.lemmas.Option.{slice_get_read}
use Rattle.std.proofs.lemmas.Slice.Eq.{slice_eq-Decides}
use Rattle.net_types.proofs.FindLemmas.{slice_get-Member}
use Rattle.net_types.proofs.SetLemmas
use Rattle.classifier.specs.Items.{Item}
use Rattle.policy_compile.specs.declared.rows.Row.{Row}
use Rattle.policy_compile.specs.Rows.{joined}
use Rattle.policy_compile.proofs.rows.Rows.find.Goals as goal

pub returns-then-eq : goal.returns-then-eq
returns-then-eq c =
    let numbers = c.args.numbers.now in
    let place = c.in_ok-place.place in
    let row = c.in_ok-row.row.now in
    let known = c.deref.result.now in
    let told = c.in_ok-row.ensures.lookup in
    let at : slice_get known place ≡ Some row = slice_get_read known (length known) place row refl told.3.0 told.1 in
    let stands = slice_get-Member c.self.inside.rows.items place row (ap (λ (rows : List Row). slice_get rows place) (sym c.deref.ensures.value) ∙ at) in
    let same : row.numbers.items ≡ numbers = sym c.as_slice.ensures.value ∙ (slice_eq-Decides Decides-eqb c.as_slice.result.now numbers c.eq.result c.eq.ensures).0 c.if-eq.true in
    SetLemmas.same_trans (c.self.invariant.are row stands) (SetLemmas.same_eq (ap (joined c.self.inside.lists.items) same ∙ ap (λ (lists : List (List Item)). joined lists numbers) c.self.view_is))
