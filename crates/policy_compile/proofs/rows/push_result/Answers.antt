use Rattle.std.proofs.Common.{◌≡◌, ◌∙◌, ◌++◌, ◌∷◌, [], cond, eqb, slice_set, Some, None, length, refl, sym, ap}
use Rattle.std.specs.List.{slice_get}
use Rattle.std.specs.Option.{option_map, option_to_list}
use Rattle.std.proofs.lemmas.List.{append-nil, get_or_read}
use Rattle.std.proofs.lemmas.Option.{slice_get_past, slice_get_read}
use Rattle.net_types.specs.declared.headers.Loc.{Loc}
use Rattle.net_types.proofs.FindLemmas.{cond_same}
use Rattle.classifier.specs.Items.{Item}
use Rattle.policy_compile.specs.Groups.{result_of}
use Rattle.policy_compile.specs.Rows.{list_at}
use Rattle.policy_compile.proofs.RowLemmas.{list-put}
use Rattle.policy_compile.proofs.rows.push_result.Goals as goal

pub returns-in_ok-push-clause-put : goal.returns-in_ok-push-clause-put
returns-in_ok-push-clause-put c = λ n.
    let lists = c.args.lists.now.items in
    let locations = c.args.locations.now in
    let key = c.args.column.now.key in
    let set = c.args.column.now.set in
    let loc = c.in-Some.loc.now in
    let told = c.in-Some.ensures.lookup in
    let item : Item = (key.set, loc) in
    let at : slice_get locations key.number ≡ Some loc = slice_get_read locations (length locations) key.number loc refl told.3.0 told.1 in
    let one : result_of locations key ≡ item ∷ [] = ap (λ o. option_to_list (option_map (λ (l : Loc). let i : Item = (key.set, l) in i) o)) at in
    let was = get_or_read lists set c.index_mut.result.now c.requires c.index_mut.ensures.value [] in
    ap (λ l. list_at (slice_set lists set l) n) (c.in_ok-push.ensures.ok ∙ ap (λ l. l ++ item ∷ []) was) ∙ list-put lists set item c.requires n ∙ ap (λ l. list_at lists n ++ cond (eqb set n) l []) (sym one)

pub returns-in_default-clause-put : goal.returns-in_default-clause-put
returns-in_default-clause-put c = λ n.
    let lists = c.args.lists.now.items in
    let locations = c.args.locations.now in
    let key = c.args.column.now.key in
    let set = c.args.column.now.set in
    let at : slice_get locations key.number ≡ None = slice_get_past locations key.number c.in_default.ensures.lookup.3 in
    let none : result_of locations key ≡ [] = ap (λ o. option_to_list (option_map (λ (l : Loc). let i : Item = (key.set, l) in i) o)) at in
    sym (ap (λ l. list_at lists n ++ cond (eqb set n) l []) none ∙ ap (λ l. list_at lists n ++ l) (cond_same (eqb set n) []) ∙ append-nil (list_at lists n))
