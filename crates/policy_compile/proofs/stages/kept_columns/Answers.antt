use Rattle.std.proofs.Common.{arith, ◌≡◌, ◌<◌, ◌∙◌, ◌&&◌, Some, List, length, filter, slice_index_or, sym, ap, subst, take}
use Rattle.std.specs.List.{slice_get}
use Rattle.std.proofs.lemmas.List.{take_all, take_more}
use Rattle.std.proofs.lemmas.Option.{slice_get-get_or}
use Rattle.net_types.proofs.FindLemmas.{slice_get-Member}
use Rattle.net_types.specs.Headers.{no_change}
use Rattle.net_types.specs.declared.cube.Cube.{Cube}
use Rattle.policy_syntax.specs.Views.{pred_of}
use Rattle.net_types.specs.declared.headers.Assign.{Assign}
use Rattle.policy_compile.specs.declared.columns.Column.{Column}
use Rattle.policy_compile.specs.declared.columns.Key.{Key}
use Rattle.policy_compile.specs.Columns.{AreBelow, AreKept, Places, given, set_at, set_of}
use Rattle.policy_compile.specs.Paths.{pred_at}
use Rattle.policy_compile.proofs.ColumnLemmas.{given-kept}
use Rattle.policy_compile.proofs.StageLemmas.{left-out, left-pushed}
use Rattle.policy_compile.proofs.stages.kept_columns.Goals as goal
use Rattle.policy_compile.proofs.stages.kept_columns.Goals.{in-Some+in_ok-push, in_default}

-- no column
abbrev none : Column
none = record { key = record { set = no_change; number = 0 }; set = 0 }

pub kept_number-requires-clause-places : goal.kept_number-requires-clause-places
kept_number-requires-clause-places c =
    let columns = c.args.columns.now in
    let items = c.deref-column-items.result.now in
    let i = c.loop-column.column-index in
    let x = slice_index_or items i none in
    let at : slice_get items i ≡ Some x = slice_get-get_or items i none c.loop-column-test.true in
    let stands = slice_get-Member columns.columns.items i x (ap (λ (cs : List Column). slice_get cs i) (sym c.deref-column-items.ensures.value) ∙ at) in
    subst (λ (sets : List Places). x.set < length sets) (sym c.deref.ensures.value) (columns.are.inside x stands)

pub kept_number-requires-clause-asked : goal.kept_number-requires-clause-asked
kept_number-requires-clause-asked c =
    subst (λ (sets : List Places). AreKept c.loop-column.within.cubes.now (pred_of c.args.pred.now) sets c.loop-column.made.sets.sets.items c.loop-column.asked.noted.items) (sym c.deref.ensures.value) c.loop-column.invariant.asked

pub loop-column-preserved : goal.loop-column-preserved
loop-column-preserved c =
    let p = pred_of c.args.pred.now in
    let sets = c.args.columns.now.sets.sets.items in
    let items = c.deref-column-items.result.now in
    let i = c.loop-column.column-index in
    let x = slice_index_or items i none in
    let columns = c.args.columns.now in
    let at : slice_get items i ≡ Some x = slice_get-get_or items i none c.loop-column-test.true in
    let stands = slice_get-Member columns.columns.items i x (ap (λ (cs : List Column). slice_get cs i) (sym c.deref-column-items.ensures.value) ∙ at) in
    let known = c.loop-column.made in
    let made = c.kept_number.new.made in
    let cubes : c.kept_number.new.within.cubes.now ≡ c.args.within.now.cubes.now = c.kept_number.ensures.cubes ∙ c.loop-column.invariant.cubes in
    let asked : AreKept c.kept_number.new.within.cubes.now p sets made.sets.sets.items c.kept_number.new.asked.noted.items =
    subst (λ (ss : List Places). AreKept c.kept_number.new.within.cubes.now p ss made.sets.sets.items c.kept_number.new.asked.noted.items) c.deref.ensures.value c.in_ok-number.ensures.asked in
    let more = take_more items i none c.loop-column-test.true in
    let was : (k : _) (m : Cube) → slice_get c.args.within.now.cubes.now k ≡ Some m → given made.sets.sets.items made.columns.items k ≡ filter (λ (j : Key). pred_at m j.set p) (given sets (take i items) k) = λ k m there.
    ap (λ (cs : List Column). given made.sets.sets.items cs k) c.in_ok-number.ensures.columns
    ∙ given-kept known.sets.sets.items made.sets.sets.items known.columns.items c.in_ok-number.ensures.kept known.are.inside k
    ∙ c.loop-column.invariant.given k m there in
    let told : (k : _) (m : Cube) → slice_get c.args.within.now.cubes.now k ≡ Some m → set_of made.sets.sets.items c.in_ok-number.number k ≡ (set_at sets x.set k && pred_at m x.key.set p) = λ k m there.
    c.in_ok-number.ensures.number.is k m (ap (λ (cs : List Cube). slice_get cs k) cubes ∙ there) ∙ ap (λ (ss : List Places). set_at ss x.set k && pred_at m c.seen.result p) c.deref.ensures.value
    ∙ ap (λ (a : Assign). set_at sets x.set k && pred_at m a p) c.seen.ensures ∙ ap (λ b. set_at sets x.set k && b) (c.fields_of-fields.ensures.decide m x.key.set) in
    elim c.match-number.branch [
      | in-Some+in_ok-push w ↦ rw w.made-is (record {
        asked = subst (λ (ss : List Places). AreKept c.kept_number.new.within.cubes.now p sets ss c.kept_number.new.asked.noted.items) (sym (ap (λ t. t.sets.items) w.push.ensures.sets)) asked;
        cubes = cubes;
        given = λ k m there.
            w.in_ok-push.ensures.given k
            ∙ left-pushed (λ (j : Key). pred_at m j.set p) sets (take i items) x k _ (given made.sets.sets.items made.columns.items k) (was k m there) (sym (ap (λ o. set_of made.sets.sets.items o k) w.in-Some.is) ∙ told k m there)
            ∙ ap (λ (cs : List Column). filter (λ (j : Key). pred_at m j.set p) (given sets cs k)) (sym more);
        below = λ n are. w.in_ok-push.ensures.below n (subst (AreBelow n) (sym c.in_ok-number.ensures.columns) (c.loop-column.invariant.below n are)) (are x stands);
      })
      | in_default w ↦ rw w.made-is (record {
        asked = asked;
        cubes = cubes;
        given = λ k m there.
            left-out (λ (j : Key). pred_at m j.set p) sets (take i items) x k (given made.sets.sets.items made.columns.items k) (was k m there) (sym (told k m there) ∙ ap (λ o. set_of made.sets.sets.items o k) w.in_default.is)
            ∙ ap (λ (cs : List Column). filter (λ (j : Key). pred_at m j.set p) (given sets cs k)) (sym more);
        below = λ n are. subst (AreBelow n) (sym c.in_ok-number.ensures.columns) (c.loop-column.invariant.below n are);
      })
    ]

pub returns-clause-kept : goal.returns-clause-kept
returns-clause-kept c = λ k m there.
    let p = pred_of c.args.pred.now in
    let sets = c.args.columns.now.sets.sets.items in
    let items = c.deref-column-items.result.now in
    c.loop-column.invariant.given k m there
    ∙ ap (λ (cs : List Column). filter (λ (j : Key). pred_at m j.set p) (given sets cs k)) (take_all c.loop-column.column-index items (omega (arith, c.loop-column-test.false)) ∙ c.deref-column-items.ensures.value)
