use Rattle.std.proofs.Common.{◌≡◌, ◌+◌, ◌≤◌, true, false, not, sym, ap, subst, ◌∙◌, arith, if◌then◌else◌}
use Rattle.std.specs.Prelude.{is_some}
use Rattle.std.specs.Vec.{vec_len}
use Rattle.std.specs.FinMap.Entries.{find}
use Rattle.ordered_map.specs.Entries.{entries_of}
use Rattle.ordered_map.proofs.CountLemmas.{put_new, put_known, put_rises, none_there}
use Rattle.ordered_map.proofs.map.OrderedMap.put.Goals as goal

pub put_in-requires-clause-room : goal.put_in-requires-clause-room
put_in-requires-clause-room g c = λ none.
    let some = c.requires.room (sym (ap (λ s. find g.K.Ord.cmp c.args.key s.items) c.self.view_is) ∙ none) in
    let room = ap (λ s. s.room) c.self.view_is in
    omega (arith, some, room, c.self.invariant.boxes)

pub overflow_sub-self : goal.overflow_sub-self
overflow_sub-self g c =
    let none : is_some c.put_in.new.value ≡ false = c.is_none.ensures ∙ ap not c.if-is_none.true in
    let some = c.requires.room (sym (ap (λ s. find g.K.Ord.cmp c.args.key s.items) c.self.view_is) ∙ none_there _ (ap is_some (sym c.put_in.ensures.value) ∙ none)) in
    let room = ap (λ s. s.room) c.self.view_is in
    omega (arith, some, room)

pub overflow_add-self : goal.overflow_add-self
overflow_add-self g c =
    let none : is_some c.put_in.new.value ≡ false = c.is_none.ensures ∙ ap not c.if-is_none.true in
    let some = c.requires.room (sym (ap (λ s. find g.K.Ord.cmp c.args.key s.items) c.self.view_is) ∙ none_there _ (ap is_some (sym c.put_in.ensures.value) ∙ none)) in
    let room = ap (λ s. s.room) c.self.view_is in
    omega (arith, some, room, c.self.invariant.fits)

pub invariant_of-self : goal.invariant_of-self
invariant_of-self g c =
    let none : is_some c.put_in.new.value ≡ false = c.is_none.ensures ∙ ap not c.if-is_none.true in
    let some = c.requires.room (sym (ap (λ s. find g.K.Ord.cmp c.args.key s.items) c.self.view_is) ∙ none_there _ (ap is_some (sym c.put_in.ensures.value) ∙ none)) in
    let room = ap (λ s. s.room) c.self.view_is in
    put_new g.K.Ord.cmp g.met.K.Ord.total (entries_of c.self.inside.tree) _ c.args.key _ (vec_len c.self.inside.spare) (vec_len c.put_in.new.spare) c.self.inside.room c.self.inside.count c.self.invariant c.put_in.ensures.entries (ap is_some (sym c.put_in.ensures.value) ∙ none)
    (subst (λ b. vec_len c.self.inside.spare ≤ vec_len c.put_in.new.spare + (if b then 0 else 1)) none c.put_in.ensures.room)
    (omega (arith, some, room))

pub invariant_of-self-else-is_none : goal.invariant_of-self-else-is_none
invariant_of-self-else-is_none g c =
    let some : is_some c.put_in.new.value ≡ true = c.is_none.ensures ∙ ap not c.if-is_none.false in
    put_known g.K.Ord.cmp g.met.K.Ord.total (entries_of c.self.inside.tree) _ c.args.key _ (vec_len c.self.inside.spare) (vec_len c.put_in.new.spare) c.self.inside.room c.self.inside.count c.self.invariant c.put_in.ensures.entries (ap is_some (sym c.put_in.ensures.value) ∙ some)
    (subst (λ b. vec_len c.self.inside.spare ≤ vec_len c.put_in.new.spare + (if b then 0 else 1)) some c.put_in.ensures.room)

pub returns-then-is_none-clause-rising : goal.returns-then-is_none-clause-rising
returns-then-is_none-clause-rising g c =
    put_rises g.K.Ord.cmp g.met.K.Ord.total (entries_of c.self.inside.tree) _ c.args.key c.args.value c.self.invariant.rising c.put_in.ensures.entries

pub returns-else-is_none-clause-rising : goal.returns-else-is_none-clause-rising
returns-else-is_none-clause-rising g c =
    put_rises g.K.Ord.cmp g.met.K.Ord.total (entries_of c.self.inside.tree) _ c.args.key c.args.value c.self.invariant.rising c.put_in.ensures.entries
