use Rattle.std.proofs.Common.{◌≡◌, ◌≤◌, ◌+◌, true, false, not, sym, ap, subst, ◌∙◌, arith, if◌then◌else◌}
use Rattle.std.specs.Prelude.{is_some}
use Rattle.std.specs.Vec.{vec_len}
use Rattle.prefix_map.specs.Parts.{entries_in}
use Rattle.prefix_map.proofs.MapLemmas.{get_is, insert_is, put_new, put_known}
use Rattle.net_types.proofs.FindLemmas.{none_there}
use Rattle.prefix_map.proofs.map.PrefixMap.put.Goals as goal

pub put-before-requires-clause-room : goal.put-before-requires-clause-room
put-before-requires-clause-room g c = λ none.
    let is = get_is c.self.inside.parts c.self.invariant.whole c.args.self.now.map (ap (λ s. s.map) c.self.view_is) c.args.key in
    let some = c.requires (sym is ∙ none) in
    let room = ap (λ s. s.room) c.self.view_is in
    let boxes = c.self.invariant.boxes in
    omega (arith, some, room, boxes)

pub overflow_sub-self : goal.overflow_sub-self
overflow_sub-self g c =
    let none : is_some c.put-before.result ≡ false = c.is_none.ensures ∙ ap not c.if-is_none.true in
    let is = get_is c.self.inside.parts c.self.invariant.whole c.args.self.now.map (ap (λ s. s.map) c.self.view_is) c.args.key in
    let some = c.requires (sym is ∙ sym c.put-before.ensures.value ∙ none_there _ none) in
    let room = ap (λ s. s.room) c.self.view_is in
    omega (arith, some, room)

pub overflow_add-self : goal.overflow_add-self
overflow_add-self g c =
    let none : is_some c.put-before.result ≡ false = c.is_none.ensures ∙ ap not c.if-is_none.true in
    let is = get_is c.self.inside.parts c.self.invariant.whole c.args.self.now.map (ap (λ s. s.map) c.self.view_is) c.args.key in
    let some = c.requires (sym is ∙ sym c.put-before.ensures.value ∙ none_there _ none) in
    let room = ap (λ s. s.room) c.self.view_is in
    let fits = c.self.invariant.fits in
    omega (arith, some, room, fits)

pub invariant_of-self : goal.invariant_of-self
invariant_of-self g c =
    let none : is_some c.put-before.result ≡ false = c.is_none.ensures ∙ ap not c.if-is_none.true in
    let is = get_is c.self.inside.parts c.self.invariant.whole c.args.self.now.map (ap (λ s. s.map) c.self.view_is) c.args.key in
    let some = c.requires (sym is ∙ sym c.put-before.ensures.value ∙ none_there _ none) in
    let room = ap (λ s. s.room) c.self.view_is in
    put_new c.self.inside.parts c.put-before.new.self c.args.key (vec_len c.self.inside.spare) (vec_len c.put-before.new.spare) c.self.inside.room c.self.inside.count c.self.invariant c.put-before.ensures.parts c.args.value c.put-before.ensures.entries
    (ap is_some (sym c.put-before.ensures.value) ∙ none)
    (subst (λ b. vec_len c.self.inside.spare ≤ vec_len c.put-before.new.spare + (if b then 0 else 1)) none c.put-before.ensures.room)
    (omega (arith, some, room))

pub invariant_of-self-else-is_none : goal.invariant_of-self-else-is_none
invariant_of-self-else-is_none g c =
    let some : is_some c.put-before.result ≡ true = c.is_none.ensures ∙ ap not c.if-is_none.false in
    put_known c.self.inside.parts c.put-before.new.self c.args.key (vec_len c.self.inside.spare) (vec_len c.put-before.new.spare) c.self.inside.room c.self.inside.count c.self.invariant c.put-before.ensures.parts c.args.value c.put-before.ensures.entries
    (ap is_some (sym c.put-before.ensures.value) ∙ some)
    (subst (λ b. vec_len c.self.inside.spare ≤ vec_len c.put-before.new.spare + (if b then 0 else 1)) some c.put-before.ensures.room)

pub returns-then-is_none-clause-value : goal.returns-then-is_none-clause-value
returns-then-is_none-clause-value g c = c.put-before.ensures.value ∙ get_is c.self.inside.parts c.self.invariant.whole c.args.self.now.map (ap (λ s. s.map) c.self.view_is) c.args.key

pub returns-then-is_none-clause-map : goal.returns-then-is_none-clause-map
returns-then-is_none-clause-map g c = insert_is c.self.inside.parts c.self.invariant.whole c.args.self.now.map (ap (λ s. s.map) c.self.view_is) c.args.key c.args.value (entries_in c.put-before.new.self) c.put-before.ensures.entries

pub returns-else-is_none-clause-value : goal.returns-else-is_none-clause-value
returns-else-is_none-clause-value g c = c.put-before.ensures.value ∙ get_is c.self.inside.parts c.self.invariant.whole c.args.self.now.map (ap (λ s. s.map) c.self.view_is) c.args.key

pub returns-else-is_none-clause-map : goal.returns-else-is_none-clause-map
returns-else-is_none-clause-map g c = insert_is c.self.inside.parts c.self.invariant.whole c.args.self.now.map (ap (λ s. s.map) c.self.view_is) c.args.key c.args.value (entries_in c.put-before.new.self) c.put-before.ensures.entries
