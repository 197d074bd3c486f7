use Rattle.std.proofs.Common.{◌≡◌, true, false, sym, ap, ◌∙◌}
use Rattle.std.specs.Prelude.{is_some}
use Rattle.std.specs.Vec.{vec_len}
use Rattle.prefix_map.specs.Parts.{entries_in}
use Rattle.prefix_map.proofs.MapLemmas.{get_is, remove_is, took_known, took_none}
use Rattle.prefix_map.proofs.map.PrefixMap.remove.Goals as goal

pub invariant_of-self : goal.invariant_of-self
invariant_of-self g c =
    let some : is_some c.take-before.result ≡ true = sym c.is_some.ensures ∙ c.if-is_some.true in
    took_known c.self.inside.parts c.take-before.new.self c.args.key (vec_len c.self.inside.spare) (vec_len c.take-before.new.spare) c.self.inside.room c.self.inside.count c.self.invariant c.take-before.ensures.parts c.take-before.ensures.entries
    (ap is_some (sym c.take-before.ensures.value) ∙ some) c.take-before.ensures.room

pub invariant_of-self-else-is_some : goal.invariant_of-self-else-is_some
invariant_of-self-else-is_some g c =
    let none : is_some c.take-before.result ≡ false = sym c.is_some.ensures ∙ c.if-is_some.false in
    took_none c.self.inside.parts c.take-before.new.self c.args.key (vec_len c.self.inside.spare) (vec_len c.take-before.new.spare) c.self.inside.room c.self.inside.count c.self.invariant c.take-before.ensures.parts c.take-before.ensures.entries
    (ap is_some (sym c.take-before.ensures.value) ∙ none) c.take-before.ensures.room

pub returns-then-is_some-clause-value : goal.returns-then-is_some-clause-value
returns-then-is_some-clause-value g c = c.take-before.ensures.value ∙ get_is c.self.inside.parts c.self.invariant.whole c.args.self.now.map (ap (λ s. s.map) c.self.view_is) c.args.key

pub returns-then-is_some-clause-map : goal.returns-then-is_some-clause-map
returns-then-is_some-clause-map g c = remove_is c.self.inside.parts c.self.invariant.whole c.args.self.now.map (ap (λ s. s.map) c.self.view_is) c.args.key (entries_in c.take-before.new.self) c.take-before.ensures.entries

pub returns-else-is_some-clause-value : goal.returns-else-is_some-clause-value
returns-else-is_some-clause-value g c = c.take-before.ensures.value ∙ get_is c.self.inside.parts c.self.invariant.whole c.args.self.now.map (ap (λ s. s.map) c.self.view_is) c.args.key

pub returns-else-is_some-clause-map : goal.returns-else-is_some-clause-map
returns-else-is_some-clause-map g c = remove_is c.self.inside.parts c.self.invariant.whole c.args.self.now.map (ap (λ s. s.map) c.self.view_is) c.args.key (entries_in c.take-before.new.self) c.take-before.ensures.entries
