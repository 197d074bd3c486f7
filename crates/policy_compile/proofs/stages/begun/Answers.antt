use Rattle.std.proofs.Common.{◌≡◌, ◌<◌, ◌∙◌, ◌++◌, ◌∷◌, [], cond, List, length, unwrap_or, sym, ap, subst}
use Rattle.std.proofs.lemmas.Option.{slice_get_within}
use Rattle.net_types.specs.declared.headers.Assign.{Assign}
use Rattle.net_types.specs.declared.headers.Loc.{Loc}
use Rattle.net_types.specs.declared.headers.Loc.TheVariants.{Stay}
use Rattle.net_types.specs.Sets.{Member, union_over}
use Rattle.classifier.specs.Items.{Item}
use Rattle.place_sets.specs.Places.{has_place}
use Rattle.policy_compile.specs.declared.columns.Column.{Column}
use Rattle.policy_compile.specs.declared.columns.Columns.{Columns}
use Rattle.policy_compile.specs.declared.columns.Key.{Key}
use Rattle.policy_compile.specs.declared.set_table.SetTable.{SetTable}
use Rattle.policy_compile.specs.Columns.{AreBelow, given, set_at}
use Rattle.policy_compile.specs.Groups.{picked, ways_of, with_each}
use Rattle.policy_compile.proofs.ColumnLemmas.{columns-kept, given-kept, set-there}
use Rattle.policy_compile.proofs.GroupLemmas.{picked-ext, picked-first}
use Rattle.policy_compile.proofs.stages.begun.Goals as goal

pub invariant_of-columns : goal.invariant_of-columns
invariant_of-columns c =
    let old = c.new-columns.result in
    record { are = columns-kept old.sets.sets.items c.put-2.new.self.sets.items old.columns.items old.unions.noted.items old.places.noted.items c.put-2.ensures.kept old.are }

pub push-requires : goal.push-requires
push-requires c = slice_get_within c.put-2.new.self.sets.items c.in_ok-places.places _ c.in_ok-places.ensures.number

pub from_parts-requires : goal.from_parts-requires
from_parts-requires c =
    let n = length c.put.new.self.sets.items in
    c.push.ensures.below n (subst (AreBelow n) (sym c.new-columns.ensures.none) (λ x m. elim m [ ])) (slice_get_within c.put.new.self.sets.items c.in_ok-number.number _ c.in_ok-number.ensures.number)

pub returns : goal.returns
returns c = λ k m there.
    let ls = c.args.locations.now in
    let old = c.new-columns.result in
    let sets = c.put-2.new.self.sets.items in
    let ways = c.put.new.self.sets.items in
    let n = c.in_ok-places.places in
    let made = c.push.new.self in
    let new = c.from_parts.result in
    let key : Key = record { set = c.none.result; number = c.in_ok-number.number } in
    let none = given-kept old.sets.sets.items sets old.columns.items c.put-2.ensures.kept old.are.inside k ∙ c.new-columns.ensures.given k in
    let here = ap (λ o. has_place (unwrap_or o []) k) c.in_ok-places.ensures.number ∙ c.in_ok-everywhere.ensures k m there in
    let keys : given made.sets.sets.items made.columns.items k ≡ key ∷ [] =
    c.in_ok-push.ensures.given k ∙ ap (λ (xs : List Key). xs ++ cond (set_at sets n k) (key ∷ []) []) none ∙ ap (λ b. cond b (key ∷ []) []) here in
    let only : picked ls (set_at ways key.number) ≡ Stay ∷ [] =
    picked-ext ls (set_at ways key.number) (has_place _) (set-there ways key.number _ c.in_ok-number.ensures.number) ∙ picked-first ls Stay (has_place _) c.requires c.in_ok-first.ensures in
    ap (λ (t : SetTable). union_over (ways_of ls t.sets.items) (given new.columns.sets.sets.items new.columns.columns.items k)) c.from_parts.ensures.ways
    ∙ ap (λ (cs : Columns). union_over (ways_of ls ways) (given cs.sets.sets.items cs.columns.items k)) c.from_parts.ensures.columns
    ∙ ap (union_over (ways_of ls ways)) keys
    ∙ ap (λ (xs : List Loc). with_each c.none.result xs ++ []) only
    ∙ ap (λ (a : Assign). let j : Item = (a, Stay) in j ∷ []) c.none.ensures
