use Rattle.std.proofs.Common.{◌≡◌, ◌/◌, true, ◌∙◌, subst, IfSome}
use Rattle.std.proofs.lemmas.Bool.{lt-ltb}
use Rattle.place_sets.specs.Places.{has_place}
use Rattle.cells.specs.declared.listed.Listed.{Listed}
use Rattle.cells.specs.Listed.{ListsOnly, ListsThese}
use Rattle.cells.proofs.ListedLemmas.{listed-all, listed-last, lists-push}
use Rattle.cells.proofs.inside.Inside.list.Goals as goal

pub invariant_of-self-2 : goal.invariant_of-self-2
invariant_of-self-2 c =
    let old = c.args.self.now.cells.now in
    let mid = c.among.new.self in
    let cube = c.args.cube.now in
    let blocks = c.in_ok-blocks.blocks in
    let l : Listed = record { cube = cube; places = c.in-Some.places } in
    let these = subst (λ o. IfSome o (λ v. ListsThese mid.cells.now cube (λ p. has_place blocks (p / 64) ≡ true) v.items)) c.in-Some.is c.in_ok-places.ensures.these in
    let only = subst (λ o. IfSome o (λ v. ListsOnly mid.cells.now cube v.items)) c.in-Some.is c.in_ok-places.ensures.only in
    let all = listed-all old mid.cells.now cube c.in_ok-all.all blocks l.places.items c.in_ok-blocks.ensures.cells
    (λ p within. c.in_ok-all.ensures (p / 64) ∙ lt-ltb (p / 64) c.blocks_of.result (c.blocks_of.ensures.all p within)) c.in_ok-blocks.ensures.keeps these only in
    record { are = mid.are; listed = lists-push mid.cells.now mid.lists.items c.push.new.self.items l c.in_ok-push.ensures.items all mid.listed }

pub returns-clause-number : goal.returns-clause-number
returns-clause-number c =
    let old = c.args.self.now.cells.now in
    let mid = c.among.new.self in
    let cube = c.args.cube.now in
    let blocks = c.in_ok-blocks.blocks in
    let l : Listed = record { cube = cube; places = c.in-Some.places } in
    let these = subst (λ o. IfSome o (λ v. ListsThese mid.cells.now cube (λ p. has_place blocks (p / 64) ≡ true) v.items)) c.in-Some.is c.in_ok-places.ensures.these in
    let only = subst (λ o. IfSome o (λ v. ListsOnly mid.cells.now cube v.items)) c.in-Some.is c.in_ok-places.ensures.only in
    let all = listed-all old mid.cells.now cube c.in_ok-all.all blocks l.places.items c.in_ok-blocks.ensures.cells
    (λ p within. c.in_ok-all.ensures (p / 64) ∙ lt-ltb (p / 64) c.blocks_of.result (c.blocks_of.ensures.all p within)) c.in_ok-blocks.ensures.keeps these only in
    listed-last mid.cells.now mid.lists.items c.push.new.self.items l c.len-number.result c.in_ok-push.ensures.items (c.len-number.ensures ∙ mid.lists.ok.0) all
