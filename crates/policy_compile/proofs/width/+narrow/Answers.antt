use Rattle.std.proofs.Common.{subst}
use Rattle.policy_syntax.specs.Views.{policy_of}
use Rattle.policy_compile.specs.Apart.{IsNarrowed}
use Rattle.policy_compile.proofs.ApartLemmas.{both-narrowed, then-narrowed}
use Rattle.policy_compile.proofs.width.+narrow.Goals as goal

pub returns-in_ok-both-in-Both : goal.returns-in_ok-both-in-Both
returns-in_ok-both-in-Both t c =
    let p = policy_of c.in-Both.first.now in
    let q = policy_of c.in-Both.second.now in
    let old = c.args.apart.now.items in
    let new = c.narrow-in-Both.new.apart.items in
    let whole = c.in_ok-both-in-Both.both.keys in
    subst (λ w. IsNarrowed w old new whole) c.in-Both.ensures
    (both-narrowed p q old c.narrow.new.apart.items new c.in_ok-left-in-Both.left.keys c.in_ok-right-in-Both.right.keys whole c.in_ok-left-in-Both.ensures c.in_ok-right-in-Both.ensures c.in_ok-both-in-Both.ensures)

pub returns-in_ok-push_apart-in-Then : goal.returns-in_ok-push_apart-in-Then
returns-in_ok-push_apart-in-Then t c =
    let p = policy_of c.in-Then.first.now in
    let q = policy_of c.in-Then.second.now in
    let old = c.args.apart.now.items in
    let last = c.push_apart.new.apart.items in
    let whole = c.in_ok-whole-in-Then.whole.keys in
    subst (λ w. IsNarrowed w old last whole) c.in-Then.ensures
    (then-narrowed p q old c.narrow-in-Then.new.apart.items c.narrow-in-Then-2.new.apart.items last c.in_ok-left-in-Then.left.keys c.in_ok-right-in-Then.right.keys whole
    c.in_ok-left-in-Then.ensures c.in_ok-right-in-Then.ensures c.in_ok-whole-in-Then.ensures c.in_ok-push_apart-in-Then.ensures)
