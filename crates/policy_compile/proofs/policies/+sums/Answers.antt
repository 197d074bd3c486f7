use Rattle.std.proofs.Common.{List}
use Rattle.net_types.specs.declared.headers.Assign.{Assign}
use Rattle.net_types.specs.declared.headers.Loc.{Loc}
use Rattle.classifier.specs.Items.{Item}
use Rattle.std.proofs.Common.{◌∷◌, [], refl, sym, ◌∙◌, ap, subst}
use Rattle.net_types.specs.Headers.{no_change}
use Rattle.net_types.specs.Policies as model
use Rattle.net_types.specs.declared.headers.Loc.TheVariants.{Stay, Nowhere}
use Rattle.policy_syntax.specs.Views.{policy_of, pred_of}
use Rattle.classifier.specs.Compiled.{IsCompiled}
use Rattle.classifier.specs.Sums.{IsSum}
use Rattle.policy_compile.specs.Parts.{AreParts}
use Rattle.policy_compile.proofs.ChainLemmas.{compiled-passed, compiled-regrouped}
use Rattle.policy_compile.proofs.PartLemmas.{parts-one, parts-both, parts-spread, compiled-parts}
use Rattle.classifier.proofs.CompileLemmas
use Rattle.policy_compile.proofs.policies.+sums.Goals as goal

abbrev only : Assign → Loc → List Item
only m l = (m, l) ∷ []

pub compiled-returns-in_ok-none-in-Drop : goal.compiled-returns-in_ok-none-in-Drop
compiled-returns-in_ok-none-in-Drop g t c =
    let f = c.in_ok-none-in-Drop.ensures in
    subst (λ p. IsCompiled (g.N.Names.pid_of c.args.names.now) p c.in_ok-none-in-Drop.none) c.in-Drop.ensures
    (CompileLemmas.compiled-items c.new.result [] c.in_ok-none-in-Drop.none c.new.ensures f.all f.cubes f.assigns (g.N.Names.pid_of c.args.names.now) model.Drop (λ h l. refl) (CompileLemmas.among-none (no_change ∷ [])))

pub compiled-returns-in_ok-all-in-Pass : goal.compiled-returns-in_ok-all-in-Pass
compiled-returns-in_ok-all-in-Pass g t c =
    let f = c.in_ok-all-in-Pass.ensures in
    subst (λ p. IsCompiled (g.N.Names.pid_of c.args.names.now) p c.in_ok-all-in-Pass.all) c.in-Pass.ensures
    (CompileLemmas.compiled-items c.in_ok-unchanged-in-Pass.field-0 ((no_change, Stay) ∷ []) c.in_ok-all-in-Pass.all c.in_ok-unchanged-in-Pass.ensures f.all f.cubes f.assigns (g.N.Names.pid_of c.args.names.now) model.Pass (λ h l. refl) (λ m k. k))

pub compiled-returns-in_ok-blocked-in-Block : goal.compiled-returns-in_ok-blocked-in-Block
compiled-returns-in_ok-blocked-in-Block g t c =
    let f = c.in_ok-blocked-in-Block.ensures in
    subst (λ p. IsCompiled (g.N.Names.pid_of c.args.names.now) p c.in_ok-blocked-in-Block.blocked) c.in-Block.ensures
    (CompileLemmas.compiled-items c.in_ok-only-in-Block.field-0 ((no_change, Nowhere) ∷ []) c.in_ok-blocked-in-Block.blocked (c.in_ok-only-in-Block.ensures ∙ ap (λ m. only m Nowhere) c.none.ensures) f.all f.cubes f.assigns (g.N.Names.pid_of c.args.names.now) model.Block (λ h l. refl) (λ m k. k))

pub compiled-returns-in_ok-changed-in-Set : goal.compiled-returns-in_ok-changed-in-Set
compiled-returns-in_ok-changed-in-Set g t c =
    let f = c.in_ok-changed-in-Set.ensures in
    subst (λ p. IsCompiled (g.N.Names.pid_of c.args.names.now) p c.in_ok-changed-in-Set.changed) c.in-Set.ensures
    (CompileLemmas.compiled-items c.in_ok-only-in-Set.field-0 ((c.in-Set.set, Stay) ∷ []) c.in_ok-changed-in-Set.changed c.in_ok-only-in-Set.ensures f.all f.cubes f.assigns (g.N.Names.pid_of c.args.names.now) (model.Set c.in-Set.set c.in-Set.field-1) (λ h l. refl) (λ m k. k))

pub compiled-returns-in_ok-sent-in-Fwd : goal.compiled-returns-in_ok-sent-in-Fwd
compiled-returns-in_ok-sent-in-Fwd g t c = subst (λ p. IsCompiled (g.N.Names.pid_of c.args.names.now) p c.in_ok-sent-in-Fwd.sent) c.in-Fwd.ensures (c.in_ok-sent-in-Fwd.ensures c.in-Fwd.field-1)

pub compiled-returns-in_ok-kept-in-Test : goal.compiled-returns-in_ok-kept-in-Test
compiled-returns-in_ok-kept-in-Test g t c =
    subst (λ p. IsCompiled (g.N.Names.pid_of c.args.names.now) p c.in_ok-kept-in-Test.kept) c.in-Test.ensures
    (CompileLemmas.compiled-match (g.N.Names.pid_of c.args.names.now) (pred_of c.in-Test.pred.now) c.in_ok-kept-in-Test.kept c.in_ok-kept-in-Test.ensures)

pub compiled-returns-in_ok-either-in-Both : goal.compiled-returns-in_ok-either-in-Both
compiled-returns-in_ok-either-in-Both g t c =
    let pid_of = g.N.Names.pid_of c.args.names.now in
    let p = model.Both (policy_of c.in-Both.first.now) (policy_of c.in-Both.second.now) in
    subst (λ q. IsCompiled pid_of q c.in_ok-either-in-Both.either) c.in-Both.ensures
    (compiled-parts pid_of p c.in_ok-parts-in-Both.parts.items c.in_ok-either-in-Both.either c.in_ok-parts-in-Both.ensures
    (subst (λ xs. IsSum xs c.in_ok-either-in-Both.either) c.deref.ensures.value c.in_ok-either-in-Both.ensures))

pub compiled-returns-in_ok-chained-in-Then : goal.compiled-returns-in_ok-chained-in-Then
compiled-returns-in_ok-chained-in-Then g t c =
    subst (λ p. IsCompiled (g.N.Names.pid_of c.args.names.now) p c.in_ok-chained-in-Then.chained) c.in-Then.ensures
    (c.in_ok-chained-in-Then.ensures (policy_of c.in-Then.second.now) c.in_ok-next-in-Then.ensures)

pub whole_before-returns : goal.whole_before-returns
whole_before-returns g t c = λ q h.
    let f = c.in_ok-chained.ensures in
    CompileLemmas.compiled-then (g.N.Names.pid_of c.args.names.now) (policy_of c.args.tree.now) q c.in_ok-whole.whole c.args.next.now c.in_ok-chained.chained c.in_ok-whole.ensures h f.chain f.cubes f.assigns

pub before-returns-in_ok-same-in-Pass : goal.before-returns-in_ok-same-in-Pass
before-returns-in_ok-same-in-Pass g t c = λ q h.
    let pid_of = g.N.Names.pid_of c.args.names.now in
    subst (λ p. IsCompiled pid_of (model.Then p q) c.in_ok-same-in-Pass.same) c.in-Pass.ensures
    (compiled-passed pid_of q c.args.next.now c.in_ok-same-in-Pass.same c.in_ok-same-in-Pass.ensures h)

pub before-returns-then-is_one : goal.before-returns-then-is_one
before-returns-then-is_one g t c = λ q h.
    let pid_of = g.N.Names.pid_of c.args.names.now in
    let first = policy_of c.in-Then.first.now in
    let second = policy_of c.in-Then.second.now in
    subst (λ p. IsCompiled pid_of (model.Then p q) c.in_ok-chained-in-Then.chained) c.in-Then.ensures
    (compiled-regrouped pid_of first second q c.in_ok-chained-in-Then.chained (c.in_ok-chained-in-Then.ensures (model.Then second q) (c.in_ok-later-in-Then.ensures q h)))

pub before-returns-then-is_one-2 : goal.before-returns-then-is_one-2
before-returns-then-is_one-2 g t c = λ q h.
    let pid_of = g.N.Names.pid_of c.args.names.now in
    let p = model.Then (model.Both (policy_of c.in-Both.first.now) (policy_of c.in-Both.second.now)) q in
    subst (λ p. IsCompiled pid_of (model.Then p q) c.in_ok-either-in-Both.either) c.in-Both.ensures
    (compiled-parts pid_of p c.in_ok-parts-in-Both.parts.items c.in_ok-either-in-Both.either (c.in_ok-parts-in-Both.ensures q h)
    (subst (λ xs. IsSum xs c.in_ok-either-in-Both.either) c.deref.ensures.value c.in_ok-either-in-Both.ensures))

pub parts_before-returns-in_ok-parts-in_default : goal.parts_before-returns-in_ok-parts-in_default
parts_before-returns-in_ok-parts-in_default g t c = λ q h.
    let pid_of = g.N.Names.pid_of c.args.names.now in
    let p = model.Then (policy_of c.args.tree.now) q in
    subst (AreParts pid_of p) (sym c.in_ok-parts-in_default.ensures) (parts-one pid_of p c.in_ok-whole-in_default.whole (c.in_ok-whole-in_default.ensures q h))

pub parts_of_both_before-returns : goal.parts_of_both_before-returns
parts_of_both_before-returns g t c = λ q h.
    let pid_of = g.N.Names.pid_of c.args.names.now in
    let first = policy_of c.args.first.now in
    let second = policy_of c.args.second.now in
    subst (AreParts pid_of (model.Then (model.Both first second) q)) (sym c.in_ok-spread.ensures)
    (parts-spread pid_of first second q c.in_ok-left.left.items c.in_ok-right.right.items (c.in_ok-left.ensures q h) (c.in_ok-right.ensures q h))

pub parts_of-returns-in_ok-parts-in-Both : goal.parts_of-returns-in_ok-parts-in-Both
parts_of-returns-in_ok-parts-in-Both g t c = subst (λ p. AreParts (g.N.Names.pid_of c.args.names.now) p c.in_ok-parts-in-Both.parts.items) c.in-Both.ensures c.in_ok-parts-in-Both.ensures

pub parts_of-returns-in_ok-parts-in_default : goal.parts_of-returns-in_ok-parts-in_default
parts_of-returns-in_ok-parts-in_default g t c =
    let pid_of = g.N.Names.pid_of c.args.names.now in
    let p = policy_of c.args.tree.now in
    subst (AreParts pid_of p) (sym c.in_ok-parts-in_default.ensures) (parts-one pid_of p c.in_ok-whole-in_default.whole c.in_ok-whole-in_default.ensures)

pub parts_of_both-returns : goal.parts_of_both-returns
parts_of_both-returns g t c =
    let pid_of = g.N.Names.pid_of c.args.names.now in
    let p = policy_of c.args.first.now in
    let q = policy_of c.args.second.now in
    subst (AreParts pid_of (model.Both p q)) (sym c.in_ok-parts.ensures) (parts-both pid_of p q c.in_ok-left.left.items c.in_ok-right.right.items c.in_ok-left.ensures c.in_ok-right.ensures)
