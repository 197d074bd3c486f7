-- One more cell.
use Rattle.std.proofs.Common.{◌≡◌, ◌++◌, ◌∷◌, List, inl, length, arith, ap, refl, sym, subst, ◌∙◌}
use Rattle.std.proofs.lemmas.List.{length-map}
use Rattle.classifier.specs.declared.line.Line.{Line}
use Rattle.net_types.proofs.SetLemmas
use Rattle.net_types.specs.Sets.{Member}
use Rattle.net_types.specs.declared.cube.Cube.{Cube}
use Rattle.std.specs.List.{slice_get}
use Rattle.std.proofs.Common.{Some}
use Rattle.block_build.specs.ByCells.{beside_them}
use Rattle.block_build.proofs.ByCellLemmas.{cube-at}
use Rattle.block_build.proofs.RowLemmas.{one-known}
use Rattle.block_build.proofs.rows.beside_each.Goals as goal

pub beside_them-requires-clause-cell : goal.beside_them-requires-clause-cell
beside_them-requires-clause-cell c =
    let s = c.args.sent.now.sending.now in
    let f = beside_them s.best s.offers.now s.rules.now c.args.receivers.now in
    let long : c.len-n.result ≡ length c.loop-z.more.items = omega (arith, c.len-n.ensures, c.loop-z.more.ok) in
    let place : c.len-n.result ≡ length c.loop-z.yielded = long ∙ ap (λ (zs : List Line). length zs) c.loop-z.invariant.made ∙ length-map c.loop-z.yielded f in
    let left : c.loop-z.yielded ++ c.in-Some.z ∷ c.next.new.self.rest.items ≡ c.args.lines.items = ap (λ (zs : List Line). c.loop-z.yielded ++ zs) (sym c.in-Some.ensures.steps.0) ∙ c.loop-z.invariant.left in
    subst (λ (cells : List Cube). slice_get cells c.len-n.result ≡ Some c.in-Some.z.cube) c.requires.cells (cube-at c.loop-z.yielded c.in-Some.z c.next.new.self.rest.items c.args.lines.items c.len-n.result place left)

pub beside_them-requires-clause-known : goal.beside_them-requires-clause-known
beside_them-requires-clause-known c =
    let left : c.loop-z.yielded ++ c.in-Some.z ∷ c.next.new.self.rest.items ≡ c.args.lines.items = ap (λ (zs : List Line). c.loop-z.yielded ++ zs) (sym c.in-Some.ensures.steps.0) ∙ c.loop-z.invariant.left in
    one-known c.args.sent.now.cells.now c.args.lines.items c.args.known.now c.args.receivers.now c.in-Some.z c.requires.known
    (subst (Member c.in-Some.z) left (SetLemmas.Member-append_right c.loop-z.yielded (c.in-Some.z ∷ c.next.new.self.rest.items) c.in-Some.z (inl refl)))
