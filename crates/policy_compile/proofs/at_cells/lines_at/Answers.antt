use Rattle.std.proofs.Common.{List, Some, ap, ◌∙◌, sym, subst}
use Rattle.std.specs.List.{slice_get}
use Rattle.net_types.specs.declared.headers.Loc.{Loc}
use Rattle.policy_syntax.specs.Views.{policy_of}
use Rattle.policy_compile.specs.Covered.{Covers}
use Rattle.policy_compile.proofs.at_cells.lines_at.Goals as goal

pub lines_by-requires-clause-covers : goal.lines_by-requires-clause-covers
lines_by-requires-clause-covers g c =
    subst (λ (ls : List Loc). Covers (g.N.Names.pid_of c.args.names.now) (policy_of c.args.tree.now) ls) (sym c.deref.ensures.value) c.in_ok-locations.ensures.covers

pub lines_by-requires-clause-first : goal.lines_by-requires-clause-first
lines_by-requires-clause-first g c = ap (λ (ls : List Loc). slice_get ls 0) c.deref.ensures.value ∙ c.in_ok-locations.ensures.first
