-- Rules bound one after another.
use Rattle.std.proofs.Common.{◌≡◌, Option, Some, None, List, [], ◌∷◌, ◌++◌, refl, sym, ap, append_assoc}
use Rattle.net_types.specs.declared.export.ExportRule.{ExportRule}
use Rattle.net_types.specs.ExportTexts.{bound_before}

-- rules that are bound, and those behind them
abbrev pub behind : List ExportRule → Option (List ExportRule) → Option (List ExportRule)
behind rs None = None
behind rs (Some others) = Some (rs ++ others)

pub behind-none : (o : Option (List ExportRule)) → behind [] o ≡ o
behind-none None = refl
behind-none (Some others) = refl

-- one rule more
pub behind-one : (rs : List ExportRule) (r : ExportRule) (o : Option (List ExportRule)) → behind rs (bound_before (Some r) o) ≡ behind (rs ++ r ∷ []) o
behind-one rs r None = refl
behind-one rs r (Some others) = ap Some (sym (append_assoc rs (r ∷ []) others))
