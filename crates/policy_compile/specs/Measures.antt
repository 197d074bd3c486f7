-- How large a predicate is.
use Rattle.std.specs.Prelude.{ℕ, ◌+◌}
use Rattle.net_types.specs.Policies.{Pred, Yes, Is, Not, And, Or}

-- the whole and each part count
abbrev pub pred_size : Pred → ℕ
pred_size Yes = 1
pred_size (Is test span) = 1
pred_size (Not p) = pred_size p + 1
pred_size (And p q) = pred_size p + pred_size q + 1
pred_size (Or p q) = pred_size p + pred_size q + 1
