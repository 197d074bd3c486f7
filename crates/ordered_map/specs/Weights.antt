-- What values weigh.
use Rattle.std.specs.Prelude.{ℕ, List, sum_by}

-- the values of entries together
abbrev pub weigh : {K V : Type 0} → (V → ℕ) → List (K × V) → ℕ
weigh {K} {V} weight es = sum_by (λ (e : K × V). weight e.1) es
