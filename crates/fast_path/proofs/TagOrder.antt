-- Tags in order are numbers in order.
use Rattle.std.proofs.Common.{◌≡◌, ℕ, ◌<◌, ◌≤◌, true, List, [], ◌∷◌, inl, inr, ap, ◌∙◌, ⊎_elim, arith}
use Rattle.std.specs.Prelude.{◌⊎◌}
use Rattle.std.specs.Cmp.{nat_cmp_is}
use Rattle.std.specs.Ordering.{is_lt, nat_cmp}
use Rattle.std.specs.declared.cmp.Ordering.TheVariants.{Equal, Greater}
use Rattle.std.proofs.lemmas.Bool.{cases_lt, false≢true, lt-ltb}
use Rattle.net_types.specs.Keys.{tag_cmp}
use Rattle.net_types.specs.Sets.{IsRising}
use Rattle.net_types.specs.declared.address.Tag.{Tag}
use Rattle.net_types.proofs.RisingLemmas.{before}
use Rattle.fast_path.specs.Planned.{is_tag_below}
pub use Rattle.net_types.proofs.TieLemmas.{tag_tie}

-- a number that comes before another is less
pub less_from : (a b : ℕ) → is_lt (nat_cmp a b) ≡ true → a < b
less_from a b e = ⊎_elim (λ lt. lt) (λ ge. absurd (not_less (cases_lt b a) ge)) (cases_lt a b)
  where
    not_less : (b < a) ⊎ (a ≤ b) → b ≤ a → ⊥
    not_less (inl gt) ge = let is : Greater ≡ nat_cmp a b = nat_cmp_is a b Greater gt in false≢true (ap is_lt is ∙ e)
    not_less (inr le) ge = let is : Equal ≡ nat_cmp a b = nat_cmp_is a b Equal (omega arith) in false≢true (ap is_lt is ∙ e)

pub rising_tags : (ts : List Tag) → IsRising (before tag_cmp) ts → IsRising is_tag_below ts
rising_tags [] rises = tt
rising_tags (t ∷ ts) rises = (λ u m. lt-ltb t.0 u.0 (less_from t.0 u.0 (rises.0 u m)), rising_tags ts rises.1)
