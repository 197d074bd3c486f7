-- Numbers that fit their types in an update, as they do in each value of the program.
use Rattle.net_types.specs.Sets.{Each}
use Rattle.std.specs.Prelude.{ℕ, ◌<◌, Option, Some, None}
use Rattle.net_types.specs.declared.route.Aggregator.{Aggregator}
use Rattle.net_types.specs.declared.route.Attrs.{Attrs}

-- MULTI_EXIT_DISC has 32 bits
abbrev pub FitsMed : Option ℕ → Type 0
FitsMed None = Unit {0}
FitsMed (Some n) = n < 4294967296

-- an aggregator's address has 32 bits
abbrev pub FitsAggregator : Option Aggregator → Type 0
FitsAggregator None = Unit {0}
FitsAggregator (Some a) = a.ip.0 < 4294967296

-- the numbers of attributes are in the ranges of their types
pub record FitAttrs (a : Attrs) : Type 0 where
  pub med : FitsMed a.med
  pub aggregator : FitsAggregator a.aggregator
  pub communities : Each (λ n. n < 4294967296) a.communities

-- attributes that are there are in the ranges of their types
abbrev pub FitOptional : Option Attrs → Type 0
FitOptional None = Unit {0}
FitOptional (Some a) = FitAttrs a
