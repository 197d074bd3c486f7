-- Lines that leave the routes as they were (this exchange's own rule).
use Rattle.std.specs.Prelude.{◌≡◌, ℕ, ◌≤◌, [], Option, MatchOption}
use Rattle.events.specs.After.{running}
use Rattle.events.specs.Fits.{IsBuilt, bare, none_rebuilt}
use Rattle.events.specs.State.{State}
use Rattle.events.specs.Tags.{groups, retagged}
use Rattle.events.specs.declared.Head.TheVariants.{Fine}
use Rattle.exchange_laws.specs.Retagging.{KeptAreLive, TagsArePooled}
use Rattle.exchange_laws.specs.Rules.{IsTagged}

-- by the same routes no prefix changes
abbrev pub NoGroups : Type 0
NoGroups = (s : State) → IsTagged s → groups s s.routing ≡ []

-- a job, where one runs, owes no more than a job may owe
abbrev pub OwesFew : Option ℕ → Type 0
OwesFew owed = MatchOption owed (Unit {0}) (λ n. n ≤ 1125899906842624)

-- by the same routes the tags and the signatures are the same, and a job owes no more
abbrev pub RoutesStay : Type 0
RoutesStay = (s : State) → IsTagged s → TagsArePooled s → KeptAreLive s → OwesFew s.owed → retagged s s.routing ≡ running s

-- nothing is said where neither tags nor rules change
abbrev pub NothingIsSaid : Type 0
NothingIsSaid = (s s1 : State) → s1.table ≡ s.table → s1.tag ≡ s.tag → IsBuilt s s1 none_rebuilt (bare Fine)
