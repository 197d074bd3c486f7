-- What a participant that takes some of what is pending is told, and which tags go (this exchange's own rule).
use Rattle.std.specs.Prelude.{ℕ, not, List, [], ◌∷◌, filter, take, Option, Some, None}
use Rattle.std.specs.FinMap.{FinMap}
use Rattle.events.specs.Pending.{with_all_news}
use Rattle.events.specs.declared.Entry.{Entry}
use Rattle.net_types.specs.Keys.{prefix_cmp}
use Rattle.net_types.specs.declared.address.Tag.{Tag}
use Rattle.net_types.specs.declared.prefix.Prefix.{Prefix}
use Rattle.advert_queue.specs.Advertised.{is_told}
use Rattle.advert_queue.specs.Telling.{pending, tags_of}

-- the first of a list, at most so many, or all where there is no limit
abbrev pub first_of : {A : Type 0} → Option ℕ → List A → List A
first_of None xs = xs
first_of (Some count) xs = take count xs

-- the prefixes that are taken
abbrev pub news_of : Option ℕ → FinMap prefix_cmp Entry → FinMap prefix_cmp Entry → List Prefix
news_of limit told present = first_of limit (pending told present)

-- what was told where these prefixes are told too: what is present, where they are all that was pending
abbrev pub told_by : Option ℕ → FinMap prefix_cmp Entry → FinMap prefix_cmp Entry → List Prefix → FinMap prefix_cmp Entry
told_by None told present ps = present
told_by (Some count) told present ps = with_all_news present told ps

-- what a participant was told once it took so many, or all
abbrev pub told_then : Option ℕ → FinMap prefix_cmp Entry → FinMap prefix_cmp Entry → FinMap prefix_cmp Entry
told_then limit told present = told_by limit told present (news_of limit told present)

-- those of the tags that nobody was told
abbrev pub untold : List (FinMap prefix_cmp Entry) → List Tag → List Tag
untold told ts = filter (λ t. not (is_told told t)) ts

-- the tags that were told, and that are neither told then nor present
abbrev pub gone_tags : FinMap prefix_cmp Entry → FinMap prefix_cmp Entry → FinMap prefix_cmp Entry → List Tag
gone_tags told then present = untold (then ∷ []) (untold (present ∷ []) (tags_of told))
