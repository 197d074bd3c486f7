-- What is present, where it is kept as what was told and what is news.
use Rattle.std.specs.Prelude.{◌≡◌, ℕ, ◌≤◌, min, List, [], ◌∷◌, Option, Some, None, IfSome, if◌then◌else◌}
use Rattle.std.specs.FinMap.{FinMap, get}
use Rattle.std.specs.FinMap.Entries.{find, put}
use Rattle.std.specs.Option.{option_map}
use Rattle.events.specs.Pending.{same_entry, with_news}
use Rattle.events.specs.declared.Entry.{Entry}
use Rattle.net_types.specs.Attributes.{same_option}
use Rattle.net_types.specs.Keys.{prefix_cmp}
use Rattle.net_types.specs.Sets.{Member}
use Rattle.net_types.specs.declared.address.Ip.{Ip}
use Rattle.net_types.specs.declared.address.Tag.{Tag}
use Rattle.net_types.specs.declared.prefix.Prefix.{Prefix}
use Rattle.ordered_map.specs.Entries.{without}
use Rattle.advert_queue.specs.Telling.{advert_with}

-- a prefix with its entry now, or with none where there is none any more
abbrev pub Change : Type 0
Change = Prefix × Option Entry

-- a map with all these changes made
abbrev pub changed : FinMap prefix_cmp Entry → List Change → FinMap prefix_cmp Entry
changed told [] = told
changed told (c ∷ cs) = changed (with_news told c.0 c.1) cs

-- each change is one: something else was told
abbrev pub AreNews : FinMap prefix_cmp Entry → List Change → Type 0
AreNews told cs = (p : Prefix) (now : Option Entry) → find prefix_cmp p cs ≡ Some now → ¬ get told p ≡ now

-- the changes once an entry, or none, is present at a prefix, of which this was told
abbrev pub noted : Option Entry → Prefix → Option Entry → List Change → List Change
noted was p now cs = if same_option same_entry was now then without prefix_cmp p cs else put prefix_cmp p now cs

-- no entry has a tag above 65536
abbrev pub AreSmall : List Change → Type 0
AreSmall cs = (c : Change) → Member c cs → IfSome c.1 (λ (e : Entry). e.tag.0 ≤ 65536)

-- the message that tells a change
abbrev pub message_of : Ip → Change → List ℕ
message_of base c = advert_with base c.0 c.1

-- the tag of an entry, where there is one
abbrev pub tag_in : Option Entry → Option Tag
tag_in entry = option_map (λ (e : Entry). e.tag) entry

-- how many of so many are taken
abbrev pub limited : Option ℕ → ℕ → ℕ
limited None n = n
limited (Some count) n = min count n
