-- What becomes of a state where a participant is told anew (this exchange's own rule).
use Rattle.std.specs.Prelude.{◌≡◌, ℕ, true, false, ◌||◌, List, take, Some}
use Rattle.std.specs.FinMap.{FinMap, retain_keys}
use Rattle.events.specs.After.{next, running, settled, with_told}
use Rattle.events.specs.Fits.{IsAccepted, IsTaken}
use Rattle.events.specs.Sound.{IsSound}
use Rattle.events.specs.Pending.{pending, with_all_news}
use Rattle.events.specs.State.{State, port_of, present, told_to}
use Rattle.events.specs.declared.Entry.{Entry}
use Rattle.events.specs.Tags.{is_live, is_live_pair, tells}
use Rattle.events.specs.declared.Event.TheVariants.{Drain, Take}
use Rattle.events.specs.declared.Reply.{Reply}
use Rattle.exchange_laws.specs.Retagging.{KeptAreLive, LiveAreKept, TagsArePooled}
use Rattle.net_types.specs.Exports.{pid_of}
use Rattle.net_types.specs.Keys.{prefix_cmp}
use Rattle.net_types.specs.declared.address.Pid.{Pid}
use Rattle.net_types.specs.declared.address.Tag.{Tag}
use Rattle.net_types.specs.declared.prefix.Prefix.{Prefix}
use Rattle.net_types.specs.declared.route.PortInfo.{PortInfo}
use Rattle.net_types.specs.declared.rule.Pair.{Pair}

-- each tag of the entries was told to the participant, or is present for it
abbrev pub AreKnownTo : State → Pid → FinMap prefix_cmp Entry → Type 0
AreKnownTo s who entries = (t : Tag) → tells entries t ≡ true → (tells (told_to s who) t || tells (present s who) t) ≡ true

-- the state in which a participant was told just these, without the signatures and the rules that are live no more
abbrev pub told_anew : State → Pid → FinMap prefix_cmp Entry → State
told_anew s who entries = let told = settled (running (with_told s who entries)) in record told { table = retain_keys s.table (is_live_pair told) }

-- what is present for a participant is known to it
abbrev pub PresentAreKnown : Type 0
PresentAreKnown = (s : State) (who : Pid) → AreKnownTo s who (present s who)

-- the state is still sound
abbrev pub TellingStaysSound : Type 0
TellingStaysSound = (s : State) (who : Pid) (entries : FinMap prefix_cmp Entry) → IsSound s → AreKnownTo s who entries → IsSound (told_anew s who entries)

-- the live tags are still the pool's
abbrev pub TellingStaysPooled : Type 0
TellingStaysPooled =
    (s : State) (who : Pid) (entries : FinMap prefix_cmp Entry) → TagsArePooled s → AreKnownTo s who entries → TagsArePooled (told_anew s who entries)

-- and each tag that is kept is live
abbrev pub TellingKeepsLive : Type 0
TellingKeepsLive = (s : State) (who : Pid) (entries : FinMap prefix_cmp Entry) → KeptAreLive (told_anew s who entries)

-- and each live tag is kept
abbrev pub TellingStaysKept : Type 0
TellingStaysKept = (s : State) (who : Pid) (entries : FinMap prefix_cmp Entry) → LiveAreKept s → AreKnownTo s who entries → LiveAreKept (told_anew s who entries)

-- a pair that is live no more is one of the participant's ports with a tag that it was told
abbrev pub GonePairsWereTold : Type 0
GonePairsWereTold =
    (s : State) (who : Pid) (entries : FinMap prefix_cmp Entry) (pair : Pair) → is_live_pair s pair ≡ true → is_live_pair (told_anew s who entries) pair ≡ false
    → (q : PortInfo) × (port_of s pair.port ≡ Some q) × (q.owner ≡ who) × (tells (told_to s who) pair.tag ≡ true)

-- a tag that is live no more is one that it was told
abbrev pub GoneTagsWereTold : Type 0
GoneTagsWereTold =
    (s : State) (who : Pid) (entries : FinMap prefix_cmp Entry) (t : Tag) → is_live s t ≡ true → is_live (told_anew s who entries) t ≡ false
    → tells (told_to s who) t ≡ true

-- a participant that takes some of what is pending is told what is present of it
abbrev pub NewsAreKnown : Type 0
NewsAreKnown = (s : State) (who : Pid) (ps : List Prefix) → AreKnownTo s who (with_all_news (present s who) (told_to s who) ps)

-- a participant takes all that is pending with the reply that says so, and the state is the one in which it was told what is present
abbrev pub DrainsAreAccepted : Type 0
DrainsAreAccepted =
    (s : State) (name : List ℕ) (who : Pid) (reply : Reply) → IsSound s → pid_of s.routing name ≡ Some who → IsTaken s (told_anew s who (present s who)) who (pending s who) reply
    → (next s (Drain name) reply ≡ told_anew s who (present s who)) × IsAccepted s (Drain name) reply

-- it takes the first that are pending with the reply that says so, and the state is the one in which it was told what is present of these
abbrev pub TakesAreAccepted : Type 0
TakesAreAccepted =
    (s : State) (name : List ℕ) (who : Pid) (count : ℕ) (reply : Reply) → IsSound s → pid_of s.routing name ≡ Some who
    → let ps = take count (pending s who) in let s1 = told_anew s who (with_all_news (present s who) (told_to s who) ps) in
    IsTaken s s1 who ps reply → (next s (Take name count) reply ≡ s1) × IsAccepted s (Take name count) reply
