-- The text of a reply as it is written in pieces.
use Rattle.std.specs.Prelude.{◌<◌, ℕ, List, [], ◌++◌, codes, decimal, drop, flat_map, length}
use Rattle.events.specs.declared.Event.{Event}
use Rattle.events.specs.declared.Flow.{Flow}
use Rattle.events.specs.declared.Reply.{Reply}
use Rattle.events.specs.Text.{advert_text, drop_text, end_line, exchange_text, frame_text, head_text, reply_text, rule_line, tag_text}
use Rattle.replay_text.specs.declared.reply_text.Next.{Next}
use Rattle.replay_text.specs.declared.reply_text.Next.TheVariants.{Start, Rule, End}

-- What stands before the rules: the head line, and the lines of tags and of pairs that go.
abbrev pub before_rules : ℕ → Reply → List ℕ
before_rules n r = decimal n ++ codes " " ++ head_text r.head ++ end_line ++ flat_map tag_text r.tags ++ flat_map drop_text r.drops

-- What stands behind the rules: adverts, the exchanges with the responder, and frames.
abbrev pub behind_rules : Reply → List ℕ
behind_rules r = flat_map advert_text r.adverts ++ flat_map exchange_text r.asks ++ flat_map frame_text r.frames

-- The lines of the rules from a place on.
abbrev pub rules_from : Event → List Flow → ℕ → List ℕ
rules_from e flows place = flat_map (rule_line e) (drop place flows)

-- What is still to come.
abbrev pub to_come : ℕ → Event → Reply → Next → List ℕ
to_come n e r Start = reply_text n e r
to_come n e r (Rule place) = rules_from e r.adds place ++ behind_rules r
to_come n e r End = []

-- There is a rule where one comes next.
abbrev pub IsIn : Reply → Next → Type 0
IsIn r Start = Unit {0}
IsIn r (Rule place) = place < length r.adds
IsIn r End = Unit {0}
