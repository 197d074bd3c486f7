-- What the participants are offered at the end of a job (this exchange's own rule).
use Rattle.std.specs.Prelude.{List, [], ◌∷◌, Option, Some, None}
use Rattle.std.specs.FinMap.{get}
use Rattle.events.specs.declared.Entry.{Entry}
use Rattle.fast_path.specs.Offers.{Present, present_to}
use Rattle.fast_path.specs.declared.planned.Advert.{Advert}
use Rattle.net_types.specs.Sets.{union_over}
use Rattle.net_types.specs.declared.address.Pid.{Pid}
use Rattle.net_types.specs.declared.address.Tag.{Tag}
use Rattle.net_types.specs.declared.prefix.Prefix.{Prefix}

-- a prefix with the tag that it moves to
abbrev pub Move : Type 0
Move = Prefix × Tag

-- what is present of a moved prefix, with the new tag; nothing where nothing is
abbrev pub retold : Pid → Move → Option Entry → List Advert
retold who m None = []
retold who m (Some e) = record { who = who; prefix = m.0; entry = Some (record { attrs = e.attrs; tag = m.1 }) } ∷ []

-- what a participant is offered of a moved prefix
abbrev pub offers_to : Present → Pid → Move → List Advert
offers_to all who m = retold who m (get (present_to all who) m.0)

-- what it is offered of each of the moved prefixes
abbrev pub offers_at : Present → List Move → Pid → List Advert
offers_at all moves who = union_over (offers_to all who) moves

-- and what these participants are offered, one after the other
abbrev pub offers_of : Present → List Pid → List Move → List Advert
offers_of all whos moves = union_over (offers_at all moves) whos
