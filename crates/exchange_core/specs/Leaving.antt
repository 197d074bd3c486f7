-- What becomes of a datagram by a tag that was told.
use Rattle.std.specs.Prelude.{ℕ, List, ◌++◌, drop, if◌then◌else◌}
use Rattle.events.specs.Fits.{bare, by_table}
use Rattle.events.specs.Resolving.{is_resolved, tag_address}
use Rattle.events.specs.State.{State}
use Rattle.events.specs.declared.Head.TheVariants.{Fine, Unresolved}
use Rattle.events.specs.declared.Reply.{Reply}
use Rattle.net_types.specs.Frames.{tag_mac}
use Rattle.net_types.specs.declared.address.Tag.{Tag}
use Rattle.net_types.specs.declared.route.PortInfo.{PortInfo}

-- the frame goes to the tag's MAC where the router has resolved the tag's address
abbrev pub sent_by : State → PortInfo → Tag → List ℕ → Reply
sent_by s q t frame =
    if is_resolved s q.number (tag_address s t)
    then record (bare Fine) { frames = by_table s q (tag_mac t ++ drop 6 frame) }
    else bare (Unresolved (tag_address s t))
