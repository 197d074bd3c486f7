-- What a router hears, and what it knows then.
use Rattle.std.specs.Prelude.{◌≡◌, ℕ, ◌≤◌, List, length, Option, Some, None, if◌then◌else◌}
use Rattle.std.specs.List.{fold}
use Rattle.std.specs.Option.{option_map}
use Rattle.std.specs.FinMap.{FinMap, insert, remove}
use Rattle.net_types.specs.Arp.{arp_reply}
use Rattle.net_types.specs.Keys.{prefix_cmp}
use Rattle.net_types.specs.Octets.{same_octets}
use Rattle.net_types.specs.SoundUpdates.{IsSoundUpdate}
use Rattle.net_types.specs.Updates.{canonical}
use Rattle.net_types.specs.declared.address.Ip.{Ip}
use Rattle.net_types.specs.declared.address.Mac.{Mac}
use Rattle.net_types.specs.declared.prefix.Prefix.{Prefix}
use Rattle.net_types.specs.declared.route.Attrs.{Attrs}
use Rattle.net_types.specs.declared.update.Update.{Update}
use Rattle.border_router.specs.Known.{Known}
use Rattle.border_router.specs.declared.heard.News.{News}

-- the message is the canonical one of a sound update (RFC 4271 4.3)
pub record IsMessageOf (message : List ℕ) (u : Update) : Type 0 where
  pub sound : IsSoundUpdate u
  pub short : length (canonical u) ≤ 4096
  pub is : message ≡ canonical u

-- some sound update has this canonical message
pub record IsMessage (message : List ℕ) : Type 0 where
  pub update : Update
  pub is : IsMessageOf message update

-- what a router keeps of an update
abbrev pub news_of : Update → News
news_of u = record { withdrawn = u.withdrawn; announced = u.announced; next_hop = option_map (λ (a : Attrs). a.next_hop) u.attrs }

-- without these prefixes
abbrev pub withdrawn : List Prefix → FinMap prefix_cmp Ip → FinMap prefix_cmp Ip
withdrawn ps m = fold remove m ps

-- these prefixes have a next hop; where none is told, none is given
abbrev pub announced : List Prefix → Option Ip → FinMap prefix_cmp Ip → FinMap prefix_cmp Ip
announced ps None m = m
announced ps (Some ip) m = fold (λ n p. insert n p ip) m ps

-- withdrawn prefixes go, and then announced ones have the next hop
abbrev pub with_news : News → Known → Known
with_news n k = record k { next_hops = announced n.announced n.next_hop (withdrawn n.withdrawn k.next_hops) }

-- that an address is at a MAC, told to who asked by its own two addresses
pub record Answer : Type 0 where
  pub asker : Mac
  pub ip : Ip
  pub asked : Ip
  pub mac : Mac

-- the frame is the reply that says so (RFC 826)
pub record IsReplyOf (frame : List ℕ) (a : Answer) : Type 0 where
  pub asker_six : length a.asker.0 ≡ 6
  pub mac_six : length a.mac.0 ≡ 6
  pub is : frame ≡ arp_reply a.asker a.ip a.asked a.mac

-- the frame is some reply
pub record IsReply (frame : List ℕ) : Type 0 where
  pub answer : Answer
  pub is : IsReplyOf frame answer

-- the address is resolved where the answer goes to the router's MAC, and otherwise nothing changes
abbrev pub with_answer : Answer → Known → Known
with_answer a k = if same_octets a.asker.0 k.mac.0 then record k { resolved = insert k.resolved a.asked a.mac } else k
