-- The line that sends a datagram is a step.
use Rattle.std.proofs.Common.{◌≡◌, ℕ, ◌<◌, ◌≤◌, ◌^◌, Bool, true, false, cond, not, List, ◌++◌, length, drop, ap, ◌∙◌, refl, sym, subst}
use Rattle.std.specs.Prelude.{Option, Some, None, IfSome, MatchOption, slice_get, slice_index, unwrap_or}
use Rattle.std.specs.Borrow.{Bor}
use Rattle.std.specs.FinMap.{FinMap, empty, get, keys}
use Rattle.std.specs.Option.{option_map}
use Rattle.events.specs.After.{running}
use Rattle.events.specs.Forms.{IsWellFormed}
use Rattle.events.specs.Fits.{bare, by_table, tagged_frame, IsForwarded, IsSent, IsStep, IsTagged}
use Rattle.events.specs.Refusals.{if_known, is_datagram, refusal, refused_if}
use Rattle.events.specs.Resolving.{is_resolved, tag_address}
use Rattle.events.specs.State.{State, port_of, told_to}
use Rattle.events.specs.declared.Entry.{Entry}
use Rattle.events.specs.declared.Event.TheVariants.{Packet}
use Rattle.events.specs.declared.Head.TheVariants.{Fine, Unresolved, Unrouted}
use Rattle.events.specs.declared.Refusal.TheVariants.{BadPacket}
use Rattle.events.specs.declared.Reply.{Reply}
use Rattle.net_types.specs.Frames.{destination, framed, headers_of, tag_mac}
use Rattle.net_types.specs.Keys.{prefix_cmp}
use Rattle.net_types.specs.Routes.{longest_of}
use Rattle.net_types.specs.declared.address.Mac.{Mac}
use Rattle.net_types.specs.declared.address.PortNo.{PortNo}
use Rattle.net_types.specs.declared.headers.Headers.{Headers}
use Rattle.net_types.specs.declared.prefix.Prefix.{Prefix}
use Rattle.net_types.specs.declared.route.PortInfo.{PortInfo}
use Rattle.next_hop_pool.specs.Free.{Tags}
use Rattle.exchange_core.specs.Leaving.{sent_by}
use Rattle.exchange_core.specs.Placed.{is_declared}
use Rattle.exchange_core.specs.declared.programs.Programs.{Programs}
use Rattle.exchange_core.specs.View.{IsKept}
use Rattle.exchange_laws.proofs.PoolTags.{told_small}
use Rattle.exchange_laws.proofs.Forwarded.{forwarded}
use Rattle.exchange_laws.proofs.Framing.{destination_is, is_datagram-none, is_datagram-some, readdressed, tagged_octets}
use Rattle.exchange_core.proofs.Steps.{in_place, kept_after, placed, quiet_step}
use Rattle.exchange_core.proofs.Stops.{stops_at}
use Rattle.exchange_core.specs.Stops.{IsStop}
use Rattle.exchange_core.specs.declared.stop.Stop.{Stop}
use Rattle.exchange_core.specs.declared.stop.Stop.TheVariants.{Refused}

-- a datagram that isn't one is refused
pub no_packet : (s st : State) → s ≡ st → is_declared s.phase ≡ true → (port : PortNo) (bytes : List ℕ) (q : PortInfo) → port_of s port ≡ Some q → (to : Mac) → length to.0 ≡ 6 → length q.mac.0 ≡ 6
    → (frame : List ℕ) → frame ≡ framed to q.mac bytes → headers_of port frame ≡ None → (stop : Stop) → stop ≡ Refused BadPacket → IsStop st (Packet port bytes) stop
no_packet s st is ready port bytes q found to six_to six_from frame is_framed none stop says =
    stops_at s st (Packet port bytes) stop BadPacket is says
    (in_place s (Packet port bytes) (placed (Packet port bytes) refl refl s.phase ready) ∙ ap (λ o. if_known o (λ x. refused_if (not (is_datagram bytes)) BadPacket)) found
    ∙ ap (λ b. refused_if (not b) BadPacket) (is_datagram-none port to q.mac bytes six_to six_from (ap (headers_of port) (sym is_framed) ∙ none)))

-- the reply by what was found
abbrev pub reply_by : State → PortInfo → List ℕ → Option Entry → Reply
reply_by s q frame None = bare Unrouted
reply_by s q frame (Some e) = sent_by s q e.tag frame

module _ (s : State) (pool : Tags) {all : List Programs} (kept : IsKept s pool all) (port : PortNo) (q : PortInfo) (found : port_of s port ≡ Some q) (entries : FinMap prefix_cmp Entry) (told_is : slice_get s.told q.owner.0 ≡ Some entries)
    (bytes frame0 : List ℕ) (to : Mac) (h : Headers) (six_to : length to.0 ≡ 6) (six_from : length q.mac.0 ≡ 6) (low_port : port.0 < 2 ^ 16) (is_framed : frame0 ≡ framed to q.mac bytes)
    (octets : (k : ℕ) → slice_index frame0 k < 256) (read : headers_of port frame0 ≡ Some h) where
  told_map : told_to s q.owner ≡ entries
  told_map = ap (λ o. unwrap_or o empty) told_is

  read_framed : headers_of port (framed to q.mac bytes) ≡ Some h
  read_framed = ap (headers_of port) (sym is_framed) ∙ read

  datagram : is_datagram bytes ≡ true
  datagram = is_datagram-some port to q.mac bytes h six_to six_from read_framed

  module _ (p : Prefix) (told : Entry) (has : get (told_to s q.owner) p ≡ Some told) (small : told.tag.0 ≤ 65536) where
    abbrev frame : List ℕ
    frame = tagged_frame q told.tag bytes

    frame_octets : (k : ℕ) → slice_index frame k < 256
    frame_octets =
        subst (λ f. (k : ℕ) → slice_index f k < 256) (readdressed q told.tag to bytes six_to six_from)
        (tagged_octets told.tag (framed to q.mac bytes) small (subst (λ f. (k : ℕ) → slice_index f k < 256) is_framed octets))

    is_forwarded : IsForwarded s q bytes p told (record (bare Fine) { frames = by_table s q frame })
    is_forwarded = forwarded s kept.steady port q found bytes six_from low_port datagram p told has frame_octets

    tagged_case : (b : Bool) → IsTagged b s q bytes p told (cond b (record (bare Fine) { frames = by_table s q frame }) (bare (Unresolved (tag_address s told.tag))))
    tagged_case true = is_forwarded
    tagged_case false = refl

    sent_right : IsSent s q bytes (sent_by s q told.tag frame0) (Some p)
    sent_right =
        let b : Bool = is_resolved s q.number (tag_address s told.tag) in
        let same : tag_mac told.tag ++ drop 6 frame0 ≡ frame = ap (λ f. tag_mac told.tag ++ drop 6 f) is_framed ∙ readdressed q told.tag to bytes six_to six_from in
        subst (λ o. MatchOption o ⊥ (λ e. IsTagged (is_resolved s q.number (tag_address s e.tag)) s q bytes p e (sent_by s q told.tag frame0))) (sym has)
        (subst (λ f. IsTagged b s q bytes p told (cond b (record (bare Fine) { frames = by_table s q f }) (bare (Unresolved (tag_address s told.tag))))) (sym same) (tagged_case b))

  -- the reply to what the router finds: the longest prefix with its entry
  right : (o : Option (Prefix × Bor Entry)) → IfSome o (λ e. Some e.1.now ≡ get entries e.0) → IsSent s q bytes (reply_by s q frame0 (option_map (λ (e : Prefix × Bor Entry). e.1.now) o)) (option_map (λ (e : Prefix × Bor Entry). e.0) o)
  right None has = refl
  right (Some e) has =
      let there : get entries e.0 ≡ Some e.1.now = sym has in
      sent_right e.0 e.1.now (ap (λ (m : FinMap prefix_cmp Entry). get m e.0) told_map ∙ there) (told_small kept.steady q.owner.0 entries told_is e.0 e.1.now there)

  longest : longest_of (keys (told_to s q.owner)) (destination bytes) ≡ longest_of (keys entries) h.dst
  longest = ap (λ (m : FinMap prefix_cmp Entry). longest_of (keys m) (destination bytes)) told_map ∙ ap (longest_of (keys entries)) (sym (destination_is port to q.mac bytes h six_to six_from read_framed))

  not_refused : is_declared s.phase ≡ true → refusal s (Packet port bytes) ≡ None
  not_refused ready =
      in_place s (Packet port bytes) (placed (Packet port bytes) refl refl s.phase ready)
      ∙ ap (λ o. if_known o (λ x. refused_if (not (is_datagram bytes)) BadPacket)) found
      ∙ ap (λ b. refused_if (not b) BadPacket) datagram

  -- the reply that comes of what is found is right
  pub packet_step : is_declared s.phase ≡ true → IsWellFormed (Packet port bytes) → (o : Option (Prefix × Bor Entry)) → option_map (λ (e : Prefix × Bor Entry). e.0) o ≡ longest_of (keys entries) h.dst → IfSome o (λ e. Some e.1.now ≡ get entries e.0)
      → (r : Reply) → r ≡ reply_by s q frame0 (option_map (λ (e : Prefix × Bor Entry). e.1.now) o) → IsStep s (Packet port bytes) r (running s)
  packet_step ready formed o longer has r is =
      quiet_step s (Packet port bytes) r kept.steady formed refl (not_refused ready) refl
      (subst (λ x. MatchOption x ⊥ (λ y. IsSent s y bytes r (longest_of (keys (told_to s y.owner)) (destination bytes)))) (sym found)
      (subst (IsSent s q bytes r) (longer ∙ sym longest) (subst (λ x. IsSent s q bytes x (option_map (λ (e : Prefix × Bor Entry). e.0) o)) (sym is) (right o has))))

  pub packet_kept : is_declared s.phase ≡ true → IsWellFormed (Packet port bytes) → (o : Option (Prefix × Bor Entry)) → option_map (λ (e : Prefix × Bor Entry). e.0) o ≡ longest_of (keys entries) h.dst → IfSome o (λ e. Some e.1.now ≡ get entries e.0) → IsKept (running s) pool all
  packet_kept ready formed o longer has =
      let r : Reply = reply_by s q frame0 (option_map (λ (e : Prefix × Bor Entry). e.1.now) o) in
      kept_after s (Packet port bytes) r (running s) pool kept formed refl (packet_step ready formed o longer has r refl) refl refl refl _ kept.compiled
