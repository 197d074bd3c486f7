-- What holds of the state that a line leaves which names something, or by which routers resolve.
use Rattle.std.proofs.Common.{◌≡◌, ℕ, Bool, true, false, cond, ◌&&◌, List, [], ◌∷◌, ◌++◌, refl}
use Rattle.std.specs.Prelude.{Option, Some, None, slice_set}
use Rattle.std.specs.Option.{option_map_or}
use Rattle.events.specs.After.{with_known}
use Rattle.events.specs.Refusals.{if_known}
use Rattle.events.specs.Resolving.{is_pool_request, port_place, resolved_at, with_answer, with_resolved}
use Rattle.events.specs.State.{State}
use Rattle.events.specs.declared.Refusal.{Refusal}
use Rattle.net_types.specs.Arp.{asked_ip, asker_mac}
use Rattle.net_types.specs.Keys.{ip_cmp}
use Rattle.net_types.specs.Maps.{ordered}
use Rattle.net_types.specs.Octets.{same_octets}
use Rattle.net_types.specs.declared.address.Ip.{Ip}
use Rattle.net_types.specs.declared.address.PortNo.{PortNo}
use Rattle.net_types.specs.declared.route.PortInfo.{PortInfo}

module _ (P : State → Type 0) where
  -- what holds before a line holds after it, where it does for what is known
  pub known_holds : {X : Type 0} (s : State) (o : Option X) (f : X → State) → P s → ((x : X) → P (f x)) → P (with_known s o f)
  known_holds s None f is then = is
  known_holds s (Some x) f is then = then x

  -- where no refusal stops the line, something is known
  pub free_holds : {X : Type 0} (s : State) (o : Option X) (g : X → Option Refusal) (f : X → State) → if_known o g ≡ None → ((x : X) → g x ≡ None → P (f x)) → P (with_known s o f)
  free_holds s None g f none then = absurd (cc)
  free_holds s (Some x) g f none then = then x none

-- what routers resolve changes nothing else
pub resolved_is : (s : State) (n : PortNo) (ips : List Ip) → with_resolved s n ips ≡ record s { resolved = (with_resolved s n ips).resolved }
resolved_is s n ips = by (port_place s n)
  where
    by : (o : Option ℕ) → let f : ℕ → State = λ place. record s { resolved = slice_set s.resolved place (ordered ip_cmp (resolved_at s n ++ ips)) } in option_map_or f o s ≡ record s { resolved = (option_map_or f o s).resolved }
    by None = refl
    by (Some place) = refl

pub answer_is : (s : State) (q : PortInfo) (frame : List ℕ) → with_answer s q frame ≡ record s { resolved = (with_answer s q frame).resolved }
answer_is s q frame = by (is_pool_request s frame && same_octets (asker_mac frame).0 q.mac.0)
  where
    by : (b : Bool) → cond b (with_resolved s q.number (asked_ip frame ∷ [])) s ≡ record s { resolved = (cond b (with_resolved s q.number (asked_ip frame ∷ [])) s).resolved }
    by true = resolved_is s q.number (asked_ip frame ∷ [])
    by false = refl
