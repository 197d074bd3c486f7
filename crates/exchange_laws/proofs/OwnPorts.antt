-- What an inbound policy that passed isolation makes of a packet leaves by ports of its own participant.
use Rattle.std.proofs.Common.{◌≡◌, ℕ, Bool, true, false, cond, nat_eq, List, [], ◌∷◌, ◌++◌, ap, ◌∙◌, refl, inl, inr}
use Rattle.std.specs.Prelude.{Option, Some, None, ◌⊎◌}
use Rattle.std.proofs.lemmas.Bool.{eqb-true}
use Rattle.net_types.specs.Answers.{Leaving, leaves_by, or_unchanged, received}
use Rattle.net_types.specs.Isolation.{broken, in_faults, port_faults}
use Rattle.net_types.specs.Policies.{Name, Number, Packet, Policy, Drop, Pass, Block, Fwd, Match, Set, Both, Then, den}
use Rattle.net_types.specs.Sets.{Member}
use Rattle.net_types.specs.declared.address.Pid.{Pid}
use Rattle.net_types.specs.declared.address.PortNo.{PortNo}
use Rattle.net_types.specs.declared.headers.Headers.{Headers}
use Rattle.net_types.specs.declared.headers.Loc.{Loc}
use Rattle.net_types.specs.declared.headers.Loc.TheVariants.{Stay, To, Out, Nowhere}
use Rattle.net_types.specs.declared.headers.Span.{Span}
use Rattle.net_types.specs.declared.isolation.Kind.TheVariants.{ForeignPort}
use Rattle.net_types.proofs.SetLemmas.{union-Member}
use Rattle.exchange_laws.proofs.Sending.{SendsTo, goes}

-- lists that have no member together have none
pub empty_parts : {A : Type 0} (xs ys : List A) → xs ++ ys ≡ [] → (xs ≡ []) × (ys ≡ [])
empty_parts [] ys e = (refl, e)
empty_parts (x ∷ xs) ys e = absurd (cc)

pub own_port : (me : Pid) (o : Option Pid) (span : Span) → port_faults me o span ≡ [] → o ≡ Some me
own_port me None span none = absurd (cc)
own_port me (Some who) span none = by (nat_eq who.0 me.0) refl none
  where
    by : (b : Bool) → nat_eq who.0 me.0 ≡ b → cond b [] (broken ForeignPort span) ≡ [] → Some who ≡ Some me
    by true same none = ap (λ n. Some (record { 0 = n })) (eqb-true who.0 me.0 same)
    by false same none = absurd (cc)

module _ (owner_of : PortNo → Option Pid) (me : Pid) where
  -- a port by which a packet leaves is the participant's own
  abbrev IsOwn : Loc → Type 0
  IsOwn Stay = Unit {0}
  IsOwn (To who) = Unit {0}
  IsOwn (Out port) = owner_of port ≡ Some me
  IsOwn Nowhere = Unit {0}

  sends_to_own : (names : List ℕ → Option Pid) (p : Policy) → in_faults owner_of me p ≡ [] → SendsTo names IsOwn p
  sends_to_own names Drop none = tt
  sends_to_own names Pass none = tt
  sends_to_own names Block none = tt
  sends_to_own names (Fwd (Name name) span) none = λ who is. tt
  sends_to_own names (Fwd (Number port) span) none = own_port me (owner_of port) span none
  sends_to_own names (Match test) none = tt
  sends_to_own names (Set set span) none = tt
  sends_to_own names (Both p q) none = let parts = empty_parts (in_faults owner_of me p) (in_faults owner_of me q) none in (sends_to_own names p parts.0, sends_to_own names q parts.1)
  sends_to_own names (Then p q) none = let parts = empty_parts (in_faults owner_of me p) (in_faults owner_of me q) none in (sends_to_own names p parts.0, sends_to_own names q parts.1)

  left_by_own : (port : PortNo) (h : Headers) (to : Loc) (l : Leaving) → IsOwn to → Member l (leaves_by port h to) → (l.port ≡ port) ⊎ (owner_of l.port ≡ Some me)
  left_by_own port h Stay l own (inl e) = inl (ap (λ (x : Leaving). x.port) e)
  left_by_own port h Stay l own (inr m) = absurd m
  left_by_own port h (To who) l own m = absurd m
  left_by_own port h (Out n) l own (inl e) = inr (ap (λ (x : Leaving). owner_of x.port) e ∙ own)
  left_by_own port h (Out n) l own (inr m) = absurd m
  left_by_own port h Nowhere l own m = absurd m

  unchanged_by_own : (port : PortNo) (h : Headers) (packets : List Packet) (l : Leaving) → ((packet : Packet) → Member packet packets → IsOwn packet.1) → Member l (or_unchanged port h packets) → (l.port ≡ port) ⊎ (owner_of l.port ≡ Some me)
  unchanged_by_own port h [] l own (inl e) = inl (ap (λ (x : Leaving). x.port) e)
  unchanged_by_own port h [] l own (inr m) = absurd m
  unchanged_by_own port h (packet ∷ packets) l own m =
      let from = union-Member (λ (x : Packet). leaves_by port x.0 x.1) (packet ∷ packets) l m in
      left_by_own port from.of.0 from.of.1 l (own from.of from.stands) from.gives

  -- what is received leaves by the port of the NEXT_HOP, or by one of the receiver's own
  pub leaves_by_own : (names : List ℕ → Option Pid) (inbound : Policy) (port : PortNo) (h : Headers) (l : Leaving) → in_faults owner_of me inbound ≡ [] → Member l (received names inbound port h) → (l.port ≡ port) ⊎ (owner_of l.port ≡ Some me)
  leaves_by_own names inbound port h l none m =
      unchanged_by_own port h (den names inbound h Stay) l (λ packet k. goes names IsOwn tt inbound h Stay packet (sends_to_own names inbound none) tt k) m
