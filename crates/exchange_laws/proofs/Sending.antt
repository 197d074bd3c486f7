-- Where a policy sends packets: where its forwards say, or where they were on their way to.
use Rattle.std.proofs.Common.{◌≡◌, ℕ, Bool, true, false, cond, List, [], ◌∷◌, sym, ap, subst, refl, inl, inr}
use Rattle.std.specs.Prelude.{Option, Some, None}
use Rattle.net_types.specs.Headers.{apply}
use Rattle.net_types.specs.Naming.{forwards, known}
use Rattle.net_types.specs.Policies.{Name, Number, Packet, Policy, Drop, Pass, Block, Fwd, Match, Set, Both, Then, den, holds, to_participant}
use Rattle.net_types.specs.Sets.{Member}
use Rattle.net_types.specs.declared.address.Pid.{Pid}
use Rattle.net_types.specs.declared.headers.Headers.{Headers}
use Rattle.net_types.specs.declared.headers.Loc.{Loc}
use Rattle.net_types.specs.declared.headers.Loc.TheVariants.{Stay, To, Out, Nowhere}
use Rattle.net_types.proofs.SetLemmas.{Member-append_cases, Member-append_left, Member-append_right, union-Member}

-- each place that a forward of a policy sends to has a property
abbrev pub SendsTo : (List ℕ → Option Pid) → (Loc → Type 0) → Policy → Type 0
SendsTo names P Drop = Unit {0}
SendsTo names P Pass = Unit {0}
SendsTo names P Block = Unit {0}
SendsTo names P (Fwd (Name name) span) = (who : Pid) → names name ≡ Some who → P (To who)
SendsTo names P (Fwd (Number port) span) = P (Out port)
SendsTo names P (Match test) = Unit {0}
SendsTo names P (Set set span) = Unit {0}
SendsTo names P (Both p q) = SendsTo names P p × SendsTo names P q
SendsTo names P (Then p q) = SendsTo names P p × SendsTo names P q

module _ (names : List ℕ → Option Pid) (P : Loc → Type 0) (discarded : P Nowhere) where
  one_goes : (h : Headers) (l : Loc) (packet : Packet) → P l → Member packet ((h, l) ∷ []) → P packet.1
  one_goes h l packet there (inl e) = subst P (ap (λ (x : Packet). x.1) (sym e)) there
  one_goes h l packet there (inr m) = absurd m

  matched_goes : (b : Bool) (h : Headers) (l : Loc) (packet : Packet) → P l → Member packet (cond b ((h, l) ∷ []) []) → P packet.1
  matched_goes true h l packet there m = one_goes h l packet there m
  matched_goes false h l packet there m = absurd m

  known_goes : (o : Option Pid) (h : Headers) (packet : Packet) → ((who : Pid) → o ≡ Some who → P (To who)) → Member packet (to_participant h o) → P packet.1
  known_goes None h packet sends m = absurd m
  known_goes (Some who) h packet sends m = one_goes h (To who) packet (sends who refl) m

  -- then each packet goes to a place that has it, where the first one did
  pub goes : (p : Policy) (h : Headers) (l : Loc) (packet : Packet) → SendsTo names P p → P l → Member packet (den names p h l) → P packet.1
  goes Drop h l packet sends there m = absurd m
  goes Pass h l packet sends there m = one_goes h l packet there m
  goes Block h l packet sends there m = one_goes h Nowhere packet discarded m
  goes (Fwd (Name name) span) h l packet sends there m = known_goes (names name) h packet sends m
  goes (Fwd (Number port) span) h l packet sends there m = one_goes h (Out port) packet sends m
  goes (Match test) h l packet sends there m = matched_goes (holds test h) h l packet there m
  goes (Set set span) h l packet sends there m = one_goes (apply set h) l packet there m
  goes (Both p q) h l packet sends there m = elim (Member-append_cases (den names p h l) (den names q h l) packet m) [
    | inl k ↦ goes p h l packet sends.0 there k
    | inr k ↦ goes q h l packet sends.1 there k
  ]
  goes (Then p q) h l packet sends there m =
      let first = union-Member (λ (x : Packet). den names q x.0 x.1) (den names p h l) packet m in
      goes q first.of.0 first.of.1 packet sends.1 (goes p h l first.of sends.0 there first.stands) first.gives

-- ---- whom a policy names

-- a participant to which a packet is on its way is one of these
abbrev pub IsNamed : List Pid → Loc → Type 0
IsNamed named Stay = Unit {0}
IsNamed named (To who) = Member who named
IsNamed named (Out port) = Unit {0}
IsNamed named Nowhere = Unit {0}

all_named : (names : List ℕ → Option Pid) (named : List Pid) (p : Policy) → ((who : Pid) → Member who (forwards names p) → Member who named) → SendsTo names (IsNamed named) p
all_named names named Drop among = tt
all_named names named Pass among = tt
all_named names named Block among = tt
all_named names named (Fwd (Name name) span) among = λ who is. among who (subst (Member who) (ap known (sym is)) (inl refl))
all_named names named (Fwd (Number port) span) among = tt
all_named names named (Match test) among = tt
all_named names named (Set set span) among = tt
all_named names named (Both p q) among = (
  all_named names named p (λ who m. among who (Member-append_left (forwards names p) (forwards names q) who m)),
  all_named names named q (λ who m. among who (Member-append_right (forwards names p) (forwards names q) who m)),
)
all_named names named (Then p q) among = (
  all_named names named p (λ who m. among who (Member-append_left (forwards names p) (forwards names q) who m)),
  all_named names named q (λ who m. among who (Member-append_right (forwards names p) (forwards names q) who m)),
)

-- a policy sends only to those that its forwards name
pub goes_to_named : (names : List ℕ → Option Pid) (p : Policy) (h : Headers) (packet : Packet) → Member packet (den names p h Stay) → IsNamed (forwards names p) packet.1
goes_to_named names p h packet m = goes names (IsNamed (forwards names p)) tt p h Stay packet (all_named names (forwards names p) p (λ who k. k)) tt m

known_Member : (names : List ℕ → Option Pid) (name : List ℕ) (who : Pid) (o : Option Pid) → names name ≡ o → Member who (known o) → (of : List ℕ) × (names of ≡ Some who)
known_Member names name who None is m = absurd m
known_Member names name who (Some other) is (inl same) = (name, subst (λ (x : Pid). names name ≡ Some x) (sym same) is)
known_Member names name who (Some other) is (inr m) = absurd m

-- whom the forwards name has a name
pub forwards_name : (names : List ℕ → Option Pid) (p : Policy) (who : Pid) → Member who (forwards names p) → (name : List ℕ) × (names name ≡ Some who)
forwards_name names Drop who m = absurd m
forwards_name names Pass who m = absurd m
forwards_name names Block who m = absurd m
forwards_name names (Fwd (Name name) span) who m = known_Member names name who (names name) refl m
forwards_name names (Fwd (Number port) span) who m = absurd m
forwards_name names (Match test) who m = absurd m
forwards_name names (Set set span) who m = absurd m
forwards_name names (Both p q) who m = elim (Member-append_cases (forwards names p) (forwards names q) who m) [ inl k ↦ forwards_name names p who k | inr k ↦ forwards_name names q who k ]
forwards_name names (Then p q) who m = elim (Member-append_cases (forwards names p) (forwards names q) who m) [ inl k ↦ forwards_name names p who k | inr k ↦ forwards_name names q who k ]
