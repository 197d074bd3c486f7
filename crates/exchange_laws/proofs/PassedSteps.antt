-- The policies passed isolation: any line that no refusal stops leaves it so.
use Rattle.events.proofs.Reached.{set_length}
use Rattle.std.proofs.Common.{◌≡◌, ◌⊎◌, ℕ, zero, suc, List, [], ◌∷◌, length, sym, ap, subst, ◌∙◌, refl, arith, inl, inr}
use Rattle.std.specs.Prelude.{Ok, slice_get, slice_set, unwrap_or}
use Rattle.events.specs.State.{State, AreRead, IsRead, owner_of}
use Rattle.events.specs.Tags.{retagged}
use Rattle.events.specs.declared.Event.{Event}
use Rattle.events.specs.declared.Phase.{Phase}
use Rattle.events.specs.declared.Phase.TheVariants.{Declaring, Running}
use Rattle.exchange_laws.proofs.LineSteps.{QuietStep, Step, participant, pool, port, quiet, receives, receiving, resolved, routes, sending, sends, told}
use Rattle.exchange_laws.proofs.Lists.{TableOf}
use Rattle.exchange_laws.proofs.NewStates.{new_passed}
use Rattle.exchange_laws.proofs.Rerouted.{Rerouted}
use Rattle.exchange_laws.specs.Steady.{HavePassed, IsNew}
use Rattle.net_types.specs.Answers.{Policies, policy_of}
use Rattle.net_types.specs.Exports.{pid_of}
use Rattle.net_types.specs.Isolation.{in_faults, out_faults}
use Rattle.net_types.specs.Naming.{named_in}
use Rattle.net_types.specs.Policies.{Policy, Drop}
use Rattle.net_types.specs.PolicyReading.{policy_of_text}
use Rattle.net_types.specs.declared.address.Pid.{Pid}
use Rattle.net_types.specs.declared.route.Participant.{Participant}
use Rattle.net_types.specs.declared.route.PortInfo.{PortInfo}

-- ---- lists

-- the member at a place, or what stands for none
abbrev pub at : {A : Type 0} → List A → ℕ → A → A
at xs k none = unwrap_or (slice_get xs k) none

-- lists that are alike in length, with other members at a place: there stand these, and elsewhere what stood there
pub set_both : {A B : Type 0} (xs : List A) (ys : List B) (k j : ℕ) (x d : A) (y e : B) → length ys ≡ length xs
    → ((at (slice_set xs k x) j d ≡ at xs j d) × (at (slice_set ys k y) j e ≡ at ys j e)) ⊎ ((j ≡ k) × (at (slice_set xs k x) j d ≡ x) × (at (slice_set ys k y) j e ≡ y))
set_both [] [] k j x d y e same = inl (refl, refl)
set_both [] (b ∷ ys) k j x d y e same = absurd (omega arith)
set_both (a ∷ xs) [] k j x d y e same = absurd (omega arith)
set_both (a ∷ xs) (b ∷ ys) zero zero x d y e same = inr (refl, refl, refl)
set_both (a ∷ xs) (b ∷ ys) zero (suc j) x d y e same = inl (refl, refl)
set_both (a ∷ xs) (b ∷ ys) (suc k) zero x d y e same = inl (refl, refl)
set_both (a ∷ xs) (b ∷ ys) (suc k) (suc j) x d y e same = elim (set_both xs ys k j x d y e (omega arith)) [ inl stays ↦ inl stays | inr here ↦ inr (ap suc here.0, here.1, here.2) ]

-- ---- texts

-- as many policies are read as there are texts
read_length : (texts : List (List ℕ)) (ps : List Policy) → AreRead texts ps → length texts ≡ length ps
read_length [] [] read = refl
read_length [] (p ∷ ps) read = absurd read
read_length (t ∷ texts) [] read = absurd read
read_length (t ∷ texts) (p ∷ ps) read = ap suc (read_length texts ps read.1)

pub set_read : (texts : List (List ℕ)) (ps : List Policy) (k : ℕ) (text : List ℕ) (p : Policy) → AreRead texts ps → IsRead text p → AreRead (slice_set texts k text) (slice_set ps k p)
set_read [] [] k text p read is = tt
set_read [] (q ∷ ps) k text p read is = absurd read
set_read (t ∷ texts) [] k text p read is = absurd read
set_read (t ∷ texts) (q ∷ ps) zero text p read is = (is, read.1)
set_read (t ∷ texts) (q ∷ ps) (suc k) text p read is = (read.0, set_read texts ps k text p read.1 is)

-- ---- states

-- what isolation speaks of
pub record Said : Type 0 where
  pub outbound : List (List ℕ)
  pub inbound : List (List ℕ)
  pub participants : List Participant
  pub ports : List PortInfo
  pub named : List (List Pid)

abbrev pub said : State → Said
said s = record { outbound = s.outbound; inbound = s.inbound; participants = s.routing.participants; ports = s.routing.ports; named = s.routing.named }

-- where all that isolation speaks of is the same
pub kept_passed : (s s1 : State) → said s1 ≡ said s → HavePassed s → HavePassed s1
kept_passed s s1 same is =
    let names : pid_of s1.routing ≡ pid_of s.routing = ap (λ (x : Said). pid_of (record s.routing { participants = x.participants })) same in
    let owners : owner_of s1 ≡ owner_of s = ap (λ (x : Said). owner_of (record s { routing = record s.routing { ports = x.ports } })) same in
    let ps : Policies = is.policies in
    let declared : length s1.routing.participants ≡ length s.routing.participants = ap (λ (x : Said). length x.participants) same in record {
      policies = ps;
      read = record {
        names = is.read.names ∙ sym names;
        outbound = subst (λ (x : Said). AreRead x.outbound ps.outbound) (sym same) is.read.outbound;
        inbound = subst (λ (x : Said). AreRead x.inbound ps.inbound) (sym same) is.read.inbound;
      };
      passed = record {
        outbound = λ who. ap (λ f. out_faults ps.named f who (policy_of ps.outbound who)) owners ∙ is.passed.outbound who;
        inbound = λ who. ap (λ f. in_faults f who (policy_of ps.inbound who)) owners ∙ is.passed.inbound who;
        named = λ who. ap (λ (x : Said). at x.named who.0 []) same ∙ is.passed.named who;
      };
      outbound = ap (λ (x : Said). length x.outbound) same ∙ is.outbound ∙ sym declared;
      inbound = ap (λ (x : Said). length x.inbound) same ∙ is.inbound ∙ sym declared;
      named = ap (λ (x : Said). length x.named) same ∙ is.named ∙ sym declared;
    }

-- ---- policies

pub same_pid : (w who : Pid) → w.0 ≡ who.0 → who ≡ w
same_pid w who same = λ i. record { 0 = sym same i }

sends_passed : (s : State) (who : Pid) (text : List ℕ) (p : Policy) → policy_of_text text ≡ Ok p → out_faults (pid_of s.routing) (owner_of s) who p ≡ [] → HavePassed s → HavePassed (sending s who text (named_in (pid_of s.routing) p))
sends_passed s who text p read clear is =
    let ps : Policies = is.policies in
    let named : List Pid = named_in (pid_of s.routing) p in
    let free : out_faults ps.named (owner_of s) who p ≡ [] = ap (λ f. out_faults f (owner_of s) who p) is.read.names ∙ clear in
    let names : named ≡ named_in ps.named p = sym (ap (λ f. named_in f p) is.read.names) in
    let there = λ (w : Pid). set_both ps.outbound s.routing.named who.0 w.0 p Drop named [] (is.named ∙ sym is.outbound ∙ read_length s.outbound ps.outbound is.read.outbound) in record {
      policies = record ps { outbound = slice_set ps.outbound who.0 p };
      read = record { names = is.read.names; outbound = set_read s.outbound ps.outbound who.0 text p is.read.outbound read; inbound = is.read.inbound };
      passed = record {
        outbound = λ w. elim (there w) [
          | inl stays ↦ ap (out_faults ps.named (owner_of s) w) stays.0 ∙ is.passed.outbound w
          | inr here ↦ ap (out_faults ps.named (owner_of s) w) here.1 ∙ subst (λ (x : Pid). out_faults ps.named (owner_of s) x p ≡ []) (same_pid w who here.0) free
        ];
        inbound = is.passed.inbound;
        named = λ w. elim (there w) [
          | inl stays ↦ stays.1 ∙ is.passed.named w ∙ sym (ap (named_in ps.named) stays.0)
          | inr here ↦ here.2 ∙ names ∙ sym (ap (named_in ps.named) here.1)
        ];
      };
      outbound = set_length s.outbound who.0 text ∙ is.outbound;
      inbound = is.inbound;
      named = set_length s.routing.named who.0 named ∙ is.named;
    }

receives_passed : (s : State) (who : Pid) (text : List ℕ) (p : Policy) → policy_of_text text ≡ Ok p → in_faults (owner_of s) who p ≡ [] → HavePassed s → HavePassed (receiving s who text)
receives_passed s who text p read clear is =
    let ps : Policies = is.policies in
    let there = λ (w : Pid). set_both ps.inbound ps.inbound who.0 w.0 p Drop p Drop refl in record {
      policies = record ps { inbound = slice_set ps.inbound who.0 p };
      read = record { names = is.read.names; outbound = is.read.outbound; inbound = set_read s.inbound ps.inbound who.0 text p is.read.inbound read };
      passed = record {
        outbound = is.passed.outbound;
        inbound = λ w. elim (there w) [
          | inl stays ↦ ap (in_faults (owner_of s) w) stays.0 ∙ is.passed.inbound w
          | inr here ↦ ap (in_faults (owner_of s) w) here.1 ∙ subst (λ (x : Pid). in_faults (owner_of s) x p ≡ []) (same_pid w who here.0) clear
        ];
        named = is.passed.named;
      };
      outbound = is.outbound;
      inbound = set_length s.inbound who.0 text ∙ is.inbound;
      named = is.named;
    }

-- ---- each line

pub not_declaring : (phase : Phase) → phase ≡ Declaring → phase ≡ Running → ⊥
not_declaring phase e f = cc

-- before the exchange runs all policies drop
quiet_passed : (s : State) {s1 : State} → QuietStep s s1 → ((s1.phase ≡ Running → ⊥) → IsNew s1) → HavePassed s → HavePassed s1
quiet_passed s {s1} (pool base size capacity start formed) new is = kept_passed s s1 refl is
quiet_passed s {s1} (participant m declaring few) new is = new_passed s1 (new (not_declaring s.phase declaring)).drop
quiet_passed s {s1} (port q declaring declared free number) new is = new_passed s1 (new (not_declaring s.phase declaring)).drop
quiet_passed s {s1} (resolved lists later long rising) new is = kept_passed s s1 refl is

rerouted_passed : (s : State) (e : Event) (after : Rerouted s e) → HavePassed s → HavePassed (retagged s after.routing)
rerouted_passed s e after is =
    kept_passed s (retagged s after.routing)
    (λ i. record { outbound = s.outbound; inbound = s.inbound; participants = after.alike.participants i; ports = after.alike.ports i; named = after.named i }) is

pub step_passed : (s : State) (e : Event) {s1 : State} → Step s e s1 → ((s1.phase ≡ Running → ⊥) → IsNew s1) → HavePassed s → HavePassed s1
step_passed s e (quiet s1 step) new is = quiet_passed s step new is
step_passed s e (routes after later) new is = rerouted_passed s e after is
step_passed s e {s1} (told who entries later known) new is = kept_passed s s1 refl is
step_passed s e (sends who text p later read clear) new is = sends_passed s who text p read clear is
step_passed s e (receives who text p later read clear) new is = receives_passed s who text p read clear is

-- another table changes no policy
pub retabled_passed : (s : State) (table : TableOf) → HavePassed s → HavePassed (record s { table = table })
retabled_passed s table is = kept_passed s (record s { table = table }) refl is
