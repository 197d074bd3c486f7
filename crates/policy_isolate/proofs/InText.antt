-- The faults of what a text spells stand in it in their order.
use Rattle.std.proofs.Common.{◌≡◌, ℕ, ◌<◌, ◌≤◌, ◌==◌, ap, sym, subst, Bool, true, false, Option, Some, None, List, [], ◌∷◌, length, Result, refl, inl, inr, arith}
use Rattle.std.specs.Prelude.{◌⊎◌, IfErr, if◌then◌else◌}
use Rattle.net_types.specs.declared.address.Pid.{Pid}
use Rattle.net_types.specs.declared.address.PortNo.{PortNo}
use Rattle.net_types.specs.declared.headers.Span.{Span}
use Rattle.net_types.specs.declared.isolation.Kind.{Kind}
use Rattle.net_types.specs.declared.isolation.Kind.TheVariants.{OwnName, ForeignPort}
use Rattle.net_types.specs.declared.isolation.IsolateFault.{IsolateFault}
use Rattle.net_types.specs.Sets.{Member}
use Rattle.net_types.specs.Policies.{Target, Name, Number, Test, Inport, Src, Dst, Proto, Sport, Dport, Pred, Yes, Is, Not, And, Or, Policy, Drop, Pass, Block, Fwd, Match, Set, Both, Then}
use Rattle.net_types.specs.PolicyTexts.{SpellsPolicy}
use Rattle.net_types.specs.Isolation.{broken, port_faults, name_faults, pred_faults, out_test, out_target, out_faults, in_test, in_target, in_faults, first_of, IsFirstInText}
use Rattle.policy_syntax.proofs.SpelledSpans.{Between, between_both, between_parts, policy_spans, pred_spans, text_lies}

-- the faults stand one behind another
abbrev Stand : ℕ → ℕ → List IsolateFault → Type 0
Stand lo hi faults = Between (λ (f : IsolateFault). f.span) lo hi faults

-- the spans stand one behind another
abbrev Lie : ℕ → ℕ → List Span → Type 0
Lie lo hi spans = Between (λ s. s) lo hi spans

none_stand : (lo hi : ℕ) (s : Span) → Lie lo hi (s ∷ []) → Stand lo hi []
none_stand lo hi s h = omega (arith, h.0, h.1, h.2)

one_stands : (kind : Kind) (lo hi : ℕ) (s : Span) → Lie lo hi (s ∷ []) → Stand lo hi (broken kind s)
one_stands kind lo hi s h = h

choice_stands : (b : Bool) (lo hi : ℕ) (xs ys : List IsolateFault) → Stand lo hi xs → Stand lo hi ys → Stand lo hi (if b then xs else ys)
choice_stands true lo hi xs ys h k = h
choice_stands false lo hi xs ys h k = k

port_stands : (me : Pid) (who : Option Pid) (s : Span) (lo hi : ℕ) → Lie lo hi (s ∷ []) → Stand lo hi (port_faults me who s)
port_stands me None s lo hi h = h
port_stands me (Some who) s lo hi h = choice_stands (who.0 == me.0) lo hi [] (broken ForeignPort s) (none_stand lo hi s h) h

name_stands : (me : Pid) (who : Option Pid) (s : Span) (lo hi : ℕ) → Lie lo hi (s ∷ []) → Stand lo hi (name_faults me who s)
name_stands me None s lo hi h = h
name_stands me (Some who) s lo hi h = choice_stands (who.0 == me.0) lo hi (broken OwnName s) [] h (none_stand lo hi s h)

module _ (faults : Test → Span → List IsolateFault) (stands : (t : Test) (s : Span) (lo hi : ℕ) → Lie lo hi (s ∷ []) → Stand lo hi (faults t s)) where
  pred_stands : (p : Pred) (lo hi : ℕ) → Lie lo hi (pred_spans p) → Stand lo hi (pred_faults faults p)
  pred_stands Yes lo hi h = h
  pred_stands (Is t s) lo hi h = stands t s lo hi h
  pred_stands (Not p) lo hi h = pred_stands p lo hi h
  pred_stands (And p q) lo hi h =
      let m = between_parts (λ s. s) lo hi (pred_spans p) (pred_spans q) h in
      between_both (λ (f : IsolateFault). f.span) lo m.0 hi (pred_faults faults p) (pred_faults faults q) (pred_stands p lo m.0 m.1) (pred_stands q m.0 hi m.2)
  pred_stands (Or p q) lo hi h =
      let m = between_parts (λ s. s) lo hi (pred_spans p) (pred_spans q) h in
      between_both (λ (f : IsolateFault). f.span) lo m.0 hi (pred_faults faults p) (pred_faults faults q) (pred_stands p lo m.0 m.1) (pred_stands q m.0 hi m.2)

module _ (pid_of : List ℕ → Option Pid) (owner_of : PortNo → Option Pid) (me : Pid) where
  out_test_stands : (t : Test) (s : Span) (lo hi : ℕ) → Lie lo hi (s ∷ []) → Stand lo hi (out_test owner_of me t s)
  out_test_stands (Inport port) s lo hi h = port_stands me (owner_of port) s lo hi h
  out_test_stands (Src p) s lo hi h = none_stand lo hi s h
  out_test_stands (Dst p) s lo hi h = none_stand lo hi s h
  out_test_stands (Proto n) s lo hi h = none_stand lo hi s h
  out_test_stands (Sport n) s lo hi h = none_stand lo hi s h
  out_test_stands (Dport n) s lo hi h = none_stand lo hi s h

  out_target_stands : (t : Target) (s : Span) (lo hi : ℕ) → Lie lo hi (s ∷ []) → Stand lo hi (out_target pid_of me t s)
  out_target_stands (Name name) s lo hi h = name_stands me (pid_of name) s lo hi h
  out_target_stands (Number port) s lo hi h = h

  out_stand : (p : Policy) (lo hi : ℕ) → Lie lo hi (policy_spans p) → Stand lo hi (out_faults pid_of owner_of me p)
  out_stand Drop lo hi h = h
  out_stand Pass lo hi h = h
  out_stand Block lo hi h = h
  out_stand (Fwd t s) lo hi h = out_target_stands t s lo hi h
  out_stand (Match p) lo hi h = pred_stands (out_test owner_of me) out_test_stands p lo hi h
  out_stand (Set a s) lo hi h = h
  out_stand (Both p q) lo hi h =
      let m = between_parts (λ s. s) lo hi (policy_spans p) (policy_spans q) h in
      between_both (λ (f : IsolateFault). f.span) lo m.0 hi (out_faults pid_of owner_of me p) (out_faults pid_of owner_of me q) (out_stand p lo m.0 m.1) (out_stand q m.0 hi m.2)
  out_stand (Then p q) lo hi h =
      let m = between_parts (λ s. s) lo hi (policy_spans p) (policy_spans q) h in
      between_both (λ (f : IsolateFault). f.span) lo m.0 hi (out_faults pid_of owner_of me p) (out_faults pid_of owner_of me q) (out_stand p lo m.0 m.1) (out_stand q m.0 hi m.2)

  in_test_stands : (t : Test) (s : Span) (lo hi : ℕ) → Lie lo hi (s ∷ []) → Stand lo hi (in_test t s)
  in_test_stands (Inport port) s lo hi h = h
  in_test_stands (Src p) s lo hi h = none_stand lo hi s h
  in_test_stands (Dst p) s lo hi h = none_stand lo hi s h
  in_test_stands (Proto n) s lo hi h = none_stand lo hi s h
  in_test_stands (Sport n) s lo hi h = none_stand lo hi s h
  in_test_stands (Dport n) s lo hi h = none_stand lo hi s h

  in_target_stands : (t : Target) (s : Span) (lo hi : ℕ) → Lie lo hi (s ∷ []) → Stand lo hi (in_target owner_of me t s)
  in_target_stands (Name name) s lo hi h = h
  in_target_stands (Number port) s lo hi h = port_stands me (owner_of port) s lo hi h

  in_stand : (p : Policy) (lo hi : ℕ) → Lie lo hi (policy_spans p) → Stand lo hi (in_faults owner_of me p)
  in_stand Drop lo hi h = h
  in_stand Pass lo hi h = h
  in_stand Block lo hi h = h
  in_stand (Fwd t s) lo hi h = in_target_stands t s lo hi h
  in_stand (Match p) lo hi h = pred_stands in_test in_test_stands p lo hi h
  in_stand (Set a s) lo hi h = none_stand lo hi s h
  in_stand (Both p q) lo hi h =
      let m = between_parts (λ s. s) lo hi (policy_spans p) (policy_spans q) h in
      between_both (λ (f : IsolateFault). f.span) lo m.0 hi (in_faults owner_of me p) (in_faults owner_of me q) (in_stand p lo m.0 m.1) (in_stand q m.0 hi m.2)
  in_stand (Then p q) lo hi h =
      let m = between_parts (λ s. s) lo hi (policy_spans p) (policy_spans q) h in
      between_both (λ (f : IsolateFault). f.span) lo m.0 hi (in_faults owner_of me p) (in_faults owner_of me q) (in_stand p lo m.0 m.1) (in_stand q m.0 hi m.2)

-- ---- the first

starts_later : (faults : List IsolateFault) (lo hi : ℕ) → Stand lo hi faults → (other : IsolateFault) → Member other faults → lo ≤ other.span.start
starts_later [] lo hi h other m = absurd m
starts_later (f ∷ fs) lo hi h other (inl e) = omega (arith, h.0, ap (λ (x : IsolateFault). x.span.start) e)
starts_later (f ∷ fs) lo hi h other (inr m) = omega (arith, h.0, h.1, starts_later fs f.span.end hi h.2 other m)

first_stands : (f : IsolateFault) (fs : List IsolateFault) (lo hi : ℕ) → Stand lo hi (f ∷ fs) → IsFirstInText f (f ∷ fs)
first_stands f fs lo hi h = record { one = inl refl; first = λ other m. go other m }
  where
    go : (other : IsolateFault) → Member other (f ∷ fs) → (other ≡ f) ⊎ (f.span.start < other.span.start)
    go other (inl e) = inl e
    go other (inr m) = inr (omega (arith, h.1, starts_later fs f.span.end hi h.2 other m))

told_first : (faults : List IsolateFault) (lo hi : ℕ) → Stand lo hi faults → (r : Result (Unit {0}) IsolateFault) → r ≡ first_of faults → IfErr r (λ fault. IsFirstInText fault faults)
told_first [] lo hi h r e = subst (λ (x : Result (Unit {0}) IsolateFault). IfErr x (λ fault. IsFirstInText fault [])) (sym e) tt
told_first (f ∷ fs) lo hi h r e = subst (λ (x : Result (Unit {0}) IsolateFault). IfErr x (λ fault. IsFirstInText fault (f ∷ fs))) (sym e) (first_stands f fs lo hi h)

-- of a tree that a text spells the fault is the first in the text
pub out_first : (pid_of : List ℕ → Option Pid) (owner_of : PortNo → Option Pid) (me : Pid) (p : Policy) (r : Result (Unit {0}) IsolateFault) → r ≡ first_of (out_faults pid_of owner_of me p)
    → (text : List ℕ) → SpellsPolicy text p → IfErr r (λ fault. IsFirstInText fault (out_faults pid_of owner_of me p))
out_first pid_of owner_of me p r e text sp = told_first (out_faults pid_of owner_of me p) 0 (length text) (out_stand pid_of owner_of me p 0 (length text) (text_lies text p sp)) r e

pub in_first : (owner_of : PortNo → Option Pid) (me : Pid) (p : Policy) (r : Result (Unit {0}) IsolateFault) → r ≡ first_of (in_faults owner_of me p)
    → (text : List ℕ) → SpellsPolicy text p → IfErr r (λ fault. IsFirstInText fault (in_faults owner_of me p))
in_first owner_of me p r e text sp = told_first (in_faults owner_of me p) 0 (length text) (in_stand (λ name. None) owner_of me p 0 (length text) (text_lies text p sp)) r e
