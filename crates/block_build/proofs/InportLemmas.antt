-- The cubes of right rules have no inport, where those of the receivers have none.
use Rattle.std.proofs.Common.{◌≡◌, ℕ, suc, Bool, true, false, cond, Option, Some, None, List, [], ◌∷◌, refl, inl, inr, sym, ap, ◌∙◌, arith}
use Rattle.std.specs.Prelude.{nat_eq}
use Rattle.std.proofs.lemmas.Bool.{and_parts, and_from, eqb-true}
use Rattle.classifier.specs.Meaning as lines
use Rattle.net_types.proofs.CubeLemmas.{fields-from_has, has-from_fields, has-met, witness}
use Rattle.net_types.proofs.SetLemmas
use Rattle.net_types.specs.Cells.{freed, freed_from}
use Rattle.net_types.specs.Cubes.{has, agrees, same_port, meet_cubes}
use Rattle.net_types.specs.Meets.{IsMeet}
use Rattle.net_types.specs.Sets.{Member, union_over}
use Rattle.net_types.specs.declared.address.PortNo.{PortNo}
use Rattle.net_types.specs.declared.cube.Cube.{Cube}
use Rattle.net_types.specs.declared.headers.Headers.{Headers}
use Rattle.net_types.specs.declared.route.Offer.{Offer}
use Rattle.block_build.specs.Laws.{NoInports}
use Rattle.block_build.specs.Right.{view_atoms}
use Rattle.block_build.specs.Views.{inbound_of}

-- the headers, coming in by another port
abbrev pub through : PortNo → Headers → Headers
through port h = record { inport = port; src = h.src; dst = h.dst; proto = h.proto; sport = h.sport; dport = h.dport }

-- a cube without inport has headers whatever their port
any_port : (c : Cube) (h : Headers) (port : PortNo) → c.inport ≡ None → has c h ≡ true → has c (through port h) ≡ true
any_port c h port none e =
    let f = fields-from_has c h e in
    has-from_fields c (through port h) (record { inport = ap (λ o. agrees same_port o port) none; src = f.src; dst = f.dst; proto = f.proto; sport = f.sport; dport = f.dport })

other_port : (q : ℕ) → nat_eq q (suc q) ≡ true → ⊥
other_port q e = let same = eqb-true q (suc q) e in omega (arith, same)

-- a field that agrees with all ports wants none
wants_none : (o : Option PortNo) → ((port : PortNo) → agrees same_port o port ≡ true) → o ≡ None
wants_none None each = refl
wants_none (Some q) each = absurd (other_port q.0 (each (record { 0 = suc q.0 })))

meet_inport : (a m c : Cube) → a.inport ≡ None → m.inport ≡ None → meet_cubes a m ≡ Some c → c.inport ≡ None
meet_inport a m c first second e = wants_none c.inport (λ port.
    let w = witness c in
    let both = and_parts (has a w.headers) (has m w.headers) (sym (has-met a m c w.headers e) ∙ w.inside) in
    let there = has-met a m c (through port w.headers) e ∙ and_from _ _ (any_port a w.headers port first both.0) (any_port m w.headers port second both.1) in
    (fields-from_has c (through port w.headers) there).inport)

meets_inport : (atoms : List Cube) → ((a : Cube) → Member a atoms → a.inport ≡ None) → (c : Cube) → IsMeet atoms c → c.inport ≡ None
meets_inport [] each c e = ap (λ (x : Cube). x.inport) e
meets_inport (a ∷ atoms) each c (inl h) = meets_inport atoms (λ b k. each b (inr k)) c h
meets_inport (a ∷ atoms) each c (inr h) = meet_inport a h.0 c (each a (inl refl)) (meets_inport atoms (λ b k. each b (inr k)) h.0 h.1) h.2

freed_inport : (port : PortNo) (c d : Cube) (wanted : Option PortNo) → c.inport ≡ wanted → Member d (freed_from port c wanted) → d.inport ≡ None
freed_inport port c d None w (inl e) = ap (λ (x : Cube). x.inport) e ∙ w
freed_inport port c d None w (inr k) = elim k [ ]
freed_inport port c d (Some q) w k = of (nat_eq q.0 port.0) k
  where
    of : (b : Bool) → Member d (cond b (record c { inport = None } ∷ []) []) → d.inport ≡ None
    of true (inl e) = ap (λ (x : Cube). x.inport) e
    of true (inr m) = elim m [ ]
    of false m = elim m [ ]

pub no_inports : NoInports
no_inports v port part rules right theirs c k =
    meets_inport (view_atoms v port part)
    (λ a m. elim (SetLemmas.Member-append_cases (union_over (freed port) (lines.cubes_of v.outbound)) (union_over (λ (o : Offer). lines.cubes_of (inbound_of v o.exporter)) part.offers) a m) [
      | inl own ↦ let s = SetLemmas.union-Member (freed port) (lines.cubes_of v.outbound) a own in freed_inport port s.of a s.of.inport refl s.gives
      | inr other ↦ let s = SetLemmas.union-Member (λ (o : Offer). lines.cubes_of (inbound_of v o.exporter)) part.offers a other in theirs s.of s.stands a s.gives
    ])
    c (right.meets c k)
