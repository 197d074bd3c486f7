-- The lines that show the table, and by which a frame leaves, are steps.
use Rattle.std.proofs.Common.{◌≡◌, ℕ, true, List, ap, refl, subst, sym, ◌∙◌}
use Rattle.std.specs.Prelude.{Some, None, MatchOption}
use Rattle.events.specs.After.{running}
use Rattle.events.specs.Forms.{IsWellFormed}
use Rattle.events.specs.Fits.{IsStep, all_flows, bare, by_table}
use Rattle.events.specs.Refusals.{if_known}
use Rattle.events.specs.State.{State, port_of}
use Rattle.events.specs.declared.Event.TheVariants.{Frame, Table}
use Rattle.events.specs.declared.Head.TheVariants.{Fine}
use Rattle.events.specs.declared.Reply.{Reply}
use Rattle.net_types.specs.declared.address.PortNo.{PortNo}
use Rattle.net_types.specs.declared.route.PortInfo.{PortInfo}
use Rattle.next_hop_pool.specs.Free.{Tags}
use Rattle.exchange_core.proofs.Steps.{in_place, kept_after, placed, quiet_step}
use Rattle.exchange_core.specs.Placed.{is_declared}
use Rattle.exchange_core.specs.declared.programs.Programs.{Programs}
use Rattle.exchange_core.specs.View.{IsKept}

pub table_step : {s : State} {pool : Tags} {all : List Programs} → IsKept s pool all → is_declared s.phase ≡ true → (r : Reply) → r ≡ record (bare Fine) { adds = all_flows s } → IsStep s Table r (running s)
table_step {s} kept ready r is = quiet_step s Table r kept.steady tt refl (in_place s Table (placed Table refl refl s.phase ready)) refl is

pub table_kept : {s : State} {pool : Tags} {all : List Programs} → IsKept s pool all → is_declared s.phase ≡ true → IsKept (running s) pool all
table_kept {s} {pool} kept ready = let r : Reply = record (bare Fine) { adds = all_flows s } in kept_after s Table r (running s) pool kept tt refl (table_step kept ready r refl) refl refl refl _ kept.compiled

pub frame_step : {s : State} {pool : Tags} {all : List Programs} → IsKept s pool all → is_declared s.phase ≡ true → (port : PortNo) (bytes : List ℕ) (q : PortInfo) → IsWellFormed (Frame port bytes) → port_of s port ≡ Some q
    → (r : Reply) → r ≡ record (bare Fine) { frames = by_table s q bytes } → IsStep s (Frame port bytes) r (running s)
frame_step {s} kept ready port bytes q formed found r is =
    quiet_step s (Frame port bytes) r kept.steady formed refl
    (in_place s (Frame port bytes) (placed (Frame port bytes) refl refl s.phase ready) ∙ ap (λ o. if_known o (λ x. None)) found) refl
    (subst (λ o. MatchOption o ⊥ (λ x. r ≡ record (bare Fine) { frames = by_table s x bytes })) (sym found) is)

pub frame_kept : {s : State} {pool : Tags} {all : List Programs} → IsKept s pool all → is_declared s.phase ≡ true → (port : PortNo) (bytes : List ℕ) (q : PortInfo) → IsWellFormed (Frame port bytes) → port_of s port ≡ Some q → IsKept (running s) pool all
frame_kept {s} {pool} kept ready port bytes q formed found =
    let r : Reply = record (bare Fine) { frames = by_table s q bytes } in
    kept_after s (Frame port bytes) r (running s) pool kept formed refl (frame_step kept ready port bytes q formed found r refl) refl refl refl _ kept.compiled
