-- What ties in the order of signatures is one signature.
use Rattle.std.proofs.Common.{◌≡◌, ◌∙◌, Bool, true, false, List, sym, ap, refl}
use Rattle.std.specs.Prelude.{Option, Some, None}
use Rattle.std.specs.FinMap.{IsAntisymmetric, nat_cmp-IsAntisymmetric, slice_cmp-IsAntisymmetric}
use Rattle.std.specs.Ordering.{bool_cmp, eq_by_cmp, nat_cmp, ordering_then}
use Rattle.std.specs.Cmp.Lexicographic.{slice_cmp}
use Rattle.std.specs.declared.cmp.Ordering.TheVariants.{Equal}
use Rattle.net_types.proofs.TieLemmas.{first_tie, second_tie, ties_itself, same_from_tie}
use Rattle.net_types.specs.declared.route.Part.{Part}
use Rattle.prefix_classes.specs.Placed.{offer_cmp, part_cmp, sig_cmp}
use Rattle.prefix_classes.specs.PlacedLaws.{sigs_total}

-- a signature that may be absent is this one
abbrev pub is_sig : List Part → Option (List Part) → Bool
is_sig sig None = false
is_sig sig (Some other) = eq_by_cmp sig_cmp sig other

-- ---- the order

bool_cmp-IsAntisymmetric : IsAntisymmetric bool_cmp
bool_cmp-IsAntisymmetric false false e = refl
bool_cmp-IsAntisymmetric false true e = cc
bool_cmp-IsAntisymmetric true false e = cc
bool_cmp-IsAntisymmetric true true e = refl

offer_cmp-IsAntisymmetric : IsAntisymmetric offer_cmp
offer_cmp-IsAntisymmetric a b e =
    let ports = nat_cmp a.port.0 b.port.0 in
    let holes = bool_cmp a.hole b.hole in
    let first = nat_cmp a.exporter.0 b.exporter.0 in
    let rest : ordering_then ports holes ≡ Equal = second_tie first (ordering_then ports holes) e in
    λ i. record {
      exporter = record { 0 = nat_cmp-IsAntisymmetric a.exporter.0 b.exporter.0 (first_tie first (ordering_then ports holes) e) i };
      port = record { 0 = nat_cmp-IsAntisymmetric a.port.0 b.port.0 (first_tie ports holes rest) i };
      hole = bool_cmp-IsAntisymmetric a.hole b.hole (second_tie ports holes rest) i;
    }

part_cmp-IsAntisymmetric : IsAntisymmetric part_cmp
part_cmp-IsAntisymmetric a b e =
    let bests = nat_cmp a.best.0 b.best.0 in
    let offers = slice_cmp offer_cmp a.offers b.offers in
    let first = nat_cmp a.sender.0 b.sender.0 in
    let rest : ordering_then bests offers ≡ Equal = second_tie first (ordering_then bests offers) e in
    λ i. record {
      sender = record { 0 = nat_cmp-IsAntisymmetric a.sender.0 b.sender.0 (first_tie first (ordering_then bests offers) e) i };
      best = record { 0 = nat_cmp-IsAntisymmetric a.best.0 b.best.0 (first_tie bests offers rest) i };
      offers = slice_cmp-IsAntisymmetric offer_cmp-IsAntisymmetric a.offers b.offers (second_tie bests offers rest) i;
    }

pub sig_cmp-IsAntisymmetric : IsAntisymmetric sig_cmp
sig_cmp-IsAntisymmetric = slice_cmp-IsAntisymmetric part_cmp-IsAntisymmetric

-- ---- a signature that may be absent

pub same_sig : (sig : List Part) (o : Option (List Part)) → is_sig sig o ≡ true → o ≡ Some sig
same_sig sig None e = cc
same_sig sig (Some other) e = ap Some (sym (same_from_tie sig_cmp sig_cmp-IsAntisymmetric sig other e))

pub is_sig_itself : (sig : List Part) (o : Option (List Part)) → o ≡ Some sig → is_sig sig o ≡ true
is_sig_itself sig o e = ap (is_sig sig) e ∙ ties_itself sigs_total sig
