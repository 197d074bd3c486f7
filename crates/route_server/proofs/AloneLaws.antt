-- A prefix that had no route and has a signature is another.
use Rattle.std.proofs.Common.{◌≡◌, Bool, true, false, ◌&&◌, List, [], ◌∷◌, length, sym, ◌∙◌, refl, suc, arith, true≢false}
use Rattle.std.specs.Prelude.{nat_eq}
use Rattle.std.specs.List.{filter_map, list_all}
use Rattle.std.proofs.lemmas.Bool.{eqb-true}
use Rattle.net_types.specs.Attributes.{same_attrs, same_option, same_signature}
use Rattle.net_types.specs.Exports.{Routing}
use Rattle.net_types.specs.Routes.{pids}
use Rattle.net_types.specs.declared.address.Pid.{Pid}
use Rattle.net_types.specs.declared.prefix.Prefix.{Prefix}
use Rattle.net_types.specs.declared.route.Part.{Part}
use Rattle.route_server.specs.Effects.{best_by_row, same_by_rows}
use Rattle.route_server.specs.Rows.{offered, part_of, signature_of}
use Rattle.route_server.specs.declared.held.Held.{Held}

-- without a route nobody has a part
no_parts : (r : Routing) (p : Prefix) (tos : List Pid) → filter_map (λ to. part_of r to (offered r to p [])) tos ≡ []
no_parts r p [] = refl
no_parts r p (to ∷ tos) = no_parts r p tos

other : (sig : List Part) (rest : Bool) → nat_eq (length sig) 0 ≡ false → false ≡ (same_signature sig [] && rest)
other [] rest some = absurd (true≢false some)
other (x ∷ xs) rest some = refl

-- the prefix has another signature by its new row
pub comes : (r s : Routing) (p : Prefix) (old new : List Held) (sig : List Part) → nat_eq (length old) 0 ≡ true → nat_eq (length sig) 0 ≡ false → sig ≡ signature_of s p new → false ≡ same_by_rows r s p old new
comes r s p (h ∷ hs) new sig none some is = absurd (omega (arith, eqb-true (suc (length hs)) 0 none))
comes r s p [] new sig none some is =
    let rest : Bool = list_all (λ to. same_option same_attrs (best_by_row r p [] to) (best_by_row s p new to)) (pids r) in
    other sig rest some ∙ (λ i. same_signature (is i) (sym (no_parts r p (pids r)) i) && rest)
