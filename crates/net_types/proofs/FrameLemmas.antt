-- Headers written back into a frame leave it as it is, but for the address that it goes to.
use Rattle.std.proofs.Common.{◌≡◌, ℕ, ◌+◌, cond, nat_eq, ◌/◌, ◌%◌, List, [], ◌∷◌, ◌++◌, drop, ap, ◌∙◌, refl}
use Rattle.std.specs.Prelude.{Option, Some, None}
use Rattle.std.proofs.lemmas.Bool.{eq-eqb}
use Rattle.net_types.proofs.FindLemmas.{cond_same}
use Rattle.net_types.specs.Frames.{Change, change_of, changes_of_address, changes_of_port, put_changes, put_checksum, put_port_checksum, has_ports, ip_end, written, written_from, written_fields, headers_of}
use Rattle.net_types.specs.declared.address.Ip.{Ip}
use Rattle.net_types.specs.declared.address.Mac.{Mac}
use Rattle.net_types.specs.declared.headers.Headers.{Headers}

no_change : (at x : ℕ) → change_of at x x ≡ []
no_change at x = ap (λ b. cond b [] (record { at = at; old = x; new = x } ∷ [])) (eq-eqb x x refl)

no_address : (at : ℕ) (ip : Ip) → changes_of_address at ip ip ≡ []
no_address at ip = ap (λ cs. cs ++ change_of (at + 2) (ip.0 % 65536) (ip.0 % 65536)) (no_change at (ip.0 / 65536)) ∙ no_change (at + 2) (ip.0 % 65536)

no_port : (at : ℕ) (o : Option ℕ) → changes_of_port at o o ≡ []
no_port at None = refl
no_port at (Some n) = no_change at n

no_port_checksum : (h : Headers) (frame : List ℕ) → put_port_checksum h [] frame ≡ frame
no_port_checksum h frame = ap (λ f. cond (has_ports frame) f frame) (cond_same (nat_eq h.proto 6) frame) ∙ cond_same (has_ports frame) frame

-- nothing changes in the headers
same_fields : (h : Headers) (frame : List ℕ) → written_fields h h frame ≡ frame
same_fields h frame =
    let fields : List Change → List Change → List ℕ = λ xs ys. put_changes (xs ++ ys) (put_port_checksum h (xs ++ ys) (put_checksum 24 xs frame)) in
    let ports : List Change = changes_of_port (ip_end frame) h.sport h.sport ++ changes_of_port (ip_end frame + 2) h.dport h.dport in
    let no_addresses : changes_of_address 26 h.src h.src ++ changes_of_address 30 h.dst h.dst ≡ [] = ap (λ cs. cs ++ changes_of_address 30 h.dst h.dst) (no_address 26 h.src) ∙ no_address 30 h.dst in
    let no_ports : ports ≡ [] = ap (λ cs. cs ++ changes_of_port (ip_end frame + 2) h.dport h.dport) (no_port (ip_end frame) h.sport) ∙ no_port (ip_end frame + 2) h.dport in
    ap (λ xs. fields xs ports) no_addresses ∙ ap (fields []) no_ports ∙ no_port_checksum h frame

-- only the address that the frame goes to is another one
pub written-same : (frame : List ℕ) (h : Headers) (mac : Mac) → headers_of h.inport frame ≡ Some h → written frame h mac ≡ mac.0 ++ drop 6 frame
written-same frame h mac is =
    ap (λ o. mac.0 ++ drop 6 (written_from o h frame)) is ∙ ap (λ f. mac.0 ++ drop 6 f) (same_fields h frame)
