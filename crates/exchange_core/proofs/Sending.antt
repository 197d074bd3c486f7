-- What becomes of a frame that a router sends to a tag.
use Rattle.std.proofs.Common.{◌≡◌, ℕ, zero, suc, ◌+◌, ◌*◌, ◌≤◌, [], ◌∷◌, ◌++◌, drop, length, true, cond, List, ap, ◌∙◌, refl, sym, arith}
use Rattle.std.specs.Prelude.{Some, None, slice_index}
use Rattle.events.specs.Fits.{bare, by_table}
use Rattle.events.specs.Resolving.{is_resolved, tag_address}
use Rattle.events.specs.State.{State}
use Rattle.events.specs.Table.{first_match, out}
use Rattle.events.specs.declared.Frame.{Frame}
use Rattle.events.specs.declared.Head.TheVariants.{Fine, Unresolved}
use Rattle.events.specs.declared.Reply.{Reply}
use Rattle.net_types.specs.Frames.{has_headers, has_ports, headers_of, ip_end, tag_mac}
use Rattle.net_types.specs.Octets.{address_at, word_at}
use Rattle.net_types.specs.declared.address.PortNo.{PortNo}
use Rattle.net_types.specs.declared.address.Tag.{Tag}
use Rattle.net_types.specs.declared.headers.Headers.{Headers}
use Rattle.net_types.specs.declared.route.PortInfo.{PortInfo}
use Rattle.exchange_laws.proofs.Answering.{inport_of}
use Rattle.exchange_core.specs.Leaving.{sent_by}

-- behind the MAC that a frame goes to its octets are the same
same_octet : (t : Tag) (a b c d e f : ℕ) (rest : List ℕ) (k : ℕ) → 6 ≤ k → slice_index (tag_mac t ++ rest) k ≡ slice_index (a ∷ b ∷ c ∷ d ∷ e ∷ f ∷ rest) k
same_octet t a b c d e f rest zero behind = absurd (omega arith)
same_octet t a b c d e f rest (suc zero) behind = absurd (omega arith)
same_octet t a b c d e f rest (suc (suc zero)) behind = absurd (omega arith)
same_octet t a b c d e f rest (suc (suc (suc zero))) behind = absurd (omega arith)
same_octet t a b c d e f rest (suc (suc (suc (suc zero)))) behind = absurd (omega arith)
same_octet t a b c d e f rest (suc (suc (suc (suc (suc zero))))) behind = absurd (omega arith)
same_octet t a b c d e f rest (suc (suc (suc (suc (suc (suc k)))))) behind = refl

same_word : (t : Tag) (a b c d e f : ℕ) (rest : List ℕ) (k : ℕ) → 6 ≤ k → word_at k (tag_mac t ++ rest) ≡ word_at k (a ∷ b ∷ c ∷ d ∷ e ∷ f ∷ rest)
same_word t a b c d e f rest k behind =
    let first = same_octet t a b c d e f rest k behind in
    let second = same_octet t a b c d e f rest (k + 1) (omega arith) in
    λ i. 256 * first i + second i

-- the headers don't depend on the MAC that a frame goes to
same_headers : (port : PortNo) (t : Tag) (frame : List ℕ) → 6 ≤ length frame → headers_of port (tag_mac t ++ drop 6 frame) ≡ headers_of port frame
same_headers port t [] whole = absurd (omega arith)
same_headers port t (a ∷ []) whole = absurd (omega arith)
same_headers port t (a ∷ b ∷ []) whole = absurd (omega arith)
same_headers port t (a ∷ b ∷ c ∷ []) whole = absurd (omega arith)
same_headers port t (a ∷ b ∷ c ∷ d ∷ []) whole = absurd (omega arith)
same_headers port t (a ∷ b ∷ c ∷ d ∷ e ∷ []) whole = absurd (omega arith)
same_headers port t (a ∷ b ∷ c ∷ d ∷ e ∷ f ∷ rest) whole =
    let frame : List ℕ = a ∷ b ∷ c ∷ d ∷ e ∷ f ∷ rest in
    let sport = same_word t a b c d e f rest (ip_end frame + 0) (omega arith) in
    let dport = same_word t a b c d e f rest (ip_end frame + 2) (omega arith) in
    λ i. cond (has_headers frame) (Some (record { inport = port; src = address_at 26 frame; dst = address_at 30 frame; proto = slice_index frame 23; sport = cond (has_ports frame) (Some (sport i)) None; dport = cond (has_ports frame) (Some (dport i)) None })) None

-- the frame to a tag's MAC has the headers that were read
pub still_read : (port : PortNo) (t : Tag) (frame tagged : List ℕ) (h : Headers) → 6 ≤ length frame → headers_of port frame ≡ Some h → tagged ≡ tag_mac t ++ drop 6 frame → headers_of h.inport tagged ≡ Some h
still_read port t frame tagged h whole read same =
    (λ i. headers_of (inport_of port frame h read i) (same i)) ∙ same_headers port t frame whole ∙ read

-- a router sends a frame, whose headers were read, where it has resolved the tag's address
pub sent_at : (s st : State) → s ≡ st → (q : PortInfo) (t : Tag) (frame tagged : List ℕ) (h : Headers) (r : Reply) (frames : List Frame) → r ≡ bare Fine → is_resolved st q.number (record { 0 = s.base.0 + t.0 }) ≡ true
    → tagged ≡ tag_mac t ++ drop 6 frame → headers_of q.number frame ≡ Some h → frames ≡ out s.routing.ports tagged (first_match s.table h.inport tagged) → record r { frames = frames } ≡ sent_by st q t frame
sent_at s st is q t frame tagged h r frames plain resolved same read are =
    let by : frames ≡ by_table st q (tag_mac t ++ drop 6 frame) = are ∙ (λ j. out (is j).routing.ports (same j) (first_match (is j).table (inport_of q.number frame h read j) (same j))) in
    (λ i. record (plain i) { frames = by i })
    ∙ sym (ap (λ b. cond b (record (bare Fine) { frames = by_table st q (tag_mac t ++ drop 6 frame) }) (bare (Unresolved (tag_address st t)))) (ap (λ (x : State). is_resolved st q.number (tag_address x t)) (sym is) ∙ resolved))
