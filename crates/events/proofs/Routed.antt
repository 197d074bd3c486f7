-- The frames that leave, in order; the part of a sender in the signature of a prefix; and headers of octets.
use Rattle.std.proofs.Common.{◌≡◌, ℕ, zero, suc, ◌+◌, ◌*◌, ◌^◌, ◌<◌, Bool, true, false, cond, nat_eq, List, length, filter, map, sym, ap, subst, ◌∙◌, refl, arith}
use Rattle.std.specs.Prelude.{Option, Some, None, slice_index, IfSome}
use Rattle.std.specs.Cmp.{IsTotalOrder, nat_cmp_total}
use Rattle.std.specs.Cmp.Lexicographic.{nat_list_cmp_total, slice_cmp}
use Rattle.std.specs.FinMap.{nat_cmp-IsAntisymmetric, slice_cmp-IsAntisymmetric}
use Rattle.std.specs.List.{filter_map, cons_option, list_any}
use Rattle.std.specs.Option.{option_map}
use Rattle.std.specs.Ordering.{eq_by_cmp, is_eq, nat_cmp}
use Rattle.std.proofs.lemmas.Bool.{and_parts, eq-eqb, ne_eqb, or_left}
use Rattle.std.proofs.lemmas.Cmp.{on_total, then_total}
use Rattle.std.proofs.lemmas.Option.{cond_some}
use Rattle.net_types.specs.Answers.{Leaving}
use Rattle.net_types.specs.Exports.{Routing, named_by}
use Rattle.net_types.specs.Frames.{has_headers, has_ports, headers_of, ip_end}
use Rattle.net_types.specs.Octets.{word_at}
use Rattle.net_types.specs.Headers.{IsValid}
use Rattle.net_types.specs.Routes.{Candidate, best, candidates, numbers}
use Rattle.net_types.specs.Sets.{SameMembers}
use Rattle.net_types.specs.Signatures.{counts, offers, part, signature}
use Rattle.net_types.specs.declared.address.Pid.{Pid}
use Rattle.net_types.specs.declared.address.PortNo.{PortNo}
use Rattle.net_types.specs.declared.headers.Headers.{Headers}
use Rattle.net_types.specs.declared.prefix.Prefix.{Prefix}
use Rattle.net_types.specs.declared.route.Part.{Part}
use Rattle.net_types.specs.declared.route.PortInfo.{PortInfo}
use Rattle.net_types.proofs.RisingLemmas.{filter-Member, Member-filter}
use Rattle.net_types.proofs.SetLemmas.{same_map}
use Rattle.net_types.proofs.TieLemmas.{then_ties, tie_Equal}
use Rattle.events.specs.Sound.{part_of}
use Rattle.events.specs.Table.{frame_cmp, frame_of, out}
use Rattle.events.specs.declared.Frame.{Frame}
use Rattle.events.proofs.Candidates.{IsOfferedBy, best_Member, offered_by}
use Rattle.net_types.proofs.OrderedLemmas.{ordered_alike}

-- ---- frames in order

pub frames_total : IsTotalOrder frame_cmp
frames_total = then_total (on_total (λ (f : Frame). f.port.0) nat_cmp_total) (on_total (λ f. f.bytes) nat_list_cmp_total)

pub frames_tie : (f g : Frame) → eq_by_cmp frame_cmp f g ≡ true → f ≡ g
frames_tie f g e =
    let parts = and_parts (is_eq (nat_cmp f.port.0 g.port.0)) (is_eq (slice_cmp nat_cmp f.bytes g.bytes)) (sym (then_ties (nat_cmp f.port.0 g.port.0) (slice_cmp nat_cmp f.bytes g.bytes)) ∙ e) in
    λ i. record {
      port = record { 0 = nat_cmp-IsAntisymmetric f.port.0 g.port.0 (tie_Equal (nat_cmp f.port.0 g.port.0) parts.0) i };
      bytes = slice_cmp-IsAntisymmetric nat_cmp-IsAntisymmetric f.bytes g.bytes (tie_Equal (slice_cmp nat_cmp f.bytes g.bytes) parts.1) i;
    }

-- what leaves depends on the set alone
pub out_alike : (ports : List PortInfo) (frame : List ℕ) (xs ys : List Leaving) → SameMembers xs ys → out ports frame xs ≡ out ports frame ys
out_alike ports frame xs ys same = ordered_alike frame_cmp frames_total frames_tie (map (frame_of ports frame) xs) (map (frame_of ports frame) ys) (same_map (frame_of ports frame) same)

-- ---- the part of a sender in the signature of a prefix

skip_case : (who : Pid) (xs : List Part) (o : Option Part) → ((y : Part) → o ≡ Some y → nat_eq y.sender.0 who.0 ≡ false) → part_of (cons_option o xs) who ≡ part_of xs who
skip_case who xs None other = refl
skip_case who xs (Some y) other = ap (λ b. cond b (Some y) (part_of xs who)) (other y refl)

part_from : (f : Pid → Option Part) → ((k : Pid) (x : Part) → f k ≡ Some x → x.sender.0 ≡ k.0) → (low count : ℕ) (who : Pid) (x : Part) → f who ≡ Some x → (k : ℕ) → who.0 ≡ low + k → k < count → part_of (filter_map f (map (λ n. record { 0 = n }) (numbers low count))) who ≡ Some x
part_from f own low zero who x is k place below = absurd (omega arith)
part_from f own low (suc count) who x is zero place below =
    let here : who.0 ≡ low = omega arith in
    let rest : List Part = filter_map f (map (λ n. record { 0 = n }) (numbers (low + 1) count)) in
    ap (λ o. part_of (cons_option o rest) who) (ap (λ n. f (record { 0 = n })) (sym here) ∙ is)
    ∙ ap (λ b. cond b (Some x) (part_of rest who)) (eq-eqb x.sender.0 who.0 (own who x is))
part_from f own low (suc count) who x is (suc k) place below =
    skip_case who (filter_map f (map (λ n. record { 0 = n }) (numbers (low + 1) count))) (f (record { 0 = low })) (λ y given. ne_eqb y.sender.0 who.0 (λ same. let mine : y.sender.0 ≡ low = own (record { 0 = low }) y given in omega arith))
    ∙ part_from f own (low + 1) count who x is k (omega arith) (omega arith)

-- the part of a participant with a best route
abbrev pub part_with : Routing → Pid → Prefix → Candidate → Part
part_with r who p c = record { sender = who; best = c.from; offers = offers r p who c.from }

pub part_sender : (r : Routing) (p : Prefix) (k : Pid) (x : Part) → part r p k ≡ Some x → x.sender.0 ≡ k.0
part_sender r p k x e = by (best r k p) e
  where
    by : (o : Option Candidate) → option_map (λ (c : Candidate). part_with r k p c) o ≡ Some x → x.sender.0 ≡ k.0
    by None e = absurd (cc)
    by (Some c) e = let same : part_with r k p c ≡ x = cc in ap (λ (y : Part). y.sender.0) (sym same)

pub signature_part : (r : Routing) (who : Pid) (p : Prefix) (c : Candidate) → who.0 < length r.participants → best r who p ≡ Some c → part_of (signature r p) who ≡ Some (part_with r who p c)
signature_part r who p c declared chosen =
    part_from (part r p) (part_sender r p) 0 (length r.participants) who (part_with r who p c) (ap (option_map (λ (d : Candidate). part_with r who p d)) chosen) who.0 (omega arith) declared

-- the best route is offered
pub best_offered : (r : Routing) (who : Pid) (p : Prefix) (c : Candidate) → best r who p ≡ Some c → IsOfferedBy r p c.from (offers r p who c.from)
best_offered r who p c chosen =
    let test : Candidate → Bool = λ d. counts (named_by r who) c.from d.from in
    let mine : test c ≡ true = or_left (nat_eq c.from.0 c.from.0) (list_any (λ (other : Pid). nat_eq other.0 c.from.0) (named_by r who)) (eq-eqb c.from.0 c.from.0 refl) in
    offered_by r who p (filter test (candidates r who p)) c (λ d m. (filter-Member test (candidates r who p) d m).stands) (Member-filter test (candidates r who p) c (best_Member r who p c chosen) mine)

-- ---- headers of octets

-- the headers of a frame of octets are in their ranges
pub valid_headers : (port : PortNo) (frame : List ℕ) (h : Headers) → port.0 < 2 ^ 16 → ((k : ℕ) → slice_index frame k < 256) → headers_of port frame ≡ Some h → IsValid h
valid_headers port frame h small octets e =
    let parts = cond_some (has_headers frame) _ h e in
    subst IsValid parts.1 (record {
      inport = small;
      src = address 26;
      dst = address 30;
      proto = octets 23;
      sport = at 0 (has_ports frame);
      dport = at 2 (has_ports frame);
    })
  where
    words : (k : ℕ) → word_at k frame < 2 ^ 16
    words k = let a = octets k in let b = octets (k + 1) in omega arith

    address : (k : ℕ) → 65536 * word_at k frame + word_at (k + 2) frame < 2 ^ 32
    address k = let a = words k in let b = words (k + 2) in omega arith

    at : (k : ℕ) (b : Bool) → IfSome (cond b (Some (word_at (ip_end frame + k) frame)) None) (λ n. n < 2 ^ 16)
    at k true = words (ip_end frame + k)
    at k false = tt
