-- What is put into a frame, word by word, is what the definition writes.
use Rattle.std.proofs.Common.{◌≡◌, ℕ, ◌+◌, ◌*◌, ◌%◌, ◌<◌, ◌≤◌, Bool, true, false, cond, nat_eq, nat_le, ◌&&◌, ◌||◌, List, [], ◌++◌, drop, length, get_or, refl, ap, sym, subst, ◌∙◌, arith}
use Rattle.std.specs.Prelude.{Option, Some, None, IsSome, is_some, IfSome, IsSomeAnd}
use Rattle.std.proofs.lemmas.Bool.{eqb-true, false≢true}
use Rattle.net_types.specs.Octets.{word_at, address_at}
use Rattle.net_types.specs.Frames.{Change, change_of, changes_of_address, changes_of_port, put_word, put_changes, sum_changes, put_checksum, put_udp_checksum, put_port_checksum, has_headers, has_ports, ip_end, port_at, headers_of, written, written_from, written_fields}
use Rattle.net_types.specs.declared.headers.Headers.{Headers}
use Rattle.net_types.specs.declared.address.PortNo.{PortNo}
use Rattle.net_types.specs.declared.address.Mac.{Mac}
use Rattle.ip_frame.specs.Places.{AreOctets, IsPlaced}
use Rattle.ip_frame.specs.Sums.{difference, with_checksum, with_udp_checksum, with_address}
use Rattle.ip_frame.specs.Rewriting.{CanReplace, CanTake, ports_of, ports_with, addresses_difference, ports_difference, with_port_checksum, with_checksums, with_fields}
use Rattle.ip_frame.specs.declared.ports.Ports.{Ports}
use Rattle.ip_frame.proofs.WordLemmas.{put_word-other}
use Rattle.ip_frame.proofs.SumLemmas.{sum-append, sum-change_of, sum-address, put_checksum-sum, put_udp_checksum-sum}
use Rattle.ip_frame.proofs.ChangeLemmas.{SameWithin, same_word, same_behind, same_before, same_behind_address, put_changes-append, put_both, put_address-changes}

-- the headers that stand in a frame
abbrev headers_in : PortNo → List ℕ → Headers
headers_in port f = record { inport = port; src = address_at 26 f; dst = address_at 30 f; proto = get_or f 23 0; sport = port_at 0 f; dport = port_at 2 f }

-- the changes of both addresses
abbrev addresses : List ℕ → Headers → List Change
addresses f to = changes_of_address 26 (address_at 26 f) to.src ++ changes_of_address 30 (address_at 30 f) to.dst

sum-addresses : (f : List ℕ) (to : Headers) → AreOctets f → sum_changes (addresses f to) ≡ addresses_difference f to
sum-addresses f to octets =
    let first = sum-address 26 f to.src octets in
    let second = sum-address 30 f to.dst octets in
    sum-append (changes_of_address 26 (address_at 26 f) to.src) (changes_of_address 30 (address_at 30 f) to.dst) ∙ (λ i. first i + second i)

-- the frame with its IPv4 checksum
abbrev checksummed : List ℕ → Headers → List ℕ
checksummed f to = with_checksum 24 (addresses_difference f to) f

put_first : (f : List ℕ) (to : Headers) → 34 ≤ length f → AreOctets f → put_checksum 24 (addresses f to) f ≡ checksummed f to
put_first f to room octets =
    put_checksum-sum 24 (addresses f to) f (omega arith) (octets 24) (octets 25) ∙ ap (λ sum. with_checksum 24 sum f) (sum-addresses f to octets)

put_addresses : (f g : List ℕ) (to : Headers) (high : ℕ) → 34 ≤ high → 34 ≤ length f → AreOctets f → SameWithin f g 26 high → put_changes (addresses f to) g ≡ with_address 30 to.dst (with_address 26 to.src g)
put_addresses f g to high below room octets s =
    let long = s.as_long in
    let behind = same_behind_address f g 26 to.src high (omega arith) s in
    let longer = behind.as_long in
    put_changes-append (changes_of_address 26 (address_at 26 f) to.src) (changes_of_address 30 (address_at 30 f) to.dst) g
    ∙ (ap (put_changes (changes_of_address 30 (address_at 30 f) to.dst)) (put_address-changes f g 26 to.src high (omega arith) (omega arith) octets s)
    ∙ put_address-changes f (with_address 26 to.src g) 30 to.dst high (omega arith) (omega arith) octets behind)

-- whether ports are there, by the octets that tell it
abbrev ports_by : ℕ → ℕ → ℕ → ℕ → ℕ → ℕ → Bool
ports_by first high low fragment offset proto =
    let end = 14 + 4 * (first % 16) in
    let total = 14 + (256 * high + low) in
    nat_eq ((256 * fragment + offset) % 8192) 0 && ((nat_eq proto 6 && nat_le (end + 20) total) || (nat_eq proto 17 && nat_le (end + 8) total))

-- the IPv4 checksum tells nothing of it
same_ports : (f : List ℕ) (n : ℕ) → 34 ≤ length f → has_ports (put_word 24 n f) ≡ has_ports f
same_ports f n room =
    let same : (k : ℕ) → k < 24 → get_or (put_word 24 n f) k 0 ≡ get_or f k 0 = λ k below. put_word-other 24 n f k (omega arith) (omega arith) (omega arith) in
    let first = same 14 (omega arith) in
    let high = same 16 (omega arith) in
    let low = same 17 (omega arith) in
    let fragment = same 20 (omega arith) in
    let offset = same 21 (omega arith) in
    let proto = same 23 (omega arith) in
    λ i. ports_by (first i) (high i) (low i) (fragment i) (offset i) (proto i)

same_end : (f : List ℕ) (n : ℕ) → 34 ≤ length f → ip_end (put_word 24 n f) ≡ ip_end f
same_end f n room = ap (λ first. 14 + 4 * (first % 16)) (put_word-other 24 n f 14 (omega arith) (omega arith) (omega arith))

same_checksummed : (f : List ℕ) (n high : ℕ) → 34 ≤ length f → SameWithin f (put_word 24 n f) 26 high
same_checksummed f n high room = same_behind f f 24 n 24 high (omega arith) (omega arith) (record { as_long = refl; same = λ k above below. refl })

without_ports : (f : List ℕ) (to : Headers) (port : PortNo) → 34 ≤ length f → AreOctets f → has_ports f ≡ false → written_fields (headers_in port f) to f ≡ with_fields to None (with_checksums to None f)
without_ports f to port room octets none =
    let h = headers_in port f in
    let xs = addresses f to in
    let g = checksummed f to in
    let no_ports : changes_of_port (ip_end f) (port_at 0 f) to.sport ++ changes_of_port (ip_end f + 2) (port_at 2 f) to.dport ≡ []
    = λ i. changes_of_port (ip_end f) (cond (none i) (Some (word_at (ip_end f + 0) f)) None) to.sport ++ changes_of_port (ip_end f + 2) (cond (none i) (Some (word_at (ip_end f + 2) f)) None) to.dport in
    ap (λ ys. put_changes (xs ++ ys) (put_port_checksum h (xs ++ ys) (put_checksum 24 xs f))) no_ports
    ∙ (ap (λ k. put_changes (xs ++ []) (put_port_checksum h (xs ++ []) k)) (put_first f to room octets)
    ∙ (ap (λ b. put_changes (xs ++ []) (cond b (cond (nat_eq h.proto 6) (put_checksum (ip_end g + 16) (xs ++ []) g) (put_udp_checksum (ip_end g + 6) (xs ++ []) g)) g)) (same_ports f _ room ∙ none)
    ∙ (put_changes-append xs [] g ∙ put_addresses f g to 34 (omega arith) room octets (same_checksummed f _ 34 room))))

same_test : (f x y : List ℕ) (b : Bool) (low high : ℕ) → (b ≡ true → SameWithin f x low high) → SameWithin f y low high → SameWithin f (cond b x y) low high
same_test f x y true low high first second = first refl
same_test f x y false low high first second = second

either : {A : Type 0} (b : Bool) (x y x' y' : A) → (b ≡ true → x ≡ x') → y ≡ y' → cond b x y ≡ cond b x' y'
either true x y x' y' first second = first refl
either false x y x' y' first second = second

octet_within : (f g : List ℕ) (low high k : ℕ) → AreOctets f → SameWithin f g low high → low ≤ k → k < high → get_or g k 0 < 256
octet_within f g low high k octets s above below = rw (s.same k above below) (octets k)

-- the changes of both ports
abbrev port_changes : Ports → List ℕ → List Change
port_changes p f = change_of p.at (word_at p.at f) p.sport ++ change_of (p.at + 2) (word_at (p.at + 2) f) p.dport

sum-ports : (f g : List ℕ) (p : Ports) (high : ℕ) → 26 ≤ p.at → p.at + 4 ≤ high → SameWithin f g 26 high → sum_changes (port_changes p f) ≡ ports_difference p g
sum-ports f g p high above below s =
    let first = sum-change_of p.at (word_at p.at f) p.sport in
    let second = sum-change_of (p.at + 2) (word_at (p.at + 2) f) p.dport in
    let first_word = same_word f g p.at 26 high above (omega arith) s in
    let second_word = same_word f g (p.at + 2) 26 high (omega arith) (omega arith) s in
    sum-append (change_of p.at (word_at p.at f) p.sport) (change_of (p.at + 2) (word_at (p.at + 2) f) p.dport)
    ∙ ((λ i. first i + second i) ∙ sym (λ i. difference (first_word i) p.sport + difference (second_word i) p.dport))

-- the checksum of TCP or UDP is put by the sum
put_transport : (f g : List ℕ) (proto : ℕ) (cs : List Change) (sum : ℕ) (p : Ports) → IsPlaced proto (length f) p.at → AreOctets f → ((high : ℕ) → SameWithin f g 26 high) → sum_changes cs ≡ sum → cond (nat_eq proto 6) (put_checksum (p.at + 16) cs g) (put_udp_checksum (p.at + 6) cs g) ≡ with_port_checksum p.at proto sum g
put_transport f g proto cs sum p placed octets s adds =
    let within = s (p.at + 20) in
    let long = within.as_long in
    let behind = placed.behind in
    let least = placed.udp in
    either (nat_eq proto 6) _ _ _ _
    (λ is. let room = placed.tcp (eqb-true proto 6 is) in
    put_checksum-sum (p.at + 16) cs g (omega arith) (octet_within f g 26 (p.at + 20) (p.at + 16) octets within (omega arith) (omega arith)) (octet_within f g 26 (p.at + 20) (p.at + 16 + 1) octets within (omega arith) (omega arith))
    ∙ ap (λ n. with_checksum (p.at + 16) n g) adds)
    (put_udp_checksum-sum (p.at + 6) cs g (omega arith) (octet_within f g 26 (p.at + 20) (p.at + 6) octets within (omega arith) (omega arith)) (octet_within f g 26 (p.at + 20) (p.at + 6 + 1) octets within (omega arith) (omega arith))
    ∙ ap (λ n. with_udp_checksum (p.at + 6) n g) adds)

-- it stands behind the fields
same_transport : (f g : List ℕ) (proto sum : ℕ) (p : Ports) → IsPlaced proto (length f) p.at → SameWithin f g 26 (p.at + 4) → SameWithin f (with_port_checksum p.at proto sum g) 26 (p.at + 4)
same_transport f g proto sum p placed s =
    let long = s.as_long in
    let least = placed.udp in
    same_test f _ _ (nat_eq proto 6) 26 (p.at + 4)
    (λ is. let room = placed.tcp (eqb-true proto 6 is) in same_before f g (p.at + 16) _ 26 (p.at + 4) (omega arith) (omega arith) s)
    (same_before f g (p.at + 6) _ 26 (p.at + 4) (omega arith) (omega arith) s)

put_fields : (f g : List ℕ) (to : Headers) (p : Ports) → 34 ≤ length f → IsPlaced to.proto (length f) p.at → AreOctets f → SameWithin f g 26 (p.at + 4) → put_changes (addresses f to ++ port_changes p f) g ≡ with_fields to (Some p) g
put_fields f g to p room placed octets s =
    let long = s.as_long in
    let behind = placed.behind in
    let least = placed.udp in
    let high = p.at + 4 in
    let src = same_behind_address f g 26 to.src high (omega arith) s in
    let src_long = src.as_long in
    let dst = same_behind_address f (with_address 26 to.src g) 30 to.dst high (omega arith) src in
    let dst_long = dst.as_long in
    let ahead : SameWithin f (with_address 30 to.dst (with_address 26 to.src g)) p.at high = record { as_long = dst.as_long; same = λ k above below. dst.same k (omega arith) below } in
    put_changes-append (addresses f to) (port_changes p f) g
    ∙ (ap (put_changes (port_changes p f)) (put_addresses f g to high (omega arith) room octets s)
    ∙ put_both f (with_address 30 to.dst (with_address 26 to.src g)) p.at p.sport p.dport high (omega arith) (omega arith) octets ahead)

with_ports : (f : List ℕ) (to : Headers) (port : PortNo) (s d : ℕ) → 34 ≤ length f → AreOctets f → has_ports f ≡ true → to.proto ≡ get_or f 23 0 → to.sport ≡ Some s → to.dport ≡ Some d → IsPlaced to.proto (length f) (ip_end f)
    → written_fields (headers_in port f) to f ≡ with_fields to (Some (record { at = ip_end f; sport = s; dport = d })) (with_checksums to (Some (record { at = ip_end f; sport = s; dport = d })) f)
with_ports f to port s d room octets some proto sport dport placed =
    let p : Ports = record { at = ip_end f; sport = s; dport = d } in
    let h = headers_in port f in
    let xs = addresses f to in
    let ys = port_changes p f in
    let g = checksummed f to in
    let sum = addresses_difference f to + ports_difference p g in
    let start : ip_end f + 0 ≡ ip_end f = omega arith in
    let ports : changes_of_port (ip_end f) (port_at 0 f) to.sport ++ changes_of_port (ip_end f + 2) (port_at 2 f) to.dport ≡ ys
    = λ i. changes_of_port (ip_end f) (cond (some i) (Some (word_at (start i) f)) None) (sport i) ++ changes_of_port (ip_end f + 2) (cond (some i) (Some (word_at (ip_end f + 2) f)) None) (dport i) in
    let here : has_ports g ≡ true = same_ports f _ room ∙ some in
    let there : ip_end g ≡ ip_end f = same_end f _ room in
    let behind = placed.behind in
    let both = sum-addresses f to octets in
    let all = sum-ports f g p (p.at + 4) (omega arith) (omega arith) (same_checksummed f _ (p.at + 4) room) in
    let adds = sum-append xs ys ∙ (λ i. both i + all i) in
    ap (λ zs. put_changes (xs ++ zs) (put_port_checksum h (xs ++ zs) (put_checksum 24 xs f))) ports
    ∙ (ap (λ k. put_changes (xs ++ ys) (put_port_checksum h (xs ++ ys) k)) (put_first f to room octets)
    ∙ (ap (put_changes (xs ++ ys)) (λ i. cond (here i) (cond (nat_eq (sym proto i) 6) (put_checksum (there i + 16) (xs ++ ys) g) (put_udp_checksum (there i + 6) (xs ++ ys) g)) g)
    ∙ (ap (put_changes (xs ++ ys)) (put_transport f g to.proto (xs ++ ys) sum p placed octets (λ high. same_checksummed f _ high room) adds)
    ∙ put_fields f (with_port_checksum p.at to.proto sum g) to p room placed octets (same_transport f g to.proto sum p placed (same_checksummed f _ (p.at + 4) room)))))

-- a frame that takes headers has some
taken : (b : Bool) (h : Headers) (P : Headers → Type 0) → IsSomeAnd (cond b (Some h) None) P → (b ≡ true) × P h
taken true h P t = (refl, t)
taken false h P t = absurd t

some_of : (o : Option ℕ) → IsSome o → (n : ℕ) × (o ≡ Some n)
some_of None is = absurd (false≢true is)
some_of (Some n) is = (n, refl)

fields_by_ports : (b : Bool) (f : List ℕ) (to : Headers) → 34 ≤ length f → AreOctets f → has_ports f ≡ b → CanReplace (headers_in to.inport f) to → IfSome (ports_of f to) (λ p. IsPlaced to.proto (length f) p.at)
    → with_fields to (ports_of f to) (with_checksums to (ports_of f to) f) ≡ written_fields (headers_in to.inport f) to f
fields_by_ports false f to room octets none can placed =
    let nothing : ports_of f to ≡ None = ap (λ b. cond b (ports_with (ip_end f) to.sport to.dport) None) none in
    ap (λ o. with_fields to o (with_checksums to o f)) nothing ∙ sym (without_ports f to to.inport room octets none)
fields_by_ports true f to room octets some can placed =
    let sport = some_of to.sport (can.sport (ap (λ b. is_some (cond b (Some (word_at (ip_end f + 0) f)) None)) some)) in
    let dport = some_of to.dport (can.dport (ap (λ b. is_some (cond b (Some (word_at (ip_end f + 2) f)) None)) some)) in
    let p : Ports = record { at = ip_end f; sport = sport.0; dport = dport.0 } in
    let both : ports_of f to ≡ Some p = λ i. cond (some i) (ports_with (ip_end f) (sport.1 i) (dport.1 i)) None in
    let place : IsPlaced to.proto (length f) (ip_end f) = subst (λ o. IfSome o (λ q. IsPlaced to.proto (length f) q.at)) both placed in
    ap (λ o. with_fields to o (with_checksums to o f)) both ∙ sym (with_ports f to to.inport sport.0 dport.0 room octets some can.proto sport.1 dport.1 place)

pub rewritten : (f : List ℕ) (to : Headers) (mac : Mac) → 34 ≤ length f → AreOctets f → CanTake f to → IfSome (ports_of f to) (λ p. IsPlaced to.proto (length f) p.at)
    → mac.0 ++ drop 6 (with_fields to (ports_of f to) (with_checksums to (ports_of f to) f)) ≡ written f to mac
rewritten f to mac room octets takes placed =
    let has = taken (has_headers f) (headers_in to.inport f) (λ h. CanReplace h to) takes in
    let is : headers_of to.inport f ≡ Some (headers_in to.inport f) = ap (λ b. cond b (Some (headers_in to.inport f)) None) has.0 in
    ap (λ g. mac.0 ++ drop 6 g) (fields_by_ports (has_ports f) f to room octets refl has.1 placed ∙ ap (λ o. written_from o to f) (sym is))
