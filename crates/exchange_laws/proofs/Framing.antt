-- A datagram in a frame: whether it has headers and which destination doesn't depend on the MACs, and a tag can be read from
-- the frame to its MAC.
use Rattle.std.proofs.Common.{◌≡◌, ℕ, zero, suc, ◌+◌, ◌*◌, ◌/◌, ◌%◌, ◌≤◌, Bool, true, false, cond, List, [], ◌∷◌, ◌++◌, length, drop, ap, subst, ◌∙◌, refl, sym, arith}
use Rattle.std.specs.Prelude.{Some, None}
use Rattle.std.proofs.lemmas.Option.{cond_some}
use Rattle.events.specs.Fits.{tagged_frame}
use Rattle.events.specs.Refusals.{is_datagram}
use Rattle.events.specs.Table.{tag_at}
use Rattle.exchange_laws.proofs.Octets.{octets_more}
use Rattle.exchange_laws.specs.Octets.{AreOctets}
use Rattle.net_types.specs.Frames.{destination, framed, has_headers, headers_of, tag_mac}
use Rattle.net_types.specs.Octets.{address_at}
use Rattle.net_types.specs.declared.address.Mac.{Mac}
use Rattle.net_types.specs.declared.address.PortNo.{PortNo}
use Rattle.net_types.specs.declared.address.Tag.{Tag}
use Rattle.net_types.specs.declared.headers.Headers.{Headers}
use Rattle.net_types.specs.declared.route.PortInfo.{PortInfo}

-- the tag in three octets is the tag
tag_octets : (t : ℕ) → 65536 * (t / 65536) + 256 * (t / 256 % 256) + t % 256 ≡ t
tag_octets t = omega arith

pub tag_at-framed : (t : Tag) (from : Mac) (datagram : List ℕ) → tag_at (framed (record { 0 = tag_mac t }) from datagram) ≡ Some t
tag_at-framed t from datagram = ap (λ n. Some (let u : Tag = record { 0 = n } in u)) (tag_octets t.0)

-- six octets
record IsSix (xs : List ℕ) : Type 0 where
  a : ℕ
  b : ℕ
  c : ℕ
  d : ℕ
  e : ℕ
  f : ℕ
  is : xs ≡ a ∷ b ∷ c ∷ d ∷ e ∷ f ∷ []

six : (xs : List ℕ) → length xs ≡ 6 → IsSix xs
six [] h = absurd (omega arith)
six (a ∷ []) h = absurd (omega arith)
six (a ∷ b ∷ []) h = absurd (omega arith)
six (a ∷ b ∷ c ∷ []) h = absurd (omega arith)
six (a ∷ b ∷ c ∷ d ∷ []) h = absurd (omega arith)
six (a ∷ b ∷ c ∷ d ∷ e ∷ []) h = absurd (omega arith)
six (a ∷ b ∷ c ∷ d ∷ e ∷ f ∷ []) h = record { a = a; b = b; c = c; d = d; e = e; f = f; is = refl }
six (a ∷ b ∷ c ∷ d ∷ e ∷ f ∷ g ∷ xs) h = absurd (omega arith)

-- what is so of one pair of MACs is so of every one
by_macs : (P : List ℕ → List ℕ → Type 0) → ((a b c d e f : ℕ) (a' b' c' d' e' f' : ℕ) → P (a ∷ b ∷ c ∷ d ∷ e ∷ f ∷ []) (a' ∷ b' ∷ c' ∷ d' ∷ e' ∷ f' ∷ [])) → (to from : Mac) → length to.0 ≡ 6 → length from.0 ≡ 6 → P to.0 from.0
by_macs P all to from six_to six_from =
    let t = six to.0 six_to in
    let s = six from.0 six_from in
    subst (λ xs. P xs from.0) (sym t.is) (subst (P (t.a ∷ t.b ∷ t.c ∷ t.d ∷ t.e ∷ t.f ∷ [])) (sym s.is) (all t.a t.b t.c t.d t.e t.f s.a s.b s.c s.d s.e s.f))

-- whatever the MACs, it has headers or not
pub has_headers-framed : (to from : Mac) (datagram : List ℕ) → length to.0 ≡ 6 → length from.0 ≡ 6 → has_headers (framed to from datagram) ≡ is_datagram datagram
has_headers-framed to from datagram = by_macs (λ xs ys. has_headers (xs ++ ys ++ 8 ∷ 0 ∷ datagram) ≡ is_datagram datagram) (λ a b c d e f a' b' c' d' e' f'. refl) to from

address-framed : (to from : Mac) (datagram : List ℕ) → length to.0 ≡ 6 → length from.0 ≡ 6 → address_at 30 (framed to from datagram) ≡ destination datagram
address-framed to from datagram = by_macs (λ xs ys. address_at 30 (xs ++ ys ++ 8 ∷ 0 ∷ datagram) ≡ destination datagram) (λ a b c d e f a' b' c' d' e' f'. refl) to from

-- the frame to a tag's MAC
pub readdressed : (q : PortInfo) (t : Tag) (to : Mac) (datagram : List ℕ) → length to.0 ≡ 6 → length q.mac.0 ≡ 6 → tag_mac t ++ drop 6 (framed to q.mac datagram) ≡ tagged_frame q t datagram
readdressed q t to datagram = by_macs (λ xs ys. tag_mac t ++ drop 6 (xs ++ ys ++ 8 ∷ 0 ∷ datagram) ≡ tag_mac t ++ ys ++ 8 ∷ 0 ∷ datagram) (λ a b c d e f a' b' c' d' e' f'. refl) to q.mac

pub length-framed : (to from : Mac) (datagram : List ℕ) → length to.0 ≡ 6 → length from.0 ≡ 6 → 6 ≤ length (framed to from datagram)
length-framed to from datagram = by_macs (λ xs ys. 6 ≤ length (xs ++ ys ++ 8 ∷ 0 ∷ datagram)) (λ a b c d e f a' b' c' d' e' f'. omega arith) to from

-- a frame with headers carries a datagram to their destination
pub destination_is : (port : PortNo) (to from : Mac) (datagram : List ℕ) (h : Headers) → length to.0 ≡ 6 → length from.0 ≡ 6 → headers_of port (framed to from datagram) ≡ Some h → h.dst ≡ destination datagram
destination_is port to from datagram h six_to six_from e =
    let parts = cond_some (has_headers (framed to from datagram)) _ h e in
    ap (λ (x : Headers). x.dst) (sym parts.1) ∙ address-framed to from datagram six_to six_from

pub is_datagram-some : (port : PortNo) (to from : Mac) (datagram : List ℕ) (h : Headers) → length to.0 ≡ 6 → length from.0 ≡ 6 → headers_of port (framed to from datagram) ≡ Some h → is_datagram datagram ≡ true
is_datagram-some port to from datagram h six_to six_from e =
    sym (has_headers-framed to from datagram six_to six_from) ∙ (cond_some (has_headers (framed to from datagram)) _ h e).0

no_headers : {A : Type 0} (b : Bool) (x : A) → cond b (Some x) None ≡ None → b ≡ false
no_headers true x e = absurd (cc)
no_headers false x e = refl

pub is_datagram-none : (port : PortNo) (to from : Mac) (datagram : List ℕ) → length to.0 ≡ 6 → length from.0 ≡ 6 → headers_of port (framed to from datagram) ≡ None → is_datagram datagram ≡ false
is_datagram-none port to from datagram six_to six_from e =
    sym (has_headers-framed to from datagram six_to six_from) ∙ no_headers (has_headers (framed to from datagram)) _ e

there_where : {A : Type 0} (b : Bool) (x : A) → b ≡ true → (y : A) × (cond b (Some x) None ≡ Some y)
there_where true x e = (x, refl)
there_where false x e = absurd (cc)

-- where there is a datagram, the frame to a tag's MAC has headers
pub tagged_headers : (q : PortInfo) (t : Tag) (datagram : List ℕ) → length q.mac.0 ≡ 6 → is_datagram datagram ≡ true → (h : Headers) × (headers_of q.number (tagged_frame q t datagram) ≡ Some h)
tagged_headers q t datagram six_from is =
    there_where (has_headers (tagged_frame q t datagram)) _ (has_headers-framed (record { 0 = tag_mac t }) q.mac datagram refl six_from ∙ is)

-- ---- octets

octets_left : (n : ℕ) (xs : List ℕ) → AreOctets xs → AreOctets (drop n xs)
octets_left zero xs all k = all k
octets_left (suc n) [] all k = all k
octets_left (suc n) (x ∷ xs) all k = octets_left n xs (λ j. all (suc j)) k

-- a frame to a tag's MAC is one of octets
pub tagged_octets : (t : Tag) (frame : List ℕ) → t.0 ≤ 65536 → AreOctets frame → AreOctets (tag_mac t ++ drop 6 frame)
tagged_octets t frame small all =
    let rest : List ℕ = drop 6 frame in
    let low : List ℕ = t.0 % 256 ∷ rest in
    let middle : List ℕ = t.0 / 256 % 256 ∷ low in
    let high : List ℕ = t.0 / 65536 ∷ middle in
    octets_more 2 (83 ∷ 68 ∷ high) (omega arith) (octets_more 83 (68 ∷ high) (omega arith) (octets_more 68 high (omega arith)
    (octets_more (t.0 / 65536) middle (omega arith) (octets_more (t.0 / 256 % 256) low (omega arith) (octets_more (t.0 % 256) rest (omega arith) (octets_left 6 frame all))))))
