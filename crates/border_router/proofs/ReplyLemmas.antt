-- What is read from a reply is what was written.
use Rattle.std.proofs.Common.{◌≡◌, ℕ, true, false, cond, ◌+◌, ◌*◌, ◌/◌, ◌%◌, List, [], ◌∷◌, length, take, drop, refl, sym, ap, ◌∙◌, subst, arith}
use Rattle.net_types.specs.Arp.{arp_reply}
use Rattle.std.specs.FinMap.{insert}
use Rattle.net_types.specs.Octets.{address_at, same_octets}
use Rattle.net_types.specs.declared.address.Ip.{Ip}
use Rattle.net_types.specs.declared.address.Mac.{Mac}
use Rattle.border_router.specs.Hearing.{Answer, IsReplyOf, with_answer}
use Rattle.border_router.specs.Known.{Known}

-- six octets are named one by one
six : (P : List ℕ → Type 0) → ((a b c d e f : ℕ) → P (a ∷ b ∷ c ∷ d ∷ e ∷ f ∷ [])) → (xs : List ℕ) → length xs ≡ 6 → P xs
six P h (a ∷ b ∷ c ∷ d ∷ e ∷ f ∷ []) is = h a b c d e f
six P h [] is = absurd (omega arith)
six P h (a ∷ []) is = absurd (omega arith)
six P h (a ∷ b ∷ []) is = absurd (omega arith)
six P h (a ∷ b ∷ c ∷ []) is = absurd (omega arith)
six P h (a ∷ b ∷ c ∷ d ∷ []) is = absurd (omega arith)
six P h (a ∷ b ∷ c ∷ d ∷ e ∷ []) is = absurd (omega arith)
six P h (a ∷ b ∷ c ∷ d ∷ e ∷ f ∷ x ∷ xs) is = absurd (omega arith)

-- the number that an address's octets spell
spelt : (n : ℕ) → 65536 * (256 * (n / 16777216) + n / 65536 % 256) + (256 * (n / 256 % 256) + n % 256) ≡ n
spelt n = omega arith

-- where the parts of a reply stand
pub record IsRead (frame : List ℕ) (a : Answer) : Type 0 where
  pub long : length frame ≡ 42
  pub mac : take 6 (drop 22 frame) ≡ a.mac.0
  pub asked : address_at 28 frame ≡ a.asked
  pub asker : take 6 (drop 32 frame) ≡ a.asker.0

read_reply : (asker mac : List ℕ) (ip asked : Ip) → length asker ≡ 6 → length mac ≡ 6 → IsRead (arp_reply (record { 0 = asker }) ip asked (record { 0 = mac })) (record { asker = record { 0 = asker }; ip = ip; asked = asked; mac = record { 0 = mac } })
read_reply asker mac ip asked six_asker six_mac =
    six (λ xs. IsRead (arp_reply (record { 0 = xs }) ip asked (record { 0 = mac })) (record { asker = record { 0 = xs }; ip = ip; asked = asked; mac = record { 0 = mac } }))
    (λ a b c d e f. six (λ ys. IsRead (arp_reply (record { 0 = a ∷ b ∷ c ∷ d ∷ e ∷ f ∷ [] }) ip asked (record { 0 = ys })) (record { asker = record { 0 = a ∷ b ∷ c ∷ d ∷ e ∷ f ∷ [] }; ip = ip; asked = asked; mac = record { 0 = ys } }))
    (λ g h k l m n. record { long = refl; mac = refl; asked = λ i. record { 0 = spelt asked.0 i }; asker = refl }) mac six_mac)
    asker six_asker

pub is_read : (frame : List ℕ) (a : Answer) → IsReplyOf frame a → IsRead frame a
is_read frame a reply = subst (λ xs. IsRead xs a) (sym reply.is) (read_reply a.asker.0 a.mac.0 a.ip a.asked reply.asker_six reply.mac_six)

-- the answer goes to the router
pub heard_own : (frame : List ℕ) (k : Known) (a : Answer) → IsReplyOf frame a → same_octets (take 6 (drop 32 frame)) k.mac.0 ≡ true → (ip : Ip) (mac : Mac) → ip ≡ address_at 28 frame → mac.0 ≡ take 6 (drop 22 frame) → record k { resolved = insert k.resolved ip mac } ≡ with_answer a k
heard_own frame k a reply own ip mac ip_is mac_is =
    let r = is_read frame a reply in
    let same : same_octets a.asker.0 k.mac.0 ≡ true = ap (λ xs. same_octets xs k.mac.0) (sym r.asker) ∙ own in
    let at : ip ≡ a.asked = ip_is ∙ r.asked in
    let octets : mac.0 ≡ a.mac.0 = mac_is ∙ r.mac in
    let heard : Known = record k { resolved = insert k.resolved a.asked a.mac } in
    (λ i. record k { resolved = insert k.resolved (at i) (record { 0 = octets i }) }) ∙ ap (λ b. cond b heard k) (sym same)

-- the answer goes to another station
pub heard_other : (frame : List ℕ) (k : Known) (a : Answer) → IsReplyOf frame a → same_octets (take 6 (drop 32 frame)) k.mac.0 ≡ false → k ≡ with_answer a k
heard_other frame k a reply other =
    let r = is_read frame a reply in
    let same : same_octets a.asker.0 k.mac.0 ≡ false = ap (λ xs. same_octets xs k.mac.0) (sym r.asker) ∙ other in
    let heard : Known = record k { resolved = insert k.resolved a.asked a.mac } in
    ap (λ b. cond b heard k) (sym same)
