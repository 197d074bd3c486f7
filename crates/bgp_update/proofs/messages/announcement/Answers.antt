-- The lengths are put in the head once the attributes are written.
use Rattle.std.proofs.Common.{refl, ◌≡◌, ◌+◌, ◌-◌, ℕ, List, [], ◌∷◌, ◌++◌, length, get_or, slice_set, ap, ◌∙◌, arith}
use Rattle.std.specs.Vec.{vec_len}
use Rattle.net_types.specs.Octets.{word}
use Rattle.net_types.specs.Updates.{update_message, attrs_octets, prefix_octets}
use Rattle.bgp_update.proofs.messages.announcement.Goals as goal

abbrev empty_head : List ℕ
empty_head = 255 ∷ 255 ∷ 255 ∷ 255 ∷ 255 ∷ 255 ∷ 255 ∷ 255 ∷ 255 ∷ 255 ∷ 255 ∷ 255 ∷ 255 ∷ 255 ∷ 255 ∷ 255 ∷ 0 ∷ 0 ∷ 2 ∷ 0 ∷ 0 ∷ 0 ∷ 0 ∷ []

abbrev with_pair : List ℕ → ℕ → List ℕ → List ℕ
with_pair items at pair = slice_set (slice_set items at (get_or pair 0 0)) (at + 1) (get_or pair 1 0)

attributes_length : (attrs o1 o2 o3 : List ℕ) → o1 ≡ [] → o2 ≡ o1 ++ empty_head → o3 ≡ o2 ++ attrs → length o3 - 23 ≡ length attrs
attributes_length attrs o1 o2 o3 e1 e2 e3 = rw (e3, e2, e1) (omega arith)

filled : (attrs announced o1 o2 o3 o4 total own : List ℕ) (n m : ℕ) → o1 ≡ [] → o2 ≡ o1 ++ empty_head → o3 ≡ o2 ++ attrs → o4 ≡ o3 ++ announced
    → total ≡ word (23 + 0 + n + m) → own ≡ word n → n ≡ length attrs → m ≡ length announced
    → with_pair (with_pair o4 16 total) 21 own ≡ update_message [] attrs announced
filled attrs announced o1 o2 o3 o4 total own n m e1 e2 e3 e4 t w en em = rw (e4, e3, e2, e1, t, w, en, em) refl

pub returns : goal.returns
returns c =
    let o1 : c.in_ok-out.out.items ≡ [] = c.in_ok-out.ensures.items in
    let o2 : c.extend_from_slice.new.self.items ≡ c.in_ok-out.out.items ++ empty_head = c.in_ok-extend_from_slice.ensures.items ∙ ap (λ (s : List ℕ). c.in_ok-out.out.items ++ s) c.as_slice.ensures in
    let o3 : c.push_attrs.new.out.items ≡ c.extend_from_slice.new.self.items ++ attrs_octets (record c.args.attrs.now { next_hop = c.args.next_hop }) = c.in_ok-push_attrs.ensures in
    let o4 : c.push_prefix.new.out.items ≡ c.push_attrs.new.out.items ++ prefix_octets c.args.prefix = c.in_ok-push_prefix.ensures in
    let len : c.len-attributes.result ≡ vec_len c.push_attrs.new.out = c.len-attributes.ensures in
    let items : vec_len c.push_attrs.new.out ≡ length c.push_attrs.new.out.items = c.push_attrs.new.out.ok.0 in
    let own = ap (λ (m : ℕ). m - 23) (len ∙ items) ∙ attributes_length _ _ _ _ o1 o2 o3 in
    c.from_vec.ensures ∙ filled _ _ _ _ _ _ _ _ _ _ o1 o2 o3 o4 c.total.ensures c.word.ensures own c.prefix_len-2.ensures
