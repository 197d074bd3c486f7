-- Heads of replies are told by their texts.
use Rattle.std.proofs.Common.{◌≡◌, ℕ, ◌+◌, ◌*◌, ◌≤◌, true, List, [], ◌∷◌, ◌++◌, codes, decimal, get_or, find, refl, sym, ap, ap₂, ◌∙◌, arith}
use Rattle.std.specs.Prelude.{unwrap_or}
use Rattle.std.proofs.lemmas.Bool.Decides.{nat_tests}
use Rattle.std.proofs.lemmas.List.{append_cancel_left}
use Rattle.net_types.specs.Faults.{fault_word}
use Rattle.net_types.specs.Octets.{same_octets}
use Rattle.net_types.specs.declared.isolation.Kind.{Kind}
use Rattle.net_types.specs.declared.isolation.Kind.TheVariants.{UnknownName, OwnName, FwdKind, ForeignPort, ModifyOutbound, InportInbound}
use Rattle.net_types.specs.declared.update.Fault.{Fault}
use Rattle.net_types.specs.declared.update.Fault.TheVariants as faults
use Rattle.events.specs.Text.{address_text, head_text, kind_word, refusal_text}
use Rattle.events.specs.declared.Head.{Head}
use Rattle.events.specs.declared.Head.TheVariants.{Fine, Working, Finished, Unrouted, Unresolved, Silent, Refused}
use Rattle.events.specs.declared.Refusal.{Refusal}
use Rattle.events.specs.declared.Refusal.TheVariants.{BadLine, Misplaced, Unknown, Clash, Full, BadUpdate, FirstAs, NextHop, Oversize, TextLong, Syntax, TooDeep, Isolate, TooWide, NoNextHop, TableFull, BadPacket}
use Rattle.text_laws.specs.Widths.{IsHead, IsNumber, IsRefusal}
use Rattle.text_laws.proofs.Alike.{Alike, Begins, Over, behind, closed, decimal_tells, decimals, is_inside, next, over_append, over_decimal, spans, starts}
use Rattle.text_laws.proofs.Fields.{address_over, closed_is, is_dark}
use Rattle.text_laws.proofs.Numbers.{addresses}

-- ---- words

fault_of : List ℕ → Fault
fault_of w = unwrap_or (find (λ f. same_octets (fault_word f) w) (faults.NotUpdate ∷ faults.BadHeader ∷ faults.Malformed ∷ faults.UnknownWellKnown ∷ faults.MissingWellKnown ∷ faults.Flags ∷ faults.Length ∷ faults.Origin ∷ faults.NextHopSyntax ∷ faults.Network ∷ faults.AsPath ∷ [])) faults.NotUpdate

fault_back : (f : Fault) → fault_of (fault_word f) ≡ f
unfolding fault_of
fault_back faults.NotUpdate = refl
fault_back faults.BadHeader = refl
fault_back faults.Malformed = refl
fault_back faults.UnknownWellKnown = refl
fault_back faults.MissingWellKnown = refl
fault_back faults.Flags = refl
fault_back faults.Length = refl
fault_back faults.Origin = refl
fault_back faults.NextHopSyntax = refl
fault_back faults.Network = refl
fault_back faults.AsPath = refl

fault_told : (f g : Fault) → fault_word f ≡ fault_word g → f ≡ g
fault_told f g e = sym (fault_back f) ∙ ap fault_of e ∙ fault_back g

kind_of : List ℕ → Kind
kind_of w = unwrap_or (find (λ k. same_octets (kind_word k) w) (UnknownName ∷ OwnName ∷ FwdKind ∷ ForeignPort ∷ ModifyOutbound ∷ InportInbound ∷ [])) UnknownName

kind_back : (k : Kind) → kind_of (kind_word k) ≡ k
unfolding kind_of
kind_back UnknownName = refl
kind_back OwnName = refl
kind_back FwdKind = refl
kind_back ForeignPort = refl
kind_back ModifyOutbound = refl
kind_back InportInbound = refl

-- ---- octets of a line

inside_digit : (c : ℕ) → 48 ≤ c → c ≤ 57 → is_inside c ≡ true
inside_digit c low high = grind (arith, nat_tests)

numbers_over : (n : ℕ) → Over is_inside (decimal n)
numbers_over = over_decimal is_inside inside_digit

kind_inside : (k : Kind) → Over is_inside (kind_word k)
kind_inside UnknownName = refl
kind_inside OwnName = refl
kind_inside FwdKind = refl
kind_inside ForeignPort = refl
kind_inside ModifyOutbound = refl
kind_inside InportInbound = refl

kind_dark : (k : Kind) → Over is_dark (kind_word k)
kind_dark UnknownName = refl
kind_dark OwnName = refl
kind_dark FwdKind = refl
kind_dark ForeignPort = refl
kind_dark ModifyOutbound = refl
kind_dark InportInbound = refl

fault_inside : (f : Fault) → Over is_inside (fault_word f)
fault_inside faults.NotUpdate = refl
fault_inside faults.BadHeader = refl
fault_inside faults.Malformed = refl
fault_inside faults.UnknownWellKnown = refl
fault_inside faults.MissingWellKnown = refl
fault_inside faults.Flags = refl
fault_inside faults.Length = refl
fault_inside faults.Origin = refl
fault_inside faults.NextHopSyntax = refl
fault_inside faults.Network = refl
fault_inside faults.AsPath = refl

word_number_inside : (w : List ℕ) (n : ℕ) → Over is_inside w → Over is_inside (w ++ decimal n)
word_number_inside w n word = over_append is_inside w (decimal n) word (numbers_over n)

two_inside : (w : List ℕ) (m n : ℕ) → Over is_inside w → Over is_inside (w ++ decimal m ++ codes " " ++ decimal n)
two_inside w m n word = word_number_inside (w ++ decimal m ++ codes " ") n (over_append is_inside (w ++ decimal m) (codes " ") (word_number_inside w m word) refl)

refusal_inside : (r : Refusal) → Over is_inside (refusal_text r)
refusal_inside BadLine = refl
refusal_inside Misplaced = refl
refusal_inside Unknown = refl
refusal_inside Clash = refl
refusal_inside Full = refl
refusal_inside (BadUpdate fault) = over_append is_inside (codes "update ") (fault_word fault) refl (fault_inside fault)
refusal_inside FirstAs = refl
refusal_inside NextHop = refl
refusal_inside Oversize = refl
refusal_inside TextLong = refl
refusal_inside (Syntax at) = word_number_inside (codes "syntax ") at refl
refusal_inside (TooDeep at) = word_number_inside (codes "too-deep ") at refl
refusal_inside (Isolate kind start end) =
    two_inside (codes "policy " ++ kind_word kind ++ codes " ") start end
    (over_append is_inside (codes "policy " ++ kind_word kind) (codes " ") (over_append is_inside (codes "policy ") (kind_word kind) refl (kind_inside kind)) refl)
refusal_inside TooWide = refl
refusal_inside (NoNextHop need free) = two_inside (codes "no-next-hop ") need free refl
refusal_inside (TableFull rules capacity) = two_inside (codes "table-full ") rules capacity refl
refusal_inside BadPacket = refl

head_inside : (h : Head) → Over is_inside (head_text h)
head_inside Fine = refl
head_inside (Working units) = word_number_inside (codes "working ") units refl
head_inside Finished = refl
head_inside Unrouted = refl
head_inside (Unresolved ip) = over_append is_inside (codes "unresolved ") (address_text ip) refl (address_over is_inside inside_digit refl refl ip)
head_inside Silent = refl
head_inside (Refused why) = over_append is_inside (codes "refused ") (refusal_text why) refl (refusal_inside why)

-- ---- refusals

-- three octets of a text, by which refusals and heads are told apart
abbrev mark : List ℕ → ℕ
mark x = get_or x 0 0 * 65536 + get_or x 1 0 * 256 + get_or x 4 0

two_told : (w : List ℕ) (a b c d : ℕ) → IsNumber a → IsNumber b → w ++ decimal a ++ codes " " ++ decimal b ≡ w ++ decimal c ++ codes " " ++ decimal d → (a ≡ c) × (b ≡ d)
two_told w a b c d one two e = closed_is refl (next (closed (codes " ") (λ s. refl) (behind w (decimals a c one))) (decimals b d two)) e

kinds : (k l : Kind) → Alike (Begins 32) (k ≡ l) (kind_word k) (kind_word l)
kinds k l = record {
  is = λ s t ends stops e.
      let is = spans is_dark (kind_word k) (kind_word l) s t (kind_dark k) (kind_dark l) (ap (starts is_dark) ends.1) (ap (starts is_dark) stops.1) e in
      (sym (kind_back k) ∙ ap kind_of is.0 ∙ kind_back l, is.1);
}

isolate_told : (k l : Kind) (a b c d : ℕ) → IsNumber a → IsNumber b → refusal_text (Isolate k a b) ≡ refusal_text (Isolate l c d) → Isolate k a b ≡ Isolate l c d
isolate_told k l a b c d one two e =
    let is = closed_is refl (next (closed (codes " ") (λ s. refl) (next (closed (codes " ") (λ s. (s, refl)) (behind (codes "policy ") (kinds k l))) (decimals a c one))) (decimals b d two)) e in
    ap (λ x. Isolate x a b) is.0.0 ∙ ap (λ x. Isolate l x b) is.0.1 ∙ ap (λ x. Isolate l c x) is.1

refusal_told : (r q : Refusal) → IsRefusal r → refusal_text r ≡ refusal_text q → r ≡ q
refusal_told BadLine BadLine one e = refl
refusal_told Misplaced Misplaced one e = refl
refusal_told Unknown Unknown one e = refl
refusal_told Clash Clash one e = refl
refusal_told Full Full one e = refl
refusal_told (BadUpdate f) (BadUpdate g) one e = ap BadUpdate (fault_told f g (append_cancel_left (codes "update ") (fault_word f) (fault_word g) e))
refusal_told FirstAs FirstAs one e = refl
refusal_told NextHop NextHop one e = refl
refusal_told Oversize Oversize one e = refl
refusal_told TextLong TextLong one e = refl
refusal_told (Syntax m) (Syntax n) one e = ap Syntax (decimal_tells m n one (append_cancel_left (codes "syntax ") (decimal m) (decimal n) e))
refusal_told (TooDeep m) (TooDeep n) one e = ap TooDeep (decimal_tells m n one (append_cancel_left (codes "too-deep ") (decimal m) (decimal n) e))
refusal_told (Isolate k a b) (Isolate l c d) one e = isolate_told k l a b c d one.0 one.1 e
refusal_told TooWide TooWide one e = refl
refusal_told (NoNextHop a b) (NoNextHop c d) one e = let is = two_told (codes "no-next-hop ") a b c d one.0 one.1 e in ap₂ (λ x y. NoNextHop x y) is.0 is.1
refusal_told (TableFull a b) (TableFull c d) one e = let is = two_told (codes "table-full ") a b c d one.0 one.1 e in ap₂ (λ x y. TableFull x y) is.0 is.1
refusal_told BadPacket BadPacket one e = refl
refusal_told r q one e = absurd (omega (arith, ap mark e))

-- ---- heads

head_told : (h g : Head) → IsHead h → head_text h ≡ head_text g → h ≡ g
head_told Fine Fine one e = refl
head_told (Working m) (Working n) one e = ap Working (decimal_tells m n one (append_cancel_left (codes "working ") (decimal m) (decimal n) e))
head_told Finished Finished one e = refl
head_told Unrouted Unrouted one e = refl
head_told (Unresolved x) (Unresolved y) one e = ap Unresolved (closed_is refl (addresses x y one) (append_cancel_left (codes "unresolved ") (address_text x) (address_text y) e))
head_told Silent Silent one e = refl
head_told (Refused r) (Refused q) one e = ap Refused (refusal_told r q one (append_cancel_left (codes "refused ") (refusal_text r) (refusal_text q) e))
head_told h g one e = absurd (omega (arith, ap mark e))

pub heads : (h g : Head) → IsHead h → Alike (Begins 10) (h ≡ g) (head_text h) (head_text g)
heads h g one = record {
  is = λ s t ends stops e.
      let is = spans is_inside (head_text h) (head_text g) s t (head_inside h) (head_inside g) (ap (starts is_inside) ends.1) (ap (starts is_inside) stops.1) e in
      (head_told h g one is.0, is.1);
}
