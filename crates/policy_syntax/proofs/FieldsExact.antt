-- Targets, addresses, prefixes and fields are read exactly.
use Rattle.grammar.proofs.DottedAddresses as dotted
use Rattle.text_fields.proofs.PrefixExact as prefixes
use Rattle.text_fields.proofs.PrefixExact.{prefix_heads}
use Rattle.net_types.specs.PrefixReading.{read_prefix}
use Rattle.std.proofs.Common.{◌≡◌, ℕ, ◌≤◌, Bool, true, false, List, [], ◌∷◌, ◌++◌, refl, arith, inl, inr, leb, eqb}
use Rattle.std.specs.Prelude.{◌⊎◌, ◌&&◌, not, codes}
use Rattle.std.proofs.lemmas.Bool.{or_left, eq-eqb, both_ways, or_cases, and_parts, leb-true, not_from_false, not-true, false_from_ne_true}
use Rattle.grammar.specs.Rules as rules
use Rattle.grammar.specs.Rules.{Rule, ◌>>=◌, word}
use Rattle.grammar.specs.Tokens.{name, number, is_letter, is_digit, is_name_octet}
use Rattle.grammar.specs.TextReading as reading
use Rattle.grammar.specs.TextReading.{Reader, read_word, read_either}
use Rattle.grammar.specs.TokenReading.{read_name, read_number, read_spaces, read_sign}
use Rattle.net_types.specs.Policies.{Name, Src, Dst, Proto, Sport, Dport}
use Rattle.net_types.specs.PolicyGrammar.{inport_is, number_is, SrcIs, DstIs, SportIs, DportIs, target, prefix, field, test, assign}
use Rattle.grammar.specs.Tokens.{address}
use Rattle.grammar.specs.Octets.{among}
use Rattle.net_types.specs.PolicyReading.{read_target, read_lead, read_field, read_end, read_test, read_assign}
use Rattle.grammar.specs.TokenReading.{read_address}
use Rattle.grammar.proofs.Exact.{same_reader, on_read-on_read, tighter}
use Rattle.grammar.specs.Exactness.{IsExact}
use Rattle.grammar.proofs.Firsts.{Heads, Heads-leads}
use Rattle.grammar.proofs.OctetKinds.{Apart, Within}
use Rattle.grammar.proofs.Choices.{one_of, either_exact, either_heads}
use Rattle.grammar.proofs.Names.{name_exact}
use Rattle.grammar.proofs.Numbers.{number_exact}
use Rattle.grammar.proofs.OctetKinds.{besides, among_within, among_apart, besides_apart, besides_rest}
use Rattle.grammar.proofs.Firsts.{Heads-within, word_heads}
use Rattle.grammar.proofs.Exact.{both_heads}
use Rattle.grammar.proofs.Words.{word_then}
use Rattle.grammar.proofs.Spaces.{spaces_then, sign_then, no_space}
use Rattle.grammar.proofs.Same.{same_exact}
use Rattle.grammar.proofs.CommonFronts.{common_front}
use Rattle.grammar.proofs.DottedAddresses.{address_heads}
use Rattle.grammar.proofs.Spaces.{digits_no_space}
use Rattle.grammar.proofs.OctetKinds.{flip}
use Rattle.grammar.proofs.Nothing.{map_exact, map_of}
use Rattle.grammar.proofs.Names.{name_heads}
use Rattle.grammar.proofs.Numbers.{number_heads}
use Rattle.grammar.proofs.Choices.{pick}
use Rattle.grammar.specs.Tokens.{sign, spaces}
use Rattle.grammar.proofs.Firsts.{wider}

-- what may stand behind a value, and behind an address
abbrev pub after_value : ℕ → Bool
after_value = among (codes " )|&,")

abbrev pub after_address : ℕ → Bool
after_address = among (codes "/ )|&,")

digit_not_letter : Within is_digit (λ c. not (is_letter c))
digit_not_letter c h = not_from_false (is_letter c) (false_from_ne_true (is_letter c) (λ k. go (or_cases (leb 65 c && leb c 90) (leb 97 c && leb c 122) k)))
  where
    low : c ≤ 57
    low = leb-true c 57 (and_parts (leb 48 c) (leb c 57) h).1

    go : ((leb 65 c && leb c 90) ≡ true) ⊎ ((leb 97 c && leb c 122) ≡ true) → ⊥
    go (inl k) = omega (arith, low, leb-true 65 c (and_parts (leb 65 c) (leb c 90) k).0)
    go (inr k) = omega (arith, low, leb-true 97 c (and_parts (leb 97 c) (leb c 122) k).0)

letter_rest : (c : ℕ) → is_letter c ≡ false → not (is_letter c) ≡ true
letter_rest c h = not_from_false (is_letter c) h

letter_apart : Apart is_letter (λ c. not (is_letter c))
letter_apart c h k = both_ways (is_letter c) (not-true (is_letter c) k) h

-- ---- targets

abbrev pub after_target : ℕ → Bool
after_target = among (codes " )")

pub target_exact : (d : ℕ) → IsExact (λ e. target) d after_target read_target
unfolding read_target
target_exact d =
    either_exact (map_of (λ e. name) Name) (map_of (λ e. number 1 65279) number_is) d is_letter (λ c. not (is_letter c)) after_target letter_apart
    (both_heads (λ e. name) (λ x e. rules.pure (Name x)) is_letter name_heads)
    (both_heads (λ e. number 1 65279) (λ x e. rules.pure (number_is x)) (λ c. not (is_letter c)) (Heads-within (λ e. number 1 65279) is_digit (λ c. not (is_letter c)) digit_not_letter (number_heads 1 65279 (omega arith) (omega arith))))
    letter_rest (reading.◌>>=◌ read_name (λ x. reading.pure (Name x))) (reading.◌>>=◌ (read_number 1 65279) (λ x. reading.pure (number_is x)))
    (map_exact (λ e. name) Name d after_target read_name (name_exact d after_target (flip after_target is_name_octet (among_apart (codes " )") is_name_octet refl))))
    (map_exact (λ e. number 1 65279) number_is d after_target (read_number 1 65279) (number_exact 1 65279 (omega arith) (omega arith) d after_target (flip after_target is_digit (among_apart (codes " )") is_digit refl))))

-- ---- addresses

pub address_exact : (d : ℕ) → IsExact (λ e. address) d after_address read_address
address_exact d = dotted.address_exact d after_address (flip after_address is_digit (among_apart (codes "/ )|&,") is_digit refl))

value_within : Within after_value after_address
value_within = among_within (codes " )|&,") after_address refl

-- ---- prefixes

prefix_exact : (d : ℕ) → IsExact (λ e. prefix) d after_value read_prefix
prefix_exact d = prefixes.prefix_exact (codes " )|&,") refl refl d

-- ---- fields

-- what stands behind a field's name
abbrev pub tail_of : {X Y : Type 0} → Rule X → (X → Y) → Rule Y
tail_of value make = rules.◌>>◌ spaces (rules.◌>>◌ (sign (codes "=")) (rules.◌>>=◌ value (λ x. rules.pure (make x))))

abbrev is_equals : ℕ → Bool
is_equals = among (codes "=")

tail_exact : {X Y : Type 0} (value : Rule X) (make : X → Y) (d : ℕ) (rv : Reader X) → Heads (λ e. value) is_digit → IsExact (λ e. value) d after_value rv
    → IsExact (λ e. tail_of value make) d after_value (reading.◌>>◌ read_spaces (reading.◌>>◌ (read_sign (codes "=")) (reading.◌>>=◌ rv (λ x. reading.pure (make x)))))
tail_exact value make d rv heads exact =
    spaces_then _ d after_value _ (Heads-leads _ is_equals after_value no_space (among_within (codes "=") no_space refl) (both_heads _ _ is_equals (both_heads _ _ is_equals (word_heads 61 [] is_equals refl))))
    (sign_then (codes "=") _ d after_value _ (Heads-leads _ is_digit after_value no_space digits_no_space (both_heads _ _ is_digit heads))
    (map_exact (λ e. value) make d after_value rv exact))

pub field_exact : {X Y : Type 0} (w : List ℕ) (value : Rule X) (make : X → Y) (d : ℕ) (rv : Reader X) → Heads (λ e. value) is_digit → IsExact (λ e. value) d after_value rv
    → IsExact (λ e. field w value make) d after_value (read_field w rv make)
unfolding read_field read_lead
field_exact w value make d rv heads exact =
    same_reader _ d after_value _ _ (λ n s. on_read-on_read (read_word w n s) _ _) (word_then w _ d after_value _ (tail_exact value make d rv heads exact))

-- an address and a port of one end: the names begin alike
pub end_exact : {X Y : Type 0} (w : List ℕ) (value : Rule X) (address : X → Y) (port : ℕ → Y) (d : ℕ) (rv : Reader X) → Heads (λ e. value) is_digit → IsExact (λ e. value) d after_value rv
    → IsExact (one_of (λ e. field (w ++ codes "ip") value address) (λ e. field (w ++ codes "port") (number 0 65535) port)) d after_value (read_end w rv address port)
unfolding read_end
end_exact w value address port d rv heads exact =
    same_exact _ _ d after_value _ (common_front w (codes "ip") (codes "port") (λ e. tail_of value address) (λ e. tail_of (number 0 65535) port))
    (word_then w _ d after_value _
    (either_exact (λ e. field (codes "ip") value address) (λ e. field (codes "port") (number 0 65535) port) d (among (codes "i")) (besides (codes "i")) after_value
    (besides_apart (codes "i"))
    (both_heads (λ e. word (codes "ip")) _ (among (codes "i")) (word_heads 105 (codes "p") (among (codes "i")) refl))
    (both_heads (λ e. word (codes "port")) _ (besides (codes "i")) (word_heads 112 (codes "ort") (besides (codes "i")) refl))
    (besides_rest (codes "i")) _ _
    (field_exact (codes "ip") value address d rv heads exact)
    (field_exact (codes "port") (number 0 65535) port d (read_number 0 65535) (number_heads 0 65535 (omega arith) (omega arith))
    (number_exact 0 65535 (omega arith) (omega arith) d after_value (flip after_value is_digit (among_apart (codes " )|&,") is_digit refl))))))

field_heads : {X Y : Type 0} (c : ℕ) (w : List ℕ) (value : Rule X) (make : X → Y) (to : ℕ → Bool) → to c ≡ true → Heads (λ e. field (c ∷ w) value make) to
field_heads c w value make to t = both_heads (λ e. word (c ∷ w)) _ to (word_heads c w to t)

port_exact : (low : ℕ) → low ≤ 1 → (high : ℕ) → 9 ≤ high → (d : ℕ) → IsExact (λ e. number low high) d after_value (read_number low high)
port_exact low small high large d = number_exact low high small large d after_value (flip after_value is_digit (among_apart (codes " )|&,") is_digit refl))

-- the address and the port of the end whose name begins with c
ends_heads : {X Y : Type 0} (c : ℕ) (w v : List ℕ) (value : Rule X) (address : X → Y) (port : ℕ → Y)
    → Heads (one_of (λ e. field (c ∷ w) value address) (λ e. field (c ∷ v) (number 0 65535) port)) (among (c ∷ []))
ends_heads c w v value address port = either_heads _ _ (among (c ∷ [])) (field_heads c w value address (among (c ∷ [])) (here c)) (field_heads c v (number 0 65535) port (among (c ∷ [])) (here c))
  where
    here : (c : ℕ) → among (c ∷ []) c ≡ true
    here c = or_left (eqb c c) false (eq-eqb c c refl)

both_ends : {X Y : Type 0} (value : Rule X) (src dst : X → Y) (sport dport : ℕ → Y) (d : ℕ) (rv : Reader X) → Heads (λ e. value) is_digit → IsExact (λ e. value) d after_value rv
    → IsExact (one_of (one_of (λ e. field (codes "srcip") value src) (λ e. field (codes "srcport") (number 0 65535) sport))
    (one_of (λ e. field (codes "dstip") value dst) (λ e. field (codes "dstport") (number 0 65535) dport))) d after_value
    (read_either (among (codes "s")) (read_end (codes "src") rv src sport) (read_end (codes "dst") rv dst dport))
both_ends value src dst sport dport d rv heads exact =
    pick _ _ d (codes "s") (codes "d") after_value _ _ refl
    (ends_heads 115 (codes "rcip") (codes "rcport") value src sport) (ends_heads 100 (codes "stip") (codes "stport") value dst dport)
    (end_exact (codes "src") value src sport d rv heads exact) (end_exact (codes "dst") value dst dport d rv heads exact)

both_ends_heads : {X Y : Type 0} (value : Rule X) (src dst : X → Y) (sport dport : ℕ → Y)
    → Heads (one_of (one_of (λ e. field (codes "srcip") value src) (λ e. field (codes "srcport") (number 0 65535) sport))
    (one_of (λ e. field (codes "dstip") value dst) (λ e. field (codes "dstport") (number 0 65535) dport))) (among (codes "sd"))
both_ends_heads value src dst sport dport =
    either_heads _ _ (among (codes "sd")) (wider _ (codes "s") (codes "sd") refl (ends_heads 115 (codes "rcip") (codes "rcport") value src sport))
    (wider _ (codes "d") (codes "sd") refl (ends_heads 100 (codes "stip") (codes "stport") value dst dport))

pub test_heads : Heads (λ e. test) (among (codes "ipsd"))
test_heads =
    either_heads _ _ (among (codes "ipsd")) (field_heads 105 (codes "nport") (number 1 65279) inport_is (among (codes "ipsd")) refl)
    (either_heads _ _ (among (codes "ipsd")) (field_heads 112 (codes "roto") (number 0 255) Proto (among (codes "ipsd")) refl)
    (wider _ (codes "sd") (codes "ipsd") refl (both_ends_heads prefix Src Dst Sport Dport)))

pub test_exact : (d : ℕ) → IsExact (λ e. test) d after_value read_test
unfolding read_test
test_exact d =
    pick _ _ d (codes "i") (codes "psd") after_value _ _ refl (field_heads 105 (codes "nport") (number 1 65279) inport_is (among (codes "i")) refl)
    (either_heads _ _ (among (codes "psd")) (field_heads 112 (codes "roto") (number 0 255) Proto (among (codes "psd")) refl) (wider _ (codes "sd") (codes "psd") refl (both_ends_heads prefix Src Dst Sport Dport)))
    (field_exact (codes "inport") (number 1 65279) inport_is d _ (number_heads 1 65279 (omega arith) (omega arith)) (port_exact 1 (omega arith) 65279 (omega arith) d))
    (pick _ _ d (codes "p") (codes "sd") after_value _ _ refl (field_heads 112 (codes "roto") (number 0 255) Proto (among (codes "p")) refl) (both_ends_heads prefix Src Dst Sport Dport)
    (field_exact (codes "proto") (number 0 255) Proto d _ (number_heads 0 255 (omega arith) (omega arith)) (port_exact 0 (omega arith) 255 (omega arith) d))
    (both_ends prefix Src Dst Sport Dport d read_prefix prefix_heads (prefix_exact d)))

pub assign_heads : Heads (λ e. assign) (among (codes "sd"))
assign_heads = both_ends_heads address SrcIs DstIs SportIs DportIs

pub assign_exact : (d : ℕ) → IsExact (λ e. assign) d after_value read_assign
unfolding read_assign
assign_exact d = both_ends address SrcIs DstIs SportIs DportIs d read_address address_heads (narrower d)
  where
    narrower : (d : ℕ) → IsExact (λ e. address) d after_value read_address
    narrower d = tighter (λ e. address) d after_address after_value read_address value_within (address_exact d)
