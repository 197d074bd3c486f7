-- Addresses of lines are the tokens.
use Rattle.std.proofs.Common.{◌≡◌, ℕ, ◌+◌, ◌*◌, true, false, nat_eq, List, [], ◌∷◌, ◌++◌, Some, None, Option, refl, sym, ap, ◌∙◌, arith, inl, inr, append-nil}
use Rattle.std.specs.Prelude.{codes}
use Rattle.std.proofs.lemmas.Bool.{cases_Bool, eqb-true}
use Rattle.std.proofs.lemmas.Bool.Decides.{nat_tests}
use Rattle.std.specs.Option.{option_and_then, option_map}
use Rattle.grammar.specs.Octets.{AllPass}
use Rattle.grammar.specs.Rules.{◌>>=◌}
use Rattle.grammar.specs.Tokens.{IsNumber, is_digit}
use Rattle.grammar.specs.Tokens as tokens
use Rattle.net_types.specs.declared.address.Ip.{Ip}
use Rattle.events.specs.Lines.{four_numbers, number_within, onto_first, pieces}
use Rattle.events.specs.Lines as lines
use Rattle.text_laws.proofs.TokenFields.{number_token, token_number}

-- ---- pieces and the text

-- pieces with the separator between them
abbrev rejoined : ℕ → List (List ℕ) → List ℕ
rejoined s [] = []
rejoined s (p ∷ []) = p
rejoined s (p ∷ q ∷ ps) = p ++ s ∷ rejoined s (q ∷ ps)

onto_rejoined : (s c : ℕ) (ls : List (List ℕ)) → rejoined s (onto_first c ls) ≡ c ∷ rejoined s ls
onto_rejoined s c [] = refl
onto_rejoined s c (l ∷ []) = refl
onto_rejoined s c (l ∷ m ∷ ls) = refl

data IsSome (ls : List (List ℕ)) : Type 0 where
  has : (l : List ℕ) (rest : List (List ℕ)) → ls ≡ l ∷ rest → IsSome ls

onto_some : (c : ℕ) (ls : List (List ℕ)) → IsSome (onto_first c ls)
onto_some c [] = has (c ∷ []) [] refl
onto_some c (l ∷ ls) = has (c ∷ l) ls refl

pieces_some : (s : ℕ) (xs : List ℕ) → IsSome (pieces s xs)
pieces_some s [] = has [] [] refl
pieces_some s (x ∷ xs) = elim (cases_Bool (nat_eq x s)) [
  | inl is ↦ rw is (has [] (pieces s xs) refl)
  | inr not ↦ rw not (onto_some x (pieces s xs))
]

piece_more : (s : ℕ) (ls : List (List ℕ)) → IsSome ls → rejoined s ([] ∷ ls) ≡ s ∷ rejoined s ls
piece_more s ls (has l rest is) = rw is refl

text_rejoined : (s : ℕ) (xs : List ℕ) → rejoined s (pieces s xs) ≡ xs
text_rejoined s [] = refl
text_rejoined s (x ∷ xs) = elim (cases_Bool (nat_eq x s)) [
  | inl is ↦ rw is (piece_more s (pieces s xs) (pieces_some s xs) ∙ ap (λ l. s ∷ l) (text_rejoined s xs) ∙ ap (λ c. c ∷ xs) (sym (eqb-true x s is)))
  | inr not ↦ rw not (onto_rejoined s x (pieces s xs) ∙ ap (λ l. x ∷ l) (text_rejoined s xs))
]

-- digits have no dot among them
no_dot : (c : ℕ) → is_digit c ≡ true → nat_eq c 46 ≡ false
no_dot c is = grind (arith, nat_tests, is)

-- digits before a dot are a piece
digits_then : (xs ys : List ℕ) → AllPass is_digit xs → pieces 46 (xs ++ (46 ∷ ys)) ≡ xs ∷ pieces 46 ys
digits_then [] ys all = refl
digits_then (x ∷ xs) ys all = rw (no_dot x all.0) (ap (onto_first x) (digits_then xs ys all.1))

digits_alone : (xs : List ℕ) → AllPass is_digit xs → pieces 46 xs ≡ xs ∷ []
digits_alone [] all = refl
digits_alone (x ∷ xs) all = rw (no_dot x all.0) (ap (onto_first x) (digits_alone xs all.1))

-- ---- four numbers

then_some : {X Y : Type 0} (f : X → Option Y) (o : Option X) (y : Y) → option_and_then f o ≡ Some y → (x : X) × (o ≡ Some x) × (f x ≡ Some y)
then_some f None y e = absurd cc
then_some f (Some x) y e = (x, refl, e)

map_some : {X Y : Type 0} (f : X → Y) (o : Option X) (y : Y) → option_map f o ≡ Some y → (x : X) × (o ≡ Some x) × (f x ≡ y)
map_some f None y e = absurd cc
map_some f (Some x) y e = (x, refl, cc)

-- texts of four numbers from 0 to 255, which make an address
record AreFour (a b c d : List ℕ) (ip : Ip) : Type 0 where
  i : ℕ
  j : ℕ
  k : ℕ
  l : ℕ
  first : number_within 0 255 a ≡ Some i
  second : number_within 0 255 b ≡ Some j
  third : number_within 0 255 c ≡ Some k
  last : number_within 0 255 d ≡ Some l
  value : ip.0 ≡ 16777216 * i + 65536 * j + 256 * k + l

four_of : (a b c d : List ℕ) (ip : Ip) → four_numbers (a ∷ b ∷ c ∷ d ∷ []) ≡ Some ip → AreFour a b c d ip
four_of a b c d ip e =
    let p = then_some _ (number_within 0 255 a) ip e in
    let q = then_some _ (number_within 0 255 b) ip p.2 in
    let r = then_some _ (number_within 0 255 c) ip q.2 in
    let s = map_some _ (number_within 0 255 d) ip r.2 in record { i = p.0; j = q.0; k = r.0; l = s.0; first = p.1; second = q.1; third = r.1; last = s.1; value = ap (λ (x : Ip). x.0) (sym s.2) }

digits_of : (text : List ℕ) → IsNumber 0 255 text → AllPass is_digit text
digits_of [] h = tt
digits_of (c ∷ s) h = (h.0, h.1)

spelled : (a b c d : List ℕ) (ip : Ip) → AreFour a b c d ip → (text : List ℕ) → text ≡ a ++ (46 ∷ (b ++ (46 ∷ (c ++ (46 ∷ d))))) → tokens.address.Spells 0 text ip.0
unfolding ◌>>=◌
spelled a b c d ip h text is = (
  a,
  46 ∷ (b ++ (46 ∷ (c ++ (46 ∷ d)))),
  h.i,
  is,
  number_token 0 255 a h.i 0 h.first,
  (
    codes ".",
    b ++ (46 ∷ (c ++ (46 ∷ d))),
    tt,
    refl,
    refl,
    (
      b,
      46 ∷ (c ++ (46 ∷ d)),
      h.j,
      refl,
      number_token 0 255 b h.j 0 h.second,
      (
        codes ".",
        c ++ (46 ∷ d),
        tt,
        refl,
        refl,
        (
          c,
          46 ∷ d,
          h.k,
          refl,
          number_token 0 255 c h.k 0 h.third,
          (
            codes ".",
            d,
            tt,
            refl,
            refl,
            (d, [], h.l, sym (append-nil d), number_token 0 255 d h.l 0 h.last, (refl, omega (arith, h.value))),
          ),
        ),
      ),
    ),
  ),
)

pieces_spelled : (ls : List (List ℕ)) (text : List ℕ) (ip : Ip) → rejoined 46 ls ≡ text → four_numbers ls ≡ Some ip → tokens.address.Spells 0 text ip.0
pieces_spelled [] text ip is e = absurd cc
pieces_spelled (a ∷ []) text ip is e = absurd cc
pieces_spelled (a ∷ b ∷ []) text ip is e = absurd cc
pieces_spelled (a ∷ b ∷ c ∷ []) text ip is e = absurd cc
pieces_spelled (a ∷ b ∷ c ∷ d ∷ []) text ip is e = spelled a b c d ip (four_of a b c d ip e) text (sym is)
pieces_spelled (a ∷ b ∷ c ∷ d ∷ f ∷ ls) text ip is e = absurd cc

pub address_token : (text : List ℕ) (ip : Ip) → lines.address text ≡ Some ip → tokens.address.Spells 0 text ip.0
address_token text ip e = pieces_spelled (pieces 46 text) text ip (text_rejoined 46 text) e

four_pieces : (a b c d : List ℕ) → AllPass is_digit a → AllPass is_digit b → AllPass is_digit c → AllPass is_digit d → pieces 46 (a ++ (46 ∷ (b ++ (46 ∷ (c ++ (46 ∷ d)))))) ≡ a ∷ b ∷ c ∷ d ∷ []
four_pieces a b c d ha hb hc hd =
    digits_then a _ ha ∙ ap (λ l. a ∷ l) (digits_then b _ hb ∙ ap (λ l. b ∷ l) (digits_then c d hc ∙ ap (λ l. c ∷ l) (digits_alone d hd)))

-- behind a number stands a dot
dot_next : (a rest dot more : List ℕ) (text : List ℕ) → text ≡ a ++ rest → rest ≡ dot ++ more → dot ≡ codes "." → text ≡ a ++ (46 ∷ more)
dot_next a rest dot more text is next dotted = is ∙ ap (λ r. a ++ r) (next ∙ ap (λ w. w ++ more) dotted)

pub token_address : (text : List ℕ) (ip : Ip) → tokens.address.Spells 0 text ip.0 → lines.address text ≡ Some ip
unfolding ◌>>=◌
token_address text ip sp =
    let b = sp.5.5 in
    let c = b.5.5 in
    let d = c.5.5 in
    let last : d.0 ≡ c.5.1 = sym (d.3 ∙ ap (λ r. d.0 ++ r) d.5.0 ∙ append-nil d.0) in
    let three = dot_next c.0 c.1 c.5.0 c.5.1 b.5.1 c.3 c.5.3 c.5.4 ∙ ap (λ r. c.0 ++ (46 ∷ r)) (sym last) in
    let two = dot_next b.0 b.1 b.5.0 b.5.1 sp.5.1 b.3 b.5.3 b.5.4 ∙ ap (λ r. b.0 ++ (46 ∷ r)) three in
    let whole = dot_next sp.0 sp.1 sp.5.0 sp.5.1 text sp.3 sp.5.3 sp.5.4 ∙ ap (λ r. sp.0 ++ (46 ∷ r)) two in
    let ip_is : 16777216 * sp.2 + 65536 * b.2 + 256 * c.2 + d.2 ≡ ip.0 = omega (arith, d.5.1) in
    ap (λ t. four_numbers (pieces 46 t)) whole
    ∙ ap four_numbers (four_pieces sp.0 b.0 c.0 d.0 (digits_of _ sp.4.0) (digits_of _ b.4.0) (digits_of _ c.4.0) (digits_of _ d.4.0))
    ∙ rw (token_number 0 255 sp.0 sp.2 0 sp.4, token_number 0 255 b.0 b.2 0 b.4, token_number 0 255 c.0 c.2 0 c.4, token_number 0 255 d.0 d.2 0 d.4) (ap (λ (n : ℕ). let x : Option Ip = Some (record { 0 = n }) in x) ip_is)
