-- Cubes, actions and rules are told by their texts.
use Rattle.std.proofs.Common.{◌≡◌, ℕ, ◌<◌, ◌≤◌, Bool, true, false, cond, nat_eq, List, [], ◌∷◌, ◌++◌, append_assoc, append-nil, map, codes, decimal, get_or, refl, sym, ap, ap₂, ◌∙◌, subst, arith}
use Rattle.std.specs.Prelude.{Option, Some, None}
use Rattle.std.proofs.lemmas.List.{append_cancel_left}
use Rattle.events.specs.Text.{action_text, address_field, address_text, cube_text, in_brackets, joined, number_field, or_none, or_star, prefix_field, prefix_text, rule_text}
use Rattle.net_types.specs.Sets.{Each}
use Rattle.net_types.specs.declared.actions.Action.{Action}
use Rattle.net_types.specs.declared.address.Ip.{Ip}
use Rattle.net_types.specs.declared.address.PortNo.{PortNo}
use Rattle.net_types.specs.declared.cube.Cube.{Cube}
use Rattle.net_types.specs.declared.prefix.Prefix.{Prefix}
use Rattle.net_types.specs.declared.rule.Rule.{Rule}
use Rattle.text_laws.specs.Widths.{IsAction, IsCube, IsRule}
use Rattle.text_laws.proofs.Alike.{Alike, Begins, Nothing, Over, Stops, both, closed, decimals, gives, is_hex, next, number_starts, over_append, over_decimal, over_more, starts}
use Rattle.text_laws.proofs.Fields.{address_field_over, address_told, closed_is, dark_digit, is_dark, is_plain, number_over, number_told, plain_digit, prefix_field_over, prefix_told}
use Rattle.text_laws.proofs.Joined.{IsField, cons_is, field_told, first_rank, list_told, rank_over}
use Rattle.net_types.proofs.MemberLemmas.{each_append}
use Rattle.exchange_laws.proofs.Lists.{clash}

-- ---- five fields

-- where a field stands: srcip, dstip, proto, srcport, dstport
abbrev rank : List ℕ → ℕ
rank x = cond (nat_eq (get_or x 0 0) 115) (cond (nat_eq (get_or x 3 0) 105) 1 4) (cond (nat_eq (get_or x 0 0) 100) (cond (nat_eq (get_or x 3 0) 105) 2 5) (cond (nat_eq (get_or x 0 0) 112) 3 9))

record AreFields (a b c d e : List (List ℕ)) : Type 0 where
  src : IsField rank 1 a
  dst : IsField rank 2 b
  proto : IsField rank 3 c
  sport : IsField rank 4 d
  dport : IsField rank 5 e

rank_here : (j k : ℕ) (a : List (List ℕ)) → IsField rank k a → j < k → j < 9 → j < first_rank rank a
rank_here j k [] one low less = less
rank_here j k (x ∷ []) one low less = omega (arith, one, low)
rank_here j k (x ∷ y ∷ xs) one low less = absurd one

five_told : (a b c d e a' b' c' d' e' : List (List ℕ)) → AreFields a b c d e → AreFields a' b' c' d' e' → a ++ (b ++ (c ++ (d ++ e))) ≡ a' ++ (b' ++ (c' ++ (d' ++ e'))) → (a ≡ a') × (b ≡ b') × (c ≡ c') × (d ≡ d') × (e ≡ e')
five_told a b c d e a' b' c' d' e' one two same =
    let above4 : (d e : List (List ℕ)) → IsField rank 5 e → 4 < first_rank rank e = λ d e is. rank_here 4 5 e is (omega arith) (omega arith) in
    let above3 : (d e : List (List ℕ)) → IsField rank 4 d → IsField rank 5 e → 3 < first_rank rank (d ++ e) = λ d e f g. rank_over rank 3 4 d e f (omega arith) (rank_here 3 5 e g (omega arith) (omega arith)) in
    let above2 : (c d e : List (List ℕ)) → IsField rank 3 c → IsField rank 4 d → IsField rank 5 e → 2 < first_rank rank (c ++ (d ++ e)) =
    λ c d e f g h. rank_over rank 2 3 c (d ++ e) f (omega arith) (rank_over rank 2 4 d e g (omega arith) (rank_here 2 5 e h (omega arith) (omega arith))) in
    let above1 : (b c d e : List (List ℕ)) → IsField rank 2 b → IsField rank 3 c → IsField rank 4 d → IsField rank 5 e → 1 < first_rank rank (b ++ (c ++ (d ++ e))) =
    λ b c d e f g h i. rank_over rank 1 2 b (c ++ (d ++ e)) f (omega arith) (rank_over rank 1 3 c (d ++ e) g (omega arith) (rank_over rank 1 4 d e h (omega arith) (rank_here 1 5 e i (omega arith) (omega arith)))) in
    let first = field_told rank 1 a a' (b ++ (c ++ (d ++ e))) (b' ++ (c' ++ (d' ++ e'))) one.src two.src (above1 b c d e one.dst one.proto one.sport one.dport) (above1 b' c' d' e' two.dst two.proto two.sport two.dport) same in
    let second = field_told rank 2 b b' (c ++ (d ++ e)) (c' ++ (d' ++ e')) one.dst two.dst (above2 c d e one.proto one.sport one.dport) (above2 c' d' e' two.proto two.sport two.dport) first.1 in
    let third = field_told rank 3 c c' (d ++ e) (d' ++ e') one.proto two.proto (above3 d e one.sport one.dport) (above3 d' e' two.sport two.dport) second.1 in
    let fourth = field_told rank 4 d d' e e' one.sport two.sport (above4 d e one.dport) (above4 d' e' two.dport) third.1 in
    (first.0, second.0, third.0, fourth.0, fourth.1)

-- the first text, if any, is a field
abbrev Proper : List (List ℕ) → Type 0
Proper [] = Unit {0}
Proper (x ∷ xs) = rank x < 9

proper_more : (k : ℕ) (a rest : List (List ℕ)) → IsField rank k a → k < 9 → Proper rest → Proper (a ++ rest)
proper_more k [] rest one low is = is
proper_more k (x ∷ []) rest one low is = omega (arith, one, low)
proper_more k (x ∷ y ∷ xs) rest one low is = absurd one

proper_five : (a b c d e : List (List ℕ)) → AreFields a b c d e → Proper (a ++ (b ++ (c ++ (d ++ (e ++ [])))))
proper_five a b c d e is =
    proper_more 1 a _ is.src (omega arith) (proper_more 2 b _ is.dst (omega arith) (proper_more 3 c _ is.proto (omega arith) (proper_more 4 d _ is.sport (omega arith) (proper_more 5 e [] is.dport (omega arith) tt))))

-- ---- cubes

one_star : (x : List ℕ) (xs : List (List ℕ)) → rank x < 9 → codes "*" ∷ [] ≡ x ∷ xs → ⊥
one_star x xs low e = let same : codes "*" ≡ x = cc in let nine : 9 ≡ rank x = ap rank same in omega (arith, nine, low)

stars_told : (fs gs : List (List ℕ)) (s t : List ℕ) → Each (Over is_plain) fs → Each (Over is_plain) gs → Proper fs → Proper gs → or_star fs ++ (32 ∷ s) ≡ or_star gs ++ (32 ∷ t) → (fs ≡ gs) × (s ≡ t)
stars_told [] [] s t over also one two e = (refl, (list_told is_plain 44 32 [] refl refl refl (codes "*") [] (codes "*") [] s t (refl, tt) (refl, tt) e).1)
stars_told [] (y ∷ ys) s t over also one two e = absurd (one_star y ys two (list_told is_plain 44 32 [] refl refl refl (codes "*") [] y ys s t (refl, tt) also e).0)
stars_told (x ∷ xs) [] s t over also one two e = absurd (one_star x xs one (sym (list_told is_plain 44 32 [] refl refl refl x xs (codes "*") [] s t over (refl, tt) e).0))
stars_told (x ∷ xs) (y ∷ ys) s t over also one two e = list_told is_plain 44 32 [] refl refl refl x xs y ys s t over also e

cube_of : Option PortNo → Prefix → Prefix → Option ℕ → Option ℕ → Option ℕ → Cube
cube_of inport src dst proto sport dport = record { inport = inport; src = src; dst = dst; proto = proto; sport = sport; dport = dport }

module _ (c d : Cube) where
  pub cube_is : c.inport ≡ d.inport → c.src ≡ d.src → c.dst ≡ d.dst → c.proto ≡ d.proto → c.sport ≡ d.sport → c.dport ≡ d.dport → c ≡ d
  unfolding cube_of
  cube_is e f g h i j =
      ap (λ x. cube_of x c.src c.dst c.proto c.sport c.dport) e ∙ ap (λ x. cube_of d.inport x c.dst c.proto c.sport c.dport) f ∙ ap (λ x. cube_of d.inport d.src x c.proto c.sport c.dport) g
      ∙ ap (λ x. cube_of d.inport d.src d.dst x c.sport c.dport) h ∙ ap (λ x. cube_of d.inport d.src d.dst d.proto x c.dport) i ∙ ap (λ x. cube_of d.inport d.src d.dst d.proto d.sport x) j

prefix_is_field : (name : List ℕ) (k : ℕ) (p : Prefix) → ((s : List ℕ) → rank (name ++ codes "=" ++ s) ≡ k) → IsField rank k (prefix_field name p)
prefix_is_field name k p is = by (nat_eq p.len 0)
  where
    by : (b : Bool) → IsField rank k (cond b [] ((name ++ codes "=" ++ prefix_text p) ∷ []))
    by true = tt
    by false = is (prefix_text p)

number_is_field : (name : List ℕ) (k : ℕ) (o : Option ℕ) → ((s : List ℕ) → rank (name ++ codes "=" ++ s) ≡ k) → IsField rank k (number_field name o)
number_is_field name k None is = tt
number_is_field name k (Some n) is = is (decimal n)

address_is_field : (name : List ℕ) (k : ℕ) (o : Option Ip) → ((s : List ℕ) → rank (name ++ codes "=" ++ s) ≡ k) → IsField rank k (address_field name o)
address_is_field name k None is = tt
address_is_field name k (Some ip) is = is (address_text ip)

cube_fields : (c : Cube) → AreFields (prefix_field (codes "srcip") c.src) (prefix_field (codes "dstip") c.dst) (number_field (codes "proto") c.proto) (number_field (codes "srcport") c.sport) (number_field (codes "dstport") c.dport)
cube_fields c = record {
  src = prefix_is_field (codes "srcip") 1 c.src (λ s. refl);
  dst = prefix_is_field (codes "dstip") 2 c.dst (λ s. refl);
  proto = number_is_field (codes "proto") 3 c.proto (λ s. refl);
  sport = number_is_field (codes "srcport") 4 c.sport (λ s. refl);
  dport = number_is_field (codes "dstport") 5 c.dport (λ s. refl);
}

right_nested : (a b c d e : List (List ℕ)) → a ++ b ++ c ++ d ++ e ≡ a ++ (b ++ (c ++ (d ++ e)))
right_nested a b c d e = append_assoc (a ++ b ++ c) d e ∙ append_assoc (a ++ b) c (d ++ e) ∙ append_assoc a b (c ++ (d ++ e))

proper_fields : {a b c d e : List (List ℕ)} → AreFields a b c d e → Proper (a ++ b ++ c ++ d ++ e)
proper_fields {a = a} {b = b} {c = c} {d = d} {e = e} is = subst Proper (ap (λ x. a ++ (b ++ (c ++ (d ++ x)))) (append-nil e) ∙ sym (right_nested a b c d e)) (proper_five a b c d e is)

fields_told : {a b c d e a' b' c' d' e' : List (List ℕ)} → AreFields a b c d e → AreFields a' b' c' d' e' → a ++ b ++ c ++ d ++ e ≡ a' ++ b' ++ c' ++ d' ++ e' → (a ≡ a') × (b ≡ b') × (c ≡ c') × (d ≡ d') × (e ≡ e')
fields_told {a = a} {b = b} {c = c} {d = d} {e = e} {a' = a'} {b' = b'} {c' = c'} {d' = d'} {e' = e'} one two same =
    five_told a b c d e a' b' c' d' e' one two (sym (right_nested a b c d e) ∙ same ∙ right_nested a' b' c' d' e')

abbrev texts_of : Cube → List (List ℕ)
texts_of c = prefix_field (codes "srcip") c.src ++ prefix_field (codes "dstip") c.dst ++ number_field (codes "proto") c.proto ++ number_field (codes "srcport") c.sport ++ number_field (codes "dstport") c.dport

cube_over : (c : Cube) → Each (Over is_plain) (texts_of c)
cube_over c =
    each_append (Over is_plain) _ _ (each_append (Over is_plain) _ _ (each_append (Over is_plain) _ _ (each_append (Over is_plain) _ _
    (prefix_field_over is_plain plain_digit refl refl (codes "srcip") c.src refl) (prefix_field_over is_plain plain_digit refl refl (codes "dstip") c.dst refl))
    (number_over is_plain plain_digit refl refl (codes "proto") c.proto refl)) (number_over is_plain plain_digit refl refl (codes "srcport") c.sport refl))
    (number_over is_plain plain_digit refl refl (codes "dstport") c.dport refl)

-- what follows begins so
moved_ends : (a b s t u v : List ℕ) → s ≡ u → t ≡ v → a ++ s ≡ b ++ t → a ++ u ≡ b ++ v
moved_ends a b s t u v e f g = sym (ap (λ x. a ++ x) e) ∙ g ∙ ap (λ x. b ++ x) f

pub cubes : (c d : Cube) → IsCube c → c.inport ≡ None → d.inport ≡ None → Alike (Begins 32) (c ≡ d) (cube_text c) (cube_text d)
cubes c d one free also = record {
  is = λ s t ends stops e.
      let told = stars_told (texts_of c) (texts_of d) ends.0 stops.0 (cube_over c) (cube_over d) (proper_fields (cube_fields c)) (proper_fields (cube_fields d)) (moved_ends (cube_text c) (cube_text d) s t (32 ∷ ends.0) (32 ∷ stops.0) ends.1 stops.1 e) in
      let fields = fields_told (cube_fields c) (cube_fields d) told.0 in (
        cube_is c d (free ∙ sym also) (prefix_told (codes "srcip") c.src d.src fields.0) (prefix_told (codes "dstip") c.dst d.dst fields.1) (number_told (codes "proto") c.proto d.proto one.proto fields.2)
            (number_told (codes "srcport") c.sport d.sport one.sport fields.3) (number_told (codes "dstport") c.dport d.dport one.dport fields.4),
        ends.1 ∙ ap (λ x. 32 ∷ x) told.1 ∙ sym stops.1,
      );
}

-- ---- actions

brackets_told : (fs gs : List (List ℕ)) → Each (Over is_plain) fs → Each (Over is_plain) gs → in_brackets fs ≡ in_brackets gs → fs ≡ gs
brackets_told [] [] over also e = refl
brackets_told [] (y ∷ ys) over also e = absurd (cc)
brackets_told (x ∷ xs) [] over also e = absurd (cc)
brackets_told (x ∷ xs) (y ∷ ys) over also e = (list_told is_plain 44 93 [] refl refl refl x xs y ys [] [] over also (append_cancel_left (codes "[") (joined (codes ",") (x ∷ xs) ++ codes "]") (joined (codes ",") (y ∷ ys) ++ codes "]") e)).0

-- where nothing follows, the texts alone are compared
alone : {P : Type 0} (a b : List ℕ) → (a ≡ b → P) → Alike Nothing P a b
alone a b then = record {
  is = λ s t ends stops e. (then (sym (append-nil a) ∙ moved_ends a b s t [] [] ends stops e ∙ append-nil b), ends ∙ sym stops);
}

bracket_stops : (fs : List (List ℕ)) (s : List ℕ) → Nothing s → Stops (in_brackets fs ++ s)
bracket_stops [] s ends = subst Stops (sym ends) refl
bracket_stops (x ∷ xs) s ends = refl

abbrev set_fields : Action → List (List ℕ)
set_fields a = address_field (codes "srcip") a.set.src ++ address_field (codes "dstip") a.set.dst ++ number_field (codes "srcport") a.set.sport ++ number_field (codes "dstport") a.set.dport

with_none : (a b c d : List (List ℕ)) → a ++ b ++ c ++ d ≡ a ++ b ++ [] ++ c ++ d
with_none a b c d = ap (λ x. x ++ c ++ d) (sym (append-nil (a ++ b)))

action_fields : (a : Action) → AreFields (address_field (codes "srcip") a.set.src) (address_field (codes "dstip") a.set.dst) [] (number_field (codes "srcport") a.set.sport) (number_field (codes "dstport") a.set.dport)
action_fields a = record {
  src = address_is_field (codes "srcip") 1 a.set.src (λ s. refl);
  dst = address_is_field (codes "dstip") 2 a.set.dst (λ s. refl);
  proto = tt;
  sport = number_is_field (codes "srcport") 4 a.set.sport (λ s. refl);
  dport = number_is_field (codes "dstport") 5 a.set.dport (λ s. refl);
}

module _ (test : ℕ → Bool) (digits : (c : ℕ) → 48 ≤ c → c ≤ 57 → test c ≡ true) (dot : test 46 ≡ true) (slash : test 47 ≡ true)
    (src : Over test (codes "srcip=")) (dst : Over test (codes "dstip=")) (sport : Over test (codes "srcport=")) (dport : Over test (codes "dstport=")) where
  set_over : (a : Action) → Each (Over test) (set_fields a)
  set_over a =
      each_append (Over test) _ _ (each_append (Over test) _ _ (each_append (Over test) _ _
      (address_field_over test digits dot slash (codes "srcip") a.set.src src) (address_field_over test digits dot slash (codes "dstip") a.set.dst dst))
      (number_over test digits dot slash (codes "srcport") a.set.sport sport)) (number_over test digits dot slash (codes "dstport") a.set.dport dport)

action_of : ℕ → Option Ip → Option Ip → Option ℕ → Option ℕ → Action
action_of port src dst sport dport = record { port = record { 0 = port }; set = record { src = src; dst = dst; sport = sport; dport = dport } }

module _ (a b : Action) where
  action_is : a.port.0 ≡ b.port.0 → a.set.src ≡ b.set.src → a.set.dst ≡ b.set.dst → a.set.sport ≡ b.set.sport → a.set.dport ≡ b.set.dport → a ≡ b
  unfolding action_of
  action_is e f g h i =
      ap (λ x. action_of x a.set.src a.set.dst a.set.sport a.set.dport) e ∙ ap (λ x. action_of b.port.0 x a.set.dst a.set.sport a.set.dport) f ∙ ap (λ x. action_of b.port.0 b.set.src x a.set.sport a.set.dport) g
      ∙ ap (λ x. action_of b.port.0 b.set.src b.set.dst x a.set.dport) h ∙ ap (λ x. action_of b.port.0 b.set.src b.set.dst b.set.sport x) i

  action_told : IsAction a → action_text a ≡ action_text b → a ≡ b
  action_told one e =
      let brackets : Alike Nothing (set_fields a ≡ set_fields b) (in_brackets (set_fields a)) (in_brackets (set_fields b)) =
      alone (in_brackets (set_fields a)) (in_brackets (set_fields b)) (brackets_told (set_fields a) (set_fields b) (set_over is_plain plain_digit refl refl refl refl refl refl a) (set_over is_plain plain_digit refl refl refl refl refl refl b)) in
      let told = closed_is refl (both (decimals a.port.0 b.port.0 one.port) brackets (bracket_stops (set_fields a)) (bracket_stops (set_fields b))) e in
      let fields = fields_told (action_fields a) (action_fields b) (sym (with_none (address_field (codes "srcip") a.set.src) (address_field (codes "dstip") a.set.dst) (number_field (codes "srcport") a.set.sport) (number_field (codes "dstport") a.set.dport)) ∙ told.1 ∙ with_none (address_field (codes "srcip") b.set.src) (address_field (codes "dstip") b.set.dst) (number_field (codes "srcport") b.set.sport) (number_field (codes "dstport") b.set.dport)) in
      action_is told.0 (address_told (codes "srcip") a.set.src b.set.src one.src fields.0) (address_told (codes "dstip") a.set.dst b.set.dst one.dst fields.1)
      (number_told (codes "srcport") a.set.sport b.set.sport one.sport fields.3) (number_told (codes "dstport") a.set.dport b.set.dport one.dport fields.4)

-- ---- rules

starts_so : (x s : List ℕ) → starts is_hex x ≡ true → starts is_hex (x ++ s) ≡ true
starts_so [] s is = absurd (cc)
starts_so (d ∷ ds) s is = is

not_none : (a : Action) (xs : List (List ℕ)) → codes "none" ∷ [] ≡ action_text a ∷ xs → ⊥
not_none a xs e =
    let same : codes "none" ≡ action_text a = cc in
    clash (starts_so (decimal a.port.0) (in_brackets (set_fields a)) (number_starts a.port.0)) (sym (ap (starts is_hex) same))

brackets_over : (test : ℕ → Bool) (fs : List (List ℕ)) → test 91 ≡ true → test 44 ≡ true → test 93 ≡ true → Each (Over test) fs → Over test (in_brackets fs)
brackets_over test [] one two three over = refl
brackets_over test (x ∷ xs) one two three over = over_append test (codes "[" ++ joined (codes ",") (x ∷ xs)) (codes "]") (over_more test 91 (joined (codes ",") (x ∷ xs)) one (by x xs over)) (over_more test 93 [] three refl)
  where
    by : (x : List ℕ) (xs : List (List ℕ)) → Each (Over test) (x ∷ xs) → Over test (joined (codes ",") (x ∷ xs))
    by x [] over = over.0
    by x (y ∷ ys) over = over_append test (x ++ codes ",") (joined (codes ",") (y ∷ ys)) (over_append test x (codes ",") over.0 (over_more test 44 [] two refl)) (by y ys over.1)

action_over : (a : Action) → Over is_dark (action_text a)
action_over a =
    over_append is_dark (decimal a.port.0) (in_brackets (set_fields a)) (over_decimal is_dark dark_digit a.port.0)
    (brackets_over is_dark (set_fields a) refl refl refl (set_over is_dark dark_digit refl refl refl refl refl refl a))

actions_over : (ls : List Action) → Each (Over is_dark) (map action_text ls)
actions_over [] = tt
actions_over (a ∷ ls) = (action_over a, actions_over ls)

texts_told : (ls bs : List Action) → Each IsAction ls → map action_text ls ≡ map action_text bs → ls ≡ bs
texts_told [] [] each e = refl
texts_told [] (b ∷ bs) each e = absurd (cc)
texts_told (a ∷ ls) [] each e = absurd (cc)
texts_told (a ∷ ls) (b ∷ bs) each e =
    let one : action_text a ≡ action_text b = cc in
    let rest : map action_text ls ≡ map action_text bs = cc in
    cons_is a b ls bs (action_told a b each.0 one) (texts_told ls bs each.1 rest)

actions_told : (ls bs : List Action) (s t : List ℕ) → Each IsAction ls → or_none (map action_text ls) ++ (10 ∷ s) ≡ or_none (map action_text bs) ++ (10 ∷ t) → (ls ≡ bs) × (s ≡ t)
actions_told [] [] s t each e = (refl, (list_told is_dark 32 10 (codes "+ ") refl refl refl (codes "none") [] (codes "none") [] s t (refl, tt) (refl, tt) e).1)
actions_told [] (b ∷ bs) s t each e =
    absurd (not_none b (map action_text bs) (list_told is_dark 32 10 (codes "+ ") refl refl refl (codes "none") [] (action_text b) (map action_text bs) s t (refl, tt) (actions_over (b ∷ bs)) e).0)
actions_told (a ∷ ls) [] s t each e =
    absurd (not_none a (map action_text ls) (sym (list_told is_dark 32 10 (codes "+ ") refl refl refl (action_text a) (map action_text ls) (codes "none") [] s t (actions_over (a ∷ ls)) (refl, tt) e).0))
actions_told (a ∷ ls) (b ∷ bs) s t each e =
    let told = list_told is_dark 32 10 (codes "+ ") refl refl refl (action_text a) (map action_text ls) (action_text b) (map action_text bs) s t (actions_over (a ∷ ls)) (actions_over (b ∷ bs)) e in
    (texts_told (a ∷ ls) (b ∷ bs) each told.0, told.1)

actions_alike : (ls bs : List Action) → Each IsAction ls → Alike (Begins 10) (ls ≡ bs) (or_none (map action_text ls)) (or_none (map action_text bs))
actions_alike ls bs each = record {
  is = λ s t ends stops e.
      let told = actions_told ls bs ends.0 stops.0 each (moved_ends (or_none (map action_text ls)) (or_none (map action_text bs)) s t (10 ∷ ends.0) (10 ∷ stops.0) ends.1 stops.1 e) in
      (told.0, ends.1 ∙ ap (λ x. 10 ∷ x) told.1 ∙ sym stops.1);
}

rule_is : (r q : Rule) → r.cube ≡ q.cube → r.actions ≡ q.actions → r ≡ q
rule_is r q e f = ap₂ (λ (c : Cube) (ls : List Action). let x : Rule = record { cube = c; actions = ls } in x) e f

pub rules : (r q : Rule) → IsRule r → r.cube.inport ≡ None → q.cube.inport ≡ None → Alike (Begins 10) (r ≡ q) (rule_text r) (rule_text q)
rules r q one here there =
    gives (λ is. rule_is r q is.0 is.1)
    (next (closed (codes " -> ") (λ s. (codes "-> " ++ s, refl)) (cubes r.cube q.cube one.cube here there)) (actions_alike r.actions q.actions one.actions))
