-- The lines of details are told by their texts: each kind begins otherwise, and a head begins with a digit.
use Rattle.std.proofs.Common.{◌≡◌, ℕ, ◌<◌, Bool, true, false, cond, ◌||◌, nat_eq, List, [], ◌∷◌, ◌++◌, append_assoc, flat_map, codes, get_or, refl, sym, ap, ap₂, ◌∙◌, subst, lt_irrefl, arith}
use Rattle.std.specs.Prelude.{IfSome, Option, Some, None}
use Rattle.std.proofs.lemmas.Bool.Decides.{nat_tests}
use Rattle.std.proofs.lemmas.List.{append_cancel_left}
use Rattle.events.specs.Text.{add_text, advert_text, drop_text, end_line, exchange_text, flow_text, frame_text, hex_text, rule_line, tag_text}
use Rattle.events.specs.declared.Event.{Event}
use Rattle.events.specs.declared.Event.TheVariants.{Table}
use Rattle.events.specs.declared.Exchange.{Exchange as ArpExchange}
use Rattle.events.specs.declared.Flow.{Flow}
use Rattle.events.specs.declared.Frame.{Frame as Leaves}
use Rattle.events.specs.declared.TagChange.{TagChange}
use Rattle.net_types.specs.Sets.{Each}
use Rattle.net_types.specs.declared.address.Tag.{Tag}
use Rattle.net_types.specs.declared.prefix.Prefix.{Prefix}
use Rattle.net_types.specs.declared.rule.Pair.{Pair}
use Rattle.net_types.specs.declared.rule.Rule.{Rule}
use Rattle.text_laws.specs.Naming.{IsOfNoPort}
use Rattle.text_laws.specs.Widths.{IsFlow, IsFrame, IsNumber, IsPair, IsTagChange}
use Rattle.text_laws.proofs.Alike.{Alike, Anything, behind, closed, decimals, gives, is_hex, next, starts}
use Rattle.text_laws.proofs.Joined.{cons_is}
use Rattle.text_laws.proofs.Numbers.{octets, pairs, prefixes}
use Rattle.text_laws.proofs.Rules.{rules}

-- ---- kinds of lines

-- the part of a reply that a text begins with: tags, drops, rules, adverts, asks, frames, or else a head or nothing
abbrev pub part : List ℕ → ℕ
part x =
    cond (nat_eq (get_or x 0 0) 32)
    (cond (nat_eq (get_or x 2 0) 116 || nat_eq (get_or x 2 0) 117) 1
    (cond (nat_eq (get_or x 2 0) 100) 2
    (cond (nat_eq (get_or x 2 0) 102) 3
    (cond (nat_eq (get_or x 2 0) 97) (cond (nat_eq (get_or x 3 0) 115) 5 (cond (nat_eq (get_or x 4 0) 100) 3 4))
    (cond (nat_eq (get_or x 2 0) 114) 5 6)))))
    7

-- a text that begins with a digit
pub head_part : (x : List ℕ) → starts is_hex x ≡ true → part x ≡ 7
head_part [] is = refl
head_part (c ∷ cs) is = otherwise (nat_eq c 32) _ 7 (not_space c is)
  where
    otherwise : (b : Bool) (x y : ℕ) → b ≡ false → cond b x y ≡ y
    otherwise true x y e = absurd (cc)
    otherwise false x y e = refl

    not_space : (c : ℕ) → is_hex c ≡ true → nat_eq c 32 ≡ false
    not_space c is = grind (arith, nat_tests)

module _ {X : Type 0} (f : X → List ℕ) (P Q : X → Type 0) (k : ℕ) (begins : (x : X) (s : List ℕ) → part (f x ++ s) ≡ k) where
  begins_all : (x : X) (xs : List X) (s : List ℕ) → part (flat_map f (x ∷ xs) ++ s) ≡ k
  begins_all x xs s = ap part (append_assoc (f x) (flat_map f xs) s) ∙ begins x (flat_map f xs ++ s)

  -- behind an earlier part
  pub part_over : (j : ℕ) (xs : List X) (s : List ℕ) → j < k → j < part s → j < part (flat_map f xs ++ s)
  part_over j [] s low less = less
  part_over j (x ∷ xs) s low less = let is : part (flat_map f (x ∷ xs) ++ s) ≡ k = begins_all x xs s in subst (λ n. j < n) (sym is) low

  pub part_told : ((x y : X) → P x → Q y → Alike Anything (x ≡ y) (f x) (f y)) → (xs ys : List X) (s t : List ℕ) → Each P xs → Each Q ys → k < part s → k < part t
      → flat_map f xs ++ s ≡ flat_map f ys ++ t → (xs ≡ ys) × (s ≡ t)
  part_told told [] [] s t each also low less e = (refl, e)
  part_told told [] (y ∷ ys) s t each also low less e = absurd (lt_irrefl k (subst (λ n. k < n) (ap part e ∙ begins_all y ys t) low))
  part_told told (x ∷ xs) [] s t each also low less e = absurd (lt_irrefl k (subst (λ n. k < n) (sym (ap part e) ∙ begins_all x xs s) less))
  part_told told (x ∷ xs) (y ∷ ys) s t each also low less e =
      let one = (told x y each.0 also.0).is (flat_map f xs ++ s) (flat_map f ys ++ t) tt tt (sym (append_assoc (f x) (flat_map f xs) s) ∙ e ∙ append_assoc (f y) (flat_map f ys) t) in
      let more = part_told told xs ys s t each.1 also.1 low less one.1 in
      (cons_is x y xs ys one.0 more.0, more.1)

-- ---- tags

tag_is : (t u : TagChange) → t.prefix ≡ u.prefix → t.tag ≡ u.tag → t ≡ u
tag_is t u e f = ap₂ (λ (p : Prefix) (o : Option Tag). let x : TagChange = record { prefix = p; tag = o } in x) e f

some_tag : (a b : Tag) → a.0 ≡ b.0 → Some a ≡ Some b
some_tag a b e = ap (λ (n : ℕ). let t : Tag = record { 0 = n } in Some t) e

pub tag_begins : (t : TagChange) (s : List ℕ) → part (tag_text t ++ s) ≡ 1
tag_begins t s = by t.prefix t.tag
  where
    by : (p : Prefix) (o : Option Tag) → part (tag_text (record { prefix = p; tag = o }) ++ s) ≡ 1
    by p (Some x) = refl
    by p None = refl

tag_lines : (p q : Prefix) (a b : Option Tag) → IfSome a (λ (x : Tag). IsNumber x.0)
    → Alike Anything ((p ≡ q) × (a ≡ b)) (tag_text (record { prefix = p; tag = a })) (tag_text (record { prefix = q; tag = b }))
tag_lines p q None None one = gives (λ is. (is, refl)) (closed end_line (λ s. refl) (behind (codes "  untag ") (prefixes p q)))
tag_lines p q (Some a) (Some b) one =
    gives (λ is. (is.0, some_tag a b is.1)) (closed end_line (λ s. refl) (next (closed (codes " ") (λ s. refl) (behind (codes "  tag ") (prefixes p q))) (decimals a.0 b.0 one)))
tag_lines p q None (Some b) one = record { is = λ s t ends stops e. let differ : 117 ≡ 116 = ap (λ x. get_or x 2 0) e in absurd (omega (arith, differ)) }
tag_lines p q (Some a) None one = record { is = λ s t ends stops e. let differ : 116 ≡ 117 = ap (λ x. get_or x 2 0) e in absurd (omega (arith, differ)) }

pub tags_told : (t u : TagChange) → IsTagChange t → Unit {0} → Alike Anything (t ≡ u) (tag_text t) (tag_text u)
tags_told t u one two = gives (λ is. tag_is t u is.0 is.1) (tag_lines t.prefix u.prefix t.tag u.tag one.tag)

-- ---- pairs and rules

pub drop_begins : (q : Pair) (s : List ℕ) → part (drop_text q ++ s) ≡ 2
drop_begins q s = refl

pub drops_told : (p q : Pair) → IsPair p → Unit {0} → Alike Anything (p ≡ q) (drop_text p) (drop_text q)
drops_told p q one two = closed end_line (λ s. refl) (behind (codes "  drop ") (pairs p q one))

flow_is : (f g : Flow) → f.pair ≡ g.pair → f.rule ≡ g.rule → f ≡ g
flow_is f g d e = ap₂ (λ (p : Pair) (r : Rule). let x : Flow = record { pair = p; rule = r } in x) d e

-- a rule whose numbers fit, and whose cube is of no port
pub record IsPlainFlow (f : Flow) : Type 0 where
  pub widths : IsFlow f
  pub of_no_port : IsOfNoPort f.rule.cube

pub plain_flows : (fs : List Flow) → Each IsFlow fs → Each (λ (f : Flow). IsOfNoPort f.rule.cube) fs → Each IsPlainFlow fs
plain_flows [] widths frees = tt
plain_flows (f ∷ fs) widths frees = (record { widths = widths.0; of_no_port = frees.0 }, plain_flows fs widths.1 frees.1)

module _ (f g : Flow) (one : IsPlainFlow f) (two : IsOfNoPort g.rule.cube) where
  adds_told : Alike Anything (f ≡ g) (add_text f) (add_text g)
  adds_told =
      gives (λ is. flow_is f g is.0 is.1)
      (closed end_line (λ s. (s, refl)) (next (closed (codes " ") (λ s. refl) (behind (codes "  add ") (pairs f.pair g.pair one.widths.pair))) (rules f.rule g.rule one.widths.rule one.of_no_port two)))

  flows_told : Alike Anything (f ≡ g) (flow_text f) (flow_text g)
  flows_told =
      gives (λ is. flow_is f g is.0 is.1)
      (closed end_line (λ s. (s, refl)) (next (closed (codes " ") (λ s. refl) (behind (codes "  flow ") (pairs f.pair g.pair one.widths.pair))) (rules f.rule g.rule one.widths.rule one.of_no_port two)))

pub rule_begins : (e : Event) (f : Flow) (s : List ℕ) → part (rule_line e f ++ s) ≡ 3
rule_begins Table f s = refl
rule_begins e f s = refl

pub rules_told : (e : Event) (f g : Flow) → IsPlainFlow f → IsOfNoPort g.rule.cube → Alike Anything (f ≡ g) (rule_line e f) (rule_line e g)
rules_told Table f g one two = flows_told f g one two
rules_told e f g one two = adds_told f g one two

-- ---- messages and frames

pub advert_begins : (m : List ℕ) (s : List ℕ) → part (advert_text m ++ s) ≡ 4
advert_begins m s = refl

pub adverts_told : (m n : List ℕ) → Unit {0} → Unit {0} → Alike Anything (m ≡ n) (advert_text m) (advert_text n)
adverts_told m n one two = closed end_line (λ s. refl) (behind (codes "  advert ") (octets m n))

exchange_is : (x y : ArpExchange) → x.request ≡ y.request → x.reply ≡ y.reply → x ≡ y
exchange_is x y e f = ap₂ (λ (o : Option (List ℕ)) (m : List ℕ). let z : ArpExchange = record { request = o; reply = m } in z) e f

pub exchange_begins : (x : ArpExchange) (s : List ℕ) → part (exchange_text x ++ s) ≡ 5
exchange_begins x s = by x.request
  where
    by : (o : Option (List ℕ)) → part (exchange_text (record { request = o; reply = x.reply }) ++ s) ≡ 5
    by None = refl
    by (Some m) = refl

word_told : (w : List ℕ) → Alike Anything (Unit {0}) w w
word_told w = record { is = λ s t ends stops e. (tt, append_cancel_left w s t e) }

reply_lines : (m n : List ℕ) → Alike Anything (m ≡ n) (codes "  reply " ++ hex_text m ++ end_line) (codes "  reply " ++ hex_text n ++ end_line)
reply_lines m n = closed end_line (λ s. refl) (behind (codes "  reply ") (octets m n))

exchange_lines : (o p : Option (List ℕ)) (m n : List ℕ) → Alike Anything ((o ≡ p) × (m ≡ n)) (exchange_text (record { request = o; reply = m })) (exchange_text (record { request = p; reply = n }))
exchange_lines None None m n = gives (λ is. (refl, is)) (reply_lines m n)
exchange_lines (Some a) (Some b) m n =
    let asks : Alike Anything (a ≡ b) (codes "  ask " ++ hex_text a ++ end_line) (codes "  ask " ++ hex_text b ++ end_line) = closed end_line (λ s. refl) (behind (codes "  ask ") (octets a b)) in
    gives (λ is. (ap Some is.0.0, is.1)) (closed end_line (λ s. refl) (next (next asks (word_told (codes "  reply "))) (octets m n)))
exchange_lines None (Some b) m n = record { is = λ s t ends stops e. let differ : 114 ≡ 97 = ap (λ x. get_or x 2 0) e in absurd (omega (arith, differ)) }
exchange_lines (Some a) None m n = record { is = λ s t ends stops e. let differ : 97 ≡ 114 = ap (λ x. get_or x 2 0) e in absurd (omega (arith, differ)) }

pub exchanges_told : (x y : ArpExchange) → Unit {0} → Unit {0} → Alike Anything (x ≡ y) (exchange_text x) (exchange_text y)
exchanges_told x y one two = gives (λ is. exchange_is x y is.0 is.1) (exchange_lines x.request y.request x.reply y.reply)

frame_is : (f g : Leaves) → f.port.0 ≡ g.port.0 → f.bytes ≡ g.bytes → f ≡ g
frame_is f g d e = ap₂ (λ (n : ℕ) (m : List ℕ). let x : Leaves = record { port = record { 0 = n }; bytes = m } in x) d e

pub frame_begins : (f : Leaves) (s : List ℕ) → part (frame_text f ++ s) ≡ 6
frame_begins f s = refl

pub frames_told : (f g : Leaves) → IsFrame f → Unit {0} → Alike Anything (f ≡ g) (frame_text f) (frame_text g)
frames_told f g one two =
    gives (λ is. frame_is f g is.0 is.1)
    (closed end_line (λ s. refl) (next (closed (codes " ") (λ s. refl) (behind (codes "  out ") (decimals f.port.0 g.port.0 one.port))) (octets f.bytes g.bytes)))
