-- The canonical text of a policy is read as the policy, but for its spans.
use Rattle.std.proofs.Common.{◌≡◌, ℕ, zero, suc, ◌+◌, ◌-◌, ◌*◌, ◌/◌, ◌%◌, ◌^◌, ◌≤◌, ◌<◌, Bool, true, false, List, [], ◌∷◌, ◌++◌, length, refl, sym, ap, subst, ◌∙◌, append_assoc, arith, inl, inr, length-append, leb, eqb}
use Rattle.std.specs.Prelude.{◌⊎◌, codes}
use Rattle.std.specs.Fmt.{decimal}
use Rattle.std.proofs.lemmas.Fmt.{decimal_by_steps}
use Rattle.std.proofs.lemmas.List.{append-nil}
use Rattle.std.proofs.lemmas.Bool.{le-leb, and_from, cases_Bool, eqb-true, cond-true, cond-false}
use Rattle.grammar.specs.Rules as rules
use Rattle.grammar.specs.Rules.{Rule, word, ◌>>=◌, many, SpellsTimes}
use Rattle.grammar.specs.Octets.{AllPass}
use Rattle.grammar.specs.Tokens.{is_digit, is_space, number_of, IsNumber, number, sign, spaces}
use Rattle.grammar.specs.Rules.{place}
use Rattle.net_types.specs.declared.prefix.Prefix.{Prefix}
use Rattle.net_types.specs.PolicyGrammar.{inport_is, prefix_of, span, field, prefix, test, tested, prim_with, lit_with, conj_with, pred_with, and_lit, or_conj, pred_group}
use Rattle.net_types.specs.declared.headers.Span.{Span}
use Rattle.net_types.specs.Policies.{Test, Inport, Src, Dst, Proto, Sport, Dport, Pred, Yes, Is, Not, And, Or}
use Rattle.grammar.specs.Tokens.{address, address_text, parens}
use Rattle.policy_syntax.specs.Canonical.{Level, Loose, Middle, Tight, Single, group_third, grouped, len_text, prefix_text, test_text, pred_text}
use Rattle.policy_syntax.specs.ReadsBack.{bare_pred}
use Rattle.policy_syntax.proofs.FittingPolicies.{SoundTest, FitsPred}
use Rattle.grammar.proofs.Numbers.{number_from-append}
use Rattle.net_types.proofs.PrefixLemmas.{same_bits_refl}
use Rattle.text_fields.proofs.FirstBits.{is_prefix_of}

-- ---- numbers

-- digits without a leading zero that stand for n
record IsDecimal (n : ℕ) (ds : List ℕ) : Type 0 where
  head : ℕ
  tail : List ℕ
  parts : ds ≡ head ∷ tail
  digit : is_digit head ≡ true
  digits : AllPass is_digit tail
  lead : head ≡ 48 → tail ≡ []
  value : number_of ds ≡ n

digit_from : (c : ℕ) → 48 ≤ c → c ≤ 57 → is_digit c ≡ true
digit_from c lo hi = and_from (leb 48 c) (leb c 57) (le-leb 48 c lo) (le-leb c 57 hi)

AllPass-push : (kind : ℕ → Bool) (s : List ℕ) (c : ℕ) → AllPass kind s → kind c ≡ true → AllPass kind (s ++ c ∷ [])
AllPass-push kind [] c h t = (t, tt)
AllPass-push kind (x ∷ s) c h t = (h.0, AllPass-push kind s c h.1 t)

one_digit : (n : ℕ) → n < 10 → IsDecimal n ((48 + n) ∷ [])
one_digit n lt = record { head = 48 + n; tail = []; parts = refl; digit = digit_from (48 + n) (omega arith) (omega arith); digits = tt; lead = λ e. refl; value = omega arith }

more_digits : (n : ℕ) (ds : List ℕ) → 10 ≤ n → IsDecimal (n / 10) ds → IsDecimal n (ds ++ ((48 + n % 10) ∷ []))
more_digits n ds le h = record {
  head = h.head;
  tail = h.tail ++ (48 + n % 10) ∷ [];
  parts = ap (λ (t : List ℕ). t ++ (48 + n % 10) ∷ []) h.parts;
  digit = h.digit;
  digits = AllPass-push is_digit h.tail (48 + n % 10) h.digits (digit_from (48 + n % 10) (omega arith) (omega arith));
  lead = λ e. absurd (zero_only h.head h.tail (sym h.value ∙ ap number_of h.parts) e (h.lead e));
  value = number_from-append 0 ds ((48 + n % 10) ∷ []) ∙ value_case (number_of ds) h.value;
}
  where
    zero_only : (c : ℕ) (t : List ℕ) → n / 10 ≡ number_of (c ∷ t) → c ≡ 48 → t ≡ [] → ⊥
    zero_only c t v e f = omega (arith, v ∙ ap (λ (w : List ℕ). number_of (c ∷ w)) f, e, le)

    value_case : (v : ℕ) → v ≡ n / 10 → v * 10 + ((48 + n % 10) - 48) ≡ n
    value_case v e = omega (arith, e)

decimal_is : (n : ℕ) → n < 2 ^ 64 → IsDecimal n (decimal n)
decimal_is n lt = decimal_by_steps IsDecimal one_digit more_digits n lt

pub decimal_number : (low high n : ℕ) → n < 2 ^ 64 → low ≤ n → n ≤ high → (at : ℕ) → (number low high).Spells at (decimal n) n
decimal_number low high n lt lo hi at =
    let h = decimal_is n lt in
    let value : number_of (h.head ∷ h.tail) ≡ n = sym (ap number_of h.parts) ∙ h.value in
    let is : IsNumber low high (h.head ∷ h.tail) = (h.digit, h.digits, h.lead, omega (arith, value), omega (arith, value)) in
    (subst (IsNumber low high) (sym h.parts) is, sym h.value)

-- ---- rules one after another

pub both : {X Y : Type 0} (f : Rule X) (g : X → Rule Y) (at : ℕ) (a b : List ℕ) (x : X) (y : Y) → f.Spells at a x → (g x).Spells (at + length a) b y → (f >>= g).Spells at (a ++ b) y
unfolding ◌>>=◌
both f g at a b x y sp k = (a, b, x, refl, sp, k)

-- a value at the end of a rule takes no octets
pub ended : {X Y : Type 0} (f : Rule X) (g : X → Y) (at : ℕ) (a : List ℕ) (x : X) → f.Spells at a x → (f >>= λ z. rules.pure (g z)).Spells at a (g x)
unfolding ◌>>=◌
ended f g at a x sp = (a, [], x, sym (append-nil a), sp, (refl, refl))

-- spaces that stand nowhere take no octets
pub no_spaces : {Y : Type 0} (g : Rule Y) (at : ℕ) (b : List ℕ) (y : Y) → g.Spells at b y → (spaces >>= λ _. g).Spells at b y
unfolding ◌>>=◌
no_spaces g at b y k = ([], b, tt, refl, tt, subst (λ (n : ℕ). g.Spells n b y) (omega arith) k)

-- a sign without spaces
pub signed : {Y : Type 0} (w : List ℕ) (g : Rule Y) (at : ℕ) (b : List ℕ) (y : Y) → g.Spells (at + length w) b y → (sign w >>= λ _. g).Spells at (w ++ b) y
unfolding ◌>>=◌
signed w g at b y k = (w, b, tt, refl, (w, [], tt, sym (append-nil w), refl, tt), k)

-- a sign with spaces behind it
pub spaced : {Y : Type 0} (w t : List ℕ) (g : Rule Y) (at : ℕ) (b : List ℕ) (y : Y) → AllPass is_space t → g.Spells (at + length (w ++ t)) b y → (sign w >>= λ _. g).Spells at ((w ++ t) ++ b) y
unfolding ◌>>=◌
spaced w t g at b y all k = (w ++ t, b, tt, refl, (w, t, tt, refl, refl, all), k)

-- ---- repetitions

-- one part more at the end
pub times_push : {X Y : Type 0} (join : X → Y → X) (part : Rule Y) (n : ℕ) (before x : X) (y : Y) (at : ℕ) (s t : List ℕ) → SpellsTimes join part n before at s x → part.Spells (at + length s) t y
    → SpellsTimes join part (suc n) before at (s ++ t) (join x y)
times_push join part zero before x y at s t sp k =
    (t, [], y, ap (λ (w : List ℕ). w ++ t) sp.0 ∙ sym (append-nil t), subst (λ (n : ℕ). part.Spells n t y) (omega (arith, ap length sp.0)) k, (refl, ap (λ z. join z y) sp.1))
times_push join part (suc n) before x y at s t sp k =
    let place : at + length s ≡ (at + length sp.0) + length sp.1 = omega (arith, ap length sp.3, length-append sp.0 sp.1) in (
      sp.0,
      sp.1 ++ t,
      sp.2,
      ap (λ (w : List ℕ). w ++ t) sp.3 ∙ append_assoc sp.0 sp.1 t,
      sp.4,
      times_push join part n (join before sp.2) x y (at + length sp.0) sp.1 t sp.5 (subst (λ (m : ℕ). part.Spells m t y) place k),
    )

-- a repetition behind its first part, with one part more
pub one_more : {X Y : Type 0} (first : Rule X) (join : X → Y → X) (part : Rule Y) (at : ℕ) (s t : List ℕ) (x : X) (y : Y) → (first >>= λ z. many join part z).Spells at s x → part.Spells (at + length s) t y
    → (first >>= λ z. many join part z).Spells at (s ++ t) (join x y)
unfolding ◌>>=◌
one_more first join part at s t x y sp k =
    let place : at + length s ≡ (at + length sp.0) + length sp.1 = omega (arith, ap length sp.3, length-append sp.0 sp.1) in (
      sp.0,
      sp.1 ++ t,
      sp.2,
      ap (λ (w : List ℕ). w ++ t) sp.3 ∙ append_assoc sp.0 sp.1 t,
      sp.4,
      (suc sp.5.0, times_push join part sp.5.0 sp.2 x y (at + length sp.0) sp.1 t sp.5.1 (subst (λ (m : ℕ). part.Spells m t y) place k)),
    )

-- a repetition with no part behind its first
pub alone : {X Y : Type 0} (first : Rule X) (join : X → Y → X) (part : Rule Y) (at : ℕ) (s : List ℕ) (x : X) → first.Spells at s x → (first >>= λ z. many join part z).Spells at s x
unfolding ◌>>=◌
alone first join part at s x sp = (s, [], x, sym (append-nil s), sp, (0, (refl, refl)))

-- ---- fields

-- what a rule spells wherever it stands
abbrev pub Anywhere : {X : Type 0} → Rule X → List ℕ → X → Type 0
Anywhere f s x = (at : ℕ) → f.Spells at s x

pub field_back : {X Y : Type 0} (w : List ℕ) (value : Rule X) (make : X → Y) (s : List ℕ) (x : X) → Anywhere value s x → Anywhere (field w value make) (w ++ (codes "=" ++ s)) (make x)
field_back w value make s x h at =
    both (word w) _ at w (codes "=" ++ s) tt (make x) refl (no_spaces _ _ _ _ (signed (codes "=") _ _ s (make x) (ended value make _ s x (h _))))

-- four numbers below 256
pub address_back : (a b c d : ℕ) → a < 256 → b < 256 → c < 256 → d < 256
    → Anywhere address (decimal a ++ (codes "." ++ (decimal b ++ (codes "." ++ (decimal c ++ (codes "." ++ decimal d)))))) (((a * 256 + b) * 256 + c) * 256 + d)
address_back a b c d la lb lc ld at =
    both (number 0 255) _ at (decimal a) _ a _ (octet a la at) (both (word (codes ".")) _ _ (codes ".") _ tt _ refl
    (both (number 0 255) _ _ (decimal b) _ b _ (octet b lb 0) (both (word (codes ".")) _ _ (codes ".") _ tt _ refl
    (both (number 0 255) _ _ (decimal c) _ c _ (octet c lc 0) (both (word (codes ".")) _ _ (codes ".") _ tt _ refl
    (ended (number 0 255) (λ x. ((a * 256 + b) * 256 + c) * 256 + x) _ (decimal d) d (octet d ld 0)))))))
  where
    octet : (n : ℕ) → n < 256 → (at : ℕ) → (number 0 255).Spells at (decimal n) n
    octet n lt at = decimal_number 0 255 n (omega arith) (omega arith) (omega arith) at

regrouped : (a b c d dot : List ℕ) → a ++ dot ++ b ++ dot ++ c ++ dot ++ d ≡ a ++ (dot ++ (b ++ (dot ++ (c ++ (dot ++ d)))))
regrouped a b c d dot = append_assoc _ dot d ∙ append_assoc _ c _ ∙ append_assoc _ dot _ ∙ append_assoc _ b _ ∙ append_assoc a dot _

pub ip_back : (ip : ℕ) → ip < 2 ^ 32 → Anywhere address (address_text ip) ip
ip_back ip lt at =
    let back = address_back (ip / 16777216) (ip / 65536 % 256) (ip / 256 % 256) (ip % 256) (omega arith) (omega arith) (omega arith) (omega arith) at in
    subst (λ (t : List ℕ). address.Spells at t ip) (sym (regrouped (decimal (ip / 16777216)) (decimal (ip / 65536 % 256)) (decimal (ip / 256 % 256)) (decimal (ip % 256)) (codes ".")))
    (subst (λ (x : ℕ). address.Spells at (decimal (ip / 16777216) ++ (codes "." ++ (decimal (ip / 65536 % 256) ++ (codes "." ++ (decimal (ip / 256 % 256) ++ (codes "." ++ decimal (ip % 256))))))) x) (omega arith) back)

prefix_is : (p : Prefix) → prefix_of p.address.0 p.len ≡ p
prefix_is p = sym (is_prefix_of p.address.0 p.len p p.short refl (same_bits_refl p.len p.address.0))

pub prefix_back : (p : Prefix) → Anywhere prefix (prefix_text p) p
prefix_back p at =
    subst (λ (x : Prefix). prefix.Spells at (prefix_text p) x) (prefix_is p)
    (both address _ at (address_text p.address.0) (len_text p.len) p.address.0 (prefix_of p.address.0 p.len) (ip_back p.address.0 p.in_range at)
    (ended _ (λ n. prefix_of p.address.0 n) _ (len_text p.len) p.len (len_back (cases_Bool (eqb p.len 32)) _)))
  where
    short : p.len ≤ 32
    short = p.short

    len_back : (eqb p.len 32 ≡ true) ⊎ (eqb p.len 32 ≡ false) → (at : ℕ) → (rules.maybe 32 (rules.◌>>◌ (word (codes "/")) (number 0 32))).Spells at (len_text p.len) p.len
    len_back (inl t) at = inl (cond-true (eqb p.len 32) [] (codes "/" ++ decimal p.len) t, eqb-true p.len 32 t)
    len_back (inr t) at =
        inr (subst (λ (s : List ℕ). (rules.◌>>◌ (word (codes "/")) (number 0 32)).Spells at s p.len) (sym (cond-false (eqb p.len 32) [] (codes "/" ++ decimal p.len) t))
        (both (word (codes "/")) _ at (codes "/") (decimal p.len) tt p.len refl (decimal_number 0 32 p.len (omega (arith, short)) (omega arith) short 0)))

pub test_back : (x : Test) → SoundTest x → Anywhere test (test_text x) x
test_back (Inport n) h at = inl (field_back (codes "inport") (number 1 65279) inport_is (decimal n.0) n.0 (λ at. decimal_number 1 65279 n.0 (omega (arith, h.1)) h.0 h.1 at) at)
test_back (Proto n) h at = inr (inl (field_back (codes "proto") (number 0 255) Proto (decimal n) n (λ at. decimal_number 0 255 n (omega (arith, h)) (omega arith) h at) at))
test_back (Src p) h at = inr (inr (inl (inl (field_back (codes "srcip") prefix Src (prefix_text p) p (prefix_back p) at))))
test_back (Sport n) h at = inr (inr (inl (inr (field_back (codes "srcport") (number 0 65535) Sport (decimal n) n (λ at. decimal_number 0 65535 n (omega (arith, h)) (omega arith) h at) at))))
test_back (Dst p) h at = inr (inr (inr (inl (field_back (codes "dstip") prefix Dst (prefix_text p) p (prefix_back p) at))))
test_back (Dport n) h at = inr (inr (inr (inr (field_back (codes "dstport") (number 0 65535) Dport (decimal n) n (λ at. decimal_number 0 65535 n (omega (arith, h)) (omega arith) h at) at))))

-- ---- predicates

abbrev pub pred_rule : Level → ℕ → Rule Pred
pred_rule Loose d = pred_with (pred_group d)
pred_rule Middle d = conj_with (pred_group d)
pred_rule Tight d = lit_with (pred_group d)
pred_rule Single d = prim_with (pred_group d)

from_conj : (d at : ℕ) (s : List ℕ) (q : Pred) → (conj_with (pred_group d)).Spells at s q → (pred_with (pred_group d)).Spells at s q
from_conj d at s q sp = alone _ Or _ at s q sp

from_lit : (level : Level) (d at : ℕ) (s : List ℕ) (q : Pred) → group_third level ≡ false → (lit_with (pred_group d)).Spells at s q → (pred_rule level d).Spells at s q
from_lit Loose d at s q e sp = from_conj d at s q (alone _ And _ at s q sp)
from_lit Middle d at s q e sp = alone _ And _ at s q sp
from_lit Tight d at s q e sp = sp
from_lit Single d at s q e sp = absurd cc

from_prim : (level : Level) (d at : ℕ) (s : List ℕ) (q : Pred) → (prim_with (pred_group d)).Spells at s q → (pred_rule level d).Spells at s q
from_prim Loose d at s q sp = from_lit Loose d at s q refl (inr sp)
from_prim Middle d at s q sp = from_lit Middle d at s q refl (inr sp)
from_prim Tight d at s q sp = inr sp
from_prim Single d at s q sp = sp

-- a rule that is read back with any spaces behind it
pub record Back (f : Rule Pred) (s : List ℕ) (p : Pred) (at : ℕ) (t : List ℕ) : Type 0 where
  pub found : Pred
  pub spells : f.Spells at (s ++ t) found
  pub alike : bare_pred found ≡ bare_pred p

abbrev pub AllBack : Rule Pred → List ℕ → Pred → Type 0
AllBack f s p = (at : ℕ) (t : List ℕ) → AllPass is_space t → Back f s p at t

-- a word and the spaces behind it
pub word_back : {X : Type 0} (w t : List ℕ) (x : X) (at : ℕ) → AllPass is_space t → (rules.◌>>◌ (word w) (rules.◌>>◌ spaces (rules.pure x))).Spells at (w ++ t) x
word_back w t x at all = both (word w) _ at w t tt x refl (ended spaces (λ _. x) _ t tt all)

pub sign_back : {X : Type 0} (w t : List ℕ) (x : X) (at : ℕ) → AllPass is_space t → (rules.◌>>◌ (sign w) (rules.pure x)).Spells at (w ++ t) x
unfolding ◌>>=◌
sign_back w t x at all = (w ++ t, [], tt, sym (append-nil (w ++ t)), (w, t, tt, refl, refl, all), (refl, refl))

tested_back : (x : Test) (s : Span) → SoundTest x → (d : ℕ) → AllBack tested (test_text x) (Is x s)
tested_back x s h d at t all = record {
  found = Is x (span at (at + 0 + length (test_text x)));
  spells = both place _ at [] (test_text x ++ t) at _ (refl, refl) (both test _ (at + 0) (test_text x) t x _ (test_back x h (at + 0))
      (both place _ _ [] t _ _ (refl, refl) (ended spaces (λ _. Is x (span at (at + 0 + length (test_text x)))) _ t tt all)));
  alike = refl;
}

-- in parentheses
group_back : (d : ℕ) (level : Level) (s : List ℕ) (p : Pred) → AllBack (pred_rule Loose d) s p → AllBack (pred_rule level (suc d)) (codes "(" ++ (s ++ codes ")")) p
group_back d level s p h at t all =
    let inner = h (at + 1) [] tt in
    let sp : (pred_rule Loose d).Spells (at + 1) s inner.found = subst (λ (w : List ℕ). (pred_rule Loose d).Spells (at + 1) w inner.found) (append-nil s) inner.spells in
    let whole : (parens (pred_with (pred_group d))).Spells at (codes "(" ++ (s ++ (codes ")" ++ t))) inner.found =
    signed (codes "(") _ at _ _ (both (pred_with (pred_group d)) _ (at + 1) s (codes ")" ++ t) inner.found inner.found sp (sign_back (codes ")") t inner.found _ all)) in
    record {
      found = inner.found;
      spells = from_prim level (suc d) at _ inner.found (inr (inl (subst (λ (w : List ℕ). (parens (pred_with (pred_group d))).Spells at w inner.found) (ap (λ (w : List ℕ). 40 ∷ w) (sym (append_assoc s (codes ")") t))) whole)));
      alike = inner.alike;
    }

ungrouped_back : (f : Rule Pred) (s : List ℕ) (p : Pred) → AllBack f s p → AllBack f (grouped false s) p
ungrouped_back f s p h = subst (λ (w : List ℕ). AllBack f w p) (sym (append-nil s)) h

-- a rule that says the other's texts
climb : (f g : Rule Pred) (s : List ℕ) (p : Pred) → ((at : ℕ) (w : List ℕ) (q : Pred) → f.Spells at w q → g.Spells at w q) → AllBack f s p → AllBack g s p
climb f g s p up h at t all = let k = h at t all in record { found = k.found; spells = up at (s ++ t) k.found k.spells; alike = k.alike }

not_core : (p : Pred) (d : ℕ) → AllBack (pred_rule Single d) (pred_text Single p) p → AllBack (pred_rule Tight d) (codes "!" ++ pred_text Single p) (Not p)
not_core p d h at t all =
    let k = h (at + 1) t all in
    record { found = Not k.found; spells = inl (signed (codes "!") _ at (pred_text Single p ++ t) (Not k.found) (ended _ Not (at + 1) (pred_text Single p ++ t) k.found k.spells)); alike = ap Not k.alike }

-- two parts with a sign and spaces between them
pub between : (a b t : List ℕ) (c : ℕ) → (a ++ (32 ∷ c ∷ 32 ∷ b)) ++ t ≡ (a ++ (32 ∷ [])) ++ (c ∷ 32 ∷ (b ++ t))
between a b t c = append_assoc a (32 ∷ c ∷ 32 ∷ b) t ∙ sym (append_assoc a (32 ∷ []) (c ∷ 32 ∷ (b ++ t)))

pub one_space : AllPass is_space (32 ∷ [])
one_space = (refl, tt)

and_core : (p q : Pred) (d : ℕ) → AllBack (pred_rule Middle d) (pred_text Middle p) p → AllBack (pred_rule Tight d) (pred_text Tight q) q
    → AllBack (pred_rule Middle d) (pred_text Middle p ++ (codes " & " ++ pred_text Tight q)) (And p q)
unfolding ◌>>=◌
and_core p q d hp hq at t all =
    let k = hp at (32 ∷ []) one_space in
    let m = hq (at + length (pred_text Middle p ++ 32 ∷ []) + length (codes "& ")) t all in
    record {
      found = And k.found m.found;
      spells = subst (λ (w : List ℕ). (conj_with (pred_group d)).Spells at w (And k.found m.found)) (sym (between (pred_text Middle p) (pred_text Tight q) t 38))
          (one_more (lit_with (pred_group d)) And (and_lit (pred_group d)) at (pred_text Middle p ++ 32 ∷ []) (38 ∷ 32 ∷ (pred_text Tight q ++ t)) k.found m.found k.spells
          (codes "& ", pred_text Tight q ++ t, tt, refl, inl (codes "&", 32 ∷ [], tt, refl, refl, one_space), m.spells));
      alike = ap (λ (x : Pred). And x (bare_pred m.found)) k.alike ∙ ap (λ (x : Pred). And (bare_pred p) x) m.alike;
    }

or_core : (p q : Pred) (d : ℕ) → AllBack (pred_rule Loose d) (pred_text Loose p) p → AllBack (pred_rule Middle d) (pred_text Middle q) q
    → AllBack (pred_rule Loose d) (pred_text Loose p ++ (codes " | " ++ pred_text Middle q)) (Or p q)
unfolding ◌>>=◌
or_core p q d hp hq at t all =
    let k = hp at (32 ∷ []) one_space in
    let m = hq (at + length (pred_text Loose p ++ 32 ∷ []) + length (codes "| ")) t all in
    record {
      found = Or k.found m.found;
      spells = subst (λ (w : List ℕ). (pred_with (pred_group d)).Spells at w (Or k.found m.found)) (sym (between (pred_text Loose p) (pred_text Middle q) t 124))
          (one_more (conj_with (pred_group d)) Or (or_conj (pred_group d)) at (pred_text Loose p ++ 32 ∷ []) (124 ∷ 32 ∷ (pred_text Middle q ++ t)) k.found m.found k.spells
          (codes "| ", pred_text Middle q ++ t, tt, refl, (codes "|", 32 ∷ [], tt, refl, refl, one_space), m.spells));
      alike = ap (λ (x : Pred). Or x (bare_pred m.found)) k.alike ∙ ap (λ (x : Pred). Or (bare_pred p) x) m.alike;
    }

-- the text of a predicate spells it, but for its spans, at each level at which it fits
pub pred_back : (p : Pred) (level : Level) (d : ℕ) → FitsPred d level p → AllBack (pred_rule level d) (pred_text level p) p
pred_back Yes level d h = λ at t all. record { found = Yes; spells = from_prim level d at _ Yes (inl (word_back (codes "true") t Yes at all)); alike = refl }
pred_back (Is x s) level d h = λ at t all. let k = tested_back x s h d at t all in record { found = k.found; spells = from_prim level d at _ k.found (inr (inr k.spells)); alike = k.alike }
pred_back (Not p) Loose d h = ungrouped_back _ _ _ (climb _ _ _ (Not p) (λ at w q sp. from_lit Loose d at w q refl sp) (not_core p d (pred_back p Single d h)))
pred_back (Not p) Middle d h = ungrouped_back _ _ _ (climb _ _ _ (Not p) (λ at w q sp. from_lit Middle d at w q refl sp) (not_core p d (pred_back p Single d h)))
pred_back (Not p) Tight d h = ungrouped_back _ _ _ (not_core p d (pred_back p Single d h))
pred_back (Not p) Single zero h = absurd h
pred_back (Not p) Single (suc e) h = group_back e Single _ (Not p) (climb _ _ _ (Not p) (λ at w q sp. from_lit Loose e at w q refl sp) (not_core p e (pred_back p Single e h)))
pred_back (And p q) Loose d h = ungrouped_back _ _ _ (climb _ _ _ (And p q) (λ at w r sp. from_conj d at w r sp) (and_core p q d (pred_back p Middle d h.0) (pred_back q Tight d h.1)))
pred_back (And p q) Middle d h = ungrouped_back _ _ _ (and_core p q d (pred_back p Middle d h.0) (pred_back q Tight d h.1))
pred_back (And p q) Tight zero h = absurd h
pred_back (And p q) Single zero h = absurd h
pred_back (And p q) Tight (suc e) h = group_back e Tight _ (And p q) (climb _ _ _ (And p q) (λ at w r sp. from_conj e at w r sp) (and_core p q e (pred_back p Middle e h.0) (pred_back q Tight e h.1)))
pred_back (And p q) Single (suc e) h = group_back e Single _ (And p q) (climb _ _ _ (And p q) (λ at w r sp. from_conj e at w r sp) (and_core p q e (pred_back p Middle e h.0) (pred_back q Tight e h.1)))
pred_back (Or p q) Loose d h = ungrouped_back _ _ _ (or_core p q d (pred_back p Loose d h.0) (pred_back q Middle d h.1))
pred_back (Or p q) Middle zero h = absurd h
pred_back (Or p q) Tight zero h = absurd h
pred_back (Or p q) Single zero h = absurd h
pred_back (Or p q) Middle (suc e) h = group_back e Middle _ (Or p q) (or_core p q e (pred_back p Loose e h.0) (pred_back q Middle e h.1))
pred_back (Or p q) Tight (suc e) h = group_back e Tight _ (Or p q) (or_core p q e (pred_back p Loose e h.0) (pred_back q Middle e h.1))
pred_back (Or p q) Single (suc e) h = group_back e Single _ (Or p q) (or_core p q e (pred_back p Loose e h.0) (pred_back q Middle e h.1))
