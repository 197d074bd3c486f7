-- What a text with at most d groups spells has a canonical text with at most d groups, and its numbers are in range.
use Rattle.std.proofs.Common.{ℕ, zero, suc, ◌≤◌, ◌<◌, ◌^◌, Bool, true, false, Option, Some, None, List, [], ◌∷◌, ◌++◌, sym, ap, subst, ◌∙◌, arith, inl, inr}
use Rattle.std.specs.Prelude.{codes, IfSome}
use Rattle.grammar.specs.Rules.{Rule, ◌>>=◌, many, SpellsTimes}
use Rattle.grammar.specs.Tokens.{number, address, parens}
use Rattle.net_types.specs.declared.address.Ip.{Ip}
use Rattle.net_types.specs.declared.headers.Assign.{Assign}
use Rattle.net_types.specs.Headers.{no_change}
use Rattle.net_types.specs.Policies.{Target, Name, Test, Src, Dst, Proto, Sport, Dport, Pred, Yes, Is, Not, And, Or, Policy, Drop, Pass, Block, Fwd, Match, Set, Both, Then}
use Rattle.net_types.specs.PolicyGrammar.{Field, SrcIs, DstIs, SportIs, DportIs, with_field, inport_is, target, prefix, field, test, assign, truth, tested, prim_with, negation, lit_with, and_lit, conj_with, or_conj, pred_with, pred_group, fwd, match_with, assigned, more_assigned, modify, keyword, atom_from, atom_with, then_atom, chain_with, plus_chain, policy_with, policy_group, policy}
use Rattle.policy_syntax.specs.Canonical.{Level, Loose, Middle, Tight, Single, group_first, group_second, group_third}
use Rattle.policy_syntax.specs.ReadsBack.{ReadsBack, EachPart}
use Rattle.policy_syntax.proofs.FittingPolicies.{SoundTest, SoundTarget, SoundField, AllSound, some_src, some_dst, some_sport, some_dport, fields_of, IsNonEmpty, SoundAssign, Inside, FitsPred, FitsPolicy}
use Rattle.policy_syntax.proofs.Canonized.{canonical_back}

-- ---- values

number_in : (low high at : ℕ) (s : List ℕ) (n : ℕ) → (number low high).Spells at s n → (low ≤ n) × (n ≤ high)
number_in low high at [] n sp = absurd sp.0
number_in low high at (c ∷ s) n sp = (omega (arith, sp.0.3, sp.1), omega (arith, sp.0.4, sp.1))

address_in : (at : ℕ) (s : List ℕ) (n : ℕ) → address.Spells at s n → n < 2 ^ 32
unfolding ◌>>=◌
address_in at s n sp =
    let a = (number_in 0 255 0 _ _ sp.4).1 in
    let b = (number_in 0 255 0 _ _ sp.5.5.4).1 in
    let c = (number_in 0 255 0 _ _ sp.5.5.5.5.4).1 in
    let d = (number_in 0 255 0 _ _ sp.5.5.5.5.5.5.4).1 in
    omega (arith, a, b, c, d, sp.5.5.5.5.5.5.5.1)

-- what a field's value has, the field has
field_has : {X Y : Type 0} (P : Y → Type 0) (w : List ℕ) (value : Rule X) (make : X → Y) → ((at : ℕ) (s : List ℕ) (x : X) → value.Spells at s x → P (make x))
    → (at : ℕ) (s : List ℕ) (y : Y) → (field w value make).Spells at s y → P y
unfolding ◌>>=◌
field_has P w value make has at s y sp = subst P (sym sp.5.5.5.5.1) (has _ _ sp.5.5.5.2 sp.5.5.5.4)

test_sound : (at : ℕ) (s : List ℕ) (x : Test) → test.Spells at s x → SoundTest x
test_sound at s x (inl sp) = field_has SoundTest (codes "inport") (number 1 65279) inport_is (λ at s n k. number_in 1 65279 at s n k) at s x sp
test_sound at s x (inr (inl sp)) = field_has SoundTest (codes "proto") (number 0 255) Proto (λ at s n k. (number_in 0 255 at s n k).1) at s x sp
test_sound at s x (inr (inr (inl (inl sp)))) = field_has SoundTest (codes "srcip") prefix Src (λ at s p k. tt) at s x sp
test_sound at s x (inr (inr (inl (inr sp)))) = field_has SoundTest (codes "srcport") (number 0 65535) Sport (λ at s n k. (number_in 0 65535 at s n k).1) at s x sp
test_sound at s x (inr (inr (inr (inl sp)))) = field_has SoundTest (codes "dstip") prefix Dst (λ at s p k. tt) at s x sp
test_sound at s x (inr (inr (inr (inr sp)))) = field_has SoundTest (codes "dstport") (number 0 65535) Dport (λ at s n k. (number_in 0 65535 at s n k).1) at s x sp

target_sound : (at : ℕ) (s : List ℕ) (x : Target) → target.Spells at s x → SoundTarget x
unfolding ◌>>=◌
target_sound at s x (inl sp) = subst SoundTarget (sym (sp.5.1 ∙ ap Name sp.4.1)) sp.4.0
target_sound at s x (inr sp) = subst SoundTarget (sym sp.5.1) (number_in 1 65279 0 _ sp.2 sp.4)

assign_sound : (at : ℕ) (s : List ℕ) (f : Field) → assign.Spells at s f → SoundField f
assign_sound at s f (inl (inl sp)) = field_has SoundField (codes "srcip") address SrcIs address_in at s f sp
assign_sound at s f (inl (inr sp)) = field_has SoundField (codes "srcport") (number 0 65535) SportIs (λ at s n k. (number_in 0 65535 at s n k).1) at s f sp
assign_sound at s f (inr (inl sp)) = field_has SoundField (codes "dstip") address DstIs address_in at s f sp
assign_sound at s f (inr (inr sp)) = field_has SoundField (codes "dstport") (number 0 65535) DportIs (λ at s n k. (number_in 0 65535 at s n k).1) at s f sp

assigned_sound : (at : ℕ) (s : List ℕ) (f : Field) → assigned.Spells at s f → SoundField f
unfolding ◌>>=◌
assigned_sound at s f sp = subst SoundField (sym sp.5.5.1) (assign_sound 0 _ sp.2 sp.4)

more_assigned_sound : (at : ℕ) (s : List ℕ) (f : Field) → more_assigned.Spells at s f → SoundField f
unfolding ◌>>=◌
more_assigned_sound at s f sp = assigned_sound 0 _ f sp.5

-- ---- repetitions

times_have : {X Y : Type 0} (P : X → Type 0) (join : X → Y → X) (part : Rule Y) → ((at : ℕ) (s : List ℕ) (x : X) (y : Y) → part.Spells at s y → P x → P (join x y))
    → (n : ℕ) (before : X) (at : ℕ) (s : List ℕ) (x : X) → SpellsTimes join part n before at s x → P before → P x
times_have P join part step zero before at s x sp h = subst P (sym sp.1) h
times_have P join part step (suc n) before at s x sp h = times_have P join part step n (join before sp.2) _ sp.1 x sp.5 (step at sp.0 before sp.2 sp.4 h)

-- a first part and any number of others
chain_has : {X Y : Type 0} (P : X → Type 0) (first : Rule X) (join : X → Y → X) (part : Rule Y) → ((at : ℕ) (s : List ℕ) (x : X) → first.Spells at s x → P x)
    → ((at : ℕ) (s : List ℕ) (x : X) (y : Y) → part.Spells at s y → P x → P (join x y)) → (at : ℕ) (s : List ℕ) (x : X) → (first >>= λ z. many join part z).Spells at s x → P x
unfolding ◌>>=◌
chain_has P first join part start step at s x sp = times_have P join part step sp.5.0 sp.2 _ sp.1 x sp.5.1 (start at sp.0 sp.2 sp.4)

-- ---- assignments

record InRange (a : Assign) : Type 0 where
  src : IfSome a.src (λ ip. ip.0 < 2 ^ 32)
  dst : IfSome a.dst (λ ip. ip.0 < 2 ^ 32)
  sport : IfSome a.sport (λ n. n ≤ 65535)
  dport : IfSome a.dport (λ n. n ≤ 65535)
  some : IsNonEmpty (fields_of a.src a.dst a.sport a.dport)

second_some : (s : Option Ip) (f : Field) (rest : List Field) → IsNonEmpty (some_src s ++ (f ∷ rest))
second_some None f rest = tt
second_some (Some ip) f rest = tt

third_some : (s d : Option Ip) (f : Field) (rest : List Field) → IsNonEmpty (some_src s ++ (some_dst d ++ (f ∷ rest)))
third_some s None f rest = second_some s f rest
third_some s (Some ip) f rest = second_some s (DstIs ip.0) (f ∷ rest)

fourth_some : (s d : Option Ip) (p : Option ℕ) (f : Field) → IsNonEmpty (some_src s ++ (some_dst d ++ (some_sport p ++ (f ∷ []))))
fourth_some s d None f = third_some s d f []
fourth_some s d (Some n) f = third_some s d (SportIs n) (f ∷ [])

field_joined : (a : Assign) (f : Field) → SoundField f → InRange a → InRange (with_field a f)
field_joined a (SrcIs ip) h r = record { src = h; dst = r.dst; sport = r.sport; dport = r.dport; some = tt }
field_joined a (DstIs ip) h r = record { src = r.src; dst = h; sport = r.sport; dport = r.dport; some = second_some a.src (DstIs ip) (some_sport a.sport ++ some_dport a.dport) }
field_joined a (SportIs n) h r = record { src = r.src; dst = r.dst; sport = h; dport = r.dport; some = third_some a.src a.dst (SportIs n) (some_dport a.dport) }
field_joined a (DportIs n) h r = record { src = r.src; dst = r.dst; sport = r.sport; dport = h; some = fourth_some a.src a.dst a.sport (DportIs n) }

first_field : (f : Field) → SoundField f → InRange (with_field no_change f)
first_field (SrcIs ip) h = record { src = h; dst = tt; sport = tt; dport = tt; some = tt }
first_field (DstIs ip) h = record { src = tt; dst = h; sport = tt; dport = tt; some = tt }
first_field (SportIs n) h = record { src = tt; dst = tt; sport = h; dport = tt; some = tt }
first_field (DportIs n) h = record { src = tt; dst = tt; sport = tt; dport = h; some = tt }

with_src : (s : Option Ip) (rest : List Field) → IfSome s (λ ip. ip.0 < 2 ^ 32) → AllSound rest → AllSound (some_src s ++ rest)
with_src None rest h k = k
with_src (Some ip) rest h k = (h, k)

with_dst : (s : Option Ip) (rest : List Field) → IfSome s (λ ip. ip.0 < 2 ^ 32) → AllSound rest → AllSound (some_dst s ++ rest)
with_dst None rest h k = k
with_dst (Some ip) rest h k = (h, k)

with_sport : (p : Option ℕ) (rest : List Field) → IfSome p (λ n. n ≤ 65535) → AllSound rest → AllSound (some_sport p ++ rest)
with_sport None rest h k = k
with_sport (Some n) rest h k = (h, k)

with_dport : (p : Option ℕ) → IfSome p (λ n. n ≤ 65535) → AllSound (some_dport p)
with_dport None h = tt
with_dport (Some n) h = (h, tt)

sound_fields : (a : Assign) → InRange a → SoundAssign a
sound_fields a r = record { each = with_src a.src _ r.src (with_dst a.dst _ r.dst (with_sport a.sport _ r.sport (with_dport a.dport r.dport))); some = r.some }

-- ---- levels

inside_more : (d : ℕ) (is : Bool) (F : ℕ → Type 0) → ((e : ℕ) → F e → F (suc e)) → Inside d is F → Inside (suc d) is F
inside_more d false F up h = up d h
inside_more zero true F up h = absurd h
inside_more (suc e) true F up h = up e h

inside_grouped : (d : ℕ) (is : Bool) (F : ℕ → Type 0) → ((e : ℕ) → F e → F (suc e)) → F d → Inside (suc d) is F
inside_grouped d false F up h = up d h
inside_grouped d true F up h = h

inside_open : (d : ℕ) (is : Bool) (F : ℕ → Type 0) → ((e : ℕ) → F e → F (suc e)) → Inside d is F → F d
inside_open d false F up h = h
inside_open zero true F up h = absurd h
inside_open (suc e) true F up h = up e h

pred_more : (p : Pred) (level : Level) (d : ℕ) → FitsPred d level p → FitsPred (suc d) level p
pred_more Yes level d h = tt
pred_more (Is t s) level d h = h
pred_more (Not p) level d h = inside_more d (group_third level) (λ e. FitsPred e Single p) (λ e k. pred_more p Single e k) h
pred_more (And p q) level d h = inside_more d (group_second level) (λ e. FitsPred e Middle p × FitsPred e Tight q) (λ e k. (pred_more p Middle e k.0, pred_more q Tight e k.1)) h
pred_more (Or p q) level d h = inside_more d (group_first level) (λ e. FitsPred e Loose p × FitsPred e Middle q) (λ e k. (pred_more p Loose e k.0, pred_more q Middle e k.1)) h

pred_grouped : (p : Pred) (level : Level) (d : ℕ) → FitsPred d Loose p → FitsPred (suc d) level p
pred_grouped Yes level d h = tt
pred_grouped (Is t s) level d h = h
pred_grouped (Not p) level d h = inside_grouped d (group_third level) (λ e. FitsPred e Single p) (λ e k. pred_more p Single e k) h
pred_grouped (And p q) level d h = inside_grouped d (group_second level) (λ e. FitsPred e Middle p × FitsPred e Tight q) (λ e k. (pred_more p Middle e k.0, pred_more q Tight e k.1)) h
pred_grouped (Or p q) level d h = inside_grouped d (group_first level) (λ e. FitsPred e Loose p × FitsPred e Middle q) (λ e k. (pred_more p Loose e k.0, pred_more q Middle e k.1)) h

-- from where more is a group
pred_loose : (p : Pred) (d : ℕ) → FitsPred d Middle p → FitsPred d Loose p
pred_loose Yes d h = tt
pred_loose (Is t s) d h = h
pred_loose (Not p) d h = h
pred_loose (And p q) d h = h
pred_loose (Or p q) d h = inside_open d true (λ e. FitsPred e Loose p × FitsPred e Middle q) (λ e k. (pred_more p Loose e k.0, pred_more q Middle e k.1)) h

pred_middle : (p : Pred) (d : ℕ) → FitsPred d Tight p → FitsPred d Middle p
pred_middle Yes d h = tt
pred_middle (Is t s) d h = h
pred_middle (Not p) d h = h
pred_middle (And p q) d h = inside_open d true (λ e. FitsPred e Middle p × FitsPred e Tight q) (λ e k. (pred_more p Middle e k.0, pred_more q Tight e k.1)) h
pred_middle (Or p q) d h = h

pred_tight : (p : Pred) (d : ℕ) → FitsPred d Single p → FitsPred d Tight p
pred_tight Yes d h = tt
pred_tight (Is t s) d h = h
pred_tight (Not p) d h = inside_open d true (λ e. FitsPred e Single p) (λ e k. pred_more p Single e k) h
pred_tight (And p q) d h = h
pred_tight (Or p q) d h = h

abbrev Fits : ℕ → Level → Policy → Type 0
Fits d level p = FitsPolicy SoundAssign d level p

policy_more : (p : Policy) (level : Level) (d : ℕ) → Fits d level p → Fits (suc d) level p
policy_more Drop level d h = tt
policy_more Pass level d h = tt
policy_more Block level d h = tt
policy_more (Fwd t s) level d h = h
policy_more (Match p) level d h = pred_more p Loose d h
policy_more (Set a s) level d h = h
policy_more (Then p q) level d h = inside_more d (group_second level) (λ e. Fits e Middle p × Fits e Tight q) (λ e k. (policy_more p Middle e k.0, policy_more q Tight e k.1)) h
policy_more (Both p q) level d h = inside_more d (group_first level) (λ e. Fits e Loose p × Fits e Middle q) (λ e k. (policy_more p Loose e k.0, policy_more q Middle e k.1)) h

policy_grouped : (p : Policy) (level : Level) (d : ℕ) → Fits d Loose p → Fits (suc d) level p
policy_grouped Drop level d h = tt
policy_grouped Pass level d h = tt
policy_grouped Block level d h = tt
policy_grouped (Fwd t s) level d h = h
policy_grouped (Match p) level d h = pred_more p Loose d h
policy_grouped (Set a s) level d h = h
policy_grouped (Then p q) level d h = inside_grouped d (group_second level) (λ e. Fits e Middle p × Fits e Tight q) (λ e k. (policy_more p Middle e k.0, policy_more q Tight e k.1)) h
policy_grouped (Both p q) level d h = inside_grouped d (group_first level) (λ e. Fits e Loose p × Fits e Middle q) (λ e k. (policy_more p Loose e k.0, policy_more q Middle e k.1)) h

policy_loose : (p : Policy) (d : ℕ) → Fits d Middle p → Fits d Loose p
policy_loose Drop d h = tt
policy_loose Pass d h = tt
policy_loose Block d h = tt
policy_loose (Fwd t s) d h = h
policy_loose (Match p) d h = h
policy_loose (Set a s) d h = h
policy_loose (Then p q) d h = h
policy_loose (Both p q) d h = inside_open d true (λ e. Fits e Loose p × Fits e Middle q) (λ e k. (policy_more p Loose e k.0, policy_more q Middle e k.1)) h

policy_middle : (p : Policy) (d : ℕ) → Fits d Tight p → Fits d Middle p
policy_middle Drop d h = tt
policy_middle Pass d h = tt
policy_middle Block d h = tt
policy_middle (Fwd t s) d h = h
policy_middle (Match p) d h = h
policy_middle (Set a s) d h = h
policy_middle (Then p q) d h = inside_open d true (λ e. Fits e Middle p × Fits e Tight q) (λ e k. (policy_more p Middle e k.0, policy_more q Tight e k.1)) h
policy_middle (Both p q) d h = h

-- ---- predicates

-- what stands in parentheses
parens_have : {X : Type 0} (P : X → Type 0) (inner : Rule X) → ((at : ℕ) (s : List ℕ) (x : X) → inner.Spells at s x → P x) → (at : ℕ) (s : List ℕ) (x : X) → (parens inner).Spells at s x → P x
unfolding ◌>>=◌
parens_have P inner has at s x sp = subst P (sym sp.5.5.5.1) (has _ _ sp.5.2 sp.5.4)

truth_fits : (d at : ℕ) (s : List ℕ) (p : Pred) → truth.Spells at s p → FitsPred d Single p
unfolding ◌>>=◌
truth_fits d at s p sp = subst (λ (q : Pred). FitsPred d Single q) (sym sp.5.5.1) tt

tested_fits : (d at : ℕ) (s : List ℕ) (p : Pred) → tested.Spells at s p → FitsPred d Single p
unfolding ◌>>=◌
tested_fits d at s p sp = subst (λ (q : Pred). FitsPred d Single q) (sym sp.5.5.5.5.1) (test_sound 0 _ sp.5.2 sp.5.4)

module _ (d : ℕ) (group : Rule Pred) (inner : (at : ℕ) (s : List ℕ) (p : Pred) → group.Spells at s p → FitsPred d Single p) where
  prim_fits : (at : ℕ) (s : List ℕ) (p : Pred) → (prim_with group).Spells at s p → FitsPred d Single p
  prim_fits at s p (inl sp) = truth_fits d at s p sp
  prim_fits at s p (inr (inl sp)) = inner at s p sp
  prim_fits at s p (inr (inr sp)) = tested_fits d at s p sp

  negation_fits : (at : ℕ) (s : List ℕ) (p : Pred) → (negation group).Spells at s p → FitsPred d Tight p
  unfolding ◌>>=◌
  negation_fits at s p sp = subst (λ (q : Pred). FitsPred d Tight q) (sym sp.5.5.1) (prim_fits _ _ sp.5.2 sp.5.4)

  lit_fits : (at : ℕ) (s : List ℕ) (p : Pred) → (lit_with group).Spells at s p → FitsPred d Tight p
  lit_fits at s p (inl sp) = negation_fits at s p sp
  lit_fits at s p (inr sp) = pred_tight p d (prim_fits at s p sp)

  and_fits : (at : ℕ) (s : List ℕ) (x y : Pred) → (and_lit group).Spells at s y → FitsPred d Middle x → FitsPred d Middle (And x y)
  unfolding ◌>>=◌
  and_fits at s x y sp h = (h, lit_fits _ _ y sp.5)

  conj_fits : (at : ℕ) (s : List ℕ) (p : Pred) → (conj_with group).Spells at s p → FitsPred d Middle p
  conj_fits = chain_has (λ (p : Pred). FitsPred d Middle p) (lit_with group) And (and_lit group) (λ at s p sp. pred_middle p d (lit_fits at s p sp)) and_fits

  or_fits : (at : ℕ) (s : List ℕ) (x y : Pred) → (or_conj group).Spells at s y → FitsPred d Loose x → FitsPred d Loose (Or x y)
  unfolding ◌>>=◌
  or_fits at s x y sp h = (h, conj_fits _ _ y sp.5)

  pred_fits : (at : ℕ) (s : List ℕ) (p : Pred) → (pred_with group).Spells at s p → FitsPred d Loose p
  pred_fits = chain_has (λ (p : Pred). FitsPred d Loose p) (conj_with group) Or (or_conj group) (λ at s p sp. pred_loose p d (conj_fits at s p sp)) or_fits

pred_group_fits : (d at : ℕ) (s : List ℕ) (p : Pred) → (pred_group d).Spells at s p → FitsPred d Single p
pred_group_fits zero at s p sp = absurd sp
pred_group_fits (suc d) at s p sp =
    pred_grouped p Single d (parens_have (λ (q : Pred). FitsPred d Loose q) (pred_with (pred_group d)) (pred_fits d (pred_group d) (pred_group_fits d)) at s p sp)

-- ---- policies

keyword_fits : (w : List ℕ) (x : Policy) (d at : ℕ) (s : List ℕ) (p : Policy) → Fits d Tight x → (keyword w x).Spells at s p → Fits d Tight p
unfolding ◌>>=◌
keyword_fits w x d at s p h sp = subst (λ (q : Policy). Fits d Tight q) (sym sp.5.5.1) h

fwd_fits : (d start at : ℕ) (s : List ℕ) (p : Policy) → (fwd start).Spells at s p → Fits d Tight p
unfolding ◌>>=◌
fwd_fits d start at s p sp = subst (λ (q : Policy). Fits d Tight q) (sym sp.5.5.5.5.5.5.5.5.1) (target_sound 0 _ sp.5.5.5.2 sp.5.5.5.4)

match_fits : (d at : ℕ) (s : List ℕ) (p : Policy) → (match_with (pred_group d)).Spells at s p → Fits d Tight p
unfolding ◌>>=◌
match_fits d at s p sp = subst (λ (q : Policy). Fits d Tight q) (sym sp.5.5.5.5.5.1) (pred_fits d (pred_group d) (pred_group_fits d) _ _ sp.5.5.5.2 sp.5.5.5.4)

modify_fits : (d start at : ℕ) (s : List ℕ) (p : Policy) → (modify start).Spells at s p → Fits d Tight p
unfolding ◌>>=◌
modify_fits d start at s p sp =
    let first = first_field sp.5.5.5.2 (assigned_sound 0 _ sp.5.5.5.2 sp.5.5.5.4) in
    let all = times_have InRange with_field more_assigned (λ at s x y k h. field_joined x y (more_assigned_sound at s y k) h) sp.5.5.5.5.4.0 _ _ _ sp.5.5.5.5.2 sp.5.5.5.5.4.1 first in
    subst (λ (q : Policy). Fits d Tight q) (sym sp.5.5.5.5.5.5.5.5.1) (sound_fields sp.5.5.5.5.2 all)

module _ (d : ℕ) (group : Rule Policy) (inner : (at : ℕ) (s : List ℕ) (p : Policy) → group.Spells at s p → Fits d Tight p) where
  atom_from_fits : (start at : ℕ) (s : List ℕ) (p : Policy) → (atom_from (pred_group d) group start).Spells at s p → Fits d Tight p
  atom_from_fits start at s p (inl sp) = keyword_fits (codes "drop") Drop d at s p tt sp
  atom_from_fits start at s p (inr (inl sp)) = keyword_fits (codes "pass") Pass d at s p tt sp
  atom_from_fits start at s p (inr (inr (inl sp))) = keyword_fits (codes "block") Block d at s p tt sp
  atom_from_fits start at s p (inr (inr (inr (inl sp)))) = fwd_fits d start at s p sp
  atom_from_fits start at s p (inr (inr (inr (inr (inl (inl sp)))))) = match_fits d at s p sp
  atom_from_fits start at s p (inr (inr (inr (inr (inl (inr sp)))))) = modify_fits d start at s p sp
  atom_from_fits start at s p (inr (inr (inr (inr (inr sp))))) = inner at s p sp

  atom_fits : (at : ℕ) (s : List ℕ) (p : Policy) → (atom_with (pred_group d) group).Spells at s p → Fits d Tight p
  unfolding ◌>>=◌
  atom_fits at s p sp = atom_from_fits sp.2 _ _ p sp.5

  then_fits : (at : ℕ) (s : List ℕ) (x y : Policy) → (then_atom (pred_group d) group).Spells at s y → Fits d Middle x → Fits d Middle (Then x y)
  unfolding ◌>>=◌
  then_fits at s x y sp h = (h, atom_fits _ _ y sp.5)

  chain_fits : (at : ℕ) (s : List ℕ) (p : Policy) → (chain_with (pred_group d) group).Spells at s p → Fits d Middle p
  chain_fits = chain_has (λ (p : Policy). Fits d Middle p) (atom_with (pred_group d) group) Then (then_atom (pred_group d) group) (λ at s p sp. policy_middle p d (atom_fits at s p sp)) then_fits

  plus_fits : (at : ℕ) (s : List ℕ) (x y : Policy) → (plus_chain (pred_group d) group).Spells at s y → Fits d Loose x → Fits d Loose (Both x y)
  unfolding ◌>>=◌
  plus_fits at s x y sp h = (h, chain_fits _ _ y sp.5)

  sum_fits : (at : ℕ) (s : List ℕ) (p : Policy) → (policy_with (pred_group d) group).Spells at s p → Fits d Loose p
  sum_fits = chain_has (λ (p : Policy). Fits d Loose p) (chain_with (pred_group d) group) Both (plus_chain (pred_group d) group) (λ at s p sp. policy_loose p d (chain_fits at s p sp)) plus_fits

policy_group_fits : (d at : ℕ) (s : List ℕ) (p : Policy) → (policy_group d).Spells at s p → Fits d Tight p
policy_group_fits zero at s p sp = absurd sp
policy_group_fits (suc d) at s p sp =
    policy_grouped p Tight d (parens_have (λ (q : Policy). Fits d Loose q) (policy_with (pred_group d) (policy_group d)) (sum_fits d (policy_group d) (policy_group_fits d)) at s p sp)

-- what a text spells fits
pub text_fits : (d : ℕ) (s : List ℕ) (p : Policy) → (policy d).Spells 0 s p → FitsPolicy SoundAssign d Loose p
unfolding ◌>>=◌
text_fits d s p sp = sum_fits d (policy_group d) (policy_group_fits d) _ _ p sp.5

-- what fits has parts that fit, so that each of them reads back
parts_back : (p : Policy) (d : ℕ) → Fits d Loose p → EachPart (λ q. ReadsBack d q) p
parts_back Drop d h = canonical_back d Drop h
parts_back Pass d h = canonical_back d Pass h
parts_back Block d h = canonical_back d Block h
parts_back (Fwd t s) d h = canonical_back d (Fwd t s) h
parts_back (Match p) d h = canonical_back d (Match p) h
parts_back (Set a s) d h = canonical_back d (Set a s) h
parts_back (Then p q) d h = (canonical_back d (Then p q) h, parts_back p d (policy_loose p d h.0), parts_back q d (policy_loose q d (policy_middle q d h.1)))
parts_back (Both p q) d h = (canonical_back d (Both p q) h, parts_back p d h.0, parts_back q d (policy_loose q d h.1))

-- each part of what a text spells reads back
pub text_back : (d : ℕ) (s : List ℕ) (p : Policy) → (policy d).Spells 0 s p → EachPart (λ q. ReadsBack d q) p
text_back d s p sp = parts_back p d (text_fits d s p sp)
