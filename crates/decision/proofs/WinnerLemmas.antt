-- The passes find what the five filters leave.
use Rattle.std.proofs.Common.{◌≡◌, ℕ, ◌<◌, ◌≤◌, Bool, true, false, cond, ◌&&◌, ◌||◌, not, eqb, ltb, leb, List, [], ◌∷◌, ◌++◌, Option, Some, None, sym, ap, subst, ◌∙◌, refl, arith, append_assoc, append-nil, inl, inr, map, length, get_or, drop, ◌+◌, drop-cons, suc}
use Rattle.std.specs.Prelude.{slice_get, is_some, IfSome}
use Rattle.std.specs.Option.{option_and_then, option_map}
use Rattle.std.proofs.lemmas.Option.{slice_get-get_or}
use Rattle.std.proofs.Math.ListN.{drop_of_length-le}
use Rattle.std.specs.List.{filter, list_any, list_all}
use Rattle.std.proofs.lemmas.Bool.{and_parts, and_from, and_right, eqb-true, leb-true, le-leb, le-ltb, or_cases, or_from, false≢true, not-true, not_from_false, or_left, or_right}
use Rattle.std.proofs.lemmas.Bool.Decides.{nat_tests}
use Rattle.std.proofs.lemmas.List.Elements.{filter-append, filter_agree}
use Rattle.std.proofs.lemmas.List.Folds.{list_all-append}
use Rattle.decision.specs.Passes.{least_by, unbeaten, best_by, best_place, numbered, beats, med_of}
use Rattle.net_types.specs.Routes.{first_of_list}
use Rattle.decision.specs.declared.candidate.Candidate.{Candidate}
use Rattle.decision.specs.Passes.{is_ahead, is_even, precedes, lead_of, would_lead, is_kept}
use Rattle.decision.proofs.FilterLemmas.{all_weaker, any-filter, all-filter, any_weaker, least_by_is, filter_none}
use Rattle.net_types.proofs.PassLemmas.{filter_twice}
use Rattle.net_types.proofs.FindLemmas.{is_some-map}
use Rattle.net_types.proofs.SameLemmas.{nat_itself}

-- the first pair is before the second
abbrev lex : ℕ → ℕ → ℕ → ℕ → Bool
lex a b c d = ltb a c || (eqb a c && ltb b d)

lex_trans : (a b c d e f : ℕ) → lex a b c d ≡ true → lex c d e f ≡ true → lex a b e f ≡ true
lex_trans a b c d e f g h = grind (arith, nat_tests)

lex_trans_not : (a b c d e f : ℕ) → lex a b c d ≡ true → lex e f c d ≡ false → lex a b e f ≡ true
lex_trans_not a b c d e f g h = grind (arith, nat_tests)

lex_not_back : (a b c d : ℕ) → lex a b c d ≡ true → lex c d a b ≡ false
lex_not_back a b c d g = grind (arith, nat_tests)

lex_self : (a b : ℕ) → lex a b a b ≡ false
lex_self a b = grind (arith, nat_tests)

lex_low : (a b c d : ℕ) → lex a b c d ≡ false → leb c a ≡ true
lex_low a b c d g = grind (arith, nat_tests)

lex_low_second : (a b c d : ℕ) → lex a b c d ≡ false → (not (eqb a c) || leb d b) ≡ true
lex_low_second a b c d g = grind (arith, nat_tests)

lex_apart : (a b c d : ℕ) → lex a b c d ≡ true → not (eqb c a && eqb d b) ≡ true
lex_apart a b c d g = grind (arith, nat_tests)

lex_behind : (a b c d e f : ℕ) → lex a b c d ≡ true → lex a b e f ≡ false → lex c d e f ≡ false
lex_behind a b c d e f g h = grind (arith, nat_tests)

lex_behind_both : (a b c d e f : ℕ) → lex a b c d ≡ false → lex c d e f ≡ false → lex a b e f ≡ false
lex_behind_both a b c d e f g h = grind (arith, nat_tests)

-- nothing is ahead of the lead
lead_all : (xs : List Candidate) (w : Candidate) → list_all (λ d. not (is_ahead d (lead_of w xs))) (w ∷ xs) ≡ true
lead_all [] w = and_from (not (is_ahead w w)) true (not_from_false (is_ahead w w) (lex_self w.hops w.origin)) refl
lead_all (d ∷ xs) w = lead_step xs w d (is_ahead d w) refl (lead_all xs d) (lead_all xs w)
  where
    lead_step : (xs : List Candidate) (w d : Candidate) (b : Bool) → is_ahead d w ≡ b
        → list_all (λ x. not (is_ahead x (lead_of d xs))) (d ∷ xs) ≡ true → list_all (λ x. not (is_ahead x (lead_of w xs))) (w ∷ xs) ≡ true
        → list_all (λ x. not (is_ahead x (lead_of (cond b d w) xs))) (w ∷ d ∷ xs) ≡ true
    lead_step xs w d true e at_d at_w =
        let l : Candidate = lead_of d xs in
        let parts = and_parts (not (is_ahead d l)) _ at_d in
        and_from (not (is_ahead w l)) _ (not_from_false (is_ahead w l) (lex_behind d.hops d.origin w.hops w.origin l.hops l.origin e (not-true (is_ahead d l) parts.0))) at_d
    lead_step xs w d false e at_d at_w =
        let l : Candidate = lead_of w xs in
        let parts = and_parts (not (is_ahead w l)) _ at_w in
        and_from (not (is_ahead w l)) _ parts.0 (and_from (not (is_ahead d l)) _
        (not_from_false (is_ahead d l) (lex_behind_both d.hops d.origin w.hops w.origin l.hops l.origin e (not-true (is_ahead w l) parts.0))) parts.1)

-- the lead is one of the routes
lead_any : (xs : List Candidate) (w : Candidate) → list_any (λ d. is_even d (lead_of w xs)) (w ∷ xs) ≡ true
lead_any [] w = or_left (is_even w w) false (and_from _ _ (nat_itself w.hops) (nat_itself w.origin))
lead_any (d ∷ xs) w = any_step xs w d (is_ahead d w) (lead_any xs d) (lead_any xs w)
  where
    any_step : (xs : List Candidate) (w d : Candidate) (b : Bool)
        → list_any (λ x. is_even x (lead_of d xs)) (d ∷ xs) ≡ true → list_any (λ x. is_even x (lead_of w xs)) (w ∷ xs) ≡ true
        → list_any (λ x. is_even x (lead_of (cond b d w) xs)) (w ∷ d ∷ xs) ≡ true
    any_step xs w d true at_d at_w = or_right (is_even w (lead_of d xs)) _ at_d
    any_step xs w d false at_d at_w = elim (or_cases (is_even w (lead_of w xs)) (list_any (λ x. is_even x (lead_of w xs)) xs) at_w) [
      | inl e ↦ or_left (is_even w (lead_of w xs)) _ e
      | inr e ↦ or_right (is_even w (lead_of w xs)) _ (or_right (is_even d (lead_of w xs)) _ e)
    ]

at_least : (a b c : ℕ) → leb a b ≡ true → leb b c ≡ true → leb a c ≡ true
at_least a b c g h = grind (arith, nat_tests)

more : (a b : ℕ) → leb a b ≡ false → leb b a ≡ true
more a b g = grind (arith, nat_tests)

-- w is the first of those that nothing in the list precedes
pub record Leads {X : Type 0} (seen : X → Candidate) (w : X) (xs : List X) : Type 0 where
  before : List X
  after : List X
  split : xs ≡ before ++ w ∷ after
  front : list_all (λ d. precedes (seen w) (seen d)) before ≡ true
  back : list_all (λ d. not (precedes (seen d) (seen w))) after ≡ true

leads_all : {X : Type 0} (seen : X → Candidate) → (w : X) (xs : List X) (t : X → Bool) → ((d : X) → precedes (seen d) (seen w) ≡ false → t d ≡ true) → Leads seen w xs → list_all t xs ≡ true
leads_all seen w xs t h l =
    subst (λ ys. list_all t ys ≡ true) (sym l.split)
    (list_all-append t l.before (w ∷ l.after)
    ∙ and_from _ _ (all_weaker (λ d. precedes (seen w) (seen d)) t (λ d g. h d (lex_not_back (seen w).id.0 (seen w).peer.0 (seen d).id.0 (seen d).peer.0 g)) l.before l.front)
    (and_from (t w) _ (h w (lex_self (seen w).id.0 (seen w).peer.0)) (all_weaker (λ d. not (precedes (seen d) (seen w))) t (λ d g. h d (not-true (precedes (seen d) (seen w)) g)) l.after l.back)))

leads_more : {X : Type 0} (seen : X → Candidate) → (w d : X) (xs : List X) → Leads seen w xs → (b : Bool) → precedes (seen d) (seen w) ≡ b → Leads seen (cond b d w) (xs ++ d ∷ [])
leads_more seen w d xs l true e = record {
  before = xs;
  after = [];
  split = refl;
  front = subst (λ ys. list_all (λ x. precedes (seen d) (seen x)) ys ≡ true) (sym l.split)
      (list_all-append (λ x. precedes (seen d) (seen x)) l.before (w ∷ l.after)
      ∙ and_from _ _ (all_weaker (λ x. precedes (seen w) (seen x)) (λ x. precedes (seen d) (seen x)) (λ x g. lex_trans (seen d).id.0 (seen d).peer.0 (seen w).id.0 (seen w).peer.0 (seen x).id.0 (seen x).peer.0 e g) l.before l.front)
      (and_from (precedes (seen d) (seen w)) _ e (all_weaker (λ x. not (precedes (seen x) (seen w))) (λ x. precedes (seen d) (seen x)) (λ x g. lex_trans_not (seen d).id.0 (seen d).peer.0 (seen w).id.0 (seen w).peer.0 (seen x).id.0 (seen x).peer.0 e (not-true (precedes (seen x) (seen w)) g)) l.after l.back)));
  back = refl;
}
leads_more seen w d xs l false e = record {
  before = l.before;
  after = l.after ++ d ∷ [];
  split = ap (λ ys. ys ++ d ∷ []) l.split ∙ append_assoc l.before (w ∷ l.after) (d ∷ []);
  front = l.front;
  back = list_all-append (λ x. not (precedes (seen x) (seen w))) l.after (d ∷ []) ∙ and_from _ _ l.back (and_from (not (precedes (seen d) (seen w))) true (not_from_false (precedes (seen d) (seen w)) e) refl);
}

any_at : {X : Type 0} (w : X) (t : X → Bool) → t w ≡ true → (before after : List X) → list_any t (before ++ w ∷ after) ≡ true
any_at w t e [] after = or_left (t w) _ e
any_at w t e (x ∷ before) after = or_right (t x) _ (any_at w t e before after)

first_kept : {X : Type 0} (w : X) (after : List X) (t : X → Bool) → t w ≡ true → first_of_list (filter t (w ∷ after)) ≡ Some w
first_kept w after t e = ap (λ b. first_of_list (cond b (w ∷ filter t after) (filter t after))) e

leads_any : {X : Type 0} (seen : X → Candidate) → (w : X) (xs : List X) (t : X → Bool) → t w ≡ true → Leads seen w xs → list_any t xs ≡ true
leads_any seen w xs t e l = subst (λ ys. list_any t ys ≡ true) (sym l.split) (any_at w t e l.before l.after)

-- what the last two filters leave
leads_first : {X : Type 0} (seen : X → Candidate) → (w : X) (xs : List X) → Leads seen w xs → first_of_list (least_by (λ c. (seen c).peer.0) (least_by (λ c. (seen c).id.0) xs)) ≡ Some w
leads_first {X} seen w xs l =
    let A : X → Bool = λ d. eqb (seen d).id.0 (seen w).id.0 in
    let B : X → Bool = λ d. eqb (seen d).peer.0 (seen w).peer.0 in
    let one : least_by (λ c. (seen c).id.0) xs ≡ filter A xs = least_by_is (λ c. (seen c).id.0) (seen w).id.0 xs
    (leads_all seen w xs (λ d. leb (seen w).id.0 (seen d).id.0) (λ d g. lex_low (seen d).id.0 (seen d).peer.0 (seen w).id.0 (seen w).peer.0 g) l)
    (leads_any seen w xs A (nat_itself (seen w).id.0) l) in
    let two : least_by (λ c. (seen c).peer.0) (filter A xs) ≡ filter B (filter A xs) = least_by_is (λ c. (seen c).peer.0) (seen w).peer.0 (filter A xs)
    (all-filter (λ d. leb (seen w).peer.0 (seen d).peer.0) A xs ∙ leads_all seen w xs (λ d. not (A d) || leb (seen w).peer.0 (seen d).peer.0) (λ d g. lex_low_second (seen d).id.0 (seen d).peer.0 (seen w).id.0 (seen w).peer.0 g) l)
    (any-filter B A xs ∙ leads_any seen w xs (λ d. A d && B d) (and_from (A w) (B w) (nat_itself (seen w).id.0) (nat_itself (seen w).peer.0)) l) in
    ap (λ ys. first_of_list (least_by (λ c. (seen c).peer.0) ys)) one
    ∙ ap first_of_list (two ∙ filter_twice B A xs ∙ ap (filter (λ d. A d && B d)) l.split ∙ filter-append (λ d. A d && B d) l.before (w ∷ l.after)
    ∙ ap (λ ys. ys ++ filter (λ d. A d && B d) (w ∷ l.after)) (filter_none (λ d. A d && B d) l.before (all_weaker (λ d. precedes (seen w) (seen d)) (λ d. not (A d && B d)) (λ d g. lex_apart (seen w).id.0 (seen w).peer.0 (seen d).id.0 (seen d).peer.0 g) l.before l.front)))
    ∙ first_kept w l.after (λ d. A d && B d) (and_from (A w) (B w) (nat_itself (seen w).id.0) (nat_itself (seen w).peer.0))

any-map : {X : Type 0} (seen : X → Candidate) (t : Candidate → Bool) (xs : List X) → list_any t (map seen xs) ≡ list_any (λ x. t (seen x)) xs
any-map seen t [] = refl
any-map seen t (x ∷ xs) = ap (λ b. t (seen x) || b) (any-map seen t xs)

all-map : {X : Type 0} (seen : X → Candidate) (t : Candidate → Bool) (xs : List X) → list_all t (map seen xs) ≡ list_all (λ x. t (seen x)) xs
all-map seen t [] = refl
all-map seen t (x ∷ xs) = ap (λ b. t (seen x) && b) (all-map seen t xs)

-- What the first three filters leave is what is kept, for a lead l of the list.
kept_is : {X : Type 0} (seen : X → Candidate) (l : Candidate) (xs : List X) → list_all (λ d. not (is_ahead d l)) (map seen xs) ≡ true → list_any (λ d. is_even d l) (map seen xs) ≡ true
    → unbeaten seen (least_by (λ c. (seen c).origin) (least_by (λ c. (seen c).hops) xs)) ≡ filter (λ x. is_kept l (map seen xs) (seen x)) xs
kept_is {X} seen l xs every some =
    let all = sym (all-map seen (λ d. not (is_ahead d l)) xs) ∙ every in
    let any = sym (any-map seen (λ d. is_even d l) xs) ∙ some in
    let A : X → Bool = λ d. eqb (seen d).hops l.hops in
    let B : X → Bool = λ d. eqb (seen d).origin l.origin in
    let E : X → Bool = λ d. is_even (seen d) l in
    let one : least_by (λ c. (seen c).hops) xs ≡ filter A xs = least_by_is (λ c. (seen c).hops) l.hops xs
    (all_weaker (λ d. not (is_ahead (seen d) l)) (λ d. leb l.hops (seen d).hops) (λ d g. lex_low (seen d).hops (seen d).origin l.hops l.origin (not-true (is_ahead (seen d) l) g)) xs all)
    (any_weaker E A (λ d g. (and_parts (A d) (B d) g).0) xs any) in
    let two : least_by (λ c. (seen c).origin) (filter A xs) ≡ filter B (filter A xs) = least_by_is (λ c. (seen c).origin) l.origin (filter A xs)
    (all-filter (λ d. leb l.origin (seen d).origin) A xs ∙ all_weaker (λ d. not (is_ahead (seen d) l)) (λ d. not (A d) || leb l.origin (seen d).origin) (λ d g. lex_low_second (seen d).hops (seen d).origin l.hops l.origin (not-true (is_ahead (seen d) l) g)) xs all)
    (any-filter B A xs ∙ any) in
    ap (λ ys. unbeaten seen (least_by (λ c. (seen c).origin) ys)) one
    ∙ ap (unbeaten seen) (two ∙ filter_twice B A xs)
    ∙ filter_twice (λ x. not (list_any (λ y. beats (seen y) (seen x)) (filter E xs))) E xs
    ∙ filter_agree (λ x. E x && not (list_any (λ y. beats (seen y) (seen x)) (filter E xs))) (λ x. is_kept l (map seen xs) (seen x))
    (λ x. ap (λ b. E x && not b) (any-filter (λ y. beats (seen y) (seen x)) E xs ∙ sym (any-map seen (λ d. is_even d l && beats d (seen x)) xs))) xs

-- the first of those that precede all others
abbrev chosen : {X : Type 0} (seen : X → Candidate) → Option X → List X → Option X
chosen seen w [] = w
chosen seen w (d ∷ ds) = chosen seen (cond (would_lead (seen d) (option_map seen w)) (Some d) w) ds

-- the first of those kept that precede all others kept
abbrev pub pick : {X : Type 0} → (X → Candidate) → (X → Bool) → Option X → List X → Option X
pick seen keep w [] = w
pick seen keep w (x ∷ xs) = pick seen keep (cond (keep x && would_lead (seen x) (option_map seen w)) (Some x) w) xs

pick_step : {X : Type 0} (seen : X → Candidate) (keep : X → Bool) (w : Option X) (c : X) (cs : List X) → ((v : Option X) → pick seen keep v cs ≡ chosen seen v (filter keep cs)) → (b : Bool) → pick seen keep (cond (b && would_lead (seen c) (option_map seen w)) (Some c) w) cs ≡ chosen seen w (cond b (c ∷ filter keep cs) (filter keep cs))
pick_step seen keep w c cs h true = h (cond (would_lead (seen c) (option_map seen w)) (Some c) w)
pick_step seen keep w c cs h false = h w

pick_is : {X : Type 0} (seen : X → Candidate) (keep : X → Bool) (cs : List X) (w : Option X) → pick seen keep w cs ≡ chosen seen w (filter keep cs)
pick_is seen keep [] w = refl
pick_is seen keep (c ∷ cs) w = pick_step seen keep w c cs (λ v. pick_is seen keep cs v) (keep c)

chosen_leads : {X : Type 0} (seen : X → Candidate) → (ys : List X) (w : X) (xs : List X) → Leads seen w xs → (v : X) × (chosen seen (Some w) ys ≡ Some v) × Leads seen v (xs ++ ys)
chosen_leads {X} seen [] w xs l = (w, refl, subst (Leads seen w) (sym (append-nil xs)) l)
chosen_leads {X} seen (d ∷ ys) w xs l = chosen_step (precedes (seen d) (seen w)) refl (λ u k. chosen_leads seen ys u (xs ++ d ∷ []) k)
  where
    chosen_step : (b : Bool) → precedes (seen d) (seen w) ≡ b → ((u : X) → Leads seen u (xs ++ d ∷ []) → (v : X) × (chosen seen (Some u) ys ≡ Some v) × Leads seen v ((xs ++ d ∷ []) ++ ys))
        → (v : X) × (chosen seen (cond b (Some d) (Some w)) ys ≡ Some v) × Leads seen v (xs ++ d ∷ ys)
    chosen_step true e h = let k = h d (leads_more seen w d xs l true e) in (k.0, k.1, subst (Leads seen k.0) (append_assoc xs (d ∷ []) ys) k.2)
    chosen_step false e h = let k = h w (leads_more seen w d xs l false e) in (k.0, k.1, subst (Leads seen k.0) (append_assoc xs (d ∷ []) ys) k.2)

leads_one : {X : Type 0} (seen : X → Candidate) → (d : X) → Leads seen d (d ∷ [])
leads_one seen d = record { before = []; after = []; split = refl; front = refl; back = refl }

chosen_first : {X : Type 0} (seen : X → Candidate) → (ys : List X) → chosen seen None ys ≡ first_of_list (least_by (λ c. (seen c).peer.0) (least_by (λ c. (seen c).id.0) ys))
chosen_first seen [] = refl
chosen_first seen (d ∷ ys) = let k = chosen_leads seen ys d (d ∷ []) (leads_one seen d) in k.1 ∙ sym (leads_first seen k.0 (d ∷ ys) k.2)

any_again : (t : Candidate → Bool) (c : Candidate) (cs : List Candidate) → list_any t (c ∷ c ∷ cs) ≡ true → list_any t (c ∷ cs) ≡ true
any_again t c cs e = elim (or_cases (t c) (list_any t (c ∷ cs)) e) [ inl h ↦ or_left (t c) _ h | inr h ↦ h ]

-- the passes find the best, for any list of which the choice sees such routes
pub picked_best : {X : Type 0} (seen : X → Candidate) (l c : Candidate) (cs : List Candidate) (xs : List X) → map seen xs ≡ c ∷ cs → l ≡ lead_of c (c ∷ cs) → pick seen (λ x. is_kept l (c ∷ cs) (seen x)) None xs ≡ best_by seen xs
picked_best seen l c cs xs is lead =
    let all = subst (λ k. list_all (λ d. not (is_ahead d k)) (c ∷ cs) ≡ true) (sym lead) (and_parts (not (is_ahead c (lead_of c (c ∷ cs)))) (list_all (λ d. not (is_ahead d (lead_of c (c ∷ cs)))) (c ∷ cs)) (lead_all (c ∷ cs) c)).1 in
    let any = subst (λ k. list_any (λ d. is_even d k) (c ∷ cs) ≡ true) (sym lead) (any_again (λ d. is_even d (lead_of c (c ∷ cs))) c cs (lead_any (c ∷ cs) c)) in
    let kept = kept_is seen l xs (subst (λ ys. list_all (λ d. not (is_ahead d l)) ys ≡ true) (sym is) all) (subst (λ ys. list_any (λ d. is_even d l) ys ≡ true) (sym is) any) in
    ap (λ ys. pick seen (λ x. is_kept l ys (seen x)) None xs) (sym is)
    ∙ pick_is seen (λ x. is_kept l (map seen xs) (seen x)) xs None ∙ chosen_first seen (filter (λ x. is_kept l (map seen xs) (seen x)) xs)
    ∙ ap (λ ys. first_of_list (least_by (λ d. (seen d).peer.0) (least_by (λ d. (seen d).id.0) ys))) (sym kept)

-- a least one of some numbers
some_least : {X : Type 0} (f : X → ℕ) (xs : List X) (w : X) → (m : ℕ) × (list_all (λ d. leb m (f d)) (w ∷ xs) ≡ true) × (list_any (λ d. eqb (f d) m) (w ∷ xs) ≡ true)
some_least {X} f [] w = (f w, and_from (leb (f w) (f w)) true (le-leb (f w) (f w) (omega arith)) refl, or_left (eqb (f w) (f w)) false (nat_itself (f w)))
some_least {X} f (x ∷ xs) w = let k = some_least f xs x in least_step f (x ∷ xs) w k.0 k.1 k.2 (leb (f w) k.0) refl
  where
    least_step : (f : X → ℕ) (ys : List X) (w : X) (m : ℕ) → list_all (λ d. leb m (f d)) ys ≡ true → list_any (λ d. eqb (f d) m) ys ≡ true → (b : Bool) → leb (f w) m ≡ b → (n : ℕ) × (list_all (λ d. leb n (f d)) (w ∷ ys) ≡ true) × (list_any (λ d. eqb (f d) n) (w ∷ ys) ≡ true)
    least_step f ys w m all any true e = (f w, and_from (leb (f w) (f w)) _ (le-leb (f w) (f w) (omega arith)) (all_weaker (λ d. leb m (f d)) (λ d. leb (f w) (f d)) (λ d g. at_least (f w) m (f d) e g) ys all), or_left (eqb (f w) (f w)) _ (nat_itself (f w)))
    least_step f ys w m all any false e = (m, and_from (leb m (f w)) _ (more (f w) m e) all, or_right (eqb (f w) m) _ any)

not_beaten : {X : Type 0} (seen : X → Candidate) (n : ℕ) (x : X) → med_of (seen x) ≡ n → (xs : List X) → list_all (λ d. leb n (med_of (seen d))) xs ≡ true → list_any (λ y. beats (seen y) (seen x)) xs ≡ false
not_beaten seen n x is [] all = refl
not_beaten seen n x is (y ∷ ys) all =
    let parts = and_parts (leb n (med_of (seen y))) _ all in
    or_from (beats (seen y) (seen x)) _ (and_right (eqb (seen y).asn (seen x).asn) _ (le-ltb (med_of (seen y)) (med_of (seen x)) (let h = leb-true n (med_of (seen y)) parts.0 in omega (arith, h, is)))) (not_beaten seen n x is ys parts.1)

first_some : {X : Type 0} (xs : List X) (t : X → Bool) → list_any t xs ≡ true → is_some (first_of_list xs) ≡ true
first_some [] t e = cc
first_some (x ∷ xs) t e = refl

any_all : {X : Type 0} (xs : List X) → list_any (λ d. true) xs ≡ true → (x : X) × (ys : List X) × (xs ≡ x ∷ ys)
any_all [] e = absurd (false≢true e)
any_all (x ∷ xs) e = (x, xs, refl)

-- a filter by the least keeps something
least_some : {X : Type 0} (f : X → ℕ) (x : X) (xs : List X) → list_any (λ d. true) (least_by f (x ∷ xs)) ≡ true
least_some f x xs =
    let k = some_least f xs x in
    ap (list_any (λ d. true)) (least_by_is f k.0 (x ∷ xs) k.1 k.2)
    ∙ any-filter (λ d. true) (λ d. eqb (f d) k.0) (x ∷ xs)
    ∙ any_weaker (λ d. eqb (f d) k.0) (λ d. eqb (f d) k.0 && true) (λ d g. and_from _ true g refl) (x ∷ xs) k.2

unbeaten_some : {X : Type 0} (seen : X → Candidate) (x : X) (xs : List X) → list_any (λ d. true) (unbeaten seen (x ∷ xs)) ≡ true
unbeaten_some seen x xs =
    let k = some_least (λ d. med_of (seen d)) xs x in
    any-filter (λ d. true) (λ d. not (list_any (λ y. beats (seen y) (seen d)) (x ∷ xs))) (x ∷ xs)
    ∙ any_weaker (λ d. eqb (med_of (seen d)) k.0) (λ d. not (list_any (λ y. beats (seen y) (seen d)) (x ∷ xs)) && true) (λ d g. and_from _ true (not_from_false _ (not_beaten seen k.0 d (eqb-true (med_of (seen d)) k.0 g) (x ∷ xs) k.1)) refl) (x ∷ xs) k.2

kept_on : {X : Type 0} (f : List X → List X) → ((x : X) (xs : List X) → list_any (λ d. true) (f (x ∷ xs)) ≡ true) → (ys : List X) → list_any (λ d. true) ys ≡ true → list_any (λ d. true) (f ys) ≡ true
kept_on f h ys e = let k = any_all ys e in subst (λ zs. list_any (λ d. true) (f zs) ≡ true) (sym k.2) (h k.0 k.1)

-- where there are routes, one is the best
pub best_some : {X : Type 0} (seen : X → Candidate) (c : X) (cs : List X) → is_some (best_by seen (c ∷ cs)) ≡ true
best_some seen c cs = first_some _ (λ d. true)
    (kept_on (least_by (λ d. (seen d).peer.0)) (least_some (λ d. (seen d).peer.0)) _ (kept_on (least_by (λ d. (seen d).id.0)) (least_some (λ d. (seen d).id.0)) _
    (kept_on (unbeaten seen) (unbeaten_some seen) _ (kept_on (least_by (λ d. (seen d).origin)) (least_some (λ d. (seen d).origin)) _ (least_some (λ d. (seen d).hops) c cs)))))

-- the route at a place, with its place
abbrev pub place_at : List Candidate → Option ℕ → Option (ℕ × Candidate)
place_at cs None = None
place_at cs (Some i) = option_map (λ c. (i, c)) (slice_get cs i)

seen_at : (cs : List Candidate) (v : Option ℕ) → option_map (λ (p : ℕ × Candidate). p.1) (place_at cs v) ≡ option_and_then (slice_get cs) v
seen_at cs None = refl
seen_at cs (Some i) = seen_some i (slice_get cs i)
  where
    seen_some : (i : ℕ) (o : Option Candidate) → option_map (λ (p : ℕ × Candidate). p.1) (option_map (λ c. (i, c)) o) ≡ o
    seen_some i None = refl
    seen_some i (Some c) = refl

pub numbered-map : (i : ℕ) (cs : List Candidate) → map (λ (p : ℕ × Candidate). p.1) (numbered i cs) ≡ cs
numbered-map i [] = refl
numbered-map i (c ∷ cs) = ap (λ ys. c ∷ ys) (numbered-map (i + 1) cs)

-- what is left of the passes from place i on
abbrev pub rest_picked : Candidate → List Candidate → Option ℕ → ℕ → Option (ℕ × Candidate)
rest_picked l cs v i = pick (λ (p : ℕ × Candidate). p.1) (λ p. is_kept l cs p.1) (place_at cs v) (numbered i (drop i cs))

rest_more : (l : Candidate) (cs : List Candidate) (i : ℕ) (d : Candidate) (v : Option ℕ) (b : Bool) → i < length cs → b ≡ (is_kept l cs (get_or cs i d) && would_lead (get_or cs i d) (option_and_then (slice_get cs) v))
    → rest_picked l cs v i ≡ pick (λ (p : ℕ × Candidate). p.1) (λ p. is_kept l cs p.1) (cond b (Some (i, get_or cs i d)) (place_at cs v)) (numbered (i + 1) (drop (i + 1) cs))
rest_more l cs i d v b within is =
    let e : suc i ≡ i + 1 = omega arith in
    let rest : Option ℕ → List (ℕ × Candidate) → Option (ℕ × Candidate) = λ u ys. pick (λ (p : ℕ × Candidate). p.1) (λ p. is_kept l cs p.1) (place_at cs u) ys in
    ap (λ ys. rest v (numbered i ys)) (drop-cons cs i d within ∙ ap (λ k. get_or cs i d ∷ drop k cs) e)
    ∙ ap (λ t. pick (λ (p : ℕ × Candidate). p.1) (λ p. is_kept l cs p.1) (cond t (Some (i, get_or cs i d)) (place_at cs v)) (numbered (i + 1) (drop (i + 1) cs)))
    (ap (λ o. is_kept l cs (get_or cs i d) && would_lead (get_or cs i d) o) (seen_at cs v) ∙ sym is)

-- one route more is looked at, and wins
pub pick_won : (l : Candidate) (cs : List Candidate) (i : ℕ) (d : Candidate) (v w : Option ℕ) (p : Option (ℕ × Candidate)) → i < length cs → true ≡ (is_kept l cs (get_or cs i d) && would_lead (get_or cs i d) (option_and_then (slice_get cs) v)) → w ≡ Some i → rest_picked l cs v i ≡ p → rest_picked l cs w (i + 1) ≡ p
pick_won l cs i d v w p within is now h =
    ap (λ u. rest_picked l cs u (i + 1)) now
    ∙ ap (λ o. pick (λ (p : ℕ × Candidate). p.1) (λ p. is_kept l cs p.1) (option_map (λ c. (i, c)) o) (numbered (i + 1) (drop (i + 1) cs))) (slice_get-get_or cs i d within)
    ∙ sym (rest_more l cs i d v true within is) ∙ h

-- one route more is looked at, and does not win
pub pick_lost : (l : Candidate) (cs : List Candidate) (i : ℕ) (d : Candidate) (v w : Option ℕ) (p : Option (ℕ × Candidate)) → i < length cs → false ≡ (is_kept l cs (get_or cs i d) && would_lead (get_or cs i d) (option_and_then (slice_get cs) v)) → w ≡ v → rest_picked l cs v i ≡ p → rest_picked l cs w (i + 1) ≡ p
pick_lost l cs i d v w p within is now h =
    ap (λ u. rest_picked l cs u (i + 1)) now ∙ sym (rest_more l cs i d v false within is) ∙ h

rest_end : (l : Candidate) (cs : List Candidate) (v : Option ℕ) (i : ℕ) → length cs ≤ i → rest_picked l cs v i ≡ place_at cs v
rest_end l cs v i past = ap (λ ys. pick (λ (p : ℕ × Candidate). p.1) (λ p. is_kept l cs p.1) (place_at cs v) (numbered i ys)) (drop_of_length-le cs past)

place_of : (cs : List Candidate) (v : Option ℕ) → IfSome v (λ i. i < length cs) → option_map (λ (p : ℕ × Candidate). p.0) (place_at cs v) ≡ v
place_of cs None h = refl
place_of [] (Some i) h = absurd (omega (arith, h))
place_of (c ∷ cs) (Some i) h = ap (λ o. option_map (λ (p : ℕ × Candidate). p.0) (option_map (λ x. (i, x)) o)) (slice_get-get_or (c ∷ cs) i c h)

-- what the end of the passes gives, where the list begins with c
pub passes_best : (c : Candidate) (xs : List Candidate) (v : Option ℕ) (i : ℕ) (l : Candidate) → Some c ≡ slice_get xs 0 → l ≡ lead_of c xs → length xs ≤ i → IfSome v (λ i. i < length xs) → rest_picked l xs v i ≡ rest_picked l xs None 0 → v ≡ best_place xs
passes_best c [] v i l first lead past within h = cc
passes_best c (x ∷ xs) v i l first lead past within h =
    let same : c ≡ x = cc in
    sym (place_of (x ∷ xs) v within)
    ∙ ap (option_map (λ (p : ℕ × Candidate). p.0)) (sym (rest_end l (x ∷ xs) v i past) ∙ h
    ∙ picked_best (λ (p : ℕ × Candidate). p.1) l x xs (numbered 0 (x ∷ xs)) (numbered-map 0 (x ∷ xs)) (lead ∙ ap (λ d. lead_of d (x ∷ xs)) same))

-- no winner, no routes
pub no_winner : (xs : List Candidate) → best_place xs ≡ None → xs ≡ []
no_winner [] e = refl
no_winner (x ∷ xs) e = absurd (false≢true (ap is_some (sym e) ∙ is_some-map (λ (p : ℕ × Candidate). p.0) (best_by (λ p. p.1) (numbered 0 (x ∷ xs))) ∙ best_some (λ (p : ℕ × Candidate). p.1) (0, x) (numbered 1 xs)))

pub no_routes : (xs : List Candidate) → xs ≡ [] → best_place xs ≡ None
no_routes xs e = ap best_place e
