-- The rows that an update's changes have are those of the routes after it.
use Rattle.std.proofs.Common.{◌≡◌, ℕ, ◌+◌, ◌<◌, ◌≤◌, Bool, true, false, cond, eqb, List, [], ◌∷◌, ◌++◌, take, length, get_or, sum_by, sym, ap, subst, ◌∙◌, refl, arith, append_assoc, inl, inr, true≢false}
use Rattle.std.specs.Prelude.{Option, Some, None, IfSome, IfOk, Result, Ok, Err, unwrap_or, ◌⊎◌}
use Rattle.std.specs.Option.{option_and_then}
use Rattle.std.specs.FinMap.{FinMap, get, insert, remove, get-insert, get-remove}
use Rattle.std.specs.List.Sorted.{IsPermutation, IsSortedBy}
use Rattle.std.specs.Ordering.{eq_by_cmp, is_lt}
use Rattle.std.proofs.lemmas.Bool.{eqb-true, false_from_ne_true, eq-eqb}
use Rattle.std.proofs.lemmas.List.{take_more}
use Rattle.std.proofs.lemmas.List.Sums.{sum_by-cons}
use Rattle.std.proofs.lemmas.List.Sorted.{sum_by-IsPermutation, IsPermutation-sym}
use Rattle.std.proofs.lemmas.Option.{slice_get-get_or}
use Rattle.net_types.proofs.EqualLemmas.{optional_test}
use Rattle.net_types.proofs.FindLemmas.{slice_get-Member}
use Rattle.net_types.proofs.MemberLemmas.{Member-permutation}
use Rattle.net_types.proofs.OrderLemmas.{routes_total, prefixes_total, prefix_tie}
use Rattle.net_types.proofs.RisingLemmas.{before_itself, sorted-IsRising}
use Rattle.net_types.proofs.SetLemmas.{Member-append_left, Member-append_right, Member-append_cases, Member-map, map-Member, map-append}
use Rattle.net_types.proofs.TieLemmas.{route_tie, ties_itself}
use Rattle.net_types.specs.Attributes.{same_attrs}
use Rattle.net_types.specs.Changes.{withdrawn, announced_by, announced_with, updated}
use Rattle.net_types.specs.Keys.{RouteKey, prefix_cmp, route_cmp}
use Rattle.net_types.specs.Sets.{Member, IsRising}
use Rattle.net_types.specs.SoundUpdates.{IsSoundUpdate, HasSoundAttrs}
use Rattle.net_types.specs.UpdateSpelling.{is_before}
use Rattle.net_types.specs.Updates.{is_oversize}
use Rattle.net_types.specs.declared.address.Pid.{Pid}
use Rattle.net_types.specs.declared.prefix.Prefix.{Prefix}
use Rattle.net_types.specs.declared.route.Attrs.{Attrs}
use Rattle.net_types.specs.declared.update.Update.{Update}
use Rattle.registry.specs.Registered.{Registered}
use Rattle.route_server.specs.Admission.{attrs_refusal, begins_with_own, or_oversize, refusal}
use Rattle.route_server.specs.Edits.{IsEdit, prefixes_of}
use Rattle.route_server.specs.Effects.{AreRowsOf, routing_after}
use Rattle.route_server.specs.Rows.{look}
use Rattle.route_server.specs.Served.{Served, AreDeclared, AreOwned, owns, routing}
use Rattle.route_server.specs.declared.change.Change.{Change}
use Rattle.route_server.specs.declared.fault.RouteFault.{RouteFault}
use Rattle.route_server.specs.declared.fault.RouteFault.TheVariants.{FirstAs, NextHop}

-- attributes that say the same in each field are equal
pub same_attributes : (a b : Attrs) → same_attrs a b ≡ true → a ≡ b
same_attributes a b e = ap (λ o. unwrap_or o a) ((optional_test (Some a) (Some b)).0 e)

-- ---- one change more

pub edits_push : (P : Change → Type 0) (cs ds : List Change) (ch : Change) → ds ≡ cs ++ ch ∷ [] → ((c : Change) → Member c cs → P c) → P ch → (c : Change) → Member c ds → P c
edits_push P cs ds ch is all here c m = elim (Member-append_cases cs (ch ∷ []) c (subst (Member c) is m)) [
  | inl k ↦ all c k
  | inr k ↦ last k
]
  where
    last : Member c (ch ∷ []) → P c
    last (inl e) = subst P (sym e) here
    last (inr k) = elim k [ ]

pub prefixes_push : (cs ds : List Change) (ch : Change) (front ps : List Prefix) (i : ℕ) (d : Prefix) → ds ≡ cs ++ ch ∷ [] → ch.prefix ≡ d → i < length ps → d ≡ get_or ps i d → prefixes_of cs ≡ front ++ take i ps → prefixes_of ds ≡ front ++ take (i + 1) ps
prefixes_push cs ds ch front ps i d is at within here h =
    ap prefixes_of is ∙ map-append (λ (c : Change). c.prefix) cs (ch ∷ []) ∙ ap (λ qs. qs ++ ch.prefix ∷ []) h
    ∙ append_assoc front (take i ps) (ch.prefix ∷ [])
    ∙ ap (λ q. front ++ (take i ps ++ q ∷ [])) (at ∙ here) ∙ ap (λ qs. front ++ qs) (sym (take_more ps i d within))

pub member_at : (ps : List Prefix) (i : ℕ) (d p : Prefix) → i < length ps → d ≡ get_or ps i d → p ≡ d → Member p ps
member_at ps i d p within here at = subst (λ q. Member q ps) (sym at) (slice_get-Member ps i d (slice_get-get_or ps i d within ∙ ap (λ q. Some q) (sym here)))

pub weaken : {A E : Type 0} (P Q : A → Type 0) (r : Result A E) → ((x : A) → P x → Q x) → IfOk r P → IfOk r Q
weaken P Q (Ok x) h k = h x k
weaken P Q (Err e) h k = tt

pub prefix_of_member : (cs : List Change) (ps : List Prefix) (c : Change) → prefixes_of cs ≡ ps → Member c cs → Member c.prefix ps
prefix_of_member cs ps c is m = subst (Member c.prefix) is (Member-map (λ (d : Change). d.prefix) cs c m)

-- ---- the routes after an update

abbrev key : Pid → Prefix → RouteKey
key f p = record { from = f; prefix = p }

other_prefix : (q : RouteKey) (from : Pid) (p : Prefix) → (q.prefix ≡ p → ⊥) → eq_by_cmp route_cmp q (key from p) ≡ false
other_prefix q from p h = false_from_ne_true _ (λ t. h (ap (λ (k : RouteKey). k.prefix) (route_tie q (key from p) t)))

other_from : (q : RouteKey) (from : Pid) (p : Prefix) → eqb from.0 q.from.0 ≡ false → eq_by_cmp route_cmp q (key from p) ≡ false
other_from q from p e = false_from_ne_true _ (λ t. true≢false (sym (ap (λ (k : RouteKey). eqb from.0 k.from.0) (route_tie q (key from p) t) ∙ eq-eqb from.0 from.0 refl) ∙ e))

own_key : (q : RouteKey) (from : Pid) (p : Prefix) → q.prefix ≡ p → eqb from.0 q.from.0 ≡ true → eq_by_cmp route_cmp q (key from p) ≡ true
own_key q from p at e =
    let same = eqb-true from.0 q.from.0 e in
    let is : q ≡ key from p = λ i. record { from = record { 0 = sym same i }; prefix = at i } in
    subst (λ k. eq_by_cmp route_cmp q k ≡ true) is (ties_itself routes_total q)

module _ (from : Pid) (q : RouteKey) where
  withdrawn_out : (ps : List Prefix) (m : FinMap route_cmp Attrs) → (Member q.prefix ps → ⊥) → get (withdrawn from ps m) q ≡ get m q
  withdrawn_out [] m h = refl
  withdrawn_out (p ∷ ps) m h =
      withdrawn_out ps (remove m (key from p)) (λ k. h (inr k)) ∙ get-remove routes_total m (key from p) q
      ∙ ap (λ b. cond b None (get m q)) (other_prefix q from p (λ e. h (inl e)))

  withdrawn_other : (ps : List Prefix) (m : FinMap route_cmp Attrs) → eqb from.0 q.from.0 ≡ false → get (withdrawn from ps m) q ≡ get m q
  withdrawn_other [] m e = refl
  withdrawn_other (p ∷ ps) m e =
      withdrawn_other ps (remove m (key from p)) e ∙ get-remove routes_total m (key from p) q
      ∙ ap (λ b. cond b None (get m q)) (other_from q from p e)

  still_none : (b : Bool) (o : Option Attrs) → o ≡ None → cond b None o ≡ None
  still_none true o e = refl
  still_none false o e = e

  withdrawn_none : (ps : List Prefix) (m : FinMap route_cmp Attrs) → get m q ≡ None → get (withdrawn from ps m) q ≡ None
  withdrawn_none [] m e = e
  withdrawn_none (p ∷ ps) m e = withdrawn_none ps (remove m (key from p)) (get-remove routes_total m (key from p) q ∙ still_none (eq_by_cmp route_cmp q (key from p)) (get m q) e)

  withdrawn_in : (ps : List Prefix) (m : FinMap route_cmp Attrs) → Member q.prefix ps → eqb from.0 q.from.0 ≡ true → get (withdrawn from ps m) q ≡ None
  withdrawn_in [] m k e = elim k [ ]
  withdrawn_in (p ∷ ps) m (inl at) e = withdrawn_none ps (remove m (key from p)) (get-remove routes_total m (key from p) q ∙ ap (λ b. cond b None (get m q)) (own_key q from p at e))
  withdrawn_in (p ∷ ps) m (inr k) e = withdrawn_in ps (remove m (key from p)) k e

  module _ (attrs : Attrs) where
    announced_out : (ps : List Prefix) (m : FinMap route_cmp Attrs) → (Member q.prefix ps → ⊥) → get (announced_by from attrs ps m) q ≡ get m q
    announced_out [] m h = refl
    announced_out (p ∷ ps) m h =
        announced_out ps (insert m (key from p) attrs) (λ k. h (inr k)) ∙ get-insert routes_total m (key from p) attrs q
        ∙ ap (λ b. cond b (Some attrs) (get m q)) (other_prefix q from p (λ e. h (inl e)))

    announced_other : (ps : List Prefix) (m : FinMap route_cmp Attrs) → eqb from.0 q.from.0 ≡ false → get (announced_by from attrs ps m) q ≡ get m q
    announced_other [] m e = refl
    announced_other (p ∷ ps) m e =
        announced_other ps (insert m (key from p) attrs) e ∙ get-insert routes_total m (key from p) attrs q
        ∙ ap (λ b. cond b (Some attrs) (get m q)) (other_from q from p e)

    still_some : (b : Bool) (o : Option Attrs) → o ≡ Some attrs → cond b (Some attrs) o ≡ Some attrs
    still_some true o e = refl
    still_some false o e = e

    announced_some : (ps : List Prefix) (m : FinMap route_cmp Attrs) → get m q ≡ Some attrs → get (announced_by from attrs ps m) q ≡ Some attrs
    announced_some [] m e = e
    announced_some (p ∷ ps) m e = announced_some ps (insert m (key from p) attrs) (get-insert routes_total m (key from p) attrs q ∙ still_some (eq_by_cmp route_cmp q (key from p)) (get m q) e)

    announced_in : (ps : List Prefix) (m : FinMap route_cmp Attrs) → Member q.prefix ps → eqb from.0 q.from.0 ≡ true → get (announced_by from attrs ps m) q ≡ Some attrs
    announced_in [] m k e = elim k [ ]
    announced_in (p ∷ ps) m (inl at) e = announced_some ps (insert m (key from p) attrs) (get-insert routes_total m (key from p) attrs q ∙ ap (λ b. cond b (Some attrs) (get m q)) (own_key q from p at e))
    announced_in (p ∷ ps) m (inr k) e = announced_in ps (insert m (key from p) attrs) k e

  with_out : (o : Option Attrs) (ps : List Prefix) (m : FinMap route_cmp Attrs) → (Member q.prefix ps → ⊥) → get (announced_with from o ps m) q ≡ get m q
  with_out None ps m h = refl
  with_out (Some attrs) ps m h = announced_out attrs ps m h

  with_other : (o : Option Attrs) (ps : List Prefix) (m : FinMap route_cmp Attrs) → eqb from.0 q.from.0 ≡ false → get (announced_with from o ps m) q ≡ get m q
  with_other None ps m e = refl
  with_other (Some attrs) ps m e = announced_other attrs ps m e

  with_in : (o : Option Attrs) (ps : List Prefix) (m : FinMap route_cmp Attrs) → HasSoundAttrs ps o → Member q.prefix ps → eqb from.0 q.from.0 ≡ true → get (announced_with from o ps m) q ≡ o
  with_in None [] m s k e = elim k [ ]
  with_in None (p ∷ ps) m s k e = elim s [ ]
  with_in (Some attrs) ps m s k e = announced_in attrs ps m k e

  -- elsewhere the routes stay
  pub updated_out : (u : Update) (m : FinMap route_cmp Attrs) → (Member q.prefix (u.withdrawn ++ u.announced) → ⊥) → get (updated from u m) q ≡ get m q
  updated_out u m h =
      with_out u.attrs u.announced (withdrawn from u.withdrawn m) (λ k. h (Member-append_right u.withdrawn u.announced q.prefix k))
      ∙ withdrawn_out u.withdrawn m (λ k. h (Member-append_left u.withdrawn u.announced q.prefix k))

  pub updated_other : (u : Update) (m : FinMap route_cmp Attrs) → eqb from.0 q.from.0 ≡ false → get (updated from u m) q ≡ get m q
  updated_other u m e = with_other u.attrs u.announced (withdrawn from u.withdrawn m) e ∙ withdrawn_other u.withdrawn m e

module _ (from : Pid) (u : Update) (m : FinMap route_cmp Attrs) (sound : IsSoundUpdate u) (c : Change) where
  edit_is : (o : Option Attrs) → IsEdit m from o c → ((f : Pid) → eqb from.0 f.0 ≡ true → get (updated from u m) (key f c.prefix) ≡ o) → (f : Pid) → get (updated from u m) (key f c.prefix) ≡ look c.row f.0
  edit_is o edit own f = by (eqb from.0 f.0) refl ∙ sym (edit.looks f)
    where
      by : (b : Bool) → eqb from.0 f.0 ≡ b → get (updated from u m) (key f c.prefix) ≡ cond (eqb from.0 f.0) o (get m (key f c.prefix))
      by true e = own f e ∙ sym (ap (λ b. cond b o (get m (key f c.prefix))) e)
      by false e = updated_other from (key f c.prefix) u m e ∙ sym (ap (λ b. cond b o (get m (key f c.prefix))) e)

  pub edited_rows : (IsEdit m from None c × Member c.prefix u.withdrawn) ⊎ (IsEdit m from u.attrs c × Member c.prefix u.announced) → (f : Pid) → get (updated from u m) (key f c.prefix) ≡ look c.row f.0
  edited_rows (inl k) = edit_is None k.0 (λ f e.
      with_out from (key f c.prefix) u.attrs u.announced (withdrawn from u.withdrawn m) (λ here. sound.apart c.prefix k.1 here)
      ∙ withdrawn_in from (key f c.prefix) u.withdrawn m k.1 e)
  edited_rows (inr k) = edit_is u.attrs k.0 (λ f e. with_in from (key f c.prefix) u.attrs u.announced (withdrawn from u.withdrawn m) sound.attrs k.1 e)

pub rows_after : (from : Pid) (u : Update) (m : FinMap route_cmp Attrs) → IsSoundUpdate u → (cs ds : List Change) → IsPermutation cs ds
    → ((c : Change) → Member c cs → (IsEdit m from None c × Member c.prefix u.withdrawn) ⊎ (IsEdit m from u.attrs c × Member c.prefix u.announced)) → AreRowsOf ds (updated from u m)
rows_after from u m sound cs ds same edits = record {
  each = λ c k. edited_rows from u m sound c (edits c (Member-permutation ds cs c (IsPermutation-sym cs ds same) k));
}

pub all_there : (cs ds : List Change) (ps : List Prefix) → IsPermutation cs ds → prefixes_of cs ≡ ps → (p : Prefix) → Member p ps → Member p (prefixes_of ds)
all_there cs ds ps same is p k =
    let at = map-Member (λ (c : Change). c.prefix) cs p (subst (Member p) (sym is) k) in
    subst (λ q. Member q (prefixes_of ds)) (sym at.is) (Member-map (λ (c : Change). c.prefix) ds at.of (Member-permutation cs ds at.of same at.stands))

-- who is declared, after an update of one who is
pub updated_declared : (names : Registered) (from : Pid) (u : Update) (m : FinMap route_cmp Attrs) → from.0 < length names.participants → AreDeclared names m → AreDeclared names (updated from u m)
updated_declared names from u m within before = record { declared = λ k. by k (eqb from.0 k.from.0) refl }
  where
    anyway : (o : Option Attrs) (k : RouteKey) → k.from.0 < length names.participants → IfSome o (λ _. k.from.0 < length names.participants)
    anyway None k h = tt
    anyway (Some x) k h = h

    by : (k : RouteKey) (b : Bool) → eqb from.0 k.from.0 ≡ b → IfSome (get (updated from u m) k) (λ _. k.from.0 < length names.participants)
    by k true e = anyway (get (updated from u m) k) k (subst (λ n. n < length names.participants) (eqb-true from.0 k.from.0 e) within)
    by k false e = subst (λ o. IfSome o (λ _. k.from.0 < length names.participants)) (sym (updated_other from k u m e)) (before.declared k)

-- ---- what is true of each route

module _ (fits : RouteKey → Attrs → Type 0) (from : Pid) where
  gone_fit : (ps : List Prefix) (m : FinMap route_cmp Attrs) → ((k : RouteKey) → IfSome (get m k) (fits k)) → (k : RouteKey) → IfSome (get (withdrawn from ps m) k) (fits k)
  gone_fit [] m h = h
  gone_fit (p ∷ ps) m h = gone_fit ps (remove m (key from p)) (λ k. subst (λ o. IfSome o (fits k)) (sym (get-remove routes_total m (key from p) k)) (by k (eq_by_cmp route_cmp k (key from p))))
    where
      by : (k : RouteKey) (b : Bool) → IfSome (cond b None (get m k)) (fits k)
      by k true = tt
      by k false = h k

  module _ (attrs : Attrs) (own : (p : Prefix) → fits (key from p) attrs) where
    here_fit : (ps : List Prefix) (m : FinMap route_cmp Attrs) → ((k : RouteKey) → IfSome (get m k) (fits k)) → (k : RouteKey) → IfSome (get (announced_by from attrs ps m) k) (fits k)
    here_fit [] m h = h
    here_fit (p ∷ ps) m h = here_fit ps (insert m (key from p) attrs) (λ k. subst (λ o. IfSome o (fits k)) (sym (get-insert routes_total m (key from p) attrs k)) (by k (eq_by_cmp route_cmp k (key from p)) refl))
      where
        by : (k : RouteKey) (b : Bool) → eq_by_cmp route_cmp k (key from p) ≡ b → IfSome (cond b (Some attrs) (get m k)) (fits k)
        by k true e = subst (λ q. fits q attrs) (sym (route_tie k (key from p) e)) (own p)
        by k false e = h k

  with_fit : (o : Option Attrs) (ps : List Prefix) (m : FinMap route_cmp Attrs) → ((a : Attrs) → o ≡ Some a → (p : Prefix) → fits (key from p) a) → ((k : RouteKey) → IfSome (get m k) (fits k)) → (k : RouteKey) → IfSome (get (announced_with from o ps m) k) (fits k)
  with_fit None ps m own h = h
  with_fit (Some a) ps m own h = here_fit a (own a refl) ps m h

-- where nothing is refused, the attributes aren't
not_refused : (oversize : Bool) (o : Option RouteFault) → or_oversize oversize o ≡ None → o ≡ None
not_refused oversize None e = refl
not_refused oversize (Some fault) e = absurd (cc)

-- next hops stay owned after an update that is taken
pub updated_owned : (names : Registered) (from : Pid) (u : Update) (v : Served) → from.0 < length names.participants → refusal names from u ≡ None → AreOwned (routing names v) → AreOwned (routing_after names v.rules v.named (updated from u v.routes))
updated_owned names from u v within taken are = record {
  owned = with_fit fits from u.attrs u.announced (withdrawn from u.withdrawn v.routes) (λ a e p. (within, own a (ap (option_and_then (attrs_refusal names from)) (sym e) ∙ not_refused (is_oversize u) (option_and_then (attrs_refusal names from) u.attrs) taken))) (gone_fit fits from u.withdrawn v.routes are.owned);
}
  where
    fits : RouteKey → Attrs → Type 0
    fits k a = (k.from.0 < length names.participants) × (owns (routing names v) k.from a.next_hop ≡ true)

    own : (a : Attrs) → attrs_refusal names from a ≡ None → owns (routing names v) from a.next_hop ≡ true
    own a e = by (begins_with_own names from a) (owns (routing names v) from a.next_hop) e
      where
        by : (b c : Bool) → cond b (cond c None (Some NextHop)) (Some FirstAs) ≡ None → c ≡ true
        by true true e = refl
        by true false e = absurd (cc)
        by false c e = absurd (cc)

-- ---- the prefixes rise

abbrev count : Prefix → List Prefix → ℕ
count q ps = sum_by (λ p. cond (eq_by_cmp prefix_cmp q p) 1 0) ps

one_more : (b : Bool) (n : ℕ) → n ≤ 1 → (b ≡ true → n ≡ 0) → (cond b 1 0) + n ≤ 1
one_more true n le h = let e = h refl in omega arith
one_more false n le h = omega arith

count_none : (q : Prefix) (ps : List Prefix) → ((p : Prefix) → Member p ps → eq_by_cmp prefix_cmp q p ≡ false) → count q ps ≡ 0
count_none q [] h = refl
count_none q (p ∷ ps) h =
    sum_by-cons (λ p. cond (eq_by_cmp prefix_cmp q p) 1 0) p ps
    ∙ ap (λ b. cond b 1 0 + count q ps) (h p (inl refl)) ∙ ap (λ n. 0 + n) (count_none q ps (λ r k. h r (inr k)))

-- a prefix that comes before all others is none of them
none_later : (q p : Prefix) (ps : List Prefix) → eq_by_cmp prefix_cmp q p ≡ true → ((r : Prefix) → Member r ps → is_before p r ≡ true) → (r : Prefix) → Member r ps → eq_by_cmp prefix_cmp q r ≡ false
none_later q p ps e below r k = false_from_ne_true _ (λ t. before_itself prefix_cmp prefixes_total p (subst (λ x. is_before p x ≡ true) (sym (sym (prefix_tie q p e) ∙ prefix_tie q r t)) (below r k)))

count_rising : (q : Prefix) (ps : List Prefix) → IsRising is_before ps → count q ps ≤ 1
count_rising q [] r = omega arith
count_rising q (p ∷ ps) r =
    rw (sum_by-cons (λ p. cond (eq_by_cmp prefix_cmp q p) 1 0) p ps)
    (one_more (eq_by_cmp prefix_cmp q p) (count q ps) (count_rising q ps r.1) (λ t. count_none q ps (none_later q p ps t r.0)))

count_both : (q : Prefix) (gone here : List Prefix) → IsRising is_before gone → IsRising is_before here → ((p : Prefix) → Member p gone → Member p here → ⊥) → count q (gone ++ here) ≤ 1
count_both q [] here g h away = count_rising q here h
count_both q (p ∷ gone) here g h away =
    rw (sum_by-cons (λ p. cond (eq_by_cmp prefix_cmp q p) 1 0) p (gone ++ here))
    (one_more (eq_by_cmp prefix_cmp q p) (count q (gone ++ here)) (count_both q gone here g.1 h (λ r k l. away r (inr k) l)) (λ t. count_none q (gone ++ here) (later t)))
  where
    later : eq_by_cmp prefix_cmp q p ≡ true → (r : Prefix) → Member r (gone ++ here) → eq_by_cmp prefix_cmp q r ≡ false
    later t r k = elim (Member-append_cases gone here r k) [
      | inl a ↦ none_later q p gone t g.0 r a
      | inr b ↦ false_from_ne_true _ (λ same. away p (inl refl) (subst (λ x. Member x here) (sym (prefix_tie q r same) ∙ prefix_tie q p t) b))
    ]

count_changes : (q : Prefix) (cs : List Change) → sum_by (λ (c : Change). cond (eq_by_cmp prefix_cmp q c.prefix) 1 0) cs ≡ count q (prefixes_of cs)
count_changes q [] = refl
count_changes q (c ∷ cs) =
    sum_by-cons (λ (c : Change). cond (eq_by_cmp prefix_cmp q c.prefix) 1 0) c cs
    ∙ ap (λ n. cond (eq_by_cmp prefix_cmp q c.prefix) 1 0 + n) (count_changes q cs)
    ∙ sym (sum_by-cons (λ p. cond (eq_by_cmp prefix_cmp q p) 1 0) c.prefix (prefixes_of cs))

pub changes_rise : (gone here : List Prefix) (cs ds : List Change) → IsPermutation cs ds → IsSortedBy (λ (a : Change) (b : Change). is_lt (prefix_cmp a.prefix b.prefix)) ds → prefixes_of cs ≡ gone ++ here → IsRising is_before gone → IsRising is_before here → ((p : Prefix) → Member p gone → Member p here → ⊥) → IsRising is_before (prefixes_of ds)
changes_rise gone here cs ds same in_order is g h away =
    sorted-IsRising prefix_cmp prefixes_total (λ (c : Change). c.prefix) ds in_order (λ q.
    subst (λ n. n ≤ 1) (sym (sum_by-IsPermutation (λ (c : Change). cond (eq_by_cmp prefix_cmp q c.prefix) 1 0) cs ds same ∙ count_changes q cs ∙ ap (count q) is)) (count_both q gone here g h away))
