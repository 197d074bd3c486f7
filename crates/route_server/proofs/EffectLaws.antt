-- One effect more, and what the effects say of the routes.
use Rattle.std.proofs.Common.{◌≡◌, ℕ, suc, ◌+◌, ◌-◌, ◌<◌, ◌≤◌, Bool, true, false, cond, ◌&&◌, not, List, [], ◌∷◌, ◌++◌, map, filter, take, length, get_or, sym, ap, subst, ◌∙◌, refl, arith, append_assoc, append-nil, inl, inr, true≢false}
use Rattle.std.specs.Prelude.{Option, Some, None, slice_get, option_to_list, unwrap_or, ◌⊎◌}
use Rattle.std.specs.List.{list_all, list_any}
use Rattle.std.specs.Ordering.{eq_by_cmp}
use Rattle.std.specs.Option.{option_map, option_map_or, option_and_then}
use Rattle.std.specs.FinMap.{get}
use Rattle.std.proofs.lemmas.Bool.{and_parts, not-true}
use Rattle.std.proofs.lemmas.List.{take_more, take_all}
use Rattle.std.proofs.lemmas.List.Elements.{filter-append}
use Rattle.std.proofs.lemmas.Option.{slice_get-get_or}
use Rattle.net_types.proofs.SetLemmas.{map-append}
use Rattle.net_types.specs.Attributes.{same_option, same_attrs, same_signature}
use Rattle.net_types.specs.Changes.{best_attrs, Differs, AreTouched}
use Rattle.net_types.specs.Exports.{Routing}
use Rattle.net_types.specs.Keys.{RouteKey, prefix_cmp}
use Rattle.net_types.specs.Routes.{Candidate, pids, numbers}
use Rattle.net_types.specs.Sets.{Member, IsRising}
use Rattle.net_types.specs.Signatures.{signature}
use Rattle.net_types.specs.UpdateSpelling.{is_before}
use Rattle.net_types.specs.declared.address.Pid.{Pid}
use Rattle.net_types.specs.declared.export.ExportRule.{ExportRule}
use Rattle.net_types.specs.declared.prefix.Prefix.{Prefix}
use Rattle.net_types.specs.declared.route.Attrs.{Attrs}
use Rattle.net_types.proofs.LongestLemmas.{any-member, member-any}
use Rattle.net_types.proofs.RisingLemmas.{filter-Member, Member-filter, filter-IsRising}
use Rattle.registry.specs.Registered.{Registered}
use Rattle.route_server.specs.Rows.{settled, held_at, held_by, look, Rising, signature_of}
use Rattle.route_server.specs.Served.{Served, routing, AreDeclared, AreOwned}
use Rattle.route_server.specs.Effects.{place_attrs, row_at, effect_bests, best_by_row, same_by_rows, is_same, IsEffect, IsEffectOf, AreRowsOf, AreEffects}
use Rattle.route_server.specs.Proposed.{IsProposal, named_with}
use Rattle.route_server.specs.declared.change.Change.{Change}
use Rattle.route_server.specs.declared.effect.Effect.{Effect}
use Rattle.route_server.specs.declared.held.Held.{Held}
use Rattle.net_types.proofs.EqualLemmas.{signature_test, optional_test}
use Rattle.route_server.proofs.ServedLaws.{best_of_row, signature_of_row}
use Rattle.route_server.proofs.ProposalLaws.{changes_reach}

-- ---- participants one after another

abbrev pub pids_from : ℕ → ℕ → List Pid
pids_from low count = map (λ n. record { 0 = n }) (numbers low count)

pub pids_step : (low count : ℕ) → low < count → pids_from low (count - low) ≡ record { 0 = low } ∷ pids_from (low + 1) (count - (low + 1))
pids_step low count lt =
    let e : count - low ≡ suc (count - (low + 1)) = omega (arith, lt) in
    ap (pids_from low) e

pub pids_end : (low count : ℕ) → count ≤ low → pids_from low (count - low) ≡ []
pids_end low count le =
    let e : count - low ≡ 0 = omega (arith, le) in
    ap (pids_from low) e

pub map_one_more : {A B C : Type 0} (f : A → C) (g : B → C) (xs ys : List A) (x : A) (y : B) (rest next : List B) (all : List C) → rest ≡ y ∷ next → f x ≡ g y → ys ≡ xs ++ x ∷ [] → map f xs ++ map g rest ≡ all → map f ys ++ map g next ≡ all
map_one_more f g xs ys x y rest next all is same now h =
    ap (λ zs. map f zs ++ map g next) now ∙ ap (λ zs. zs ++ map g next) (map-append f xs (x ∷ [])) ∙ append_assoc (map f xs) (f x ∷ []) (map g next)
    ∙ ap (λ z. map f xs ++ z ∷ map g next) same ∙ ap (λ zs. map f xs ++ map g zs) (sym is) ∙ h

-- the attributes at the place of the best route
pub place_best : (r : Routing) (row : List Held) (o : Option ℕ) (best : Option Candidate) → option_and_then (held_at r row) o ≡ best → place_attrs row o ≡ option_map (λ (c : Candidate). c.attrs) best
place_best r row o best is = at_place o ∙ ap (option_map (λ (c : Candidate). c.attrs)) is
  where
    there : (h : Option Held) → option_map (λ (h : Held). h.attrs) h ≡ option_map (λ (c : Candidate). c.attrs) (option_map (held_by r) h)
    there None = refl
    there (Some h) = refl

    at_place : (o : Option ℕ) → place_attrs row o ≡ option_map (λ (c : Candidate). c.attrs) (option_and_then (held_at r row) o)
    at_place None = refl
    at_place (Some i) = there (slice_get row i)

-- ---- rows and routings

all_alike : {A : Type 0} (f g : A → Bool) → ((x : A) → f x ≡ g x) → (xs : List A) → list_all f xs ≡ list_all g xs
all_alike f g h [] = refl
all_alike f g h (x ∷ xs) = ap (λ b. b && list_all f xs) (h x) ∙ ap (λ b. g x && b) (all_alike f g h xs)

-- what is known of a row of the routes before, and of one of the routes afterwards
pub record AreKnown (names : Registered) (v w : Served) (r s : Routing) (p : Prefix) (old new : List Held) : Type 0 where
  pub before_is : r ≡ settled names v.rules v.named
  pub after_is : s ≡ settled names w.rules w.named
  pub before : AreDeclared names v.routes
  pub now : AreDeclared names w.routes
  pub old_rises : Rising 0 256 old
  pub new_rises : Rising 0 256 new
  pub old_is : (from : Pid) → get v.routes (record { from = from; prefix = p }) ≡ look old from.0
  pub new_is : (from : Pid) → get w.routes (record { from = from; prefix = p }) ≡ look new from.0

module _ (names : Registered) (v w : Served) (r s : Routing) (p : Prefix) (old new : List Held) (k : AreKnown names v w r s p old new) where
  old_sig : signature_of r p old ≡ signature (routing names v) p
  old_sig = signature_of_row names v r old p k.before_is k.old_rises k.old_is k.before.declared

  pub new_sig : signature_of s p new ≡ signature (routing names w) p
  new_sig = signature_of_row names w s new p k.after_is k.new_rises k.new_is k.now.declared

  old_best : (to : Pid) → best_by_row r p old to ≡ best_attrs (routing names v) to p
  old_best to = best_of_row names v r old to p k.before_is k.old_rises k.old_is k.before.declared

  pub new_best : (to : Pid) → best_by_row s p new to ≡ best_attrs (routing names w) to p
  new_best to = best_of_row names w s new to p k.after_is k.new_rises k.new_is k.now.declared

  pub same_is : same_by_rows r s p old new ≡ is_same (routing names v) (routing names w) p
  same_is = (λ i. same_signature (new_sig i) (old_sig i)
      && list_all (λ to. same_option same_attrs (old_best to i) (new_best to i)) (pids (k.before_is i)))

-- ---- one change more

row_here : (cs : List Change) (i : ℕ) (c : Change) → i < length cs → c ≡ get_or cs i c → row_at cs i ≡ c.row
row_here cs i c within is = ap (λ o. option_map_or (λ (d : Change). d.row) o []) (slice_get-get_or cs i c within ∙ ap (λ d. Some d) (sym is))

kept_more : (t : Change → Bool) (cs : List Change) (i : ℕ) (c : Change) (b : Bool) → i < length cs → c ≡ get_or cs i c → t c ≡ b → filter t (take (i + 1) cs) ≡ filter t (take i cs) ++ cond b (c ∷ []) []
kept_more t cs i c b within is at =
    ap (filter t) (take_more cs i c within ∙ ap (λ d. take i cs ++ d ∷ []) (sym is)) ∙ filter-append t (take i cs) (c ∷ [])
    ∙ ap (λ u. filter t (take i cs) ++ cond u (c ∷ []) []) at

abbrev prefixes_of : List Effect → List Prefix
prefixes_of es = map (λ (e : Effect). e.prefix) es

module _ (names : Registered) (v w : Served) (r s : Routing) (cs : List Change) (i : ℕ) (c : Change) (old : List Held) (within : i < length cs) (is : c ≡ get_or cs i c) (k : AreKnown names v w r s c.prefix old c.row) where
  abbrev before : Routing
  before = routing names v

  abbrev now : Routing
  now = routing names w

  abbrev test : Change → Bool
  test d = not (is_same before now d.prefix)

  pub effect_none : (es : List Effect) → same_by_rows r s c.prefix old c.row ≡ true → AreEffects before now cs i es → AreEffects before now cs (i + 1) es
  effect_none es same h = record {
    touched = h.touched ∙ ap (map (λ (d : Change). d.prefix)) (sym (kept_more test cs i c false within is (ap not (sym (same_is names v w r s c.prefix old c.row k) ∙ same)) ∙ append-nil (filter test (take i cs))));
    sigs = h.sigs;
    bests = h.bests;
  }

  pub effect_some : (es : List Effect) (e : Effect) → IsEffect r s old c i e → AreEffects before now cs i es → AreEffects before now cs (i + 1) (es ++ e ∷ [])
  effect_some es e f h =
      let here : prefixes_of (es ++ e ∷ []) ≡ prefixes_of es ++ c.prefix ∷ [] = map-append (λ (d : Effect). d.prefix) es (e ∷ []) ∙ ap (λ p. prefixes_of es ++ p ∷ []) f.prefix_is in
      record {
        touched = here ∙ ap (λ ps. ps ++ c.prefix ∷ []) h.touched
            ∙ sym (map-append (λ (d : Change). d.prefix) (filter test (take i cs)) (c ∷ []))
            ∙ ap (map (λ (d : Change). d.prefix)) (sym (kept_more test cs i c true within is (ap not (sym (same_is names v w r s c.prefix old c.row k) ∙ f.differs))));
        sigs = map-append (λ (d : Effect). d.sig.value) es (e ∷ []) ∙ ap (λ xs. xs ++ e.sig.value ∷ []) h.sigs
            ∙ ap (λ x. map (signature now) (prefixes_of es) ++ x ∷ []) (f.sig ∙ new_sig names v w r s c.prefix old c.row k)
            ∙ sym (map-append (signature now) (prefixes_of es) (c.prefix ∷ [])) ∙ ap (map (signature now)) (sym here);
        bests = map-append (effect_bests cs) es (e ∷ []) ∙ ap (λ xs. xs ++ effect_bests cs e ∷ []) h.bests
            ∙ ap (λ x. map bests_at (prefixes_of es) ++ x ∷ []) (ap (λ row. map (place_attrs row) e.bests.items) (ap (row_at cs) f.at_is ∙ row_here cs i c within is) ∙ f.bests ∙ ap (λ x. map (best_by_row s c.prefix c.row) (pids x)) k.after_is ∙ bests_alike (pids now))
            ∙ sym (map-append bests_at (prefixes_of es) (c.prefix ∷ [])) ∙ ap (map bests_at) (sym here);
      }
    where
      bests_at : Prefix → List (Option Attrs)
      bests_at q = map (λ to. best_attrs now to q) (pids now)

      bests_alike : (tos : List Pid) → map (best_by_row s c.prefix c.row) tos ≡ map (λ to. best_attrs now to c.prefix) tos
      bests_alike [] = refl
      bests_alike (to ∷ tos) = ap (λ o. o ∷ map (best_by_row s c.prefix c.row) tos) (new_best names v w r s c.prefix old c.row k to) ∙ ap (λ os. best_attrs now to c.prefix ∷ os) (bests_alike tos)

  pub effect_more : (es fs : List Effect) (o : Option Effect) → IsEffectOf r s old c i o → fs ≡ es ++ option_to_list o → AreEffects before now cs i es → AreEffects before now cs (i + 1) fs
  effect_more es fs None f so h = subst (AreEffects before now cs (i + 1)) (sym (so ∙ append-nil es)) (effect_none es f h)
  effect_more es fs (Some e) f so h = subst (AreEffects before now cs (i + 1)) (sym so) (effect_some es e f h)

-- ---- the touched prefixes

some_fails : {A : Type 0} (f : A → Bool) (xs : List A) → list_all f xs ≡ false → (x : A) × Member x xs × (f x ≡ false)
some_fails f [] e = absurd (true≢false e)
some_fails {A} f (x ∷ xs) e = at_first (f x) refl e (some_fails f xs)
  where
    at_first : (b : Bool) → f x ≡ b → (b && list_all f xs) ≡ false → (list_all f xs ≡ false → (y : A) × Member y xs × (f y ≡ false)) → (y : A) × Member y (x ∷ xs) × (f y ≡ false)
    at_first true t h later = let k = later h in (k.0, inr k.1, k.2)
    at_first false t h later = (x, inl refl, t)

each_passes : {A : Type 0} (f : A → Bool) (xs : List A) (x : A) → list_all f xs ≡ true → Member x xs → f x ≡ true
each_passes f [] x e m = elim m [ ]
each_passes f (y ∷ xs) x e (inl same) = ap f same ∙ (and_parts (f y) (list_all f xs) e).0
each_passes f (y ∷ xs) x e (inr m) = each_passes f xs x (and_parts (f y) (list_all f xs) e).1 m

module _ (r s : Routing) (p : Prefix) where
  abbrev sigs_same : Bool
  sigs_same = same_signature (signature s p) (signature r p)

  abbrev bests_same : Bool
  bests_same = list_all (λ to. same_option same_attrs (best_attrs r to p) (best_attrs s to p)) (pids r)

  differs_from : is_same r s p ≡ false → Differs r s p
  differs_from e = by sigs_same refl e
    where
      by : (b : Bool) → sigs_same ≡ b → (b && bests_same) ≡ false → Differs r s p
      by false t h = inl (λ same. true≢false (sym ((signature_test (signature s p) (signature r p)).1 (sym same)) ∙ t))
      by true t h =
          let k = some_fails (λ to. same_option same_attrs (best_attrs r to p) (best_attrs s to p)) (pids r) h in
          inr (k.0, k.1, λ same. true≢false (sym ((optional_test (best_attrs r k.0 p) (best_attrs s k.0 p)).1 same) ∙ k.2))

  no_difference : is_same r s p ≡ true → Differs r s p → ⊥
  no_difference e (inl d) = d (sym ((signature_test (signature s p) (signature r p)).0 (and_parts sigs_same bests_same e).0))
  no_difference e (inr d) = d.2 ((optional_test (best_attrs r d.0 p) (best_attrs s d.0 p)).0 (each_passes (λ to. same_option same_attrs (best_attrs r to p) (best_attrs s to p)) (pids r) d.0 (and_parts sigs_same bests_same e).1 d.1))

filter_prefixes : (t : Prefix → Bool) (cs : List Change) → map (λ (c : Change). c.prefix) (filter (λ (c : Change). t c.prefix) cs) ≡ filter t (map (λ (c : Change). c.prefix) cs)
filter_prefixes t [] = refl
filter_prefixes t (c ∷ cs) = by (t c.prefix) (filter_prefixes t cs)
  where
    by : (b : Bool) → map (λ (c : Change). c.prefix) (filter (λ (c : Change). t c.prefix) cs) ≡ filter t (map (λ (c : Change). c.prefix) cs) → map (λ (c : Change). c.prefix) (cond b (c ∷ filter (λ (c : Change). t c.prefix) cs) (filter (λ (c : Change). t c.prefix) cs)) ≡ cond b (c.prefix ∷ filter t (map (λ (c : Change). c.prefix) cs)) (filter t (map (λ (c : Change). c.prefix) cs))
    by true e = ap (λ ps. c.prefix ∷ ps) e
    by false e = e

member_or : (t : Prefix → Bool) (ps : List Prefix) (p : Prefix) → t p ≡ true → Member p (filter t ps) ⊎ (Member p ps → ⊥)
member_or t ps p e = by (list_any (eq_by_cmp prefix_cmp p) ps) refl
  where
    by : (b : Bool) → list_any (eq_by_cmp prefix_cmp p) ps ≡ b → Member p (filter t ps) ⊎ (Member p ps → ⊥)
    by true any = inl (Member-filter t ps p (any-member ps p any) e)
    by false any = inr (λ m. true≢false (sym (member-any ps p m) ∙ any))

-- The effects of changes touch exactly the prefixes that differ, where those that have no change don't.
pub touched_are : (r s : Routing) (cs : List Change) (es : List Effect) → AreEffects r s cs (length cs) es → IsRising is_before (map (λ (c : Change). c.prefix) cs) → ((p : Prefix) → (Member p (map (λ (c : Change). c.prefix) cs) → ⊥) → Differs r s p → ⊥) → AreTouched r s (map (λ (e : Effect). e.prefix) es)
touched_are r s cs es f rising elsewhere = subst (AreTouched r s) (sym now) (record {
  each = λ p m. differs_from r s p (not-true (is_same r s p) (filter-Member t own p m).passes);
  all = λ p d. kept p d (is_same r s p) refl;
  ascending = filter-IsRising is_before t own rising;
})
  where
    own : List Prefix
    own = map (λ (c : Change). c.prefix) cs

    t : Prefix → Bool
    t p = not (is_same r s p)

    now : map (λ (e : Effect). e.prefix) es ≡ filter t own
    now = f.touched ∙ ap (λ ds. map (λ (c : Change). c.prefix) (filter (λ (c : Change). t c.prefix) ds)) (take_all (length cs) cs (omega arith)) ∙ filter_prefixes t cs

    among : (p : Prefix) → Differs r s p → (Member p (filter t own) ⊎ (Member p own → ⊥)) → Member p (filter t own)
    among p d (inl m) = m
    among p d (inr away) = absurd (elsewhere p away d)

    kept : (p : Prefix) → Differs r s p → (b : Bool) → is_same r s p ≡ b → Member p (filter t own)
    kept p d true e = absurd (no_difference r s p e d)
    kept p d false e = among p d (member_or t own p (ap not e))

-- effects between routings, as they are called otherwise
pub effects_between : (r before s after : Routing) (cs ds : List Change) (es : List Effect) → r ≡ before → s ≡ after → cs ≡ ds → AreEffects r s cs (length cs) es → AreEffects before after ds (length ds) es
effects_between r before s after cs ds es was then at are =
    subst (λ xs. AreEffects before after xs (length xs) es) at (subst (λ x. AreEffects before x cs (length cs) es) then (subst (λ x. AreEffects x s cs (length cs) es) was are))

-- the effects of all changes make a proposal
pub proposal_is : (names : Registered) (v w : Served) (o : Option (List (List ExportRule))) (n : Option (Pid × List Pid)) (cs : List Change) (es : List Effect) → unwrap_or o v.rules ≡ w.rules → named_with n v.named ≡ w.named → AreRowsOf cs w.routes
    → AreEffects (routing names v) (routing names w) cs (length cs) es → IsRising is_before (map (λ (c : Change). c.prefix) cs)
    → ((q : RouteKey) → (Member q.prefix (map (λ (c : Change). c.prefix) cs) → ⊥) → get w.routes q ≡ get v.routes q) → ((p : Prefix) → (Member p (map (λ (c : Change). c.prefix) cs) → ⊥) → Differs (routing names v) (routing names w) p → ⊥)
    → (AreOwned (routing names v) → AreOwned (routing names w)) → IsProposal (routing names v) (routing names w) (record { changes = cs; rules = o; named = n; touched = map (λ (e : Effect). e.prefix) es; sigs = map (λ (e : Effect). e.sig.value) es; bests = map (effect_bests cs) es })
proposal_is names v w o n cs es own named rows k rising kept elsewhere owned = record {
  touched = touched_are (routing names v) (routing names w) cs es k rising elsewhere;
  sigs = k.sigs;
  bests = k.bests;
  routes = changes_reach w.routes v.routes cs cs refl rows kept;
  rules = own;
  named = named;
  owned = owned;
}
