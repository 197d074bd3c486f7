-- The prefixes for which a participant has a best route.
use Rattle.std.proofs.Common.{◌≡◌, ℕ, ◌+◌, ◌<◌, Bool, true, false, cond, Option, Some, None, List, [], ◌∷◌, ◌++◌, map, take, get_or, length, sym, ap, subst, ◌∙◌, refl, inl, inr, true≢false}
use Rattle.std.specs.Prelude.{option_to_list}
use Rattle.std.specs.List.{filter_map, cons_option, list_any}
use Rattle.std.specs.Option.{option_map, option_and_then}
use Rattle.std.specs.Ordering.{eq_by_cmp}
use Rattle.std.specs.FinMap.{get}
use Rattle.std.proofs.lemmas.List.{take_more}
use Rattle.std.proofs.lemmas.List.Elements.{filter_map-append}
use Rattle.net_types.proofs.FindLemmas.{filter_map_none, not_there, nothing}
use Rattle.net_types.proofs.LongestLemmas.{any-member, member-any}
use Rattle.net_types.specs.Changes.{best_attrs}
use Rattle.net_types.specs.Exports.{Routing, is_given}
use Rattle.net_types.specs.Keys.{prefix_cmp}
use Rattle.net_types.specs.Routes.{Candidate, best_of, candidate, given, pids}
use Rattle.net_types.specs.Sets.{Member, IsRising}
use Rattle.net_types.specs.UpdateSpelling.{is_before}
use Rattle.net_types.specs.declared.address.Pid.{Pid}
use Rattle.net_types.specs.declared.prefix.Prefix.{Prefix}
use Rattle.net_types.specs.declared.route.Attrs.{Attrs}
use Rattle.route_server.specs.Served.{AreAll, AreBests}

-- ---- the entries of prefixes that have a value

abbrev entry_by : Prefix → Option Attrs → Option (Prefix × Attrs)
entry_by p o = option_map (λ (a : Attrs). let e : Prefix × Attrs = (p, a) in e) o

abbrev firsts : List (Prefix × Attrs) → List Prefix
firsts es = map (λ (e : Prefix × Attrs). e.0) es

module _ (g : Prefix → Option Attrs) where
  abbrev pub entries_by : List Prefix → List (Prefix × Attrs)
  entries_by ps = filter_map (λ p. entry_by p (g p)) ps

  first_from : (ps : List Prefix) (p : Prefix) → Member p (firsts (entries_by ps)) → Member p ps
  first_from [] p m = elim m [ ]
  first_from (x ∷ ps) p m = by (g x) m (first_from ps p)
    where
      by : (o : Option Attrs) → Member p (firsts (cons_option (entry_by x o) (entries_by ps))) → (Member p (firsts (entries_by ps)) → Member p ps) → Member p (x ∷ ps)
      by None k later = inr (later k)
      by (Some a) (inl e) later = inl e
      by (Some a) (inr k) later = inr (later k)

  rise : (ps : List Prefix) → IsRising is_before ps → IsRising is_before (firsts (entries_by ps))
  rise [] r = tt
  rise (x ∷ ps) r = by (g x) (rise ps r.1)
    where
      by : (o : Option Attrs) → IsRising is_before (firsts (entries_by ps)) → IsRising is_before (firsts (cons_option (entry_by x o) (entries_by ps)))
      by None later = later
      by (Some a) later = (λ y m. r.0 y (first_from ps y m), later)

  from : (ps : List Prefix) (p : Prefix) (a : Attrs) → Member (p, a) (entries_by ps) → g p ≡ Some a
  from [] p a m = elim m [ ]
  from (x ∷ ps) p a m = by (g x) refl m (from ps p a)
    where
      by : (o : Option Attrs) → g x ≡ o → Member (p, a) (cons_option (entry_by x o) (entries_by ps)) → (Member (p, a) (entries_by ps) → g p ≡ Some a) → g p ≡ Some a
      by None e k later = later k
      by (Some b) e (inl is) later = ap (λ (k : Prefix × Attrs). g k.0) is ∙ e ∙ ap (λ (k : Prefix × Attrs). Some k.1) (sym is)
      by (Some b) e (inr k) later = later k

  into : (ps : List Prefix) (p : Prefix) (a : Attrs) → Member p ps → g p ≡ Some a → Member (p, a) (entries_by ps)
  into [] p a m e = elim m [ ]
  into (x ∷ ps) p a (inl is) e = subst (λ o. Member (p, a) (cons_option (entry_by x o) (entries_by ps))) (sym (ap g (sym is) ∙ e)) (inl (λ i. (is i, a)))
  into (x ∷ ps) p a (inr m) e = by (g x) (into ps p a m e)
    where
      by : (o : Option Attrs) → Member (p, a) (entries_by ps) → Member (p, a) (cons_option (entry_by x o) (entries_by ps))
      by None k = k
      by (Some b) k = inr k

  -- one prefix more
  pub entries_step : (ps : List Prefix) (i : ℕ) (x : Prefix) (o : Option Attrs) (es fs : List (Prefix × Attrs)) → i < length ps → x ≡ get_or ps i x → g x ≡ o → es ≡ entries_by (take i ps) → fs ≡ es ++ option_to_list (entry_by x o) → fs ≡ entries_by (take (i + 1) ps)
  entries_step ps i x o es fs within is at old now =
      now ∙ ap (λ xs. xs ++ option_to_list (entry_by x o)) old
      ∙ sym (ap entries_by (take_more ps i x within ∙ ap (λ d. take i ps ++ d ∷ []) (sym is)) ∙ filter_map-append (λ p. entry_by p (g p)) (take i ps) (x ∷ [])
      ∙ ap (λ u. entries_by (take i ps) ++ cons_option (entry_by x u) []) at ∙ alone o)
    where
      alone : (u : Option Attrs) → entries_by (take i ps) ++ cons_option (entry_by x u) [] ≡ entries_by (take i ps) ++ option_to_list (entry_by x u)
      alone None = refl
      alone (Some a) = refl

-- ---- best routes

-- without routes nothing is best
no_best : (r : Routing) (to : Pid) (p : Prefix) → ((f : Pid) → get r.routes (record { from = f; prefix = p }) ≡ None) → best_attrs r to p ≡ None
no_best r to p h = ap (λ cs. option_map (λ (c : Candidate). c.attrs) (best_of cs)) (filter_map_none (given r to p) (pids r) (λ f.
    ap (option_and_then (λ (attrs : Attrs). cond (is_given r f to p attrs) (Some (candidate r f attrs)) None)) (h f)))

pub bests_are : (r : Routing) (who : Pid) (ps : List Prefix) (es : List (Prefix × Attrs)) → AreAll r.routes ps → es ≡ entries_by (best_attrs r who) ps → AreBests r who es
bests_are r who ps es are is = subst (AreBests r who) (sym is) (record {
  rising = rise (best_attrs r who) ps are.rising;
  each = λ p a m. from (best_attrs r who) ps p a m;
  all = λ p a e. by p a e (list_any (eq_by_cmp prefix_cmp p) ps) refl;
})
  where
    by : (p : Prefix) (a : Attrs) → best_attrs r who p ≡ Some a → (b : Bool) → list_any (eq_by_cmp prefix_cmp p) ps ≡ b → Member (p, a) (entries_by (best_attrs r who) ps)
    by p a e true t = into (best_attrs r who) ps p a (any-member ps p t) e
    by p a e false t = absurd (not_there (best_attrs r who p) a (no_best r who p (λ f. nothing _ (λ there. true≢false (sym (member-any ps p (are.all (record { from = f; prefix = p }) there)) ∙ t)))) e)
