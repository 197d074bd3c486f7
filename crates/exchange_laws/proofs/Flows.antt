-- Pairs that are taken out of a table, and rules that are put in.
use Rattle.std.proofs.Common.{◌≡◌, Bool, true, false, cond, ◌&&◌, ◌||◌, List, [], ◌∷◌, ◌++◌, map, sym, ap, ◌∙◌, refl, append_assoc}
use Rattle.std.specs.Prelude.{Option, Some, None, is_none, is_some, unwrap_or}
use Rattle.std.specs.FinMap.{contains_key-keys, entries, entries_sorted, find, get, get-entries, get-insert, get-remove, is_sorted, keys, remove, same_map}
use Rattle.std.specs.FinMap.Entries.{below_all, find-where_key, is_sorted-where_key, where_key}
use Rattle.std.specs.List.{list_any}
use Rattle.std.specs.Option.{option_map_or}
use Rattle.std.specs.Ordering.{eq_by_cmp}
use Rattle.std.proofs.lemmas.Bool.{or_right}
use Rattle.std.proofs.lemmas.Map.Views.{any-filter_same}
use Rattle.std.proofs.Common.{T}
use Rattle.events.specs.After.{put_flow, put_flows, without_pairs}
use Rattle.events.specs.Fits.{added, dropped, flows_of}
use Rattle.events.specs.State.{State}
use Rattle.events.specs.declared.Flow.{Flow}
use Rattle.exchange_laws.proofs.Lists.{TableOf, clash}
use Rattle.exchange_laws.specs.Replies.{IsBuiltOn, RepliesBuildTables}
use Rattle.net_types.proofs.FindLemmas.{cond_same}
use Rattle.net_types.proofs.OrderLemmas.{pairs_total}
use Rattle.net_types.proofs.TestLemmas.{both_hold}
use Rattle.net_types.proofs.TieLemmas.{pair_cmp-IsAntisymmetric, pair_tie, ties_itself}
use Rattle.net_types.proofs.ValueLemmas.{later_apart}
use Rattle.net_types.specs.Keys.{pair_cmp}
use Rattle.net_types.specs.Sets.{union_over}
use Rattle.net_types.specs.declared.rule.Pair.{Pair}
use Rattle.net_types.specs.declared.rule.Rule.{Rule}

abbrev is_at : Pair → Pair → Bool
is_at q k = eq_by_cmp pair_cmp q k

-- ---- pairs that are taken out

either_out : {A : Type 0} (a b : Bool) (o : Option A) → cond a None (cond b None o) ≡ cond (b || a) None o
either_out true true o = refl
either_out true false o = refl
either_out false b o = by b
  where
    by : (c : Bool) → cond c None o ≡ cond (c || false) None o
    by true = refl
    by false = refl

get_without : (t : TableOf) (ds : List Pair) (q : Pair) → get (without_pairs t ds) q ≡ cond (list_any (is_at q) ds) None (get t q)
get_without t [] q = refl
get_without t (d ∷ ds) q =
    get_without (remove t d) ds q ∙ ap (cond (list_any (is_at q) ds) None) (get-remove pairs_total t d q)
    ∙ either_out (list_any (is_at q) ds) (is_at q d) (get t q)

-- a pair goes that has no rules any more, and one that is built anew
pub get_undropped : (s s1 : State) (is_rebuilt : Pair → Bool) (q : Pair)
    → get (without_pairs s.table (dropped s s1 is_rebuilt)) q ≡ cond ((is_none (get s1.table q) || is_rebuilt q) && is_some (get s.table q)) None (get s.table q)
get_undropped s s1 is_rebuilt q =
    let goes : Pair → Bool = λ k. is_none (get s1.table k) || is_rebuilt k in
    get_without s.table (dropped s s1 is_rebuilt) q
    ∙ ap (λ b. cond b None (get s.table q))
    (any-filter_same (is_at q) goes (goes q) (λ x e. ap goes (sym (pair_tie q x e))) (keys s.table)
    ∙ ap (λ b. goes q && b) (sym (contains_key-keys s.table q)))

-- ---- rules that are put in

flows_append : (t : TableOf) (fs gs : List Flow) → put_flows t (fs ++ gs) ≡ put_flows (put_flows t fs) gs
flows_append t [] gs = refl
flows_append t (f ∷ fs) gs = flows_append (put_flow t f) fs gs

-- the rules of one pair
abbrev block : Pair → List Rule → List Flow
block k rules = map (λ rule. let f : Flow = record { pair = k; rule = rule } in f) rules

shadowed : {A : Type 0} (b : Bool) (x y z : A) → cond b x (cond b y z) ≡ cond b x z
shadowed true x y z = refl
shadowed false x y z = refl

get_put : (t : TableOf) (k : Pair) (rule : Rule) (q : Pair) → get (put_flow t (record { pair = k; rule = rule })) q ≡ cond (is_at q k) (Some (unwrap_or (get t k) [] ++ rule ∷ [])) (get t q)
get_put t k rule q = get-insert pairs_total t k (unwrap_or (get t k) [] ++ rule ∷ []) q

get_block : (t : TableOf) (k : Pair) (rule : Rule) (rules : List Rule) (q : Pair) → get (put_flows t (block k (rule ∷ rules))) q ≡ cond (is_at q k) (Some (unwrap_or (get t k) [] ++ rule ∷ rules)) (get t q)
get_block t k rule [] q = get_put t k rule q
get_block t k rule (more ∷ rules) q =
    let t1 : TableOf = put_flow t (record { pair = k; rule = rule }) in
    let before : List Rule = unwrap_or (get t k) [] in
    let here : get t1 k ≡ Some (before ++ rule ∷ []) = get_put t k rule k ∙ ap (λ b. cond b (Some (before ++ rule ∷ [])) (get t k)) (ties_itself pairs_total k) in
    get_block t1 k more rules q
    ∙ ap (λ o. cond (is_at q k) (Some (unwrap_or o [] ++ more ∷ rules)) (get t1 q)) here
    ∙ ap (λ (rs : List Rule). cond (is_at q k) (Some rs) (get t1 q)) (append_assoc before (rule ∷ []) (more ∷ rules))
    ∙ ap (cond (is_at q k) (Some (before ++ rule ∷ more ∷ rules))) (get_put t k rule q)
    ∙ shadowed (is_at q k) (Some (before ++ rule ∷ more ∷ rules)) (Some (before ++ rule ∷ [])) (get t q)

-- a pair without rules gets some
new_block : (t : TableOf) (k : Pair) (rules : List Rule) → get t k ≡ None → (rules ≡ [] → ⊥) → (q : Pair) → get (put_flows t (block k rules)) q ≡ cond (is_at q k) (Some rules) (get t q)
new_block t k [] none some q = absurd (some refl)
new_block t k (rule ∷ rules) none some q = get_block t k rule rules q ∙ ap (λ o. cond (is_at q k) (Some (unwrap_or o [] ++ rule ∷ rules)) (get t q)) none

-- what entries put in: pairs that had no rules get those of their entries, and the others keep theirs
get_blocks : (es : List (Pair × List Rule)) → T (is_sorted pair_cmp es) → (t : TableOf) → ((k : Pair) (rules : List Rule) → find pair_cmp k es ≡ Some rules → (get t k ≡ None) × (rules ≡ [] → ⊥)) → (q : Pair)
    → get (put_flows t (union_over flows_of es)) q ≡ option_map_or (λ x. Some x) (find pair_cmp q es) (get t q)
get_blocks [] sorted t new q = refl
get_blocks (e ∷ es) sorted t new q =
    let sorts = both_hold (below_all pair_cmp e.0 es) (is_sorted pair_cmp es) sorted in
    let t1 : TableOf = put_flows t (block e.0 e.1) in
    let first = new e.0 e.1 (ap (λ b. cond b (Some e.1) (find pair_cmp e.0 es)) (ties_itself pairs_total e.0)) in
    let here : (k : Pair) → get t1 k ≡ cond (is_at k e.0) (Some e.1) (get t k) = new_block t e.0 e.1 first.0 first.1 in
    let other : (k : Pair) (rules : List Rule) → find pair_cmp k es ≡ Some rules → is_at k e.0 ≡ false = λ k rules is. later_apart pair_cmp pairs_total e.0 k rules es sorts.0 is in
    flows_append_get e es q
    ∙ get_blocks es sorts.1 t1 (λ k rules is.
    let later = new k rules (ap (λ b. cond b (Some e.1) (find pair_cmp k es)) (other k rules is) ∙ is) in
    (here k ∙ ap (λ b. cond b (Some e.1) (get t k)) (other k rules is) ∙ later.0, later.1)) q
    ∙ ap (option_map_or (λ x. Some x) (find pair_cmp q es)) (here q)
    ∙ choose (is_at q e.0) (find pair_cmp q es) refl (other q)
  where
    flows_append_get : (d : Pair × List Rule) (ds : List (Pair × List Rule)) (k : Pair) → get (put_flows t (union_over flows_of (d ∷ ds))) k ≡ get (put_flows (put_flows t (block d.0 d.1)) (union_over flows_of ds)) k
    flows_append_get d ds k = ap (λ x. get x k) (flows_append t (block d.0 d.1) (union_over flows_of ds))

    choose : (b : Bool) (o : Option (List Rule)) → find pair_cmp q es ≡ o → ((rules : List Rule) → o ≡ Some rules → b ≡ false) → option_map_or (λ x. Some x) o (cond b (Some e.1) (get t q)) ≡ option_map_or (λ x. Some x) (cond b (Some e.1) o) (get t q)
    choose true None is other = refl
    choose true (Some x) is other = absurd (clash refl (other x refl))
    choose false o is other = refl

-- ---- the table of a reply

none_left : (b : Bool) (o o1 : Option (List Rule)) → (is_none o || b) ≡ true → cond ((is_none o1 || b) && is_some o) None o ≡ None
none_left b None o1 e = cond_same ((is_none o1 || b) && false) None
none_left b (Some x) o1 e = ap (λ c. cond (c && true) None (Some x)) (or_right (is_none o1) b e)

whole : (b : Bool) (o o1 : Option (List Rule)) → ((old new : List Rule) → b ≡ false → o ≡ Some old → o1 ≡ Some new → old ≡ new)
    → option_map_or (λ x. Some x) (cond (is_none o || b) o1 None) (cond ((is_none o1 || b) && is_some o) None o) ≡ o1
whole true None None stays = refl
whole true None (Some y) stays = refl
whole true (Some x) None stays = refl
whole true (Some x) (Some y) stays = refl
whole false None None stays = refl
whole false None (Some y) stays = refl
whole false (Some x) None stays = refl
whole false (Some x) (Some y) stays = ap Some (stays x y refl refl refl)

module _ (s s1 : State) (is_rebuilt : Pair → Bool) (on : IsBuiltOn s s1 is_rebuilt) where
  abbrev is_new : Pair → Bool
  is_new k = is_none (get s.table k) || is_rebuilt k

  abbrev new_entries : List (Pair × List Rule)
  new_entries = where_key pair_cmp is_new (entries s1.table)

  abbrev left : TableOf
  left = without_pairs s.table (dropped s s1 is_rebuilt)

  found : (k : Pair) → find pair_cmp k new_entries ≡ cond (is_new k) (get s1.table k) None
  found k = find-where_key pair_cmp is_new k (λ x e. ap is_new (sym (pair_cmp-IsAntisymmetric k x e))) (entries s1.table) ∙ ap (λ o. cond (is_new k) o None) (sym (get-entries s1.table k))

  fresh : (k : Pair) (rules : List Rule) → find pair_cmp k new_entries ≡ Some rules → (get left k ≡ None) × (rules ≡ [] → ⊥)
  fresh k rules is = by (is_new k) (get s1.table k) refl refl (sym (found k) ∙ is)
    where
      by : (b : Bool) (o : Option (List Rule)) → is_new k ≡ b → get s1.table k ≡ o → cond b o None ≡ Some rules → (get left k ≡ None) × (rules ≡ [] → ⊥)
      by true o new at e = (get_undropped s s1 is_rebuilt k ∙ none_left (is_rebuilt k) (get s.table k) (get s1.table k) new, λ empty. on.some k new (at ∙ e ∙ ap Some empty))
      by false o new at e = absurd (cc)

  pub built : put_flows left (added s s1 is_rebuilt) ≡ s1.table
  built = same_map pairs_total pair_cmp-IsAntisymmetric (put_flows left (added s s1 is_rebuilt)) s1.table (λ q.
      get_blocks new_entries (is_sorted-where_key pair_cmp is_new (entries s1.table) (entries_sorted s1.table)) left fresh q
      ∙ ap (λ o. option_map_or (λ x. Some x) o (get left q)) (found q)
      ∙ ap (option_map_or (λ x. Some x) (cond (is_new q) (get s1.table q) None)) (get_undropped s s1 is_rebuilt q)
      ∙ whole (is_rebuilt q) (get s.table q) (get s1.table q) (on.stays q))

pub replies_build_tables : RepliesBuildTables
replies_build_tables s s1 is_rebuilt on = built s s1 is_rebuilt on
