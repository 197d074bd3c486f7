-- Rising lists of the pairs whose rules go and of those whose rules come are what a reply lists.
use Rattle.std.proofs.Common.{◌≡◌, Bool, true, false, cond, ◌||◌, not, T, List, [], ◌∷◌, map, sym, ap, subst, ◌∙◌, refl, inl, inr}
use Rattle.std.specs.Prelude.{Option, Some, None, is_none, is_some}
use Rattle.std.specs.FinMap.{IsAntisymmetric, contains_key-keys, entries, entries_sorted, find, get, get-entries, is_sorted, keys}
use Rattle.std.specs.FinMap.Entries.{below_all, find-where_key, is_sorted-where_key, same_entries, where_key}
use Rattle.std.specs.List.{list_any}
use Rattle.std.specs.Ordering.{eq_by_cmp, is_lt}
use Rattle.std.specs.declared.cmp.Ordering.{Ordering}
use Rattle.std.proofs.lemmas.Bool.{and_from, and_parts}
use Rattle.net_types.proofs.OrderedLemmas.{any_member, member_any}
use Rattle.events.specs.Fits.{added, dropped, flows_of, none_rebuilt}
use Rattle.events.specs.State.{State}
use Rattle.events.specs.Tags.{is_live_pair}
use Rattle.exchange_laws.proofs.Built.{absent_new}
use Rattle.exchange_laws.proofs.Lists.{clash, key_Member}
use Rattle.exchange_laws.specs.Listed.{AreLiveOnly, AreThose, GoneAreDropped, HasLivePairs, NewAreAdded, comes, goes}
use Rattle.exchange_laws.specs.Rules.{is_new}
use Rattle.net_types.proofs.OrderLemmas.{pairs_total}
use Rattle.net_types.proofs.RisingLemmas.{Member-filter, before, before_itself, before_trans, filter-IsRising, filter-Member, keys-IsRising}
use Rattle.net_types.proofs.SetLemmas.{rising_unique, union-map}
use Rattle.net_types.proofs.TieLemmas.{pair_cmp-IsAntisymmetric, same_from_tie, pair_tie}
use Rattle.net_types.specs.Keys.{pair_cmp}
use Rattle.net_types.specs.Sets.{IsRising, Member, union_over}
use Rattle.net_types.specs.declared.rule.Pair.{Pair}
use Rattle.net_types.specs.declared.rule.Rule.{Rule}

dead : (b : Bool) → (not b || false) ≡ true → b ≡ false
dead true e = absurd (cc)
dead false e = refl

-- ---- the pairs whose rules go

pub gone_are_dropped : GoneAreDropped
gone_are_dropped s s1 is_rebuilt ks has has1 are = rising_unique (before pair_cmp) (before_itself pair_cmp pairs_total) (before_trans pair_cmp pairs_total) (dropped s s1 is_rebuilt) ks
    (filter-IsRising (before pair_cmp) (λ pair. is_none (get s1.table pair) || is_rebuilt pair) (keys s.table) (keys-IsRising pair_cmp s.table)) are.rising (record {
      onto = λ pair m.
          let left = filter-Member (λ k. is_none (get s1.table k) || is_rebuilt k) (keys s.table) pair m in
          are.all pair (and_from (is_live_pair s pair) (is_new s1 is_rebuilt pair) (sym (has pair) ∙ contains_key-keys s.table pair ∙ member_any pair_cmp pairs_total pair_tie pair (keys s.table) left.stands)
          (sym (absent_new s1 is_rebuilt has1 pair) ∙ left.passes));
      back = λ pair m.
          let each = and_parts (is_live_pair s pair) (is_new s1 is_rebuilt pair) (are.each pair m) in
          Member-filter (λ k. is_none (get s1.table k) || is_rebuilt k) (keys s.table) pair (key_Member pair_cmp pairs_total pair_tie s.table pair (has pair ∙ each.0)) (absent_new s1 is_rebuilt has1 pair ∙ each.1);
    })

-- where no pair is built anew, the rules go of those that are live no more
pub those_gone : (s s1 : State) (ks : List Pair) → AreLiveOnly s s1 ks → AreThose (goes s s1 none_rebuilt) ks
those_gone s s1 ks are = record {
  rising = are.rising;
  each = λ pair m. let each = are.each pair m in and_from (is_live_pair s pair) (not (is_live_pair s1 pair) || false) each.0 (ap (λ b. not b || false) each.1);
  all = λ pair e. let parts = and_parts (is_live_pair s pair) (not (is_live_pair s1 pair) || false) e in are.all pair parts.0 (dead (is_live_pair s1 pair) parts.1);
}

-- and those of the pairs come that become live
pub those_come : (s s1 : State) (ks : List Pair) → AreLiveOnly s1 s ks → AreThose (comes s s1 none_rebuilt) ks
those_come s s1 ks are = record {
  rising = are.rising;
  each = λ pair m. let each = are.each pair m in and_from (is_live_pair s1 pair) (not (is_live_pair s pair) || false) each.0 (ap (λ b. not b || false) each.1);
  all = λ pair e. let parts = and_parts (is_live_pair s1 pair) (not (is_live_pair s pair) || false) e in are.all pair parts.0 (dead (is_live_pair s pair) parts.1);
}

-- ---- entries of rising keys

module _ {K X : Type 0} (R : K → K → Ordering) (f : K → X) where
  below_listed : (x : K) (ks : List K) → ((y : K) → Member y ks → before R x y ≡ true) → below_all R x (map (λ k. let e : K × X = (k, f k) in e) ks) ≡ true
  below_listed x [] all = refl
  below_listed x (k ∷ ks) all = and_from (is_lt (R x k)) (below_all R x (map (λ y. let e : K × X = (y, f y) in e) ks)) (all k (inl refl)) (below_listed x ks (λ y m. all y (inr m)))

  sorted_listed : (ks : List K) → IsRising (before R) ks → is_sorted R (map (λ k. let e : K × X = (k, f k) in e) ks) ≡ true
  sorted_listed [] rises = refl
  sorted_listed (k ∷ ks) rises = and_from (below_all R k (map (λ y. let e : K × X = (y, f y) in e) ks)) (is_sorted R (map (λ y. let e : K × X = (y, f y) in e) ks)) (below_listed k ks rises.0) (sorted_listed ks rises.1)

  find_listed : IsAntisymmetric R → (ks : List K) (q : K) → find R q (map (λ k. let e : K × X = (k, f k) in e) ks) ≡ cond (list_any (eq_by_cmp R q) ks) (Some (f q)) None
  find_listed same [] q = refl
  find_listed same (k ∷ ks) q = by (eq_by_cmp R q k) refl (find_listed same ks q)
    where
      by : (b : Bool) → eq_by_cmp R q k ≡ b → find R q (map (λ y. let e : K × X = (y, f y) in e) ks) ≡ cond (list_any (eq_by_cmp R q) ks) (Some (f q)) None
          → cond b (Some (f k)) (find R q (map (λ y. let e : K × X = (y, f y) in e) ks)) ≡ cond (b || list_any (eq_by_cmp R q) ks) (Some (f q)) None
      by true is later = ap (λ x. Some (f x)) (sym (same_from_tie R same q k is))
      by false is later = later

-- ---- the pairs whose rules come

module _ (s s1 : State) (is_rebuilt : Pair → Bool) (ks : List Pair) (rules : Pair → List Rule) (has : HasLivePairs s) (has1 : HasLivePairs s1) (are : AreThose (comes s s1 is_rebuilt) ks)
    (those : (pair : Pair) → Member pair ks → get s1.table pair ≡ Some (rules pair)) where
  abbrev is_added : Pair → Bool
  is_added k = is_none (get s.table k) || is_rebuilt k

  new_at : (q : Pair) → cond (is_added q) (get s1.table q) None ≡ cond (list_any (eq_by_cmp pair_cmp q) ks) (Some (rules q)) None
  new_at q = by (list_any (eq_by_cmp pair_cmp q) ks) refl
    where
      nothing : (b : Bool) (o : Option (List Rule)) → is_added q ≡ b → get s1.table q ≡ o → (Member q ks → ⊥) → cond b o None ≡ None
      nothing true None new at other = refl
      nothing true (Some x) new at other =
          absurd (other (are.all q (and_from (is_live_pair s1 q) (is_new s is_rebuilt q) (sym (has1 q) ∙ ap is_some at) (sym (absent_new s is_rebuilt has q) ∙ new))))
      nothing false o new at other = refl

      by : (b : Bool) → list_any (eq_by_cmp pair_cmp q) ks ≡ b → cond (is_added q) (get s1.table q) None ≡ cond b (Some (rules q)) None
      by true is =
          let m : Member q ks = any_member pair_cmp pairs_total pair_tie q ks is in
          let new = and_parts (is_live_pair s1 q) (is_new s is_rebuilt q) (are.each q m) in
          ap (λ b. cond b (get s1.table q) None) (absent_new s is_rebuilt has q ∙ new.1) ∙ those q m
      by false is = nothing (is_added q) (get s1.table q) refl refl (λ m. clash (member_any pair_cmp pairs_total pair_tie q ks m) is)

  new_entries : where_key pair_cmp is_added (entries s1.table) ≡ map (λ pair. let e : Pair × List Rule = (pair, rules pair) in e) ks
  new_entries = same_entries pair_cmp pairs_total pair_cmp-IsAntisymmetric (where_key pair_cmp is_added (entries s1.table)) (map (λ pair. let e : Pair × List Rule = (pair, rules pair) in e) ks)
      (is_sorted-where_key pair_cmp is_added (entries s1.table) (entries_sorted s1.table)) (subst T (sym (sorted_listed pair_cmp rules ks are.rising)) tt) (λ q.
      find-where_key pair_cmp is_added q (λ x e. ap is_added (sym (pair_cmp-IsAntisymmetric q x e))) (entries s1.table)
      ∙ ap (λ o. cond (is_added q) o None) (sym (get-entries s1.table q))
      ∙ new_at q ∙ sym (find_listed pair_cmp rules pair_cmp-IsAntisymmetric ks q))

  pub come : added s s1 is_rebuilt ≡ union_over (λ pair. flows_of (pair, rules pair)) ks
  come = ap (union_over flows_of) new_entries ∙ union-map flows_of (λ pair. let e : Pair × List Rule = (pair, rules pair) in e) ks

pub new_are_added : NewAreAdded
new_are_added s s1 is_rebuilt ks rules has has1 are those = come s s1 is_rebuilt ks rules has has1 are those
