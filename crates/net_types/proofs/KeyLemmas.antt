-- The keys of a map that pass a test, where one alone does.
use Rattle.std.proofs.Common.{◌≡◌, Bool, true, false, cond, List, [], ◌∷◌, map, filter, sym, ap, ◌∙◌, refl}
use Rattle.std.specs.Prelude.{Some, None}
use Rattle.std.specs.Ordering.{eq_by_cmp}
use Rattle.std.specs.FinMap.{FinMap, get, keys, entries, entries_sorted, get-entries, find, IsAntisymmetric}
use Rattle.std.specs.FinMap.Entries.{where_key, is_sorted-where_key, find-where_key, find_tied, same_entries}
use Rattle.std.specs.Cmp.{IsTotalOrder}
use Rattle.std.specs.declared.cmp.Ordering.{Ordering}
use Rattle.std.specs.declared.cmp.Ordering.TheVariants.{Equal}
use Rattle.std.proofs.lemmas.Bool.{false_from_ne_true, false≢true}
use Rattle.net_types.proofs.TieLemmas.{tie_Equal}

filter_key : {K X : Type 0} (R : K → K → Ordering) (test : K → Bool) (e : K × X) (es : List (K × X)) (b : Bool) → filter test (map (λ (d : K × X). d.0) es) ≡ map (λ d. d.0) (where_key R test es) → cond b (e.0 ∷ filter test (map (λ d. d.0) es)) (filter test (map (λ d. d.0) es)) ≡ map (λ d. d.0) (cond b (e ∷ where_key R test es) (where_key R test es))
filter_key R test e es true h = ap (λ ks. e.0 ∷ ks) h
filter_key R test e es false h = h

filter_keys : {K X : Type 0} (R : K → K → Ordering) (test : K → Bool) (es : List (K × X)) → filter test (map (λ e. e.0) es) ≡ map (λ e. e.0) (where_key R test es)
filter_keys R test [] = refl
filter_keys {K} {X} R test (e ∷ es) = filter_key R test e es (test e.0) (filter_keys R test es)

same_find : {K X : Type 0} (R : K → K → Ordering) → IsTotalOrder R → (test : K → Bool) (es : List (K × X)) (p q : K) (v : X) → ((a x : K) → R a x ≡ Equal → test x ≡ test a) → find R p es ≡ Some v → test p ≡ true → (test q ≡ true → eq_by_cmp R q p ≡ true)
    → (tied : Bool) → eq_by_cmp R q p ≡ tied → cond (test q) (find R q es) None ≡ cond tied (Some v) None
same_find R o test es p q v alike there passes only true is =
    let e : R q p ≡ Equal = tie_Equal (R q p) is in
    ap (λ b. cond b (find R q es) None) (sym (alike q p e) ∙ passes) ∙ sym (find_tied R o q p e es) ∙ there
same_find R o test es p q v alike there passes only false is =
    ap (λ b. cond b (find R q es) None) (false_from_ne_true (test q) (λ t. false≢true (sym is ∙ only t)))

-- one key alone passes
pub filter_keys_one : {K X : Type 0} (R : K → K → Ordering) → IsTotalOrder R → IsAntisymmetric R → (test : K → Bool) → ((a x : K) → R a x ≡ Equal → test x ≡ test a) → (m : FinMap R X) (p : K) (v : X) → get m p ≡ Some v → test p ≡ true → ((q : K) → test q ≡ true → eq_by_cmp R q p ≡ true) → filter test (keys m) ≡ p ∷ []
filter_keys_one {K} {X} R o same test alike m p v there passes only =
    let es : List (K × X) = entries m in
    filter_keys R test es
    ∙ ap (map (λ e. e.0)) (same_entries R o same (where_key R test es) ((p, v) ∷ []) (is_sorted-where_key R test es (entries_sorted m)) tt
    (λ q. find-where_key R test q (λ x t. alike q x t) es ∙ same_find R o test es p q v alike (sym (get-entries m p) ∙ there) passes (only q) (eq_by_cmp R q p) refl))
