-- Loops that take the items of a list one by one.
use Rattle.std.proofs.Common.{◌≡◌, ◌&&◌, Bool, true, ℕ, ◌+◌, ◌<◌, List, [], ◌∷◌, ◌++◌, map, drop, length, get_or, ap, sym, ◌∙◌, append_assoc}
use Rattle.std.proofs.lemmas.List.{drop_more, get_or_default, map-append}
use Rattle.std.specs.Cmp.Lexicographic.{pointwise}
use Rattle.net_types.specs.Sets.{union_over}

-- what was put so far and what is left make the whole
pub one_taken : {A B : Type 0} (f : A → List B) (xs : List A) (i : ℕ) (x : A) (before after whole : List B)
    → i < length xs → x ≡ get_or xs i x → before ++ union_over f (drop i xs) ≡ whole → after ≡ before ++ f x → after ++ union_over f (drop (i + 1) xs) ≡ whole
one_taken {A = A} {B = B} f xs i x before after whole less is left put =
    ap (λ (l : List B). l ++ union_over f (drop (i + 1) xs)) put
    ∙ append_assoc before (f x) (union_over f (drop (i + 1) xs))
    ∙ ap (λ (l : List A). before ++ union_over f l) (ap (λ (y : A). y ∷ drop (i + 1) xs) is ∙ sym (drop_more xs i x less))
    ∙ left

-- the same, where the item is told by its place
pub one_taken_at : {A B : Type 0} (f : A → List B) (xs : List A) (i : ℕ) (d : A) (before after whole : List B)
    → i < length xs → before ++ union_over f (drop i xs) ≡ whole → after ≡ before ++ f (get_or xs i d) → after ++ union_over f (drop (i + 1) xs) ≡ whole
one_taken_at f xs i d before after whole less left put = one_taken f xs i (get_or xs i d) before after whole less (get_or_default xs i d (get_or xs i d) less) left put

-- one more is made of one more
pub one_made : {A B : Type 0} (f : A → B) (taken : List A) (x : A) (before after : List B) → before ≡ map f taken → after ≡ before ++ f x ∷ [] → after ≡ map f (taken ++ x ∷ [])
one_made {B = B} f taken x before after made put = put ∙ ap (λ (l : List B). l ++ f x ∷ []) made ∙ sym (map-append f taken (x ∷ []))

-- where two items at one place agree, what is behind them decides
pub pair_agrees : {A : Type 0} (test : A → A → Bool) (xs ys : List A) (i : ℕ) (x y : A) → i < length xs → i < length ys → x ≡ get_or xs i x → y ≡ get_or ys i y → test x y ≡ true
    → pointwise test (drop (i + 1) xs) (drop (i + 1) ys) ≡ pointwise test (drop i xs) (drop i ys)
pair_agrees {A = A} test xs ys i x y less there is same e =
    let left : drop i xs ≡ x ∷ drop (i + 1) xs = drop_more xs i x less ∙ ap (λ (z : A). z ∷ drop (i + 1) xs) (sym is) in
    let right : drop i ys ≡ y ∷ drop (i + 1) ys = drop_more ys i y there ∙ ap (λ (z : A). z ∷ drop (i + 1) ys) (sym same) in
    sym ((λ k. pointwise test (left k) (right k)) ∙ ap (λ (b : Bool). b && pointwise test (drop (i + 1) xs) (drop (i + 1) ys)) e)
