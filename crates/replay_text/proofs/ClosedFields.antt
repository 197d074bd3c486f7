-- Fields that are written from the last one on.
use Rattle.std.proofs.Common.{◌≡◌, ◌≢◌, ℕ, List, [], ◌∷◌, ◌++◌, refl, sym, ap, ◌∙◌, append_assoc, codes, arith}
use Rattle.events.specs.Text.{joined, in_brackets}
use Rattle.replay_text.specs.Fields.{closed, next_close}

pub next_close-append : (close : ℕ) (xs ys : List (List ℕ)) → next_close close (xs ++ ys) ≡ next_close (next_close close ys) xs
next_close-append close [] ys = refl
next_close-append close (x ∷ xs) ys = refl

pub closed-append : (close : ℕ) (xs ys : List (List ℕ)) → closed close (xs ++ ys) ≡ closed (next_close close ys) xs ++ closed close ys
closed-append close [] ys = refl
closed-append close (x ∷ xs) ys =
    ap (λ n. x ++ (n ∷ closed close (xs ++ ys))) (next_close-append close xs ys)
    ∙ ap (λ l. x ++ (next_close (next_close close ys) xs ∷ l)) (closed-append close xs ys)
    ∙ sym (append_assoc x (next_close (next_close close ys) xs ∷ closed (next_close close ys) xs) (closed close ys))

joined-closed : (x : List ℕ) (xs : List (List ℕ)) → joined (codes ",") (x ∷ xs) ++ codes "]" ≡ closed 93 (x ∷ xs)
joined-closed x [] = refl
joined-closed x (y ∷ xs) =
    append_assoc (x ++ codes ",") (joined (codes ",") (y ∷ xs)) (codes "]")
    ∙ ap (λ l. (x ++ codes ",") ++ l) (joined-closed y xs) ∙ append_assoc x (codes ",") (closed 93 (y ∷ xs))

-- nothing was written
pub bracket-none : (xs : List (List ℕ)) → next_close 93 xs ≢ 44 → in_brackets xs ≡ closed 93 xs
bracket-none [] h = refl
bracket-none (x ∷ xs) h = absurd (h refl)

pub bracket-some : (xs : List (List ℕ)) → next_close 93 xs ≡ 44 → in_brackets xs ≡ 91 ∷ closed 93 xs
bracket-some [] h = absurd (omega (arith, h))
bracket-some (x ∷ xs) h = append_assoc (codes "[") (joined (codes ",") (x ∷ xs)) (codes "]") ∙ ap (λ l. codes "[" ++ l) (joined-closed x xs)

-- fields before fields
pub closed_more : (t0 t1 t2 : List ℕ) (close next : ℕ) (xs ys : List (List ℕ)) → t1 ≡ closed close ys ++ t0 → next ≡ next_close close ys → t2 ≡ closed next xs ++ t1 → t2 ≡ closed close (xs ++ ys) ++ t0
closed_more t0 t1 t2 close next xs ys first is second =
    second ∙ ap (λ t. closed next xs ++ t) first ∙ sym (append_assoc (closed next xs) (closed close ys) t0)
    ∙ ap (λ n. (closed n xs ++ closed close ys) ++ t0) is ∙ ap (λ l. l ++ t0) (sym (closed-append close xs ys))

pub close_more : (close next last : ℕ) (xs ys : List (List ℕ)) → next ≡ next_close close ys → last ≡ next_close next xs → last ≡ next_close close (xs ++ ys)
close_more close next last xs ys is e = e ∙ ap (λ n. next_close n xs) is ∙ sym (next_close-append close xs ys)
