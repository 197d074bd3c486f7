-- Lists that are written item by item.
use Rattle.std.proofs.Common.{◌≡◌, ℕ, ◌+◌, ◌<◌, List, [], ◌∷◌, ◌++◌, take, length, get_or, flat_map, ap, sym, ◌∙◌, append_assoc}
use Rattle.std.proofs.lemmas.List.{flat_map_more, take_more}
use Rattle.net_types.specs.Updates.{long, short}

-- what is written of one item more
pub written_more : {X A : Type 0} (f : X → List A) (xs : List X) (i : ℕ) (x : X) (front before after : List A)
    → i < length xs → x ≡ get_or xs i x → before ≡ front ++ flat_map f (take i xs) → after ≡ before ++ f x → after ≡ front ++ flat_map f (take (i + 1) xs)
written_more {X} {A} f xs i x front before after less is e h =
    h ∙ ap (λ (l : List A). l ++ f x) e ∙ flat_map_more f front (take i xs) x ∙ ap (λ (l : List X). front ++ flat_map f l) (ap (λ (y : X). take i xs ++ y ∷ []) is ∙ sym (take_more xs i x less))

-- the same, where the item is told by its place
pub written_at : {X A : Type 0} (f : X → List A) (xs : List X) (i : ℕ) (d : X) (front before after : List A)
    → i < length xs → before ≡ front ++ flat_map f (take i xs) → after ≡ before ++ f (get_or xs i d) → after ≡ front ++ flat_map f (take (i + 1) xs)
written_at {X} {A} f xs i d front before after less e h =
    h ∙ ap (λ (l : List A). l ++ f (get_or xs i d)) e ∙ flat_map_more f front (take i xs) (get_or xs i d) ∙ ap (λ (l : List X). front ++ flat_map f l) (sym (take_more xs i d less))

-- two octets, and four
pub two_written : (r before a b c : List ℕ) (n : ℕ) → r ≡ short n → a ≡ before → b ≡ a ++ get_or r 0 0 ∷ [] → c ≡ b ++ get_or r 1 0 ∷ [] → c ≡ before ++ short n
two_written r before a b c n is ea eb ec = rw (ec, eb, ea, is) (simp append_assoc)

pub four_written : (r before a b c d e : List ℕ) (n : ℕ) → r ≡ long n → a ≡ before → b ≡ a ++ get_or r 0 0 ∷ [] → c ≡ b ++ get_or r 1 0 ∷ [] → d ≡ c ++ get_or r 2 0 ∷ [] → e ≡ d ++ get_or r 3 0 ∷ []
    → e ≡ before ++ long n
four_written r before a b c d e n is ea eb ec ed ee = rw (ee, ed, ec, eb, ea, is) (simp append_assoc)
