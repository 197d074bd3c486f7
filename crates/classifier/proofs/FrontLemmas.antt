-- Products of the first rules of a list.
use Rattle.std.proofs.Common.{◌≡◌, ℕ, ◌+◌, ◌<◌, List, [], ◌∷◌, ◌++◌, append_assoc, length, get_or, take, sym, ap, ◌∙◌}
use Rattle.std.proofs.lemmas.List.{append-nil, take_more}
use Rattle.classifier.specs.declared.join.Join.{Join}
use Rattle.classifier.specs.declared.line.Line.{Line}
use Rattle.classifier.specs.Lines.{add_lines, row, product}
use Rattle.classifier.proofs.AddLemmas.{add_lines_append}

product-last : (join : Join) (xs : List Line) (x : Line) (ys : List Line) → product join (xs ++ x ∷ []) ys ≡ product join xs ys ++ row join x ys
product-last join [] x ys = append-nil (row join x ys)
product-last join (z ∷ xs) x ys = ap (λ zs. row join z ys ++ zs) (product-last join xs x ys) ∙ sym (append_assoc (row join z ys) (product join xs ys) (row join x ys))

-- the rules that the first ones of a list make, with those of one more
pub front_more : (join : Join) (xs ys : List Line) (i : ℕ) (x : Line) → i < length xs → x ≡ get_or xs i x
    → add_lines (add_lines [] (product join (take i xs) ys)) (row join x ys) ≡ add_lines [] (product join (take (i + 1) xs) ys)
front_more join xs ys i x lt e =
    sym (ap (λ zs. add_lines [] (product join zs ys)) (take_more xs i x lt ∙ ap (λ y. take i xs ++ y ∷ []) (sym e))
    ∙ ap (add_lines []) (product-last join (take i xs) x ys) ∙ add_lines_append [] (product join (take i xs) ys) (row join x ys))
