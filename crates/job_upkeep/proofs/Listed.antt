-- Lists without repeats.
use Rattle.std.proofs.Common.{List, [], ◌∷◌, ◌++◌, refl, inl, inr}
use Rattle.net_types.proofs.SetLemmas.{Member-append_cases}
use Rattle.net_types.specs.Sets.{HasNoRepeats, Member}

pub joined_once : {A : Type 0} (xs ys : List A) → HasNoRepeats xs → HasNoRepeats ys → ((x : A) → Member x xs → Member x ys → ⊥) → HasNoRepeats (xs ++ ys)
joined_once [] ys first second apart = second
joined_once (x ∷ xs) ys first second apart = (
  λ m. elim (Member-append_cases xs ys x m) [ inl here ↦ first.0 here | inr there ↦ apart x (inl refl) there ],
  joined_once xs ys first.1 second (λ y m n. apart y (inr m) n),
)
