-- What was noted.
use Rattle.std.proofs.Common.{◌≡◌, ◌⊎◌, List, [], ◌∷◌, ◌++◌, inl, inr, subst, sym}
use Rattle.net_types.specs.Sets.{Member}
use Rattle.policy_compile.specs.declared.memo.Noted.{Noted}
use Rattle.net_types.proofs.SetLemmas.{Member-append_cases}

-- one item more
pub member_pushed : {A : Type 0} (xs : List A) (x y : A) → Member y (xs ++ x ∷ []) → Member y xs ⊎ (y ≡ x)
member_pushed xs x y m = elim (Member-append_cases xs (x ∷ []) y m) [
  | inl there ↦ inl there
  | inr last ↦ elim last [
    | inl same ↦ inr same
    | inr none ↦ elim none [ ]
  ]
]

-- what holds of all that was noted, and of what is noted now
pub all_noted : {K V : Type 0} (P : Noted K V → Type 0) (old new : List (Noted K V)) (x : Noted K V) → ((e : Noted K V) → Member e new → Member e old ⊎ (e ≡ x)) → ((e : Noted K V) → Member e old → P e) → P x
    → (e : Noted K V) → Member e new → P e
all_noted P old new x noted are is = λ e m. elim (noted e m) [ inl k ↦ are e k | inr same ↦ subst P (sym same) is ]
