-- Lists as sets: what counts is which members they have.
use Rattle.std.specs.Prelude.{◌≡◌, Bool, true, List, [], ◌∷◌, ◌++◌, ◌⊎◌}

-- x stands in the list
abbrev pub Member : {A : Type 0} → A → List A → Type 0
Member x [] = ⊥
Member x (y ∷ ys) = (x ≡ y) ⊎ Member x ys

-- each member has it
abbrev pub Each : {A : Type 0} → (A → Type 0) → List A → Type 0
Each P [] = Unit {0}
Each P (x ∷ xs) = P x × Each P xs

-- the lists have the same members: as sets they are equal
pub record SameMembers {A : Type 0} (xs ys : List A) : Type 0 where
  pub onto : (x : A) → Member x xs → Member x ys
  pub back : (x : A) → Member x ys → Member x xs

-- the lists that a function gives of each member, one after another
abbrev pub union_over : {A B : Type 0} → (A → List B) → List A → List B
union_over f [] = []
union_over f (x ∷ xs) = f x ++ union_over f xs

-- those of the second list where the first has none
abbrev pub otherwise : {A : Type 0} → List A → List A → List A
otherwise [] ys = ys
otherwise (x ∷ xs) ys = x ∷ xs

-- each member is below all that follow
abbrev pub IsRising : {A : Type 0} → (A → A → Bool) → List A → Type 0
IsRising below [] = Unit {0}
IsRising {A} below (x ∷ xs) = ((y : A) → Member y xs → below x y ≡ true) × IsRising below xs

-- no member comes twice
abbrev pub HasNoRepeats : {A : Type 0} → List A → Type 0
HasNoRepeats [] = Unit {0}
HasNoRepeats (x ∷ xs) = ¬ Member x xs × HasNoRepeats xs
