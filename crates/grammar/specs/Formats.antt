-- Formats of messages whose checks have an order. A format says which octets spell which value, and which fault is the
-- first of octets that begin with no such spelling. Both are given by cases on how the format is made, so a format
-- is read as the list of its checks. What the faults are is the format's own matter.
use Rattle.std.specs.Prelude.{◌≡◌, ℕ, zero, suc, ◌<◌, Bool, true, false, ◌⊎◌, List, [], ◌∷◌, ◌++◌, length}
use Rattle.grammar.specs.Octets.{IsLonger}

-- Spells s x: the octets s, no more and no fewer, spell x.
-- Fails s e: where s is all that is left of the message, e is the first fault.
pub record Format (F X : Type 0) : Type 1 where
  pub Spells : List ℕ → X → Type 0
  pub Fails : List ℕ → F → Type 0

-- No octet, which spells x.
abbrev pub pure : {F X : Type 0} → X → Format F X
pure x = record { Spells = λ s y. (s ≡ []) × (y ≡ x); Fails = λ s e. ⊥ }

-- One octet; where there is none, the fault.
abbrev pub octet : {F : Type 0} → F → Format F ℕ
octet fault = record { Spells = λ s x. s ≡ x ∷ []; Fails = λ s e. (s ≡ []) × (e ≡ fault) }

-- So many octets; where there are fewer, the fault.
abbrev pub octets : {F : Type 0} → ℕ → F → Format F (List ℕ)
octets n fault = record { Spells = λ s x. (length s ≡ n) × (x ≡ s); Fails = λ s e. (length s < n) × (e ≡ fault) }

-- No octet, where a test holds; where it doesn't, the fault.
abbrev pub ensure : {F : Type 0} → Bool → F → Format F (Unit {0})
ensure test fault = record { Spells = λ s x. (s ≡ []) × (test ≡ true); Fails = λ s e. (test ≡ false) × (e ≡ fault) }

-- One after another, where the second may depend on what the first spells. The first's fault comes first.
infixl 10 ◌>>=◌
unfoldable pub ◌>>=◌ : {F X Y : Type 0} → Format F X → (X → Format F Y) → Format F Y
◌>>=◌ {F} {X} {Y} f g = record {
  Spells = λ s y. (a : List ℕ) × (b : List ℕ) × (x : X) × (s ≡ a ++ b) × f.Spells a x × (g x).Spells b y;
  Fails = λ s e. f.Fails s e ⊎ ((a : List ℕ) × (b : List ℕ) × (x : X) × (s ≡ a ++ b) × f.Spells a x × (g x).Fails b e);
}

-- One after another, where the first spells nothing of use.
infixl 10 ◌>>◌
abbrev pub ◌>>◌ : {F X Y : Type 0} → Format F X → Format F Y → Format F Y
f >> g = f >>= λ _. g

-- Exactly n items, one after another.
unfoldable pub times : {F X : Type 0} → ℕ → Format F X → Format F (List X)
times zero item = pure []
times (suc n) item = do
  x ← item
  xs ← times n item
  pure (x ∷ xs)

-- The items of a whole block, one after another, each of which may depend on a state that the ones before left: as the
-- types of attributes that have come.
abbrev pub AllSpell : {F S X : Type 0} → (S → Format F X) → (S → X → S) → S → List ℕ → List X → Type 0
AllSpell part next state s [] = s ≡ []
AllSpell part next state s (x ∷ xs) = (a : List ℕ) × (b : List ℕ) × (s ≡ a ++ b) × (part state).Spells a x × AllSpell part next (next state x) b xs

-- Behind n items something is left, whose first fault e is.
abbrev pub AllFail : {F S X : Type 0} → (S → Format F X) → (S → X → S) → ℕ → S → List ℕ → F → Type 0
AllFail part next zero state s e = IsLonger s × (part state).Fails s e
AllFail {F} {S} {X} part next (suc n) state s e =
    (a : List ℕ) × (b : List ℕ) × (x : X) × (s ≡ a ++ b) × (part state).Spells a x × AllFail part next n (next state x) b e

-- No more octets, where the block inner, which was taken before, is such items.
abbrev pub block : {F S X : Type 0} → (S → Format F X) → (S → X → S) → S → List ℕ → Format F (List X)
block part next state inner = record {
  Spells = λ s xs. (s ≡ []) × AllSpell part next state inner xs;
  Fails = λ s e. (n : ℕ) × AllFail part next n state inner e;
}

-- The octets are items to their end, none of which depends on another.
abbrev pub ItemsSpell : {F X : Type 0} → Format F X → List ℕ → List X → Type 0
ItemsSpell item s xs = AllSpell {S = Unit {0}} (λ _. item) (λ _ _. tt) tt s xs

-- The first item that is none has this first fault.
abbrev pub ItemsFail : {F X : Type 0} → Format F X → List ℕ → F → Type 0
ItemsFail item s e = (n : ℕ) × AllFail {S = Unit {0}} (λ _. item) (λ _ _. tt) n tt s e

-- No more octets, where the block inner is items, none of which depends on another.
abbrev pub items : {F X : Type 0} → Format F X → List ℕ → Format F (List X)
items item inner = block {S = Unit {0}} (λ _. item) (λ _ _. tt) tt inner

-- f, and then what is left to the end: items, which with the value of f have to pass a test.
abbrev pub SpellsToEnd : {F X Y Z : Type 0} → Format F X → Format F Y → (X → List Y → Bool) → (X → List Y → Z) → List ℕ → Z → Type 0
SpellsToEnd {F} {X} {Y} f item test make s z =
    (a : List ℕ) × (b : List ℕ) × (x : X) × (ys : List Y) × (s ≡ a ++ b) × f.Spells a x × ItemsSpell item b ys × (test x ys ≡ true) × (z ≡ make x ys)

-- The first fault of f, or behind it of the items, or else of the test.
abbrev pub FailsToEnd : {F X Y : Type 0} → Format F X → Format F Y → (X → List Y → Bool) → F → List ℕ → F → Type 0
FailsToEnd {F} {X} {Y} f item test fault s e =
    f.Fails s e ⊎ ((a : List ℕ) × (b : List ℕ) × (x : X) × (s ≡ a ++ b) × f.Spells a x ×
    (ItemsFail item b e ⊎ ((ys : List Y) × ItemsSpell item b ys × (test x ys ≡ false) × (e ≡ fault))))

-- A message to its end: f, then items, then a test of both. Nothing stands behind it.
abbrev pub to_end : {F X Y Z : Type 0} → Format F X → Format F Y → (X → List Y → Bool) → F → (X → List Y → Z) → Format F Z
to_end f item test fault make = record { Spells = SpellsToEnd f item test make; Fails = FailsToEnd f item test fault }
