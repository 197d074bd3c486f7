-- Rules of texts. A rule says which octets spell which value, and which octets begin one of its texts. Both are given
-- by cases on how the rule is made, so a grammar is read aloud as it stands. The rules of this file need no token.
use Rattle.std.specs.Prelude.{◌≡◌, ℕ, zero, suc, ◌+◌, Bool, ◌⊎◌, List, [], ◌++◌, length}
use Rattle.grammar.specs.Octets.{AllPass, IsLonger}

-- Spells at s x: the octets s, which stand at the place at of a text, spell x.
-- Begins at s: the octets s begin some text that the rule spells there; s may be none of it, or the whole.
pub record Rule (X : Type 0) : Type 1 where
  pub Spells : ℕ → List ℕ → X → Type 0
  pub Begins : ℕ → List ℕ → Type 0

-- No octet, which spells x.
abbrev pub pure : {X : Type 0} → X → Rule X
pure x = record { Spells = λ at s y. (s ≡ []) × (y ≡ x); Begins = λ at s. s ≡ [] }

-- No octet, which spells the place: behind `ab` it is 2.
abbrev pub place : Rule ℕ
place = record { Spells = λ at s y. (s ≡ []) × (y ≡ at); Begins = λ at s. s ≡ [] }

-- A text of f and then a text of what f's value gives.
abbrev pub SpellsBoth : {X Y : Type 0} → Rule X → (X → Rule Y) → ℕ → List ℕ → Y → Type 0
SpellsBoth {X} f g at s y =
    (a : List ℕ) × (b : List ℕ) × (x : X) × (s ≡ a ++ b) × f.Spells at a x × (g x).Spells (at + length a) b y

-- The first is begun, or it is whole and the second is begun. With `.` behind a number, `12` begins both ways.
abbrev pub BeginsBoth : {X Y : Type 0} → Rule X → (X → Rule Y) → ℕ → List ℕ → Type 0
BeginsBoth {X} f g at s =
    f.Begins at s ⊎ ((a : List ℕ) × (b : List ℕ) × (x : X) × (s ≡ a ++ b) × f.Spells at a x × (g x).Begins (at + length a) b)

-- One after another, where the second may depend on what the first spells.
infixl 10 ◌>>=◌
unfoldable pub ◌>>=◌ : {X Y : Type 0} → Rule X → (X → Rule Y) → Rule Y
f >>= g = record { Spells = SpellsBoth f g; Begins = BeginsBoth f g }

-- One after another, where the first spells nothing of use.
infixl 10 ◌>>◌
abbrev pub ◌>>◌ : {X Y : Type 0} → Rule X → Rule Y → Rule Y
f >> g = f >>= λ _. g

-- A text of either.
abbrev pub either : {X : Type 0} → Rule X → Rule X → Rule X
either f g = record { Spells = λ at s x. f.Spells at s x ⊎ g.Spells at s x; Begins = λ at s. f.Begins at s ⊎ g.Begins at s }

-- A text of f, or no octet, which spells x.
abbrev pub maybe : {X : Type 0} → X → Rule X → Rule X
maybe x f = record { Spells = λ at s y. (s ≡ []) × (y ≡ x) ⊎ f.Spells at s y; Begins = λ at s. (s ≡ []) ⊎ f.Begins at s }

-- No text at all: what stands where no group may be opened. No octet begins one; only for uniform laws do none.
abbrev pub never : {X : Type 0} → Rule X
never = record { Spells = λ at s x. ⊥; Begins = λ at s. s ≡ [] }

-- Exactly n texts of part, one after another, each of which joins its value to what was spelled before.
abbrev pub SpellsTimes : {X Y : Type 0} → (X → Y → X) → Rule Y → ℕ → X → ℕ → List ℕ → X → Type 0
SpellsTimes join part zero before at s x = (s ≡ []) × (x ≡ before)
SpellsTimes {X} {Y} join part (suc n) before at s x =
    (a : List ℕ) × (b : List ℕ) × (y : Y) × (s ≡ a ++ b) × part.Spells at a y × SpellsTimes join part n (join before y) (at + length a) b x

-- The octets begin n such texts.
abbrev pub BeginsTimes : {Y : Type 0} → Rule Y → ℕ → ℕ → List ℕ → Type 0
BeginsTimes part zero at s = s ≡ []
BeginsTimes {Y} part (suc n) at s =
    part.Begins at s ⊎ ((a : List ℕ) × (b : List ℕ) × (y : Y) × (s ≡ a ++ b) × part.Spells at a y × BeginsTimes part n (at + length a) b)

-- Any number of texts of part, joined from the left: behind 1, `-2-3` with minus spells (1 - 2) - 3.
abbrev pub many : {X Y : Type 0} → (X → Y → X) → Rule Y → X → Rule X
many join part before = record {
  Spells = λ at s x. (n : ℕ) × SpellsTimes join part n before at s x;
  Begins = λ at s. (n : ℕ) × BeginsTimes part n at s;
}

-- This very word or sign, which octets begin where they are a front of it: `fw` begins `fwd`.
abbrev pub word : List ℕ → Rule (Unit {0})
word w = record { Spells = λ at s x. s ≡ w; Begins = λ at s. (more : List ℕ) × (w ≡ s ++ more) }

-- Any number of octets of a kind.
abbrev pub run : (ℕ → Bool) → Rule (Unit {0})
run test = record { Spells = λ at s x. AllPass test s; Begins = λ at s. AllPass test s }

-- A token, as a name or a number, which octets begin where there are none or they are such a token themselves:
-- `12` begins a number up to 255 as `1` does, and `300` doesn't.
abbrev pub token : {X : Type 0} → (List ℕ → Type 0) → (List ℕ → X) → Rule X
token Is value = record { Spells = λ at s x. Is s × (x ≡ value s); Begins = λ at s. (s ≡ []) ⊎ Is s }

-- At least one octet, each of a kind.
abbrev pub IsNonemptyRun : (ℕ → Bool) → List ℕ → Type 0
IsNonemptyRun test s = IsLonger s × AllPass test s

-- At least one octet of a kind.
abbrev pub nonempty_run : (ℕ → Bool) → Rule (Unit {0})
nonempty_run test = token (IsNonemptyRun test) (λ _. tt)
