-- A text that is spelled is begun at each of its fronts.
use Rattle.std.proofs.Common.{◌≡◌, ℕ, zero, suc, ◌+◌, ◌*◌, ◌≤◌, Bool, List, [], ◌∷◌, ◌++◌, length, take, drop, refl, sym, subst, arith, inl, inr}
use Rattle.std.specs.Prelude.{◌⊎◌, codes}
use Rattle.std.proofs.lemmas.List.{append-nil, take-append-drop}
use Rattle.grammar.specs.Rules.{BeginsBoth, BeginsTimes, IsNonemptyRun, Rule, SpellsTimes, either, many, maybe, never, place, pure, run, token, word, ◌>>=◌}
use Rattle.grammar.specs.Tokens.{IsName, IsNumber, address, gap, is_digit, is_letter, is_name_octet, is_space, name, number, number_of, parens, sign, spaces}
use Rattle.grammar.specs.Exactness.{Family, HasFronts}
use Rattle.grammar.proofs.Lists.{AllPass-front, GoesOn, fronts, no_front}
use Rattle.grammar.proofs.Tokens.{IsToken}
use Rattle.grammar.proofs.Gaps.{nonempty_runs}
use Rattle.grammar.proofs.Names.{names}
use Rattle.grammar.proofs.Numbers.{numbers}

pub pure_fronts : {X : Type 0} (x : X) → HasFronts (pure x)
pure_fronts x = record { begins = λ at a b y sp. no_front a b sp.0 }

pub place_fronts : HasFronts place
place_fronts = record { begins = λ at a b y sp. no_front a b sp.0 }

pub never_fronts : {X : Type 0} → HasFronts {X = X} never
never_fronts = record { begins = λ at a b y sp. absurd sp }

pub word_fronts : (w : List ℕ) → HasFronts (word w)
word_fronts w = record { begins = λ at a b y sp. (b, sym sp) }

pub run_fronts : (test : ℕ → Bool) → HasFronts (run test)
run_fronts test = record { begins = λ at a b y sp. AllPass-front test a b sp }

pub token_fronts : {X : Type 0} (Is : List ℕ → Type 0) (value : List ℕ → X) (first inner : ℕ → Bool) → IsToken Is first inner → HasFronts (token Is value)
token_fronts Is value first inner tokens = record { begins = λ at a b y sp. go a b sp.0 }
  where
    go : (a b : List ℕ) → Is (a ++ b) → (a ≡ []) ⊎ Is a
    go [] b is = inl refl
    go (c ∷ a) b is = inr (tokens.closed (c ∷ a) b tt is)

pub either_fronts : {X : Type 0} (f g : Rule X) → HasFronts f → HasFronts g → HasFronts (either f g)
either_fronts {X} f g hf hg = record { begins = λ at a b y sp. go at a b y sp }
  where
    go : (at : ℕ) (a b : List ℕ) (y : X) → f.Spells at (a ++ b) y ⊎ g.Spells at (a ++ b) y → f.Begins at a ⊎ g.Begins at a
    go at a b y (inl sp) = inl (hf.begins at a b y sp)
    go at a b y (inr sp) = inr (hg.begins at a b y sp)

pub maybe_fronts : {X : Type 0} (x : X) (f : Rule X) → HasFronts f → HasFronts (maybe x f)
maybe_fronts {X} x f hf = record { begins = λ at a b y sp. go at a b y sp }
  where
    go : (at : ℕ) (a b : List ℕ) (y : X) → ((a ++ b ≡ []) × (y ≡ x)) ⊎ f.Spells at (a ++ b) y → (a ≡ []) ⊎ f.Begins at a
    go at a b y (inl sp) = inl (no_front a b sp.0)
    go at a b y (inr sp) = inr (hf.begins at a b y sp)

-- the whole of what is spelled is begun
whole_begun : {X : Type 0} (f : Rule X) → HasFronts f → (at : ℕ) (p : List ℕ) (x : X) → f.Spells at p x → f.Begins at p
whole_begun f hf at p x sp = hf.begins at p [] x (subst (λ (t : List ℕ). f.Spells at t x) (sym (append-nil p)) sp)

pub both_fronts : {X Y : Type 0} (f : Rule X) (g : X → Rule Y) → HasFronts f → ((x : X) → HasFronts (g x)) → HasFronts (f >>= g)
unfolding ◌>>=◌
both_fronts {X} {Y} f g hf hg = record { begins = λ at a b y sp. go at a b y sp.0 sp.1 sp.2 sp.4 sp.5 (fronts a sp.0 sp.1 b sp.3) }
  where
    go : (at : ℕ) (a b : List ℕ) (y : Y) (p q : List ℕ) (x : X) → f.Spells at p x → (g x).Spells (at + length p) q y
        → ((a ≡ p) × (b ≡ q)) ⊎ (GoesOn a p q b ⊎ GoesOn p a b q) → BeginsBoth f g at a
    go at a b y p q x one two (inl e) = inl (subst (λ (t : List ℕ). f.Begins at t) (sym e.0) (whole_begun f hf at p x one))
    go at a b y p q x one two (inr (inl k)) =
        inr (p, k.octet ∷ k.more, x, k.longer, one, (hg x).begins (at + length p) (k.octet ∷ k.more) b y (subst (λ (t : List ℕ). (g x).Spells (at + length p) t y) k.rest two))
    go at a b y p q x one two (inr (inr k)) = inl (hf.begins at a (k.octet ∷ k.more) x (subst (λ (t : List ℕ). f.Spells at t x) k.longer one))

pub many_fronts : {X Y : Type 0} (join : X → Y → X) (part : Rule Y) (before : X) → HasFronts part → HasFronts (many join part before)
many_fronts {X} {Y} join part before hp = record { begins = λ at a b y sp. times sp.0 before at a b y sp.1 }
  where
    go : (n : ℕ) (at : ℕ) (a b : List ℕ) (before y : X) (p q : List ℕ) (x : Y) → part.Spells at p x → SpellsTimes join part n (join before x) (at + length p) q y
        → ((at' : ℕ) (a' b' : List ℕ) → SpellsTimes join part n (join before x) at' (a' ++ b') y → (j : ℕ) × BeginsTimes part j at' a')
        → ((a ≡ p) × (b ≡ q)) ⊎ (GoesOn a p q b ⊎ GoesOn p a b q) → (j : ℕ) × BeginsTimes part j at a
    go n at a b before y p q x one two more (inl e) = (1, inl (subst (λ (t : List ℕ). part.Begins at t) (sym e.0) (whole_begun part hp at p x one)))
    go n at a b before y p q x one two more (inr (inl k)) =
        let r = more (at + length p) (k.octet ∷ k.more) b (subst (λ (t : List ℕ). SpellsTimes join part n (join before x) (at + length p) t y) k.rest two) in
        (suc r.0, inr (p, k.octet ∷ k.more, x, k.longer, one, r.1))
    go n at a b before y p q x one two more (inr (inr k)) = (1, inl (hp.begins at a (k.octet ∷ k.more) x (subst (λ (t : List ℕ). part.Spells at t x) k.longer one)))

    times : (n : ℕ) (before : X) (at : ℕ) (a b : List ℕ) (y : X) → SpellsTimes join part n before at (a ++ b) y → (j : ℕ) × BeginsTimes part j at a
    times zero before at a b y sp = (0, no_front a b sp.0)
    times (suc n) before at a b y sp =
        go n at a b before y sp.0 sp.1 sp.2 sp.4 sp.5 (λ at' a' b' two. times n (join before sp.2) at' a' b' y two) (fronts a sp.0 sp.1 b sp.3)

-- ---- tokens

pub name_fronts : HasFronts name
name_fronts = token_fronts IsName (λ s. s) is_letter is_name_octet names

pub number_fronts : (low high : ℕ) → low ≤ 1 → 9 ≤ high → HasFronts (number low high)
number_fronts low high small large = token_fronts (IsNumber low high) number_of is_digit is_digit (numbers low high small large)

pub gap_fronts : HasFronts gap
gap_fronts = token_fronts (IsNonemptyRun is_space) (λ _. tt) is_space is_space (nonempty_runs is_space)

pub sign_fronts : (w : List ℕ) → HasFronts (sign w)
sign_fronts w = both_fronts (word w) (λ _. spaces) (word_fronts w) (λ _. run_fronts is_space)

pub parens_fronts : {X : Type 0} (f : Rule X) → HasFronts f → HasFronts (parens f)
parens_fronts f hf =
    both_fronts (sign (codes "(")) _ (sign_fronts (codes "(")) (λ _. both_fronts f _ hf (λ x. both_fronts (sign (codes ")")) _ (sign_fronts (codes ")")) (λ _. pure_fronts x)))

-- A rule that is none where no group may be open, and else a group.
pub groups_fronts : {X : Type 0} (f inner : Family X) → f zero ≡ never → ((e : ℕ) → f (suc e) ≡ parens (inner e)) → ((d : ℕ) → HasFronts (f d) → HasFronts (inner d)) → (d : ℕ) → HasFronts (f d)
groups_fronts {X} f inner none group step zero = subst (λ (r : Rule X). HasFronts r) (sym none) never_fronts
groups_fronts {X} f inner none group step (suc d) = subst (λ (r : Rule X). HasFronts r) (sym (group d)) (parens_fronts (inner d) (step d (groups_fronts f inner none group step d)))

pub address_fronts : HasFronts address
address_fronts =
    then_dot _ (λ a. then_dot _ (λ b. then_dot _ (λ c. both_fronts (number 0 255) _ octet_fronts (λ x. pure_fronts (((a * 256 + b) * 256 + c) * 256 + x)))))
  where
    octet_fronts : HasFronts (number 0 255)
    octet_fronts = number_fronts 0 255 (omega arith) (omega arith)

    then_dot : {X : Type 0} (g : ℕ → Rule X) → ((x : ℕ) → HasFronts (g x)) → HasFronts (number 0 255 >>= λ x. word (codes ".") >>= λ _. g x)
    then_dot g hg = both_fronts (number 0 255) _ octet_fronts (λ x. both_fronts (word (codes ".")) _ (word_fronts (codes ".")) (λ _. hg x))

-- ---- whole texts

-- Each front of a text begins a text.
pub text_fronts : {X : Type 0} (f : Rule X) → HasFronts f → (text : List ℕ) (x : X) (k : ℕ) → f.Spells 0 text x → f.Begins 0 (take k text)
text_fronts f hf text x k sp = hf.begins 0 (take k text) (drop k text) x (subst (λ (t : List ℕ). f.Spells 0 t x) (sym (take-append-drop k text)) sp)
