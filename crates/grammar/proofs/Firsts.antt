-- What the first octet of a text of a rule is.
use Rattle.std.proofs.Common.{◌≡◌, ℕ, Bool, true, List, [], ◌∷◌, ◌++◌, refl, sym, ap, subst, ◌∙◌}
use Rattle.grammar.specs.Octets.{Follows, among}
use Rattle.grammar.specs.Rules.{word}
use Rattle.grammar.specs.Exactness.{Family}
use Rattle.grammar.proofs.OctetKinds.{Follows-starts, Follows-within, Within, all_pass, among_within, any}
use Rattle.grammar.proofs.Starts.{StartsIn}

-- What stands in front of what may follow, or is begun there, begins with such an octet itself.
pub record Leads {X : Type 0} (f : Family X) (follow test : ℕ → Bool) : Type 0 where
  pub spells : (e at : ℕ) (s n : List ℕ) (x : X) → (f e).Spells at s x → Follows follow n → Follows test (s ++ n)
  pub begins : (e at : ℕ) (s : List ℕ) → (f e).Begins at s → Follows test s

-- Each text of the rule begins with such an octet.
pub record Heads {X : Type 0} (f : Family X) (first : ℕ → Bool) : Type 0 where
  pub spells : (e at : ℕ) (s : List ℕ) (x : X) → (f e).Spells at s x → StartsIn first s
  pub begins : (e at : ℕ) (s : List ℕ) → (f e).Begins at s → Follows first s

pub Heads-leads : {X : Type 0} (f : Family X) (first follow test : ℕ → Bool) → Within first test → Heads f first → Leads f follow test
Heads-leads f first follow test w h = record {
  spells = λ e at s n x sp fol. Follows-starts first test w s n (h.spells e at s x sp);
  begins = λ e at s b. Follows-within first test w s (h.begins e at s b);
}

pub Heads-within : {X : Type 0} (f : Family X) (first test : ℕ → Bool) → Within first test → Heads f first → Heads f test
Heads-within f first test w h = record { spells = λ e at s x sp. starts s (h.spells e at s x sp); begins = λ e at s b. Follows-within first test w s (h.begins e at s b) }
  where
    starts : (s : List ℕ) → StartsIn first s → StartsIn test s
    starts [] k = k
    starts (c ∷ s) k = w c k

pub word_heads : (c : ℕ) (w : List ℕ) (test : ℕ → Bool) → test c ≡ true → Heads (λ e. word (c ∷ w)) test
word_heads c w test t = record { spells = λ e at s x sp. subst (StartsIn test) (sym sp) t; begins = λ e at s b. begun s b.0 b.1 }
  where
    begun : (s more : List ℕ) → c ∷ w ≡ s ++ more → Follows test s
    begun [] more e = tt
    begun (x ∷ s) more e = let same : c ≡ x = cc in ap test (sym same) ∙ t

pub any_leads : {X : Type 0} (f : Family X) (follow : ℕ → Bool) → Leads f follow any
any_leads f follow = record { spells = λ e at s n x sp fol. all (s ++ n); begins = λ e at s b. all s }
  where
    all : (s : List ℕ) → Follows any s
    all [] = tt
    all (c ∷ s) = refl

pub wider : {X : Type 0} (f : Family X) (xs ys : List ℕ) → all_pass (among ys) xs ≡ true → Heads f (among xs) → Heads f (among ys)
wider f xs ys all h = Heads-within f (among xs) (among ys) (among_within xs (among ys) all) h

-- what begins with one of these octets stands well behind spaces
pub headed : {X : Type 0} (f : Family X) (xs : List ℕ) (follow to : ℕ → Bool) → all_pass to xs ≡ true → Heads f (among xs) → Leads f follow to
headed f xs follow to all h = Heads-leads f (among xs) follow to (among_within xs to all) h
