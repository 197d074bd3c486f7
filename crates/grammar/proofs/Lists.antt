-- Lists of octets that agree up to a place.
use Rattle.std.proofs.Common.{◌≡◌, ℕ, Bool, true, List, [], ◌∷◌, ◌++◌, refl, sym, ap, subst, ◌∙◌, append_assoc, inl, inr}
use Rattle.std.specs.Prelude.{◌⊎◌}
use Rattle.grammar.specs.Octets.{AllPass, IsLonger, StartsAs}

starts_append : (b m n : List ℕ) → StartsAs m n → StartsAs (b ++ m) (b ++ n)
starts_append [] m n h = h
starts_append (c ∷ b) m n h = refl

pub longer_append : (b n : List ℕ) → IsLonger n → IsLonger (b ++ n)
longer_append [] n h = h
longer_append (c ∷ b) n h = tt

pub starts_behind : (b m r n : List ℕ) → m ≡ b ++ r → StartsAs r n → StartsAs m (b ++ n)
starts_behind b m r n e h = subst (λ (t : List ℕ). StartsAs t (b ++ n)) (sym e) (starts_append b r n h)

-- a ++ n' where a is p ++ q
pub regroup : (a p q n' front n : List ℕ) → a ≡ p ++ q → a ++ n' ≡ front ++ n → p ++ (q ++ n') ≡ front ++ n
regroup a p q n' front n e h = sym (append_assoc p q n') ∙ ap (λ (t : List ℕ). t ++ n') (sym e) ∙ h

pub no_longer : (n : List ℕ) → n ≡ [] → IsLonger n → ⊥
no_longer n e lo = subst IsLonger e lo

pub never_empty : (front n : List ℕ) → IsLonger n → front ++ n ≡ [] → ⊥
never_empty [] n lo e = no_longer n e lo
never_empty (c ∷ front) n lo e = cc

pub tail_is : (b c : ℕ) (s t : List ℕ) → b ∷ s ≡ c ∷ t → s ≡ t
tail_is b c s t e = cc

-- the one front is the other, or goes on behind it, or ends before it
pub record GoesOn (a front n n' : List ℕ) : Type 0 where
  pub octet : ℕ
  pub more : List ℕ
  pub longer : a ≡ front ++ octet ∷ more
  pub rest : n ≡ octet ∷ (more ++ n')

pub fronts : (a front n n' : List ℕ) → a ++ n' ≡ front ++ n → ((a ≡ front) × (n' ≡ n)) ⊎ (GoesOn a front n n' ⊎ GoesOn front a n' n)
fronts [] [] n n' eq = inl (refl, eq)
fronts [] (c ∷ front) n n' eq = inr (inr (record { octet = c; more = front; longer = refl; rest = eq }))
fronts (c ∷ a) [] n n' eq = inr (inl (record { octet = c; more = a; longer = refl; rest = sym eq }))
fronts (c ∷ a) (b ∷ front) n n' eq = go (fronts a front n n' (tail_is c b (a ++ n') (front ++ n) eq))
  where
    same : c ≡ b
    same = cc

    go : ((a ≡ front) × (n' ≡ n)) ⊎ (GoesOn a front n n' ⊎ GoesOn front a n' n) → ((c ∷ a ≡ b ∷ front) × (n' ≡ n)) ⊎ (GoesOn (c ∷ a) (b ∷ front) n n' ⊎ GoesOn (b ∷ front) (c ∷ a) n' n)
    go (inl p) = let q = p.0 in inl (cc, p.1)
    go (inr (inl g)) = let q = g.longer in inr (inl (record { octet = g.octet; more = g.more; longer = cc; rest = g.rest }))
    go (inr (inr g)) = let q = g.longer in inr (inr (record { octet = g.octet; more = g.more; longer = cc; rest = g.rest }))

pub AllPass-front : (test : ℕ → Bool) (a b : List ℕ) → AllPass test (a ++ b) → AllPass test a
AllPass-front test [] b h = tt
AllPass-front test (c ∷ a) b h = (h.0, AllPass-front test a b h.1)

pub AllPass-at : (test : ℕ → Bool) (a b : List ℕ) (c : ℕ) → AllPass test (a ++ c ∷ b) → test c ≡ true
AllPass-at test [] b c h = h.0
AllPass-at test (x ∷ a) b c h = AllPass-at test a b c h.1

pub no_front : (a b : List ℕ) → a ++ b ≡ [] → a ≡ []
no_front [] b e = refl
no_front (c ∷ a) b e = absurd cc
