-- Prefixes are read exactly, whatever octets may stand behind them but digits and `/`.
use Rattle.std.proofs.Common.{◌≡◌, ℕ, Bool, true, false, List, [], ◌∷◌, refl, sym, ap, arith, inl, inr, eqb}
use Rattle.std.specs.Prelude.{◌⊎◌, not, codes}
use Rattle.std.proofs.lemmas.Bool.{or_cases, or_right, and_parts, eqb-true}
use Rattle.grammar.specs.Rules as rules
use Rattle.grammar.specs.Rules.{◌>>=◌, word}
use Rattle.grammar.specs.Tokens.{address, number, is_digit}
use Rattle.grammar.specs.Octets.{among}
use Rattle.grammar.specs.TokenReading.{read_address, read_number}
use Rattle.grammar.specs.Exactness.{IsExact, HasFronts}
use Rattle.grammar.proofs.DottedAddresses as dotted
use Rattle.grammar.proofs.DottedAddresses.{address_heads}
use Rattle.grammar.proofs.Exact.{both_exact, both_heads, both_leads}
use Rattle.grammar.proofs.Firsts.{Heads, word_heads}
use Rattle.grammar.proofs.Fronts.{pure_fronts, word_fronts, maybe_fronts, both_fronts, number_fronts, address_fronts}
use Rattle.grammar.proofs.Nothing.{pure_leads, map_exact}
use Rattle.grammar.proofs.Numbers.{number_exact}
use Rattle.grammar.proofs.OctetKinds.{Apart, Within, all_pass, among_within, among_apart, flip}
use Rattle.grammar.proofs.Optional.{maybe_exact, maybe_leads}
use Rattle.grammar.proofs.Words.{word_then}
use Rattle.net_types.specs.PolicyGrammar.{prefix, prefix_of}
use Rattle.net_types.specs.PrefixReading.{read_prefix, read_prefix_len}

abbrev pub is_slash : ℕ → Bool
is_slash = among (codes "/")

length_heads : Heads (λ e. rules.◌>>◌ (word (codes "/")) (number 0 32)) is_slash
length_heads = both_heads (λ e. word (codes "/")) (λ _ e. number 0 32) is_slash (word_heads 47 [] is_slash refl)

length_opens : (at c : ℕ) → is_slash c ≡ true → (rules.◌>>◌ (word (codes "/")) (number 0 32)).Begins at (c ∷ [])
unfolding ◌>>=◌
length_opens at c h = go (or_cases (eqb c 47) false h)
  where
    go : (eqb c 47 ≡ true) ⊎ (false ≡ true) → (rules.◌>>◌ (word (codes "/")) (number 0 32)).Begins at (c ∷ [])
    go (inl e) = let same : c ≡ 47 = eqb-true c 47 e in inl ([], ap (λ (x : ℕ). x ∷ []) (sym same))
    go (inr e) = absurd cc

-- behind a prefix stand octets of xs, none of which is a digit or `/`
module _ (xs : List ℕ) (no_digit : all_pass (λ c. not (is_digit c)) (47 ∷ xs) ≡ true) (no_slash : all_pass (λ c. not (is_slash c)) xs ≡ true) where
  slash_apart : Apart is_slash (among xs)
  slash_apart = flip (among xs) is_slash (among_apart xs is_slash no_slash)

  slash_within : Within is_slash (among (47 ∷ xs))
  slash_within = among_within (codes "/") (among (47 ∷ xs)) refl

  later_within : Within (among xs) (among (47 ∷ xs))
  later_within c h = or_right (eqb c 47) (among xs c) h

  number_apart : Apart is_digit (among xs)
  number_apart = flip (among xs) is_digit (among_apart xs is_digit (and_parts (not (is_digit 47)) (all_pass (λ c. not (is_digit c)) xs) no_digit).1)

  address_apart : Apart is_digit (among (47 ∷ xs))
  address_apart = flip (among (47 ∷ xs)) is_digit (among_apart (47 ∷ xs) is_digit no_digit)

  pub prefix_exact : (d : ℕ) → IsExact (λ e. prefix) d (among xs) read_prefix
  unfolding read_prefix read_prefix_len
  prefix_exact d =
      both_exact (λ e. address) _ d (among (47 ∷ xs)) (among xs)
      (λ ip. both_leads _ _ (among xs) (among xs) (among (47 ∷ xs))
      (maybe_leads 32 _ d is_slash (among xs) length_heads slash_apart length_opens (among (47 ∷ xs)) slash_within later_within)
      (λ len. pure_leads (prefix_of ip len) (among xs) (among xs) (λ c h. h)))
      read_address _ (dotted.address_exact d (among (47 ∷ xs)) address_apart)
      (λ ip. map_exact _ (λ len. prefix_of ip len) d (among xs) _
      (maybe_exact 32 _ d is_slash (among xs) length_heads slash_apart length_opens _
      (word_then (codes "/") (λ e. number 0 32) d (among xs) (read_number 0 32) (number_exact 0 32 (omega arith) (omega arith) d (among xs) number_apart))))

pub prefix_heads : Heads (λ e. prefix) is_digit
prefix_heads = both_heads _ _ is_digit address_heads

pub prefix_fronts : HasFronts prefix
prefix_fronts =
    both_fronts _ _ address_fronts (λ ip. both_fronts _ _ (maybe_fronts 32 _ (both_fronts _ _ (word_fronts (codes "/")) (λ _. number_fronts 0 32 (omega arith) (omega arith)))) (λ len. pure_fronts _))
