-- A text of a policy has one value.
use Rattle.std.proofs.Common.{◌≡◌, ℕ, List, Result, Ok, Err, ap, subst}
use Rattle.grammar.specs.TextReading.{Fault, Wrong, Deep}
use Rattle.grammar.specs.Texts.{IsText, IsSyntaxFault, IsDeepFault, Says}
use Rattle.grammar.proofs.Texts.{text_said, one_syntax_fault, one_deep_fault, deep_or_syntax}
use Rattle.net_types.specs.Policies.{Policy}
use Rattle.net_types.specs.PolicyGrammar.{policy}
use Rattle.net_types.specs.PolicyReading.{read_start, policy_of_text}
use Rattle.policy_syntax.specs.After.{after_policy}
use Rattle.policy_syntax.proofs.PolicyExact.{start_exact}

module _ (text : List ℕ) where
  said : Says policy 64 text (policy_of_text text)
  unfolding policy_of_text
  said = text_said policy 64 after_policy text (read_start 64) (start_exact 64)

  said_as : (r : Result Policy Fault) → policy_of_text text ≡ r → Says policy 64 text r
  said_as r e = subst (Says policy 64 text) e said

  pub value_spelled : (p : Policy) → policy_of_text text ≡ Ok p → IsText policy 64 text p
  value_spelled p e = said_as (Ok p) e

  pub place_wrong : (at : ℕ) → policy_of_text text ≡ Err (Wrong at) → IsSyntaxFault policy 64 text at
  place_wrong at e = said_as (Err (Wrong at)) e

  pub place_deep : (at : ℕ) → policy_of_text text ≡ Err (Deep at) → IsDeepFault policy 64 text at
  place_deep at e = said_as (Err (Deep at)) e

  pub spelled_value : (p : Policy) → IsText policy 64 text p → policy_of_text text ≡ Ok p
  spelled_value p h = go (policy_of_text text) said
    where
      go : (r : Result Policy Fault) → Says policy 64 text r → r ≡ Ok p
      go (Ok x) k = ap Ok (h.only x (64, k.spells))
      go (Err (Wrong n)) k = absurd (k.none p (64, h.spells))
      go (Err (Deep n)) k = absurd (k.none p h.spells)

  pub wrong_place : (at : ℕ) → IsSyntaxFault policy 64 text at → policy_of_text text ≡ Err (Wrong at)
  wrong_place at h = go (policy_of_text text) said
    where
      go : (r : Result Policy Fault) → Says policy 64 text r → r ≡ Err (Wrong at)
      go (Ok x) k = absurd (h.none x (64, k.spells))
      go (Err (Wrong n)) k = ap (λ m. Err (Wrong m)) (one_syntax_fault policy 64 text n at k h)
      go (Err (Deep n)) k = absurd (deep_or_syntax policy 64 text at n h k)

  pub deep_place : (at : ℕ) → IsDeepFault policy 64 text at → policy_of_text text ≡ Err (Deep at)
  deep_place at h = go (policy_of_text text) said
    where
      go : (r : Result Policy Fault) → Says policy 64 text r → r ≡ Err (Deep at)
      go (Ok x) k = absurd (h.none x k.spells)
      go (Err (Wrong n)) k = absurd (deep_or_syntax policy 64 text n at k h)
      go (Err (Deep n)) k = ap (λ m. Err (Deep m)) (one_deep_fault policy 64 text n at k h)
