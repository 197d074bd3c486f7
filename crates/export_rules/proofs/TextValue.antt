-- A text of rules has one value.
use Rattle.std.proofs.Common.{◌≡◌, ℕ, List, Result, Ok, Err, ap, subst, arith}
use Rattle.grammar.specs.TextReading.{Fault, Wrong, Deep}
use Rattle.grammar.specs.Texts.{read_whole}
use Rattle.grammar.proofs.PlainTexts.{SaysPlain, plain_said}
use Rattle.net_types.specs.declared.named_rule.NamedRule.{NamedRule}
use Rattle.net_types.specs.ExportReading.{read_rules, or_place, rules_of_text}
use Rattle.net_types.specs.ExportTexts.{rules, RulesText, IsWrongRulesAt}
use Rattle.export_rules.proofs.RulesExact.{after_rules, rules_exact}

module _ (text : List ℕ) where
  said : SaysPlain rules text (read_whole read_rules text)
  said = plain_said rules after_rules text read_rules (rules_exact 0)

  pub value_spelled : (rs : List NamedRule) → rules_of_text text ≡ Ok rs → RulesText text rs
  unfolding rules_of_text
  value_spelled rs = go (read_whole read_rules text) said
    where
      go : (r : Result (List NamedRule) Fault) → SaysPlain rules text r → or_place r ≡ Ok rs → RulesText text rs
      go (Ok x) k e = let same : x ≡ rs = cc in subst (RulesText text) same k
      go (Err (Wrong n)) k e = absurd cc
      go (Err (Deep n)) k e = absurd k

  pub spelled_value : (rs : List NamedRule) → RulesText text rs → rules_of_text text ≡ Ok rs
  unfolding rules_of_text
  spelled_value rs h = go (read_whole read_rules text) said
    where
      go : (r : Result (List NamedRule) Fault) → SaysPlain rules text r → or_place r ≡ Ok rs
      go (Ok x) k = ap Ok (h.only x k.spells)
      go (Err (Wrong n)) k = absurd (k.none rs h.spells)
      go (Err (Deep n)) k = absurd k

  pub place_wrong : (at : ℕ) → rules_of_text text ≡ Err at → IsWrongRulesAt text at
  unfolding rules_of_text
  place_wrong at = go (read_whole read_rules text) said
    where
      go : (r : Result (List NamedRule) Fault) → SaysPlain rules text r → or_place r ≡ Err at → IsWrongRulesAt text at
      go (Ok x) k e = absurd cc
      go (Err (Wrong n)) k e = let same : n ≡ at = cc in subst (IsWrongRulesAt text) same k
      go (Err (Deep n)) k e = absurd k

  pub wrong_place : (at : ℕ) → IsWrongRulesAt text at → rules_of_text text ≡ Err at
  unfolding rules_of_text
  wrong_place at h = go (read_whole read_rules text) said
    where
      go : (r : Result (List NamedRule) Fault) → SaysPlain rules text r → or_place r ≡ Err at
      go (Ok x) k = absurd (h.none x k.spells)
      go (Err (Wrong n)) k = let same : n ≡ at = omega (arith, h.longest n k.within k.begins, k.longest at h.within h.begins) in ap Err same
      go (Err (Deep n)) k = absurd k
