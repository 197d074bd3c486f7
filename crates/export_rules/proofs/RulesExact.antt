-- Export rules are read exactly.
use Rattle.std.proofs.Common.{◌≡◌, ℕ, Bool, true, false, Option, Some, None, List, [], ◌∷◌, refl, sym, ap, inl, inr, eqb}
use Rattle.std.specs.Prelude.{◌⊎◌, codes}
use Rattle.std.proofs.lemmas.Bool.{or_cases, or_left, eqb-true, not_from_false, false_from_ne_true}
use Rattle.grammar.specs.Rules as rules
use Rattle.grammar.specs.Rules.{◌>>=◌, word}
use Rattle.grammar.specs.TextReading as reading
use Rattle.grammar.specs.TextReading.{read_word}
use Rattle.grammar.specs.TokenReading.{read_name}
use Rattle.grammar.specs.Tokens.{name, is_digit, is_letter, is_name_octet, is_space}
use Rattle.grammar.specs.Octets.{among}
use Rattle.grammar.specs.Exactness.{IsExact}
use Rattle.grammar.proofs.Choices.{pick, either_exact, either_heads}
use Rattle.grammar.proofs.Exact.{both_exact, both_heads}
use Rattle.grammar.proofs.Firsts.{Heads, Heads-leads, Heads-within, word_heads, any_leads, headed}
use Rattle.grammar.proofs.Names.{name_exact, name_heads}
use Rattle.grammar.proofs.Nothing.{pure_exact, map_exact}
use Rattle.grammar.proofs.OctetKinds.{Apart, Within, any, besides, among_within, among_apart, besides_apart, besides_rest, flip}
use Rattle.grammar.proofs.Optional.{maybe_exact, maybe_leads}
use Rattle.grammar.proofs.Repeats.{many_exact, many_leads}
use Rattle.grammar.proofs.Spaces.{no_space, spaces_then, sign_then, sign_heads, sign_opens, gap_then, gap_heads, ends_exact, ends_leads, letters_no_space, digits_no_space}
use Rattle.grammar.proofs.Words.{word_then}
use Rattle.net_types.specs.declared.prefix.Prefix.{Prefix}
use Rattle.net_types.specs.declared.export.Which.TheVariants.{Every, Exactly}
use Rattle.net_types.specs.declared.export.Which.TheVariants as whiches
use Rattle.net_types.specs.PolicyGrammar.{prefix}
use Rattle.net_types.specs.ExportTexts.{verdict, receiver, reach, about, named, rule, more_rule, put_last}
use Rattle.net_types.specs.ExportTexts as texts
use Rattle.net_types.specs.PrefixReading.{read_prefix}
use Rattle.text_fields.proofs.PrefixExact.{prefix_exact, prefix_heads}
use Rattle.net_types.specs.ExportReading.{read_verdict, read_receiver, read_reach, read_about, read_rule, read_more_rule, read_more_rules, read_rules}

-- ---- what may stand behind each part

abbrev after_receiver : ℕ → Bool
after_receiver = among (codes " ")

abbrev after_about : ℕ → Bool
after_about = among (codes " ;")

abbrev after_rule : ℕ → Bool
after_rule = among (codes ";")

abbrev pub after_rules : ℕ → Bool
after_rules = among []

abbrev is_star : ℕ → Bool
is_star = among (codes "*")

abbrev is_plus : ℕ → Bool
is_plus = among (codes "+")

-- a kind apart from a table lies besides it
beside : (xs : List ℕ) (test : ℕ → Bool) → Apart (among xs) test → Within test (besides xs)
beside xs test apart c h = not_from_false (among xs c) (false_from_ne_true (among xs c) (λ k. apart c k h))

space_among : Within is_space after_receiver
space_among c h = or_left (eqb c 32) false h

-- ---- the parts of a rule

verdict_exact : (d : ℕ) → IsExact (λ e. verdict) d any read_verdict
unfolding read_verdict
verdict_exact d =
    pick _ _ d (codes "a") (codes "d") any _ _ refl
    (both_heads (λ e. word (codes "allow")) _ (among (codes "a")) (word_heads 97 (codes "llow") (among (codes "a")) refl))
    (both_heads (λ e. word (codes "deny")) _ (among (codes "d")) (word_heads 100 (codes "eny") (among (codes "d")) refl))
    (word_then (codes "allow") (λ e. rules.pure true) d any (reading.pure true) (pure_exact true d any))
    (word_then (codes "deny") (λ e. rules.pure false) d any (reading.pure false) (pure_exact false d any))

verdict_heads : Heads (λ e. verdict) (among (codes "ad"))
verdict_heads =
    either_heads _ _ (among (codes "ad"))
    (both_heads (λ e. word (codes "allow")) _ (among (codes "ad")) (word_heads 97 (codes "llow") (among (codes "ad")) refl))
    (both_heads (λ e. word (codes "deny")) _ (among (codes "ad")) (word_heads 100 (codes "eny") (among (codes "ad")) refl))

every_name : Heads (λ e. rules.◌>>◌ (word (codes "*")) (rules.pure {X = Option (List ℕ)} None)) is_star
every_name = both_heads (λ e. word (codes "*")) _ is_star (word_heads 42 [] is_star refl)

one_name : Heads (λ e. rules.◌>>=◌ name (λ n. rules.pure (Some n))) is_letter
one_name = both_heads (λ e. name) (λ n e. rules.pure (Some n)) is_letter name_heads

receiver_exact : (d : ℕ) → IsExact (λ e. receiver) d after_receiver read_receiver
unfolding read_receiver
receiver_exact d =
    either_exact (λ e. rules.◌>>◌ (word (codes "*")) (rules.pure {X = Option (List ℕ)} None)) (λ e. rules.◌>>=◌ name (λ n. rules.pure (Some n))) d is_star (besides (codes "*")) after_receiver
    (besides_apart (codes "*")) every_name
    (Heads-within _ is_letter (besides (codes "*")) (beside (codes "*") is_letter (among_apart (codes "*") is_letter refl)) one_name)
    (besides_rest (codes "*")) (reading.◌>>◌ (read_word (codes "*")) (reading.pure {X = Option (List ℕ)} None)) (reading.◌>>=◌ read_name (λ n. reading.pure (Some n)))
    (word_then (codes "*") (λ e. rules.pure None) d after_receiver (reading.pure None) (pure_exact None d after_receiver))
    (map_exact (λ e. name) Some d after_receiver read_name (name_exact d after_receiver (flip after_receiver is_name_octet (among_apart (codes " ") is_name_octet refl))))

receiver_heads : Heads (λ e. receiver) no_space
receiver_heads =
    either_heads (λ e. rules.◌>>◌ (word (codes "*")) (rules.pure {X = Option (List ℕ)} None)) (λ e. rules.◌>>=◌ name (λ n. rules.pure (Some n))) no_space
    (Heads-within _ is_star no_space (among_within (codes "*") no_space refl) every_name)
    (Heads-within _ is_letter no_space letters_no_space one_name)

plus_heads : (p : Prefix) → Heads (λ e. rules.◌>>◌ (word (codes "+")) (rules.pure (whiches.Within p))) is_plus
plus_heads p = both_heads (λ e. word (codes "+")) _ is_plus (word_heads 43 [] is_plus refl)

plus_opens : (p : Prefix) (at c : ℕ) → is_plus c ≡ true → (rules.◌>>◌ (word (codes "+")) (rules.pure (whiches.Within p))).Begins at (c ∷ [])
unfolding ◌>>=◌
plus_opens p at c h = go (or_cases (eqb c 43) false h)
  where
    go : (eqb c 43 ≡ true) ⊎ (false ≡ true) → (rules.◌>>◌ (word (codes "+")) (rules.pure (whiches.Within p))).Begins at (c ∷ [])
    go (inl e) = let same : c ≡ 43 = eqb-true c 43 e in inl ([], ap (λ (x : ℕ). x ∷ []) (sym same))
    go (inr e) = absurd cc

plus_apart : Apart is_plus after_about
plus_apart = among_apart (codes "+") after_about refl

abbrev after_prefix : ℕ → Bool
after_prefix = among (codes "+ ;")

one_exact : (d : ℕ) → IsExact (λ e. rules.◌>>=◌ prefix (λ p. reach p)) d after_about (reading.◌>>=◌ read_prefix (λ p. read_reach p))
unfolding read_reach
one_exact d =
    both_exact (λ e. prefix) (λ p e. reach p) d after_prefix after_about
    (λ p. maybe_leads (Exactly p) _ d is_plus after_about (plus_heads p) plus_apart (plus_opens p) after_prefix (among_within (codes "+") after_prefix refl) (among_within (codes " ;") after_prefix refl))
    read_prefix (λ p. read_reach p) (prefix_exact (codes "+ ;") refl refl d)
    (λ p. maybe_exact (Exactly p) _ d is_plus after_about (plus_heads p) plus_apart (plus_opens p) _
    (word_then (codes "+") (λ e. rules.pure (whiches.Within p)) d after_about (reading.pure (whiches.Within p)) (pure_exact (whiches.Within p) d after_about)))

every_prefix : Heads (λ e. rules.◌>>◌ (word (codes "*")) (rules.pure Every)) is_star
every_prefix = both_heads (λ e. word (codes "*")) _ is_star (word_heads 42 [] is_star refl)

one_prefix : Heads (λ e. rules.◌>>=◌ prefix (λ p. reach p)) is_digit
one_prefix = both_heads (λ e. prefix) (λ p e. reach p) is_digit prefix_heads

about_exact : (d : ℕ) → IsExact (λ e. about) d after_about read_about
unfolding read_about
about_exact d =
    either_exact (λ e. rules.◌>>◌ (word (codes "*")) (rules.pure Every)) (λ e. rules.◌>>=◌ prefix (λ p. reach p)) d is_star (besides (codes "*")) after_about
    (besides_apart (codes "*")) every_prefix
    (Heads-within _ is_digit (besides (codes "*")) (beside (codes "*") is_digit (among_apart (codes "*") is_digit refl)) one_prefix)
    (besides_rest (codes "*")) (reading.◌>>◌ (read_word (codes "*")) (reading.pure Every)) (reading.◌>>=◌ read_prefix (λ p. read_reach p))
    (word_then (codes "*") (λ e. rules.pure Every) d after_about (reading.pure Every) (pure_exact Every d after_about))
    (one_exact d)

about_heads : Heads (λ e. about) no_space
about_heads =
    either_heads (λ e. rules.◌>>◌ (word (codes "*")) (rules.pure Every)) (λ e. rules.◌>>=◌ prefix (λ p. reach p)) no_space
    (Heads-within _ is_star no_space (among_within (codes "*") no_space refl) every_prefix)
    (Heads-within _ is_digit no_space digits_no_space one_prefix)

-- ---- rules

rule_exact : (d : ℕ) → IsExact (λ e. rule) d after_rule read_rule
unfolding read_rule
rule_exact d =
    both_exact (λ e. verdict) _ d any after_rule (λ allow. any_leads _ after_rule) _ _ (verdict_exact d)
    (λ allow. gap_then _ d after_rule _ (Heads-leads _ no_space after_rule no_space (λ c h. h) (both_heads _ _ no_space receiver_heads))
    (both_exact (λ e. receiver) _ d after_receiver after_rule
    (λ who. Heads-leads _ is_space after_rule after_receiver space_among (both_heads _ _ is_space gap_heads)) _ _ (receiver_exact d)
    (λ who. gap_then _ d after_rule _ (Heads-leads _ no_space after_rule no_space (λ c h. h) (both_heads _ _ no_space about_heads))
    (both_exact (λ e. about) _ d after_about after_rule
    (λ which. ends_leads (named allow who which) after_rule after_about refl (among_within (codes ";") after_about refl)) _ _ (about_exact d)
    (λ which. ends_exact (named allow who which) d after_rule (among_within (codes ";") no_space refl))))))

rule_heads : Heads (λ e. rule) (among (codes "ad"))
rule_heads = both_heads (λ e. verdict) _ (among (codes "ad")) verdict_heads

more_exact : (d : ℕ) → IsExact (λ e. more_rule) d after_rule read_more_rule
unfolding read_more_rule
more_exact d = sign_then (codes ";") _ d after_rule _ (headed _ (codes "ad") after_rule no_space refl rule_heads) (rule_exact d)

more_heads : Heads (λ e. more_rule) (among (codes ";"))
more_heads = sign_heads 59 [] _ (among (codes ";")) refl

more_opens : (at c : ℕ) → among (codes ";") c ≡ true → more_rule.Begins at (c ∷ [])
more_opens at c h = sign_opens 59 [] rule at c h

pub rules_exact : (d : ℕ) → IsExact (λ e. texts.rules) d after_rules read_rules
unfolding read_rules read_more_rules
rules_exact d =
    spaces_then _ d after_rules _ (headed _ (codes "ad") after_rules no_space refl (both_heads (λ e. rule) _ (among (codes "ad")) rule_heads))
    (both_exact (λ e. rule) _ d after_rule after_rules
    (λ first. many_leads put_last _ d (among (codes ";")) after_rule after_rules more_heads (among_apart (codes ";") after_rules refl) more_opens (λ c h. h) (among_within [] after_rule refl) read_more_rule (more_exact d) (first ∷ []))
    _ _ (rule_exact d)
    (λ first. many_exact put_last _ d (among (codes ";")) after_rule after_rules more_heads (among_apart (codes ";") after_rules refl) more_opens (λ c h. h) (among_within [] after_rule refl) read_more_rule (more_exact d) (first ∷ [])))
