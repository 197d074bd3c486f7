-- What an answer beside the reading of a text says.
use Rattle.std.proofs.Common.{◌≡◌, ℕ, ◌≤◌, List, length, Result, Ok, Err, refl, ap, ◌∙◌, subst}
use Rattle.std.specs.Prelude.{IfOk, IfErr, MatchResult}
use Rattle.grammar.specs.Texts.{IsPlainText, read_whole}
use Rattle.grammar.specs.Reading.{OutOfMemory}
use Rattle.grammar.proofs.TextAnswers.{IsPlainCause, plain_ok, plain_err, plain_found}
use Rattle.net_types.specs.declared.named_rule.NamedRule.{NamedRule}
use Rattle.net_types.specs.ExportTexts.{rules}
use Rattle.export_rules.specs.declared.fault.RulesFault.{RulesFault}
use Rattle.export_rules.specs.declared.fault.RulesFault.TheVariants.{TextLong, Syntax, Memory}
use Rattle.net_types.specs.ExportReading.{read_rules, or_place, rules_of_text}
use Rattle.export_rules.specs.Answers.{cause_of, Gives, IsCause}
use Rattle.export_rules.proofs.RulesExact.{after_rules, rules_exact}

module _ {X : Type 0} (view : X → List NamedRule) (max_len : ℕ) (text : List ℕ) (short : length text ≤ max_len) (result : Result X RulesFault) (h : Gives view result (read_whole read_rules text)) where
  -- what is answered is what the text spells
  pub ok_said : IfOk result (λ x. (length text ≤ max_len) × IsPlainText rules text (view x))
  ok_said = go result (plain_ok cause_of view text after_rules read_rules rules (rules_exact 0) result h)
    where
      go : (r : Result X RulesFault) → IfOk r (λ x. IsPlainText rules text (view x)) → IfOk r (λ x. (length text ≤ max_len) × IsPlainText rules text (view x))
      go (Ok x) k = (short, k)
      go (Err e) k = tt

  -- the fault is why the text was refused
  pub err_said : IfErr result (λ e. IsCause max_len text e)
  err_said = go result (plain_err cause_of view text after_rules read_rules rules (rules_exact 0) result h)
    where
      go : (r : Result X RulesFault) → IfErr r (λ e. IsPlainCause rules text (cause_of e)) → IfErr r (λ e. IsCause max_len text e)
      go (Ok x) k = tt
      go (Err TextLong) k = absurd k
      go (Err (Syntax at)) k = (short, k)
      go (Err Memory) k = tt

  -- what the text spells is answered, unless memory ran out
  pub found_said : length text ≤ max_len → (rs : List NamedRule) → rules.Spells 0 text rs → MatchResult result (λ x. view x ≡ rs) (λ e. e ≡ Memory)
  found_said le rs sp = go result (plain_found cause_of view text after_rules read_rules rules (rules_exact 0) result h rs sp)
    where
      only_memory : (e : RulesFault) → cause_of e ≡ OutOfMemory → e ≡ Memory
      only_memory TextLong k = absurd cc
      only_memory (Syntax at) k = absurd cc
      only_memory Memory k = refl

      go : (r : Result X RulesFault) → MatchResult r (λ x. view x ≡ rs) (λ e. cause_of e ≡ OutOfMemory) → MatchResult r (λ x. view x ≡ rs) (λ e. e ≡ Memory)
      go (Ok x) k = k
      go (Err e) k = only_memory e k

  -- what is answered is the value of the text
  pub value_said : IfOk result (λ x. rules_of_text text ≡ Ok (view x))
  unfolding rules_of_text
  value_said = go result h
    where
      go : (r : Result X RulesFault) → Gives view r (read_whole read_rules text) → IfOk r (λ x. or_place (read_whole read_rules text) ≡ Ok (view x))
      go (Ok x) k = ap or_place k
      go (Err e) k = tt

  -- the place of a fault is the value of the text
  pub place_said : IfErr result (λ e. (at : ℕ) → e ≡ Syntax at → rules_of_text text ≡ Err at)
  unfolding rules_of_text
  place_said = go result h
    where
      go : (r : Result X RulesFault) → Gives view r (read_whole read_rules text) → IfErr r (λ e. (at : ℕ) → e ≡ Syntax at → or_place (read_whole read_rules text) ≡ Err at)
      go (Ok x) k = tt
      go (Err TextLong) k = absurd k
      go (Err (Syntax n)) k = λ at e. let same : n ≡ at = cc in ap or_place k ∙ ap Err same
      go (Err Memory) k = λ at e. absurd cc

  -- the text was not too long
  pub never_long : result ≡ Err TextLong → ⊥
  never_long e = subst (λ r. Gives view r (read_whole read_rules text)) e h
