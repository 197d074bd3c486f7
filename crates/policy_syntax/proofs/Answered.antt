-- What an answer beside the reading of a text says.
use Rattle.std.proofs.Common.{◌≡◌, ℕ, ◌≤◌, List, length, Result, Ok, Err, refl, subst}
use Rattle.std.specs.Prelude.{IfOk, IfErr, MatchResult}
use Rattle.grammar.specs.Texts.{IsText, read_whole}
use Rattle.grammar.specs.Reading.{OutOfMemory}
use Rattle.grammar.proofs.TextAnswers.{IsTextCause, text_ok, text_err, text_found}
use Rattle.net_types.specs.Policies.{Policy}
use Rattle.policy_syntax.specs.declared.fault.SyntaxFault.{SyntaxFault}
use Rattle.policy_syntax.specs.declared.fault.SyntaxFault.TheVariants.{TextLong, Syntax, TooDeep, Memory}
use Rattle.net_types.specs.PolicyGrammar.{policy}
use Rattle.net_types.specs.PolicyReading.{read_start, policy_of_text}
use Rattle.policy_syntax.specs.After.{after_policy}
use Rattle.policy_syntax.specs.Answers.{cause_of, Gives, IsCause, FindsText}
use Rattle.policy_syntax.specs.ReadsBack.{EachPart, ReadsBack}
use Rattle.policy_syntax.proofs.SpelledFits.{text_back}
use Rattle.policy_syntax.proofs.PolicyExact.{start_exact}

module _ {X : Type 0} (view : X → Policy) (max_len limit : ℕ) (text : List ℕ) (short : length text ≤ max_len) (result : Result X SyntaxFault) (h : Gives view result (read_whole (read_start limit) text)) where
  -- what is answered is what the text spells
  pub ok_said : IfOk result (λ x. (length text ≤ max_len) × IsText policy limit text (view x))
  ok_said = go result (text_ok cause_of view text after_policy (read_start limit) policy limit (start_exact limit) result h)
    where
      go : (r : Result X SyntaxFault) → IfOk r (λ x. IsText policy limit text (view x)) → IfOk r (λ x. (length text ≤ max_len) × IsText policy limit text (view x))
      go (Ok x) k = (short, k)
      go (Err e) k = tt

  -- each part of what is answered reads back
  pub back_said : IfOk result (λ x. EachPart (λ p. ReadsBack limit p) (view x))
  back_said = go result ok_said
    where
      go : (r : Result X SyntaxFault) → IfOk r (λ x. (length text ≤ max_len) × IsText policy limit text (view x)) → IfOk r (λ x. EachPart (λ p. ReadsBack limit p) (view x))
      go (Ok x) k = text_back limit text (view x) k.1.spells
      go (Err e) k = tt

  -- the fault is why the text was refused
  pub err_said : IfErr result (λ e. IsCause max_len limit text e)
  err_said = go result (text_err cause_of view text after_policy (read_start limit) policy limit (start_exact limit) result h)
    where
      go : (r : Result X SyntaxFault) → IfErr r (λ e. IsTextCause policy limit text (cause_of e)) → IfErr r (λ e. IsCause max_len limit text e)
      go (Ok x) k = tt
      go (Err TextLong) k = absurd k
      go (Err (Syntax at)) k = (short, k)
      go (Err (TooDeep at)) k = (short, k)
      go (Err Memory) k = tt

  -- what the text spells is answered, unless memory ran out
  pub found_said : FindsText max_len limit text view result
  found_said le p sp = go result (text_found cause_of view text after_policy (read_start limit) policy limit (start_exact limit) result h p sp)
    where
      only_memory : (e : SyntaxFault) → cause_of e ≡ OutOfMemory → e ≡ Memory
      only_memory TextLong k = absurd cc
      only_memory (Syntax at) k = absurd cc
      only_memory (TooDeep at) k = absurd cc
      only_memory Memory k = refl

      go : (r : Result X SyntaxFault) → MatchResult r (λ x. view x ≡ p) (λ e. cause_of e ≡ OutOfMemory) → MatchResult r (λ x. view x ≡ p) (λ e. e ≡ Memory)
      go (Ok x) k = k
      go (Err e) k = only_memory e k

  -- the text was not too long
  pub never_long : result ≡ Err TextLong → ⊥
  never_long e = subst (λ r. Gives view r (read_whole (read_start limit) text)) e h

-- what is answered is what reading the text gives
pub reads_said : {X : Type 0} (view : X → Policy) (text : List ℕ) (result : Result X SyntaxFault) → Gives view result (read_whole (read_start 64) text) → Gives view result (policy_of_text text)
unfolding policy_of_text
reads_said view text result h = h
