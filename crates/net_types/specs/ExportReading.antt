-- Reading the text of export rules, as the grammar spells it.
use Rattle.std.specs.Prelude.{ℕ, Bool, true, false, Option, Some, None, List, [], ◌∷◌, length, codes, Result, Ok, Err}
use Rattle.grammar.specs.TextReading.{Fault, Wrong, Deep, Reader, ◌>>=◌, ◌>>◌, pure, read_word, read_either, read_maybe, read_many}
use Rattle.grammar.specs.Texts.{read_whole}
use Rattle.grammar.specs.Octets.{among}
use Rattle.grammar.specs.TokenReading.{read_sign, read_spaces, read_gap, read_name}
use Rattle.net_types.specs.declared.prefix.Prefix.{Prefix}
use Rattle.net_types.specs.declared.export.Which.{Which}
use Rattle.net_types.specs.declared.export.Which.TheVariants.{Every, Exactly, Within}
use Rattle.net_types.specs.declared.named_rule.NamedRule.{NamedRule}
use Rattle.net_types.specs.ExportTexts.{named, put_last}
use Rattle.net_types.specs.PrefixReading.{read_prefix}

-- allow or deny
unfoldable pub read_verdict : Reader Bool
read_verdict = read_either (among (codes "a")) (do read_word (codes "allow"); pure true) (do read_word (codes "deny"); pure false)

-- every participant, or the one of a name
unfoldable pub read_receiver : Reader (Option (List ℕ))
read_receiver = read_either (among (codes "*")) (do read_word (codes "*"); pure None) (do n ← read_name; pure (Some n))

-- how far a prefix reaches
unfoldable pub read_reach : Prefix → Reader Which
read_reach p = read_maybe (among (codes "+")) (Exactly p) (do read_word (codes "+"); pure (Within p))

-- every prefix, or one
unfoldable pub read_about : Reader Which
read_about = read_either (among (codes "*")) (do read_word (codes "*"); pure Every) (do p ← read_prefix; read_reach p)

-- a rule and the spaces behind it
unfoldable pub read_rule : Reader NamedRule
read_rule = do
  allow ← read_verdict
  read_gap
  who ← read_receiver
  read_gap
  which ← read_about
  read_spaces
  pure (named allow who which)

-- a further rule
unfoldable pub read_more_rule : Reader NamedRule
read_more_rule = do
  read_sign (codes ";")
  read_rule

-- the rules behind those so far
unfoldable pub read_more_rules : List NamedRule → Reader (List NamedRule)
read_more_rules first n s = read_many (length s) (among (codes ";")) put_last read_more_rule first n s

-- the rules of a text without what may stand behind them
unfoldable pub read_rules : Reader (List NamedRule)
read_rules = do
  read_spaces
  first ← read_rule
  read_more_rules (first ∷ [])

-- a value, or the place of the fault
abbrev pub or_place : {X : Type 0} → Result X Fault → Result X ℕ
or_place (Ok x) = Ok x
or_place (Err (Wrong at)) = Err at
or_place (Err (Deep at)) = Err at

-- the rules that a whole text spells, or the place at which it is wrong
unfoldable pub rules_of_text : List ℕ → Result (List NamedRule) ℕ
rules_of_text text = or_place (read_whole read_rules text)
