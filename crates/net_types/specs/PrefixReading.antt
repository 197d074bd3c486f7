-- Reading a prefix, as the grammar spells it.
use Rattle.std.specs.Prelude.{ℕ, codes}
use Rattle.grammar.specs.TextReading.{Reader, ◌>>=◌, ◌>>◌, pure, read_word, read_maybe}
use Rattle.grammar.specs.Octets.{among}
use Rattle.grammar.specs.TokenReading.{read_address, read_number}
use Rattle.net_types.specs.declared.prefix.Prefix.{Prefix}
use Rattle.net_types.specs.PolicyGrammar.{prefix_of}

-- the number of bits, where it is written
unfoldable pub read_prefix_len : Reader ℕ
read_prefix_len = read_maybe (among (codes "/")) 32 (do read_word (codes "/"); read_number 0 32)

-- an address and its number of bits
unfoldable pub read_prefix : Reader Prefix
read_prefix = do
  ip ← read_address
  len ← read_prefix_len
  pure (prefix_of ip len)
