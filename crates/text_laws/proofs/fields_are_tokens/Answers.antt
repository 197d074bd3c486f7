use Rattle.text_laws.proofs.TokenAddresses.{address_token, token_address}
use Rattle.text_laws.proofs.TokenFields.{name_token, number_token, token_name, token_number}
use Rattle.text_laws.proofs.fields_are_tokens.Goals as goal

pub returns : goal.returns
returns c = record {
  names = λ text who. (name_token text who, token_name text who);
  numbers = λ low high text n. (number_token low high text n 0, token_number low high text n 0);
  addresses = λ text ip. (address_token text ip, token_address text ip);
}
