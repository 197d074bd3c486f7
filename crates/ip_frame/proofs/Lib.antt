mod WordLemmas
mod SumLemmas
mod ChangeLemmas
mod WrittenLemmas
