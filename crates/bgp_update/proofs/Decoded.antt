-- What decoding may promise, since reading is exact and each message has one value.
use Rattle.std.proofs.Common.{◌≡◌, ℕ, List, length, Result, Ok, Err, refl, sym, ap, subst, inl, inr}
use Rattle.std.specs.Prelude.{◌⊎◌, IfOk, MatchResult}
use Rattle.grammar.specs.FormatReading.{read_to_end}
use Rattle.grammar.proofs.Messages.{IsBad, IsMessage, Says}
use Rattle.net_types.specs.UpdateFormat.{Parts, message}
use Rattle.net_types.specs.UpdateSpelling.{IsFault, IsUpdateOf, Spells}
use Rattle.net_types.specs.declared.attribute.Attribute.{Attribute}
use Rattle.net_types.specs.declared.prefix.Prefix.{Prefix}
use Rattle.net_types.specs.declared.update.Fault.{Fault}
use Rattle.net_types.specs.declared.update.Update.{Update}
use Rattle.bgp_update.proofs.OneUpdate.{one_update}
use Rattle.bgp_update.proofs.UpdateExact.{message_said}
use Rattle.bgp_update.specs.Answers.{IsDecoded, IsFinished, head_of, parts_of}
use Rattle.net_types.specs.UpdateReading.{read_head, read_message, read_prefixes}
use Rattle.bgp_update.specs.declared.fault.UpdateFault.{UpdateFault}
use Rattle.bgp_update.specs.declared.fault.UpdateFault.TheVariants.{Bad, Memory}

-- The head and the announced prefixes were read, and joined.
pub decoded : (b rest : List ℕ) (w : List Prefix) (all : List Attribute) (announced : List Prefix) (r : Result Update UpdateFault)
    → read_head (length b) b ≡ Ok (head_of w all, rest) → read_prefixes rest ≡ Ok announced → IsFinished (parts_of w all announced) r → IsDecoded b r
unfolding read_message read_prefixes read_to_end
decoded b rest w all announced (Ok u) e f h = (parts_of w all announced, rw (e, f, h.0) refl, h.1)
decoded b rest w all announced (Err (Bad x)) e f h = rw (e, f, h.0) (ap (λ (y : Fault). Err y) (sym h.1))
decoded b rest w all announced (Err Memory) e f h = tt

module _ (b : List ℕ) where
  read_as : (parts : Parts) → read_message b ≡ Ok parts → IsMessage (message (length b)) b parts
  read_as parts e = subst (Says (message (length b)) b) e (message_said b)

  failed_as : (f : Fault) → read_message b ≡ Err f → IsBad (message (length b)) b f
  failed_as f e = subst (Says (message (length b)) b) e (message_said b)

  pub spells_said : (r : Result Update UpdateFault) → IsDecoded b r → IfOk r (Spells b)
  spells_said (Ok u) h = record { parts = h.0; spells = (read_as h.0 h.1).spells; value = h.2 }
  spells_said (Err e) h = tt

  pub only_said : (r : Result Update UpdateFault) → IsDecoded b r → IfOk r (λ u. (v : Update) → Spells b v → v ≡ u)
  only_said (Ok u) h = λ v s. one_update h.0 v u (subst (λ (parts : Parts). IsUpdateOf parts v) ((read_as h.0 h.1).only s.parts s.spells) s.value) h.2
  only_said (Err e) h = tt

  pub sound_said : (r : Result Update UpdateFault) → IsDecoded b r → IfOk r (λ u. (f : Fault) → IsFault b f → ⊥)
  sound_said (Ok u) h = λ f x. (read_as h.0 h.1).sound f x.fails
  sound_said (Err e) h = tt

  pub fault_said : (r : Result Update UpdateFault) → IsDecoded b r → (f : Fault) → r ≡ Err (Bad f) → IsFault b f
  fault_said r h f e = record { fails = (failed_as f (subst (λ (q : Result Update UpdateFault). IsDecoded b q) e h)).fails }

  pub refused_said : (r : Result Update UpdateFault) → IsDecoded b r → (f : Fault) → IsFault b f → MatchResult r (λ u. ⊥) (λ e. (e ≡ Bad f) ⊎ (e ≡ Memory))
  refused_said (Ok u) h f x = (read_as h.0 h.1).sound f x.fails
  refused_said (Err (Bad g)) h f x = inl (ap (λ (y : Fault). Bad y) (sym ((failed_as g h).first f x.fails)))
  refused_said (Err Memory) h f x = inr refl

  pub found_said : (r : Result Update UpdateFault) → IsDecoded b r → (u : Update) → Spells b u → MatchResult r (λ v. v ≡ u) (λ e. e ≡ Memory)
  found_said (Ok v) h u s = one_update h.0 v u h.2 (subst (λ (parts : Parts). IsUpdateOf parts u) ((read_as h.0 h.1).only s.parts s.spells) s.value)
  found_said (Err (Bad g)) h u s = absurd ((failed_as g h).none s.parts s.spells)
  found_said (Err Memory) h u s = refl
