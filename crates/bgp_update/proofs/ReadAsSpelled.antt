-- Reading as a function answers what messages spell and by what they fail.
use Rattle.std.proofs.Common.{◌≡◌, ℕ, List, length, Result, Ok, Err, sym, ap, subst}
use Rattle.std.specs.Prelude.{IfOk}
use Rattle.grammar.specs.Formats.{◌>>=◌}
use Rattle.grammar.proofs.Messages.{Says}
use Rattle.net_types.specs.UpdateFormat.{Head, Parts, head, message, no_types}
use Rattle.net_types.specs.UpdateReading.{decoded, read_message, update_of, update_read}
use Rattle.net_types.specs.UpdateSpelling.{IsFault, IsUpdateOf, Spells}
use Rattle.net_types.specs.declared.update.Fault.{Fault}
use Rattle.net_types.specs.declared.update.Update.{Update}
use Rattle.bgp_update.proofs.Decoded.{fault_said, spells_said}
use Rattle.bgp_update.proofs.NewTypes.{all_new}
use Rattle.bgp_update.proofs.OneUpdate.{one_update}
use Rattle.bgp_update.proofs.UpdateExact.{message_said}
use Rattle.bgp_update.proofs.Values.{is_update_of}
use Rattle.bgp_update.specs.Answers.{AreNew, IsDecoded}
use Rattle.bgp_update.specs.declared.fault.UpdateFault.{UpdateFault}
use Rattle.bgp_update.specs.declared.fault.UpdateFault.TheVariants.{Bad}

-- the attributes of a message have types of their own
head_new : (n : ℕ) (s : List ℕ) (h : Head) → (head n).Spells s h → AreNew no_types h.attributes
unfolding ◌>>=◌
head_new n s h sp =
    let last = sp.5.5.5.5.5.5.5.5.5.5.5.5.5.5 in
    subst (λ (x : Head). AreNew no_types x.attributes) (sym last.5.1) (all_new no_types _ last.2 last.4.1)

-- what is made of a message's parts is their update
value_of : (n : ℕ) (s : List ℕ) (parts : Parts) → (message n).Spells s parts → IsUpdateOf parts (update_of parts)
value_of n s parts sp =
    let made : Parts = record { withdrawn = sp.2.withdrawn; attributes = sp.2.attributes; announced = sp.3 } in
    subst (λ (x : Parts). IsUpdateOf x (update_of x)) (sym sp.8) (is_update_of _ (head_new n sp.0 sp.2 sp.5) sp.7)

module _ (b : List ℕ) where
  read_spelled : (u : Update) (r : Result Parts Fault) → Says (message (length b)) b r → update_read r ≡ Ok u → Spells b u
  read_spelled u (Ok parts) h e = record { parts = parts; spells = h.spells; value = subst (IsUpdateOf parts) (let same : update_of parts ≡ u = cc in same) (value_of (length b) b parts h.spells) }
  read_spelled u (Err f) h e = absurd (cc)

  spelled_read : (u : Update) (r : Result Parts Fault) → Says (message (length b)) b r → Spells b u → update_read r ≡ Ok u
  spelled_read u (Ok parts) h s =
      ap (λ (v : Update). Ok v) (one_update parts (update_of parts) u (value_of (length b) b parts h.spells) (subst (λ (x : Parts). IsUpdateOf x u) (h.only s.parts s.spells) s.value))
  spelled_read u (Err f) h s = absurd (h.none s.parts s.spells)

  read_failed : (f : Fault) (r : Result Parts Fault) → Says (message (length b)) b r → update_read r ≡ Err f → IsFault b f
  read_failed f (Ok parts) h e = absurd (cc)
  read_failed f (Err g) h e = record { fails = subst (λ (x : Fault). (message (length b)).Fails b x) (let same : g ≡ f = cc in same) h.fails }

  failed_read : (f : Fault) (r : Result Parts Fault) → Says (message (length b)) b r → IsFault b f → update_read r ≡ Err f
  failed_read f (Ok parts) h x = absurd (h.sound f x.fails)
  failed_read f (Err g) h x = ap (λ (y : Fault). Err y) (sym (h.first f x.fails))

  pub decoded_spells : (u : Update) → decoded b ≡ Ok u → Spells b u
  unfolding decoded
  decoded_spells u e = read_spelled u (read_message b) (message_said b) e

  pub spells_decoded : (u : Update) → Spells b u → decoded b ≡ Ok u
  unfolding decoded
  spells_decoded u s = spelled_read u (read_message b) (message_said b) s

  pub decoded_fails : (f : Fault) → decoded b ≡ Err f → IsFault b f
  unfolding decoded
  decoded_fails f e = read_failed f (read_message b) (message_said b) e

  pub fails_decoded : (f : Fault) → IsFault b f → decoded b ≡ Err f
  unfolding decoded
  fails_decoded f x = failed_read f (read_message b) (message_said b) x

  -- so the program's reading is that function
  pub answer_said : (r : Result Update UpdateFault) → IsDecoded b r → IfOk r (λ u. decoded b ≡ Ok u)
  answer_said (Ok u) h = spells_decoded u (spells_said b (Ok u) h)
  answer_said (Err e) h = tt

  pub cause_said : (r : Result Update UpdateFault) → IsDecoded b r → (f : Fault) → r ≡ Err (Bad f) → decoded b ≡ Err f
  cause_said r h f e = fails_decoded f (fault_said b r h f e)
