-- What is reserved for an offer before any is made is no less than it takes when its turn comes.
use Rattle.std.proofs.Common.{◌≡◌, ℕ, ◌+◌, ◌<◌, ◌≤◌, Bool, true, false, cond, ◌&&◌, eqb, get_or, List, [], ◌∷◌, ◌++◌, length, not, take, eq-eqb, sym, ap, ◌∙◌, refl, arith}
use Rattle.std.specs.Prelude.{Option, Some, None}
use Rattle.std.specs.Cmp.{IsTotalOrder, nat_cmp_total}
use Rattle.std.specs.FinMap.{get}
use Rattle.std.specs.Ordering.{eq_by_cmp, is_lt}
use Rattle.std.proofs.lemmas.Cmp.{on_total, then_total}
use Rattle.advert_queue.specs.Telling.{is_pending}
use Rattle.events.proofs.NewsLemmas.{get-with_news}
use Rattle.events.specs.Pending.{same_entry}
use Rattle.exchange_laws.proofs.Lists.{clash}
use Rattle.fast_path.proofs.OfferedPresent.{offered_here, offered_other, pid_is}
use Rattle.fast_path.proofs.OffersCounted.{take_next}
use Rattle.fast_path.specs.Demands.{greater, is_above, offer_cmp, place_for}
use Rattle.fast_path.specs.Offers.{Present, offered, offered_all, place_taken, present_to}
use Rattle.fast_path.specs.declared.planned.Advert.{Advert}
use Rattle.net_types.proofs.OrderLemmas.{prefix_tie, prefixes_total}
use Rattle.net_types.proofs.TieLemmas.{less, tie_Equal, ties_itself}
use Rattle.net_types.specs.Attributes.{same_option}
use Rattle.net_types.specs.Keys.{prefix_cmp}
use Rattle.net_types.specs.declared.address.Pid.{Pid}
use Rattle.net_types.specs.declared.prefix.Prefix.{Prefix}

at_most : (b : Bool) → cond b 0 1 ≤ 1
at_most true = omega arith
at_most false = omega arith

-- ---- the offers so far, and one more

pub offered_last : (all : Present) (os : List Advert) (o : Advert) → offered_all all (os ++ o ∷ []) ≡ offered (offered_all all os) o
offered_last all [] o = refl
offered_last all (x ∷ xs) o = offered_last (offered all x) xs o

pub offered_next : (all : Present) (os : List Advert) (i : ℕ) (x : Advert) → i < length os → x ≡ get_or os i x → offered_all all (take (i + 1) os) ≡ offered (offered_all all (take i os)) x
offered_next all os i x within is = ap (offered_all all) (take_next os i x within is) ∙ offered_last all (take i os) x

-- ---- prefixes that nothing was offered of

offers_total : IsTotalOrder offer_cmp
offers_total = then_total (on_total (λ (k : Pid × Prefix). k.0.0) nat_cmp_total) (on_total (λ (k : Pid × Prefix). k.1) prefixes_total)

-- what is present of any other prefix, or for any other participant, stays
elsewhere : (all : Present) (x : Advert) (who : Pid) (p : Prefix) → x.who.0 < length all → (who ≡ x.who → p ≡ x.prefix → ⊥) → get (present_to (offered all x) who) p ≡ get (present_to all who) p
elsewhere all x who p within apart = by (eqb who.0 x.who.0) refl (eq_by_cmp prefix_cmp p x.prefix) refl
  where
    by : (b : Bool) → eqb who.0 x.who.0 ≡ b → (c : Bool) → eq_by_cmp prefix_cmp p x.prefix ≡ c → get (present_to (offered all x) who) p ≡ get (present_to all who) p
    by true whose true which = absurd (apart (pid_is who x.who whose) (prefix_tie p x.prefix which))
    by true whose false which =
        let to : who ≡ x.who = pid_is who x.who whose in
        (λ i. get (present_to (offered all x) (to i)) p)
        ∙ ap (λ m. get m p) (offered_here all x within)
        ∙ get-with_news (present_to all x.who) x.prefix x.entry p
        ∙ ap (λ b. cond b x.entry (get (present_to all x.who) p)) which
        ∙ sym (λ i. get (present_to all (to i)) p)
    by false other c which = ap (λ m. get m p) (offered_other all x who (λ at. clash (eq-eqb who.0 x.who.0 at) other))

-- what is present of prefixes above the greatest is what was
abbrev pub IsAsBefore : Present → Present → Option (Pid × Prefix) → Type 0
IsAsBefore before all greatest = (who : Pid) (p : Prefix) → is_above greatest who p ≡ true → get (present_to all who) p ≡ get (present_to before who) p

above_both : (greatest : Option (Pid × Prefix)) (x who : Pid) (q p : Prefix) → is_above greatest x q ≡ true → is_above (Some (x, q)) who p ≡ true → is_above greatest who p ≡ true
above_both None x who q p one two = refl
above_both (Some g) x who q p one two = ap is_lt (offers_total.trans g (x, q) (who, p) (less _ one) (less _ two))

not_above_itself : (x who : Pid) (q p : Prefix) → is_above (Some (x, q)) who p ≡ true → who ≡ x → p ≡ q → ⊥
not_above_itself x who q p above to of =
    let same : is_lt (offer_cmp (x, q) (who, p)) ≡ false = (λ i. is_lt (offer_cmp (x, q) (to i, of i))) ∙ ap is_lt (tie_Equal _ (ties_itself offers_total (x, q))) in
    clash above same

pub as_before : (before all : Present) (greatest : Option (Pid × Prefix)) (x : Advert) → x.who.0 < length all → IsAsBefore before all greatest → IsAsBefore before (offered all x) (greater greatest x.who x.prefix)
as_before before all greatest x within same who p above = by (is_above greatest x.who x.prefix) refl above
  where
    by : (b : Bool) → is_above greatest x.who x.prefix ≡ b → is_above (cond b (Some (x.who, x.prefix)) greatest) who p ≡ true → get (present_to (offered all x) who) p ≡ get (present_to before who) p
    by true up above =
        elsewhere all x who p within (not_above_itself x.who who x.prefix p above) ∙ same who p (above_both greatest x.who who x.prefix p up above)
    by false down above =
        elsewhere all x who p within (λ to of. clash ((λ i. is_above greatest (sym to i) (sym of i)) ∙ above) down) ∙ same who p above

-- something is pending at the offer's prefix where this is present
abbrev pends : Present → Present → Advert → Bool
pends told m x = is_pending (present_to told x.who) (present_to m x.who) x.prefix

pub place_for-le : (told all : Present) (greatest : Option (Pid × Prefix)) (x : Advert) → place_for told all greatest x ≤ 1
place_for-le told all greatest x = at_most (is_above greatest x.who x.prefix && pends told all x)

pub place_taken-le : (told all : Present) (x : Advert) → place_taken told all x ≤ 1
place_taken-le told all x = at_most (pends told all x)

-- a place is made where one is taken
pub place_enough : (told before all : Present) (greatest : Option (Pid × Prefix)) (x : Advert) → IsAsBefore before all greatest → place_taken told all x ≤ place_for told before greatest x
place_enough told before all greatest x same = by (is_above greatest x.who x.prefix) refl
  where
    by : (b : Bool) → is_above greatest x.who x.prefix ≡ b → place_taken told all x ≤ place_for told before greatest x
    by true up =
        let now : place_taken told all x ≡ cond (pends told before x) 0 1 = ap (λ o. let n : ℕ = cond (not (same_option same_entry (get (present_to told x.who) x.prefix) o)) 0 1 in n) (same x.who x.prefix up) in
        let made : place_for told before greatest x ≡ cond (pends told before x) 0 1 = ap (λ b. let n : ℕ = cond (b && pends told before x) 0 1 in n) up in
        omega (arith, now, made)
    by false down =
        let made : place_for told before greatest x ≡ 1 = ap (λ b. let n : ℕ = cond (b && pends told before x) 0 1 in n) down in
        let few = at_most (pends told all x) in
        omega (arith, made, few)
