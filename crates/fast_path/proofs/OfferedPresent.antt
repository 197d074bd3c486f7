-- With a plan's offers made, what is present for each participant is what is present for it in the state afterwards.
use Rattle.std.proofs.Common.{◌≡◌, ℕ, ◌+◌, ◌<◌, ◌≢◌, ◌⊎◌, Bool, true, false, cond, eqb, List, [], ◌∷◌, zero, suc, length, map, get_or, length-set, get_or-set_same, get_or-set_other, eq-eqb, sym, ap, subst, ◌∙◌, refl, arith, inl, inr}
use Rattle.std.specs.Prelude.{Some, slice_get, unwrap_or}
use Rattle.std.specs.FinMap.{FinMap, empty, get, same_map}
use Rattle.std.specs.Ordering.{eq_by_cmp}
use Rattle.std.proofs.lemmas.Bool.{eqb-true}
use Rattle.std.proofs.lemmas.List.{ext_get_or}
use Rattle.std.proofs.lemmas.List.{length-map}
use Rattle.std.proofs.lemmas.Option.{unwrap_or-slice_get}
use Rattle.events.specs.Pending.{with_news}
use Rattle.events.specs.State.{State, present}
use Rattle.events.specs.declared.Entry.{Entry}
use Rattle.exchange_laws.proofs.Lists.{clash}
use Rattle.net_types.proofs.OrderLemmas.{prefix_tie, prefixes_total}
use Rattle.net_types.proofs.TieLemmas.{prefix_cmp-IsAntisymmetric, ties_itself}
use Rattle.net_types.specs.Keys.{prefix_cmp}
use Rattle.net_types.specs.Routes.{numbers, pids}
use Rattle.net_types.specs.Sets.{Member}
use Rattle.net_types.specs.declared.address.Pid.{Pid}
use Rattle.net_types.specs.declared.prefix.Prefix.{Prefix}
use Rattle.fast_path.proofs.ListPlaces.{mapped_at}
use Rattle.fast_path.specs.Offers.{AreOffers, IsOffered, Present, all_present, offered, offered_all, present_to}
use Rattle.fast_path.specs.declared.planned.Advert.{Advert}
use Rattle.exchange_laws.proofs.Counted.{how_many}
use Rattle.events.proofs.NewsLemmas.{get-with_news}

abbrev Entries : Type 0
Entries = FinMap prefix_cmp Entry

-- ---- what is present for a participant

to_is : (all : Present) (who : Pid) → present_to all who ≡ get_or all who.0 empty
to_is all who = unwrap_or-slice_get all who.0 empty

offered_length : (all : Present) (o : Advert) → length (offered all o) ≡ length all
offered_length all o = length-set all o.who.0 (with_news (present_to all o.who) o.prefix o.entry)

pub offered_here : (all : Present) (o : Advert) → o.who.0 < length all → present_to (offered all o) o.who ≡ with_news (present_to all o.who) o.prefix o.entry
offered_here all o within = to_is (offered all o) o.who ∙ get_or-set_same all o.who.0 (with_news (present_to all o.who) o.prefix o.entry) empty within

pub offered_other : (all : Present) (o : Advert) (who : Pid) → who.0 ≢ o.who.0 → present_to (offered all o) who ≡ present_to all who
offered_other all o who apart = to_is (offered all o) who ∙ get_or-set_other all o.who.0 who.0 (with_news (present_to all o.who) o.prefix o.entry) empty apart ∙ sym (to_is all who)

pub length_all : (all : Present) (os : List Advert) → length (offered_all all os) ≡ length all
length_all all [] = refl
length_all all (o ∷ os) = length_all (offered all o) os ∙ offered_length all o

pub pid_is : (a b : Pid) → eqb a.0 b.0 ≡ true → a ≡ b
pid_is a b e = ap (λ n. let w : Pid = record { 0 = n } in w) (eqb-true a.0 b.0 e)

-- ---- where each offers what is to be present

module _ (then : Present) where
  abbrev IsTo : Advert → Type 0
  IsTo o = (o.who.0 < length then) × (o.entry ≡ get (present_to then o.who) o.prefix)

  -- what is present of the prefix that was offered is what is to be
  now_there : (all : Present) (o : Advert) (who : Pid) (p : Prefix) → length all ≡ length then → IsTo o → o.who ≡ who → o.prefix ≡ p → get (present_to (offered all o) who) p ≡ get (present_to then who) p
  now_there all o who p same to whose which =
      let within : o.who.0 < length all = subst (λ n. o.who.0 < n) (sym same) to.0 in
      subst (λ w. get (present_to (offered all o) w) p ≡ get (present_to then w) p) whose
      (subst (λ q. get (present_to (offered all o) o.who) q ≡ get (present_to then o.who) q) which
      (ap (λ m. get m o.prefix) (offered_here all o within)
      ∙ get-with_news (present_to all o.who) o.prefix o.entry o.prefix
      ∙ ap (λ b. cond b o.entry (get (present_to all o.who) o.prefix)) (ties_itself prefixes_total o.prefix)
      ∙ to.1))

  -- any other is as it was
  other_prefix : (all : Present) (o : Advert) (who : Pid) (p : Prefix) → length all ≡ length then → IsTo o → o.who ≡ who → eq_by_cmp prefix_cmp p o.prefix ≡ false → get (present_to (offered all o) who) p ≡ get (present_to all who) p
  other_prefix all o who p same to whose apart =
      let within : o.who.0 < length all = subst (λ n. o.who.0 < n) (sym same) to.0 in
      subst (λ w. get (present_to (offered all o) w) p ≡ get (present_to all w) p) whose
      (ap (λ m. get m p) (offered_here all o within)
      ∙ get-with_news (present_to all o.who) o.prefix o.entry p
      ∙ ap (λ b. cond b o.entry (get (present_to all o.who) p)) apart)

  -- what is offered later, or is present already
  abbrev Stands : List Advert → Present → Pid → Prefix → Type 0
  Stands os all who p = IsOffered os who p ⊎ (get (present_to all who) p ≡ get (present_to then who) p)

  not_first : (o : Advert) (os : List Advert) (who : Pid) (p : Prefix) → (o.who ≡ who → o.prefix ≡ p → ⊥) → IsOffered (o ∷ os) who p → IsOffered os who p
  not_first o os who p apart is = by is.stands
    where
      by : Member is.offer (o ∷ os) → IsOffered os who p
      by (inl same) = absurd (apart (ap (λ (x : Advert). x.who) (sym same) ∙ is.to) (ap (λ (x : Advert). x.prefix) (sym same) ∙ is.of))
      by (inr later) = record { offer = is.offer; stands = later; to = is.to; of = is.of }

  -- where it isn't this one that offers it, and it is as it was
  kept : (all : Present) (o : Advert) (os : List Advert) (who : Pid) (p : Prefix) → (o.who ≡ who → o.prefix ≡ p → ⊥) → get (present_to (offered all o) who) p ≡ get (present_to all who) p → Stands (o ∷ os) all who p → Stands os (offered all o) who p
  kept all o os who p apart same (inl later) = inl (not_first o os who p apart later)
  kept all o os who p apart same (inr now) = inr (same ∙ now)

  one_more : (all : Present) (o : Advert) (os : List Advert) (who : Pid) (p : Prefix) → length all ≡ length then → IsTo o → Stands (o ∷ os) all who p → Stands os (offered all o) who p
  one_more all o os who p same to there = by (eqb o.who.0 who.0) refl (eq_by_cmp prefix_cmp p o.prefix) refl
    where
      by : (b : Bool) → eqb o.who.0 who.0 ≡ b → (c : Bool) → eq_by_cmp prefix_cmp p o.prefix ≡ c → Stands os (offered all o) who p
      by true whose true which = inr (now_there all o who p same to (pid_is o.who who whose) (sym (prefix_tie p o.prefix which)))
      by true whose false apart =
          kept all o os who p (λ _ at. clash (ap (λ q. eq_by_cmp prefix_cmp q o.prefix) (sym at) ∙ ties_itself prefixes_total o.prefix) apart)
          (other_prefix all o who p same to (pid_is o.who who whose) apart) there
      by false apart c which =
          kept all o os who p (λ at _. clash (eq-eqb o.who.0 who.0 (ap (λ (w : Pid). w.0) at)) apart)
          (ap (λ m. get m p) (offered_other all o who (λ at. clash (eq-eqb o.who.0 who.0 (sym at)) apart))) there

  -- with all offered, it is present
  all_there : (all : Present) (os : List Advert) (who : Pid) (p : Prefix) → length all ≡ length then → ((o : Advert) → Member o os → IsTo o) → Stands os all who p → get (present_to (offered_all all os) who) p ≡ get (present_to then who) p
  all_there all [] who p same each (inl is) = absurd is.stands
  all_there all [] who p same each (inr now) = now
  all_there all (o ∷ os) who p same each there = all_there (offered all o) os who p (offered_length all o ∙ same) (λ x m. each x (inr m)) (one_more all o os who p same (each o (inl refl)) there)

-- ---- of states

abbrev pub pid_at : ℕ → Pid
pid_at n = record { 0 = n }

pub number_at : {A : Type 0} (at : ℕ → A) (low count k : ℕ) → k < count → slice_get (map at (numbers low count)) k ≡ Some (at (low + k))
number_at at low zero k within = absurd (omega arith)
number_at at low (suc count) zero within = ap (λ n. Some (at n)) (let same : low ≡ low + 0 = omega arith in same)
number_at at low (suc count) (suc k) within = number_at at (low + 1) count k (omega arith) ∙ ap (λ n. Some (at n)) (let same : low + 1 + k ≡ low + suc k = omega arith in same)

-- a declared participant stands at its place
pub listed_at : (count : ℕ) (who : Pid) → who.0 < count → slice_get (map pid_at (numbers 0 count)) who.0 ≡ Some who
listed_at count who declared = number_at pid_at 0 count who.0 declared ∙ ap (λ n. Some (pid_at n)) (let same : 0 + who.0 ≡ who.0 = omega arith in same)

pub state_length : (s : State) → length (all_present s) ≡ length s.routing.participants
state_length s = length-map (pids s.routing) (present s) ∙ how_many pid_at 0 (length s.routing.participants)

pub state_at : (s : State) (who : Pid) → who.0 < length s.routing.participants → present_to (all_present s) who ≡ present s who
state_at s who declared =
    ap (λ o. unwrap_or o empty) (mapped_at (present s) (pids s.routing) who.0 who (listed_at (length s.routing.participants) who declared))

-- what is offered leads from what is present in one state to what is present in another
pub offered_present : (s s1 : State) (os : List Advert) → s1.routing.participants ≡ s.routing.participants → AreOffers s s1 os → offered_all (all_present s) os ≡ all_present s1
offered_present s s1 os alike are =
    ext_get_or empty (offered_all (all_present s) os) (all_present s1) (length_all (all_present s) os ∙ lengths) (λ n within.
    let who : Pid = record { 0 = n } in
    let known : n < length s.routing.participants = subst (λ k. n < k) (length_all (all_present s) os ∙ state_length s) within in
    sym (to_is (offered_all (all_present s) os) who) ∙ same who known ∙ to_is (all_present s1) who)
  where
    lengths : length (all_present s) ≡ length (all_present s1)
    lengths = state_length s ∙ ap length (sym alike) ∙ sym (state_length s1)

    then_at : (who : Pid) → who.0 < length s.routing.participants → present_to (all_present s1) who ≡ present s1 who
    then_at who known = state_at s1 who (subst (λ ps. who.0 < length ps) (sym alike) known)

    each_to : (o : Advert) → Member o os → (o.who.0 < length (all_present s1)) × (o.entry ≡ get (present_to (all_present s1) o.who) o.prefix)
    each_to o m =
        let at = are.each o m in (
          subst (λ k. o.who.0 < k) (sym (sym lengths ∙ state_length s)) at.0,
          at.1 ∙ ap (λ m. get m o.prefix) (sym (then_at o.who at.0)),
        )

    stands : (who : Pid) (p : Prefix) → who.0 < length s.routing.participants → IsOffered os who p ⊎ (get (present_to (all_present s) who) p ≡ get (present_to (all_present s1) who) p)
    stands who p known = elim (are.all who p known) [
      | inl is ↦ inl is
      | inr stays ↦ inr (ap (λ m. get m p) (state_at s who known) ∙ sym stays ∙ ap (λ m. get m p) (sym (then_at who known)))
    ]

    same : (who : Pid) → who.0 < length s.routing.participants → present_to (offered_all (all_present s) os) who ≡ present_to (all_present s1) who
    same who known = same_map prefixes_total prefix_cmp-IsAntisymmetric _ _ (λ p. all_there (all_present s1) (all_present s) os who p lengths each_to (stands who p known))
