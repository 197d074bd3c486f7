-- What a participant's session takes.
use Rattle.std.proofs.Common.{◌≡◌, ℕ, zero, suc, ◌<◌, Bool, true, false, cond, ◌||◌, not, List, [], ◌∷◌, length, ◌++◌, ap, sym, subst, ◌∙◌, refl, arith}
use Rattle.std.specs.Prelude.{Option, Some, None, MatchOption, is_some, slice_get, slice_set, take, unwrap_or}
use Rattle.std.specs.FinMap.{FinMap, contains_key-keys, empty, get, keys}
use Rattle.std.specs.List.{list_any}
use Rattle.std.specs.Ordering.{eq_by_cmp}
use Rattle.std.proofs.lemmas.Bool.{false_from_ne_true}
use Rattle.events.proofs.Drains.{get_set}
use Rattle.events.proofs.Reached.{IsDeclared, declared_pid, runs_declared}
use Rattle.events.specs.After.{next, next_by, running, settled, with_known, with_told}
use Rattle.events.specs.Fits.{Fits, FitsBy, IsAccepted, IsTaken}
use Rattle.events.specs.Legal.{state_after}
use Rattle.events.specs.Pending.{pending, same_entry, with_all_news, with_news}
use Rattle.events.specs.Refusals.{refusal}
use Rattle.events.specs.State.{State, present, told_to}
use Rattle.events.specs.declared.Entry.{Entry}
use Rattle.events.specs.declared.Event.{Event}
use Rattle.events.specs.declared.Event.TheVariants.{Drain, Take}
use Rattle.events.specs.declared.Head.TheVariants.{Fine}
use Rattle.events.specs.declared.Reply.{Reply}
use Rattle.net_types.proofs.EqualLemmas.{option_test}
use Rattle.net_types.proofs.OrderLemmas.{prefix_tie, prefixes_total}
use Rattle.net_types.proofs.OrderedLemmas.{any_member, member_any, ordered_same}
use Rattle.net_types.proofs.RisingLemmas.{Member-filter}
use Rattle.net_types.proofs.SetLemmas.{Member-append_left, Member-append_right}
use Rattle.net_types.specs.Attributes.{same_option}
use Rattle.net_types.specs.Exports.{pid_of}
use Rattle.net_types.specs.Keys.{prefix_cmp}
use Rattle.net_types.specs.Maps.{ordered}
use Rattle.net_types.specs.Sets.{Member}
use Rattle.net_types.specs.declared.address.Pid.{Pid}
use Rattle.net_types.specs.declared.prefix.Prefix.{Prefix}
use Rattle.run_laws.specs.Taking.{TakesTellTheFirst, TellsOf}
use Rattle.events.proofs.SameEntries.{entry_test}
use Rattle.net_types.proofs.FindLemmas.{nothing}
use Rattle.events.proofs.NewsLemmas.{get-with_news}

-- ---- a map with news

-- the entries that a participant is told, or could be
abbrev pub Entries : Type 0
Entries = FinMap prefix_cmp Entry

news_at : (known told : Entries) (q p : Prefix) → get (with_news told q (get known q)) p ≡ cond (eq_by_cmp prefix_cmp p q) (get known p) (get told p)
news_at known told q p = get-with_news told q (get known q) p ∙ by (eq_by_cmp prefix_cmp p q) refl
  where
    by : (b : Bool) → eq_by_cmp prefix_cmp p q ≡ b → cond b (get known q) (get told p) ≡ cond b (get known p) (get told p)
    by true tie = ap (get known) (sym (prefix_tie p q tie))
    by false tie = refl

either_news : {A : Type 0} (here later : Bool) (x y : A) → cond later x (cond here x y) ≡ cond (here || later) x y
either_news true true x y = refl
either_news true false x y = refl
either_news false true x y = refl
either_news false false x y = refl

-- at the prefixes of the list it has what is known, and elsewhere what it had
pub all_news_at : (known told : Entries) (ps : List Prefix) (p : Prefix) → get (with_all_news known told ps) p ≡ cond (list_any (eq_by_cmp prefix_cmp p) ps) (get known p) (get told p)
all_news_at known told [] p = refl
all_news_at known told (q ∷ ps) p =
    all_news_at known (with_news told q (get known q)) ps p
    ∙ ap (cond (list_any (eq_by_cmp prefix_cmp p) ps) (get known p)) (news_at known told q p)
    ∙ either_news (eq_by_cmp prefix_cmp p q) (list_any (eq_by_cmp prefix_cmp p) ps) (get known p) (get told p)

-- ---- what isn't pending

pub listed : (m : Entries) (p : Prefix) → is_some (get m p) ≡ true → Member p (keys m)
listed m p there = any_member prefix_cmp prefixes_total prefix_tie p (keys m) (sym (contains_key-keys m p) ∙ there)

module _ (s : State) (who : Pid) (p : Prefix) where
  abbrev differs : Prefix → Bool
  differs q = not (same_option same_entry (get (told_to s who) q) (get (present s who) q))

  -- a known prefix that differs is pending
  is_pending : same_option same_entry (get (told_to s who) p) (get (present s who) p) ≡ false → Member p (keys (told_to s who) ++ keys (present s who)) → list_any (eq_by_cmp prefix_cmp p) (pending s who) ≡ true
  is_pending apart known =
      let all : List Prefix = keys (told_to s who) ++ keys (present s who) in
      member_any prefix_cmp prefixes_total prefix_tie p (pending s who)
      (Member-filter differs (ordered prefix_cmp all) p ((ordered_same prefix_cmp prefixes_total prefix_tie all).back p known) (ap not apart))

  settled_at : (b : Bool) → same_option same_entry (get (told_to s who) p) (get (present s who) p) ≡ b → list_any (eq_by_cmp prefix_cmp p) (pending s who) ≡ false → get (told_to s who) p ≡ get (present s who) p
  settled_at true same none = (option_test same_entry entry_test (get (told_to s who) p) (get (present s who) p)).0 same
  settled_at false apart none =
      let never : Member p (keys (told_to s who) ++ keys (present s who)) → ⊥ = λ known. let both : true ≡ false = sym (is_pending apart known) ∙ none in cc in
      nothing (get (told_to s who) p) (λ there. never (Member-append_left (keys (told_to s who)) (keys (present s who)) p (listed (told_to s who) p there)))
      ∙ sym (nothing (get (present s who) p) (λ there. never (Member-append_right (keys (told_to s who)) (keys (present s who)) p (listed (present s who) p there))))

  -- at what is pending all of it is news
  all_present : get (present s who) p ≡ cond (list_any (eq_by_cmp prefix_cmp p) (pending s who)) (get (present s who) p) (get (told_to s who) p)
  all_present = by (list_any (eq_by_cmp prefix_cmp p) (pending s who)) refl
    where
      by : (b : Bool) → list_any (eq_by_cmp prefix_cmp p) (pending s who) ≡ b → get (present s who) p ≡ cond b (get (present s who) p) (get (told_to s who) p)
      by true is = refl
      by false none = sym (settled_at (same_option same_entry (get (told_to s who) p) (get (present s who) p)) refl none)

-- ---- the state after

get_other : {A : Type 0} (xs : List A) (k j : ℕ) (x : A) → ¬ j ≡ k → slice_get (slice_set xs k x) j ≡ slice_get xs j
get_other [] k j x apart = refl
get_other (y ∷ xs) zero zero x apart = absurd (apart refl)
get_other (y ∷ xs) zero (suc j) x apart = refl
get_other (y ∷ xs) (suc k) zero x apart = refl
get_other (y ∷ xs) (suc k) (suc j) x apart = get_other xs k j x (λ e. apart (ap suc e))

module _ (s : State) (who : Pid) (within : who.0 < length s.told) (ps : List Prefix) (r : Reply) where
  -- a participant that was told this has the news of the prefixes
  tells_of : (m : Entries) (s1 : State) → s1 ≡ record (settled (running (with_told s who m))) { table = s1.table }
      → ((p : Prefix) → get m p ≡ cond (list_any (eq_by_cmp prefix_cmp p) ps) (get (present s who) p) (get (told_to s who) p))
      → IsTaken s s1 who ps r → TellsOf s s1 who ps r
  tells_of m s1 is news taken_is =
      let told : told_to s1 who ≡ m = ap (λ (x : State). told_to x who) is ∙ get_set s.told who.0 m empty within in
      let at : (p : Prefix) → get (told_to s1 who) p ≡ cond (list_any (eq_by_cmp prefix_cmp p) ps) (get (present s who) p) (get (told_to s who) p) = λ p. ap (λ (x : Entries). get x p) told ∙ news p in record {
        adverts = taken_is.adverts;
        these = λ p member. at p ∙ ap (λ b. cond b (get (present s who) p) (get (told_to s who) p)) (member_any prefix_cmp prefixes_total prefix_tie p ps member);
        other_prefixes = λ p apart. at p ∙ ap (λ b. cond b (get (present s who) p) (get (told_to s who) p)) (false_from_ne_true (list_any (eq_by_cmp prefix_cmp p) ps) (λ is. apart (any_member prefix_cmp prefixes_total prefix_tie p ps is)));
        other_participants = λ other apart. ap (λ (x : State). told_to x other) is ∙ ap (λ o. unwrap_or o empty) (get_other s.told who.0 other.0 m apart);
        stays_present = λ other. ap (λ (x : State). present x other) is;
      }

-- the state in which a participant was told this
abbrev taking : State → (Pid → Entries) → Pid → State
taking s told w = settled (running (with_told s w (told w)))

module _ (es : List Event) (rs : List Reply) (name : List ℕ) (who : Pid) (known : pid_of (state_after es rs).routing name ≡ Some who) where
  abbrev here : State
  here = state_after es rs

  within : who.0 < length here.told
  within =
      let declared : IsDeclared here = runs_declared es rs in
      let below : who.0 < length here.routing.participants = declared_pid here.routing name who known in
      let kept : length here.told ≡ length here.routing.participants = declared.told in
      omega arith

  -- the state after a line that takes, where the participant is known
  after_taking : (e : Event) (told : Pid → Entries) (r : Reply) → r.head ≡ Fine → next_by Fine here e r ≡ record (with_known here (pid_of here.routing name) (taking here told)) { table = (next_by Fine here e r).table }
      → next here e r ≡ record (taking here told who) { table = (next here e r).table }
  after_taking e told r head is =
      let table : (next_by Fine here e r).table ≡ (next here e r).table = ap (λ h. (next_by h here e r).table) (sym head) in
      ap (λ h. next_by h here e r) head ∙ is
      ∙ (λ i. record (with_known here (known i) (taking here told)) { table = table i })

  takes : (count : ℕ) (r : Reply) → refusal here (Take name count) ≡ None → Fits here (Take name count) r → TellsOf here (next here (Take name count) r) who (take count (pending here who)) r
  takes count r none fits =
      let ps : List Prefix = take count (pending here who) in
      let accepted : IsAccepted here (Take name count) r = subst (λ o. FitsBy o here (Take name count) r) none fits in
      let Answer : Option Pid → Type 0 = λ o. MatchOption o ⊥ (λ w. IsTaken here (next here (Take name count) r) w (take count (pending here w)) r) in
      let answer : Answer (Some who) = subst Answer known accepted.answer in
      let told : Pid → Entries = λ w. with_all_news (present here w) (told_to here w) (take count (pending here w)) in
      tells_of here who within ps r (told who) (next here (Take name count) r) (after_taking (Take name count) told r answer.head refl)
      (all_news_at (present here who) (told_to here who) ps) answer

  drains : (r : Reply) → refusal here (Drain name) ≡ None → Fits here (Drain name) r → TellsOf here (next here (Drain name) r) who (pending here who) r
  drains r none fits =
      let accepted : IsAccepted here (Drain name) r = subst (λ o. FitsBy o here (Drain name) r) none fits in
      let Answer : Option Pid → Type 0 = λ o. MatchOption o ⊥ (λ w. IsTaken here (next here (Drain name) r) w (pending here w) r) in
      let answer : Answer (Some who) = subst Answer known accepted.answer in
      tells_of here who within (pending here who) r (present here who) (next here (Drain name) r) (after_taking (Drain name) (present here) r answer.head refl)
      (all_present here who) answer

pub takes_tell_the_first : TakesTellTheFirst
takes_tell_the_first es rs legal name who known = (λ count r none fits. takes es rs name who known count r none fits, λ r none fits. drains es rs name who known r none fits)
