-- What becomes of a sound state where a participant is told anew.
use Rattle.std.proofs.Common.{◌≡◌, ◌⊎◌, ℕ, zero, suc, ◌+◌, ◌≤◌, Bool, true, false, cond, ◌&&◌, ◌||◌, List, [], ◌∷◌, filter, length, map, sum_by, sym, ap, subst, ◌∙◌, refl, arith, inl, inr}
use Rattle.std.specs.Prelude.{Option, Some, None, MatchOption, is_none, is_some, slice_get, slice_set, take, unwrap_or}
use Rattle.std.specs.Cmp.{IsTotalOrder}
use Rattle.std.specs.FinMap.{FinMap, IsAntisymmetric, empty, entries, entries_sorted, get, get-entries, get-insert, get-remove, get-retain_keys, insert, remove, retain_keys, same_map, values}
use Rattle.std.specs.FinMap.Entries.{find-where_key, is_sorted-where_key, same_entries, where_key}
use Rattle.std.specs.List.{list_any}
use Rattle.std.specs.Option.{option_and_then}
use Rattle.std.specs.Ordering.{eq_by_cmp}
use Rattle.std.specs.declared.cmp.Ordering.{Ordering}
use Rattle.std.proofs.lemmas.Bool.{or_cases, or_left, or_parts, or_right}
use Rattle.std.proofs.lemmas.List.Sums.{sum_by-cons}
use Rattle.events.specs.After.{after, next, next_by, put_flows, rules_put, running, settled, taken, with_known, with_told, without_pairs}
use Rattle.events.specs.Fits.{IsAccepted, IsAnswer, IsTaken, dropped, none_rebuilt}
use Rattle.events.specs.Pending.{pending, with_all_news, with_news}
use Rattle.events.specs.Sound.{IsRight, IsSound, owners_part, part_of, rule_count}
use Rattle.events.specs.State.{State, port_of, present, told_to}
use Rattle.events.specs.declared.Entry.{Entry}
use Rattle.events.specs.Tags.{is_live, is_live_pair, same_tag, tells}
use Rattle.events.specs.declared.Event.{Event}
use Rattle.events.specs.declared.Event.TheVariants.{Drain, Take}
use Rattle.events.specs.declared.Reply.{Reply}
use Rattle.exchange_laws.proofs.Flows.{get_undropped}
use Rattle.exchange_laws.proofs.Lists.{clash, cond_there}
use Rattle.exchange_laws.proofs.LivePairs.{live_at, live_from, live_tag, present_tag, told_live}
use Rattle.exchange_laws.proofs.TagsAfter.{live_of}
use Rattle.exchange_laws.specs.Retagging.{LiveAreKept}
use Rattle.exchange_laws.specs.Telling.{AreKnownTo, DrainsAreAccepted, GonePairsWereTold, GoneTagsWereTold, NewsAreKnown, PresentAreKnown, TakesAreAccepted, TellingKeepsLive, TellingStaysKept, TellingStaysPooled, TellingStaysSound, told_anew}
use Rattle.net_types.proofs.OrderLemmas.{pairs_total, prefixes_total}
use Rattle.net_types.proofs.TieLemmas.{pair_cmp-IsAntisymmetric, tag_cmp-IsAntisymmetric}
use Rattle.net_types.proofs.ValueLemmas.{any_value, value_at}
use Rattle.net_types.specs.Exports.{pid_of}
use Rattle.net_types.specs.Keys.{pair_cmp, prefix_cmp}
use Rattle.net_types.specs.declared.address.Pid.{Pid}
use Rattle.net_types.specs.declared.address.Tag.{Tag}
use Rattle.net_types.specs.declared.prefix.Prefix.{Prefix}
use Rattle.net_types.specs.declared.route.Part.{Part}
use Rattle.net_types.specs.declared.route.PortInfo.{PortInfo}
use Rattle.net_types.specs.declared.rule.Pair.{Pair}
use Rattle.net_types.specs.declared.rule.Rule.{Rule}

-- ---- lists with another member at a place

any_set : {A : Type 0} (test : A → Bool) (xs : List A) (k : ℕ) (x : A) → list_any test (slice_set xs k x) ≡ true → (list_any test xs ≡ true) ⊎ (test x ≡ true)
any_set test [] k x e = inl e
any_set test (y ∷ xs) zero x e = elim (or_cases (test x) (list_any test xs) e) [ inl here ↦ inr here | inr later ↦ inl (or_right (test y) (list_any test xs) later) ]
any_set test (y ∷ xs) (suc k) x e = elim (or_cases (test y) (list_any test (slice_set xs k x)) e) [
  | inl here ↦ inl (or_left (test y) (list_any test xs) here)
  | inr later ↦ elim (any_set test xs k x later) [ inl there ↦ inl (or_right (test y) (list_any test xs) there) | inr new ↦ inr new ]
]

pub get_set : {A : Type 0} (xs : List A) (k j : ℕ) (x d : A) → (unwrap_or (slice_get (slice_set xs k x) j) d ≡ unwrap_or (slice_get xs j) d) ⊎ ((j ≡ k) × (unwrap_or (slice_get (slice_set xs k x) j) d ≡ x))
get_set [] k j x d = inl refl
get_set (y ∷ xs) zero zero x d = inr (refl, refl)
get_set (y ∷ xs) zero (suc j) x d = inl refl
get_set (y ∷ xs) (suc k) zero x d = inl refl
get_set (y ∷ xs) (suc k) (suc j) x d = elim (get_set xs k j x d) [ inl same ↦ inl same | inr here ↦ inr (ap suc here.0, here.1) ]

-- what passes no more stood at the place
any_unset : {A : Type 0} (test : A → Bool) (xs : List A) (k : ℕ) (x d : A) → list_any test xs ≡ true → list_any test (slice_set xs k x) ≡ false → test (unwrap_or (slice_get xs k) d) ≡ true
any_unset test [] k x d e f = cc
any_unset test (y ∷ xs) zero x d e f = elim (or_cases (test y) (list_any test xs) e) [
  | inl here ↦ here
  | inr later ↦ absurd (clash later (or_parts (test x) (list_any test xs) f).1)
]
any_unset test (y ∷ xs) (suc k) x d e f =
    let parts = or_parts (test y) (list_any test (slice_set xs k x)) f in
    elim (or_cases (test y) (list_any test xs) e) [ inl here ↦ absurd (clash here parts.0) | inr later ↦ any_unset test xs k x d later parts.1 ]

-- ---- what is left of a map

-- a sum over what is left is at most the whole sum
sum_left : {K X : Type 0} (test : K → Bool) (f : X → ℕ) (es : List (K × X)) → sum_by f (map (λ (e : K × X). e.1) (filter (λ e. test e.0) es)) ≤ sum_by f (map (λ (e : K × X). e.1) es)
sum_left test f [] = omega arith
sum_left {K} {X} test f (e ∷ es) =
    let rest : List (K × X) = filter (λ d. test d.0) es in
    let later : sum_by f (map (λ (d : K × X). d.1) rest) ≤ sum_by f (map (λ (d : K × X). d.1) es) = sum_left test f es in
    let whole : sum_by f (map (λ (d : K × X). d.1) (e ∷ es)) ≡ f e.1 + sum_by f (map (λ (d : K × X). d.1) es) = sum_by-cons f e.1 (map (λ (d : K × X). d.1) es) in
    let left : sum_by f (map (λ (d : K × X). d.1) (e ∷ rest)) ≡ f e.1 + sum_by f (map (λ (d : K × X). d.1) rest) = sum_by-cons f e.1 (map (λ (d : K × X). d.1) rest) in
    elim (test e.0) as (λ b. sum_by f (map (λ (d : K × X). d.1) (cond b (e ∷ rest) rest)) ≤ sum_by f (map (λ (d : K × X). d.1) (e ∷ es))) [
      | true ↦ omega arith
      | false ↦ omega arith
    ]

module _ {K X : Type 0} (R : K → K → Ordering) (o : IsTotalOrder R) (same : IsAntisymmetric R) where
  -- a key that passes keeps its value
  pub get_retained : (m : FinMap R X) (test : K → Bool) (q : K) → get (retain_keys m test) q ≡ cond (test q) (get m q) None
  get_retained m test q = get-retain_keys m test q (λ x e. ap test (sym (same q x e)))

  entries_retained : (m : FinMap R X) (test : K → Bool) → entries (retain_keys m test) ≡ where_key R test (entries m)
  entries_retained m test =
      same_entries R o same (entries (retain_keys m test)) (where_key R test (entries m)) (entries_sorted (retain_keys m test)) (is_sorted-where_key R test (entries m) (entries_sorted m)) (λ q.
      sym (get-entries (retain_keys m test) q) ∙ get_retained m test q ∙ ap (λ v. cond (test q) v None) (get-entries m q)
      ∙ sym (find-where_key R test q (λ x e. ap test (sym (same q x e))) (entries m)))

  pub sum_retained : (f : X → ℕ) (m : FinMap R X) (test : K → Bool) → sum_by f (values (retain_keys m test)) ≤ sum_by f (values m)
  sum_retained f m test = subst (λ es. sum_by f (map (λ (e : K × X). e.1) es) ≤ sum_by f (values m)) (sym (entries_retained m test)) (sum_left test f (entries m))

-- ---- the state

pub present_are_known : PresentAreKnown
present_are_known s who t now = or_right (tells (told_to s who) t) (tells (present s who) t) now

module _ (s : State) (who : Pid) (es : FinMap prefix_cmp Entry) where
  abbrev s1 : State
  s1 = told_anew s who es

  -- the signature of a live tag is kept, and no other's
  pub kept_is : (t : Tag) → get s1.kept t ≡ cond (is_live s1 t) (get s.kept t) None
  kept_is t = get-retain_keys s.kept (is_live s1) t (λ x e. ap (is_live s1) (sym (tag_cmp-IsAntisymmetric t x e)))

  table_is : (pair : Pair) → get s1.table pair ≡ cond (is_live_pair s1 pair) (get s.table pair) None
  table_is pair = get_retained pair_cmp pairs_total pair_cmp-IsAntisymmetric s.table (is_live_pair s1) pair

  pub keeps_live : (t : Tag) → is_some (get s1.kept t) ≡ true → is_live s1 t ≡ true
  keeps_live t there = cond_there (is_live s1 t) (get s.kept t) (sym (ap is_some (kept_is t)) ∙ there)

  -- what goes is what the participant was told
  pub gone_pair : (pair : Pair) → is_live_pair s pair ≡ true → is_live_pair s1 pair ≡ false → (q : PortInfo) × (port_of s pair.port ≡ Some q) × (q.owner ≡ who) × (tells (told_to s who) pair.tag ≡ true)
  gone_pair pair live dead =
      let at = live_at s pair live in
      let q : PortInfo = at.0 in
      let still : (tells (told_to s1 q.owner) pair.tag || tells (present s1 q.owner) pair.tag) ≡ true → ⊥ = λ is. clash (live_from s1 pair q at.1.port is) dead in
      elim (or_cases (tells (told_to s q.owner) pair.tag) (tells (present s q.owner) pair.tag) at.1.for) [
        | inl told ↦ elim (get_set s.told who.0 q.owner.0 es empty) [
          | inl same ↦ absurd (still (or_left (tells (told_to s1 q.owner) pair.tag) (tells (present s1 q.owner) pair.tag) (ap (λ e. tells e pair.tag) same ∙ told)))
          | inr here ↦
              let own : q.owner ≡ who = λ i. record { 0 = here.0 i } in
              (q, at.1.port, own, ap (λ w. tells (told_to s w) pair.tag) (sym own) ∙ told)
        ]
        | inr now ↦ absurd (still (or_right (tells (told_to s1 q.owner) pair.tag) (tells (present s1 q.owner) pair.tag) now))
      ]

  pub gone_tag : (t : Tag) → is_live s t ≡ true → is_live s1 t ≡ false → tells (told_to s who) t ≡ true
  gone_tag t live dead =
      let parts = or_parts (list_any (same_tag t) (values s.tag)) (list_any (λ e. tells e t) (slice_set s.told who.0 es)) dead in
      elim (or_cases (list_any (same_tag t) (values s.tag)) (list_any (λ e. tells e t) s.told) live) [
        | inl has ↦ absurd (clash has parts.0)
        | inr told ↦ any_unset (λ e. tells e t) s.told who.0 es empty told parts.1
      ]

  module _ (known : AreKnownTo s who es) where
    -- what somebody was told or is present for it was live
    known_live : (w : Pid) (t : Tag) → (tells (told_to s w) t || tells (present s w) t) ≡ true → is_live s t ≡ true
    known_live w t either = elim (or_cases (tells (told_to s w) t) (tells (present s w) t) either) [
      | inl told ↦ or_right (list_any (same_tag t) (values s.tag)) (list_any (λ e. tells e t) s.told) (told_live s w t told)
      | inr now ↦ let p = present_tag s w t now in live_of s p.0 t p.1.tagged
    ]

    pub tag_was_live : (t : Tag) → is_live s1 t ≡ true → is_live s t ≡ true
    tag_was_live t live = elim (or_cases (list_any (same_tag t) (values s.tag)) (list_any (λ e. tells e t) (slice_set s.told who.0 es)) live) [
      | inl has ↦ or_left (list_any (same_tag t) (values s.tag)) (list_any (λ e. tells e t) s.told) has
      | inr told ↦ elim (any_set (λ e. tells e t) s.told who.0 es told) [
        | inl before ↦ or_right (list_any (same_tag t) (values s.tag)) (list_any (λ e. tells e t) s.told) before
        | inr new ↦ known_live who t (known t new)
      ]
    ]

    -- a live tag's signature is still kept
    pub live_kept : LiveAreKept s → (t : Tag) → is_live s1 t ≡ true → is_some (get s1.kept t) ≡ true
    live_kept kept t live = ap is_some (kept_is t ∙ ap (λ b. cond b (get s.kept t) None) live) ∙ kept t (tag_was_live t live)

    told_before : (w : Pid) (t : Tag) → tells (told_to s1 w) t ≡ true → (tells (told_to s w) t || tells (present s w) t) ≡ true
    told_before w t told = elim (get_set s.told who.0 w.0 es empty) [
      | inl same ↦ or_left (tells (told_to s w) t) (tells (present s w) t) (ap (λ e. tells e t) (sym same) ∙ told)
      | inr here ↦
          let at : who ≡ w = λ i. record { 0 = sym here.0 i } in
          subst (λ v. (tells (told_to s v) t || tells (present s v) t) ≡ true) at (known t (ap (λ e. tells e t) (sym here.1) ∙ told))
    ]

    pub pair_was_live : (pair : Pair) → is_live_pair s1 pair ≡ true → is_live_pair s pair ≡ true
    pair_was_live pair live =
        let at = live_at s1 pair live in
        let q : PortInfo = at.0 in
        live_from s pair q at.1.port (elim (or_cases (tells (told_to s1 q.owner) pair.tag) (tells (present s1 q.owner) pair.tag) at.1.for) [
          | inl told ↦ told_before q.owner pair.tag told
          | inr now ↦ or_right (tells (told_to s q.owner) pair.tag) (tells (present s q.owner) pair.tag) now
        ])

    module _ (sound : IsSound s) where
      pairs_live : (pair : Pair) → is_some (get s1.table pair) ≡ is_live_pair s1 pair
      pairs_live pair = ap is_some (table_is pair) ∙ by (is_live_pair s1 pair) refl
        where
          by : (b : Bool) → is_live_pair s1 pair ≡ b → is_some (cond b (get s.table pair) None) ≡ b
          by true live = sound.pairs pair ∙ pair_was_live pair live
          by false dead = refl

      abbrev IsRightAt : Pair → List Rule → Type 0
      IsRightAt pair rules = (part : Part) × (owners_part s1 pair ≡ Some part) × IsRight sound.right.0 part pair.port rules

      rules_right : (pair : Pair) (rules : List Rule) → get s1.table pair ≡ Some rules → IsRightAt pair rules
      rules_right pair rules is = by (is_live_pair s1 pair) refl (sym (table_is pair) ∙ is)
        where
          by : (b : Bool) → is_live_pair s1 pair ≡ b → cond b (get s.table pair) None ≡ Some rules → IsRightAt pair rules
          by true live e =
              let right = sound.right.2 pair rules e in
              let stays : get s1.kept pair.tag ≡ get s.kept pair.tag = kept_is pair.tag ∙ ap (λ b. cond b (get s.kept pair.tag) None) (live_tag s1 pair live) in
              (right.0, ap (λ kept. option_and_then (λ (q : PortInfo). option_and_then (λ sig. part_of sig q.owner) kept) (port_of s pair.port)) stays ∙ right.1, right.2)
          by false dead e = absurd (cc)

      pub told_sound : IsSound s1
      told_sound = record {
        pairs = pairs_live;
        right = (sound.right.0, record { names = sound.right.1.names; outbound = sound.right.1.outbound; inbound = sound.right.1.inbound }, rules_right);
        few =
            let less : rule_count s1 ≤ rule_count s = sum_retained pair_cmp pairs_total pair_cmp-IsAntisymmetric (λ (rules : List Rule). length rules) s.table (is_live_pair s1) in
            let few : rule_count s ≤ s.capacity = sound.few in
            omega arith;
        tagged = sound.tagged;
        kept = λ p t is. kept_is t ∙ ap (λ b. cond b (get s.kept t) None) (live_of s1 p t is) ∙ sound.kept p t is;
      }

  -- ---- the reply

  undropped : without_pairs s.table (dropped s s1 none_rebuilt) ≡ s1.table
  undropped = same_map pairs_total pair_cmp-IsAntisymmetric (without_pairs s.table (dropped s s1 none_rebuilt)) s1.table (λ q.
      get_undropped s s1 none_rebuilt q
      ∙ ap (λ o. cond ((is_none o || false) && is_some (get s.table q)) None (get s.table q)) (table_is q)
      ∙ by (is_live_pair s1 q) (get s.table q) ∙ sym (table_is q))
    where
      by : (b : Bool) (o : Option (List Rule)) → cond ((is_none (cond b o None) || false) && is_some o) None o ≡ cond b o None
      by true None = refl
      by true (Some x) = refl
      by false None = refl
      by false (Some x) = refl

pub telling_stays_sound : TellingStaysSound
telling_stays_sound s who entries sound known = told_sound s who entries known sound

pub telling_stays_pooled : TellingStaysPooled
telling_stays_pooled s who entries pooled known t live = pooled t (tag_was_live s who entries known t live)

pub telling_stays_kept : TellingStaysKept
telling_stays_kept s who entries kept known t live = live_kept s who entries known kept t live

pub telling_keeps_live : TellingKeepsLive
telling_keeps_live s who entries t there = keeps_live s who entries t there

-- ---- some of what is pending

module _ (known : FinMap prefix_cmp Entry) (t : Tag) where
  abbrev tagged : Entry → Bool
  tagged e = same_tag e.tag t

  -- a tag that some entry of a map has
  tells_at : (m : FinMap prefix_cmp Entry) (p : Prefix) (e : Entry) → get m p ≡ Some e → tagged e ≡ true → tells m t ≡ true
  tells_at m p e there passes = any_value prefix_cmp prefixes_total tagged m p e there passes

  one_known : (p : Prefix) (told : FinMap prefix_cmp Entry) (o : Option Entry) → get known p ≡ o → tells (with_news told p o) t ≡ true → (tells told t || tells known t) ≡ true
  one_known p told None none is =
      let v = value_at prefix_cmp prefixes_total tagged (remove told p) is in
      or_left (tells told t) (tells known t) (tells_at told v.key v.value (left (eq_by_cmp prefix_cmp v.key p) (sym (get-remove prefixes_total told p v.key) ∙ v.there)) v.passes)
    where
      left : {o : Option Entry} {e : Entry} (b : Bool) → cond b None o ≡ Some e → o ≡ Some e
      left true e = absurd (cc)
      left false e = e
  one_known p told (Some e) there is =
      let v = value_at prefix_cmp prefixes_total tagged (insert told p e) is in
      by v.key v.value v.passes (eq_by_cmp prefix_cmp v.key p) (sym (get-insert prefixes_total told p e v.key) ∙ v.there)
    where
      by : (q : Prefix) (x : Entry) → tagged x ≡ true → (b : Bool) → cond b (Some e) (get told q) ≡ Some x → (tells told t || tells known t) ≡ true
      by q x passes true new = or_right (tells told t) (tells known t) (tells_at known p x (there ∙ new) passes)
      by q x passes false old = or_left (tells told t) (tells known t) (tells_at told q x old passes)

  news_known : (ps : List Prefix) (told : FinMap prefix_cmp Entry) → tells (with_all_news known told ps) t ≡ true → (tells told t || tells known t) ≡ true
  news_known [] told is = or_left (tells told t) (tells known t) is
  news_known (p ∷ ps) told is = elim (or_cases (tells (with_news told p (get known p)) t) (tells known t) (news_known ps (with_news told p (get known p)) is)) [
    | inl new ↦ one_known p told (get known p) refl new
    | inr there ↦ or_right (tells told t) (tells known t) there
  ]

pub news_are_known : NewsAreKnown
news_are_known s who ps t is = news_known (present s who) t ps (told_to s who) is

-- ---- lines by which a participant takes what is pending

-- A line after which a participant was told these entries is accepted with the reply that says so.
module _ (s : State) (who : Pid) (es : FinMap prefix_cmp Entry) (ps : List Prefix) (reply : Reply) (taken : IsTaken s (told_anew s who es) who ps reply)
    (e : Event) (leaves : after s e ≡ settled (running (with_told s who es))) (put : rules_put e reply ≡ reply.adds) where
  abbrev s2 : State
  s2 = told_anew s who es

  next_is : next s e reply ≡ s2
  next_is =
      let table_left : put_flows (without_pairs s.table reply.drops) (rules_put e reply) ≡ s2.table =
      ap (put_flows (without_pairs s.table reply.drops)) (put ∙ taken.adds) ∙ ap (without_pairs s.table) taken.drops ∙ undropped s who es in
      ap (λ h. next_by h s e reply) taken.head ∙ (λ i. record (leaves i) { table = table_left i })

  telling_accepted : (IsTaken s (next s e reply) who ps reply → IsAnswer s e reply (next s e reply)) → AreKnownTo s who es → IsSound s → (next s e reply ≡ s2) × IsAccepted s e reply
  telling_accepted answers known sound = (
    next_is,
    record { answer = answers (subst (λ x. IsTaken s x who ps reply) (sym next_is) taken); sound = subst IsSound (sym next_is) (told_sound s who es known sound) },
  )

-- a line whose participant is declared
declared_taken : (s s1 : State) (name : List ℕ) (who : Pid) (f : Pid → List Prefix) (reply : Reply) → pid_of s.routing name ≡ Some who → IsTaken s s1 who (f who) reply
    → MatchOption (pid_of s.routing name) ⊥ (λ w. IsTaken s s1 w (f w) reply)
declared_taken s s1 name who f reply declared is = subst (λ o. MatchOption o ⊥ (λ w. IsTaken s s1 w (f w) reply)) (sym declared) is

pub drains_are_accepted : DrainsAreAccepted
drains_are_accepted s name who reply sound declared taken =
    telling_accepted s who (present s who) (pending s who) reply taken (Drain name) (ap (λ o. with_known s o (λ w. settled (running (with_told s w (present s w))))) declared) refl
    (declared_taken s (next s (Drain name) reply) name who (pending s) reply declared) (present_are_known s who) sound

pub takes_are_accepted : TakesAreAccepted
takes_are_accepted s name who count reply sound declared is =
    let ps : List Prefix = take count (pending s who) in
    telling_accepted s who (with_all_news (present s who) (told_to s who) ps) ps reply is (Take name count) (ap (λ o. with_known s o (λ w. settled (running (taken s w (take count (pending s w)))))) declared) refl
    (declared_taken s (next s (Take name count) reply) name who (λ w. take count (pending s w)) reply declared) (news_are_known s who ps) sound

pub gone_pairs_were_told : GonePairsWereTold
gone_pairs_were_told s who entries pair live dead = gone_pair s who entries pair live dead

pub gone_tags_were_told : GoneTagsWereTold
gone_tags_were_told s who entries t live dead = gone_tag s who entries t live dead
