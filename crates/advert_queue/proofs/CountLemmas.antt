-- How the numbers of entries that have each tag change with one entry.
use Rattle.std.proofs.Common.{◌≡◌, ℕ, zero, suc, ◌+◌, ◌≤◌, ◌<◌, ◌^◌, ◌&&◌, Bool, true, false, cond, ◌||◌, not, List, [], ◌∷◌, map, length, sym, ap, subst, ◌∙◌, refl, arith}
use Rattle.std.specs.Prelude.{Option, Some, None, is_some, nat_eq, unwrap_or}
use Rattle.std.specs.Option.{option_map}
use Rattle.std.specs.List.{list_any}
use Rattle.std.specs.Ordering.{eq_by_cmp, is_eq, is_lt}
use Rattle.std.specs.Cmp.{IsTotalOrder}
use Rattle.std.specs.declared.cmp.Ordering.{Ordering}
use Rattle.std.specs.declared.cmp.Ordering.TheVariants.{Less, Equal, Greater}
use Rattle.std.specs.FinMap.{FinMap, get, remove, empty, entries, entries_sorted, from_sorted, entries-from_sorted, same_entries_map, get-entries, entries-insert}
use Rattle.std.specs.FinMap.Entries.{find, find-put, put, is_sorted, below_all, by_order}
use Rattle.std.proofs.lemmas.Bool.{and_parts, eq-eqb, eqb-true, false_from_ne_true}
use Rattle.events.specs.Pending.{with_news}
use Rattle.events.specs.Tags.{same_tag, tells}
use Rattle.events.specs.declared.Entry.{Entry}
use Rattle.net_types.proofs.OrderLemmas.{prefixes_total, tags_total}
use Rattle.net_types.proofs.PlaceLemmas.{entries_of_sorted, find-without, remove_sorted, without_sorted}
use Rattle.net_types.proofs.TieLemmas.{nat_ties, prefix_cmp-IsAntisymmetric, tag_tie, ties_itself}
use Rattle.net_types.proofs.ValueLemmas.{no_entries}
use Rattle.net_types.specs.Keys.{prefix_cmp, tag_cmp}
use Rattle.net_types.specs.declared.address.Tag.{Tag}
use Rattle.net_types.specs.declared.prefix.Prefix.{Prefix}
use Rattle.ordered_map.specs.Changes.{changed_or_put}
use Rattle.ordered_map.specs.Entries.{without}
use Rattle.ordered_map.specs.Lapsed.{changed_or_without, lasting, with_value}
use Rattle.advert_queue.proofs.RisingEntries.{without_first}
use Rattle.advert_queue.specs.Changes.{Change, changed, tag_in}
use Rattle.advert_queue.specs.Counts.{AreCounts, AreUsed, IsRecounted, by_side, counted, has_tag, is_tag, is_tag_of, number, other, total, uses, uses_in}
use Rattle.advert_queue.specs.Recounted.{is_unused, one_use, recounted}
use Rattle.advert_queue.specs.declared.counts.Recount.TheVariants.{More, Less}
use Rattle.advert_queue.specs.declared.counts.Side.{Side}
use Rattle.advert_queue.specs.declared.counts.Side.TheVariants.{Told, Present}
use Rattle.advert_queue.specs.declared.counts.Uses.{Uses}
use Rattle.net_types.proofs.TestLemmas.{shown}

-- ---- sums over entries

-- the number of a value, where there is one
abbrev pub of : {V : Type 0} → (V → ℕ) → Option V → ℕ
of f None = 0
of f (Some v) = f v

module _ {K V : Type 0} (R : K → K → Ordering) (o : IsTotalOrder R) (f : V → ℕ) where
  find_before : (q : K) (d : K × V) (ds : List (K × V)) → is_sorted R (d ∷ ds) ≡ true → R q d.0 ≡ Less → find R q ds ≡ None
  find_before q d ds sorted p = before ds (and_parts (below_all R d.0 ds) (is_sorted R ds) sorted).0
    where
      lt : (r : Ordering) → is_lt r ≡ true → r ≡ Less
      lt Less e = refl
      lt Equal e = cc
      lt Greater e = cc

      before : (es : List (K × V)) → below_all R d.0 es ≡ true → find R q es ≡ None
      before [] h = refl
      before (e ∷ es) h =
          let parts = and_parts (is_lt (R d.0 e.0)) (below_all R d.0 es) h in
          ap (λ r. cond (is_eq r) (Some e.1) (find R q es)) (o.trans q d.0 e.0 p (lt _ parts.0)) ∙ before es parts.1

  rest_sorted : (d : K × V) (ds : List (K × V)) → is_sorted R (d ∷ ds) ≡ true → is_sorted R ds ≡ true
  rest_sorted d ds sorted = (and_parts (below_all R d.0 ds) (is_sorted R ds) sorted).1

  pub total_put : (k : K) (v : V) (es : List (K × V)) → is_sorted R es ≡ true → total f (put R k v es) + of f (find R k es) ≡ total f es + f v
  total_put k v [] sorted = omega arith
  total_put k v (e ∷ es) sorted =
      elim (R k e.0) as (λ r. R k e.0 ≡ r → total f (by_order r ((k, v) ∷ e ∷ es) ((e.0, v) ∷ es) (e ∷ put R k v es)) + of f (cond (is_eq r) (Some e.1) (find R k es)) ≡ f e.1 + total f es + f v) [
        | Less ↦ λ p. let none = ap (of f) (find_before k e es sorted p) in omega (arith, none)
        | Equal ↦ λ p. omega arith
        | Greater ↦ λ p. let rest = total_put k v es (rest_sorted e es sorted) in omega (arith, rest)
      ] refl

  pub total_without : (k : K) (es : List (K × V)) → is_sorted R es ≡ true → total f (without R k es) + of f (find R k es) ≡ total f es
  total_without k [] sorted = omega arith
  total_without k (e ∷ es) sorted =
      elim (R k e.0) as (λ r. R k e.0 ≡ r → total f (cond (not (is_eq r)) (e ∷ without R k es) (without R k es)) + of f (cond (is_eq r) (Some e.1) (find R k es)) ≡ f e.1 + total f es) [
        | Less ↦ λ p. let rest = total_without k es (rest_sorted e es sorted) in omega (arith, rest)
        | Equal ↦ λ p. let others = ap (total f) (sym (ap (λ r. cond (not (is_eq r)) (e ∷ without R k es) (without R k es)) p) ∙ without_first R o k e es sorted p) in omega (arith, others)
        | Greater ↦ λ p. let rest = total_without k es (rest_sorted e es sorted) in omega (arith, rest)
      ] refl

-- ---- the entries of a map

entries-remove : (m : FinMap prefix_cmp Entry) (k : Prefix) → entries (remove m k) ≡ without prefix_cmp k (entries m)
entries-remove m k =
    let sorted = shown _ (entries_sorted m) in
    let whole : from_sorted {R = prefix_cmp} (entries m) ≡ m = same_entries_map _ _ (entries-from_sorted prefix_cmp (entries m) (entries_sorted m)) in
    ap (λ n. entries (remove n k)) (sym whole)
    ∙ ap entries (sym (remove_sorted prefix_cmp prefixes_total prefix_cmp-IsAntisymmetric k (entries m) sorted))
    ∙ entries_of_sorted prefix_cmp (without prefix_cmp k (entries m)) (without_sorted prefix_cmp k (entries m) sorted)

-- with one entry changed, a sum loses what stood there and gains what stands there
pub total_with : (f : Entry → ℕ) (m : FinMap prefix_cmp Entry) (k : Prefix) (o : Option Entry) → total f (entries (with_news m k o)) + of f (get m k) ≡ total f (entries m) + of f o
total_with f m k None =
    let all : total f (entries (remove m k)) + of f (get m k) ≡ total f (entries m) = (λ i. total f (entries-remove m k i) + of f (get-entries m k i)) ∙ total_without prefix_cmp prefixes_total f k (entries m) (shown _ (entries_sorted m)) in
    omega (arith, all)
total_with f m k (Some e) = (λ i. total f (entries-insert prefixes_total m k e i) + of f (get-entries m k i)) ∙ total_put prefix_cmp prefixes_total f k e (entries m) (shown _ (entries_sorted m))

of_tag : (t : Tag) (o : Option Entry) → of (is_tag_of t) o ≡ has_tag t (tag_in o)
of_tag t None = refl
of_tag t (Some e) = refl

pub uses_with : (m : FinMap prefix_cmp Entry) (k : Prefix) (o : Option Entry) (t : Tag) → uses (with_news m k o) t + has_tag t (tag_in (get m k)) ≡ uses m t + has_tag t (tag_in o)
uses_with m k o t =
    let all = total_with (is_tag_of t) m k o in
    let before = of_tag t (get m k) in
    let after = of_tag t o in
    omega (arith, all, before, after)

-- an entry's use is among all
pub uses_one : (m : FinMap prefix_cmp Entry) (k : Prefix) (t : Tag) → has_tag t (tag_in (get m k)) ≤ uses m t
uses_one m k t = let all = uses_with m k None t in omega (arith, all)

is_tag-le : (t u : Tag) → is_tag t u ≤ 1
is_tag-le t u = elim (same_tag u t) as (λ b. cond b 1 0 ≤ 1) [ true ↦ omega arith | false ↦ omega arith ]

pub has_tag-le : (t : Tag) (o : Option Tag) → has_tag t o ≤ 1
has_tag-le t None = omega arith
has_tag-le t (Some u) = is_tag-le t u

total-le : {K : Type 0} (t : Tag) (es : List (K × Entry)) → total (is_tag_of t) es ≤ length es
total-le t [] = omega arith
total-le t (e ∷ es) = omega (arith, is_tag-le t e.1.tag, total-le t es)

-- no tag is used more often than there are entries
pub uses-le : (m : FinMap prefix_cmp Entry) (t : Tag) → uses m t ≤ length (entries m)
uses-le m t = total-le t (entries m)

ones : {K : Type 0} (es : List (K × Entry)) → total (λ e. 1) es ≡ length es
ones [] = refl
ones (e ∷ es) = let rest = ones es in omega (arith, rest)

at_most_one : (o : Option Entry) → of (λ e. 1) o ≤ 1
at_most_one None = omega arith
at_most_one (Some e) = omega arith

-- one entry more at most
pub length_with : (m : FinMap prefix_cmp Entry) (k : Prefix) (o : Option Entry) → length (entries (with_news m k o)) ≤ length (entries m) + 1
length_with m k o =
    let all = total_with (λ e. 1) m k o in
    let before = ones (entries m) in
    let after = ones (entries (with_news m k o)) in
    let one = at_most_one o in
    omega (arith, all, before, after, one)

pub length_changed : (m : FinMap prefix_cmp Entry) (cs : List Change) → length (entries (changed m cs)) ≤ length (entries m) + length cs
length_changed m [] = omega arith
length_changed m (c ∷ cs) =
    let rest = length_changed (with_news m c.0 c.1) cs in
    let one = length_with m c.0 c.1 in
    omega (arith, rest, one)

pub uses_empty : (t : Tag) → uses empty t ≡ 0
uses_empty t = ap (total (is_tag_of t)) (no_entries Prefix Entry prefix_cmp)

-- ---- a tag is told where it is used

any_total : {K : Type 0} (t : Tag) (es : List (K × Entry)) (b : Bool) → list_any (λ (e : Entry). same_tag e.tag t) (map (λ e. e.1) es) ≡ b → cond b (0 < total (is_tag_of t) es) (total (is_tag_of t) es ≡ 0)
any_total t [] true is = cc
any_total t [] false is = refl
any_total t (e ∷ es) b is = by (same_tag e.1.tag t) b (any_total t es) is
  where
    by : (here b : Bool) → ((b : Bool) → list_any (λ (e : Entry). same_tag e.tag t) (map (λ e. e.1) es) ≡ b → cond b (0 < total (is_tag_of t) es) (total (is_tag_of t) es ≡ 0))
        → (here || list_any (λ (e : Entry). same_tag e.tag t) (map (λ e. e.1) es)) ≡ b → cond b (0 < cond here 1 0 + total (is_tag_of t) es) (cond here 1 0 + total (is_tag_of t) es ≡ 0)
    by true true later at = omega arith
    by true false later at = cc
    by false true later at = let rest = later true at in omega (arith, rest)
    by false false later at = let rest = later false at in omega (arith, rest)

pub told_uses : (m : FinMap prefix_cmp Entry) (t : Tag) → tells m t ≡ true → 0 < uses m t
told_uses m t is = any_total t (entries m) true is

pub untold_uses : (m : FinMap prefix_cmp Entry) (t : Tag) → tells m t ≡ false → uses m t ≡ 0
untold_uses m t is = any_total t (entries m) false is

-- ---- the numbers that are kept for each tag

pub is_tag_ties : (t u : Tag) → is_tag t u ≡ cond (eq_by_cmp tag_cmp t u) 1 0
is_tag_ties t u = ap (λ b. let n : ℕ = cond b 1 0 in n) (sym (nat_ties t.0 u.0))

pub is_tag-itself : (t : Tag) → is_tag t t ≡ 1
is_tag-itself t = is_tag_ties t t ∙ ap (λ b. let n : ℕ = cond b 1 0 in n) (ties_itself tags_total t)

is_tag-apart : (u t : Tag) → eq_by_cmp tag_cmp u t ≡ false → is_tag u t ≡ 0
is_tag-apart u t apart = is_tag_ties u t ∙ ap (λ b. let n : ℕ = cond b 1 0 in n) apart

-- ---- a tag whose numbers are these now, or that has none

abbrev HasNow : Tag → Option Uses → List (Tag × Uses) → List (Tag × Uses) → Type 0
HasNow t now cs ds = (u : Tag) → find tag_cmp u ds ≡ cond (eq_by_cmp tag_cmp u t) now (find tag_cmp u cs)

now_put : (t : Tag) (v : Uses) (cs ds : List (Tag × Uses)) → ds ≡ put tag_cmp t v cs → HasNow t (Some v) cs ds
now_put t v cs ds is u = ap (find tag_cmp u) is ∙ find-put tag_cmp tags_total u t v cs

now_with : (t : Tag) (now : Option Uses) (cs ds : List (Tag × Uses)) → ds ≡ with_value tag_cmp t now cs → HasNow t now cs ds
now_with t None cs ds is u = ap (find tag_cmp u) is ∙ find-without tag_cmp tags_total t u cs
now_with t (Some v) cs ds is u = now_put t v cs ds is u

module _ (side : Side) (t : Tag) (now : Option Uses) (cs ds : List (Tag × Uses)) (before after : Option Tag) (rising : is_sorted tag_cmp ds ≡ true) (used : AreUsed cs) (found : HasNow t now cs ds) where
  moved : ((v : Uses) → now ≡ Some v → 0 < v.told + v.present)
      → number side (uses_in now) + has_tag t before ≡ counted side cs t + has_tag t after → number (other side) (uses_in now) ≡ counted (other side) cs t
      → ((u : Tag) → eq_by_cmp tag_cmp u t ≡ false → has_tag u before ≡ has_tag u after)
      → IsRecounted side cs ds before after
  moved used_now here beside apart = record {
    rising = rising;
    used = λ u v is. kept u v (eq_by_cmp tag_cmp u t) (sym (found u) ∙ is);
    counts = λ u. counts_at u (eq_by_cmp tag_cmp u t) refl (found u);
    others = λ u. others_at u (eq_by_cmp tag_cmp u t) refl (found u);
  }
    where
      kept : (u : Tag) (v : Uses) (b : Bool) → cond b now (find tag_cmp u cs) ≡ Some v → 0 < v.told + v.present
      kept u v true at = used_now v at
      kept u v false at = used u v at

      counts_at : (u : Tag) (b : Bool) → eq_by_cmp tag_cmp u t ≡ b → find tag_cmp u ds ≡ cond b now (find tag_cmp u cs) → counted side ds u + has_tag u before ≡ counted side cs u + has_tag u after
      counts_at u true tie at =
          let same = tag_tie u t tie in
          (λ i. number side (uses_in (at i)) + has_tag (same i) before) ∙ here ∙ sym (λ i. counted side cs (same i) + has_tag (same i) after)
      counts_at u false tie at = λ i. number side (uses_in (at i)) + apart u tie i

      others_at : (u : Tag) (b : Bool) → eq_by_cmp tag_cmp u t ≡ b → find tag_cmp u ds ≡ cond b now (find tag_cmp u cs) → counted (other side) ds u ≡ counted (other side) cs u
      others_at u true tie at = ap (λ o. number (other side) (uses_in o)) at ∙ beside ∙ sym (ap (counted (other side) cs) (tag_tie u t tie))
      others_at u false tie at = ap (λ o. number (other side) (uses_in o)) at

-- ---- one use more or less

more_number : (side : Side) (u : Uses) → number side u + 1 < 2 ^ 64 → number side (recounted (More side) u) ≡ number side u + 1
more_number Told u small = omega (arith, small)
more_number Present u small = omega (arith, small)

more_other : (side : Side) (u : Uses) → number (other side) (recounted (More side) u) ≡ number (other side) u
more_other Told u = refl
more_other Present u = refl

less_number : (side : Side) (u : Uses) → 0 < number side u → number side (recounted (Less side) u) + 1 ≡ number side u
less_number Told u some = omega (arith, some)
less_number Present u some = omega (arith, some)

less_other : (side : Side) (u : Uses) → number (other side) (recounted (Less side) u) ≡ number (other side) u
less_other Told u = refl
less_other Present u = refl

one_number : (side : Side) → number side (one_use side) ≡ 1
one_number Told = refl
one_number Present = refl

one_other : (side : Side) → number (other side) (one_use side) ≡ 0
one_other Told = refl
one_other Present = refl

no_number : (side : Side) → number side (uses_in None) ≡ 0
no_number Told = refl
no_number Present = refl

number-le : (side : Side) (u : Uses) → number side u ≤ u.told + u.present
number-le Told u = omega arith
number-le Present u = omega arith

unused_number : (side : Side) (u : Uses) → u.told ≡ 0 → u.present ≡ 0 → number side u ≡ 0
unused_number Told u told present = told
unused_number Present u told present = present

same_some : (u v : Uses) → Some u ≡ Some v → u ≡ v
same_some u v e = ap uses_in e

is_used_number : (side : Side) (u v : Uses) → Some u ≡ Some v → 0 < number side u → 0 < v.told + v.present
is_used_number side u v e some = let most = number-le side v in let same = ap (number side) (same_some u v e) in omega (arith, most, same, some)

-- its numbers once it is used once more
abbrev once_more : Side → Option Uses → Uses
once_more side o = unwrap_or (option_map (recounted (More side)) o) (one_use side)

once_more_number : (side : Side) (o : Option Uses) → number side (uses_in o) + 1 < 2 ^ 64 → number side (once_more side o) ≡ number side (uses_in o) + 1
once_more_number side None small = let none = no_number side in let one = one_number side in omega (arith, none, one)
once_more_number side (Some u) small = more_number side u small

once_more_other : (side : Side) (o : Option Uses) → number (other side) (once_more side o) ≡ number (other side) (uses_in o)
once_more_other side None = one_other side ∙ sym (no_number (other side))
once_more_other side (Some u) = more_other side u

-- its numbers once it is used once less, where it is in use still
abbrev once_less : Side → Option Uses → Option Uses
once_less side o = lasting is_unused (option_map (recounted (Less side)) o)

-- numbers that aren't kept are 0
lasting_number : (side : Side) (u : Uses) → number side (uses_in (lasting is_unused (Some u))) ≡ number side u
lasting_number side u = by (is_unused u) refl
  where
    by : (b : Bool) → is_unused u ≡ b → number side (uses_in (cond b None (Some u))) ≡ number side u
    by true is = let parts = and_parts (nat_eq u.told 0) (nat_eq u.present 0) is in no_number side ∙ sym (unused_number side u (eqb-true u.told 0 parts.0) (eqb-true u.present 0 parts.1))
    by false is = refl

once_less_number : (side : Side) (o : Option Uses) → 0 < number side (uses_in o) → number side (uses_in (once_less side o)) + 1 ≡ number side (uses_in o)
once_less_number side None some = let none = no_number side in absurd (omega (arith, none, some))
once_less_number side (Some u) some = let kept = lasting_number side (recounted (Less side) u) in let less = less_number side u some in omega (arith, kept, less)

once_less_other : (side : Side) (o : Option Uses) → number (other side) (uses_in (once_less side o)) ≡ number (other side) (uses_in o)
once_less_other side None = refl
once_less_other side (Some u) = lasting_number (other side) (recounted (Less side) u) ∙ less_other side u

some_left : (n m : ℕ) → (nat_eq n 0 && nat_eq m 0) ≡ false → 0 < n + m
some_left zero zero e = absurd (cc)
some_left zero (suc m) e = omega arith
some_left (suc n) m e = omega arith

once_less_used : (side : Side) (o : Option Uses) (v : Uses) → once_less side o ≡ Some v → 0 < v.told + v.present
once_less_used side None v is = absurd (cc)
once_less_used side (Some u) v is = by (recounted (Less side) u) (is_unused (recounted (Less side) u)) refl is
  where
    by : (w : Uses) (b : Bool) → is_unused w ≡ b → cond b None (Some w) ≡ Some v → 0 < v.told + v.present
    by w true unused is = absurd (cc)
    by w false unused is = subst (λ x. 0 < x.told + x.present) (same_some w v is) (some_left w.told w.present unused)

module _ (side : Side) (tag : Tag) (cs ds : List (Tag × Uses)) (used : AreUsed cs) where
  -- a tag, whether it has numbers or none
  pub raised : is_sorted tag_cmp ds ≡ true → counted side cs tag + 1 < 2 ^ 64 → (one : Uses) → one ≡ one_use side → ds ≡ changed_or_put tag_cmp tag (recounted (More side)) one cs → IsRecounted side cs ds None (Some tag)
  raised rising small one once is =
      let more = once_more_number side (find tag_cmp tag cs) small in
      let itself = is_tag-itself tag in
      moved side tag (Some (once_more side (find tag_cmp tag cs))) cs ds None (Some tag) rising used
      (now_put tag _ cs ds (is ∙ ap (λ u. changed_or_put tag_cmp tag (recounted (More side)) u cs) once))
      (λ v e. is_used_number side _ v e (omega (arith, more)))
      (omega (arith, more, itself)) (once_more_other side (find tag_cmp tag cs))
      (λ v apart. sym (is_tag-apart v tag apart))

  -- a tag, whether it is in use still or not
  pub lowered : is_sorted tag_cmp ds ≡ true → 0 < counted side cs tag → ds ≡ changed_or_without tag_cmp tag (recounted (Less side)) is_unused cs → IsRecounted side cs ds (Some tag) None
  lowered rising some is =
      let less = once_less_number side (find tag_cmp tag cs) some in
      let itself = is_tag-itself tag in
      moved side tag (once_less side (find tag_cmp tag cs)) cs ds (Some tag) None rising used
      (now_with tag _ cs ds is)
      (once_less_used side (find tag_cmp tag cs))
      (omega (arith, less, itself)) (once_less_other side (find tag_cmp tag cs))
      (λ v apart. is_tag-apart v tag apart)

-- a tag with a number is kept
pub kept_some : (side : Side) (cs : List (Tag × Uses)) (tag : Tag) → 0 < counted side cs tag → find tag_cmp tag cs ≡ None → ⊥
kept_some side cs tag some none =
    let zero : counted side cs tag ≡ 0 = ap (λ o. number side (uses_in o)) none ∙ no_number side in
    omega (arith, zero, some)

pub kept_found : (side : Side) (cs : List (Tag × Uses)) (tag : Tag) → 0 < counted side cs tag → is_some (find tag_cmp tag cs) ≡ true
kept_found side cs tag some = by (find tag_cmp tag cs) refl
  where
    by : (o : Option Uses) → find tag_cmp tag cs ≡ o → is_some o ≡ true
    by None is = absurd (kept_some side cs tag some is)
    by (Some u) is = refl

-- first a use more, and then one less
pub both_steps : (side : Side) (cs ds es : List (Tag × Uses)) (before after : Option Tag) → IsRecounted side cs ds None after → IsRecounted side ds es before None → IsRecounted side cs es before after
both_steps side cs ds es before after one two = record {
  rising = two.rising;
  used = two.used;
  counts = λ t. (let a = one.counts t in let b = two.counts t in omega (arith, a, b));
  others = λ t. two.others t ∙ one.others t;
}

pub no_step : (side : Side) (cs : List (Tag × Uses)) → is_sorted tag_cmp cs ≡ true → AreUsed cs → IsRecounted side cs cs None None
no_step side cs rising used = record { rising = rising; used = used; counts = λ t. refl; others = λ t. refl }

-- what holds of a side and of the other one holds of both
both_sides : (P : Side → Type 0) (side : Side) → P side → P (other side) → (s : Side) → P s
both_sides P Told here beside Told = here
both_sides P Told here beside Present = beside
both_sides P Present here beside Told = beside
both_sides P Present here beside Present = here

-- right numbers stay right
pub still_right : (side : Side) (cs ds : List (Tag × Uses)) (before after : Option Tag) (old new : Side → Tag → ℕ) → AreCounts cs old → IsRecounted side cs ds before after
    → ((t : Tag) → new side t + has_tag t before ≡ old side t + has_tag t after) → ((t : Tag) → new (other side) t ≡ old (other side) t) → AreCounts ds new
still_right side cs ds before after old new right step same beside = record {
  rising = step.rising;
  used = step.used;
  counts = λ s t. both_sides (λ s. counted s ds t ≡ new s t) side
      (let a = right.counts side t in let b = step.counts t in let e = same t in omega (arith, a, b, e))
      (step.others t ∙ right.counts (other side) t ∙ sym (beside t)) s;
}

-- ---- a tag has a number where it is told

pub told_number : (cs : List (Tag × Uses)) (side : Side) (m : FinMap prefix_cmp Entry) (t : Tag) → counted side cs t ≡ uses m t → not (nat_eq (counted side cs t) 0) ≡ tells m t
told_number cs side m t right = by (tells m t) refl
  where
    by : (b : Bool) → tells m t ≡ b → not (nat_eq (counted side cs t) 0) ≡ b
    by true told = let some = told_uses m t told in ap not (false_from_ne_true (nat_eq (counted side cs t) 0) (λ e. let none = eqb-true (counted side cs t) 0 e in omega (arith, right, some, none)))
    by false told = ap not (eq-eqb (counted side cs t) 0 (right ∙ untold_uses m t told))

-- a tag has numbers exactly where it was told or is present
pub found_either : (cs : List (Tag × Uses)) (m n : FinMap prefix_cmp Entry) (t : Tag) → AreCounts cs (by_side (uses m) (uses n)) → is_some (find tag_cmp t cs) ≡ (tells m t || tells n t)
found_either cs m n t right = by (find tag_cmp t cs) (tells m t) (tells n t) refl refl refl
  where
    number_is : (side : Side) (o : Option Uses) → find tag_cmp t cs ≡ o → counted side cs t ≡ number side (uses_in o)
    number_is side o is = ap (λ o. number side (uses_in o)) is

    by : (o : Option Uses) (a b : Bool) → find tag_cmp t cs ≡ o → tells m t ≡ a → tells n t ≡ b → is_some o ≡ (a || b)
    by None true b is told present =
        let none : counted Told cs t ≡ 0 = number_is Told None is in
        let some = told_uses m t told in
        let same : counted Told cs t ≡ uses m t = right.counts Told t in
        absurd (omega (arith, none, some, same))
    by None false true is told present =
        let none : counted Present cs t ≡ 0 = number_is Present None is in
        let some = told_uses n t present in
        let same : counted Present cs t ≡ uses n t = right.counts Present t in
        absurd (omega (arith, none, some, same))
    by None false false is told present = refl
    by (Some u) true b is told present = refl
    by (Some u) false true is told present = refl
    by (Some u) false false is told present =
        let some : 0 < u.told + u.present = right.used t u is in
        let a : counted Told cs t ≡ u.told = number_is Told (Some u) is in
        let b : counted Present cs t ≡ u.present = number_is Present (Some u) is in
        let c : counted Told cs t ≡ uses m t = right.counts Told t in
        let d : counted Present cs t ≡ uses n t = right.counts Present t in
        let e = untold_uses m t told in
        let f = untold_uses n t present in
        absurd (omega (arith, some, a, b, c, d, e, f))

pub none_counted : (cs : List (Tag × Uses)) (m n : FinMap prefix_cmp Entry) → cs ≡ [] → m ≡ empty → n ≡ empty → AreCounts cs (by_side (uses m) (uses n))
none_counted cs m n none nothing no_present = subst (λ es. AreCounts es (by_side (uses m) (uses n))) (sym none) (record {
  rising = refl;
  used = λ t u is. absurd (cc);
  counts = λ side t. by t side;
})
  where
    by : (t : Tag) (side : Side) → number side (uses_in None) ≡ by_side (uses m) (uses n) side t
    by t Told = sym (ap (λ n. uses n t) nothing ∙ uses_empty t)
    by t Present = sym (ap (λ n. uses n t) no_present ∙ uses_empty t)
