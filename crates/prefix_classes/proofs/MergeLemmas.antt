-- What the tags are once classes are merged.
use Rattle.std.proofs.Common.{◌≡◌, ◌∙◌, ◌⊎◌, ◌<◌, ◌≤◌, ℕ, zero, suc, Bool, true, false, cond, List, map, sym, ap, subst, refl, arith, inl, inr}
use Rattle.std.specs.Prelude.{◌↔◌, Option, Some, None, nat_lt}
use Rattle.std.specs.FinMap.{FinMap, get}
use Rattle.std.specs.Ordering.{eq_by_cmp}
use Rattle.std.specs.Option.{option_and_then}
use Rattle.std.proofs.lemmas.Bool.{false≢true, ltb-true, ltb-false, lt-ltb}
use Rattle.net_types.proofs.OrderLemmas.{tags_total}
use Rattle.net_types.proofs.SetLemmas.{Member-map, map-Member, map-map}
use Rattle.net_types.proofs.TieLemmas.{tag_tie, ties_itself}
use Rattle.net_types.specs.Keys.{prefix_cmp, tag_cmp}
use Rattle.net_types.specs.Sets.{IsRising, Member}
use Rattle.net_types.specs.UpdateSpelling.{is_before}
use Rattle.net_types.specs.declared.address.Tag.{Tag}
use Rattle.net_types.specs.declared.prefix.Prefix.{Prefix}
use Rattle.net_types.specs.declared.route.Part.{Part}
use Rattle.prefix_classes.proofs.ChangeLemmas.{changed_prefixes_have_new_tags, other_prefixes_keep_their_tags}
use Rattle.prefix_classes.proofs.MemberLemmas.{has_member, some_member}
use Rattle.prefix_classes.proofs.PlacedLemmas.{is_sig_itself, same_sig, is_sig}
use Rattle.prefix_classes.specs.Classes.{members}
use Rattle.prefix_classes.specs.Laws.{AreRising, Change}
use Rattle.prefix_classes.specs.MergeLaws.{sig_at}
use Rattle.prefix_classes.specs.Merging.{IsLeastTag, IsMergeOf, IsMove, as_change, moved, used_sig}
use Rattle.net_types.proofs.FindLemmas.{some_same}

none_or_some : {A : Type 0} (o : Option A) → (o ≡ None) ⊎ ((x : A) × (o ≡ Some x))
none_or_some None = inl refl
none_or_some (Some x) = inr (x, refl)

abbrev pub same_number : (t u : Tag) → t.0 ≡ u.0 → t ≡ u
same_number t u e = λ i. record { 0 = e i }

-- ---- moves as changes

pub moves_rise : (moves : List (Prefix × Tag)) → IsRising is_before (map (λ m. m.0) moves) → AreRising (map as_change moves)
moves_rise moves rising = subst (IsRising is_before) (sym (map-map (λ (c : Change). c.0) as_change (λ (m : Prefix × Tag). m.0) (λ m. refl) moves)) rising

pub unmoved : (tags : FinMap prefix_cmp Tag) (moves : List (Prefix × Tag)) (p : Prefix) → ((t : Tag) → ¬ Member (p, t) moves) → get (moved tags moves) p ≡ get tags p
unmoved tags moves p never = other_prefixes_keep_their_tags tags (map as_change moves) p (λ after m.
    let from = map-Member as_change moves (p, after) m in
    never from.of.1 (subst (λ (q : Prefix). Member (q, from.of.1) moves) (sym (ap (λ (c : Change). c.0) from.is)) from.stands))

module _ (tags : FinMap prefix_cmp Tag) (kept : FinMap tag_cmp (List Part)) where
  -- ---- tags with members

  pub used_is : (t : Tag) → 0 < members tags t → used_sig tags kept t ≡ get kept t
  used_is t some = ap (λ b. cond b (get kept t) None) (lt-ltb 0 (members tags t) some)

  pub is_used : (t : Tag) (sig : List Part) → used_sig tags kept t ≡ Some sig → (0 < members tags t) × (get kept t ≡ Some sig)
  is_used t sig is = by (nat_lt 0 (members tags t)) refl is
    where
      by : (b : Bool) → nat_lt 0 (members tags t) ≡ b → cond b (get kept t) None ≡ Some sig → (0 < members tags t) × (get kept t ≡ Some sig)
      by true some e = (ltb-true 0 (members tags t) some, e)
      by false none e = cc

  -- ---- the least tag of a signature

  abbrev has : List Part → ℕ → Bool
  has sig n = is_sig sig (used_sig tags kept (record { 0 = n }))

  -- the least number below a bound that has the signature, or none
  lowest : (sig : List Part) (n : ℕ) → ((m : ℕ) → m < n → has sig m ≡ false) ⊎ ((m : ℕ) × (has sig m ≡ true) × ((k : ℕ) → k < m → has sig k ≡ false))
  lowest sig zero = inl (λ m below. absurd (omega arith))
  lowest sig (suc n) = by (lowest sig n)
    where
      here : (b : Bool) → has sig n ≡ b → ((m : ℕ) → m < n → has sig m ≡ false) → ((m : ℕ) → m < suc n → has sig m ≡ false) ⊎ ((m : ℕ) × (has sig m ≡ true) × ((k : ℕ) → k < m → has sig k ≡ false))
      here true is none = inr (n, is, none)
      here false isnt none = inl (λ m below. elim (nat_lt m n) as (λ b. nat_lt m n ≡ b → has sig m ≡ false) [
        | true ↦ λ lower. none m (ltb-true m n lower)
        | false ↦ λ higher. let at_least : n ≤ m = ltb-false m n higher in let same : m ≡ n = omega arith in ap (has sig) same ∙ isnt
      ] refl)

      by : ((m : ℕ) → m < n → has sig m ≡ false) ⊎ ((m : ℕ) × (has sig m ≡ true) × ((k : ℕ) → k < m → has sig k ≡ false)) → ((m : ℕ) → m < suc n → has sig m ≡ false) ⊎ ((m : ℕ) × (has sig m ≡ true) × ((k : ℕ) → k < m → has sig k ≡ false))
      by (inl none) = here (has sig n) refl none
      by (inr found) = inr found

  pub least_exists : (sig : List Part) (u : Tag) → used_sig tags kept u ≡ Some sig → (t : Tag) × IsLeastTag tags kept sig t
  least_exists sig u is = by (lowest sig (suc u.0))
    where
      by : ((m : ℕ) → m < suc u.0 → has sig m ≡ false) ⊎ ((m : ℕ) × (has sig m ≡ true) × ((k : ℕ) → k < m → has sig k ≡ false)) → (t : Tag) × IsLeastTag tags kept sig t
      by (inl none) = absurd (false≢true (sym (none u.0 (omega arith)) ∙ is_sig_itself sig (used_sig tags kept u) is))
      by (inr (m, there, lower)) = (
        record { 0 = m },
        record {
          has = same_sig sig (used_sig tags kept (record { 0 = m })) there;
          least = λ v alike. elim (nat_lt v.0 m) as (λ b. nat_lt v.0 m ≡ b → m ≤ v.0) [
            | true ↦ λ below. absurd (false≢true (sym (lower v.0 (ltb-true v.0 m below)) ∙ is_sig_itself sig (used_sig tags kept v) alike))
            | false ↦ λ above. ltb-false v.0 m above
          ] refl;
        },
      )

  pub one_least : (sig : List Part) (t u : Tag) → IsLeastTag tags kept sig t → IsLeastTag tags kept sig u → t ≡ u
  one_least sig t u one other =
      let low : t.0 ≤ u.0 = one.least u other.has in
      let high : u.0 ≤ t.0 = other.least t one.has in
      same_number t u (omega arith)

  -- ---- the signature of a prefix

  pub record IsTagged (p : Prefix) (sig : List Part) : Type 0 where
    pub from : Tag
    pub had : get tags p ≡ Some from
    pub kept_sig : get kept from ≡ Some sig

  pub is_tagged : (p : Prefix) (sig : List Part) → sig_at tags kept p ≡ Some sig → IsTagged p sig
  is_tagged p sig is = by (get tags p) refl is
    where
      by : (o : Option Tag) → get tags p ≡ o → option_and_then (get kept) o ≡ Some sig → IsTagged p sig
      by None e none = cc
      by (Some from) e some = record { from = from; had = e; kept_sig = some }

  sig_of_move : (p : Prefix) (t : Tag) → (m : IsMove tags kept p t) → sig_at tags kept p ≡ Some m.sig
  sig_of_move p t m = ap (option_and_then (get kept)) m.had ∙ m.kept_sig

  -- ---- the merge

  module _ (moves : List (Prefix × Tag)) (is : IsMergeOf tags kept moves) where
    pub moved_to : (p : Prefix) (t : Tag) → Member (p, t) moves → get (moved tags moves) p ≡ Some t
    moved_to p t m = changed_prefixes_have_new_tags tags (map as_change moves) p (Some t) (moves_rise moves is.rising) (Member-map as_change moves (p, t) m)

    pub record HasLeast (p : Prefix) (sig : List Part) : Type 0 where
      pub to : Tag
      pub now : get (moved tags moves) p ≡ Some to
      pub least : IsLeastTag tags kept sig to

    pub has_least : (p : Prefix) (sig : List Part) → sig_at tags kept p ≡ Some sig → HasLeast p sig
    has_least p sig known = by (eq_by_cmp tag_cmp at.from to.0) refl
      where
        at : IsTagged p sig
        at = is_tagged p sig known

        to : (t : Tag) × IsLeastTag tags kept sig t
        to = least_exists sig at.from (used_is at.from (some_member tags p at.from at.had) ∙ at.kept_sig)

        never : at.from ≡ to.0 → (t : Tag) → ¬ Member (p, t) moves
        never same t m =
            let move = is.right p t m in
            let own : move.sig ≡ sig = some_same (sig_at tags kept p) move.sig sig (sig_of_move p t move) known in
            let from : move.from ≡ at.from = some_same (get tags p) move.from at.from move.had at.had in
            move.other (from ∙ same ∙ one_least sig to.0 t to.1 (subst (λ s. IsLeastTag tags kept s t) own move.to))

        by : (b : Bool) → eq_by_cmp tag_cmp at.from to.0 ≡ b → HasLeast p sig
        by true tie =
            let same : at.from ≡ to.0 = tag_tie at.from to.0 tie in
            record { to = to.0; now = unmoved tags moves p (never same) ∙ at.had ∙ ap Some same; least = to.1 }
        by false apart = record {
          to = to.0;
          now = moved_to p to.0 (is.all p to.0 (record {
            from = at.from;
            had = at.had;
            sig = sig;
            kept_sig = at.kept_sig;
            to = to.1;
            other = λ same. false≢true (sym apart ∙ ap (eq_by_cmp tag_cmp at.from) (sym same) ∙ ties_itself tags_total at.from);
          }));
          least = to.1;
        }

    pub merged_share : (p q : Prefix) (one other : List Part) → sig_at tags kept p ≡ Some one → sig_at tags kept q ≡ Some other → (get (moved tags moves) p ≡ get (moved tags moves) q) ↔ (one ≡ other)
    merged_share p q one other here there =
        let first = has_least p one here in
        let second = has_least q other there in (
          λ same.
              let tag : first.to ≡ second.to = some_same (get (moved tags moves) q) first.to second.to (sym same ∙ first.now) second.now in
              some_same (used_sig tags kept second.to) one other (ap (used_sig tags kept) (sym tag) ∙ first.least.has) second.least.has,
          λ same. first.now ∙ ap Some (one_least other first.to second.to (subst (λ s. IsLeastTag tags kept s first.to) same first.least) second.least) ∙ sym second.now,
        )

    pub no_move : (p : Prefix) → sig_at tags kept p ≡ None → (t : Tag) → ¬ Member (p, t) moves
    no_move p none t m = let move = is.right p t m in let some = sig_of_move p t move in let both : Some move.sig ≡ None = sym some ∙ none in cc

    pub merged_keep : (p : Prefix) → sig_at (moved tags moves) kept p ≡ sig_at tags kept p
    merged_keep p = by (none_or_some (sig_at tags kept p))
      where
        by : (sig_at tags kept p ≡ None) ⊎ ((sig : List Part) × (sig_at tags kept p ≡ Some sig)) → sig_at (moved tags moves) kept p ≡ sig_at tags kept p
        by (inl none) = ap (option_and_then (get kept)) (unmoved tags moves p (no_move p none))
        by (inr (sig, known)) =
            let at = has_least p sig known in
            ap (option_and_then (get kept)) at.now ∙ (is_used at.to sig at.least.has).1 ∙ sym known

    pub least_has_members : (sig : List Part) (t : Tag) → IsLeastTag tags kept sig t → 0 < members (moved tags moves) t
    least_has_members sig t least =
        let used = is_used t sig least.has in
        let some = has_member tags t used.0 in
        let at = has_least some.0 sig (ap (option_and_then (get kept)) some.1 ∙ used.1) in
        some_member (moved tags moves) some.0 t (at.now ∙ ap Some (one_least sig at.to t at.least least))

    pub members_have_least : (t : Tag) (sig : List Part) → get kept t ≡ Some sig → 0 < members (moved tags moves) t → IsLeastTag tags kept sig t
    members_have_least t sig known used =
        let some = has_member (moved tags moves) t used in
        let own : sig_at tags kept some.0 ≡ Some sig = sym (merged_keep some.0) ∙ ap (option_and_then (get kept)) some.1 ∙ known in
        let at = has_least some.0 sig own in
        subst (IsLeastTag tags kept sig) (some_same (get (moved tags moves) some.0) at.to t at.now some.1) at.least

    pub only_moved : (p : Prefix) (t : Tag) → Member (p, t) moves ↔ ((get (moved tags moves) p ≡ Some t) × (¬ (get tags p ≡ Some t)))
    only_moved p t = (
      λ m. (moved_to p t m, λ same. let move = is.right p t m in move.other (some_same (get tags p) move.from t move.had same)),
      λ now. by now (none_or_some (sig_at tags kept p)),
    )
      where
        by : (get (moved tags moves) p ≡ Some t) × (¬ (get tags p ≡ Some t)) → (sig_at tags kept p ≡ None) ⊎ ((sig : List Part) × (sig_at tags kept p ≡ Some sig)) → Member (p, t) moves
        by (now, other) (inl none) = absurd (other (sym (unmoved tags moves p (no_move p none)) ∙ now))
        by (now, other) (inr (sig, known)) =
            let at = is_tagged p sig known in
            let to = has_least p sig known in
            is.all p t (record {
              from = at.from;
              had = at.had;
              sig = sig;
              kept_sig = at.kept_sig;
              to = subst (IsLeastTag tags kept sig) (some_same (get (moved tags moves) p) to.to t to.now now) to.least;
              other = λ same. other (at.had ∙ ap Some same);
            })
