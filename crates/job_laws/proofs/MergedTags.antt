-- The tags at the end of a job.
use Rattle.events.proofs.Candidates.{first_Member}
use Rattle.events.proofs.Drained.{some_cond}
use Rattle.std.proofs.Common.{◌≡◌, ◌≤◌, Bool, true, false, cond, nat_eq, nat_lt, List, [], ◌∷◌, filter, ap, sym, subst, ◌∙◌, refl, arith, inl, inr}
use Rattle.std.specs.Prelude.{Some, None, is_some}
use Rattle.std.specs.FinMap.{get}
use Rattle.std.specs.List.{filter_map, list_any}
use Rattle.std.specs.Ordering.{eq_by_cmp, is_lt}
use Rattle.std.specs.declared.cmp.Ordering.TheVariants.{Less, Equal, Greater}
use Rattle.std.proofs.lemmas.Bool.{ltb-true}
use Rattle.events.specs.After.{least_tag, merged}
use Rattle.events.specs.State.{State}
use Rattle.events.specs.Tags.{carried, is_carried}
use Rattle.exchange_laws.proofs.FreshTags.{carried_listed}
use Rattle.exchange_laws.proofs.Lists.{cond_there}
use Rattle.net_types.proofs.EqualLemmas.{signature_test}
use Rattle.net_types.proofs.MapLemmas.{get-tabulate}
use Rattle.net_types.proofs.MemberLemmas.{Member-filter_map}
use Rattle.net_types.proofs.OrderLemmas.{prefix_tie, prefixes_total, tags_total}
use Rattle.net_types.proofs.OrderedLemmas.{any_member, member_any, ordered_rises, ordered_same}
use Rattle.net_types.proofs.RisingLemmas.{Member-filter, before, filter-Member}
use Rattle.net_types.proofs.TieLemmas.{tag_tie}
use Rattle.net_types.specs.Attributes.{same_signature}
use Rattle.net_types.specs.Keys.{prefix_cmp, tag_cmp}
use Rattle.net_types.specs.Maps.{ordered}
use Rattle.net_types.specs.Routes.{announced, first_of_list}
use Rattle.net_types.specs.Sets.{IsRising, Member}
use Rattle.net_types.specs.Signatures.{signature}
use Rattle.net_types.specs.declared.address.Tag.{Tag}
use Rattle.net_types.specs.declared.prefix.Prefix.{Prefix}
use Rattle.net_types.proofs.SetLemmas.{given_by}
use Rattle.std.proofs.lemmas.Option.{same_Some}

-- ---- lists

first_there : {A : Type 0} (xs : List A) (x : A) → Member x xs → (y : A) × (first_of_list xs ≡ Some y)
first_there [] x m = absurd m
first_there (y ∷ xs) x m = (y, refl)

tag_below : (t u : Tag) → before tag_cmp t u ≡ true → t.0 ≤ u.0
tag_below t u is = by (nat_lt t.0 u.0) (nat_eq t.0 u.0) refl is
  where
    by : (b c : Bool) → nat_lt t.0 u.0 ≡ b → is_lt (cond b Less (cond c Equal Greater)) ≡ true → t.0 ≤ u.0
    by true c less e = let below = ltb-true t.0 u.0 less in omega (arith, below)
    by false true less e = absurd (cc)
    by false false less e = absurd (cc)

-- the first of rising tags is the least
first_least : (ts : List Tag) (t u : Tag) → IsRising (before tag_cmp) ts → first_of_list ts ≡ Some t → Member u ts → t.0 ≤ u.0
first_least [] t u rises first m = absurd m
first_least (x ∷ ts) t u rises first (inl same) = let here : t ≡ u = sym (same_Some x t first) ∙ sym same in subst (λ (y : Tag). t.0 ≤ y.0) here (omega arith)
first_least (x ∷ ts) t u rises first (inr m) = subst (λ (y : Tag). y.0 ≤ u.0) (same_Some x t first) (tag_below x u (rises.0 u m))

-- ---- the least tag

-- another prefix has the same signature
abbrev is_alike : State → Prefix → Prefix → Bool
is_alike s p q = same_signature (signature s.routing q) (signature s.routing p)

-- the tags of the carried prefixes with the signature of a prefix
abbrev tags_like : State → Prefix → List Tag
tags_like s p = filter_map (get s.tag) (filter (is_alike s p) (carried s.routing))

pub merged_is : (s : State) (p : Prefix) → get (merged s).tag p ≡ cond (list_any (eq_by_cmp prefix_cmp p) (carried s.routing)) (least_tag s (signature s.routing p)) None
merged_is s p = get-tabulate prefix_cmp prefixes_total (λ q. least_tag s (signature s.routing q)) (λ q k tie. ap (λ x. least_tag s (signature s.routing x)) (sym (prefix_tie q k tie))) (carried s.routing) p

-- a tag at the end of a job is one that a prefix with the same signature had, and the least of these
pub record IsMergedTag (s : State) (p : Prefix) (t : Tag) : Type 0 where
  pub carried : is_carried s.routing p ≡ true
  pub like : Prefix
  pub tagged : get s.tag like ≡ Some t
  pub alike : signature s.routing like ≡ signature s.routing p
  pub least : (q : Prefix) (u : Tag) → is_carried s.routing q ≡ true → get s.tag q ≡ Some u → signature s.routing q ≡ signature s.routing p → t.0 ≤ u.0

-- a carried prefix has its tag among those of its signature
own_Member : (s : State) (p q : Prefix) (t : Tag) → is_carried s.routing q ≡ true → get s.tag q ≡ Some t → signature s.routing q ≡ signature s.routing p → Member t (ordered tag_cmp (tags_like s p))
own_Member s p q t carries tagged same =
    (ordered_same tag_cmp tags_total tag_tie (tags_like s p)).back t
    (Member-filter_map (get s.tag) (filter (is_alike s p) (carried s.routing)) q t
    (Member-filter (is_alike s p) (carried s.routing) q (carried_listed s.routing q carries) ((signature_test (signature s.routing q) (signature s.routing p)).1 same)) tagged)

pub merged_from : (s : State) (p : Prefix) (t : Tag) → get (merged s).tag p ≡ Some t → IsMergedTag s p t
merged_from s p t is =
    let listed : Bool = list_any (eq_by_cmp prefix_cmp p) (carried s.routing) in
    let chosen : cond listed (least_tag s (signature s.routing p)) None ≡ Some t = sym (merged_is s p) ∙ is in
    let stands : Member p (carried s.routing) = any_member prefix_cmp prefixes_total prefix_tie p (carried s.routing) (cond_there listed (least_tag s (signature s.routing p)) (ap is_some chosen)) in
    let first : first_of_list (ordered tag_cmp (tags_like s p)) ≡ Some t = some_cond listed (least_tag s (signature s.routing p)) t chosen in
    let from = given_by (get s.tag) (filter (is_alike s p) (carried s.routing)) t ((ordered_same tag_cmp tags_total tag_tie (tags_like s p)).onto t (first_Member (ordered tag_cmp (tags_like s p)) t first)) in
    let left = filter-Member (is_alike s p) (carried s.routing) from.source from.stands in record {
      carried = (filter-Member (is_carried s.routing) (ordered prefix_cmp (announced s.routing)) p stands).passes;
      like = from.source;
      tagged = from.is;
      alike = (signature_test (signature s.routing from.source) (signature s.routing p)).0 left.passes;
      least = λ q u carries tagged same. first_least (ordered tag_cmp (tags_like s p)) t u (ordered_rises tag_cmp tags_total tag_tie (tags_like s p)) first (own_Member s p q u carries tagged same);
    }

-- each carried prefix has a tag still
pub merged_there : (s : State) (p : Prefix) (t : Tag) → is_carried s.routing p ≡ true → get s.tag p ≡ Some t → (u : Tag) × (get (merged s).tag p ≡ Some u)
merged_there s p t carries tagged =
    let first = first_there (ordered tag_cmp (tags_like s p)) t (own_Member s p p t carries tagged refl) in (
      first.0,
      merged_is s p ∙ ap (λ b. cond b (least_tag s (signature s.routing p)) None) (member_any prefix_cmp prefixes_total prefix_tie p (carried s.routing) (carried_listed s.routing p carries)) ∙ first.1,
    )

-- prefixes with the same signature have the same one
pub merged_alike : (s : State) (p q : Prefix) → is_carried s.routing p ≡ true → is_carried s.routing q ≡ true → signature s.routing p ≡ signature s.routing q → get (merged s).tag p ≡ get (merged s).tag q
merged_alike s p q first second same =
    merged_is s p
    ∙ ap (λ b. cond b (least_tag s (signature s.routing p)) None)
    (member_any prefix_cmp prefixes_total prefix_tie p (carried s.routing) (carried_listed s.routing p first) ∙ sym (member_any prefix_cmp prefixes_total prefix_tie q (carried s.routing) (carried_listed s.routing q second)))
    ∙ ap (λ sig. cond (list_any (eq_by_cmp prefix_cmp q) (carried s.routing)) (least_tag s sig) None) same
    ∙ sym (merged_is s q)
