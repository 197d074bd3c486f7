-- What a plan says of tags and pairs is what becomes of them.
use Rattle.std.proofs.Common.{◌≡◌, ◌⊎◌, ◌<◌, Bool, true, false, ◌&&◌, cond, sym, subst, ◌∙◌, refl, inl, inr}
use Rattle.std.specs.Prelude.{Some, None, is_some}
use Rattle.std.specs.FinMap.{get}
use Rattle.events.specs.State.{State}
use Rattle.events.specs.Tags.{fresh_tag, group_of, is_carried, is_changed, is_live_pair, retagged}
use Rattle.exchange_laws.proofs.FreshTags.{group_listed}
use Rattle.exchange_laws.proofs.Lists.{clash}
use Rattle.exchange_laws.proofs.TagsAfter.{live_of, live_tags_stay, tags_are}
use Rattle.exchange_laws.specs.Editing.{IsBase}
use Rattle.exchange_laws.specs.Rules.{IsChange as IsRerouted, IsDeclaredAlike, IsTableAfter, is_new}
use Rattle.fast_path.proofs.CommittedReplies.{change, is_table}
use Rattle.fast_path.proofs.NewPairs.{group_class}
use Rattle.fast_path.proofs.PortsAndTags.{prefix_with}
use Rattle.fast_path.specs.Committing.{Kept, signed}
use Rattle.fast_path.specs.Plans.{IsPlan, planned}
use Rattle.fast_path.specs.declared.planned.Class.{Class}
use Rattle.fast_path.specs.declared.planned.Plan.{Plan}
use Rattle.job_upkeep.proofs.Tagged.{none_without, some_with, with_some, without_none}
use Rattle.job_upkeep.specs.Upkeep.{fresh_of}
use Rattle.net_types.proofs.PassLemmas.{some_there}
use Rattle.net_types.proofs.SetLemmas.{Member-map}
use Rattle.net_types.specs.Exports.{Routing}
use Rattle.net_types.specs.Sets.{Member}
use Rattle.net_types.specs.declared.address.Tag.{Tag}
use Rattle.net_types.specs.declared.prefix.Prefix.{Prefix}
use Rattle.net_types.specs.declared.rule.Pair.{Pair}
use Rattle.prefix_classes.specs.Classes.{members}
use Rattle.recompile.specs.Changing.{IsChange}
use Rattle.recompile.specs.Covering.{AreFew}
use Rattle.recompile.specs.Setting.{setting_of}

module _ (s : State) (r : Routing) (is_rebuilt : Pair → Bool) (plan : Plan) (base : IsBase s is_rebuilt) (alike : IsDeclaredAlike s.routing r) (is : IsPlan s r is_rebuilt plan) where
  abbrev s1 : State
  s1 = retagged s r

  abbrev s2 : State
  s2 = planned s r plan

  abbrev changes : IsRerouted s r
  changes = change s r is_rebuilt plan base alike is

  abbrev table : IsTableAfter s s1 is_rebuilt s2.table
  table = is_table s r is_rebuilt plan base alike is

  -- the tag of a class is one of the fresh ones
  class_given : (c : Class) → Member c plan.fresh.items → Member c.tag (fresh_of plan)
  class_given c m =
      let sign : Class → Kept = λ d. (d.tag, d.sig) in
      Member-map (λ (k : Kept). k.0) (signed plan.fresh.items) (sign c) (Member-map sign plan.fresh.items c m)

  -- a prefix's tag is fresh, or the one that it had
  pub fresh_or_old : (p : Prefix) (t : Tag) → get s1.tag p ≡ Some t → Member t (fresh_of plan) ⊎ (get s.tag p ≡ Some t)
  fresh_or_old p t at = by (is_carried r p) (is_changed s r p) refl refl (sym (tags_are s r p) ∙ at)
    where
      by : (c d : Bool) → is_carried r p ≡ c → is_changed s r p ≡ d → cond c (cond d (fresh_tag s r (group_of s r p)) (get s.tag p)) None ≡ Some t → Member t (fresh_of plan) ⊎ (get s.tag p ≡ Some t)
      by true true carries changed e =
          let made_for = group_class s r changes base.apart plan.tags (group_of s r p) t (group_listed s r p carries changed) e in
          inl (subst (λ u. Member u (fresh_of plan)) made_for.1 (class_given made_for.0 (subst (Member made_for.0) (sym is.fresh) made_for.3)))
      by true false carries same e = inr e
      by false d carries changed e = absurd (cc)

  -- a tag with members had some, or is fresh
  pub had_or_fresh : (t : Tag) → 0 < members s1.tag t → (0 < members s.tag t) ⊎ Member t (fresh_of plan)
  had_or_fresh t some =
      let with = prefix_with s1 t (some_with s1 t some) in
      elim (fresh_or_old with.prefix t with.tagged) [
        | inl fresh ↦ inr fresh
        | inr old ↦ inl (with_some s with.prefix t old)
      ]

  -- a pair is an added one, or has the rules that it had
  pub added_or_same : (pair : Pair) → is_some (get s2.table pair) ≡ true → Member pair plan.added ⊎ (get s2.table pair ≡ get s.table pair)
  added_or_same pair there = by (is_new s is_rebuilt pair) refl
    where
      live : is_live_pair s1 pair ≡ true
      live = sym (table.pairs pair) ∙ there

      by : (b : Bool) → is_new s is_rebuilt pair ≡ b → Member pair plan.added ⊎ (get s2.table pair ≡ get s.table pair)
      by true fresh = inl (subst (Member pair) (sym is.added) (is.new.all pair (λ i. live i && fresh i)))
      by false same = let has = some_there (get s2.table pair) there in inr (has.1 ∙ sym (table.old pair has.0 same has.1))

  pub told : AreFew (setting_of s2) → IsChange (setting_of s) (setting_of s2) (fresh_of plan) plan.emptied.items plan.added
  told few = record {
    new = λ t none some. elim (had_or_fresh t some) [ inl had ↦ absurd (never t none had) | inr fresh ↦ fresh ];
    gone = λ t m. none_without s1 t (is.emptied.each t m).1;
    lost = λ t some none. is.emptied.all t (some_with s t some) (without_none s1 t none);
    kept = λ t before after.
        let had = prefix_with s t (some_with s t before) in
        let has = prefix_with s1 t (some_with s1 t after) in
        live_tags_stay s r base.pooled t (live_of s had.prefix t had.tagged) (live_of s1 has.prefix t has.tagged);
    table = added_or_same;
    few = few;
  }
    where
      never : (t : Tag) → members s.tag t ≡ 0 → 0 < members s.tag t → ⊥
      never t none some = clash (some_with s t some) (without_none s t none)
