-- With the signatures of the fresh tags kept, and those of the dead ones forgotten, the signatures are those of the state afterwards.
use Rattle.std.proofs.Common.{◌≡◌, Bool, true, false, cond, List, [], ◌∷◌, sym, ap, ◌∙◌, refl, inl, inr}
use Rattle.std.specs.Prelude.{None}
use Rattle.std.specs.FinMap.{FinMap, get, insert, remove, same_map}
use Rattle.events.specs.State.{State}
use Rattle.events.specs.Tags.{is_live, kept_signature, retagged}
use Rattle.exchange_laws.proofs.Lists.{clash}
use Rattle.exchange_laws.proofs.TagsAfter.{kept_is, live_tags_stay}
use Rattle.exchange_laws.specs.Retagging.{KeptAreLive, TagsArePooled}
use Rattle.net_types.proofs.OrderLemmas.{tags_total}
use Rattle.net_types.proofs.TieLemmas.{tag_cmp-IsAntisymmetric, tag_tie}
use Rattle.net_types.specs.Exports.{Routing}
use Rattle.net_types.specs.Keys.{tag_cmp}
use Rattle.net_types.specs.declared.address.Tag.{Tag}
use Rattle.net_types.specs.declared.route.Part.{Part}
use Rattle.fast_path.proofs.CommittedFresh.{each_kept, fresh_with_signature, live_from_before}
use Rattle.fast_path.proofs.CommittedMaps.{get_with_all, get_without_others, get_without_those, with_all, without_all}
use Rattle.fast_path.specs.Committing.{Kept, kept_with, kept_without}
use Rattle.fast_path.specs.Planned.{group_kept}
use Rattle.fast_path.specs.LiveOnly.{AreDead}
pub use Rattle.net_types.proofs.FindLemmas.{nothing}

-- the signatures that are kept
abbrev KeptOf : Type 0
KeptOf = FinMap tag_cmp (List Part)

with_is : (m : KeptOf) (es : List Kept) → kept_with m es ≡ with_all tag_cmp tags_total tag_tie m es
with_is m [] = refl
with_is m (e ∷ es) = with_is (insert m e.0 e.1) es

pub without_is : (m : KeptOf) (ts : List Tag) → kept_without m ts ≡ without_all tag_cmp tags_total tag_tie m ts
without_is m [] = refl
without_is m (t ∷ ts) = without_is (remove m t) ts

module _ (s : State) (r : Routing) (pooled : TagsArePooled s) where
  abbrev s1 : State
  s1 = retagged s r

  -- a live tag has its signature, once those of the fresh tags are kept
  pub live_kept : (t : Tag) → is_live s1 t ≡ true → get (kept_with s.kept (group_kept s r)) t ≡ get s1.kept t
  live_kept t live =
      ap (λ m. get m t) (with_is s.kept (group_kept s r))
      ∙ get_with_all tag_cmp tags_total tag_tie (get s1.kept) (group_kept s r) s.kept t (each_kept s r pooled) (elim (live_from_before s r t live) [
        | inl fresh ↦ inr (record { entry = (t, fresh.group.after); stands = fresh_with_signature s r t fresh; at = refl })
        | inr before ↦ inl (sym (live_tags_stay s r pooled t before live))
      ])

  module _ (kept : KeptAreLive s) (dead : List Tag) (are : AreDead s s1 dead) where
    gone : (t : Tag) → is_live s1 t ≡ false → get s1.kept t ≡ None
    gone t is = kept_is s r pooled t ∙ ap (λ b. cond b (kept_signature s r t) None) is

    -- a tag that is not live, and was not, has none
    never : (t : Tag) → is_live s t ≡ false → is_live s1 t ≡ false → get (kept_with s.kept (group_kept s r)) t ≡ get s1.kept t
    never t was is =
        ap (λ m. get m t) (with_is s.kept (group_kept s r))
        ∙ get_with_all tag_cmp tags_total tag_tie (get s1.kept) (group_kept s r) s.kept t (each_kept s r pooled) (inl (nothing (get s.kept t) (λ there. clash (kept t there) was) ∙ sym (gone t is)))

    kept_at : (t : Tag) → get (kept_without (kept_with s.kept (group_kept s r)) dead) t ≡ get s1.kept t
    kept_at t = ap (λ m. get m t) (without_is (kept_with s.kept (group_kept s r)) dead) ∙ by (is_live s1 t) (is_live s t) refl refl
      where
        by : (b c : Bool) → is_live s1 t ≡ b → is_live s t ≡ c → get (without_all tag_cmp tags_total tag_tie (kept_with s.kept (group_kept s r)) dead) t ≡ get s1.kept t
        by true c is was = get_without_others tag_cmp tags_total tag_tie dead (kept_with s.kept (group_kept s r)) t (λ m. clash is (are.each t m).1) ∙ live_kept t is
        by false true is was = get_without_those tag_cmp tags_total tag_tie dead (kept_with s.kept (group_kept s r)) t (are.all t was is) ∙ sym (gone t is)
        by false false is was = get_without_others tag_cmp tags_total tag_tie dead (kept_with s.kept (group_kept s r)) t (λ m. clash (are.each t m).0 was) ∙ never t was is

    -- the signatures are those of the state afterwards
    pub kept_then : kept_without (kept_with s.kept (group_kept s r)) dead ≡ s1.kept
    kept_then = same_map tags_total tag_cmp-IsAntisymmetric (kept_without (kept_with s.kept (group_kept s r)) dead) s1.kept kept_at
