-- The tags that the moves leave are those at the end of a job: which are emptied, which pairs go with them, and what is told.
use Rattle.std.proofs.Common.{◌≡◌, true, false, not, List, [], ◌∷◌, map, ap, sym, subst, ◌∙◌, refl}
use Rattle.std.specs.Prelude.{Option, Some, None, is_some}
use Rattle.std.specs.FinMap.{get}
use Rattle.std.specs.List.{list_any}
use Rattle.std.specs.Option.{option_and_then}
use Rattle.std.proofs.lemmas.Bool.{false_from_ne_true}
use Rattle.events.specs.After.{merged}
use Rattle.events.specs.Fits.{tag_changes}
use Rattle.events.specs.State.{State}
use Rattle.events.specs.Tags.{carried, is_carried, tells}
use Rattle.events.specs.declared.TagChange.{TagChange}
use Rattle.exchange_laws.proofs.FreshTags.{carried_listed}
use Rattle.exchange_laws.proofs.Lists.{clash, is_some_of}
use Rattle.exchange_laws.specs.Listed.{AreLiveOnly}
use Rattle.exchange_laws.specs.Steady.{IsSteady}
use Rattle.fast_path.proofs.DeadTags.{untold_die}
use Rattle.fast_path.proofs.GonePairs.{gone_live_only}
use Rattle.fast_path.proofs.PortsAndTags.{has_prefix_of, prefix_with}
use Rattle.fast_path.proofs.TagOrder.{rising_tags}
use Rattle.fast_path.specs.Emptied.{old_tags}
use Rattle.fast_path.specs.LiveOnly.{AreDead, has_prefix, registered}
use Rattle.fast_path.specs.Pairs.{gone_pairs, untold}
use Rattle.fast_path.specs.Planned.{is_tag_below}
use Rattle.job_end.specs.Drafts.{left_tags, told_change}
use Rattle.job_laws.proofs.ListedChanges.{changes_are_listed}
use Rattle.job_laws.proofs.MergedStates.{tag_there}
use Rattle.job_laws.proofs.MergedTags.{merged_alike, merged_from, merged_there}
use Rattle.job_laws.specs.Changes.{is_change_before}
use Rattle.job_laws.specs.Jobs.{without_job}
use Rattle.net_types.proofs.MemberLemmas.{Member-filter_map}
use Rattle.net_types.proofs.OrderLemmas.{tags_total}
use Rattle.net_types.proofs.OrderedLemmas.{ordered_rises, ordered_same}
use Rattle.net_types.proofs.PassLemmas.{some_there}
use Rattle.net_types.proofs.RisingLemmas.{before, filter-IsRising, filter-Member}
use Rattle.net_types.proofs.SetLemmas.{Member-map, map-Member, given_by}
use Rattle.net_types.specs.Keys.{prefix_cmp, tag_cmp}
use Rattle.net_types.specs.Maps.{ordered}
use Rattle.net_types.specs.Routes.{announced}
use Rattle.net_types.specs.Sets.{IsRising, Member}
use Rattle.net_types.specs.Signatures.{signature}
use Rattle.net_types.specs.UpdateSpelling.{is_before}
use Rattle.net_types.specs.declared.address.Tag.{Tag}
use Rattle.net_types.specs.declared.prefix.Prefix.{Prefix}
use Rattle.prefix_classes.proofs.MergeLemmas.{only_moved}
use Rattle.prefix_classes.proofs.TabulatedLemmas.{merged_tabulated}
use Rattle.prefix_classes.specs.MergeLaws.{HaveSignatures}
use Rattle.prefix_classes.specs.Merging.{IsMergeOf, moved}
use Rattle.std.proofs.lemmas.Option.{same_Some}
use Rattle.net_types.proofs.TieLemmas.{tag_tie}
use Rattle.net_types.proofs.FindLemmas.{nothing}

-- moves in order are changes in order
changes_rise : (ms : List (Prefix × Tag)) → IsRising is_before (map (λ m. m.0) ms) → IsRising is_change_before (map told_change ms)
changes_rise [] rises = tt
changes_rise (m ∷ ms) rises = (
  λ c stands.
      let move = map-Member told_change ms c stands in
      subst (λ (d : TagChange). is_change_before (told_change m) d ≡ true) (sym move.is) (rises.0 move.of.0 (Member-map (λ (x : Prefix × Tag). x.0) ms move.of move.stands)),
  changes_rise ms rises.1,
)

module _ (s : State) (steady : IsSteady (without_job s)) (moves : List (Prefix × Tag)) (merge : IsMergeOf s.tag s.kept moves) where
  abbrev s1 : State
  s1 = merged s

  -- exactly the carried prefixes have tags, for which their signatures are kept
  with_signatures : HaveSignatures s.tag s.kept (carried s.routing) (signature s.routing)
  with_signatures = record {
    tagged = λ p m.
        let carries : is_carried s.routing p ≡ true = (filter-Member (is_carried s.routing) (ordered prefix_cmp (announced s.routing)) p m).passes in
        let there = some_there (get s.tag p) (steady.sound.tagged p ∙ carries) in
        ap (option_and_then (get s.kept)) there.1 ∙ steady.sound.kept p there.0 there.1;
    others = λ p none. nothing (get s.tag p) (λ has. none (carried_listed s.routing p (sym (steady.sound.tagged p) ∙ has)));
  }

  pub tags_merged : moved s.tag moves ≡ s1.tag
  tags_merged = merged_tabulated s.tag s.kept (carried s.routing) (signature s.routing) with_signatures moves merge

  -- a prefix that moves has another tag then
  pub move_at : (p : Prefix) (t : Tag) → Member (p, t) moves → (get s1.tag p ≡ Some t) × (¬ (get s.tag p ≡ Some t))
  move_at p t m = let is = (only_moved s.tag s.kept moves merge p t).0 m in (sym (ap (λ tags. get tags p) tags_merged) ∙ is.0, is.1)

  -- and one that has another tag then moves
  pub move_of : (p : Prefix) (t : Tag) → get s1.tag p ≡ Some t → ¬ (get s.tag p ≡ Some t) → Member (p, t) moves
  move_of p t now other = (only_moved s.tag s.kept moves merge p t).1 (ap (λ tags. get tags p) tags_merged ∙ now, other)

  carries_with : (p : Prefix) (t : Tag) → get s.tag p ≡ Some t → is_carried s.routing p ≡ true
  carries_with p t tagged = sym (steady.sound.tagged p) ∙ is_some_of (get s.tag p) t tagged

  -- prefixes that have a tag in turn have the same signature
  alike : (p q : Prefix) (t : Tag) → get s.tag p ≡ Some t → get s1.tag q ≡ Some t → signature s.routing p ≡ signature s.routing q
  alike p q t tagged now =
      let from = merged_from s q t now in
      same_Some (signature s.routing p) (signature s.routing from.like) (sym (steady.sound.kept p t tagged) ∙ steady.sound.kept from.like t from.tagged) ∙ from.alike

  -- no prefix has a tag then that a moved prefix had
  left_empty : (p q : Prefix) (t u : Tag) → Member (p, u) moves → get s.tag p ≡ Some t → get s1.tag q ≡ Some t → ⊥
  left_empty p q t u m tagged now =
      let from = merged_from s q t now in
      let at : get s1.tag p ≡ Some t = merged_alike s p q (carries_with p t tagged) from.carried (alike p q t tagged now) ∙ now in
      let move = move_at p u m in
      let same : u ≡ t = same_Some u t (sym move.0 ∙ at) in
      move.1 (tagged ∙ ap Some (sym same))

  -- ---- the tags that the moved prefixes had

  abbrev old : List Tag
  old = old_tags s.tag (map told_change moves)

  abbrev pub left : List Tag
  left = left_tags s.tag moves

  left_each : (t : Tag) → Member t left → (has_prefix s t ≡ true) × (has_prefix s1 t ≡ false)
  left_each t m =
      let from = given_by (λ (c : TagChange). get s.tag c.prefix) (map told_change moves) t ((ordered_same tag_cmp tags_total tag_tie old).onto t m) in
      let move = map-Member told_change moves from.source from.stands in
      let p : Prefix = move.of.0 in
      let tagged : get s.tag p ≡ Some t = ap (λ (c : TagChange). get s.tag c.prefix) (sym move.is) ∙ from.is in (
        has_prefix_of s p t tagged,
        false_from_ne_true (has_prefix s1 t) (λ has. let q = prefix_with s1 t has in left_empty p q.prefix t move.of.1 move.stands tagged q.tagged),
      )

  left_all : (t : Tag) → has_prefix s t ≡ true → has_prefix s1 t ≡ false → Member t left
  left_all t has none =
      let p = prefix_with s t has in
      let now = merged_there s p.prefix t (carries_with p.prefix t p.tagged) p.tagged in
      let u : Tag = now.0 in
      let other : ¬ (get s.tag p.prefix ≡ Some u) = λ same. clash (has_prefix_of s1 p.prefix t (now.1 ∙ sym same ∙ p.tagged)) none in
      (ordered_same tag_cmp tags_total tag_tie old).back t
      (Member-filter_map (λ (c : TagChange). get s.tag c.prefix) (map told_change moves) (told_change (p.prefix, u)) t (Member-map told_change moves (p.prefix, u) (move_of p.prefix u now.1 other)) p.tagged)

  -- the pairs that go with them are those that are live no more
  pub gone_are : AreLiveOnly s s1 (gone_pairs (registered s) s.kept s.told left)
  gone_are =
      let gone = gone_live_only s s.routing s1.tag refl steady.owners steady.sound.kept alike left steady.apart (record { each = left_each; all = left_all }) in
      record { rising = gone.rising; each = gone.each; all = gone.all }

  -- those that nobody was told are live no more
  pub dead_are : AreDead s s1 (untold s.told left)
  dead_are = let dead = untold_die s s1.tag left (record { each = left_each; all = left_all }) in record { each = dead.each; all = dead.all }

  pub dead_rise : IsRising is_tag_below (untold s.told left)
  dead_rise =
      rising_tags (untold s.told left) (filter-IsRising (before tag_cmp) (λ t. not (list_any (λ entries. tells entries t) s.told)) left (ordered_rises tag_cmp tags_total tag_tie old))

  -- ---- the changes of tags

  -- a prefix that has another tag then moves
  pub changed : (p : Prefix) → ¬ get s.tag p ≡ get s1.tag p → (t : Tag) × Member (p, t) moves
  changed p apart = by (get s1.tag p) refl
    where
      by : (o : Option Tag) → get s1.tag p ≡ o → (t : Tag) × Member (p, t) moves
      by (Some t) now = (t, move_of p t now (λ same. apart (same ∙ sym now)))
      by None now =
          let none : get s.tag p ≡ None = nothing (get s.tag p) (λ has. clash (tag_there s steady p ∙ sym (steady.sound.tagged p) ∙ has) (ap is_some now)) in
          absurd (apart (none ∙ sym now))

  pub changes_are : map told_change moves ≡ tag_changes s.tag s1.tag
  changes_are = sym (changes_are_listed s.tag s1.tag (map told_change moves) (record {
    rising = changes_rise moves merge.rising;
    now = λ c m. let move = map-Member told_change moves c m in subst (λ (d : TagChange). get s1.tag d.prefix ≡ d.tag) (sym move.is) (move_at move.of.0 move.of.1 move.stands).0;
    differs = λ c m. let move = map-Member told_change moves c m in subst (λ (d : TagChange). ¬ get s.tag d.prefix ≡ d.tag) (sym move.is) (move_at move.of.0 move.of.1 move.stands).1;
    all = λ p apart. let to = changed p apart in (told_change (p, to.0), Member-map told_change moves (p, to.0) to.1, refl);
  }))
