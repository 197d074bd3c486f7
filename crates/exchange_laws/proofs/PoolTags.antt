-- Tags that were told are the pool's.
use Rattle.std.proofs.Common.{◌≡◌, ℕ, ◌≤◌, true, ap, ◌∙◌, refl, arith}
use Rattle.std.specs.Prelude.{IfSome, Option, Some, None, slice_get, unwrap_or}
use Rattle.std.specs.FinMap.{FinMap, empty, get}
use Rattle.std.proofs.lemmas.Bool.{or_right}
use Rattle.events.specs.State.{State, present}
use Rattle.events.specs.Tags.{is_live, same_tag, tells}
use Rattle.events.specs.declared.Entry.{Entry}
use Rattle.exchange_laws.proofs.Lists.{numbers_range}
use Rattle.exchange_laws.proofs.LivePairs as live_pairs
use Rattle.exchange_laws.proofs.LivePairs.{present_tag}
use Rattle.exchange_laws.proofs.Sames.{tag_itself}
use Rattle.exchange_laws.proofs.TagsAfter.{live_of}
use Rattle.exchange_laws.specs.Steady.{IsSteady}
use Rattle.net_types.specs.Keys.{prefix_cmp}
use Rattle.net_types.specs.declared.address.Pid.{Pid}
use Rattle.net_types.specs.declared.address.Tag.{Tag}
use Rattle.net_types.specs.declared.prefix.Prefix.{Prefix}
use Rattle.net_types.proofs.OrderLemmas.{prefixes_total}
use Rattle.net_types.proofs.ValueLemmas.{any_value}

-- a live tag is one of the pool's, which has at most 65536
pub live_small : {s : State} → IsSteady s → (t : Tag) → is_live s t ≡ true → t.0 ≤ 65536
live_small {s} steady t live =
    let range = numbers_range (λ n. let u : Tag = record { 0 = n } in u) (λ (u : Tag). u.0) (λ n. refl) 1 s.size t (steady.pooled t live) in
    let few : s.size ≤ 65536 = steady.sized.small in
    omega (arith, range.1, few)

-- a tag that somebody was told is live
pub told_live : (s : State) (k : ℕ) (entries : FinMap prefix_cmp Entry) → slice_get s.told k ≡ Some entries → (t : Tag) → tells entries t ≡ true → is_live s t ≡ true
told_live s k entries at t told = or_right _ _ (live_pairs.told_live s (record { 0 = k }) t (ap (λ o. tells (unwrap_or o empty) t) at ∙ told))

-- so is the one told for a prefix
pub told_small : {s : State} → IsSteady s → (k : ℕ) (entries : FinMap prefix_cmp Entry) → slice_get s.told k ≡ Some entries → (p : Prefix) (e : Entry) → get entries p ≡ Some e → e.tag.0 ≤ 65536
told_small {s} steady k entries at p e has =
    live_small steady e.tag (told_live s k entries at e.tag (any_value prefix_cmp prefixes_total (λ (x : Entry). same_tag x.tag e.tag) entries p e has (tag_itself e.tag)))

-- and each that is present
pub present_small : {s : State} → IsSteady s → (who : Pid) (p : Prefix) → IfSome (get (present s who) p) (λ e. e.tag.0 ≤ 65536)
present_small {s} steady who p = by (get (present s who) p) refl
  where
    by : (o : Option Entry) → get (present s who) p ≡ o → IfSome o (λ e. e.tag.0 ≤ 65536)
    by None is = tt
    by (Some e) is =
        let here = present_tag s who e.tag (any_value prefix_cmp prefixes_total (λ (x : Entry). same_tag x.tag e.tag) (present s who) p e is (tag_itself e.tag)) in
        live_small steady e.tag (live_of s here.0 e.tag here.1.tagged)
