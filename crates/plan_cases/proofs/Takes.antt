-- Where a participant that was told nothing takes all that is pending, nothing goes, and lines build on the state as before.
use Rattle.std.proofs.Common.{◌≡◌, ℕ, ◌+◌, ◌<◌, Bool, true, false, cond, not, [], filter, length, sym, ap, subst, ◌∙◌, refl, arith}
use Rattle.std.specs.Prelude.{Option, Some, None, is_some, slice_set, unwrap_or}
use Rattle.std.specs.FinMap.{FinMap, empty, get, same_map}
use Rattle.std.specs.List.{list_any}
use Rattle.std.specs.Ordering.{eq_by_cmp}
use Rattle.advert_queue.proofs.PendingLemmas.{told_among}
use Rattle.advert_queue.specs.Telling.{tags_of}
use Rattle.events.proofs.Reached.{set_length}
use Rattle.events.specs.Fits.{none_rebuilt}
use Rattle.events.specs.Sound.{IsSound}
use Rattle.events.specs.State.{State, present, told_to}
use Rattle.events.specs.Tags.{free_tags, is_live, is_live_pair, tags, tells}
use Rattle.events.specs.declared.Entry.{Entry}
use Rattle.events.specs.declared.Phase.TheVariants.{Running, Start}
use Rattle.exchange_laws.proofs.Lists.{clash}
use Rattle.exchange_laws.proofs.RulesAfter.{sound_tagged}
use Rattle.exchange_laws.proofs.ToldAnew.{gone_pair, gone_tag, get_retained, kept_is, live_kept, pair_was_live, present_are_known, tag_was_live, telling_stays_pooled, told_sound}
use Rattle.exchange_laws.specs.Editing.{IsBase}
use Rattle.exchange_laws.specs.Telling.{AreKnownTo, told_anew}
use Rattle.fast_path.proofs.OfferedPresent.{number_at}
use Rattle.fast_path.specs.Offers.{Present, all_present, present_to}
use Rattle.net_types.proofs.OrderLemmas.{pairs_total, tags_total}
use Rattle.net_types.proofs.SetLemmas.{map-map}
use Rattle.net_types.proofs.TieLemmas.{pair_cmp-IsAntisymmetric, tag_cmp-IsAntisymmetric}
use Rattle.net_types.specs.Keys.{pair_cmp, prefix_cmp, tag_cmp}
use Rattle.net_types.specs.Routes.{numbers}
use Rattle.net_types.specs.declared.address.Pid.{Pid}
use Rattle.net_types.specs.declared.address.Tag.{Tag}
use Rattle.net_types.specs.declared.rule.Pair.{Pair}
use Rattle.next_hop_pool.specs.Free.{Tags}
use Rattle.plan_cases.specs.Parts.{IsKept}

abbrev pid_at : ℕ → Pid
pid_at n = record { 0 = n }

-- what is kept as present for a declared participant is what is present for it
pub kept_present : (s : State) (all : Present) (who : Pid) → all ≡ all_present s → who.0 < length s.routing.participants → present_to all who ≡ present s who
kept_present s all who kept declared =
    ap (λ ps. present_to ps who) (kept ∙ map-map (present s) pid_at (λ n. present s (pid_at n)) (λ n. refl) (numbers 0 (length s.routing.participants)))
    ∙ ap (λ o. unwrap_or o empty) (number_at (λ n. present s (pid_at n)) 0 (length s.routing.participants) who.0 declared)
    ∙ ap (λ n. present s (pid_at n)) (let same : 0 + who.0 ≡ who.0 = omega arith in same)

-- two truth values of which each holds where the other does
alike : (b c : Bool) → (b ≡ true → c ≡ true) → (c ≡ true → b ≡ false → ⊥) → b ≡ c
alike true c onto back = sym (onto refl)
alike false true onto back = absurd (back refl refl)
alike false false onto back = refl

-- what is there where a key is
there_only : {X : Type 0} (o : Option X) (b : Bool) → (is_some o ≡ true → b ≡ true) → cond b o None ≡ o
there_only None true live = refl
there_only None false live = refl
there_only (Some x) b live = ap (λ c. cond c (Some x) None) (live refl)

module _ (s : State) (who : Pid) (base : IsBase s none_rebuilt) (running : s.phase ≡ Running) (nothing : tags_of (told_to s who) ≡ []) where
  abbrev entries : FinMap prefix_cmp Entry
  entries = present s who

  abbrev s1 : State
  s1 = told_anew s who entries

  known : AreKnownTo s who entries
  known = present_are_known s who

  told_none : (t : Tag) → tells (told_to s who) t ≡ false
  told_none t = sym (told_among (told_to s who) t) ∙ ap (list_any (eq_by_cmp tag_cmp t)) nothing

  -- the same pairs and tags are live
  same_pair : (pair : Pair) → is_live_pair s1 pair ≡ is_live_pair s pair
  same_pair pair = alike (is_live_pair s1 pair) (is_live_pair s pair) (pair_was_live s who entries known pair) (λ live dead. clash (gone_pair s who entries pair live dead).3 (told_none pair.tag))

  same_tag : (t : Tag) → is_live s1 t ≡ is_live s t
  same_tag t = alike (is_live s1 t) (is_live s t) (tag_was_live s who entries known t) (λ live dead. clash (gone_tag s who entries t live dead) (told_none t))

  pub same_table : s1.table ≡ s.table
  same_table = same_map pairs_total pair_cmp-IsAntisymmetric s1.table s.table (λ q.
      get_retained pair_cmp pairs_total pair_cmp-IsAntisymmetric s.table (is_live_pair s1) q ∙ there_only (get s.table q) (is_live_pair s1 q) (λ there. same_pair q ∙ sym (base.tagged.pairs q) ∙ there))

  pub same_kept : s1.kept ≡ s.kept
  same_kept = same_map tags_total tag_cmp-IsAntisymmetric s1.kept s.kept (λ t.
      kept_is s who entries t ∙ there_only (get s.kept t) (is_live s1 t) (λ there. same_tag t ∙ base.kept t there))

  same_free : free_tags s1 ≡ free_tags s
  same_free = λ i. filter (λ t. not (same_tag t i)) (tags s)

  sound : IsSound s
  sound = record {
    pairs = base.tagged.pairs;
    right = (base.right.policies, base.right.read, λ pair rules has. base.right.right pair rules refl has);
    few = base.few;
    tagged = base.tagged.tagged;
    kept = base.tagged.kept;
  }

  sound_then : IsSound s1
  sound_then = told_sound s who entries known sound

  started : s1.phase ≡ Start → ⊥
  started e = cc

  base_then : IsBase s1 none_rebuilt
  base_then = record {
    tagged = sound_tagged s1 sound_then;
    right = record { policies = sound_then.right.0; read = sound_then.right.1; right = λ pair rules kept has. sound_then.right.2 pair rules has };
    few = sound_then.few;
    pooled = telling_stays_pooled s who entries base.pooled known;
    kept = λ t there. same_tag t ∙ base.kept t (sym (ap (λ m. is_some (get m t)) same_kept) ∙ there);
    live = live_kept s who entries known base.live;
    whole = λ t sig has part m. base.whole t sig (sym (ap (λ m. get m t) same_kept) ∙ has) part m;
    owners = base.owners;
    routed = base.routed;
    hops = base.hops;
    told = set_length s.told who.0 entries ∙ base.told;
    outbound = base.outbound;
    inbound = base.inbound;
    named = base.named;
    apart = base.apart;
    numbered = base.numbered;
    idle = base.idle;
    sized = record { start = λ e. absurd (started e); small = base.sized.small; low = λ later. base.sized.low (λ e. let never : Start ≡ Running = sym e ∙ running in cc); high = base.sized.high; room = base.sized.room };
  }

  -- lines build on the state in which the participant was told it, with the same pool
  pub told_kept : (pool : Tags) (presents : Present) → IsKept s pool presents → IsKept (record s { told = slice_set s.told who.0 entries }) pool presents
  told_kept pool presents kept =
      let same : s1 ≡ record s { told = slice_set s.told who.0 entries } = λ i. record s { phase = sym running i; told = slice_set s.told who.0 entries; kept = same_kept i; table = same_table i } in
      subst (λ x. IsKept x pool presents) same (record { base = base_then; owned = kept.owned; free = same_free ∙ kept.free; present = kept.present })
