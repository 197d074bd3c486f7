-- Which prefixes share a tag.
use Rattle.std.proofs.Common.{◌≡◌, true, ap, sym, ◌∙◌}
use Rattle.std.specs.Prelude.{Some, is_some}
use Rattle.std.specs.FinMap.{get}
use Rattle.events.specs.After.{merged}
use Rattle.events.specs.State.{State}
use Rattle.events.specs.Tags.{is_carried}
use Rattle.exchange_laws.specs.Steady.{IsSteady}
use Rattle.job_laws.proofs.MergedStates.{kept_for, tag_there}
use Rattle.job_laws.proofs.MergedTags.{merged_alike, merged_from, merged_there}
use Rattle.job_laws.specs.Jobs.{without_job}
use Rattle.job_laws.specs.Sharing.{LeastTagsStay, MergedPrefixesShare, ShareTag, SharedTagsTell}
use Rattle.net_types.proofs.PassLemmas.{some_there}
use Rattle.net_types.specs.Signatures.{signature}
use Rattle.net_types.specs.declared.address.Tag.{Tag}
use Rattle.net_types.specs.declared.prefix.Prefix.{Prefix}
use Rattle.std.proofs.lemmas.Option.{same_Some}

pub shared_tags_tell : SharedTagsTell
shared_tags_tell s steady p q share =
    same_Some (signature s.routing p) (signature s.routing q) (sym (steady.steady.sound.kept p share.tag share.first) ∙ steady.steady.sound.kept q share.tag share.second)

-- a tag that prefixes share at the end of a job tells their signature
merged_tell : (s : State) → IsSteady (without_job s) → (p q : Prefix) → ShareTag (merged s) p q → signature s.routing p ≡ signature s.routing q
merged_tell s steady p q share =
    same_Some (signature s.routing p) (signature s.routing q) (sym (kept_for s steady p share.tag share.first) ∙ kept_for s steady q share.tag share.second)

merged_share : (s : State) → IsSteady (without_job s) → (p q : Prefix) → is_carried s.routing p ≡ true → is_carried s.routing q ≡ true → signature s.routing p ≡ signature s.routing q → ShareTag (merged s) p q
merged_share s steady p q first second same =
    let there = some_there (get (merged s).tag p) (tag_there s steady p ∙ first) in
    record { tag = there.0; first = there.1; second = sym (merged_alike s p q first second same) ∙ there.1 }

pub merged_prefixes_share : MergedPrefixesShare
merged_prefixes_share s steady p q first second = (merged_tell s steady.steady p q, merged_share s steady.steady p q first second)

pub least_tags_stay : LeastTagsStay
least_tags_stay s steady p t tagged =
    let kept = steady.steady.sound.kept in
    let carries : (q : Prefix) (v : Tag) → get s.tag q ≡ Some v → is_carried s.routing q ≡ true = λ q v is. sym (steady.steady.sound.tagged q) ∙ ap is_some is in
    let there = merged_there s p t (carries p t tagged) tagged in
    let from = merged_from s p there.0 there.1 in (
      there.0,
      there.1,
      record {
        kept = kept from.like there.0 from.tagged ∙ ap Some from.alike ∙ sym (kept p t tagged);
        prefix = from.like;
        tagged = from.tagged;
        least = λ q v is same. from.least q v (carries q v is) is (same_Some (signature s.routing q) (signature s.routing p) (sym (kept q v is) ∙ same ∙ kept p t tagged));
      },
    )
