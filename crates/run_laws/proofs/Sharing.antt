-- Which prefixes are given a tag, and which share one.
use Rattle.events.proofs.Candidates.{first_Member}
use Rattle.events.proofs.Drained.{some_cond}
use Rattle.std.proofs.Common.{◌≡◌, Bool, true, false, not, List, filter, ap, sym, subst, ◌∙◌, refl, inl, inr}
use Rattle.std.specs.Prelude.{Option, Some}
use Rattle.std.specs.FinMap.{FinMap, get}
use Rattle.std.specs.List.{filter_map, list_any}
use Rattle.std.specs.Ordering.{eq_by_cmp}
use Rattle.events.proofs.Reached.{runs_sound, step_sound}
use Rattle.events.specs.After.{after, least_tag, merged, next}
use Rattle.events.specs.Fits.{tag_changes}
use Rattle.events.specs.Legal.{state_after}
use Rattle.events.specs.Refusals.{refusal}
use Rattle.events.specs.Sound.{IsSound}
use Rattle.events.specs.State.{State}
use Rattle.events.specs.Tags.{carried, is_carried, same_tag}
use Rattle.events.specs.declared.Event.{Event}
use Rattle.events.specs.declared.Head.TheVariants.{Fine, Finished}
use Rattle.events.specs.declared.Reply.{Reply}
use Rattle.events.specs.declared.TagChange.{TagChange}
use Rattle.net_types.proofs.EqualLemmas.{signature_test}
use Rattle.net_types.proofs.MapLemmas.{get-tabulate}
use Rattle.net_types.proofs.OrderLemmas.{prefix_tie, prefixes_total, tags_total}
use Rattle.net_types.proofs.OrderedLemmas.{ordered_same}
use Rattle.net_types.proofs.PassLemmas.{some_there}
use Rattle.net_types.proofs.RisingLemmas.{filter-Member}
use Rattle.net_types.proofs.SameLemmas.{nat_itself, option_itself}
use Rattle.net_types.proofs.SetLemmas.{map-Member, given_by}
use Rattle.net_types.proofs.TieLemmas.{tag_tie}
use Rattle.net_types.specs.Attributes.{same_option, same_signature}
use Rattle.net_types.specs.Keys.{prefix_cmp, tag_cmp}
use Rattle.net_types.specs.Maps.{ordered}
use Rattle.net_types.specs.Routes.{announced}
use Rattle.net_types.specs.Sets.{Member}
use Rattle.net_types.specs.Signatures.{signature}
use Rattle.net_types.specs.declared.address.Tag.{Tag}
use Rattle.net_types.specs.declared.prefix.Prefix.{Prefix}
use Rattle.run_laws.proofs.Answering.{Kind, kind_of}
use Rattle.run_laws.specs.Sharing.{AlikeShare, FreshTagsWereDead, HasLike, IsGivenTag, SharedTagsShareSignatures, TagsTell}
use Rattle.net_types.proofs.FindLemmas.{some_same}

-- ---- changes of tags

-- a prefix has another tag now, or none any more
pub record IsChange (old new : FinMap prefix_cmp Tag) (c : TagChange) : Type 0 where
  pub now : get new c.prefix ≡ c.tag
  pub differs : ¬ get old c.prefix ≡ c.tag

pub change_of : (old new : FinMap prefix_cmp Tag) (c : TagChange) → Member c (tag_changes old new) → IsChange old new c
change_of old new c m =
    let test : Prefix → Bool = λ p. not (same_option same_tag (get old p) (get new p)) in
    let from = map-Member (λ p. let x : TagChange = record { prefix = p; tag = get new p } in x) (filter test (ordered prefix_cmp _)) c m in
    let p : Prefix = from.of in
    let apart : not (same_option same_tag (get old p) (get new p)) ≡ true = (filter-Member test _ p from.stands).passes in
    let prefix : c.prefix ≡ p = ap (λ (x : TagChange). x.prefix) from.is in
    let tag : c.tag ≡ get new p = ap (λ (x : TagChange). x.tag) from.is in record {
      now = ap (get new) prefix ∙ sym tag;
      differs = λ same. let equal : get old p ≡ get new p = ap (get old) (sym prefix) ∙ same ∙ tag in never _ _ equal apart;
    }
  where
    never : (a b : Option Tag) → a ≡ b → not (same_option same_tag a b) ≡ true → ⊥
    never a b same apart =
        let alike : same_option same_tag a b ≡ true = subst (λ o. same_option same_tag a o ≡ true) same (option_itself same_tag (λ t. nat_itself t.0) a) in
        let clash : false ≡ true = ap not (sym alike) ∙ apart in cc

-- ---- the end of a job

-- where a prefix has a tag after a job, it is the least of its signature
least_is : (s s1 : State) (p : Prefix) (t : Tag) → s1.tag ≡ (merged s).tag → get s1.tag p ≡ Some t → least_tag s (signature s.routing p) ≡ Some t
least_is s s1 p t tags is =
    some_cond (list_any (eq_by_cmp prefix_cmp p) (carried s.routing)) (least_tag s (signature s.routing p)) t
    (sym (get-tabulate prefix_cmp prefixes_total (λ q. least_tag s (signature s.routing q)) (λ q k tie. ap (λ x. least_tag s (signature s.routing x)) (sym (prefix_tie q k tie))) (carried s.routing) p)
    ∙ ap (λ m. get m p) (sym tags) ∙ is)

like_had : (s : State) (p : Prefix) (t : Tag) → least_tag s (signature s.routing p) ≡ Some t → HasLike s p t
like_had s p t least =
    let test : Prefix → Bool = λ q. same_signature (signature s.routing q) (signature s.routing p) in
    let alike : List Prefix = filter test (carried s.routing) in
    let m = (ordered_same tag_cmp tags_total tag_tie (filter_map (get s.tag) alike)).onto t (first_Member (ordered tag_cmp (filter_map (get s.tag) alike)) t least) in
    let from = given_by (get s.tag) alike t m in
    let left = filter-Member test (carried s.routing) from.source from.stands in
    record {
      like = from.source;
      carried = (filter-Member (is_carried s.routing) (ordered prefix_cmp (announced s.routing)) from.source left.stands).passes;
      tagged = from.is;
      alike = left.passes;
    }

-- ---- tags that a reply gives

given_tag : (s : State) (e : Event) (r : Reply) (c : TagChange) (t : Tag) → Kind s e r → Member c r.tags → c.tag ≡ Some t → IsGivenTag s r c.prefix t
given_tag s e r c t (inl quiet) m is = absurd (subst (Member c) quiet.untagged m)
given_tag s e r c t (inr (inl retagging)) m is =
    let change = change_of s.tag (after s e).tag c (subst (Member c) retagging.tags m) in record {
      fresh = λ goes_on. elim (retagging.dead c.prefix t (change.now ∙ is)) [ inl same ↦ absurd (change.differs (same ∙ sym is)) | inr dead ↦ dead ];
      merged = λ ends. absurd (let e : Fine ≡ Finished = sym retagging.head ∙ ends in cc);
    }
given_tag s e r c t (inr (inr ending)) m is =
    let change = change_of s.tag (merged s).tag c (subst (Member c) ending.tags m) in record {
      fresh = λ goes_on. absurd (goes_on ending.head);
      merged = λ ends. like_had s c.prefix t (least_is s (merged s) c.prefix t refl (change.now ∙ is));
    }

pub fresh_tags_were_dead : FreshTagsWereDead
fresh_tags_were_dead es rs legal e r fits c t m is = let s : State = state_after es rs in given_tag s e r c t (kind_of s e r fits) m is

-- ---- prefixes that share a tag

tags_tell : (s : State) → IsSound s → TagsTell s
tags_tell s sound p q t here there =
    (signature_test (signature s.routing p) (signature s.routing q)).1 (some_same (get s.kept t) (signature s.routing p) (signature s.routing q) (sound.kept p t here) (sound.kept q t there))

alike_share : (s s1 : State) → IsSound s1 → s1 ≡ record (merged s) { table = s1.table } → AlikeShare s1
alike_share s s1 sound leaves p q first second alike =
    let tags : s1.tag ≡ (merged s).tag = ap (λ (x : State). x.tag) leaves in
    let routing : s1.routing ≡ s.routing = ap (λ (x : State). x.routing) leaves in
    let here = some_there (get s1.tag p) (sound.tagged p ∙ first) in
    let there = some_there (get s1.tag q) (sound.tagged q ∙ second) in
    let same : signature s.routing p ≡ signature s.routing q = (signature_test (signature s.routing p) (signature s.routing q)).0 (ap (λ x. same_signature (signature x p) (signature x q)) (sym routing) ∙ alike) in
    let least : least_tag s (signature s.routing q) ≡ Some here.0 = ap (least_tag s) (sym same) ∙ least_is s s1 p here.0 tags here.1 in
    let one : there.0 ≡ here.0 = some_same (least_tag s (signature s.routing q)) there.0 here.0 (least_is s s1 q there.0 tags there.1) least in
    (here.0, here.1, there.1 ∙ ap Some one)

at_end : (s : State) (e : Event) (r : Reply) → IsSound (next s e r) → Kind s e r → r.head ≡ Finished → TagsTell (next s e r) × AlikeShare (next s e r)
at_end s e r sound (inl quiet) ends = absurd (quiet.unfinished ends)
at_end s e r sound (inr (inl retagging)) ends = absurd (let e : Fine ≡ Finished = sym retagging.head ∙ ends in cc)
at_end s e r sound (inr (inr ending)) ends = (tags_tell (next s e r) sound, alike_share s (next s e r) sound ending.leaves)

pub shared_tags_share_signatures : SharedTagsShareSignatures
shared_tags_share_signatures es rs legal =
    let s : State = state_after es rs in
    let sound : IsSound s = runs_sound es rs legal in
    (tags_tell s sound, λ e r fits ends. at_end s e r (step_sound s e r (refusal s e) sound fits) (kind_of s e r fits) ends)
