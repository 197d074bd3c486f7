use Rattle.std.proofs.Common.{◌≡◌, ◌<◌, List, length, get_or, ap, subst, ◌∙◌, refl, arith}
use Rattle.std.specs.Prelude.{is_some}
use Rattle.std.specs.FinMap.{get}
use Rattle.net_types.specs.declared.address.Tag.{Tag}
use Rattle.net_types.specs.declared.prefix.Prefix.{Prefix}
use Rattle.prefix_classes.proofs.MovedLemmas.{all_have_tags, has_tag_now, not_missing, one_moved, still_tagged, target_kept}
use Rattle.prefix_classes.proofs.class_map.ClassMap.merge.Goals as goal

pub put-requires-clause-kept : goal.put-requires-clause-kept
put-requires-clause-kept c =
    let item = c.loop-member-item.result in
    let at = c.loop-member.member-index in
    let within : at < length c.args.moves = subst (λ (ms : List (Prefix × Tag)). at < length ms) c.list-member-items.ensures c.loop-member-test.true in
    let here : item ≡ get_or c.args.moves at item = c.loop-member-item.is ∙ ap (λ ms. get_or ms at item) c.list-member-items.ensures in
    ap (λ m. is_some (get m item.1)) c.loop-member.invariant.kept ∙ target_kept c.args.moves at item item within here c.args.self.now.tag c.args.self.now.kept c.requires

pub put-requires-clause-room : goal.put-requires-clause-room
put-requires-clause-room c = λ none.
    let item = c.loop-member-item.result in
    let at = c.loop-member.member-index in
    let within : at < length c.args.moves = subst (λ (ms : List (Prefix × Tag)). at < length ms) c.list-member-items.ensures c.loop-member-test.true in
    let here : item ≡ get_or c.args.moves at item = c.loop-member-item.is ∙ ap (λ ms. get_or ms at item) c.list-member-items.ensures in
    absurd (has_tag_now c.args.moves at item item within here c.loop-member.self.tag c.loop-member.invariant.tagged none)

pub loop-member-init : goal.loop-member-init
loop-member-init c = record {
  moves = refl;
  kept = refl;
  tagged = all_have_tags c.args.self.now.tag c.args.self.now.kept c.args.moves c.requires;
  prefixes = omega arith;
  tags = refl;
}

pub loop-member-preserved : goal.loop-member-preserved
loop-member-preserved c =
    let item = c.loop-member-item.result in
    let at = c.loop-member.member-index in
    let within : at < length c.args.moves = subst (λ (ms : List (Prefix × Tag)). at < length ms) c.list-member-items.ensures c.loop-member-test.true in
    let here : item ≡ get_or c.args.moves at item = c.loop-member-item.is ∙ ap (λ ms. get_or ms at item) c.list-member-items.ensures in
    record {
      moves = c.loop-member.invariant.moves ∙ one_moved c.args.moves at item item within here c.loop-member.self.tag c.put.new.self.tag c.put.ensures.tag;
      kept = c.put.ensures.kept ∙ c.loop-member.invariant.kept;
      tagged = still_tagged c.args.moves at item item within here c.loop-member.self.tag c.put.new.self.tag c.put.ensures.tag c.loop-member.invariant.tagged;
      prefixes = (
          let none = not_missing c.args.moves at item item within here c.loop-member.self.tag c.loop-member.invariant.tagged in
          let before = c.loop-member.invariant.prefixes in
          let after = c.put.ensures.prefixes in
          omega (arith, none, before, after));
      tags = c.put.ensures.tags ∙ c.loop-member.invariant.tags;
    }
