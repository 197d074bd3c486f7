-- A sorted list without repeats.
use Rattle.std.proofs.Common.{◌∙◌, rules}
use Rattle.std.specs.Ordering.{eq_by_cmp, is_lt}
use Rattle.std.proofs.lemmas.Fn.{dedup_same}
use Rattle.std.proofs.lemmas.List.Sorted.{answers_always, ranks_by}
use Rattle.events.specs.Table.{frame_cmp}
use Rattle.events.specs.declared.Frame.{Frame}
use Rattle.match_switch.proofs.FrameOrder.{frames_in_order}
use Rattle.match_switch.proofs.leaving.ascending.Goals as goal
use Rattle.events.proofs.Routed.{frames_total}

pub returns : goal.returns
returns c =
    let sorted = c.sort_unstable_by.ensures.sorted (λ x y. is_lt (frame_cmp x y)) (ranks_by frames_total (λ (f : Frame). f)) (answers_always _ _ _ (λ f a r next k. search rules)) in
    dedup_same _ (eq_by_cmp frame_cmp) _ (λ x y b f' x' y' called. (search rules, search rules, search rules, search rules)) _ _ c.dedup_by.ensures.filtered
    ∙ frames_in_order c.args.frames.items c.sort_unstable_by.new.self.items c.sort_unstable_by.ensures.permutation sorted
