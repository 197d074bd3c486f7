-- Frames in the order in which they are printed: a sorted list of them without repeats is the list in order.
use Rattle.std.proofs.Common.{◌≡◌, List, IsPermutation, refl}
use Rattle.std.specs.List.{dedup}
use Rattle.std.specs.List.Sorted.{IsSorted}
use Rattle.std.specs.Ordering.{eq_by_cmp}
use Rattle.net_types.proofs.OrderedLemmas.{deduped_is}
use Rattle.events.specs.Table.{frame_cmp}
use Rattle.events.specs.declared.Frame.{Frame}
use Rattle.net_types.specs.Maps.{ordered}
use Rattle.events.proofs.Routed.{frames_tie, frames_total}

pub frames_in_order : (xs ys : List Frame) → IsPermutation xs ys → IsSorted frame_cmp ys → dedup (eq_by_cmp frame_cmp) ys ≡ ordered frame_cmp xs
frames_in_order = deduped_is frame_cmp frames_total frames_tie (eq_by_cmp frame_cmp) (λ a b. refl)
