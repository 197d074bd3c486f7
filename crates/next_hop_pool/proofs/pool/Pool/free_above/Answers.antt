use Rattle.std.proofs.Common.{◌≡◌, ◌<◌, ◌≤◌, ◌+◌, true, length, get_or, sym, ap, ◌∙◌, arith}
use Rattle.std.specs.Prelude.{Some, find}
use Rattle.next_hop_pool.specs.Free.{free_tags, tag}
use Rattle.next_hop_pool.proofs.FreeLemmas.{place_free, find_free, find_no_free, free_by_place}
use Rattle.next_hop_pool.proofs.RunLemmas.{lent_marked}
use Rattle.next_hop_pool.proofs.pool.Pool.free_above.Goals as goal

pub first_free-at-requires : goal.first_free-at-requires
first_free-at-requires c =
    let size = ap length c.as_slice.ensures.value in
    record {
      marked = lent_marked _ _ _ _ c.as_slice.ensures.value c.as_slice-2.ensures.value c.self.invariant.marked;
      small = omega (arith, size, c.self.invariant.kept.small);
    }

pub returns-then-at-len : goal.returns-then-at-len
returns-then-at-len c = λ p low high.
    let skipped = place_free c.self.inside.taken.items c.self.inside.least c.args.number c.max-from.result c.first_free-at.result c.self.invariant.kept.full c.max-from.ensures (λ k from below. ap (λ bs. get_or bs k true) (sym c.as_slice.ensures.value) ∙ c.first_free-at.ensures.skipped k from below) p low in
    let within : c.first_free-at.result < length c.self.inside.taken.items = omega (arith, c.if-at-len.true, c.len.ensures, ap length c.as_slice.ensures.value, c.as_slice.ensures.len) in
    let turn : 1 + c.first_free-at.result ≡ c.first_free-at.result + 1 = omega arith in
    let free = ap (λ bs. get_or bs c.first_free-at.result true) (sym c.as_slice.ensures.value) ∙ c.first_free-at.ensures.free (omega (arith, within, ap length c.as_slice.ensures.value)) in
    let above : c.args.number < 1 + c.first_free-at.result = omega (arith, c.first_free-at.ensures.from, c.max-from.ensures) in
    ap (λ n. Some (tag n)) (sym turn) ∙ sym (find_free p 1 c.self.inside.taken.items c.first_free-at.result within skipped free (high (tag (1 + c.first_free-at.result)) above)) ∙ sym (ap (find p) (free_by_place c.self.inside.taken.items)) ∙ ap (λ s. find p (free_tags s)) c.self.view_is

pub returns : goal.returns
returns c = λ p low high.
    let skipped = place_free c.self.inside.taken.items c.self.inside.least c.args.number c.max-from.result c.first_free-at.result c.self.invariant.kept.full c.max-from.ensures (λ k from below. ap (λ bs. get_or bs k true) (sym c.as_slice.ensures.value) ∙ c.first_free-at.ensures.skipped k from below) p low in
    let past : length c.self.inside.taken.items ≤ c.first_free-at.result = omega (arith, c.if-at-len.false, c.len.ensures, ap length c.as_slice.ensures.value, c.as_slice.ensures.len) in
    sym (find_no_free p 1 c.self.inside.taken.items (λ k below. skipped k (omega arith))) ∙ sym (ap (find p) (free_by_place c.self.inside.taken.items)) ∙ ap (λ s. find p (free_tags s)) c.self.view_is
