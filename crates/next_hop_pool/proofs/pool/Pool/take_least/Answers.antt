use Rattle.std.proofs.Common.{◌≡◌, ℕ, ◌<◌, ◌≤◌, ◌+◌, Bool, true, false, List, length, get_or, sym, ap, ◌∙◌, arith, set, None, refl, ◌-◌}
use Rattle.std.specs.Prelude.{Some, find, slice_get}
use Rattle.next_hop_pool.specs.Free.{free_tags, free_in, tag, IsKept}
use Rattle.next_hop_pool.proofs.FreeLemmas.{free_from, free_by_place, find_first, kept_taken, find_free, find_no_free, taken_before}
use Rattle.net_types.specs.declared.address.Tag.{Tag}
use Rattle.next_hop_pool.proofs.RunLemmas.{lent_marked, taken_marked}
use Rattle.next_hop_pool.proofs.pool.Pool.take_least.Goals as goal
use Rattle.std.proofs.lemmas.Bool.{or_left}

first_by_place : (bs : List Bool) → find (λ _. true) (free_from 1 bs) ≡ slice_get (free_in bs) 0
first_by_place bs = find_first (free_from 1 bs) ∙ ap (λ ts. slice_get ts 0) (sym (free_by_place bs))

taken_first : (base least free at : ℕ) (bs slice : List Bool) (size : ℕ) → slice ≡ bs → IsKept base bs least free → at < size → length slice ≡ size → ((k : ℕ) → least ≤ k → k < at → get_or slice k true ≡ true) → (at < length slice → get_or slice at true ≡ false)
    → (1 ≤ free) × IsKept base (set bs at true) (at + 1) (free - 1) × (Some (tag (at + 1)) ≡ slice_get (free_in bs) 0)
taken_first base least free at bs slice size same kept within len skipped is_free =
    let inside : at < length bs = omega (arith, ap length same) in
    let open_ = ap (λ xs. get_or xs at true) (sym same) ∙ is_free (omega arith) in
    let before = taken_before bs least at kept.full (λ k le lt. ap (λ xs. get_or xs k true) (sym same) ∙ skipped k le lt) in
    let it = kept_taken base least free bs at kept inside (λ k le lt. before k lt) open_ in
    let turn : 1 + at ≡ at + 1 = omega arith in
    (it.0, it.1, ap (λ n. Some (tag n)) (sym turn) ∙ sym (find_free (λ (_ : Tag). true) 1 bs at inside (λ k lt. or_left _ _ (before k lt)) open_ refl) ∙ first_by_place bs)

none_left : (base least free at : ℕ) (bs slice : List Bool) (size : ℕ) → slice ≡ bs → IsKept base bs least free → size ≤ at → length slice ≡ size → ((k : ℕ) → least ≤ k → k < at → get_or slice k true ≡ true) → None ≡ slice_get (free_in bs) 0
none_left base least free at bs slice size same kept past len skipped =
    let before = taken_before bs least at kept.full (λ k le lt. ap (λ xs. get_or xs k true) (sym same) ∙ skipped k le lt) in
    sym (find_no_free (λ (_ : Tag). true) 1 bs (λ k lt. or_left _ _ (before k (omega (arith, ap length same))))) ∙ first_by_place bs

pub first_free-at-requires : goal.first_free-at-requires
first_free-at-requires c =
    let size = ap length c.as_slice.ensures.value in
    record {
      marked = lent_marked _ _ _ _ c.as_slice.ensures.value c.as_slice-2.ensures.value c.self.invariant.marked;
      small = omega (arith, size, c.self.invariant.kept.small);
    }

pub overflow_sub-self : goal.overflow_sub-self
overflow_sub-self c = (taken_first _ c.self.inside.least c.self.inside.free c.first_free-at.result c.self.inside.taken.items _ _ c.as_slice.ensures.value c.self.invariant.kept c.if-at-len.true (c.as_slice.ensures.len ∙ sym c.len.ensures) c.first_free-at.ensures.skipped c.first_free-at.ensures.free).0

pub invariant_of-self : goal.invariant_of-self
invariant_of-self c =
    let within : c.first_free-at.result < length c.self.inside.taken.items = omega (arith, c.if-at-len.true, c.len.ensures, ap length c.as_slice.ensures.value, c.as_slice.ensures.len) in
    record {
      kept = (taken_first _ c.self.inside.least c.self.inside.free c.first_free-at.result c.self.inside.taken.items _ _ c.as_slice.ensures.value c.self.invariant.kept c.if-at-len.true (c.as_slice.ensures.len ∙ sym c.len.ensures) c.first_free-at.ensures.skipped c.first_free-at.ensures.free).1;
      marked = taken_marked c.self.inside.taken.items c.self.inside.full.items c.first_free-at.result within c.self.invariant.marked;
    }

pub returns-then-at-len-clause-value : goal.returns-then-at-len-clause-value
returns-then-at-len-clause-value c = (taken_first _ c.self.inside.least c.self.inside.free c.first_free-at.result c.self.inside.taken.items _ _ c.as_slice.ensures.value c.self.invariant.kept c.if-at-len.true (c.as_slice.ensures.len ∙ sym c.len.ensures) c.first_free-at.ensures.skipped c.first_free-at.ensures.free).2 ∙ ap (λ s. slice_get (free_tags s) 0) c.self.view_is

pub returns-clause-value : goal.returns-clause-value
returns-clause-value c = none_left _ c.self.inside.least c.self.inside.free c.first_free-at.result c.self.inside.taken.items _ _ c.as_slice.ensures.value c.self.invariant.kept c.if-at-len.false (c.as_slice.ensures.len ∙ sym c.len.ensures) c.first_free-at.ensures.skipped ∙ ap (λ s. slice_get (free_tags s) 0) c.self.view_is
