use Rattle.std.proofs.Common.{arith, ◌≡◌, ◌/◌, ◌∙◌, ℕ, [], true, sym, ap}
use Rattle.std.proofs.lemmas.List.{get_or_read}
use Rattle.std.proofs.lemmas.Option.{unwrap_or-slice_get}
use Rattle.place_sets.specs.Places.{has_place}
use Rattle.policy_compile.specs.Columns.{set_at}
use Rattle.policy_compile.specs.Rows.{list_at}
use Rattle.policy_compile.proofs.RowLemmas.{near-less, near-more}
use Rattle.policy_compile.proofs.rows.near.Goals as goal
use Rattle.policy_compile.proofs.rows.near.Goals.{then-is_near+in_ok-push, else-is_near}

pub loop-number-preserved : goal.loop-number-preserved
loop-number-preserved c =
    let sets = c.args.sets.now in
    let lists = c.args.lists.now in
    let i = c.loop-number.number in
    let set = c.index-sets-number.result in
    let list = c.index-lists-number.result in
    elim c.if-is_near.branch [
      | then-is_near+in_ok-push w ↦ rw (w.numbers-is, w.in_ok-push.ensures.items) (near-more sets lists c.args.word i c.loop-number.numbers.items c.loop-number.invariant)
      | else-is_near w ↦
          let away : (k : ℕ) → k / 64 ≡ c.args.word → set_at sets i k ≡ true → list_at lists i ≡ [] = λ k in_word has.
          let set_is = unwrap_or-slice_get sets i [] ∙ sym (get_or_read sets i set c.loop-number-test.true c.index-sets-number.is []) in
          sym (get_or_read lists i list (omega (arith, c.loop-number-test.true, c.requires)) c.index-lists-number.is []) ∙ c.is_near.ensures w.if-is_near.false k in_word (sym (ap (λ s. has_place s k) set_is) ∙ has) in
          rw w.numbers-is (near-less sets lists c.args.word i c.loop-number.numbers.items away c.loop-number.invariant)
    ]
