use Rattle.std.proofs.Common.{◌≡◌, ◌+◌, ◌<◌, ◌≤◌, [], ◌∷◌, length, take, sym, ap, ◌∙◌, arith}
use Rattle.std.specs.Prelude.{Some, slice_get}
use Rattle.std.proofs.lemmas.List.{length-append}
use Rattle.next_hop_pool.specs.Free.{free_tags}
use Rattle.fast_path.proofs.FreeLemmas.{first_above, front_grows, next_above, there_is}
use Rattle.fast_path.proofs.tagging.fresh_tags.Goals as goal

pub loop-last-init : goal.loop-last-init
loop-last-init c =
    let free = free_tags c.args.pool.now in
    let none : c.in_ok-tags.tags.items ≡ [] = c.in_ok-tags.ensures.items in
    let empty : length c.in_ok-tags.tags.items ≡ 0 = ap length none in record {
      taken = none ∙ sym (ap (λ ts. take (length ts) free) none);
      next = first_above free ∙ ap (λ ts. slice_get free (length ts)) (sym none);
      few = omega arith;
      long = c.in_ok-tags.ensures.len ∙ sym empty;
    }

pub loop-last-preserved : goal.loop-last-preserved
loop-last-preserved c =
    let pool = c.args.pool.now in
    let ts = c.loop-last.tags.items in
    let at : slice_get (free_tags pool) (length ts) ≡ Some c.in-Some.tag = sym c.loop-last.invariant.next ∙ sym c.next_free-last.ensures ∙ c.in-Some.is in
    let more : length c.push.new.self.items ≡ length ts + 1 = ap length c.in_ok-push-in-Some.ensures.items ∙ length-append ts (c.in-Some.tag ∷ []) in
    let below : c.len.result < c.args.count = c.loop-last-test.true in
    let here : c.len.result ≡ length ts = c.len.ensures ∙ c.loop-last.invariant.long in record {
      taken = front_grows (free_tags pool) ts c.push.new.self.items c.in-Some.tag c.loop-last.invariant.taken at c.in_ok-push-in-Some.ensures.items;
      next = next_above pool (length ts) c.in-Some.tag at ∙ ap (slice_get (free_tags pool)) (sym more);
      few = omega arith;
      long = c.in_ok-push-in-Some.ensures.len ∙ ap (λ n. n + 1) c.loop-last.invariant.long ∙ sym more;
    }

pub unreachable-requires : goal.unreachable-requires
unreachable-requires c =
    let ts = c.loop-last.tags.items in
    let below : c.len.result < c.args.count = c.loop-last-test.true in
    let here : c.len.result ≡ length ts = c.len.ensures ∙ c.loop-last.invariant.long in
    let room : c.args.count ≤ length (free_tags c.args.pool.now) = c.requires in
    there_is (free_tags c.args.pool.now) (length ts) (omega arith) (sym c.loop-last.invariant.next ∙ sym c.next_free-last.ensures ∙ c.in-None.is)
