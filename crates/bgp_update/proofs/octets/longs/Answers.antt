-- One number more, and none where too few octets are left.
use Rattle.std.proofs.Common.{◌++◌, ℕ, List, ap, sym, ◌∙◌, append_assoc, arith}
use Rattle.std.proofs.lemmas.List.{append-nil}
use Rattle.bgp_update.proofs.NumberLists.{longs_at, longs_short}
use Rattle.bgp_update.proofs.octets.longs.Goals as goal

pub loop-left-preserved : goal.loop-left-preserved
loop-left-preserved c =
    rw (c.in_ok-push.ensures.ok, append_assoc)
    (ap (λ (ns : List ℕ). c.loop-left.all ++ ns) (sym (longs_at c.loop-left.left.now (omega arith))) ∙ c.loop-left.invariant)

pub returns : goal.returns
returns c = sym (append-nil c.loop-left.all) ∙ ap (λ (ns : List ℕ). c.loop-left.all ++ ns) (sym (longs_short c.loop-left.left.now (omega arith))) ∙ c.loop-left.invariant
