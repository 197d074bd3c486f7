-- What was taken out stands in front of what was taken out before.
use Rattle.std.proofs.Common.{◌++◌, ◌∷◌, [], length, length-append, sym, ap, ◌∙◌, arith}
use Rattle.std.proofs.lemmas.List.{append_assoc, append-nil}
use Rattle.ordered_map.proofs.run.Run.halve.Goals as goal

pub loop-self-init : goal.loop-self-init
loop-self-init g c =
    let all = ap (λ us. c.self.inside.entries.items ++ us) c.requires.none ∙ append-nil c.self.inside.entries.items ∙ c.self.view_is in
    let size = c.len-half.ensures ∙ c.self.inside.entries.ok.0 in
    (all, omega (arith, size), c.self.invariant.fits)

pub invariant_of-self : goal.invariant_of-self
invariant_of-self g c =
    let size = c.len.ensures ∙ c.loop-self.self-inside.entries.ok.0 in
    let all = c.len-half.ensures ∙ c.self.inside.entries.ok.0 in
    let few = c.self.invariant.few in
    let end = c.loop-self-test.false in
    record { few = omega (arith, size, all, few, end); fits = c.loop-self.invariant.2 }

pub put_first-requires : goal.put_first-requires
put_first-requires g c =
    let whole = sym (length-append c.loop-self.self-inside.entries.items c.loop-self.upper) ∙ ap length (c.loop-self.invariant.0 ∙ sym c.self.view_is) in
    let few = c.self.invariant.few in
    let full = c.requires.some in
    let same = ap length c.self.view_is in
    let all = c.len-half.ensures ∙ c.self.inside.entries.ok.0 in
    let half = c.loop-self.invariant.1 in
    omega (arith, whole, few, full, same, all, half)

pub loop-self-smaller : goal.loop-self-smaller
loop-self-smaller g c =
    let size = ap length c.in-Some.ensures.items ∙ length-append c.pop.new.self.items ((c.in-Some.key, c.in-Some.value) ∷ []) in
    omega (arith, size)

pub loop-self-preserved : goal.loop-self-preserved
loop-self-preserved g c =
    let size = ap length c.in-Some.ensures.items ∙ length-append c.pop.new.self.items ((c.in-Some.key, c.in-Some.value) ∷ []) in
    let more = c.loop-self-test.true in
    let len = c.len.ensures ∙ c.loop-self.self-inside.entries.ok.0 in
    let capacity = c.in-Some.ensures.capacity in
    let fits = c.loop-self.invariant.2 in (
      ap (λ us. c.pop.new.self.items ++ us) c.put_first.ensures ∙ sym (append_assoc c.pop.new.self.items ((c.in-Some.key, c.in-Some.value) ∷ []) c.loop-self.upper)
          ∙ ap (λ es. es ++ c.loop-self.upper) (sym c.in-Some.ensures.items) ∙ c.loop-self.invariant.0,
      omega (arith, size, more, len),
      omega (arith, capacity, fits),
    )

pub returns-clause-whole : goal.returns-clause-whole
returns-clause-whole g c = c.loop-self.invariant.0

pub returns-clause-some : goal.returns-clause-some
returns-clause-some g c =
    let whole = sym (length-append c.loop-self.self-inside.entries.items c.loop-self.upper) ∙ ap length (c.loop-self.invariant.0 ∙ sym c.self.view_is) in
    let full = c.requires.some in
    let same = ap length c.self.view_is in
    let all = c.len-half.ensures ∙ c.self.inside.entries.ok.0 in
    let size = c.len.ensures ∙ c.loop-self.self-inside.entries.ok.0 in
    let end = c.loop-self-test.false in
    omega (arith, whole, full, same, all, size, end)

pub returns-clause-room : goal.returns-clause-room
returns-clause-room g c =
    let whole = sym (length-append c.loop-self.self-inside.entries.items c.loop-self.upper) ∙ ap length (c.loop-self.invariant.0 ∙ sym c.self.view_is) in
    let few = c.self.invariant.few in
    let full = c.requires.some in
    let same = ap length c.self.view_is in
    let all = c.len-half.ensures ∙ c.self.inside.entries.ok.0 in
    let half = c.loop-self.invariant.1 in
    omega (arith, whole, few, full, same, all, half)
