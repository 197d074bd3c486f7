use Rattle.std.proofs.Common.{◌≡◌, length, map, arith, ◌++◌, ◌∷◌, [], sym, ap, ◌∙◌, take}
use Rattle.std.proofs.lemmas.List.{length-map, append_assoc, append-nil, map-append, take_more}
use Rattle.std.specs.Map.Iter.{deref_pair}
use Rattle.ordered_map.proofs.GatherLemmas.{enough, all_gathered}
use Rattle.ordered_map.proofs.SizeLemmas.{next_counted, up_from, up_to}
use Rattle.ordered_map.proofs.tree.gather_run.Goals as goal

pub returns-then-len-count-clause-entries : goal.returns-then-len-count-clause-entries
returns-then-len-count-clause-entries g c =
    let size = length-map c.loop-key.entries.items deref_pair in
    let full : length (map deref_pair c.loop-key.entries.items) ≡ c.args.count = omega (arith, size, c.loop-key.entries.ok.0, c.len.ensures, c.if-len-count.true) in
    enough c.args.count (map deref_pair c.args.entries.now.items) (map deref_pair c.loop-key.entries.items) c.args.others.now c.loop-key.key-index c.loop-key.invariant.0 full

pub loop-key-init : goal.loop-key-init
loop-key-init g c = (sym (append-nil (map deref_pair c.args.entries.now.items)), c.requires)

pub offset_bounds-others-key-index : goal.offset_bounds-others-key-index
offset_bounds-others-key-index g c = c.loop-key.auto.key-index-end

pub returns-then-len-count-clause-few : goal.returns-then-len-count-clause-few
returns-then-len-count-clause-few g c = c.loop-key.invariant.1

pub loop-key-preserved : goal.loop-key-preserved
loop-key-preserved g c = (
  ap (map deref_pair) c.in_ok-push.ensures.items ∙ map-append deref_pair c.loop-key.entries.items _ ∙ ap (λ es. es ++ c.loop-key-item.result ∷ []) c.loop-key.invariant.0
      ∙ append_assoc (map deref_pair c.args.entries.now.items) (take c.loop-key.key-index c.args.others.now) (c.loop-key-item.result ∷ [])
      ∙ ap (λ es. map deref_pair c.args.entries.now.items ++ es) (ap (λ e. take c.loop-key.key-index c.args.others.now ++ e ∷ []) c.loop-key-item.is ∙ sym (take_more c.args.others.now c.loop-key.key-index c.loop-key-item.result c.loop-key-test.true)),
  next_counted c.loop-key.invariant.1 c.len.ensures c.if-len-count.false c.in_ok-push.ensures.len,
)

pub returns-clause-entries : goal.returns-clause-entries
returns-clause-entries g c = all_gathered c.args.count (map deref_pair c.args.entries.now.items) (map deref_pair c.loop-key.entries.items) c.args.others.now c.loop-key.key-index c.loop-key.invariant.0 c.loop-key-test.false (up_from (up_to _ _ (length-map c.loop-key.entries.items deref_pair ∙ sym c.loop-key.entries.ok.0)) c.loop-key.invariant.1)

pub returns-clause-few : goal.returns-clause-few
returns-clause-few g c = c.loop-key.invariant.1
