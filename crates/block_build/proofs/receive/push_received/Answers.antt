-- What leaves is new, so it stands last.
use Rattle.std.proofs.Common.{◌≡◌, ◌++◌, OnOk, List, [], ap, subst, sym, ◌∙◌}
use Rattle.std.proofs.lemmas.Bool.{false≢true}
use Rattle.classifier.specs.Items.{Item, add_all}
use Rattle.block_build.specs.Receivers.{AreApart, add_exits, received_items}
use Rattle.block_build.proofs.ReceiveLemmas.{all-new, received-once, received-some}
use Rattle.block_build.proofs.receive.push_received.Goals as goal

pub push_apart-requires : goal.push_apart-requires
push_apart-requires c = subst (AreApart c.args.hop) c.items.ensures (c.are_apart.ensures c.if-are_apart.true)

pub returns-then-are_apart : goal.returns-then-are_apart
returns-then-are_apart c =
    let row = c.args.row.now.items in
    let hop = c.args.hop in
    let results = c.args.results.now in
    let leave : received_items hop results ≡ add_exits hop [] results = received-some hop results (λ e. absurd (false≢true (sym c.if-is_empty.false ∙ c.is_empty.ensures.1 e))) in
    let last : row ++ add_exits hop [] results ≡ add_all row (received_items hop results) = ap (λ (items : List Item). row ++ items) (sym leave) ∙ sym (all-new row (received_items hop results) (received-once hop results) c.requires) in
    subst (λ (items : List Item). OnOk c.push_apart.result (c.push_apart.new.pairs.items ≡ items)) last c.push_apart.ensures

pub returns : goal.returns
returns c =
    let row = c.args.row.now.items in
    let hop = c.args.hop in
    let results = c.args.results.now in
    let leave : received_items hop results ≡ add_exits hop [] results = received-some hop results (λ e. absurd (false≢true (sym c.if-is_empty.false ∙ c.is_empty.ensures.1 e))) in
    c.in_ok-extend_from_slice.ensures.items
    ∙ ap (λ (items : List Item). row ++ items) (c.items-2.ensures ∙ c.in_ok-exits.ensures ∙ sym leave)
    ∙ sym (all-new row (received_items hop results) (received-once hop results) c.requires)
