use Rattle.std.proofs.Common.{◌≡◌, ◌++◌, List, ℕ, ap, ◌∙◌, append_assoc, codes}
use Rattle.events.specs.Text.{address_field, number_field}
use Rattle.replay_text.specs.Fields.{closed}
use Rattle.replay_text.proofs.ClosedFields.{closed_more, close_more}
use Rattle.replay_text.proofs.front.Front.set_fields.Goals as goal

from_the_left : (a b c d : List (List ℕ)) → a ++ (b ++ (c ++ d)) ≡ ((a ++ b) ++ c) ++ d
from_the_left a b c d = simp append_assoc

pub returns-clause-text : goal.returns-clause-text
returns-clause-text c =
    let text = c.args.self.now in
    let src = address_field (codes "srcip") c.args.set.src in
    let dst = address_field (codes "dstip") c.args.set.dst in
    let sport = number_field (codes "srcport") c.args.set.sport in
    let dport = number_field (codes "dstport") c.args.set.dport in
    let one = c.number_field-close.ensures in
    let two = c.number_field-close-2.ensures in
    let three = c.address_field-close.ensures in
    let four = c.address_field.ensures in
    let n1 = c.number_field-close.result in
    let n2 = c.number_field-close-2.result in
    let n3 = c.address_field-close.result in
    let t1 = c.number_field-close.new.self in
    let t2 = c.number_field-close-2.new.self in
    let t3 = c.address_field-close.new.self in
    let t4 = c.address_field.new.self in
    let text2 = closed_more text t1 t2 93 n1 sport dport one.text one.next two.text in
    let next2 = close_more 93 n1 n2 sport dport one.next two.next in
    let text3 = closed_more text t2 t3 93 n2 dst (sport ++ dport) text2 next2 three.text in
    let next3 = close_more 93 n2 n3 dst (sport ++ dport) next2 three.next in
    let text4 = closed_more text t3 t4 93 n3 src (dst ++ (sport ++ dport)) text3 next3 four.text in
    text4 ∙ ap (λ l. closed 93 l ++ text) (from_the_left src dst sport dport)
