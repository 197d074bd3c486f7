use Rattle.std.proofs.Common.{ap, ◌∙◌, ◌++◌, [], codes}
use Rattle.events.specs.Text.{prefix_field, number_field}
use Rattle.replay_text.specs.Fields.{led}
use Rattle.replay_text.proofs.LedFields.{more_led, more_next}
use Rattle.replay_text.proofs.rules.push_cube_fields.Goals as goal

pub returns-clause-written : goal.returns-clause-written
returns-clause-written c =
    let cube = c.args.cube.now in
    let text = c.args.text.now.items in
    let src = prefix_field (codes "srcip") cube.src in
    let dst = prefix_field (codes "dstip") cube.dst in
    let proto = number_field (codes "proto") c.widened.result in
    let sport = number_field (codes "srcport") cube.sport in
    let dport = number_field (codes "dstport") cube.dport in
    let one = c.in_ok-lead.ensures in
    let two = c.in_ok-lead-2.ensures in
    let three = c.in_ok-lead-3.ensures in
    let four = c.in_ok-lead-4.ensures in
    let five = c.in_ok-lead-5.ensures in
    let n1 = c.in_ok-lead.lead.now in
    let n2 = c.in_ok-lead-2.lead.now in
    let n3 = c.in_ok-lead-3.lead.now in
    let n4 = c.in_ok-lead-4.lead.now in
    let t1 = c.push_prefix_field.new.text.items in
    let t2 = c.push_prefix_field-2.new.text.items in
    let t3 = c.push_number_field.new.text.items in
    let t4 = c.push_number_field-2.new.text.items in
    let t5 = c.push_number_field-3.new.text.items in
    let led2 = more_led text t1 t2 [] n1 src dst one.written one.next two.written in
    let next2 = more_next [] n1 n2 src dst one.next two.next in
    let led3 = more_led text t2 t3 [] n2 (src ++ dst) proto led2 next2 three.written in
    let next3 = more_next [] n2 n3 (src ++ dst) proto next2 three.next in
    let led4 = more_led text t3 t4 [] n3 (src ++ dst ++ proto) sport led3 next3 four.written in
    let next4 = more_next [] n3 n4 (src ++ dst ++ proto) sport next3 four.next in
    let led5 = more_led text t4 t5 [] n4 (src ++ dst ++ proto ++ sport) dport led4 next4 five.written in
    led5 ∙ ap (λ o. text ++ led [] (src ++ dst ++ number_field (codes "proto") o ++ sport ++ dport)) c.widened.ensures
