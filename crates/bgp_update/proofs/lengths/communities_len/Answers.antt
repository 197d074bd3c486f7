-- Four octets each, in one attribute.
use Rattle.std.proofs.Common.{◌≤◌, ◌*◌, ℕ, length, min, ap, sym, ◌∙◌, arith}
use Rattle.bgp_update.proofs.LengthSums.{attribute_capped, communities_length}
use Rattle.bgp_update.proofs.lengths.communities_len.Goals as goal

pub returns-in-len1-up : goal.returns-in-len1-up
returns-in-len1-up c =
    let some : 1 ≤ length c.args.communities.now = omega (arith, c.in-len1-up.len_at_least) in
    c.attribute_len.ensures ∙ attribute_capped c.four_times.result (4 * length c.args.communities.now) c.four_times.ensures ∙ ap (λ (n : ℕ). min 65535 n) (sym (communities_length c.args.partial c.args.communities.now some))
