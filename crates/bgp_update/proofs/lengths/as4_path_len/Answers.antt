-- It is there where some number takes more than two octets.
use Rattle.std.proofs.Common.{◌≡◌, true, sym, ◌∙◌}
use Rattle.net_types.specs.Paths.{has_wide}
use Rattle.bgp_update.proofs.LengthSums.{wide_capped}
use Rattle.bgp_update.proofs.lengths.as4_path_len.Goals as goal

pub returns-then-has_wide : goal.returns-then-has_wide
returns-then-has_wide c =
    let wide : has_wide c.args.path.now ≡ true = sym c.has_wide.ensures ∙ c.if-has_wide.true in
    c.attribute_len.ensures ∙ wide_capped c.args.path.now c.wide_path_len.result c.wide_path_len.ensures wide
