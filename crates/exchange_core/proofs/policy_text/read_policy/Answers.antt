use Rattle.std.proofs.Common.{subst, sym}
use Rattle.std.specs.Prelude.{IsUtf8}
use Rattle.exchange_core.proofs.Utf8.{passed_is_utf8}
use Rattle.exchange_core.proofs.policy_text.read_policy.Goals as goal

pub unreachable-requires : goal.unreachable-requires
unreachable-requires c = c.in_default.ensures.cases.0 (subst (λ octets. IsUtf8 octets) (sym c.items.ensures) (passed_is_utf8 c.args.text.now c.requires))
