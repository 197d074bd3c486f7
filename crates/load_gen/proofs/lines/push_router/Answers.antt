use Rattle.std.proofs.Common.{◌≡◌, ◌++◌, ◌∙◌, ap, subst, append_assoc, OnOk}
use Rattle.std.specs.Prelude.{string_bytes}
use Rattle.load_gen.specs.Generated.{router_address, router_mac}
use Rattle.load_gen.proofs.lines.push_router.Goals as goal

pub returns : goal.returns
returns c =
    let k = c.args.k in
    subst (λ xs. OnOk c.push_mac.result (string_bytes c.push_mac.new.text ≡ xs))
    (ap (λ x. x ++ router_mac k) c.in_ok-push_address.ensures ∙ append_assoc (string_bytes c.args.text.now) (router_address k) (router_mac k)) c.push_mac.ensures
