use Rattle.std.proofs.Common.{◌≡◌, ◌++◌, ◌∙◌, ap, subst, append_assoc, OnOk}
use Rattle.std.specs.Prelude.{string_bytes}
use Rattle.load_gen.specs.Generated.{port_name, router_text}
use Rattle.load_gen.proofs.lines.push_port.Goals as goal

pub returns : goal.returns
returns c =
    let k = c.args.k in
    subst (λ xs. OnOk c.push_router.result (string_bytes c.push_router.new.text ≡ xs))
    (ap (λ x. x ++ router_text k) c.in_ok-push_port_name.ensures ∙ append_assoc (string_bytes c.args.text.now) (port_name k) (router_text k)) c.push_router.ensures
