use Rattle.std.proofs.Common.{◌≡◌, ◌++◌, ◌∙◌, ap, sym, subst, codes, OnOk}
use Rattle.std.specs.Prelude.{string_bytes}
use Rattle.events.specs.Text.{hex_text}
use Rattle.net_types.specs.Updates.{canonical}
use Rattle.load_gen.specs.Drawing.{below}
use Rattle.load_gen.specs.Generated.{actor, announcing, line_of, name_of, network, withdrawing}
use Rattle.load_gen.proofs.lines.push_drawn.Goals as goal

pub returns-in_ok-message-in-Announce : goal.returns-in_ok-message-in-Announce
returns-in_ok-message-in-Announce c =
    let z = c.args.drawn.0 in
    let k = c.actor-k.result in
    let q = c.network.result in
    let more = c.more.result in
    subst (λ xs. OnOk c.push_update.result (string_bytes c.push_update.new.text ≡ string_bytes c.args.text.now ++ xs))
    (ap (λ m. codes "update " ++ name_of k ++ codes " " ++ hex_text m)
    (c.items.ensures ∙ c.in_ok-message-in-Announce.ensures ∙ ap (λ x. canonical (announcing x q more)) c.actor-k.ensures.actor
    ∙ ap (λ x. canonical (announcing (actor z) x more)) c.network.ensures ∙ ap (λ x. canonical (announcing (actor z) (network z) x)) c.more.ensures.more)
    ∙ ap (λ x. codes "update " ++ name_of x ++ codes " " ++ hex_text (canonical (announcing (actor z) (network z) (below 4 32 z)))) c.actor-k.ensures.actor
    ∙ ap (λ kind. line_of kind z) (sym c.in-Announce.is ∙ c.kind.ensures))
    c.push_update.ensures

pub returns-in_ok-message-in-Withdraw : goal.returns-in_ok-message-in-Withdraw
returns-in_ok-message-in-Withdraw c =
    let z = c.args.drawn.0 in
    let k = c.actor-k.result in
    subst (λ xs. OnOk c.push_update-in-Withdraw.result (string_bytes c.push_update-in-Withdraw.new.text ≡ string_bytes c.args.text.now ++ xs))
    (ap (λ m. codes "update " ++ name_of k ++ codes " " ++ hex_text m)
    (c.items-in-Withdraw.ensures ∙ c.in_ok-message-in-Withdraw.ensures ∙ ap (λ x. canonical (withdrawing x)) c.network-in-Withdraw.ensures)
    ∙ ap (λ x. codes "update " ++ name_of x ++ codes " " ++ hex_text (canonical (withdrawing (network z)))) c.actor-k.ensures.actor
    ∙ ap (λ kind. line_of kind z) (sym c.in-Withdraw.is ∙ c.kind.ensures))
    c.push_update-in-Withdraw.ensures
