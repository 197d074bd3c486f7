use Rattle.std.proofs.Common.{◌≡◌, ◌<◌, ◌≤◌, sym, ap, subst, ◌∙◌, length}
use Rattle.std.specs.Prelude.{Err, List, Ok, Some}
use Rattle.events.specs.State.{State}
use Rattle.net_types.specs.ExportReading.{rules_of_text}
use Rattle.exchange_core.specs.Changing.{rules_or_refusal}
use Rattle.net_types.specs.declared.export.ExportRule.{ExportRule}
use Rattle.exchange_core.specs.Stops.{Gives, bind_stop, rules_stop}
use Rattle.exchange_core.specs.View.{state_of}
use Rattle.std.specs.Prelude.{IsUtf8}
use Rattle.exchange_core.proofs.Utf8.{passed_is_utf8}
use Rattle.exchange_core.proofs.Asked.{rules_bound, rules_misread, rules_unbound}
use Rattle.exchange_core.proofs.Stops.{returned}
use Rattle.exchange_core.proofs.exchange.Core.bound_rules.Goals as goal

pub unreachable-requires : goal.unreachable-requires
unreachable-requires c = c.in_default.ensures.cases.0 (subst (λ octets. IsUtf8 octets) (sym c.items.ensures) (passed_is_utf8 c.args.text.now c.requires))

pub returns-in_err-named : goal.returns-in_err-named
returns-in_err-named c =
    let r = c.args.self.now.routing in
    let text = c.args.text.now in
    let fault = c.in_err-named.field-0.0 in
    let was = c.in_err-named.was in
    let same : c.in-Ok.text.now ≡ c.args.text.now = c.in-Ok.ensures.cases.0 ∙ c.items.ensures in
    returned (Gives {X = List ExportRule} (rules_or_refusal r text)) c.from_residual.result (rules_stop fault) c.from_residual.ensures.1
    (rules_misread r text fault (λ e. subst (λ octets. 8192 < length octets) same (c.parse_rules.ensures.long.0 (cc)))
    (λ e. let said = c.parse_rules.ensures.long.1 (subst (λ octets. 8192 < length octets) (sym same) e) in cc)
    (λ at e. sym (ap rules_of_text same) ∙ c.in_err-named.ensures.place at e))

pub returns-in_err-bound : goal.returns-in_err-bound
returns-in_err-bound c =
    let a = c.self.inside in
    let s : State = state_of a.phase a.base a.size a.registry a.server a.resolved.items a.classes a.adverts.told a.switch a.programs.items in
    let text = c.args.text.now in
    let fault = c.in_err-bound.field-0.0 in
    let same : c.in-Ok.text.now ≡ c.args.text.now = c.in-Ok.ensures.cases.0 ∙ c.items.ensures in
    let fits : length text ≤ 8192 = subst (λ octets. length octets ≤ 8192) same c.in_ok-named.ensures.ok.0 in
    let read : rules_of_text text ≡ Ok c.in_ok-named.named = sym (ap rules_of_text same) ∙ c.in_ok-named.ensures.value in
    returned (Gives {X = List ExportRule} (rules_or_refusal c.args.self.now.routing text)) c.from_residual-in_err-bound.result (bind_stop fault) c.from_residual-in_err-bound.ensures.1
    (subst (λ (x : State). Gives {X = List ExportRule} (rules_or_refusal x.routing text) (Err (bind_stop fault))) c.self.view_is (rules_unbound s.routing text c.in_ok-named.named fault fits read c.in_err-bound.ensures.unknown))

pub returns : goal.returns
returns c =
    let a = c.self.inside in
    let s : State = state_of a.phase a.base a.size a.registry a.server a.resolved.items a.classes a.adverts.told a.switch a.programs.items in
    let same : c.in-Ok.text.now ≡ c.args.text.now = c.in-Ok.ensures.cases.0 ∙ c.items.ensures in
    let fits : length c.args.text.now ≤ 8192 = subst (λ octets. length octets ≤ 8192) same c.in_ok-named.ensures.ok.0 in
    let read : rules_of_text c.args.text.now ≡ Ok c.in_ok-named.named = sym (ap rules_of_text same) ∙ c.in_ok-named.ensures.value in
    ap (λ (x : State). rules_or_refusal x.routing c.args.text.now) (sym c.self.view_is)
    ∙ rules_bound s.routing c.args.text.now c.in_ok-named.named (Some c.in_ok-bound.bound) fits read c.in_ok-bound.ensures.ok
