-- What a line that builds rules puts into the table, and that right rules are some rules.
use Rattle.std.proofs.Common.{◌≡◌, Bool, ◌||◌, not, sym, ap, subst, ◌∙◌, refl, arith}
use Rattle.std.specs.Prelude.{Option, Some, None, is_none, is_some}
use Rattle.std.specs.FinMap.{get}
use Rattle.events.specs.Sound.{IsRight}
use Rattle.events.specs.State.{State}
use Rattle.exchange_laws.proofs.RulesAfter.{not_new}
use Rattle.exchange_laws.specs.Listed.{HasLivePairs}
use Rattle.exchange_laws.specs.Replies.{ChangesAreBuilt, RightRulesAreSome}
use Rattle.exchange_laws.specs.Rules.{is_new}
use Rattle.net_types.specs.declared.headers.Headers.{Headers}
use Rattle.net_types.specs.declared.rule.Pair.{Pair}
use Rattle.std.proofs.lemmas.Option.{same_Some}

none_not : {A : Type 0} (o : Option A) → is_none o ≡ not (is_some o)
none_not None = refl
none_not (Some x) = refl

-- a pair without rules is one that isn't live
pub absent_new : (s : State) (is_rebuilt : Pair → Bool) → HasLivePairs s → (pair : Pair) → (is_none (get s.table pair) || is_rebuilt pair) ≡ is_new s is_rebuilt pair
absent_new s is_rebuilt has pair = ap (λ b. b || is_rebuilt pair) (none_not (get s.table pair) ∙ ap not (has pair))

pub changes_are_built : ChangesAreBuilt
changes_are_built s r is_rebuilt table tagged is has = record {
  stays = λ pair old new kept was now. same_Some old new (sym was ∙ is.old pair new (not_new s is_rebuilt pair (sym (tagged.pairs pair) ∙ ap is_some was) kept) now);
  some = λ pair new empty. has pair (sym (absent_new s is_rebuilt tagged.pairs pair) ∙ new) empty;
}

pub right_rules_are_some : RightRulesAreSome
right_rules_are_some ps part port rules small right none =
    let h : Headers = record { inport = port; src = record { 0 = 0 }; dst = record { 0 = 0 }; proto = 0; sport = None; dport = None } in
    let given = (subst (IsRight ps part port) none right).gives h (record { inport = small; src = omega arith; dst = omega arith; proto = omega arith; sport = tt; dport = tt }) refl in
    let never = given.1 in cc
