-- The pairs of the entries are those of the table.
use Rattle.std.proofs.Common.{List, ap, sym, ◌∙◌}
use Rattle.std.specs.Prelude.{Option, Some, None, find}
use Rattle.std.specs.Option.{option_map}
use Rattle.net_types.specs.Keys.{pair_cmp}
use Rattle.net_types.specs.declared.rule.Pair.{Pair}
use Rattle.net_types.specs.declared.rule.Rule.{Rule}
use Rattle.match_switch.proofs.NextLemmas.{key, key_lent, first_is, next_is}
use Rattle.match_switch.proofs.TableLemmas.{entries_are}
use Rattle.match_switch.specs.Installed.{is_past, pairs_in, pairs_of}
use Rattle.match_switch.proofs.switch.Switch.next_pair.Goals as goal

pub returns-in-None : goal.returns-in-None
returns-in-None c =
    let es : List (Pair × List Rule) = c.self.inside.entries.items in
    let all = entries_are c.self.inside.entries.items c.self.inside.rules _ c.self.inside.capacity c.self.invariant c.args.self.now c.self.view_is in
    c.pair_of.ensures ∙ key_lent c.first.result ∙ ap (option_map key) c.first.ensures ∙ first_is es
    ∙ ap (λ (xs : List (Pair × List Rule)). find (is_past None) (pairs_in xs)) (sym all)
    ∙ ap (λ (after : Option Pair). find (is_past after) (pairs_of c.args.self.now.table)) (sym c.in-None.is)

pub returns-in-Some : goal.returns-in-Some
returns-in-Some c =
    let es : List (Pair × List Rule) = c.self.inside.entries.items in
    let all = entries_are c.self.inside.entries.items c.self.inside.rules _ c.self.inside.capacity c.self.invariant c.args.self.now c.self.view_is in
    c.pair_of-in-Some.ensures ∙ key_lent c.next_after.result ∙ ap (option_map key) c.next_after.ensures ∙ next_is pair_cmp c.in-Some.pair es
    ∙ ap (λ (xs : List (Pair × List Rule)). find (is_past (Some c.in-Some.pair)) (pairs_in xs)) (sym all)
    ∙ ap (λ (after : Option Pair). find (is_past after) (pairs_of c.args.self.now.table)) (sym c.in-Some.is)
