-- Changes with the same rows, where nobody has export rules.
use Rattle.std.specs.Prelude.{◌≡◌, ℕ, Bool, ◌&&◌, nat_eq, List, [], Option, Some, None}
use Rattle.net_types.specs.Attributes.{same_attrs}
use Rattle.net_types.specs.declared.export.ExportRule.{ExportRule}
use Rattle.route_server.specs.Effects.{IsEffectOf}
use Rattle.route_server.specs.Rows.{rules_at, settled_by}
use Rattle.net_types.specs.declared.prefix.Prefix.{Prefix}
use Rattle.route_server.specs.declared.effect.Effect.{Effect}
use Rattle.route_server.specs.declared.held.Held.{Held}
use Rattle.route_server.specs.declared.repeated.Done.{Done}
use Rattle.route_server.specs.declared.terms.Terms.{Terms}

-- the routes are equal
abbrev pub same_held : Held → Held → Bool
same_held a b = nat_eq a.from.0 b.from.0 && (nat_eq a.hops b.hops && same_attrs a.attrs b.attrs)

-- no participant has export rules
abbrev pub AreUnruled : List (List ExportRule) → Type 0
AreUnruled rules = (n : ℕ) → rules_at rules n ≡ []

-- what two changes do is the same, but for the place and the prefix of the second
abbrev pub AreAlike : ℕ → Prefix → Option Effect → Option Effect → Type 0
AreAlike at p None None = Unit {0}
AreAlike at p (Some e) (Some f) = (f.at ≡ at) × (f.prefix ≡ p) × (f.sig.value ≡ e.sig.value) × (f.bests.items ≡ e.bests.items)
AreAlike at p None (Some f) = ⊥
AreAlike at p (Some e) None = ⊥

-- what a change does is known, and nobody has export rules before it or afterwards
pub record IsDone (t u : Terms) (d : Done) : Type 0 where
  pub before : AreUnruled t.rules.now
  pub after : AreUnruled u.rules.now
  pub effect : IsEffectOf (settled_by t) (settled_by u) d.old.now d.change.now d.at d.effect
