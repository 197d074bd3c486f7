-- A tag has members exactly where some prefix has it.
use Rattle.std.proofs.Common.{◌≡◌, ◌<◌, ℕ, zero, suc, Bool, true, false, arith, refl}
use Rattle.std.specs.Prelude.{Some}
use Rattle.std.specs.FinMap.{get}
use Rattle.std.proofs.lemmas.Bool.{false_from_ne_true}
use Rattle.events.specs.State.{State}
use Rattle.exchange_laws.proofs.Lists.{clash}
use Rattle.fast_path.proofs.PortsAndTags.{has_prefix_of, prefix_with}
use Rattle.fast_path.specs.LiveOnly.{has_prefix}
use Rattle.net_types.specs.declared.address.Tag.{Tag}
use Rattle.net_types.specs.declared.prefix.Prefix.{Prefix}
use Rattle.prefix_classes.proofs.MemberLemmas.{no_members}
use Rattle.prefix_classes.specs.Classes.{members}

pub none_without : (s : State) (t : Tag) → has_prefix s t ≡ false → members s.tag t ≡ 0
none_without s t none = (no_members s.tag t).1 (λ p at. clash (has_prefix_of s p t at) none)

pub without_none : (s : State) (t : Tag) → members s.tag t ≡ 0 → has_prefix s t ≡ false
without_none s t none = false_from_ne_true (has_prefix s t) (λ has. let with = prefix_with s t has in (no_members s.tag t).0 none with.prefix with.tagged)

pub some_with : (s : State) (t : Tag) → 0 < members s.tag t → has_prefix s t ≡ true
some_with s t some = by (has_prefix s t) refl
  where
    by : (b : Bool) → has_prefix s t ≡ b → has_prefix s t ≡ true
    by true e = e
    by false e = let none = none_without s t e in absurd (omega (arith, none, some))

pub with_some : (s : State) (p : Prefix) (t : Tag) → get s.tag p ≡ Some t → 0 < members s.tag t
with_some s p t at = more (members s.tag t) (λ none. (no_members s.tag t).0 none p at)
  where
    more : (n : ℕ) → (n ≡ 0 → ⊥) → 0 < n
    more zero never = absurd (never refl)
    more (suc n) never = omega arith
