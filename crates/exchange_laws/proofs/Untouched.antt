-- A prefix whose signature stays the same keeps its tag.
use Rattle.std.proofs.Common.{◌≡◌, Bool, true, false, cond, ◌&&◌, ◌||◌, not, List, [], ◌∷◌, sym, ap, ◌∙◌, refl}
use Rattle.std.specs.Prelude.{Option, Some, None, is_some}
use Rattle.std.specs.FinMap.{get}
use Rattle.std.specs.List.{cons_option, filter_map, list_any}
use Rattle.std.specs.Option.{option_and_then}
use Rattle.std.proofs.lemmas.Bool.{and_left, and_right}
use Rattle.events.specs.State.{State}
use Rattle.events.specs.Tags.{fresh_tag, group_of, is_carried, is_changed, new_tag}
use Rattle.exchange_laws.proofs.Sames.{signature_itself}
use Rattle.exchange_laws.specs.Rules.{IsTagged}
use Rattle.net_types.proofs.FindLemmas.{is_some-map}
use Rattle.net_types.proofs.PassLemmas.{same_any}
use Rattle.net_types.specs.Attributes.{same_option, same_signature}
use Rattle.net_types.specs.Exports.{Routing}
use Rattle.net_types.specs.Routes.{best, pids}
use Rattle.net_types.specs.Signatures.{part, signature}
use Rattle.net_types.specs.declared.address.Tag.{Tag}
use Rattle.net_types.specs.declared.prefix.Prefix.{Prefix}

-- ---- a prefix is carried where its signature has a part

has_some : {A : Type 0} → List A → Bool
has_some [] = false
has_some (x ∷ xs) = true

some_given : {A B : Type 0} (f : A → Option B) (xs : List A) → list_any (λ x. is_some (f x)) xs ≡ has_some (filter_map f xs)
unfolding has_some
some_given f [] = refl
some_given f (x ∷ xs) = elim (f x) as (λ o. (is_some o || list_any (λ y. is_some (f y)) xs) ≡ has_some (cons_option o (filter_map f xs))) [ None ↦ some_given f xs | Some y ↦ refl ]

carried_signature : (r : Routing) (p : Prefix) → is_carried r p ≡ has_some (signature r p)
carried_signature r p =
    same_any (λ to. is_some (best r to p)) (λ to. is_some (part r p to)) (pids r) (λ to. sym (is_some-map _ (best r to p)))
    ∙ some_given (part r p) (pids r)

-- by the same signature a prefix is carried, or not, as before
pub carried_alike : (r r1 : Routing) (p : Prefix) → signature r1 p ≡ signature r p → is_carried r1 p ≡ is_carried r p
carried_alike r r1 p same = carried_signature r1 p ∙ ap has_some same ∙ sym (carried_signature r p)

-- ---- where exactly the carried prefixes have a tag, and the signature of each is the one kept for it

module _ (s : State) (tagged : IsTagged s) (r : Routing) (p : Prefix) (same : signature r p ≡ signature s.routing p) where
  -- the signature that is kept for the tag of a carried prefix is the one that it has now
  pub unchanged : (is_carried r p && is_changed s r p) ≡ false
  unchanged = by (get s.tag p) refl
    where
      by : (o : Option Tag) → get s.tag p ≡ o → (is_carried r p && is_changed s r p) ≡ false
      by None none = and_left (is_carried r p) (is_changed s r p) (carried_alike s.routing r p same ∙ sym (tagged.tagged p) ∙ ap is_some none)
      by (Some t) has =
          and_right (is_carried r p) (is_changed s r p)
          (ap (λ o. not (same_option same_signature (option_and_then (get s.kept) o) (Some (signature r p)))) has
          ∙ ap (λ o. not (same_option same_signature o (Some (signature r p)))) (tagged.kept p t has ∙ ap Some (sym same))
          ∙ ap not (signature_itself (signature r p)))

  pub keeps_tag : new_tag s r p ≡ get s.tag p
  keeps_tag = by (is_carried r p) (is_changed s r p) refl unchanged
    where
      no_tag : (o : Option Tag) → is_some o ≡ false → None ≡ o
      no_tag None e = refl
      no_tag (Some t) e = cc

      by : (c d : Bool) → is_carried r p ≡ c → (c && d) ≡ false → cond c (cond d (fresh_tag s r (group_of s r p)) (get s.tag p)) None ≡ get s.tag p
      by true true is never = cc
      by true false is never = refl
      by false d is never = no_tag (get s.tag p) (tagged.tagged p ∙ sym (carried_alike s.routing r p same) ∙ is)
