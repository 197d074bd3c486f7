-- The update of the parts of a message.
use Rattle.std.proofs.Common.{◌≡◌, true, false, List, [], ◌∷◌, Result, Ok, Err, refl, sym, ap, subst}
use Rattle.std.specs.Prelude.{Option, Some, None, is_some, ◌&&◌}
use Rattle.net_types.proofs.SetLemmas.{empty_same, same_sym}
use Rattle.net_types.specs.Sets.{SameMembers}
use Rattle.net_types.specs.UpdateFormat.{is_complete, no_types}
use Rattle.net_types.specs.UpdateSpelling.{AreAttrs, AreSaid, IsOrdered, IsOrderedWithout}
use Rattle.net_types.specs.UpdateValue.{Said, said}
use Rattle.net_types.specs.declared.attribute.Attribute.{Attribute}
use Rattle.net_types.specs.declared.prefix.Prefix.{Prefix}
use Rattle.net_types.specs.declared.route.Attrs.{Attrs}
use Rattle.net_types.specs.declared.update.Update.{Update}
use Rattle.bgp_update.proofs.PathLists.{path_there}
use Rattle.bgp_update.proofs.UnknownLists.{moved_members, rising_moved}
use Rattle.bgp_update.specs.declared.fault.UpdateFault.{UpdateFault}
use Rattle.bgp_update.specs.declared.fault.UpdateFault.TheVariants.{Bad, Memory}
use Rattle.bgp_update.specs.Answers.{AreGiven, AreNew, AreSorted, IsFinished, parts_of}

are_said : (all : List Attribute) (a : Attrs) → AreNew no_types all → AreSorted (said all) a → AreSaid (said all) a
are_said all a new h = record {
  origin = h.origin;
  path = h.path;
  next_hop = h.next_hop;
  med = h.med;
  atomic = h.atomic;
  aggregator = h.aggregator;
  communities = h.communities;
  communities_partial = h.communities_partial;
  rising = rising_moved all no_types a.unknown new h.moved h.sorted;
  same = moved_members (said all).unknown a.unknown h.moved;
}

-- the withdrawn ones without those that are announced are those without the ascending list of them
without_same : (ps qs rs ts : List Prefix) → SameMembers rs ts → IsOrderedWithout ps qs rs → IsOrderedWithout ps qs ts
without_same ps qs rs ts s h = record {
  rising = h.rising;
  onto = λ p m. let k = h.onto p m in record { stands = k.stands; apart = λ n. k.apart (s.back p n) };
  back = λ p k. h.back p (record { stands = k.stands; apart = λ n. k.apart (s.onto p n) });
}

made : List Prefix → Option Attrs → List Prefix → Update
made withdrawn attrs announced = record { withdrawn = withdrawn; attrs = attrs; announced = announced }

complete_of : (s : Said) (ps : List Prefix) (a : Attrs) → AreSorted s a → is_complete s ps ≡ true
complete_of s [] a h = refl
complete_of s (p ∷ ps) a h = rw (h.origin, h.next_hop, sym (path_there s), h.path) refl

attrs_of : (s : Said) (ps : List Prefix) (a : Attrs) → (ps ≡ [] → ⊥) → AreSaid s a → AreAttrs s ps (Some a)
attrs_of s [] a some h = absurd (some refl)
attrs_of s (p ∷ ps) a some h = h

module _ (withdrawn : List Prefix) (all : List Attribute) (announced w a : List Prefix) (new : AreNew no_types all) (oa : IsOrdered a announced) (ow : IsOrderedWithout w withdrawn a) where
  -- nothing is announced
  pub finished_none : a ≡ [] → IsFinished (parts_of withdrawn all announced) (Ok (record { withdrawn = w; attrs = None; announced = a }))
  unfolding made
  finished_none e =
      let none : announced ≡ [] = empty_same announced (same_sym (subst (λ (ps : List Prefix). SameMembers ps announced) e oa.same)) in (
        ap (is_complete (said all)) none,
        record {
          announced = oa;
          withdrawn = without_same w withdrawn a announced oa.same ow;
          attrs = subst (λ (ps : List Prefix). AreAttrs (said all) ps None) (sym none) tt;
        },
      )

  some_announced : (a ≡ [] → ⊥) → announced ≡ [] → ⊥
  some_announced some e = some (empty_same a (subst (λ (ps : List Prefix). SameMembers a ps) e oa.same))

  -- something is announced, and three attributes are there
  pub finished_some : (at : Attrs) → (a ≡ [] → ⊥) → AreSorted (said all) at → IsFinished (parts_of withdrawn all announced) (Ok (record { withdrawn = w; attrs = Some at; announced = a }))
  finished_some at some h = (
    complete_of (said all) announced at h,
    record {
      announced = oa;
      withdrawn = without_same w withdrawn a announced oa.same ow;
      attrs = attrs_of (said all) announced at (some_announced some) (are_said all at new h);
    },
  )

  -- something is announced, and one of the three is missing
  pub finished_bad : (a ≡ [] → ⊥) → (is_some (said all).origin && (is_some (said all).path && is_some (said all).next_hop)) ≡ false → is_complete (said all) announced ≡ false
  finished_bad some h = go announced (some_announced some)
    where
      go : (ps : List Prefix) → (ps ≡ [] → ⊥) → is_complete (said all) ps ≡ false
      go [] some = absurd (some refl)
      go (p ∷ ps) some = h

  pub finished_ok : (attrs : Option Attrs) → AreGiven (said all) a (Ok attrs) → IsFinished (parts_of withdrawn all announced) (Ok (record { withdrawn = w; attrs = attrs; announced = a }))
  finished_ok None h = finished_none h
  finished_ok (Some at) h = finished_some at h.0 h.1

  pub finished_err : (e : UpdateFault) → AreGiven (said all) a (Err e) → IsFinished (parts_of withdrawn all announced) (Err e)
  finished_err (Bad f) h = (finished_bad h.0 h.1, h.2)
  finished_err Memory h = tt

-- what was answered of attributes, at equal values
pub given_at : (s t : Said) (a b : List Prefix) (r q : Result (Option Attrs) UpdateFault) → s ≡ t → a ≡ b → r ≡ q → AreGiven s a r → AreGiven t b q
given_at s t a b r q e f g h = subst (λ (x : Result (Option Attrs) UpdateFault). AreGiven t b x) g (subst (λ (x : List Prefix). AreGiven t x r) f (subst (λ (x : Said). AreGiven x a r) e h))
