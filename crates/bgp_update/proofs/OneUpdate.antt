-- The parts of a message have one value.
use Rattle.std.proofs.Common.{◌≡◌, ◌<◌, true, List, [], ◌∷◌, refl, sym, ap, ◌∙◌, arith}
use Rattle.std.specs.Prelude.{Option, Some, None}
use Rattle.std.specs.Ordering.{is_lt}
use Rattle.std.proofs.lemmas.Bool.{false≢true, lt-ltb, ltb-true}
use Rattle.std.proofs.lemmas.Cmp.{tied_itself}
use Rattle.net_types.proofs.OrderLemmas.{prefixes_total}
use Rattle.net_types.proofs.SetLemmas.{rising_unique, same_sym, same_trans}
use Rattle.net_types.specs.Keys.{prefix_cmp}
use Rattle.net_types.specs.UpdateFormat.{Parts}
use Rattle.net_types.specs.UpdateSpelling.{AreAttrs, AreSaid, IsOrdered, IsOrderedWithout, IsUpdateOf, is_before, is_type_before}
use Rattle.net_types.specs.UpdateValue.{Said}
use Rattle.net_types.specs.declared.prefix.Prefix.{Prefix}
use Rattle.net_types.specs.declared.route.Attrs.{Attrs}
use Rattle.net_types.specs.declared.route.Unknown.{Unknown}
use Rattle.net_types.specs.declared.update.Update.{Update}
use Rattle.net_types.proofs.TieLemmas.{less}
use Rattle.std.proofs.lemmas.Option.{same_Some}

pub before_itself : (p : Prefix) → is_before p p ≡ true → ⊥
before_itself p e = false≢true (sym (ap is_lt (tied_itself prefixes_total p)) ∙ e)

pub before_trans : (p q r : Prefix) → is_before p q ≡ true → is_before q r ≡ true → is_before p r ≡ true
before_trans p q r e f = ap is_lt (prefixes_total.trans p q r (less (prefix_cmp p q) e) (less (prefix_cmp q r) f))

pub type_itself : (u : Unknown) → is_type_before u u ≡ true → ⊥
type_itself u e = let l : u.kind < u.kind = ltb-true u.kind u.kind e in omega arith

pub type_trans : (u v w : Unknown) → is_type_before u v ≡ true → is_type_before v w ≡ true → is_type_before u w ≡ true
type_trans u v w e f =
    let a : u.kind < v.kind = ltb-true u.kind v.kind e in
    let b : v.kind < w.kind = ltb-true v.kind w.kind f in
    lt-ltb u.kind w.kind (omega arith)

one_ordered : (xs ys ps : List Prefix) → IsOrdered xs ps → IsOrdered ys ps → xs ≡ ys
one_ordered xs ys ps a b = rising_unique is_before before_itself before_trans xs ys a.rising b.rising (same_trans a.same (same_sym b.same))

one_without : (xs ys ps qs : List Prefix) → IsOrderedWithout xs ps qs → IsOrderedWithout ys ps qs → xs ≡ ys
one_without xs ys ps qs a b = rising_unique is_before before_itself before_trans xs ys a.rising b.rising (record { onto = λ p m. b.back p (a.onto p m); back = λ p m. a.back p (b.onto p m) })

one_said : (s : Said) (a b : Attrs) → AreSaid s a → AreSaid s b → a ≡ b
one_said s a b h k =
    let origin : a.origin ≡ b.origin = same_Some _ _ (sym h.origin ∙ k.origin) in
    let path : a.path ≡ b.path = same_Some _ _ (sym h.path ∙ k.path) in
    let next_hop : a.next_hop ≡ b.next_hop = same_Some _ _ (sym h.next_hop ∙ k.next_hop) in
    let med : a.med ≡ b.med = h.med ∙ sym k.med in
    let atomic : a.atomic ≡ b.atomic = h.atomic ∙ sym k.atomic in
    let aggregator : a.aggregator ≡ b.aggregator = h.aggregator ∙ sym k.aggregator in
    let communities : a.communities ≡ b.communities = h.communities ∙ sym k.communities in
    let partial : a.communities_partial ≡ b.communities_partial = h.communities_partial ∙ sym k.communities_partial in
    let unknown : a.unknown ≡ b.unknown = rising_unique is_type_before type_itself type_trans a.unknown b.unknown h.rising k.rising (same_trans h.same (same_sym k.same)) in
    λ i. record {
      origin = origin i;
      path = path i;
      next_hop = next_hop i;
      med = med i;
      atomic = atomic i;
      aggregator = aggregator i;
      communities = communities i;
      communities_partial = partial i;
      unknown = unknown i;
    }

one_attrs : (s : Said) (ps : List Prefix) (x y : Option Attrs) → AreAttrs s ps x → AreAttrs s ps y → x ≡ y
one_attrs s [] None None h k = refl
one_attrs s [] None (Some b) h k = absurd k
one_attrs s [] (Some a) y h k = absurd h
one_attrs s (p ∷ ps) None y h k = absurd h
one_attrs s (p ∷ ps) (Some a) None h k = absurd k
one_attrs s (p ∷ ps) (Some a) (Some b) h k = ap (λ (c : Attrs). Some c) (one_said s a b h k)

pub one_update : (parts : Parts) (u v : Update) → IsUpdateOf parts u → IsUpdateOf parts v → u ≡ v
one_update parts u v h k =
    let announced : u.announced ≡ v.announced = one_ordered _ _ _ h.announced k.announced in
    let withdrawn : u.withdrawn ≡ v.withdrawn = one_without _ _ _ _ h.withdrawn k.withdrawn in
    let attrs : u.attrs ≡ v.attrs = one_attrs _ _ _ _ h.attrs k.attrs in
    λ i. record { withdrawn = withdrawn i; attrs = attrs i; announced = announced i }
