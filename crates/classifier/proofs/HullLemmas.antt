-- What a cube that holds others tells of them.
use Rattle.std.proofs.Common.{◌≡◌, ℕ, Bool, true, false, ◌&&◌, Option, Some, None, List, [], ◌∷◌, refl, inl, inr, sym, ap, ◌∙◌}
use Rattle.std.specs.Prelude.{nat_eq}
use Rattle.std.specs.Cmp.Derive.{both_true}
use Rattle.std.proofs.lemmas.Bool.{cases_Bool, and_parts, eqb-true, false≢true}
use Rattle.net_types.specs.Cubes.{agrees, everything, has, lies_within_cube, meet_cubes, port_is, same_port}
use Rattle.net_types.specs.Prefixes.{covers, lies_within}
use Rattle.net_types.specs.declared.address.Ip.{Ip}
use Rattle.net_types.specs.declared.cube.Cube.{Cube}
use Rattle.net_types.specs.declared.headers.Headers.{Headers}
use Rattle.net_types.specs.declared.prefix.Prefix.{Prefix}
use Rattle.net_types.proofs.CubeLemmas.{any_prefix-covers, IsIn, fields-from_has, has-everything, has-from_fields, has-meet, has-within, has_option, option_ext, ports_exact, within-from_has, within_refl, within_trans}
use Rattle.net_types.proofs.PrefixLemmas.{within-covers}
use Rattle.classifier.specs.declared.line.Line.{Line}
use Rattle.classifier.specs.Hulls.{common_value, common_prefix, hull_cube, hull_with, holds_each}

-- ---- both lie within the cube that holds them

module _ {A X : Type 0} (same : A → A → Bool) (tie : (x y : A) → same x y ≡ true → x ≡ y) (fits : A → X → Bool) where
  value_left : (a b : Option A) (v : X) → agrees fits a v ≡ true → agrees fits (common_value same a b) v ≡ true
  value_left None b v h = refl
  value_left (Some x) None v h = refl
  value_left (Some x) (Some y) v h = elim (cases_Bool (same x y)) [
    | inl alike ↦ rw alike h
    | inr apart ↦ rw apart refl
  ]

  value_right : (a b : Option A) (v : X) → agrees fits b v ≡ true → agrees fits (common_value same a b) v ≡ true
  value_right None b v h = refl
  value_right (Some x) None v h = refl
  value_right (Some x) (Some y) v h = elim (cases_Bool (same x y)) [
    | inl alike ↦ rw alike (ap (λ z. fits z v) (tie x y alike) ∙ h)
    | inr apart ↦ rw apart refl
  ]

prefix_left : (p q : Prefix) (ip : Ip) → covers p ip ≡ true → covers (common_prefix p q) ip ≡ true
prefix_left p q ip h = elim (cases_Bool (lies_within p q)) [
  | inl inside ↦ rw inside (within-covers p q ip inside h)
  | inr outside ↦ rw outside (elim (cases_Bool (lies_within q p)) [
    | inl around ↦ rw around h
    | inr apart ↦ rw apart (any_prefix-covers ip)
  ])
]

prefix_right : (p q : Prefix) (ip : Ip) → covers q ip ≡ true → covers (common_prefix p q) ip ≡ true
prefix_right p q ip h = elim (cases_Bool (lies_within p q)) [
  | inl inside ↦ rw inside h
  | inr outside ↦ rw outside (elim (cases_Bool (lies_within q p)) [
    | inl around ↦ rw around (within-covers q p ip around h)
    | inr apart ↦ rw apart (any_prefix-covers ip)
  ])
]

pub numbers_tie : (x y : ℕ) → nat_eq x y ≡ true → x ≡ y
numbers_tie x y h = eqb-true x y h

hull_left : (a b : Cube) → lies_within_cube a (hull_cube a b) ≡ true
hull_left a b = within-from_has a (hull_cube a b) (λ h k. let i : IsIn a h = fields-from_has a h k in has-from_fields (hull_cube a b) h (record {
  inport = value_left same_port ports_exact same_port a.inport b.inport h.inport i.inport;
  src = prefix_left a.src b.src h.src i.src;
  dst = prefix_left a.dst b.dst h.dst i.dst;
  proto = value_left nat_eq numbers_tie nat_eq a.proto b.proto h.proto i.proto;
  sport = value_left nat_eq numbers_tie port_is a.sport b.sport h.sport i.sport;
  dport = value_left nat_eq numbers_tie port_is a.dport b.dport h.dport i.dport;
}))

hull_right : (a b : Cube) → lies_within_cube b (hull_cube a b) ≡ true
hull_right a b = within-from_has b (hull_cube a b) (λ h k. let i : IsIn b h = fields-from_has b h k in has-from_fields (hull_cube a b) h (record {
  inport = value_right same_port ports_exact same_port a.inport b.inport h.inport i.inport;
  src = prefix_right a.src b.src h.src i.src;
  dst = prefix_right a.dst b.dst h.dst i.dst;
  proto = value_right nat_eq numbers_tie nat_eq a.proto b.proto h.proto i.proto;
  sport = value_right nat_eq numbers_tie port_is a.sport b.sport h.sport i.sport;
  dport = value_right nat_eq numbers_tie port_is a.dport b.dport h.dport i.dport;
}))

-- the first cube lies within that which holds it and all of the others
hull_grows : (c : Cube) (xs : List Line) → lies_within_cube c (hull_with c xs) ≡ true
hull_grows c [] = within_refl c
hull_grows c (x ∷ xs) = within_trans c (hull_cube c x.cube) (hull_with c (x ∷ xs)) (hull_left c x.cube) (hull_grows (hull_cube c x.cube) xs)

pub hull_holds : (c : Cube) (xs : List Line) → holds_each (hull_with c xs) xs ≡ true
hull_holds c [] = refl
hull_holds c (x ∷ xs) =
    both_true (within_trans x.cube (hull_cube c x.cube) (hull_with c (x ∷ xs)) (hull_right c x.cube) (hull_grows (hull_cube c x.cube) xs)) (hull_holds (hull_cube c x.cube) xs)

pub everything_holds : (xs : List Line) → holds_each everything xs ≡ true
everything_holds [] = refl
everything_holds (x ∷ xs) = both_true (within-from_has x.cube everything (λ h _. has-everything h)) (everything_holds xs)

-- ---- what doesn't meet it meets none that it holds

-- what has headers in common with a cube has some in common with one that holds it
pub met_by_neither : (x y hull : Cube) → lies_within_cube y hull ≡ true → meet_cubes x hull ≡ None → meet_cubes x y ≡ None
met_by_neither x y hull inside none = option_ext (meet_cubes x y) None (λ h. has-meet x y h ∙ apart h)
  where
    apart : (h : Headers) → (has x h && has y h) ≡ false
    apart h = elim (cases_Bool (has x h && has y h)) [
      | inl both ↦
          let parts = and_parts (has x h) (has y h) both in
          absurd (false≢true (ap (λ o. has_option o h) (sym none) ∙ has-meet x hull h ∙ both_true parts.0 (has-within y hull h inside parts.1)))
      | inr not_both ↦ not_both
    ]
