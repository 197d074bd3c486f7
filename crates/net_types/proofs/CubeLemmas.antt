-- Laws of cubes: what they have, their meets, and that cubes with the same headers are equal.
use Rattle.std.proofs.Common.{◌≡◌, ℕ, ◌<◌, ◌^◌, Bool, true, false, eqb, ◌&&◌, cond, unwrap_or, IfSome, zero, suc, Option, Some, None, refl, inl, inr, sym, ap, ◌∙◌, arith}
use Rattle.std.proofs.lemmas.Bool.{eqb-true, eq-eqb, and_parts, and_from, cases_Bool, and_cases, false_from_ne_true, false≢true, ne_eqb}
use Rattle.std.specs.Option.{option_or}
use Rattle.net_types.specs.declared.address.Ip.{Ip}
use Rattle.net_types.specs.declared.address.PortNo.{PortNo}
use Rattle.net_types.specs.declared.prefix.Prefix.{Prefix}
use Rattle.net_types.specs.declared.headers.Headers.{Headers}
use Rattle.net_types.specs.declared.headers.Assign.{Assign}
use Rattle.net_types.specs.declared.cube.Cube.{Cube}
use Rattle.net_types.specs.Bits.{same_bits}
use Rattle.net_types.specs.Prefixes.{any_prefix, covers, lies_within, meet_prefixes}
use Rattle.net_types.specs.Headers.{apply, IsValid}
use Rattle.net_types.specs.Cubes.{IsInRange, agrees, port_is, same_port, has, everything, cube_of, meet_values, meet_cubes, pull_value, pull_prefix, pull_cube, within_values, lies_within_cube}
use Rattle.net_types.proofs.PrefixLemmas.{covers_option, covers-meet, same_bits_refl, within-covers, prefix_apart, prefix_antisym}
use Rattle.std.proofs.Math.Bool.{and-false, and-true, and_comm}

-- ---- tests

and_idem : (x : Bool) → (x && x) ≡ x
and_idem true = refl
and_idem false = refl

interchange : (a b c d : Bool) → ((a && b) && (c && d)) ≡ ((a && c) && (b && d))
interchange true true c d = refl
interchange true false true d = refl
interchange true false false d = refl
interchange false b c d = refl

-- ---- one field

-- an optional field, which nothing agrees with where there is none
abbrev pub agrees_option : {A X : Type 0} → (A → X → Bool) → Option (Option A) → X → Bool
agrees_option fits None x = false
agrees_option fits (Some wanted) x = agrees fits wanted x

-- what agrees with the meet agrees with both
values-meet : {A X : Type 0} (same : A → A → Bool) (fits : A → X → Bool) → ((v w : A) → same v w ≡ true → v ≡ w) → ((v w : A) (x : X) → fits v x ≡ true → fits w x ≡ true → same v w ≡ true) → (a b : Option A) (x : X) → agrees_option fits (meet_values same a b) x ≡ (agrees fits a x && agrees fits b x)
values-meet same fits exact joint None b x = refl
values-meet same fits exact joint (Some v) None x = sym (and-true (fits v x))
values-meet same fits exact joint (Some v) (Some w) x = elim (cases_Bool (same v w)) [
  | inl equal ↦ ap (λ t. agrees_option fits (cond t (Some (Some v)) None) x) equal ∙ sym (and_idem (fits v x)) ∙ ap (λ u. fits v x && fits u x) (exact v w equal)
  | inr other ↦ ap (λ t. agrees_option fits (cond t (Some (Some v)) None) x) other ∙ sym (false_from_ne_true _ (λ both.
      let parts = and_parts (fits v x) (fits w x) both in
      false≢true (sym other ∙ joint v w x parts.0 parts.1)))
]

numbers_joint : (v w x : ℕ) → eqb v x ≡ true → eqb w x ≡ true → eqb v w ≡ true
numbers_joint v w x h k = eq-eqb v w (eqb-true v x h ∙ sym (eqb-true w x k))

pub ports_exact : (v w : PortNo) → same_port v w ≡ true → v ≡ w
ports_exact v w h = ap (λ n. let p : PortNo = record { 0 = n } in p) (eqb-true v.0 w.0 h)

ports_joint : (v w x : PortNo) → same_port v x ≡ true → same_port w x ≡ true → same_port v w ≡ true
ports_joint v w x h k = numbers_joint v.0 w.0 x.0 h k

optional_joint : (v w : ℕ) (x : Option ℕ) → port_is v x ≡ true → port_is w x ≡ true → eqb v w ≡ true
optional_joint v w None h k = absurd (false≢true h)
optional_joint v w (Some x) h k = numbers_joint v w x h k

-- ---- whole cubes

-- what lies in an optional cube: nothing where there is none
abbrev pub has_option : Option Cube → Headers → Bool
has_option None h = false
has_option (Some c) h = has c h

has-cube_of : (inport : Option (Option PortNo)) (src dst : Option Prefix) (proto sport dport : Option (Option ℕ)) (h : Headers) → has_option (cube_of inport src dst proto sport dport) h ≡ (agrees_option same_port inport h.inport && (covers_option src h.src && (covers_option dst h.dst && (agrees_option eqb proto h.proto && (agrees_option port_is sport h.sport && agrees_option port_is dport h.dport)))))
unfolding has
has-cube_of None src dst proto sport dport h = refl
has-cube_of (Some i) None dst proto sport dport h = sym (and-false _)
has-cube_of (Some i) (Some s) None proto sport dport h = simp and-false
has-cube_of (Some i) (Some s) (Some d) None sport dport h = simp and-false
has-cube_of (Some i) (Some s) (Some d) (Some p) None dport h = simp and-false
has-cube_of (Some i) (Some s) (Some d) (Some p) (Some sp) None h = simp and-false
has-cube_of (Some i) (Some s) (Some d) (Some p) (Some sp) (Some dp) h = refl

interchange6 : (a b c d e f a' b' c' d' e' f' : Bool) → ((a && a') && ((b && b') && ((c && c') && ((d && d') && ((e && e') && (f && f')))))) ≡ ((a && (b && (c && (d && (e && f))))) && (a' && (b' && (c' && (d' && (e' && f'))))))
interchange6 a b c d e f a' b' c' d' e' f' =
    rw (interchange e e' f f', interchange d d' (e && f) (e' && f'), interchange c c' (d && (e && f)) (d' && (e' && f')), interchange b b' (c && (d && (e && f))) (c' && (d' && (e' && f'))), interchange a a' (b && (c && (d && (e && f)))) (b' && (c' && (d' && (e' && f')))))

-- the headers of the meet are those of both
pub has-meet : (a b : Cube) (h : Headers) → has_option (meet_cubes a b) h ≡ (has a h && has b h)
unfolding has meet_cubes
has-meet a b h =
    has-cube_of (meet_values same_port a.inport b.inport) (meet_prefixes a.src b.src) (meet_prefixes a.dst b.dst) (meet_values eqb a.proto b.proto) (meet_values eqb a.sport b.sport) (meet_values eqb a.dport b.dport) h
    ∙ rw (
      values-meet same_port same_port ports_exact ports_joint a.inport b.inport h.inport,
      covers-meet a.src b.src h.src,
      covers-meet a.dst b.dst h.dst,
      values-meet eqb eqb eqb-true numbers_joint a.proto b.proto h.proto,
      values-meet eqb port_is eqb-true optional_joint a.sport b.sport h.sport,
      values-meet eqb port_is eqb-true optional_joint a.dport b.dport h.dport,
    ) (interchange6 (agrees same_port a.inport h.inport) (covers a.src h.src) (covers a.dst h.dst) (agrees eqb a.proto h.proto) (agrees port_is a.sport h.sport) (agrees port_is a.dport h.dport) (agrees same_port b.inport h.inport) (covers b.src h.src) (covers b.dst h.dst) (agrees eqb b.proto h.proto) (agrees port_is b.sport h.sport) (agrees port_is b.dport h.dport))

-- ---- behind an assignment

value-pull : (set wanted : Option ℕ) (x : Option ℕ) → agrees_option port_is (pull_value set wanted) x ≡ agrees port_is wanted (option_or set x)
value-pull None wanted x = refl
value-pull (Some v) None x = refl
value-pull (Some v) (Some w) x = elim (cases_Bool (eqb w v)) [
  | inl equal ↦ rw equal refl
  | inr other ↦ rw other refl
]

pub any_prefix-covers : (x : Ip) → covers any_prefix x ≡ true
unfolding same_bits
any_prefix-covers x = refl

prefix-pull : (set : Option Ip) (p : Prefix) (x : Ip) → covers_option (pull_prefix set p) x ≡ covers p (unwrap_or set x)
prefix-pull None p x = refl
prefix-pull (Some v) p x = elim (cases_Bool (covers p v)) [
  | inl inside ↦ ap (λ b. covers_option (cond b (Some any_prefix) None) x) inside ∙ any_prefix-covers x ∙ sym inside
  | inr outside ↦ ap (λ b. covers_option (cond b (Some any_prefix) None) x) outside ∙ sym outside
]

-- the headers of the cube behind an assignment are those that the assignment takes into the cube
pub has-pull : (c : Cube) (set : Assign) (h : Headers) → has_option (pull_cube c set) h ≡ has c (apply set h)
unfolding has pull_cube
has-pull c set h =
    has-cube_of (Some c.inport) (pull_prefix set.src c.src) (pull_prefix set.dst c.dst) (Some c.proto) (pull_value set.sport c.sport) (pull_value set.dport c.dport) h
    ∙ rw (
      prefix-pull set.src c.src h.src,
      prefix-pull set.dst c.dst h.dst,
      value-pull set.sport c.sport h.sport,
      value-pull set.dport c.dport h.dport,
    ) refl

pub has-everything : (h : Headers) → has everything h ≡ true
unfolding has same_bits
has-everything h = refl

-- ---- headers in one cube and not in another

-- the headers lie in the cube, field by field
pub record IsIn (c : Cube) (h : Headers) : Type 0 where
  pub inport : agrees same_port c.inport h.inport ≡ true
  pub src : covers c.src h.src ≡ true
  pub dst : covers c.dst h.dst ≡ true
  pub proto : agrees eqb c.proto h.proto ≡ true
  pub sport : agrees port_is c.sport h.sport ≡ true
  pub dport : agrees port_is c.dport h.dport ≡ true

pub has-from_fields : (c : Cube) (h : Headers) → IsIn c h → has c h ≡ true
unfolding has
has-from_fields c h f = and_from _ _ f.inport (and_from _ _ f.src (and_from _ _ f.dst (and_from _ _ f.proto (and_from _ _ f.sport f.dport))))

pub fields-from_has : (c : Cube) (h : Headers) → has c h ≡ true → IsIn c h
unfolding has
fields-from_has c h e =
    let a = and_parts (agrees same_port c.inport h.inport) (covers c.src h.src && (covers c.dst h.dst && (agrees eqb c.proto h.proto && (agrees port_is c.sport h.sport && agrees port_is c.dport h.dport)))) e in
    let b = and_parts (covers c.src h.src) (covers c.dst h.dst && (agrees eqb c.proto h.proto && (agrees port_is c.sport h.sport && agrees port_is c.dport h.dport))) a.1 in
    let d = and_parts (covers c.dst h.dst) (agrees eqb c.proto h.proto && (agrees port_is c.sport h.sport && agrees port_is c.dport h.dport)) b.1 in
    let f = and_parts (agrees eqb c.proto h.proto) (agrees port_is c.sport h.sport && agrees port_is c.dport h.dport) d.1 in
    let g = and_parts (agrees port_is c.sport h.sport) (agrees port_is c.dport h.dport) f.1 in
    record { inport = a.0; src = b.0; dst = d.0; proto = f.0; sport = g.0; dport = g.1 }

-- a value that agrees with a field, below a bound where the field's value is
record Value {A X : Type 0} (fits : A → X → Bool) (a : Option A) (fine : A → Type 0) (good : X → Type 0) : Type 0 where
  value : X
  fit : agrees fits a value ≡ true
  ok : IfSome a fine → good value

-- and that disagrees with another field
record Apart {A X : Type 0} (fits : A → X → Bool) (a b : Option A) (fine : A → Type 0) (good : X → Type 0) : Type 0 where
  value : X
  fit : agrees fits a value ≡ true
  misfit : agrees fits b value ≡ false
  ok : IfSome a fine → good value

some_number : (bound : ℕ) → 1 < bound → (a : Option ℕ) → Value eqb a (λ n. n < bound) (λ n. n < bound)
some_number bound large None = record { value = 0; fit = refl; ok = λ _. omega arith }
some_number bound large (Some v) = record { value = v; fit = eq-eqb v v refl; ok = λ h. h }

-- 0 or 1, whichever the number isn't
other_than : (v : ℕ) → (x : ℕ) × (x < 2) × (eqb v x ≡ false)
other_than zero = (1, omega arith, refl)
other_than (suc v) = (0, omega arith, ne_eqb (suc v) 0 (λ e. omega arith))

number_apart : (bound : ℕ) → 1 < bound → (a b : Option ℕ) → within_values eqb a b ≡ false → Apart eqb a b (λ n. n < bound) (λ n. n < bound)
number_apart bound large a None h = absurd (false≢true (sym h ∙ within_any a))
  where
    within_any : (a : Option ℕ) → within_values eqb a None ≡ true
    within_any a = refl
number_apart bound large None (Some w) h = let other = other_than w in record { value = other.0; fit = refl; misfit = other.2; ok = λ _. omega (arith, other.1) }
number_apart bound large (Some v) (Some w) h = record { value = v; fit = eq-eqb v v refl; misfit = ne_eqb w v (λ e. false≢true (sym h ∙ eq-eqb v w (sym e))); ok = λ k. k }

some_port : (a : Option ℕ) → Value port_is a (λ n. n < 2 ^ 16) (λ x. IfSome x (λ n. n < 2 ^ 16))
some_port None = record { value = None; fit = refl; ok = λ _. tt }
some_port (Some v) = record { value = Some v; fit = eq-eqb v v refl; ok = λ h. h }

port_apart : (a b : Option ℕ) → within_values eqb a b ≡ false → Apart port_is a b (λ n. n < 2 ^ 16) (λ x. IfSome x (λ n. n < 2 ^ 16))
port_apart None None h = absurd (false≢true (sym h))
port_apart (Some v) None h = absurd (false≢true (sym h))
port_apart None (Some w) h = record { value = None; fit = refl; misfit = refl; ok = λ _. tt }
port_apart (Some v) (Some w) h = record { value = Some v; fit = eq-eqb v v refl; misfit = ne_eqb w v (λ e. false≢true (sym h ∙ eq-eqb v w (sym e))); ok = λ k. k }

some_inport : (a : Option PortNo) → Value same_port a (λ p. p.0 < 2 ^ 16) (λ p. p.0 < 2 ^ 16)
some_inport None = record { value = record { 0 = 0 }; fit = refl; ok = λ _. omega arith }
some_inport (Some v) = record { value = v; fit = eq-eqb v.0 v.0 refl; ok = λ h. h }

inport_apart : (a b : Option PortNo) → within_values same_port a b ≡ false → Apart same_port a b (λ p. p.0 < 2 ^ 16) (λ p. p.0 < 2 ^ 16)
inport_apart None None h = absurd (false≢true (sym h))
inport_apart (Some v) None h = absurd (false≢true (sym h))
inport_apart None (Some w) h = let other = other_than w.0 in record { value = record { 0 = other.0 }; fit = refl; misfit = other.2; ok = λ _. omega (arith, other.1) }
inport_apart (Some v) (Some w) h = record { value = v; fit = eq-eqb v.0 v.0 refl; misfit = ne_eqb w.0 v.0 (λ e. false≢true (sym h ∙ eq-eqb v.0 w.0 (sym e))); ok = λ k. k }

-- ---- whole headers

-- a value for each field, that it agrees with
record Chosen (c : Cube) : Type 0 where
  inport : Value same_port c.inport (λ p. p.0 < 2 ^ 16) (λ p. p.0 < 2 ^ 16)
  proto : Value eqb c.proto (λ n. n < 2 ^ 8) (λ n. n < 2 ^ 8)
  sport : Value port_is c.sport (λ n. n < 2 ^ 16) (λ x. IfSome x (λ n. n < 2 ^ 16))
  dport : Value port_is c.dport (λ n. n < 2 ^ 16) (λ x. IfSome x (λ n. n < 2 ^ 16))

chosen : (c : Cube) → Chosen c
chosen c = record { inport = some_inport c.inport; proto = some_number (2 ^ 8) (omega arith) c.proto; sport = some_port c.sport; dport = some_port c.dport }

-- headers in a cube, which are valid where its values are in range
pub record Witness (c : Cube) : Type 0 where
  pub headers : Headers
  pub inside : has c headers ≡ true
  pub valid : IsInRange c → IsValid headers

-- headers of one cube and not of another
pub record Separates (a b : Cube) : Type 0 where
  pub headers : Headers
  pub inside : has a headers ≡ true
  pub outside : has b headers ≡ false
  pub valid : IsInRange a → IsValid headers

pub witness : (c : Cube) → Witness c
unfolding chosen
witness c =
    let v = chosen c in
    record {
      headers = record { inport = v.inport.value; src = c.src.address; dst = c.dst.address; proto = v.proto.value; sport = v.sport.value; dport = v.dport.value };
      inside = has-from_fields c _ (record { inport = v.inport.fit; src = same_bits_refl c.src.len c.src.address.0; dst = same_bits_refl c.dst.len c.dst.address.0; proto = v.proto.fit; sport = v.sport.fit; dport = v.dport.fit });
      valid = λ r. record { inport = v.inport.ok r.inport; src = c.src.in_range; dst = c.dst.in_range; proto = v.proto.ok r.proto; sport = v.sport.ok r.sport; dport = v.dport.ok r.dport };
    }

module _ (a b : Cube) where
  -- headers of the first cube, and what the second says of them
  made_apart : (h : Headers) → IsIn a h → (IsIn b h → ⊥) → (IsInRange a → IsValid h) → Separates a b
  made_apart h inside outside valid = record {
    headers = h;
    inside = has-from_fields a h inside;
    outside = false_from_ne_true _ (λ e. outside (fields-from_has b h e));
    valid = valid;
  }

-- where one cube doesn't lie within another, some headers tell them apart
pub cubes_apart : (a b : Cube) → lies_within_cube a b ≡ false → Separates a b
unfolding lies_within_cube chosen
cubes_apart a b h =
    let v = chosen a in
    let src_in = same_bits_refl a.src.len a.src.address.0 in
    let dst_in = same_bits_refl a.dst.len a.dst.address.0 in
    elim (and_cases (within_values same_port a.inport b.inport) _ h) [
      | inl i ↦ let x = inport_apart a.inport b.inport i in made_apart a b
          (record { inport = x.value; src = a.src.address; dst = a.dst.address; proto = v.proto.value; sport = v.sport.value; dport = v.dport.value })
          (record { inport = x.fit; src = src_in; dst = dst_in; proto = v.proto.fit; sport = v.sport.fit; dport = v.dport.fit })
          (λ f. false≢true (sym x.misfit ∙ f.inport))
          (λ r. record { inport = x.ok r.inport; src = a.src.in_range; dst = a.dst.in_range; proto = v.proto.ok r.proto; sport = v.sport.ok r.sport; dport = v.dport.ok r.dport })
      | inr h ↦ elim (and_cases (lies_within a.src b.src) _ h) [
        | inl i ↦ let x = prefix_apart a.src b.src i in made_apart a b
            (record { inport = v.inport.value; src = x.address; dst = a.dst.address; proto = v.proto.value; sport = v.sport.value; dport = v.dport.value })
            (record { inport = v.inport.fit; src = x.inside; dst = dst_in; proto = v.proto.fit; sport = v.sport.fit; dport = v.dport.fit })
            (λ f. false≢true (sym x.outside ∙ f.src))
            (λ r. record { inport = v.inport.ok r.inport; src = x.fits; dst = a.dst.in_range; proto = v.proto.ok r.proto; sport = v.sport.ok r.sport; dport = v.dport.ok r.dport })
        | inr h ↦ elim (and_cases (lies_within a.dst b.dst) _ h) [
          | inl i ↦ let x = prefix_apart a.dst b.dst i in made_apart a b
              (record { inport = v.inport.value; src = a.src.address; dst = x.address; proto = v.proto.value; sport = v.sport.value; dport = v.dport.value })
              (record { inport = v.inport.fit; src = src_in; dst = x.inside; proto = v.proto.fit; sport = v.sport.fit; dport = v.dport.fit })
              (λ f. false≢true (sym x.outside ∙ f.dst))
              (λ r. record { inport = v.inport.ok r.inport; src = a.src.in_range; dst = x.fits; proto = v.proto.ok r.proto; sport = v.sport.ok r.sport; dport = v.dport.ok r.dport })
          | inr h ↦ elim (and_cases (within_values eqb a.proto b.proto) _ h) [
            | inl i ↦ let x = number_apart (2 ^ 8) (omega arith) a.proto b.proto i in made_apart a b
                (record { inport = v.inport.value; src = a.src.address; dst = a.dst.address; proto = x.value; sport = v.sport.value; dport = v.dport.value })
                (record { inport = v.inport.fit; src = src_in; dst = dst_in; proto = x.fit; sport = v.sport.fit; dport = v.dport.fit })
                (λ f. false≢true (sym x.misfit ∙ f.proto))
                (λ r. record { inport = v.inport.ok r.inport; src = a.src.in_range; dst = a.dst.in_range; proto = x.ok r.proto; sport = v.sport.ok r.sport; dport = v.dport.ok r.dport })
            | inr h ↦ elim (and_cases (within_values eqb a.sport b.sport) _ h) [
              | inl i ↦ let x = port_apart a.sport b.sport i in made_apart a b
                  (record { inport = v.inport.value; src = a.src.address; dst = a.dst.address; proto = v.proto.value; sport = x.value; dport = v.dport.value })
                  (record { inport = v.inport.fit; src = src_in; dst = dst_in; proto = v.proto.fit; sport = x.fit; dport = v.dport.fit })
                  (λ f. false≢true (sym x.misfit ∙ f.sport))
                  (λ r. record { inport = v.inport.ok r.inport; src = a.src.in_range; dst = a.dst.in_range; proto = v.proto.ok r.proto; sport = x.ok r.sport; dport = v.dport.ok r.dport })
              | inr i ↦ let x = port_apart a.dport b.dport i in made_apart a b
                  (record { inport = v.inport.value; src = a.src.address; dst = a.dst.address; proto = v.proto.value; sport = v.sport.value; dport = x.value })
                  (record { inport = v.inport.fit; src = src_in; dst = dst_in; proto = v.proto.fit; sport = v.sport.fit; dport = x.fit })
                  (λ f. false≢true (sym x.misfit ∙ f.dport))
                  (λ r. record { inport = v.inport.ok r.inport; src = a.src.in_range; dst = a.dst.in_range; proto = v.proto.ok r.proto; sport = v.sport.ok r.sport; dport = x.ok r.dport })
            ]
          ]
        ]
      ]
    ]

-- ---- the laws of cubes, from the sets of their headers

-- each value that agrees with a field agrees with a wider one
values_within : {A X : Type 0} (same : A → A → Bool) (fits : A → X → Bool) → ((v w : A) → same v w ≡ true → v ≡ w) → (a b : Option A) (x : X) → within_values same a b ≡ true → agrees fits a x ≡ true → agrees fits b x ≡ true
values_within same fits exact a None x h k = refl
values_within same fits exact None (Some w) x h k = absurd (false≢true h)
values_within same fits exact (Some v) (Some w) x h k = ap (λ u. fits u x) (sym (exact v w h)) ∙ k

values_antisym : {A : Type 0} (same : A → A → Bool) → ((v w : A) → same v w ≡ true → v ≡ w) → (a b : Option A) → within_values same a b ≡ true → within_values same b a ≡ true → a ≡ b
values_antisym same exact None None h k = refl
values_antisym same exact (Some v) None h k = absurd (false≢true k)
values_antisym same exact None (Some w) h k = absurd (false≢true h)
values_antisym same exact (Some v) (Some w) h k = ap Some (exact v w h)

-- one cube lies within another, field by field
record Fields (a b : Cube) : Type 0 where
  inport : within_values same_port a.inport b.inport ≡ true
  src : lies_within a.src b.src ≡ true
  dst : lies_within a.dst b.dst ≡ true
  proto : within_values eqb a.proto b.proto ≡ true
  sport : within_values eqb a.sport b.sport ≡ true
  dport : within_values eqb a.dport b.dport ≡ true

fields-within : (a b : Cube) → lies_within_cube a b ≡ true → Fields a b
unfolding lies_within_cube
fields-within a b h =
    let i = and_parts (within_values same_port a.inport b.inport) (lies_within a.src b.src && (lies_within a.dst b.dst && (within_values eqb a.proto b.proto && (within_values eqb a.sport b.sport && within_values eqb a.dport b.dport)))) h in
    let s = and_parts (lies_within a.src b.src) (lies_within a.dst b.dst && (within_values eqb a.proto b.proto && (within_values eqb a.sport b.sport && within_values eqb a.dport b.dport))) i.1 in
    let d = and_parts (lies_within a.dst b.dst) (within_values eqb a.proto b.proto && (within_values eqb a.sport b.sport && within_values eqb a.dport b.dport)) s.1 in
    let p = and_parts (within_values eqb a.proto b.proto) (within_values eqb a.sport b.sport && within_values eqb a.dport b.dport) d.1 in
    let o = and_parts (within_values eqb a.sport b.sport) (within_values eqb a.dport b.dport) p.1 in
    record { inport = i.0; src = s.0; dst = d.0; proto = p.0; sport = o.0; dport = o.1 }

-- what lies in a cube lies in each cube that it lies within
pub has-within : (a b : Cube) (h : Headers) → lies_within_cube a b ≡ true → has a h ≡ true → has b h ≡ true
has-within a b h within inside =
    let w = fields-within a b within in
    let f = fields-from_has a h inside in
    has-from_fields b h (record {
      inport = values_within same_port same_port ports_exact a.inport b.inport h.inport w.inport f.inport;
      src = within-covers a.src b.src h.src w.src f.src;
      dst = within-covers a.dst b.dst h.dst w.dst f.dst;
      proto = values_within eqb eqb eqb-true a.proto b.proto h.proto w.proto f.proto;
      sport = values_within eqb port_is eqb-true a.sport b.sport h.sport w.sport f.sport;
      dport = values_within eqb port_is eqb-true a.dport b.dport h.dport w.dport f.dport;
    })

-- a cube whose headers all lie in another lies within it
pub within-from_has : (a b : Cube) → ((h : Headers) → has a h ≡ true → has b h ≡ true) → lies_within_cube a b ≡ true
within-from_has a b subset = elim (cases_Bool (lies_within_cube a b)) [
  | inl inside ↦ inside
  | inr outside ↦ let s = cubes_apart a b outside in absurd (false≢true (sym s.outside ∙ subset s.headers s.inside))
]

abbrev pub built : Option PortNo → Prefix → Prefix → Option ℕ → Option ℕ → Option ℕ → Cube
built inport src dst proto sport dport = record { inport = inport; src = src; dst = dst; proto = proto; sport = sport; dport = dport }

-- cubes that lie within each other are one
pub cubes_antisym : (a b : Cube) → lies_within_cube a b ≡ true → lies_within_cube b a ≡ true → a ≡ b
cubes_antisym a b h k =
    let f = fields-within a b h in
    let g = fields-within b a k in
    let inport : a.inport ≡ b.inport = values_antisym same_port ports_exact a.inport b.inport f.inport g.inport in
    let src : a.src ≡ b.src = prefix_antisym a.src b.src f.src g.src in
    let dst : a.dst ≡ b.dst = prefix_antisym a.dst b.dst f.dst g.dst in
    let proto : a.proto ≡ b.proto = values_antisym eqb eqb-true a.proto b.proto f.proto g.proto in
    let sport : a.sport ≡ b.sport = values_antisym eqb eqb-true a.sport b.sport f.sport g.sport in
    let dport : a.dport ≡ b.dport = values_antisym eqb eqb-true a.dport b.dport f.dport g.dport in
    ap (λ x. built x a.src a.dst a.proto a.sport a.dport) inport
    ∙ ap (λ x. built b.inport x a.dst a.proto a.sport a.dport) src
    ∙ ap (λ x. built b.inport b.src x a.proto a.sport a.dport) dst
    ∙ ap (λ x. built b.inport b.src b.dst x a.sport a.dport) proto
    ∙ ap (λ x. built b.inport b.src b.dst b.proto x a.dport) sport
    ∙ ap (λ x. built b.inport b.src b.dst b.proto b.sport x) dport

-- cubes of the same headers are one
pub cube_ext : (a b : Cube) → ((h : Headers) → has a h ≡ has b h) → a ≡ b
cube_ext a b same = cubes_antisym a b (within-from_has a b (λ h k. sym (same h) ∙ k)) (within-from_has b a (λ h k. same h ∙ k))

pub option_ext : (a b : Option Cube) → ((h : Headers) → has_option a h ≡ has_option b h) → a ≡ b
option_ext None None same = refl
option_ext (Some a) None same = let w = witness a in absurd (false≢true (sym (same w.headers) ∙ w.inside))
option_ext None (Some b) same = let w = witness b in absurd (false≢true (same w.headers ∙ w.inside))
option_ext (Some a) (Some b) same = ap Some (cube_ext a b same)

-- an optional cube that has headers is there
pub some_from_has : (o : Option Cube) (h : Headers) → has_option o h ≡ true → (c : Cube) × (o ≡ Some c)
some_from_has None h e = absurd (false≢true e)
some_from_has (Some c) h e = (c, refl)

pub meet_comm : (a b : Cube) → meet_cubes a b ≡ meet_cubes b a
meet_comm a b = option_ext _ _ (λ h. has-meet a b h ∙ and_comm (has a h) (has b h) ∙ sym (has-meet b a h))

pub meet-everything : (a : Cube) → meet_cubes a everything ≡ Some a
meet-everything a = option_ext _ (Some a) (λ h. has-meet a everything h ∙ ap (λ t. has a h && t) (has-everything h) ∙ and-true (has a h))

pub meet_same : (a : Cube) → meet_cubes a a ≡ Some a
meet_same a = option_ext _ (Some a) (λ h. has-meet a a h ∙ and_idem (has a h))

-- the headers of a meet that is there
pub has-met : (a b c : Cube) (h : Headers) → meet_cubes a b ≡ Some c → has c h ≡ (has a h && has b h)
has-met a b c h e = sym (ap (λ o. has_option o h) e) ∙ has-meet a b h

pub has-pulled : (a c : Cube) (set : Assign) (h : Headers) → pull_cube a set ≡ Some c → has c h ≡ has a (apply set h)
has-pulled a c set h e = sym (ap (λ o. has_option o h) e) ∙ has-pull a set h

pub pull-everything : (set : Assign) → pull_cube everything set ≡ Some everything
pull-everything set = option_ext _ (Some everything) (λ h. has-pull everything set h ∙ has-everything (apply set h) ∙ sym (has-everything h))

pub within_refl : (a : Cube) → lies_within_cube a a ≡ true
within_refl a = within-from_has a a (λ h k. k)

pub within_trans : (a b c : Cube) → lies_within_cube a b ≡ true → lies_within_cube b c ≡ true → lies_within_cube a c ≡ true
within_trans a b c h k = within-from_has a c (λ x i. has-within b c x k (has-within a b x h i))
