-- What is asked is one where it is equal, field by field.
use Rattle.std.specs.Prelude.{◌≡◌, ℕ, nat_eq, Bool, true, ◌&&◌, Option}
use Rattle.std.specs.Option.{option_eq}
use Rattle.std.proofs.Common.{refl, ap}
use Rattle.std.proofs.lemmas.Bool.{and_parts, eqb-true, false≢true}
use Rattle.net_types.specs.declared.prefix.Prefix.{Prefix}
use Rattle.net_types.specs.declared.cube.Cube.{Cube}
use Rattle.net_types.specs.declared.headers.Assign.{Assign}
use Rattle.net_types.specs.declared.headers.Loc.{Loc}
use Rattle.net_types.specs.declared.headers.Loc.TheVariants.{Stay, To, Out, Nowhere}
use Rattle.net_types.specs.contracts.headers.LocPartialEq.TheImpl.{ghosts as derived}
use Rattle.net_types.specs.Attributes.{same_ip}
use Rattle.net_types.specs.Cubes.{same_port}
use Rattle.net_types.proofs.CubeLemmas.{ports_exact}
use Rattle.net_types.proofs.PrefixLemmas.{prefix_ext}
use Rattle.net_types.proofs.WidthTests.{ip_right}
use Rattle.classifier.specs.Gathered.{assign_eq}
use Rattle.classifier.proofs.ItemLemmas.{option_eq_exact}
use Rattle.policy_compile.specs.declared.columns.Pair.{Pair}
use Rattle.policy_compile.specs.declared.columns.Key.{Key}
use Rattle.policy_compile.specs.declared.stages.Tested.{Tested as Stage}

-- ---- the tests, field by field

abbrev prefix_eq : Prefix → Prefix → Bool
prefix_eq a b = nat_eq a.address.0 b.address.0 && nat_eq a.len b.len

abbrev cube_eq : Cube → Cube → Bool
cube_eq a b =
    option_eq same_port a.inport b.inport && (prefix_eq a.src b.src && (prefix_eq a.dst b.dst && (option_eq nat_eq a.proto b.proto && (option_eq nat_eq a.sport b.sport && option_eq nat_eq a.dport b.dport))))

-- ---- they are exact

values_exact : (a b : Option ℕ) → option_eq nat_eq a b ≡ true → a ≡ b
values_exact a b e = option_eq_exact nat_eq eqb-true a b e

assigns_exact : (a b : Assign) → assign_eq a b ≡ true → a ≡ b
assigns_exact a b e =
    let p1 = and_parts (option_eq same_ip a.src b.src) _ e in
    let p2 = and_parts (option_eq same_ip a.dst b.dst) _ p1.1 in
    let p3 = and_parts (option_eq nat_eq a.sport b.sport) _ p2.1 in
    let src = option_eq_exact same_ip ip_right a.src b.src p1.0 in
    let dst = option_eq_exact same_ip ip_right a.dst b.dst p2.0 in
    let sport = values_exact a.sport b.sport p3.0 in
    let dport = values_exact a.dport b.dport p3.1 in
    λ i. record { src = src i; dst = dst i; sport = sport i; dport = dport i }

prefixes_exact : (a b : Prefix) → prefix_eq a b ≡ true → a ≡ b
prefixes_exact a b e = let p = and_parts (nat_eq a.address.0 b.address.0) _ e in prefix_ext a b (eqb-true a.address.0 b.address.0 p.0) (eqb-true a.len b.len p.1)

pub cubes_exact : (a b : Cube) → cube_eq a b ≡ true → a ≡ b
cubes_exact a b e =
    let p1 = and_parts (option_eq same_port a.inport b.inport) _ e in
    let p2 = and_parts (prefix_eq a.src b.src) _ p1.1 in
    let p3 = and_parts (prefix_eq a.dst b.dst) _ p2.1 in
    let p4 = and_parts (option_eq nat_eq a.proto b.proto) _ p3.1 in
    let p5 = and_parts (option_eq nat_eq a.sport b.sport) _ p4.1 in
    let inport = option_eq_exact same_port ports_exact a.inport b.inport p1.0 in
    let src = prefixes_exact a.src b.src p2.0 in
    let dst = prefixes_exact a.dst b.dst p3.0 in
    let proto = values_exact a.proto b.proto p4.0 in
    let sport = values_exact a.sport b.sport p5.0 in
    let dport = values_exact a.dport b.dport p5.1 in
    λ i. record { inport = inport i; src = src i; dst = dst i; proto = proto i; sport = sport i; dport = dport i }

-- the test of locations is that which is derived
pub locs_exact : (x y : Loc) → derived.eq x y ≡ true → x ≡ y
locs_exact Stay Stay e = refl
locs_exact Stay (To y) e = absurd (false≢true e)
locs_exact Stay (Out y) e = absurd (false≢true e)
locs_exact Stay Nowhere e = absurd (false≢true e)
locs_exact (To x) Stay e = absurd (false≢true e)
locs_exact (To x) (To y) e = ap (λ n. To (record { 0 = n })) (eqb-true x.0 y.0 e)
locs_exact (To x) (Out y) e = absurd (false≢true e)
locs_exact (To x) Nowhere e = absurd (false≢true e)
locs_exact (Out x) Stay e = absurd (false≢true e)
locs_exact (Out x) (To y) e = absurd (false≢true e)
locs_exact (Out x) (Out y) e = ap (λ n. Out (record { 0 = n })) (eqb-true x.0 y.0 e)
locs_exact (Out x) Nowhere e = absurd (false≢true e)
locs_exact Nowhere Stay e = absurd (false≢true e)
locs_exact Nowhere (To y) e = absurd (false≢true e)
locs_exact Nowhere (Out y) e = absurd (false≢true e)
locs_exact Nowhere Nowhere e = refl

pub pair_exact : (a b : Pair) → (nat_eq a.first b.first && nat_eq a.second b.second) ≡ true → a ≡ b
pair_exact a b e =
    let p = and_parts (nat_eq a.first b.first) _ e in
    let first = eqb-true a.first b.first p.0 in
    let second = eqb-true a.second b.second p.1 in
    λ i. record { first = first i; second = second i }

pub key_exact : (a b : Key) → (assign_eq a.set b.set && nat_eq a.number b.number) ≡ true → a ≡ b
key_exact a b e =
    let p = and_parts (assign_eq a.set b.set) _ e in
    let set = assigns_exact a.set b.set p.0 in
    let number = eqb-true a.number b.number p.1 in
    λ i. record { set = set i; number = number i }

pub number_exact : (a b : ℕ) → nat_eq a b ≡ true → a ≡ b
number_exact a b e = eqb-true a b e

pub stage_exact : (a b : Stage) → (nat_eq a.places b.places && assign_eq a.set b.set) ≡ true → a ≡ b
stage_exact a b e =
    let p = and_parts (nat_eq a.places b.places) _ e in
    let places = eqb-true a.places b.places p.0 in
    let set = assigns_exact a.set b.set p.1 in
    λ i. record { places = places i; set = set i }
