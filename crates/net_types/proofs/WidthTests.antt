-- The test of how wide a policy is says what the relation says.
use Rattle.std.proofs.Common.{◌≡◌, ◌↔◌, ℕ, ◌<◌, Bool, true, false, cond, not, ◌||◌, nat_lt, nat_eq, List, [], ◌∷◌, filter, length, refl, inl, inr, sym, ap, ◌∙◌, arith}
use Rattle.std.specs.List.{list_any}
use Rattle.std.proofs.lemmas.Bool.{and_from, and_parts, eqb-true, or_cases, or_right, false≢true, lt-ltb, ltb-true}
use Rattle.net_types.specs.declared.address.Ip.{Ip}
use Rattle.net_types.specs.declared.headers.Assign.{Assign}
use Rattle.net_types.specs.Attributes.{same_ip, same_option}
use Rattle.net_types.specs.Maps.{each_once}
use Rattle.net_types.specs.Sets.{HasNoRepeats}
use Rattle.net_types.specs.Policies.{Policy, atoms, mods}
use Rattle.net_types.specs.Meets.{meets}
use Rattle.net_types.specs.Widths.{HasMoreThan, parts, IsTooWide, WidthIsTested, same_assign, is_wide_part, is_too_wide}
use Rattle.net_types.proofs.EqualLemmas.{IsEqualityTest, from_itself, nat_test, option_test}
use Rattle.net_types.proofs.FindLemmas.{IsFound, any_at}
use Rattle.net_types.proofs.RisingLemmas.{filter-Member, once_of, Member-once}
use Rattle.net_types.proofs.SameLemmas.{nat_itself, option_itself}
use Rattle.net_types.proofs.WidthLemmas.{no_longer}

-- ---- the different ones of a list

HasNoRepeats-filter : {A : Type 0} (keep : A → Bool) (xs : List A) → HasNoRepeats xs → HasNoRepeats (filter keep xs)
HasNoRepeats-filter keep [] d = d
HasNoRepeats-filter keep (x ∷ xs) d = by (keep x) (HasNoRepeats-filter keep xs d.1)
  where
    by : (b : Bool) → HasNoRepeats (filter keep xs) → HasNoRepeats (cond b (x ∷ filter keep xs) (filter keep xs))
    by true rest = (λ m. d.0 (filter-Member keep xs x m).stands, rest)
    by false rest = rest

module _ {A : Type 0} (same : A → A → Bool) (test : IsEqualityTest same) where
  once-HasNoRepeats : (xs : List A) → HasNoRepeats (each_once same xs)
  once-HasNoRepeats [] = tt
  once-HasNoRepeats (x ∷ xs) = (
    λ m. false≢true (sym (ap not ((test x x).1 refl)) ∙ (filter-Member (λ z. not (same x z)) (each_once same xs) x m).passes),
    HasNoRepeats-filter (λ z. not (same x z)) (each_once same xs) (once-HasNoRepeats xs),
  )

  -- a list has more than so many different members exactly where the different ones are more
  pub more-once : (n : ℕ) (xs : List A) → HasMoreThan n xs → n < length (each_once same xs)
  more-once n xs m = omega (arith, m.more, no_longer m.some (each_once same xs) m.differ (λ x k. Member-once same (λ y z. (test y z).0) xs x (m.stand x k)))

  pub once-more : (n : ℕ) (xs : List A) → n < length (each_once same xs) → HasMoreThan n xs
  once-more n xs more = record { some = each_once same xs; differ = once-HasNoRepeats xs; stand = once_of same xs; more = more }

-- ---- assignments

pub ip_right : (a b : Ip) → same_ip a b ≡ true → a ≡ b
ip_right a b e = let same = eqb-true a.0 b.0 e in λ i. record { 0 = same i }

ip_test : IsEqualityTest same_ip
ip_test = from_itself same_ip ip_right (λ a. nat_itself a.0)

assign_right : (a b : Assign) → same_assign a b ≡ true → a ≡ b
assign_right a b e =
    let one = and_parts (same_option same_ip a.src b.src) _ e in
    let two = and_parts (same_option same_ip a.dst b.dst) _ one.1 in
    let three = and_parts (same_option nat_eq a.sport b.sport) _ two.1 in
    let src = (option_test same_ip ip_test a.src b.src).0 one.0 in
    let dst = (option_test same_ip ip_test a.dst b.dst).0 two.0 in
    let sport = (option_test nat_eq nat_test a.sport b.sport).0 three.0 in
    let dport = (option_test nat_eq nat_test a.dport b.dport).0 three.1 in
    λ i. record { src = src i; dst = dst i; sport = sport i; dport = dport i }

assign_itself : (a : Assign) → same_assign a a ≡ true
assign_itself a =
    and_from _ _ (option_itself same_ip (λ x. nat_itself x.0) a.src)
    (and_from _ _ (option_itself same_ip (λ x. nat_itself x.0) a.dst)
    (and_from _ _ (option_itself nat_eq nat_itself a.sport) (option_itself nat_eq nat_itself a.dport)))

pub assign_test : IsEqualityTest same_assign
assign_test = from_itself same_assign assign_right assign_itself

-- ---- policies

pub any_found : {A : Type 0} (test : A → Bool) (xs : List A) → list_any test xs ≡ true → (x : A) × IsFound test xs x
any_found test [] e = absurd (false≢true e)
any_found test (x ∷ xs) e = elim (or_cases (test x) (list_any test xs) e) [
  | inl here ↦ (x, record { stands = inl refl; passes = here })
  | inr later ↦ let found = any_found test xs later in (found.0, record { stands = inr found.1.stands; passes = found.1.passes })
]

pub width_tested : WidthIsTested
width_tested p = (to, from)
  where
    to : is_too_wide p ≡ true → IsTooWide p
    to e = let found = any_found is_wide_part (parts p) e in record {
      part = found.0;
      stands = found.1.stands;
      wide = elim (or_cases (nat_lt 65536 (length (meets (atoms found.0)))) (nat_lt 1024 (length (each_once same_assign (mods found.0)))) found.1.passes) [
        | inl many ↦ inl (ltb-true 65536 (length (meets (atoms found.0))) many)
        | inr many ↦ inr (once-more same_assign assign_test 1024 (mods found.0) (ltb-true 1024 (length (each_once same_assign (mods found.0))) many))
      ];
    }

    from : IsTooWide p → is_too_wide p ≡ true
    from w = any_at is_wide_part (parts p) w.part w.stands (elim w.wide [
      | inl many ↦ ap (λ b. b || nat_lt 1024 (length (each_once same_assign (mods w.part)))) (lt-ltb 65536 (length (meets (atoms w.part))) many)
      | inr many ↦ or_right (nat_lt 65536 (length (meets (atoms w.part)))) _ (lt-ltb 1024 (length (each_once same_assign (mods w.part))) (more-once same_assign assign_test 1024 (mods w.part) many))
    ])

-- what is true exactly of policies that are too wide is the test
pub as_tested : (p : Policy) (wide : Bool) → (wide ≡ true ↔ IsTooWide p) → wide ≡ is_too_wide p
as_tested p wide is = by wide (is_too_wide p) is (width_tested p)
  where
    by : (a b : Bool) → (a ≡ true ↔ IsTooWide p) → (b ≡ true ↔ IsTooWide p) → a ≡ b
    by true b f g = sym (g.1 (f.0 refl))
    by false true f g = absurd (false≢true (f.1 (g.0 refl)))
    by false false f g = refl
