-- The longest prefix of a list that covers an address depends on the members of the list alone.
use Rattle.std.proofs.Common.{◌≡◌, ℕ, ◌≤◌, ◌<◌, Bool, true, false, cond, ◌||◌, List, [], ◌∷◌, inl, inr, sym, ap, subst, ◌∙◌, refl, arith}
use Rattle.std.specs.Prelude.{Option, Some, None, nat_lt}
use Rattle.std.specs.List.{list_any}
use Rattle.std.specs.Ordering.{eq_by_cmp}
use Rattle.std.specs.Cmp.{IsEquivalence}
use Rattle.std.proofs.lemmas.Bool.{and_parts, ltb-true, ltb-false, false≢true, or_right}
use Rattle.std.proofs.lemmas.Cmp.{eq_by_cmp_equiv}
use Rattle.net_types.proofs.OrderLemmas.{prefixes_total, prefix_tie}
use Rattle.net_types.proofs.PrefixLemmas.{both_cover, prefix_from_bits}
use Rattle.net_types.specs.Keys.{prefix_cmp}
use Rattle.net_types.specs.Prefixes.{covers}
use Rattle.net_types.specs.Routes.{longer, longest_of}
use Rattle.net_types.specs.Sets.{Member, SameMembers}
use Rattle.net_types.specs.declared.address.Ip.{Ip}
use Rattle.net_types.specs.declared.prefix.Prefix.{Prefix}

-- what is the longest of a list: none where no member covers the address, else a member that is no shorter than another
abbrev pub IsLongest : List Prefix → Ip → Option Prefix → Type 0
IsLongest ps d None = (q : Prefix) → Member q ps → covers q d ≡ false
IsLongest ps d (Some p) = Member p ps × (covers p d ≡ true) × ((q : Prefix) → Member q ps → covers q d ≡ true → q.len ≤ p.len)

longer_none : (p : Prefix) (ps : List Prefix) (d : Ip) (o : Option Prefix) → covers p d ≡ false → IsLongest ps d o → IsLongest (p ∷ ps) d o
longer_none p ps d None misses is = λ q at. first_or q at
  where
    first_or : (q : Prefix) → Member q (p ∷ ps) → covers q d ≡ false
    first_or q (inl same) = subst (λ x. covers x d ≡ false) (sym same) misses
    first_or q (inr later) = is q later
longer_none p ps d (Some best) misses is = (inr is.0, is.1, λ q at. first_or q at)
  where
    first_or : (q : Prefix) → Member q (p ∷ ps) → covers q d ≡ true → q.len ≤ best.len
    first_or q (inl same) hits = absurd (false≢true (sym misses ∙ ap (λ x. covers x d) (sym same) ∙ hits))
    first_or q (inr later) hits = is.2 q later hits

longer_some : (p : Prefix) (ps : List Prefix) (d : Ip) (o : Option Prefix) → covers p d ≡ true → IsLongest ps d o → IsLongest (p ∷ ps) d (longer (Some p) o)
longer_some p ps d None hits is = (inl refl, hits, λ q at. first_or q at)
  where
    first_or : (q : Prefix) → Member q (p ∷ ps) → covers q d ≡ true → q.len ≤ p.len
    first_or q (inl same) there = let e : q.len ≡ p.len = ap (λ (x : Prefix). x.len) same in omega arith
    first_or q (inr later) there = absurd (false≢true (sym (is q later) ∙ there))
longer_some p ps d (Some best) hits is = of_two (nat_lt p.len best.len) refl
  where
    within : (bound : ℕ) → p.len ≤ bound → best.len ≤ bound → (q : Prefix) → Member q (p ∷ ps) → covers q d ≡ true → q.len ≤ bound
    within bound h k q (inl same) there = let e : q.len ≡ p.len = ap (λ (x : Prefix). x.len) same in omega arith
    within bound h k q (inr later) there = let below : q.len ≤ best.len = is.2 q later there in omega arith

    of_two : (b : Bool) → nat_lt p.len best.len ≡ b → IsLongest (p ∷ ps) d (cond b (Some best) (Some p))
    of_two true less = let below : p.len < best.len = ltb-true _ _ less in (inr is.0, is.1, within best.len (omega arith) (omega arith))
    of_two false more = let above : best.len ≤ p.len = ltb-false _ _ more in (inl refl, hits, within p.len (omega arith) above)

-- one more prefix
one_more : (p : Prefix) (ps : List Prefix) (d : Ip) (b : Bool) → covers p d ≡ b → IsLongest ps d (longest_of ps d) → IsLongest (p ∷ ps) d (longer (cond b (Some p) None) (longest_of ps d))
one_more p ps d true hits is = longer_some p ps d (longest_of ps d) hits is
one_more p ps d false misses is = longer_none p ps d (longest_of ps d) misses is

pub is_longest : (ps : List Prefix) (d : Ip) → IsLongest ps d (longest_of ps d)
is_longest [] d = λ q at. absurd at
is_longest (p ∷ ps) d = one_more p ps d (covers p d) refl (is_longest ps d)

-- there is one longest
only_longest : (ps qs : List Prefix) (d : Ip) (o r : Option Prefix) → SameMembers ps qs → IsLongest ps d o → IsLongest qs d r → o ≡ r
only_longest ps qs d None None same is are = refl
only_longest ps qs d None (Some q) same is are = absurd (false≢true (sym (is q (same.back q are.0)) ∙ are.1))
only_longest ps qs d (Some p) None same is are = absurd (false≢true (sym (are p (same.onto p is.0)) ∙ is.1))
only_longest ps qs d (Some p) (Some q) same is are =
    let below : p.len ≤ q.len = are.2 p (same.onto p is.0) is.1 in
    let above : q.len ≤ p.len = is.2 q (same.back q are.0) are.1 in
    let alike : q.len ≡ p.len = omega arith in
    let parts = and_parts _ (covers q p.address) (both_cover p q d above is.1 are.1) in
    ap Some (sym (prefix_from_bits q p alike parts.1))

pub same_longest : (ps qs : List Prefix) (d : Ip) → SameMembers ps qs → longest_of ps d ≡ longest_of qs d
same_longest ps qs d same = only_longest ps qs d (longest_of ps d) (longest_of qs d) same (is_longest ps d) (is_longest qs d)

-- ---- members and the test that finds them

ties : IsEquivalence (eq_by_cmp prefix_cmp)
ties = eq_by_cmp_equiv prefixes_total

pub any-member : (ps : List Prefix) (p : Prefix) → list_any (eq_by_cmp prefix_cmp p) ps ≡ true → Member p ps
any-member [] p e = absurd (false≢true e)
any-member (q ∷ ps) p e = here_or (eq_by_cmp prefix_cmp p q) refl (any-member ps p) e
  where
    here_or : (b : Bool) → eq_by_cmp prefix_cmp p q ≡ b → (list_any (eq_by_cmp prefix_cmp p) ps ≡ true → Member p ps) → (b || list_any (eq_by_cmp prefix_cmp p) ps) ≡ true → Member p (q ∷ ps)
    here_or true tie later e = inl (prefix_tie p q tie)
    here_or false apart later e = inr (later e)

pub member-any : (ps : List Prefix) (p : Prefix) → Member p ps → list_any (eq_by_cmp prefix_cmp p) ps ≡ true
member-any [] p at = absurd at
member-any (q ∷ ps) p (inl same) = ap (λ b. b || list_any (eq_by_cmp prefix_cmp p) ps) (ap (eq_by_cmp prefix_cmp p) (sym same) ∙ ties.refl p)
member-any (q ∷ ps) p (inr later) = or_right (eq_by_cmp prefix_cmp p q) (list_any (eq_by_cmp prefix_cmp p) ps) (member-any ps p later)

-- lists in which the test finds the same have the same longest
pub same_longest_by_tests : (ps qs : List Prefix) (d : Ip) → ((p : Prefix) → list_any (eq_by_cmp prefix_cmp p) ps ≡ list_any (eq_by_cmp prefix_cmp p) qs) → longest_of ps d ≡ longest_of qs d
same_longest_by_tests ps qs d same = same_longest ps qs d (record {
  onto = λ p at. any-member qs p (sym (same p) ∙ member-any ps p at);
  back = λ p at. any-member ps p (same p ∙ member-any qs p at);
})
