-- The rules that a table would have have a number of at most 63 digits: there are only so many cubes, and so many pairs.
use Rattle.std.proofs.Common.{◌≡◌, ℕ, suc, ◌+◌, ◌*◌, ◌^◌, ◌<◌, ◌≤◌, List, [], ◌∷◌, inl, inr, length, map, refl, sym, ap, subst, arith}
use Rattle.std.specs.Prelude.{IfSome, Option, Some, None, sum_by}
use Rattle.std.specs.Option.{option_map_or}
use Rattle.std.proofs.lemmas.List.{length-map}
use Rattle.std.proofs.lemmas.List.Sums.{sum_by-cons}
use Rattle.net_types.proofs.OrderLemmas.{pairs_total}
use Rattle.net_types.proofs.OrderedLemmas.{ordered_rises, ordered_same}
use Rattle.net_types.proofs.PassLemmas.{place_member}
use Rattle.net_types.proofs.PrefixLemmas.{prefix_ext}
use Rattle.net_types.proofs.RisingLemmas.{before, before_itself, filter-Member, rising_once}
use Rattle.net_types.proofs.MeetLemmas.{meets-IsMeet}
use Rattle.net_types.proofs.SetLemmas.{map-Member, union-Member}
use Rattle.net_types.proofs.TieLemmas.{pair_tie}
use Rattle.net_types.proofs.WidthLemmas.{meets-HasNoRepeats, no_longer}
use Rattle.net_types.specs.Answers.{Policies}
use Rattle.net_types.specs.Cells.{cell_atoms}
use Rattle.net_types.specs.Cubes.{IsInRange}
use Rattle.net_types.specs.Keys.{pair_cmp}
use Rattle.net_types.specs.Meets.{IsMeet, meets}
use Rattle.net_types.specs.Routes.{numbers}
use Rattle.net_types.specs.Sets.{HasNoRepeats, Member}
use Rattle.net_types.specs.declared.address.PortNo.{PortNo}
use Rattle.net_types.specs.declared.address.Tag.{Tag}
use Rattle.net_types.specs.declared.cube.Cube.{Cube}
use Rattle.net_types.specs.declared.prefix.Prefix.{Prefix}
use Rattle.net_types.specs.declared.route.Part.{Part}
use Rattle.net_types.specs.declared.route.PortInfo.{PortInfo}
use Rattle.net_types.specs.declared.rule.Pair.{Pair}
use Rattle.events.specs.Fits.{cells}
use Rattle.events.specs.Sound.{owners_part}
use Rattle.events.specs.State.{State, ArePolicies}
use Rattle.events.specs.Tags.{is_live_pair, live_pairs, pairs, tags}
use Rattle.exchange_laws.proofs.Lists.{numbers_range}
use Rattle.exchange_laws.specs.Steady.{PortsAreNumbered}
use Rattle.text_laws.proofs.Numbers.{pair_is}
use Rattle.text_laws.proofs.Ranges.{cells_in_range}
use Rattle.text_laws.proofs.Rules.{cube_is}
use Rattle.net_types.proofs.FindLemmas.{length-numbers}

-- ---- lists without repeats

mapped_same : (xs : List ℕ) → map (λ n. n) xs ≡ xs
mapped_same [] = refl
mapped_same (x ∷ xs) = ap (λ ys. x ∷ ys) (mapped_same xs)

-- different numbers below another one are no more than it
few_below : (high : ℕ) (xs : List ℕ) → HasNoRepeats xs → ((x : ℕ) → Member x xs → x < high) → length xs ≤ high
few_below high xs differ below =
    subst (λ n. length xs ≤ n) (length-numbers 0 high)
    (no_longer xs (numbers 0 high) differ (λ x m. subst (λ ys. Member x ys) (mapped_same (numbers 0 high)) (place_member (λ n. n) 0 high x (omega arith) (let less = below x m in omega (arith, less)))))

module _ {A : Type 0} (code : A → ℕ) (P : A → Type 0) (tells : (x y : A) → P x → P y → code x ≡ code y → x ≡ y) where
  codes_differ : (xs : List A) → ((x : A) → Member x xs → P x) → HasNoRepeats xs → HasNoRepeats (map code xs)
  codes_differ [] has differ = tt
  codes_differ (x ∷ xs) has differ = (
    λ m. (let at = map-Member code xs (code x) m in
        differ.0 (subst (λ y. Member y xs) (sym (tells x at.of (has x (inl refl)) (has at.of (inr at.stands)) at.is)) at.stands)),
    codes_differ xs (λ y m. has y (inr m)) differ.1,
  )

  -- different values with numbers below another one are no more than it
  few_coded : (high : ℕ) → ((x : A) → P x → code x < high) → (xs : List A) → ((x : A) → Member x xs → P x) → HasNoRepeats xs → length xs ≤ high
  few_coded high low xs has differ =
      subst (λ n. n ≤ high) (length-map xs code) (few_below high (map code xs) (codes_differ xs has differ) (λ n m. let at = map-Member code xs n m in subst (λ k. k < high) (sym at.is) (low at.of (has at.of at.stands))))

-- ---- cubes

-- a prefix as a number below 2^38
prefix_code : Prefix → ℕ
prefix_code p = p.address.0 + 2 ^ 32 * p.len

module _ (p q : Prefix) where
  prefix_low : prefix_code p < 2 ^ 38
  unfolding prefix_code
  prefix_low = omega (arith, p.in_range, p.short)

  prefix_tells : prefix_code p ≡ prefix_code q → p ≡ q
  unfolding prefix_code
  prefix_tells e = prefix_ext p q (omega (arith, e, p.in_range, q.in_range)) (omega (arith, e, p.in_range, q.in_range))

-- an optional number below 2^16 as a number below 2^17
option_code : Option ℕ → ℕ
option_code None = 0
option_code (Some n) = n + 1

option_low : (o : Option ℕ) → IfSome o (λ n. n < 2 ^ 16) → option_code o < 2 ^ 17
unfolding option_code
option_low None is = omega arith
option_low (Some n) is = omega (arith, is)

option_tells : (o p : Option ℕ) → option_code o ≡ option_code p → o ≡ p
unfolding option_code
option_tells None None e = refl
option_tells None (Some n) e = absurd (omega (arith, e))
option_tells (Some m) None e = absurd (omega (arith, e))
option_tells (Some m) (Some n) e = ap Some (let same : m ≡ n = omega (arith, e) in same)

port_code : Option PortNo → ℕ
port_code None = 0
port_code (Some port) = port.0 + 1

port_low : (o : Option PortNo) → IfSome o (λ port. port.0 < 2 ^ 16) → port_code o < 2 ^ 17
unfolding port_code
port_low None is = omega arith
port_low (Some port) is = omega (arith, is)

port_tells : (o p : Option PortNo) → port_code o ≡ port_code p → o ≡ p
unfolding port_code
port_tells None None e = refl
port_tells None (Some n) e = absurd (omega (arith, e))
port_tells (Some m) None e = absurd (omega (arith, e))
port_tells (Some m) (Some n) e = ap (λ (k : ℕ). let port : PortNo = record { 0 = k } in Some port) (let same : m.0 ≡ n.0 = omega (arith, e) in same)

-- two numbers as one
wide : (x y m n : ℕ) → x < 2 ^ 38 → y < 2 ^ 38 → x + 2 ^ 38 * m ≡ y + 2 ^ 38 * n → (x ≡ y) × (m ≡ n)
wide x y m n low less e = (omega (arith, low, less, e), omega (arith, low, less, e))

narrow : (x y m n : ℕ) → x < 2 ^ 17 → y < 2 ^ 17 → x + 2 ^ 17 * m ≡ y + 2 ^ 17 * n → (x ≡ y) × (m ≡ n)
narrow x y m n low less e = (omega (arith, low, less, e), omega (arith, low, less, e))

numbered : ℕ → ℕ → ℕ → ℕ → ℕ → ℕ → ℕ
numbered a b c d e f = a + 2 ^ 38 * (b + 2 ^ 38 * (c + 2 ^ 17 * (d + 2 ^ 17 * (e + 2 ^ 17 * f))))

numbered_low : (a b c d e f : ℕ) → a < 2 ^ 38 → b < 2 ^ 38 → c < 2 ^ 17 → d < 2 ^ 17 → e < 2 ^ 17 → f < 2 ^ 17 → numbered a b c d e f < 2 ^ 144
unfolding numbered
numbered_low a b c d e f i j k l m n = omega (arith, i, j, k, l, m, n)

cube_code : Cube → ℕ
cube_code c = numbered (prefix_code c.src) (prefix_code c.dst) (option_code c.proto) (option_code c.sport) (option_code c.dport) (port_code c.inport)

in_16 : (o : Option ℕ) → IfSome o (λ n. n < 2 ^ 8) → IfSome o (λ n. n < 2 ^ 16)
in_16 None is = tt
in_16 (Some n) is = omega (arith, is)

module _ (c d : Cube) where
  cube_tells : IsInRange c → IsInRange d → cube_code c ≡ cube_code d → c ≡ d
  unfolding cube_code numbered
  cube_tells one two e =
      let src = wide (prefix_code c.src) (prefix_code d.src) _ _ (prefix_low c.src c.src) (prefix_low d.src d.src) e in
      let dst = wide (prefix_code c.dst) (prefix_code d.dst) _ _ (prefix_low c.dst c.dst) (prefix_low d.dst d.dst) src.1 in
      let proto = narrow (option_code c.proto) (option_code d.proto) _ _ (option_low c.proto (in_16 c.proto one.proto)) (option_low d.proto (in_16 d.proto two.proto)) dst.1 in
      let sport = narrow (option_code c.sport) (option_code d.sport) _ _ (option_low c.sport one.sport) (option_low d.sport two.sport) proto.1 in
      let dport = narrow (option_code c.dport) (option_code d.dport) _ _ (option_low c.dport one.dport) (option_low d.dport two.dport) sport.1 in
      cube_is c d (port_tells c.inport d.inport dport.1) (prefix_tells c.src d.src src.0) (prefix_tells c.dst d.dst dst.0) (option_tells c.proto d.proto proto.0) (option_tells c.sport d.sport sport.0) (option_tells c.dport d.dport dport.0)

cube_low : (c : Cube) → IsInRange c → cube_code c < 2 ^ 144
unfolding cube_code
cube_low c is =
    numbered_low (prefix_code c.src) (prefix_code c.dst) (option_code c.proto) (option_code c.sport) (option_code c.dport) (port_code c.inport) (prefix_low c.src c.src) (prefix_low c.dst c.dst)
    (option_low c.proto (in_16 c.proto is.proto)) (option_low c.sport is.sport) (option_low c.dport is.dport) (port_low c.inport is.inport)

few_meets : (cs : List Cube) → ((c : Cube) → IsMeet cs c → IsInRange c) → length (meets cs) ≤ 2 ^ 144
few_meets cs ranges = few_coded cube_code IsInRange cube_tells (2 ^ 144) cube_low (meets cs) (λ c m. ranges c (meets-IsMeet cs c m)) (meets-HasNoRepeats cs)

-- ---- pairs

-- a pair of a port and a tag that may be there
pub record IsSmall (pair : Pair) : Type 0 where
  pub port : pair.port.0 < 2 ^ 17
  pub tag : pair.tag.0 < 2 ^ 17

pair_code : Pair → ℕ
pair_code pair = pair.port.0 + 2 ^ 17 * pair.tag.0

pair_tells : (p q : Pair) → IsSmall p → IsSmall q → pair_code p ≡ pair_code q → p ≡ q
unfolding pair_code
pair_tells p q one two e = let is = narrow p.port.0 q.port.0 p.tag.0 q.tag.0 one.port two.port e in pair_is p q is.0 is.1

pair_low : (p : Pair) → IsSmall p → pair_code p < 2 ^ 34
unfolding pair_code
pair_low p is = omega (arith, is.port, is.tag)

module _ (s : State) (ports : PortsAreNumbered s.routing.ports) (size : s.size ≤ 65536) where
  pub small_pair : (pair : Pair) → Member pair (live_pairs s) → IsSmall pair
  small_pair pair m =
      let same = ordered_same pair_cmp pairs_total pair_tie in
      let listed = (filter-Member (is_live_pair s) (pairs s) pair ((same _).onto pair m)).stands in
      let at = union-Member (λ (q : PortInfo). map (λ t. let x : Pair = record { port = q.number; tag = t } in x) (tags s)) s.routing.ports pair listed in
      let tag = map-Member (λ t. let x : Pair = record { port = at.of.number; tag = t } in x) (tags s) pair at.gives in
      let port = ports at.of at.stands in
      let range = numbers_range (λ n. let t : Tag = record { 0 = n } in t) (λ t. t.0) (λ n. refl) 1 s.size tag.of tag.stands in
      record { port = subst (λ (x : Pair). x.port.0 < 2 ^ 17) (sym tag.is) (omega (arith, port.1)); tag = subst (λ (x : Pair). x.tag.0 < 2 ^ 17) (sym tag.is) (omega (arith, range.1, size)) }

  few_pairs : length (live_pairs s) ≤ 2 ^ 34
  few_pairs =
      few_coded pair_code IsSmall pair_tells (2 ^ 34) pair_low (live_pairs s) small_pair (rising_once (before pair_cmp) (before_itself pair_cmp pairs_total) (live_pairs s) (ordered_rises pair_cmp pairs_total pair_tie _))

  module _ (ps : Policies) (are : ArePolicies s ps) where
    few_cells : (pair : Pair) → cells ps s pair ≤ 2 ^ 144
    few_cells pair = by (owners_part s pair)
      where
        by : (o : Option Part) → option_map_or (λ (part : Part). length (meets (cell_atoms ps pair.port part))) o 0 ≤ 2 ^ 144
        by None = omega arith
        by (Some part) = few_meets (cell_atoms ps pair.port part) (cells_in_range s ps are pair.port part)

    few_step : (a b n : ℕ) → a ≤ 2 ^ 144 → b ≤ n * 2 ^ 144 → a + b ≤ suc n * 2 ^ 144
    few_step a b n one rest = omega (arith, one, rest)

    few_over : (ks : List Pair) → sum_by (cells ps s) ks ≤ length ks * 2 ^ 144
    few_over [] = omega arith
    few_over (k ∷ ks) = subst (λ n. n ≤ length (k ∷ ks) * 2 ^ 144) (sym (sum_by-cons (cells ps s) k ks)) (few_step (cells ps s k) (sum_by (cells ps s) ks) (length ks) (few_cells k) (few_over ks))

    -- all cells have a number of at most 63 digits
    pub cells_written : sum_by (cells ps s) (live_pairs s) < 10 ^ 63
    cells_written = let all = few_over (live_pairs s) in let few = few_pairs in omega (arith, all, few)
