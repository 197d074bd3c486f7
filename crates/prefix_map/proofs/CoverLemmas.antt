-- The longest entry that covers an address, by how long those are at most that cover it.
use Rattle.std.proofs.Common.{◌≡◌, ℕ, suc, ◌+◌, ◌-◌, ◌*◌, ◌/◌, ◌^◌, ◌<◌, ◌≤◌, Bool, true, false, cond, Option, List, [], ◌∷◌, drop, get_or, inl, inr, sym, ap, subst, ◌∙◌, refl, arith}
use Rattle.std.specs.Prelude.{Some, None, nat_lt}
use Rattle.std.specs.Ordering.{is_eq}
use Rattle.std.specs.FinMap.Entries.{find}
use Rattle.std.proofs.lemmas.Bool.{cases_Bool, cases_lt, cases_eq, eqb-true, false≢true, lt-ltb, ltb-true, ltb-false}
use Rattle.std.proofs.lemmas.Nat.{pow-add}
use Rattle.std.proofs.Math.Nat.{div-div-eq-div-mul}
use Rattle.std.proofs.lemmas.Option.{same_Some}
use Rattle.net_types.proofs.BitLemmas.{same_bits-quotient}
use Rattle.net_types.proofs.CoverLemmas.{cover_one}
use Rattle.net_types.proofs.OrderLemmas.{prefix_tie}
use Rattle.net_types.specs.Keys.{prefix_cmp}
use Rattle.net_types.specs.Prefixes.{covers}
use Rattle.net_types.specs.declared.address.Ip.{Ip}
use Rattle.net_types.specs.declared.prefix.Prefix.{Prefix}
use Rattle.prefix_map.specs.Entries.{entries_of, longer_entry, longest_entry}
use Rattle.prefix_map.specs.Tables.{all_entries, number_of, AreShort}
use Rattle.prefix_map.specs.Tries.{AllKeys}
use Rattle.prefix_map.specs.declared.trie.Trie.{Trie}
use Rattle.prefix_map.proofs.ListLemmas.{all_of, all_append}
use Rattle.prefix_map.proofs.MapLemmas.{longest_found}
use Rattle.prefix_map.proofs.NodeLemmas.{tied_itself}
use Rattle.prefix_map.proofs.SortLemmas.{trie_sorted}
use Rattle.prefix_map.proofs.TableLemmas.{IsSplit, told_at}

-- ---- what covers an address with 16 bits or more has its number

same_number : (p : Prefix) (ip : Ip) → ip.0 < 2 ^ 32 → covers p ip ≡ true → 16 ≤ p.len → number_of p.address ≡ number_of ip
same_number p ip fits here long =
    let short = p.short in
    let same : p.address.0 / 2 ^ (32 - p.len) ≡ ip.0 / 2 ^ (32 - p.len) = eqb-true _ _ (sym (same_bits-quotient p.len p.address.0 ip.0 p.short p.in_range fits) ∙ here) in
    let bits : 32 - p.len + (p.len - 16) ≡ 16 = omega arith in
    let whole : 2 ^ (32 - p.len) * 2 ^ (p.len - 16) ≡ 65536 = sym (pow-add 2 (32 - p.len) (p.len - 16)) ∙ ap (λ n. 2 ^ n) bits in
    ap (λ n. p.address.0 / n) (sym whole) ∙ sym (div-div-eq-div-mul p.address.0 (2 ^ (32 - p.len)) (2 ^ (p.len - 16))) ∙ ap (λ n. n / 2 ^ (p.len - 16)) same ∙ div-div-eq-div-mul ip.0 (2 ^ (32 - p.len)) (2 ^ (p.len - 16)) ∙ ap (λ n. ip.0 / n) whole

-- so it is shorter where it has another
shorter_below : (p : Prefix) (ip : Ip) → ip.0 < 2 ^ 32 → number_of p.address < number_of ip → covers p ip ≡ true → p.len < 16
shorter_below p ip fits less here = elim (cases_lt p.len 16) [
  | inl short ↦ short
  | inr long ↦ let same = same_number p ip fits here long in absurd (omega (arith, same, less))
]

shorter_above : (p : Prefix) (ip : Ip) → ip.0 < 2 ^ 32 → number_of ip < number_of p.address → covers p ip ≡ true → p.len < 16
shorter_above p ip fits more here = elim (cases_lt p.len 16) [
  | inl short ↦ short
  | inr long ↦ let same = same_number p ip fits here long in absurd (omega (arith, same, more))
]

-- ---- the longest entry, and how long those that cover are

-- the first length that is greater than an entry's
abbrev pub past_len : {V : Type 0} → Option (Prefix × V) → ℕ
past_len None = 0
past_len (Some e) = suc e.0.len

module _ {V : Type 0} where
  first_bounds : (o d : Option (Prefix × V)) → past_len o ≤ past_len (longer_entry o d)
  first_bounds None d = omega arith
  first_bounds (Some e) None = omega arith
  first_bounds (Some e) (Some d) =
      elim (cases_Bool (nat_lt e.0.len d.0.len)) [
        | inl less ↦ subst (λ b. suc e.0.len ≤ past_len (cond b (Some d) (Some e))) (sym less) (let l = ltb-true _ _ less in omega (arith, l))
        | inr more ↦ subst (λ b. suc e.0.len ≤ past_len (cond b (Some d) (Some e))) (sym more) (omega arith)
      ]

  second_bounds : (o d : Option (Prefix × V)) → past_len d ≤ past_len (longer_entry o d)
  second_bounds None d = omega arith
  second_bounds (Some e) None = omega arith
  second_bounds (Some e) (Some d) =
      elim (cases_Bool (nat_lt e.0.len d.0.len)) [
        | inl less ↦ subst (λ b. suc d.0.len ≤ past_len (cond b (Some d) (Some e))) (sym less) (omega arith)
        | inr more ↦ subst (λ b. suc d.0.len ≤ past_len (cond b (Some d) (Some e))) (sym more) (let l = ltb-false _ _ more in omega (arith, l))
      ]

  pub weaken : (ip : Ip) (m n : ℕ) (es : List (Prefix × V)) → m ≤ n → AreShort m ip es → AreShort n ip es
  weaken ip m n es le short =
      let more : (p : Prefix) → (covers p ip ≡ true → p.len < m) → covers p ip ≡ true → p.len < n = λ p h here. let l = h here in omega (arith, l, le) in
      all_of more es short

  pub bounded : (ip : Ip) (es : List (Prefix × V)) → AreShort (past_len (longest_entry es ip)) ip es
  bounded ip [] = tt
  bounded ip (e ∷ es) =
      let chosen = cond (covers e.0 ip) (Some e) None in (
        λ here. let own : past_len (Some e) ≤ past_len (longer_entry chosen (longest_entry es ip)) = subst (λ b. past_len (cond b (Some e) None) ≤ past_len (longer_entry chosen (longest_entry es ip))) here (first_bounds chosen (longest_entry es ip)) in omega (arith, own),
        weaken ip _ _ es (second_bounds chosen (longest_entry es ip)) (bounded ip es),
      )

  pub longest_covers : (ip : Ip) (es : List (Prefix × V)) (e : Prefix × V) → longest_entry es ip ≡ Some e → covers e.0 ip ≡ true
  longest_covers ip es e is = subst (λ o. OptionCovers o) is (all es)
    where
      OptionCovers : Option (Prefix × V) → Type 0
      OptionCovers None = Unit {0}
      OptionCovers (Some d) = covers d.0 ip ≡ true

      longer : (o d : Option (Prefix × V)) → OptionCovers o → OptionCovers d → OptionCovers (longer_entry o d)
      longer None d h k = k
      longer (Some x) None h k = h
      longer (Some x) (Some d) h k = elim (nat_lt x.0.len d.0.len) as (λ b. OptionCovers (cond b (Some d) (Some x))) [ true ↦ k | false ↦ h ]

      all : (ds : List (Prefix × V)) → OptionCovers (longest_entry ds ip)
      all [] = tt
      all (d ∷ ds) =
          longer (cond (covers d.0 ip) (Some d) None) (longest_entry ds ip)
          (elim (cases_Bool (covers d.0 ip)) [
            | inl here ↦ subst (λ b. OptionCovers (cond b (Some d) None)) (sym here) here
            | inr off ↦ subst (λ b. OptionCovers (cond b (Some d) None)) (sym off) tt
          ])
          (all ds)

  pub none_short : (ip : Ip) (es : List (Prefix × V)) → AreShort 0 ip es → longest_entry es ip ≡ None
  none_short ip [] short = refl
  none_short ip (e ∷ es) short = elim (cases_Bool (covers e.0 ip)) [
    | inl here ↦ let l = short.0 here in absurd (omega (arith, l))
    | inr off ↦ ap (λ b. longer_entry (cond b (Some e) None) (longest_entry es ip)) off ∙ none_short ip es short.1
  ]

  bounds_longest : (ip : Ip) (n : ℕ) (es : List (Prefix × V)) → AreShort n ip es → past_len (longest_entry es ip) ≤ n
  bounds_longest ip n [] short = omega arith
  bounds_longest ip n (e ∷ es) short =
      let rest = bounds_longest ip n es short.1 in
      elim (cases_Bool (covers e.0 ip)) [
        | inl here ↦
            let own = short.0 here in
            subst (λ b. past_len (longer_entry (cond b (Some e) None) (longest_entry es ip)) ≤ n) (sym here) (either e (longest_entry es ip) (omega (arith, own)) rest)
        | inr off ↦ subst (λ b. past_len (longer_entry (cond b (Some e) None) (longest_entry es ip)) ≤ n) (sym off) rest
      ]
    where
      either : (d : Prefix × V) (o : Option (Prefix × V)) → suc d.0.len ≤ n → past_len o ≤ n → past_len (longer_entry (Some d) o) ≤ n
      either d None h k = h
      either d (Some x) h k = elim (nat_lt d.0.len x.0.len) as (λ b. past_len (cond b (Some x) (Some d)) ≤ n) [ true ↦ k | false ↦ h ]

  no_longer : (e : Prefix × V) (o : Option (Prefix × V)) → past_len o ≤ suc e.0.len → longer_entry (Some e) o ≡ Some e
  no_longer e None h = refl
  no_longer e (Some d) h = elim (cases_Bool (nat_lt e.0.len d.0.len)) [
    | inl less ↦ let l = ltb-true _ _ less in absurd (omega (arith, l, h))
    | inr more ↦ ap (λ b. cond b (Some d) (Some e)) more
  ]

  -- the entry of a prefix that covers is the longest where none that covers is longer
  pub found_is_longest : (ip : Ip) (q : Prefix) (v : V) (es : List (Prefix × V)) → find prefix_cmp q es ≡ Some v → covers q ip ≡ true → AreShort (suc q.len) ip es → longest_entry es ip ≡ Some (q, v)
  found_is_longest ip q v [] there here short = cc
  found_is_longest ip q v (e ∷ es) there here short = elim (cases_Bool (is_eq (prefix_cmp q e.0))) [
    | inl tied ↦
        let same : q ≡ e.0 = prefix_tie q e.0 tied in
        let value : e.1 ≡ v = same_Some e.1 v (ap (λ b. cond b (Some e.1) (find prefix_cmp q es)) (sym tied) ∙ there) in
        let covered : covers e.0 ip ≡ true = subst (λ p. covers p ip ≡ true) same here in
        let alike : e.0.len ≡ q.len = ap (λ p. p.len) (sym same) in
        let least : past_len (longest_entry es ip) ≤ suc e.0.len = let l = bounds_longest ip (suc q.len) es short.1 in omega (arith, l, alike) in
        ap (λ b. longer_entry (cond b (Some e) None) (longest_entry es ip)) covered
        ∙ no_longer e (longest_entry es ip) least
        ∙ ap (λ p. Some (p, e.1)) (sym same)
        ∙ ap (λ w. Some (q, w)) value
    | inr other ↦
        let later : longest_entry es ip ≡ Some (q, v) = found_is_longest ip q v es (ap (λ b. cond b (Some e.1) (find prefix_cmp q es)) (sym other) ∙ there) here short.1 in
        ap (longer_entry (cond (covers e.0 ip) (Some e) None)) later
        ∙ elim (cases_Bool (covers e.0 ip)) [
          | inl covered ↦
              let most : e.0.len < suc q.len = short.0 covered in
              let differ : (e.0.len ≡ q.len → ⊥) = λ alike.
              let same = cover_one q e.0 ip (sym alike) here covered in
              false≢true (sym other ∙ ap (λ p. is_eq (prefix_cmp q p)) (sym same) ∙ ap is_eq (tied_itself q)) in
              let less : e.0.len < q.len = elim (cases_eq e.0.len q.len) [ inl alike ↦ absurd (differ alike) | inr apart ↦ omega (arith, most, apart) ] in
              ap (λ b. longer_entry (cond b (Some e) None) (Some (q, v))) covered ∙ ap (λ b. cond b (Some (q, v)) (Some e)) (lt-ltb _ _ less)
          | inr off ↦ ap (λ b. longer_entry (cond b (Some e) None) (Some (q, v))) off
        ]
  ]

  -- ---- one length less

  pub unmarked_short : (ip : Ip) (marks : List Bool) (n : ℕ) (es : List (Prefix × V)) → AllKeys (λ p. get_or marks p.len false ≡ true) es → get_or marks n false ≡ false → AreShort (n + 1) ip es → AreShort n ip es
  unmarked_short ip marks n [] marked none short = tt
  unmarked_short ip marks n (e ∷ es) marked none short = (
    λ here.
        let most = short.0 here in
        elim (cases_eq e.0.len n) [
          | inl alike ↦ absurd (false≢true (sym none ∙ ap (λ i. get_or marks i false) (sym alike) ∙ marked.0))
          | inr apart ↦ omega (arith, most, apart)
        ],
    unmarked_short ip marks n es marked.1 none short.1,
  )

  pub missing_short : (ip : Ip) (q : Prefix) (n : ℕ) (es : List (Prefix × V)) → q.len ≡ n → covers q ip ≡ true → find prefix_cmp q es ≡ None → AreShort (n + 1) ip es → AreShort n ip es
  missing_short ip q n [] is here none short = tt
  missing_short ip q n (e ∷ es) is here none short = elim (cases_Bool (is_eq (prefix_cmp q e.0))) [
    | inl tied ↦ absurd (let no : Some e.1 ≡ None = ap (λ b. cond b (Some e.1) (find prefix_cmp q es)) (sym tied) ∙ none in cc)
    | inr other ↦ (
      λ covered.
          let most = short.0 covered in
          elim (cases_eq e.0.len n) [
            | inl alike ↦ absurd (false≢true (sym other ∙ ap (λ p. is_eq (prefix_cmp q p)) (sym (cover_one q e.0 ip (is ∙ sym alike) here covered)) ∙ ap is_eq (tied_itself q)))
            | inr apart ↦ omega (arith, most, apart)
          ],
      missing_short ip q n es is here (ap (λ b. cond b (Some e.1) (find prefix_cmp q es)) (sym other) ∙ none) short.1,
    )
  ]

-- ---- the part of an address

module _ {V : Type 0} (k : ℕ) (ts : List (Trie V)) (t : Trie V) (ip : Ip) (fits : ip.0 < 2 ^ 32) (s : IsSplit 0 k (number_of ip) ts t) where
  pub others_short : (n : ℕ) → 16 ≤ n → AreShort n ip (entries_of t) → AreShort n ip (all_entries ts)
  others_short n long own =
      let before : (p : Prefix) → number_of p.address < number_of ip → covers p ip ≡ true → p.len < n = λ p less here. let l = shorter_below p ip fits less here in omega (arith, l, long) in
      let after : (p : Prefix) → number_of ip < number_of p.address → covers p ip ≡ true → p.len < n = λ p more here. let l = shorter_above p ip fits more here in omega (arith, l, long) in
      subst (AreShort n ip) (sym s.is)
      (all_append (λ p. covers p ip ≡ true → p.len < n) s.front _
      (all_of before s.front s.smaller)
      (all_append (λ p. covers p ip ≡ true → p.len < n) (entries_of t) (all_entries (drop (suc k) ts)) own
      (all_of after (all_entries (drop (suc k) ts)) s.greater)))

  pub longest_at : (e : Prefix × V) → longest_entry (entries_of t) ip ≡ Some e → 16 ≤ e.0.len → longest_entry (all_entries ts) ip ≡ Some e
  longest_at e is long =
      let here = longest_covers ip (entries_of t) e is in
      let own : AreShort (suc e.0.len) ip (entries_of t) = subst (λ o. AreShort (past_len o) ip (entries_of t)) is (bounded ip (entries_of t)) in
      found_is_longest ip e.0 e.1 (all_entries ts)
      ((told_at 0 k (number_of ip) ts t s e.0 (same_number e.0 ip fits here long)).find_is ∙ longest_found (entries_of t) ip e (trie_sorted t s.halves) is)
      here (others_short (suc e.0.len) (omega (arith, long)) own)

  pub short_else : (o : Option (Prefix × V)) → longest_entry (entries_of t) ip ≡ o → past_len o ≤ 16 → AreShort 16 ip (all_entries ts)
  short_else o is least =
      others_short 16 (omega arith) (weaken ip (past_len o) 16 (entries_of t) least (subst (λ r. AreShort (past_len r) ip (entries_of t)) is (bounded ip (entries_of t))))
