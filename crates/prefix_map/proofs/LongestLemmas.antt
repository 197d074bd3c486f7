-- The longest of a node's prefixes that covers an address.
use Rattle.std.proofs.Common.{◌≡◌, ◌≤◌, ◌<◌, ◌^◌, Bool, true, false, cond, Option, List, [], ◌∷◌, ◌++◌, map, inl, inr, sym, ap, ◌∙◌, refl, arith}
use Rattle.std.specs.Prelude.{Some, None, nat_lt}
use Rattle.std.specs.Option.{option_map}
use Rattle.std.proofs.lemmas.Bool.{cases_Bool, false≢true, lt-ltb}
use Rattle.net_types.specs.Prefixes.{covers}
use Rattle.net_types.specs.Routes.{longer, longest_of}
use Rattle.net_types.specs.declared.address.Ip.{Ip}
use Rattle.net_types.specs.declared.prefix.Prefix.{Prefix}
use Rattle.prefix_map.specs.Entries.{own, longer_entry, longest_entry, entry_or}
use Rattle.net_types.specs.Routes.{first_of_list}
use Rattle.prefix_map.specs.Halves.{middle, LiesIn, LiesLow, LiesHigh}
use Rattle.prefix_map.specs.Tries.{AllKeys}
use Rattle.prefix_map.proofs.HalfLemmas.{covered, covers_from}
use Rattle.prefix_map.proofs.ListLemmas.{all_of, all_append}
use Rattle.prefix_map.proofs.NodeLemmas.{all_in}

abbrev IsMissing : {V : Type 0} → Ip → List (Prefix × V) → Type 0
IsMissing ip es = AllKeys (λ p. covers p ip ≡ false) es

longest_none : {V : Type 0} (ip : Ip) (es : List (Prefix × V)) → IsMissing ip es → longest_entry es ip ≡ None
longest_none ip [] h = refl
longest_none ip (e ∷ es) h = ap (λ b. longer_entry (cond b (Some e) None) (longest_entry es ip)) h.0 ∙ longest_none ip es h.1

longest_left : {V : Type 0} (ip : Ip) (l h : List (Prefix × V)) → IsMissing ip h → longest_entry (l ++ h) ip ≡ longest_entry l ip
longest_left ip [] h missing = longest_none ip h missing
longest_left ip (e ∷ l) h missing = ap (longer_entry (cond (covers e.0 ip) (Some e) None)) (longest_left ip l h missing)

longest_right : {V : Type 0} (ip : Ip) (l h : List (Prefix × V)) → IsMissing ip l → longest_entry (l ++ h) ip ≡ longest_entry h ip
longest_right ip [] h missing = refl
longest_right ip (e ∷ l) h missing = ap (λ b. longer_entry (cond b (Some e) None) (longest_entry (l ++ h) ip)) missing.0 ∙ longest_right ip l h missing.1

abbrev OptionAll : {V : Type 0} → (Prefix → Type 0) → Option (Prefix × V) → Type 0
OptionAll P None = Unit {0}
OptionAll P (Some e) = P e.0

longer_all : {V : Type 0} (P : Prefix → Type 0) (o d : Option (Prefix × V)) → OptionAll P o → OptionAll P d → OptionAll P (longer_entry o d)
longer_all P None d h k = k
longer_all P (Some e) None h k = h
longer_all P (Some e) (Some d) h k = elim (nat_lt e.0.len d.0.len) as (λ b. OptionAll P (cond b (Some d) (Some e))) [ true ↦ k | false ↦ h ]

longest_all : {V : Type 0} (P : Prefix → Type 0) (ip : Ip) (es : List (Prefix × V)) → AllKeys P es → OptionAll P (longest_entry es ip)
longest_all P ip [] all = tt
longest_all P ip (e ∷ es) all =
    longer_all P (cond (covers e.0 ip) (Some e) None) (longest_entry es ip)
    (elim (covers e.0 ip) as (λ b. OptionAll P (cond b (Some e) None)) [ true ↦ all.0 | false ↦ tt ])
    (longest_all P ip es all.1)

-- an entry, and else the best one before it
abbrev pub or_best : {V : Type 0} → Option (Prefix × V) → Option (Prefix × V) → Option (Prefix × V)
or_best None best = best
or_best (Some e) best = Some e

pub best_of_none : {V : Type 0} (x : Option (Prefix × V)) → x ≡ or_best x None
best_of_none None = refl
best_of_none (Some e) = refl

-- an entry further down, else a prefix's own, and else the best one before it
pub best_below : {V : Type 0} (x : Option (Prefix × V)) (at : Prefix) (held : Option V) (before after : Option (Prefix × V)) → after ≡ or_best (first_of_list (own at held)) before → or_best (entry_or x at held) before ≡ or_best x after
best_below None at held before after is = sym is
best_below (Some e) at held before after is = refl

or_none : {V : Type 0} (at : Prefix) (o : Option (Prefix × V)) → o ≡ entry_or o at None
or_none at None = refl
or_none at (Some e) = refl

or_some : {V : Type 0} (at : Prefix) (v : V) (o : Option (Prefix × V)) → OptionAll (λ p. nat_lt at.len p.len ≡ true) o → longer_entry (Some (at, v)) o ≡ entry_or o at (Some v)
or_some at v None h = refl
or_some at v (Some e) h = ap (λ b. cond b (Some e) (Some (at, v))) h

longest_own : {V : Type 0} (at : Prefix) (held : Option V) (es : List (Prefix × V)) (ip : Ip) → covers at ip ≡ true → AllKeys (λ p. nat_lt at.len p.len ≡ true) es → longest_entry (own at held ++ es) ip ≡ entry_or (longest_entry es ip) at held
longest_own at None es ip here all = or_none at (longest_entry es ip)
longest_own at (Some v) es ip here all =
    ap (λ b. longer_entry (cond b (Some (at, v)) None) (longest_entry es ip)) here
    ∙ or_some at v (longest_entry es ip) (longest_all (λ p. nat_lt at.len p.len ≡ true) ip es all)

missed : (p : Prefix) (ip : Ip) → (covers p ip ≡ true → ⊥) → covers p ip ≡ false
missed p ip never = elim (cases_Bool (covers p ip)) [ inl hits ↦ absurd (never hits) | inr misses ↦ misses ]

module _ {V : Type 0} (at : Prefix) (held : Option V) (l h : List (Prefix × V)) (low : AllKeys (LiesLow at) l) (high : AllKeys (LiesHigh at) h) (ip : Ip) (fits : ip.0 < 2 ^ 32) where
  longer_all_below : AllKeys (λ p. nat_lt at.len p.len ≡ true) (l ++ h)
  longer_all_below =
      all_append (λ p. nat_lt at.len p.len ≡ true) l h
      (all_of (λ p (is : LiesLow at p). lt-ltb _ _ is.longer) l low)
      (all_of (λ p (is : LiesHigh at p). lt-ltb _ _ is.longer) h high)

  pub longest_out : covers at ip ≡ false → longest_entry (own at held ++ (l ++ h)) ip ≡ None
  longest_out misses = longest_none ip (own at held ++ (l ++ h)) (all_of outside (own at held ++ (l ++ h)) (all_in at held l h low high))
    where
      outside : (p : Prefix) → LiesIn at p → covers p ip ≡ false
      outside p is = missed p ip (λ hits.
          let there = covered p ip fits hits in
          let from = is.from in
          let until = is.until in
          false≢true (sym misses ∙ covers_from at ip (let a = there.0 in omega (arith, a, from)) (let b = there.1 in omega (arith, b, until))))

  longest_of_low : ip.0 < middle at → longest_entry (l ++ h) ip ≡ longest_entry l ip
  longest_of_low less = longest_left ip l h (all_of outside h high)
    where
      outside : (p : Prefix) → LiesHigh at p → covers p ip ≡ false
      outside p is = missed p ip (λ hits.
          let there = covered p ip fits hits in
          let a = there.0 in
          let from = is.from in
          absurd (omega (arith, a, from, less)))

  longest_of_high : middle at ≤ ip.0 → longest_entry (l ++ h) ip ≡ longest_entry h ip
  longest_of_high more = longest_right ip l h (all_of outside l low)
    where
      outside : (p : Prefix) → LiesLow at p → covers p ip ≡ false
      outside p is = missed p ip (λ hits.
          let there = covered p ip fits hits in
          let b = there.1 in
          let until = is.until in
          absurd (omega (arith, b, until, more)))

  pub longest_low : covers at ip ≡ true → ip.0 < middle at → longest_entry (own at held ++ (l ++ h)) ip ≡ entry_or (longest_entry l ip) at held
  longest_low here less = longest_own at held (l ++ h) ip here longer_all_below ∙ ap (λ o. entry_or o at held) (longest_of_low less)

  pub longest_high : covers at ip ≡ true → middle at ≤ ip.0 → longest_entry (own at held ++ (l ++ h)) ip ≡ entry_or (longest_entry h ip) at held
  longest_high here more = longest_own at held (l ++ h) ip here longer_all_below ∙ ap (λ o. entry_or o at held) (longest_of_high more)

  -- where the prefix has no value, nothing is asked of it
  pub longest_bare_low : held ≡ None → ip.0 < middle at → longest_entry (own at held ++ (l ++ h)) ip ≡ entry_or (longest_entry l ip) at held
  longest_bare_low bare less =
      ap (λ o. longest_entry (own at o ++ (l ++ h)) ip) bare ∙ longest_of_low less ∙ or_none at (longest_entry l ip) ∙ ap (entry_or (longest_entry l ip) at) (sym bare)

  pub longest_bare_high : held ≡ None → middle at ≤ ip.0 → longest_entry (own at held ++ (l ++ h)) ip ≡ entry_or (longest_entry h ip) at held
  longest_bare_high bare more =
      ap (λ o. longest_entry (own at o ++ (l ++ h)) ip) bare ∙ longest_of_high more ∙ or_none at (longest_entry h ip) ∙ ap (entry_or (longest_entry h ip) at) (sym bare)

-- ---- in the words of prefixes alone

module _ {V : Type 0} where
  pub key_longer : (o d : Option (Prefix × V)) → option_map (λ e. e.0) (longer_entry o d) ≡ longer (option_map (λ e. e.0) o) (option_map (λ e. e.0) d)
  key_longer None d = refl
  key_longer (Some e) None = refl
  key_longer (Some e) (Some d) =
      elim (nat_lt e.0.len d.0.len) as (λ b. option_map (λ (x : Prefix × V). x.0) (cond b (Some d) (Some e)) ≡ cond b (Some d.0) (Some e.0)) [ true ↦ refl | false ↦ refl ]

key_chosen : {V : Type 0} (b : Bool) (e : Prefix × V) → option_map (λ x. x.0) (cond b (Some e) None) ≡ cond b (Some e.0) None
key_chosen true e = refl
key_chosen false e = refl

pub longest_key : {V : Type 0} (es : List (Prefix × V)) (ip : Ip) → option_map (λ e. e.0) (longest_entry es ip) ≡ longest_of (map (λ e. e.0) es) ip
longest_key [] ip = refl
longest_key (e ∷ es) ip =
    key_longer (cond (covers e.0 ip) (Some e) None) (longest_entry es ip)
    ∙ ap (λ o. longer o (option_map (λ x. x.0) (longest_entry es ip))) (key_chosen (covers e.0 ip) e)
    ∙ ap (longer (cond (covers e.0 ip) (Some e.0) None)) (longest_key es ip)
