-- The map of the entries of its parts, and what holds of a map after a prefix was put in or taken out.
use Rattle.std.proofs.Common.{◌≡◌, ℕ, ◌+◌, ◌-◌, ◌<◌, ◌≤◌, Bool, true, false, cond, Option, List, [], ◌∷◌, length, map, inl, inr, ◌⊎◌, IfSome, sym, ap, subst, ◌∙◌, refl, arith}
use Rattle.std.specs.Prelude.{Some, None, is_some, nat_lt}
use Rattle.std.specs.Borrow.{Bor}
use Rattle.std.specs.Option.{option_map, unwrap_or}
use Rattle.std.specs.Ordering.{is_eq}
use Rattle.std.specs.FinMap.{FinMap, from_sorted, get, insert, remove, entries, keys}
use Rattle.std.specs.FinMap.Entries.{find, put, is_sorted, below_all, length-put, length_without}
use Rattle.std.proofs.lemmas.Bool.{and_parts}
use Rattle.net_types.proofs.OrderLemmas.{prefixes_total, prefix_tie}
use Rattle.net_types.proofs.PlaceLemmas.{entries_of_sorted, get_sorted, insert_sorted, remove_sorted}
use Rattle.net_types.proofs.ValueLemmas.{later_apart}
use Rattle.net_types.specs.Keys.{prefix_cmp}
use Rattle.net_types.specs.Prefixes.{covers}
use Rattle.net_types.specs.Routes.{longest_of}
use Rattle.net_types.specs.declared.address.Ip.{Ip}
use Rattle.net_types.specs.declared.prefix.Prefix.{Prefix}
use Rattle.prefix_map.specs.Entries.{without, longer_entry, longest_entry, seen_entry}
use Rattle.prefix_map.specs.Kept.{IsKept}
use Rattle.prefix_map.specs.Parts.{entries_in, AreParts}
use Rattle.prefix_map.specs.declared.parts.Parts.{Parts}
use Rattle.prefix_map.proofs.LongestLemmas.{longest_key}
use Rattle.prefix_map.proofs.NodeLemmas.{tied_itself}
use Rattle.prefix_map.proofs.TableLemmas.{parts_sorted}
use Rattle.net_types.proofs.TestLemmas.{holds}

-- ---- look-ups and edits, in the words of the map

module _ {V : Type 0} (t : Parts V) (whole : AreParts t) (m : FinMap prefix_cmp V) (are : from_sorted (entries_in t) ≡ m) where
  pub entries_are : entries_in t ≡ entries m
  entries_are = sym (entries_of_sorted prefix_cmp (entries_in t) (parts_sorted t whole)) ∙ ap entries are

  pub get_is : (q : Prefix) → find prefix_cmp q (entries_in t) ≡ get m q
  get_is q = sym (get_sorted prefix_cmp (entries_in t) q (parts_sorted t whole)) ∙ ap (λ n. get n q) are

  pub insert_is : (q : Prefix) (v : V) (es : List (Prefix × V)) → es ≡ put prefix_cmp q v (entries_in t) → from_sorted es ≡ insert m q v
  insert_is q v es is = ap from_sorted is ∙ insert_sorted prefix_cmp prefixes_total q v (entries_in t) (parts_sorted t whole) ∙ ap (λ n. insert n q v) are

  pub remove_is : (q : Prefix) (es : List (Prefix × V)) → es ≡ without q (entries_in t) → from_sorted es ≡ remove m q
  remove_is q es is =
      ap from_sorted is
      ∙ remove_sorted prefix_cmp prefixes_total (λ p r e. prefix_tie p r (ap is_eq e)) q (entries_in t) (parts_sorted t whole)
      ∙ ap (λ n. remove n q) are

  pub longest_is : (ip : Ip) (o : Option (Prefix × Bor V)) → option_map seen_entry o ≡ longest_entry (entries_in t) ip → option_map (λ e. e.0) o ≡ longest_of (keys m) ip
  longest_is ip o is = seen_key o ∙ ap (option_map (λ e. e.0)) is ∙ longest_key (entries_in t) ip ∙ ap (λ (es : List (Prefix × V)). longest_of (map (λ e. e.0) es) ip) entries_are
    where
      seen_key : (r : Option (Prefix × Bor V)) → option_map (λ e. e.0) r ≡ option_map (λ (e : Prefix × V). e.0) (option_map seen_entry r)
      seen_key None = refl
      seen_key (Some e) = refl

-- ---- the longest entry is one of the map's

same_entry : {V : Type 0} (d e : Prefix × V) → Some d ≡ Some e → d ≡ e
same_entry d e is = ap (λ o. unwrap_or o d) is

module _ {V : Type 0} where
  one_of_two : (o d : Option (Prefix × V)) (e : Prefix × V) → longer_entry o d ≡ Some e → (o ≡ Some e) ⊎ (d ≡ Some e)
  one_of_two None d e is = inr is
  one_of_two (Some x) None e is = inl is
  one_of_two (Some x) (Some y) e is = of_case (nat_lt x.0.len y.0.len) is
    where
      of_case : (b : Bool) → cond b (Some y) (Some x) ≡ Some e → (Some x ≡ Some e) ⊎ (Some y ≡ Some e)
      of_case true h = inr h
      of_case false h = inl h

  chosen : (b : Bool) (d e : Prefix × V) → cond b (Some d) None ≡ Some e → d ≡ e
  chosen true d e is = same_entry d e is
  chosen false d e is = cc

  pub longest_found : (es : List (Prefix × V)) (ip : Ip) (e : Prefix × V) → is_sorted prefix_cmp es ≡ true → longest_entry es ip ≡ Some e → find prefix_cmp e.0 es ≡ Some e.1
  longest_found [] ip e sorted is = cc
  longest_found (d ∷ es) ip e sorted is =
      let parts = and_parts (below_all prefix_cmp d.0 es) (is_sorted prefix_cmp es) sorted in
      elim (one_of_two (cond (covers d.0 ip) (Some d) None) (longest_entry es ip) e is) [
        | inl here ↦
            subst (λ (x : Prefix × V). find prefix_cmp x.0 (d ∷ es) ≡ Some x.1) (chosen (covers d.0 ip) d e here)
            (ap (λ r. cond (is_eq r) (Some d.1) (find prefix_cmp d.0 es)) (tied_itself d.0))
        | inr later ↦
            let found = longest_found es ip e parts.1 later in
            ap (λ b. cond b (Some d.1) (find prefix_cmp e.0 es)) (later_apart prefix_cmp prefixes_total d.0 e.0 e.1 es (holds _ parts.0) found) ∙ found
      ]

  pub longest_has : (t : Parts V) (whole : AreParts t) (m : FinMap prefix_cmp V) → from_sorted (entries_in t) ≡ m → (ip : Ip) (o : Option (Prefix × Bor V)) → option_map seen_entry o ≡ longest_entry (entries_in t) ip → IfSome o (λ e. Some e.1.now ≡ get m e.0)
  longest_has t whole m are ip None is = tt
  longest_has t whole m are ip (Some e) is = sym (longest_found (entries_in t) ip (e.0, e.1.now) (parts_sorted t whole) (sym is)) ∙ get_is t whole m are e.0

-- ---- room and the count

module _ {V : Type 0} (t u : Parts V) (q : Prefix) (spare left room count : ℕ) (kept : IsKept t spare room count) (whole : AreParts u) where
  pub put_new : (v : V) → entries_in u ≡ put prefix_cmp q v (entries_in t) → is_some (find prefix_cmp q (entries_in t)) ≡ false → spare ≤ left + 1 → 0 < room → IsKept u left (room - 1) (count + 1)
  put_new v is none less some =
      let size : length (entries_in u) ≡ length (entries_in t) + 1 = ap length is ∙ length-put prefix_cmp prefixes_total q v (entries_in t) (holds _ (parts_sorted t kept.whole)) ∙ ap (λ b. cond b (length (entries_in t)) (length (entries_in t) + 1)) none in
      record { whole = whole; boxes = omega (arith, less, kept.boxes); counted = omega (arith, size, kept.counted); fits = omega (arith, some, kept.fits) }

  pub put_known : (v : V) → entries_in u ≡ put prefix_cmp q v (entries_in t) → is_some (find prefix_cmp q (entries_in t)) ≡ true → spare ≤ left + 0 → IsKept u left room count
  put_known v is some less =
      let size : length (entries_in u) ≡ length (entries_in t) = ap length is ∙ length-put prefix_cmp prefixes_total q v (entries_in t) (holds _ (parts_sorted t kept.whole)) ∙ ap (λ b. cond b (length (entries_in t)) (length (entries_in t) + 1)) some in
      record { whole = whole; boxes = omega (arith, less, kept.boxes); counted = omega (arith, size, kept.counted); fits = omega (arith, kept.fits) }

  pub took_known : entries_in u ≡ without q (entries_in t) → is_some (find prefix_cmp q (entries_in t)) ≡ true → spare ≤ left → IsKept u left room (count - 1)
  took_known is some more =
      let size : 1 + length (entries_in u) ≡ length (entries_in t) = ap (λ es. 1 + length es) is ∙ ap (λ b. cond b 1 0 + length (without q (entries_in t))) (sym some) ∙ length_without prefix_cmp prefixes_total q (entries_in t) (holds _ (parts_sorted t kept.whole)) in
      record { whole = whole; boxes = omega (arith, more, kept.boxes); counted = omega (arith, size, kept.counted); fits = omega (arith, kept.fits) }

  pub took_none : entries_in u ≡ without q (entries_in t) → is_some (find prefix_cmp q (entries_in t)) ≡ false → spare ≤ left → IsKept u left room count
  took_none is none more =
      let size : 0 + length (entries_in u) ≡ length (entries_in t) = ap (λ es. 0 + length es) is ∙ ap (λ b. cond b 1 0 + length (without q (entries_in t))) (sym none) ∙ length_without prefix_cmp prefixes_total q (entries_in t) (holds _ (parts_sorted t kept.whole)) in
      record { whole = whole; boxes = omega (arith, more, kept.boxes); counted = omega (arith, size, kept.counted); fits = omega (arith, kept.fits) }
