-- Other rules of one participant.
use Rattle.std.proofs.Common.{◌≡◌, ℕ, zero, suc, ◌+◌, ◌-◌, ◌<◌, ◌≤◌, Bool, true, false, cond, ◌&&◌, not, eqb, List, [], ◌∷◌, ◌++◌, length, length-append, append_assoc, append-nil, set, arith, sym, ap, ◌∙◌, refl}
use Rattle.std.specs.Prelude.{Option, Some, None, is_some, slice_get, unwrap_or}
use Rattle.std.specs.Option.{option_and_then}
use Rattle.std.specs.FinMap.{FinMap, get}
use Rattle.std.proofs.lemmas.Bool.{eqb-true, eqb-false, eq-eqb, ne_eqb}
use Rattle.net_types.specs.Changes.{Differs}
use Rattle.net_types.specs.Exports.{allows, is_in_path, asn_of, is_given}
use Rattle.net_types.specs.Keys.{route_cmp}
use Rattle.net_types.specs.Routes.{candidate, given}
use Rattle.net_types.specs.Sets.{Member}
use Rattle.net_types.specs.declared.address.Pid.{Pid}
use Rattle.net_types.specs.declared.export.ExportRule.{ExportRule}
use Rattle.net_types.specs.declared.prefix.Prefix.{Prefix}
use Rattle.net_types.specs.declared.route.Attrs.{Attrs}
use Rattle.registry.specs.Registered.{Registered}
use Rattle.route_server.specs.Edits.{IsKept}
use Rattle.route_server.specs.Effects.{AreRowsOf}
use Rattle.route_server.specs.Rows.{nothings, padded, rules_at, rules_with}
use Rattle.route_server.specs.Served.{Served, routing, Carries}
use Rattle.route_server.specs.declared.change.Change.{Change}
use Rattle.route_server.proofs.ProposalLaws.{no_other}

pub kept_rows : (m : FinMap route_cmp Attrs) (cs : List Change) → ((c : Change) → Member c cs → IsKept m c) → AreRowsOf cs m
kept_rows m cs rows = record { each = λ c k f. (rows c k).looks f }

-- where the participant has no route, nothing is another
module _ (names : Registered) (v : Served) (after : List (List ExportRule)) (from : Pid) (own : List ExportRule) (now : (n : ℕ) → rules_at after n ≡ cond (eqb from.0 n) own (rules_at v.rules n)) where
  abbrev then : Served
  then = record { routes = v.routes; rules = after; named = v.named; room = 0 }

  pub other_rules : (ps : List Prefix) → Carries v.routes from ps → (q : Prefix) → (Member q ps → ⊥) → Differs (routing names v) (routing names then) q → ⊥
  other_rules ps are q away = no_other names v then q refl (λ to f. same to f (eqb from.0 f.0) refl)
    where
      none : (o : Option Attrs) → (is_some o ≡ true → ⊥) → o ≡ None
      none None h = refl
      none (Some x) h = absurd (h refl)

      own_none : (f : Pid) → eqb from.0 f.0 ≡ true → get v.routes (record { from = f; prefix = q }) ≡ None
      own_none f e = ap (λ n. get v.routes (record { from = record { 0 = n }; prefix = q })) (sym (eqb-true from.0 f.0 e)) ∙ none (get v.routes (record { from = from; prefix = q })) (λ there. away (are.all q there))

      same : (to f : Pid) (b : Bool) → eqb from.0 f.0 ≡ b → given (routing names v) to q f ≡ given (routing names then) to q f
      same to f true e =
          ap (option_and_then (λ (attrs : Attrs). cond (is_given (routing names v) f to q attrs) (Some (candidate (routing names v) f attrs)) None)) (own_none f e)
          ∙ sym (ap (option_and_then (λ (attrs : Attrs). cond (is_given (routing names then) f to q attrs) (Some (candidate (routing names then) f attrs)) None)) (own_none f e))
      same to f false e =
          ap (λ rs. option_and_then (λ (attrs : Attrs). cond (not (eqb f.0 to.0) && not (is_in_path (asn_of (routing names v) to) attrs.path) && allows rs to q) (Some (candidate (routing names v) f attrs)) None) (get v.routes (record { from = f; prefix = q })))
          (sym (now f.0 ∙ ap (λ b. cond b own (rules_at v.rules f.0)) e))

-- ---- the lists of rules

same_next : (a b : ℕ) (t : Bool) → eqb a b ≡ t → eqb (suc a) (suc b) ≡ t
same_next a b true e = eq-eqb (suc a) (suc b) (ap suc (eqb-true a b e))
same_next a b false e = ne_eqb (suc a) (suc b) (λ same. eqb-false a b e (omega arith))

-- one list is another
pub set_lists : {A : Type 0} (xs : List (List A)) (at : ℕ) (own : List A) (n : ℕ) → at < length xs → unwrap_or (slice_get (set xs at own) n) [] ≡ cond (eqb at n) own (unwrap_or (slice_get xs n) [])
set_lists [] at own n within = absurd (omega arith)
set_lists (x ∷ xs) zero own zero within = sym (ap (λ b. cond b own x) (eq-eqb 0 0 refl))
set_lists (x ∷ xs) zero own (suc n) within = sym (ap (λ b. cond b own (unwrap_or (slice_get xs n) [])) (ne_eqb 0 (suc n) (λ e. absurd (omega arith))))
set_lists (x ∷ xs) (suc at) own zero within = sym (ap (λ b. cond b own x) (ne_eqb (suc at) 0 (λ e. absurd (omega arith))))
set_lists (x ∷ xs) (suc at) own (suc n) within = set_lists xs at own n (omega arith) ∙ sym (ap (λ b. cond b own (unwrap_or (slice_get xs n) [])) (same_next at n (eqb at n) refl))

-- ---- lists of rules that are as long as they have to be

length_nothings : (k : ℕ) → length (nothings k) ≡ k
length_nothings zero = refl
length_nothings (suc k) = ap suc (length_nothings k)

nothing_at : (k n : ℕ) → rules_at (nothings k) n ≡ []
nothing_at zero n = refl
nothing_at (suc k) zero = refl
nothing_at (suc k) (suc n) = nothing_at k n

pad_at : (xs : List (List ExportRule)) (k n : ℕ) → rules_at (xs ++ nothings k) n ≡ rules_at xs n
pad_at [] k n = nothing_at k n
pad_at (x ∷ xs) k zero = refl
pad_at (x ∷ xs) k (suc n) = pad_at xs k n

-- the participant has its own rules, and all others theirs
pub padded_rules : (xs : List (List ExportRule)) (from : Pid) (own : List ExportRule) (n : ℕ) → rules_at (rules_with xs from own) n ≡ cond (eqb from.0 n) own (rules_at xs n)
padded_rules xs from own n =
    let k = (from.0 + 1) - length xs in
    set_lists (padded xs (from.0 + 1)) from.0 own n (let e = length-append xs (nothings k) in let f = length_nothings k in omega (arith, e, f))
    ∙ ap (cond (eqb from.0 n) own) (pad_at xs k n)

pub listed_rules : (xs : List (List ExportRule)) (from : Pid) (own : List ExportRule) → from.0 < length xs → rules_with xs from own ≡ set xs from.0 own
listed_rules xs from own within =
    let none : (from.0 + 1) - length xs ≡ 0 = omega (arith, within) in
    ap (λ k. set (xs ++ nothings k) from.0 own) none ∙ ap (λ ys. set ys from.0 own) (append-nil xs)

-- one list more
pub pad_more : (count place : ℕ) (xs all : List (List ExportRule)) → place < count → xs ++ nothings (count - place) ≡ all → (xs ++ [] ∷ []) ++ nothings (count - (place + 1)) ≡ all
pad_more count place xs all low h =
    let one : count - place ≡ suc (count - (place + 1)) = omega (arith, low) in
    append_assoc xs ([] ∷ []) (nothings (count - (place + 1))) ∙ ap (λ k. xs ++ nothings k) (sym one) ∙ h

pub pad_all : (count place : ℕ) (xs all : List (List ExportRule)) → count ≤ place → xs ++ nothings (count - place) ≡ all → xs ≡ all
pad_all count place xs all enough h =
    let none : count - place ≡ 0 = omega (arith, enough) in
    sym (ap (λ k. xs ++ nothings k) none ∙ append-nil xs) ∙ h

pub padded_long : (xs : List (List ExportRule)) (count : ℕ) → count ≤ length (padded xs count)
padded_long xs count = let e = length-append xs (nothings (count - length xs)) in let f = length_nothings (count - length xs) in omega (arith, e, f)
