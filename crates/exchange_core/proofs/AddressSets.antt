-- Sets of addresses: what is found in one, and one with more addresses.
use Rattle.std.proofs.Common.{◌≡◌, ◌≤◌, arith, Bool, true, false, cond, List, [], ◌∷◌, ◌++◌, sym, ap, subst, ◌∙◌, refl, inl, inr}
use Rattle.std.specs.Prelude.{is_some, Some, ◌||◌, ◌⊎◌, if◌then◌else◌}
use Rattle.std.specs.FinMap.{nat_cmp-IsAntisymmetric}
use Rattle.std.specs.FinMap.Entries.{find, find-put, is_some-find, is_sorted, put}
use Rattle.std.specs.List.{list_any}
use Rattle.std.specs.Ordering.{eq_by_cmp, nat_cmp}
use Rattle.std.proofs.lemmas.Bool.{eq-eqb, eqb-true}
use Rattle.std.proofs.lemmas.List.{append_assoc}
use Rattle.advert_queue.proofs.RisingEntries.{keys_rise}
use Rattle.net_types.proofs.FindLemmas.{any_at}
use Rattle.net_types.proofs.OrderLemmas.{ips_total}
use Rattle.net_types.proofs.OrderedLemmas.{any_member, member_any, ordered_is, ordered_rises, ordered_same}
use Rattle.net_types.proofs.SetLemmas.{Member-append_cases, Member-append_left, Member-append_right, same_append, same_eq, same_refl, same_trans}
use Rattle.net_types.proofs.TieLemmas.{tie_Equal, ties_itself}
use Rattle.net_types.specs.Attributes.{same_ip}
use Rattle.net_types.specs.Keys.{ip_cmp}
use Rattle.net_types.specs.Maps.{ordered}
use Rattle.net_types.specs.Sets.{Member, SameMembers}
use Rattle.net_types.specs.declared.address.Ip.{Ip}
use Rattle.exchange_core.specs.Addresses.{addresses_in}

abbrev Entries : Type 0
Entries = List (Ip × Unit {0})

-- ---- the order

pub ips_tie : (x y : Ip) → eq_by_cmp ip_cmp x y ≡ true → x ≡ y
ips_tie x y e = λ i. record { 0 = nat_cmp-IsAntisymmetric x.0 y.0 (tie_Equal (nat_cmp x.0 y.0) e) i }

among_member : (ip : Ip) (xs : List Ip) → list_any (same_ip ip) xs ≡ true → Member ip xs
among_member ip [] e = absurd (cc)
among_member ip (x ∷ xs) e =
    elim (same_ip ip x) as (λ b. same_ip ip x ≡ b → (b || list_any (same_ip ip) xs) ≡ true → Member ip (x ∷ xs)) [
      | true ↦ λ t is. inl (λ i. record { 0 = eqb-true ip.0 x.0 t i })
      | false ↦ λ t is. inr (among_member ip xs is)
    ] refl e

member_among : (ip : Ip) (xs : List Ip) → Member ip xs → list_any (same_ip ip) xs ≡ true
member_among ip xs m = any_at (same_ip ip) xs ip m (eq-eqb ip.0 ip.0 refl)

-- ---- what is found

-- what has an entry is a member
found_member : (ip : Ip) (es : Entries) → is_some (find ip_cmp ip es) ≡ true → Member ip (addresses_in es)
found_member ip es found = any_member ip_cmp ips_total ips_tie ip (addresses_in es) (sym (is_some-find ip_cmp ip es) ∙ found)

member_found : (ip : Ip) (es : Entries) → Member ip (addresses_in es) → is_some (find ip_cmp ip es) ≡ true
member_found ip es m = is_some-find ip_cmp ip es ∙ member_any ip_cmp ips_total ips_tie ip (addresses_in es) m

alike : (a b : Bool) → (a ≡ true → b ≡ true) → (b ≡ true → a ≡ true) → a ≡ b
alike true b to back = sym (to refl)
alike false true to back = back refl
alike false false to back = refl

-- an address has an entry where it is among the addresses
pub found_among : (ip : Ip) (es : Entries) → is_some (find ip_cmp ip es) ≡ list_any (same_ip ip) (addresses_in es)
found_among ip es = alike (is_some (find ip_cmp ip es)) (list_any (same_ip ip) (addresses_in es)) (λ found. member_among ip (addresses_in es) (found_member ip es found)) (λ among. member_found ip es (among_member ip (addresses_in es) among))

-- ---- one address more

put_same : (ip : Ip) (es : Entries) → SameMembers (addresses_in (put ip_cmp ip tt es)) (addresses_in es ++ ip ∷ [])
put_same ip es = record {
  onto = λ x m. onto x (eq_by_cmp ip_cmp x ip) refl (sym (ap is_some (find-put ip_cmp ips_total x ip tt es)) ∙ member_found x (put ip_cmp ip tt es) m);
  back = λ x m. found_member x (put ip_cmp ip tt es) (ap is_some (find-put ip_cmp ips_total x ip tt es) ∙ back x (eq_by_cmp ip_cmp x ip) refl (Member-append_cases (addresses_in es) (ip ∷ []) x m));
}
  where
    onto : (x : Ip) (b : Bool) → eq_by_cmp ip_cmp x ip ≡ b → is_some (cond b (Some tt) (find ip_cmp x es)) ≡ true → Member x (addresses_in es ++ ip ∷ [])
    onto x true tie there = Member-append_right (addresses_in es) (ip ∷ []) x (inl (ips_tie x ip tie))
    onto x false apart there = Member-append_left (addresses_in es) (ip ∷ []) x (found_member x es there)

    back : (x : Ip) (b : Bool) → eq_by_cmp ip_cmp x ip ≡ b → Member x (addresses_in es) ⊎ Member x (ip ∷ []) → is_some (cond b (Some tt) (find ip_cmp x es)) ≡ true
    back x true tie either = refl
    back x false apart (inl old) = member_found x es old
    back x false apart (inr (inl e)) = let both : true ≡ false = sym (subst (λ y. eq_by_cmp ip_cmp x y ≡ true) e (ties_itself ips_total x)) ∙ apart in cc
    back x false apart (inr (inr none)) = absurd none

pub put_is : (ip : Ip) (es new : Entries) → is_sorted ip_cmp new ≡ true → new ≡ put ip_cmp ip tt es → addresses_in new ≡ ordered ip_cmp (addresses_in es ++ ip ∷ [])
put_is ip es new sorted is =
    ordered_is ip_cmp ips_total ips_tie (addresses_in new) (addresses_in es ++ ip ∷ []) (keys_rise ip_cmp ips_total new sorted)
    (subst (λ (ds : Entries). SameMembers (addresses_in ds) (addresses_in es ++ ip ∷ [])) (sym is) (put_same ip es))

-- a place of the room at most
pub one_at_most : (b : Bool) → (if b then 0 else 1) ≤ 1
one_at_most true = omega arith
one_at_most false = omega arith

-- ---- some addresses more

pub none_more : (es : Entries) → is_sorted ip_cmp es ≡ true → addresses_in es ≡ ordered ip_cmp (addresses_in es ++ [])
none_more es sorted = ordered_is ip_cmp ips_total ips_tie (addresses_in es) (addresses_in es ++ []) (keys_rise ip_cmp ips_total es sorted) (record {
  onto = λ x m. Member-append_left (addresses_in es) [] x m;
  back = λ x m. elim (Member-append_cases (addresses_in es) [] x m) [ inl old ↦ old | inr none ↦ absurd none ];
})

-- one after some
pub more_after : (xs ys zs : List Ip) (ip : Ip) → zs ≡ ys ++ ip ∷ [] → ordered ip_cmp (ordered ip_cmp (xs ++ ys) ++ ip ∷ []) ≡ ordered ip_cmp (xs ++ zs)
more_after xs ys zs ip is =
    ordered_is ip_cmp ips_total ips_tie (ordered ip_cmp (ordered ip_cmp (xs ++ ys) ++ ip ∷ [])) (xs ++ zs) (ordered_rises ip_cmp ips_total ips_tie (ordered ip_cmp (xs ++ ys) ++ ip ∷ []))
    (same_trans (ordered_same ip_cmp ips_total ips_tie (ordered ip_cmp (xs ++ ys) ++ ip ∷ []))
    (same_trans (same_append (ordered_same ip_cmp ips_total ips_tie (xs ++ ys)) (same_refl (ip ∷ [])))
    (same_eq (append_assoc xs ys (ip ∷ []) ∙ ap (λ us. xs ++ us) (sym is)))))
