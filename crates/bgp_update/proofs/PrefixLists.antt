-- Lists of prefixes, ascending and each once.
use Rattle.std.proofs.Common.{◌≡◌, Bool, true, false, not, List, [], ◌∷◌, cond, filter, sym, ap, subst, ◌∙◌, inl, inr}
use Rattle.std.specs.List.{Contains}
use Rattle.std.proofs.lemmas.Bool.{false≢true, cases_Bool, false_from_ne_true}
use Rattle.net_types.proofs.OrderLemmas.{prefix_tie, prefixes_total}
use Rattle.net_types.specs.Keys.{prefix_cmp}
use Rattle.net_types.specs.Maps.{ordered}
use Rattle.bgp_update.specs.Answers.{is_among}
use Rattle.net_types.proofs.MemberLemmas.{Member-at}
use Rattle.net_types.proofs.OrderedLemmas.{any_member, member_any, ordered_rises, ordered_same}
use Rattle.net_types.specs.Sets.{IsRising, Member}
use Rattle.net_types.specs.UpdateSpelling.{IsLeft, IsOrdered, IsOrderedWithout, is_before}
use Rattle.net_types.specs.declared.prefix.Prefix.{Prefix}

-- ---- members

pub member_from : {A : Type 0} (xs : List A) (x : A) → Contains xs x → Member x xs
member_from xs x h = Member-at xs h.0 x x h.1 h.2

-- ---- in order

-- the prefixes in order are those of the list, ascending
pub is_ordered : (ps : List Prefix) → IsOrdered (ordered prefix_cmp ps) ps
is_ordered ps = record { rising = ordered_rises prefix_cmp prefixes_total prefix_tie ps; same = ordered_same prefix_cmp prefixes_total prefix_tie ps }

pub in_order : (ps qs : List Prefix) → qs ≡ ordered prefix_cmp ps → IsOrdered qs ps
in_order ps qs is = subst (λ xs. IsOrdered xs ps) (sym is) (is_ordered ps)

-- ---- members

pub among_member : (p : Prefix) (ps : List Prefix) → is_among p ps ≡ true → Member p ps
among_member = any_member prefix_cmp prefixes_total prefix_tie

pub member_among : (p : Prefix) (ps : List Prefix) → Member p ps → is_among p ps ≡ true
member_among = member_any prefix_cmp prefixes_total prefix_tie

-- ---- the ones that aren't announced

kept : (ps announced : List Prefix) (p : Prefix) → Member p (filter (λ q. not (is_among q announced)) ps) → IsLeft ps announced p
kept [] announced p m = elim m [ ]
kept (q ∷ ps) announced p m = elim (cases_Bool (is_among q announced)) [
  | inl there ↦ let h = kept ps announced p (subst (λ (b : Bool). Member p (cond (not b) (q ∷ filter (λ q. not (is_among q announced)) ps) (filter (λ q. not (is_among q announced)) ps))) there m) in
      record { stands = inr h.stands; apart = h.apart }
  | inr away ↦ elim (subst (λ (b : Bool). Member p (cond (not b) (q ∷ filter (λ q. not (is_among q announced)) ps) (filter (λ q. not (is_among q announced)) ps))) away m) [
    | inl e ↦ record { stands = inl e; apart = λ n. false≢true (sym away ∙ ap (λ (x : Prefix). is_among x announced) (sym e) ∙ member_among p announced n) }
    | inr n ↦ let h = kept ps announced p n in record { stands = inr h.stands; apart = h.apart }
  ]
]

keeps : (ps announced : List Prefix) (p : Prefix) → Member p ps → (Member p announced → ⊥) → Member p (filter (λ q. not (is_among q announced)) ps)
keeps [] announced p m away = elim m [ ]
keeps (q ∷ ps) announced p (inl e) away =
    let none : is_among q announced ≡ false = false_from_ne_true _ (λ t. away (subst (λ (x : Prefix). Member x announced) (sym e) (among_member q announced t))) in
    rw none (inl e)
keeps (q ∷ ps) announced p (inr m) away = let h = keeps ps announced p m away in elim (cases_Bool (is_among q announced)) [ inl there ↦ rw there h | inr other ↦ rw other (inr h) ]

left_case : (x : Prefix) (xs : List Prefix) (test : Prefix → Bool) (b : Bool) → IsRising is_before (x ∷ xs) → ((y : Prefix) → Member y (filter test xs) → Member y xs) → IsRising is_before (filter test xs) → IsRising is_before (cond b (x ∷ filter test xs) (filter test xs))
left_case x xs test true r from later = (λ y m. r.0 y (from y m), later)
left_case x xs test false r from later = later

left_rising : (xs announced : List Prefix) → IsRising is_before xs → IsRising is_before (filter (λ q. not (is_among q announced)) xs)
left_rising [] announced r = tt
left_rising (x ∷ xs) announced r = left_case x xs (λ q. not (is_among q announced)) (not (is_among x announced)) r (λ y m. (kept xs announced y m).stands) (left_rising xs announced r.1)

pub ordered_without : (xs list announced : List Prefix) → IsOrdered xs list → IsOrderedWithout (filter (λ q. not (is_among q announced)) xs) list announced
ordered_without xs list announced o = record {
  rising = left_rising xs announced o.rising;
  onto = λ p m. let h = kept xs announced p m in record { stands = o.same.onto p h.stands; apart = h.apart };
  back = λ p h. keeps xs announced p (o.same.back p h.stands) h.apart;
}
