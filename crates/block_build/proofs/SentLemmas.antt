-- Where the results of a sender's rule go.
use Rattle.std.proofs.Common.{◌≡◌, ◌⊎◌, ℕ, Bool, true, false, ◌||◌, cond, List, [], ◌∷◌, ◌++◌, map, refl, inl, inr, sym, ap, ◌∙◌, subst}
use Rattle.std.specs.Prelude.{nat_eq}
use Rattle.std.proofs.lemmas.Bool.{cases_Bool, eq-eqb, or_cases, false≢true, or_right}
use Rattle.classifier.specs.Items.{Item}
use Rattle.net_types.proofs.SetLemmas
use Rattle.net_types.specs.Answers.{Leaving, is_offered, offered_hole, offered_port, or_default, sent_to, towards}
use Rattle.net_types.specs.Policies.{Packet}
use Rattle.net_types.specs.Sets.{Member, SameMembers, union_over}
use Rattle.net_types.specs.declared.address.Pid.{Pid}
use Rattle.net_types.specs.declared.headers.Headers.{Headers}
use Rattle.net_types.specs.declared.headers.Loc.{Loc}
use Rattle.net_types.specs.declared.headers.Loc.TheVariants.{Stay, To, Out, Nowhere}
use Rattle.net_types.specs.declared.route.Offer.{Offer}
use Rattle.net_types.specs.declared.route.Part.{Part}
use Rattle.block_build.proofs.OfferLemmas.{pid_exact}
use Rattle.block_build.specs.Offers.{is_for, stays, has_one_for, has_one_left, goes_to}
use Rattle.block_build.specs.Outcomes.{Makes, answer_from, received_from, sent_from}

-- ---- holes

-- no participant is a hole
abbrev pub no_hole : Pid → Bool
no_hole who = false

-- where a packet that is sent there goes, past the holes
abbrev pub past : (Pid → Bool) → Loc → Loc
past hole Stay = Stay
past hole (To who) = towards hole who
past hole (Out port) = Out port
past hole Nowhere = Nowhere

-- where the sender's results go, were there no holes
abbrev pub sent_plain : Part → List Packet → List Loc
sent_plain p packets = or_default no_hole p.best (union_over (λ (packet : Packet). sent_to (is_offered p.offers) no_hole p.best packet.1) packets)

sent-past : (exporter hole : Pid → Bool) (best : Pid) (l : Loc) → sent_to exporter hole best l ≡ map (past hole) (sent_to exporter no_hole best l)
sent-past exporter hole best Stay = refl
sent-past exporter hole best (To who) = of (exporter who)
  where
    of : (b : Bool) → cond b (towards hole who ∷ []) [] ≡ map (past hole) (cond b (To who ∷ []) [])
    of true = refl
    of false = refl
sent-past exporter hole best (Out port) = refl
sent-past exporter hole best Nowhere = refl

default-past : (hole : Pid → Bool) (best : Pid) (ls : List Loc) → or_default hole best (map (past hole) ls) ≡ map (past hole) (or_default no_hole best ls)
default-past hole best [] = refl
default-past hole best (l ∷ ls) = refl

-- the results go where they would without holes, past the holes
sent-holes : (p : Part) (packets : List Packet) → sent_from p packets ≡ map (past (offered_hole p.offers)) (sent_plain p packets)
sent-holes p packets =
    let hole = offered_hole p.offers in
    let plain = λ (packet : Packet). sent_to (is_offered p.offers) no_hole p.best packet.1 in
    ap (or_default hole p.best) (
    SetLemmas.union_ext (λ (packet : Packet). sent_to (is_offered p.offers) hole p.best packet.1) (λ (packet : Packet). map (past hole) (plain packet)) packets
    (λ (packet : Packet). sent-past (is_offered p.offers) hole p.best packet.1)
    ∙ sym (SetLemmas.map-union (past hole) plain packets))
    ∙ default-past hole p.best (union_over plain packets)

-- what becomes of a packet that was sent there, past the holes
abbrev pub received_past : (Pid → Makes) → Part → Headers → Loc → List Leaving
received_past inbound p h l = received_from inbound (offered_port p.offers) h (past (offered_hole p.offers) l)

pub answer-past : (outbound : Makes) (inbound : Pid → Makes) (p : Part) (h : Headers) → answer_from outbound inbound p h ≡ union_over (received_past inbound p h) (sent_plain p (outbound h))
answer-past outbound inbound p h =
    ap (union_over (received_from inbound (offered_port p.offers) h)) (sent-holes p (outbound h))
    ∙ SetLemmas.union-map (received_from inbound (offered_port p.offers) h) (past (offered_hole p.offers)) (sent_plain p (outbound h))

-- ---- one result

abbrev is_to : Loc → Bool
is_to Stay = false
is_to (To who) = true
is_to (Out port) = false
is_to Nowhere = false

abbrev pid_in : Loc → ℕ
pid_in Stay = 0
pid_in (To who) = who.0
pid_in (Out port) = 0
pid_in Nowhere = 0

for-sent : (best who : Pid) (offers : List Offer) (l : Loc) → is_offered offers who ≡ true → is_for best who l ≡ true → Member (To who) (sent_to (is_offered offers) no_hole best l)
for-sent best who offers Stay there h = inl (ap To (sym (pid_exact best who h)))
for-sent best who offers (To other) there h =
    subst (λ (w : Pid). Member (To who) (cond (is_offered offers w) (To w ∷ []) [])) (sym (pid_exact other who h))
    (subst (λ b. Member (To who) (cond b (To who ∷ []) [])) (sym there) (inl refl))
for-sent best who offers (Out port) there h = absurd (false≢true h)
for-sent best who offers Nowhere there h = absurd (false≢true h)

sent-for : (best who : Pid) (offers : List Offer) (l : Loc) → Member (To who) (sent_to (is_offered offers) no_hole best l) → is_for best who l ≡ true
sent-for best who offers Stay (inl e) = eq-eqb best.0 who.0 (sym (ap pid_in e))
sent-for best who offers Stay (inr h) = elim h [ ]
sent-for best who offers (To other) h = of (is_offered offers other) h
  where
    of : (b : Bool) → Member (To who) (cond b (To other ∷ []) []) → nat_eq other.0 who.0 ≡ true
    of true (inl e) = eq-eqb other.0 who.0 (sym (ap pid_in e))
    of true (inr k) = elim k [ ]
    of false k = elim k [ ]
sent-for best who offers (Out port) h = elim h [ ]
sent-for best who offers Nowhere (inl e) = absurd (false≢true (sym (ap is_to e)))
sent-for best who offers Nowhere (inr h) = elim h [ ]

-- whom one result goes to stands in the offers, where the best one does
to-offered : (best who : Pid) (offers : List Offer) (l : Loc) → is_offered offers best ≡ true → Member (To who) (sent_to (is_offered offers) no_hole best l) → is_offered offers who ≡ true
to-offered best who offers Stay there (inl e) = ap (is_offered offers) (same e) ∙ there
  where
    same : To who ≡ To best → who ≡ best
    same e = cc
to-offered best who offers Stay there (inr h) = elim h [ ]
to-offered best who offers (To other) there h = of (is_offered offers other) refl h
  where
    same : To who ≡ To other → who ≡ other
    same e = cc

    of : (b : Bool) → is_offered offers other ≡ b → Member (To who) (cond b (To other ∷ []) []) → is_offered offers who ≡ true
    of true e (inl k) = ap (is_offered offers) (same k) ∙ e
    of true e (inr k) = elim k [ ]
    of false e k = elim k [ ]
to-offered best who offers (Out port) there h = elim h [ ]
to-offered best who offers Nowhere there (inl e) = absurd (false≢true (sym (ap is_to e)))
to-offered best who offers Nowhere there (inr h) = elim h [ ]

-- ---- all results

abbrev pub sent_items : Pid → List Offer → List Item → List Loc
sent_items best offers items = union_over (λ (i : Item). sent_to (is_offered offers) no_hole best i.1) items

all-for-sent : (best who : Pid) (offers : List Offer) (items : List Item) → is_offered offers who ≡ true → has_one_for best who items ≡ true → Member (To who) (sent_items best offers items)
all-for-sent best who offers [] there h = absurd (false≢true h)
all-for-sent best who offers (i ∷ items) there h = elim (or_cases (is_for best who i.1) (has_one_for best who items) h) [
  | inl mine ↦ SetLemmas.Member-append_left (sent_to (is_offered offers) no_hole best i.1) (sent_items best offers items) (To who) (for-sent best who offers i.1 there mine)
  | inr later ↦ SetLemmas.Member-append_right (sent_to (is_offered offers) no_hole best i.1) (sent_items best offers items) (To who) (all-for-sent best who offers items there later)
]

all-sent-for : (best who : Pid) (offers : List Offer) (items : List Item) → Member (To who) (sent_items best offers items) → has_one_for best who items ≡ true
all-sent-for best who offers [] h = elim h [ ]
all-sent-for best who offers (i ∷ items) h = elim (SetLemmas.Member-append_cases (sent_to (is_offered offers) no_hole best i.1) (sent_items best offers items) (To who) h) [
  | inl k ↦ ap (λ b. b || has_one_for best who items) (sent-for best who offers i.1 k)
  | inr k ↦ or_right (is_for best who i.1) (has_one_for best who items) (all-sent-for best who offers items k)
]

-- a result that stays gives a location, another none
one-left : (best : Pid) (offers : List Offer) (l : Loc) (rest : List Loc) → stays offers l ≡ true → or_default no_hole best (sent_to (is_offered offers) no_hole best l ++ rest) ≡ sent_to (is_offered offers) no_hole best l ++ rest
one-left best offers Stay rest h = refl
one-left best offers (To other) rest h = subst (λ b. or_default no_hole best (cond b (To other ∷ []) [] ++ rest) ≡ cond b (To other ∷ []) [] ++ rest) (sym h) refl
one-left best offers (Out port) rest h = absurd (false≢true h)
one-left best offers Nowhere rest h = refl

none-left : (best : Pid) (offers : List Offer) (l : Loc) → stays offers l ≡ false → sent_to (is_offered offers) no_hole best l ≡ []
none-left best offers Stay h = cc
none-left best offers (To other) h = ap (λ b. cond b (To other ∷ []) []) h
none-left best offers (Out port) h = refl
none-left best offers Nowhere h = cc

some-left : (best : Pid) (offers : List Offer) (items : List Item) → has_one_left offers items ≡ true → or_default no_hole best (sent_items best offers items) ≡ sent_items best offers items
some-left best offers [] h = absurd (false≢true h)
some-left best offers (i ∷ items) h = elim (cases_Bool (stays offers i.1)) [
  | inl one ↦ one-left best offers i.1 (sent_items best offers items) one
  | inr gone ↦ subst (λ zs. or_default no_hole best (zs ++ sent_items best offers items) ≡ zs ++ sent_items best offers items) (sym (none-left best offers i.1 gone))
      (some-left best offers items (sym (ap (λ b. b || has_one_left offers items) gone) ∙ h))
]

all-gone : (best : Pid) (offers : List Offer) (items : List Item) → has_one_left offers items ≡ false → sent_items best offers items ≡ []
all-gone best offers [] h = refl
all-gone best offers (i ∷ items) h = elim (cases_Bool (stays offers i.1)) [
  | inl one ↦ absurd (false≢true (sym h ∙ ap (λ b. b || has_one_left offers items) one))
  | inr gone ↦ ap (λ zs. zs ++ sent_items best offers items) (none-left best offers i.1 gone) ∙ all-gone best offers items (sym (ap (λ b. b || has_one_left offers items) gone) ∙ h)
]

-- where the results send a packet, with the default
abbrev pub sent_all : Pid → List Offer → List Item → List Loc
sent_all best offers items = or_default no_hole best (sent_items best offers items)

pub goes-sent : (best who : Pid) (offers : List Offer) (items : List Item) → is_offered offers who ≡ true → goes_to (has_one_left offers items) best items who ≡ true → Member (To who) (sent_all best offers items)
goes-sent best who offers items there h = elim (cases_Bool (has_one_left offers items)) [
  | inl some ↦ subst (Member (To who)) (sym (some-left best offers items some))
      (all-for-sent best who offers items there (sym (ap (λ b. cond b (has_one_for best who items) (nat_eq best.0 who.0)) some) ∙ h))
  | inr gone ↦ subst (λ ls. Member (To who) (or_default no_hole best ls)) (sym (all-gone best offers items gone))
      (inl (ap To (sym (pid_exact best who (sym (ap (λ b. cond b (has_one_for best who items) (nat_eq best.0 who.0)) gone) ∙ h)))))
]

pub sent-goes : (best who : Pid) (offers : List Offer) (items : List Item) → Member (To who) (sent_all best offers items) → goes_to (has_one_left offers items) best items who ≡ true
sent-goes best who offers items h = elim (cases_Bool (has_one_left offers items)) [
  | inl some ↦ ap (λ b. cond b (has_one_for best who items) (nat_eq best.0 who.0)) some
      ∙ all-sent-for best who offers items (subst (Member (To who)) (some-left best offers items some) h)
  | inr gone ↦ ap (λ b. cond b (has_one_for best who items) (nat_eq best.0 who.0)) gone
      ∙ only (subst (λ ls. Member (To who) (or_default no_hole best ls)) (all-gone best offers items gone) h)
]
  where
    only : Member (To who) (To best ∷ []) → nat_eq best.0 who.0 ≡ true
    only (inl e) = eq-eqb best.0 who.0 (sym (ap pid_in e))
    only (inr k) = elim k [ ]

-- ---- packets

-- the default, or one of those that are there
default-cases : (best : Pid) (ls : List Loc) (l : Loc) → Member l (or_default no_hole best ls) → (l ≡ To best) ⊎ Member l ls
default-cases best [] l (inl e) = inl e
default-cases best [] l (inr k) = elim k [ ]
default-cases best (x ∷ ls) l k = inr k

-- whom packets are sent to stands in the offers, where the best one does
pub sent-offered : (p : Part) (packets : List Packet) (who : Pid) → is_offered p.offers p.best ≡ true → Member (To who) (sent_plain p packets) → is_offered p.offers who ≡ true
sent-offered p packets who there h = elim (default-cases p.best (union_over (λ (packet : Packet). sent_to (is_offered p.offers) no_hole p.best packet.1) packets) (To who) h) [
  | inl e ↦ ap (is_offered p.offers) (same e) ∙ there
  | inr k ↦
      let s = SetLemmas.union-Member (λ (packet : Packet). sent_to (is_offered p.offers) no_hole p.best packet.1) packets (To who) k in
      to-offered p.best who p.offers s.of.1 there s.gives
]
  where
    same : To who ≡ To p.best → who ≡ p.best
    same e = cc

same_default : (best : Pid) (xs ys : List Loc) → SameMembers xs ys → SameMembers (or_default no_hole best xs) (or_default no_hole best ys)
same_default best [] [] s = SetLemmas.same_refl _
same_default best [] (y ∷ ys) s = elim (s.back y (inl refl)) [ ]
same_default best (x ∷ xs) [] s = elim (s.onto x (inl refl)) [ ]
same_default best (x ∷ xs) (y ∷ ys) s = s

-- where packets are sent depends on the set of them alone
pub same_sent : (p : Part) (xs ys : List Packet) → SameMembers xs ys → SameMembers (sent_plain p xs) (sent_plain p ys)
same_sent p xs ys s =
    same_default p.best (union_over (λ (packet : Packet). sent_to (is_offered p.offers) no_hole p.best packet.1) xs) (union_over (λ (packet : Packet). sent_to (is_offered p.offers) no_hole p.best packet.1) ys)
    (SetLemmas.same_union (λ (packet : Packet). sent_to (is_offered p.offers) no_hole p.best packet.1) (λ (packet : Packet). sent_to (is_offered p.offers) no_hole p.best packet.1) s (λ (packet : Packet). SetLemmas.same_refl (sent_to (is_offered p.offers) no_hole p.best packet.1)))
