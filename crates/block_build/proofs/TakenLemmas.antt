-- Results that leave by the ports of a set, or by none of these.
use Rattle.std.proofs.Common.{◌≡◌, ◌≤◌, ◌<◌, ◌+◌, ◌⊎◌, ℕ, drop, get_or, length, Bool, true, false, Option, Some, None, List, [], ◌∷◌, ◌++◌, cond, map, if◌then◌else◌, refl, inl, inr, sym, ap, ◌∙◌, subst}
use Rattle.std.proofs.lemmas.Bool.{false≢true}
use Rattle.std.proofs.lemmas.List.{drop_all, drop_more}
use Rattle.std.proofs.lemmas.Option.{same_Some}
use Rattle.std.specs.Option.{option_map_or}
use Rattle.classifier.proofs.ItemLemmas.{Member-push, among-member}
use Rattle.classifier.specs.Items.{AreNew, Item, add, add_all, is_among}
use Rattle.classifier.specs.Lines.{line}
use Rattle.classifier.specs.declared.line.Line.{Line}
use Rattle.net_types.proofs.SetLemmas
use Rattle.net_types.specs.Cubes.{lies_within_cube}
use Rattle.net_types.specs.Sets.{Member}
use Rattle.net_types.specs.declared.address.Pid.{Pid}
use Rattle.net_types.specs.declared.address.PortNo.{PortNo}
use Rattle.net_types.specs.declared.cube.Cube.{Cube}
use Rattle.net_types.specs.declared.headers.Assign.{Assign}
use Rattle.net_types.specs.declared.headers.Loc.{Loc}
use Rattle.net_types.specs.declared.headers.Loc.TheVariants.{Stay, To, Out, Nowhere}
use Rattle.net_types.specs.declared.route.Offer.{Offer}
use Rattle.block_build.proofs.ByCellLemmas.{none_some}
use Rattle.block_build.specs.ByCells.{beside_at, held_by}
use Rattle.block_build.specs.Closed.{first_holding}
use Rattle.block_build.specs.Offers.{goes_to, has_one_left}
use Rattle.block_build.specs.Ports.{AllFree, AllTaken, AreFree, AreTaken, GiveNew, KeepPorts, is_taken}
use Rattle.block_build.specs.Receivers.{add_exit, add_exits, exit_of, received_items, received_lines}
use Rattle.block_build.specs.declared.receive.Receiver.{Receiver}

-- all locations of the items have it
abbrev pub AllGo : (Loc → Type 0) → List Item → Type 0
AllGo P items = (i : Item) → Member i items → P i.1

none-go : (P : Loc → Type 0) → AllGo P []
none-go P i stands = elim stands [ ]

added-go : (P : Loc → Type 0) (kept : List Item) (k : Item) → AllGo P kept → P k.1 → AllGo P (add kept k)
added-go P kept k all one = by (is_among kept k)
  where
    by : (b : Bool) → AllGo P (if b then kept else kept ++ k ∷ [])
    by true = all
    by false = λ i stands. elim (Member-push kept k i stands) [
      | inl m ↦ all i m
      | inr e ↦ subst (λ (x : Item). P x.1) (sym e) one
    ]

-- what two lists give together is what each gives
pub all-added-go : (P : Loc → Type 0) (xs ys : List Item) → AllGo P xs → AllGo P ys → AllGo P (add_all xs ys)
all-added-go P xs [] all more = all
all-added-go P xs (y ∷ ys) all more = all-added-go P (add xs y) ys (added-go P xs y all (more y (inl refl))) (λ i k. more i (inr k))

exit-goes : (P : Loc → Type 0) (kept : List Item) (set : Assign) (exit : Option PortNo) → AllGo P kept → ((port : PortNo) → exit ≡ Some port → P (Out port)) → AllGo P (add_exit kept set exit)
exit-goes P kept set None all leaves = all
exit-goes P kept set (Some port) all leaves = added-go P kept (set, Out port) all (leaves port refl)

exits-go : (P : Loc → Type 0) (hop : PortNo) (kept items : List Item) → AllGo P kept → P (Out hop) → ((i : Item) → Member i items → (port : PortNo) → i.1 ≡ Out port → P (Out port)) → AllGo P (add_exits hop kept items)
exits-go P hop kept [] all stay out = all
exits-go P hop kept (i ∷ items) all stay out = exits-go P hop (add_exit kept i.0 (exit_of hop i.1)) items (exit-goes P kept i.0 (exit_of hop i.1) all (leaves i.1 refl)) stay (λ j k. out j (inr k))
  where
    leaves : (loc : Loc) → i.1 ≡ loc → (port : PortNo) → exit_of hop loc ≡ Some port → P (Out port)
    leaves Stay is port e = subst (λ p. P (Out p)) (same_Some _ _ e) stay
    leaves (To who) is port e = absurd (none_some port e)
    leaves (Out to) is port e = subst (λ p. P (Out p)) (same_Some _ _ e) (out i (inl refl) to is)
    leaves Nowhere is port e = absurd (none_some port e)

-- results leave by the port of the NEXT_HOP, or by those that they name
pub received-go : (P : Loc → Type 0) (hop : PortNo) (items : List Item) → P (Out hop) → ((i : Item) → Member i items → (port : PortNo) → i.1 ≡ Out port → P (Out port)) → AllGo P (received_items hop items)
received-go P hop [] stay out = λ i stands. elim stands [
  | inl e ↦ subst (λ (x : Item). P x.1) (sym e) stay
  | inr k ↦ elim k [ ]
]
received-go P hop (i ∷ items) stay out = exits-go P hop [] (i ∷ items) (none-go P) stay out

-- the rules to leave by are those of the receiver's rules
pub lines-received : (P : List Item → Type 0) (hop : PortNo) (ys : List Line) → ((y : Line) → Member y ys → P (received_items hop y.results)) → (z : Line) → Member z (received_lines hop ys) → P z.results
lines-received P hop [] each z stands = elim stands [ ]
lines-received P hop (y ∷ ys) each z (inl e) = subst (λ (x : Line). P x.results) (sym e) (each y (inl refl))
lines-received P hop (y ∷ ys) each z (inr k) = lines-received P hop ys (λ x l. each x (inr l)) z k

-- a receiver's rule is one of those to leave by
pub line-received : (hop : PortNo) (ys : List Line) (y : Line) → Member y ys → Member (line (received_items hop y.results) y.cube) (received_lines hop ys)
line-received hop [] y stands = elim stands [ ]
line-received hop (x ∷ ys) y (inl e) = inl (ap (λ (z : Line). line (received_items hop z.results) z.cube) e)
line-received hop (x ∷ ys) y (inr k) = inr (line-received hop ys y k)

-- what the first rule gives that holds a cube is what one of the rules gives
pub held-of : (P : List Item → Type 0) (c : Cube) (ys : List Line) → P [] → ((y : Line) → Member y ys → P y.results) → P (held_by c ys)
held-of P c [] none each = none
held-of P c (y ∷ ys) none each = by (lies_within_cube c y.cube) (held-of P c ys none (λ x k. each x (inr k)))
  where
    by : (b : Bool) → P (held_by c ys) → P (option_map_or (λ (x : Line). x.results) (cond b (Some y) (first_holding c ys)) [])
    by true rest = each y (inl refl)
    by false rest = rest

-- the first rule that holds a cube is one of the rules
pub holding-stands : (c : Cube) (ys : List Line) (y : Line) → first_holding c ys ≡ Some y → Member y ys
holding-stands c [] y e = absurd (none_some y e)
holding-stands c (x ∷ ys) y e = by (holding-stands c ys y) (lies_within_cube c x.cube) e
  where
    by : (first_holding c ys ≡ Some y → Member y ys) → (b : Bool) → cond b (Some x) (first_holding c ys) ≡ Some y → Member y (x ∷ ys)
    by more true f = inl (sym (same_Some _ _ f))
    by more false f = inr (more f)

-- the rules of cells beside what a receiver makes leave by the ports by which both do
pub beside-taken : (ports : List ℕ) (best : Pid) (offers : List Offer) (xs : List Line) (r : Receiver) (zs : List Line) → AllTaken ports zs → AllTaken ports r.lines → AllTaken ports (map (beside_at best offers xs r) zs)
beside-taken ports best offers xs r zs taken theirs w stands =
    let image = SetLemmas.map-Member (beside_at best offers xs r) zs w stands in
    let z = image.of in
    subst (λ (x : Line). AreTaken ports x.results) (sym image.is)
    (by z (taken z image.stands) (goes_to (has_one_left offers (held_by z.cube xs)) best (held_by z.cube xs) r.who))
  where
    taken-there : Loc → Type 0
    taken-there loc = is_taken ports loc ≡ true

    by : (z : Line) → AreTaken ports z.results → (b : Bool) → AreTaken ports (if b then add_all z.results (held_by z.cube r.lines) else z.results)
    by z own true = all-added-go taken-there z.results (held_by z.cube r.lines) own (held-of (λ items. AreTaken ports items) z.cube r.lines (none-go taken-there) theirs)
    by z own false = own

-- more ports are taken
pub taken-kept : (old new : List ℕ) (zs : List Line) → KeepPorts old new → AllTaken old zs → AllTaken new zs
taken-kept old new zs kept taken z stands i k = kept i.1 (taken z stands i k)

-- what leaves by other ports is new
pub new-free : (ports : List ℕ) (xs ys : List Item) → AreTaken ports xs → AreFree ports ys → AreNew xs ys
new-free ports xs ys taken free y stands = by (is_among xs y) refl
  where
    by : (b : Bool) → is_among xs y ≡ b → is_among xs y ≡ false
    by true e = absurd (false≢true (sym (free y stands) ∙ taken y (among-member xs y e)))
    by false e = e

-- so nothing is given that is there
pub give-new : (ports : List ℕ) (zs ys : List Line) → AllTaken ports zs → AllFree ports ys → (z : Line) → Member z zs → GiveNew z.results ys
give-new ports zs ys taken free z stands y k = new-free ports z.results y.results (taken z stands) (free y k)

pub out-same : (p q : PortNo) → Out p ≡ Out q → p ≡ q
out-same p q e = cc

-- ---- loops over lists of which each has it in the end

-- what was looked at has it, and the others are left
pub one-done : {A : Type 0} (P Q : A → Type 0) (xs : List A) (i : ℕ) (d : A) → i < length xs → ((x : A) → P x → Q x) → Q (get_or xs i d)
    → ((x : A) → Member x xs → P x ⊎ Member x (drop i xs)) → (x : A) → Member x xs → Q x ⊎ Member x (drop (i + 1) xs)
one-done P Q xs i d less more this before x stands = elim (before x stands) [
  | inl p ↦ inl (more x p)
  | inr k ↦ elim (subst (Member x) (drop_more xs i d less) k) [
    | inl here ↦ inl (subst Q (sym here) this)
    | inr later ↦ inr later
  ]
]

pub all-done : {A : Type 0} (P : A → Type 0) (xs : List A) (i : ℕ) → length xs ≤ i → ((x : A) → Member x xs → P x ⊎ Member x (drop i xs)) → (x : A) → Member x xs → P x
all-done P xs i past before x stands = elim (before x stands) [
  | inl p ↦ p
  | inr k ↦ elim (subst (Member x) (drop_all i xs past) k) [ ]
]
