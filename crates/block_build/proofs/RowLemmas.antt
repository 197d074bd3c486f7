-- Cells beside what receivers make in them: receiver by receiver, and cell by cell.
use Rattle.std.proofs.Common.{◌≡◌, ◌<◌, ◌+◌, ℕ, suc, IsTrue, Bool, true, false, cond, drop, take, get_or, List, [], ◌∷◌, ◌++◌, length, map, arith, refl, inl, inr, sym, ap, ◌∙◌, subst}
use Rattle.std.proofs.lemmas.List.{drop_more, length-drop, take-append-drop, take_more}
use Rattle.cells.specs.Firsts.{firsts}
use Rattle.classifier.proofs.UnionLemmas.{joined-HasNoRepeats}
use Rattle.classifier.specs.Items.{Item, add_all}
use Rattle.classifier.specs.Lines.{line}
use Rattle.classifier.specs.Meaning.{cubes_of}
use Rattle.classifier.specs.declared.line.Line.{Line}
use Rattle.net_types.specs.Sets.{HasNoRepeats, Member}
use Rattle.net_types.specs.declared.address.Pid.{Pid}
use Rattle.net_types.specs.declared.cube.Cube.{Cube}
use Rattle.net_types.specs.declared.route.Offer.{Offer}
use Rattle.block_build.proofs.FewLemmas.{all-both}
use Rattle.block_build.proofs.TakenLemmas.{beside-taken, give-new, taken-kept}
use Rattle.block_build.specs.ByCells.{beside_all, beside_at, beside_them, held_by}
use Rattle.block_build.specs.Known.{AreKnown, AreKnownBeside, IsKnown}
use Rattle.block_build.specs.Offers.{goes_to, has_one_left}
use Rattle.block_build.specs.Ports.{AllTaken, AreTaken, GiveNew}
use Rattle.block_build.specs.declared.known.Known.{Known}
use Rattle.block_build.specs.declared.receive.Receiver.{Receiver}

module _ (best : Pid) (offers : List Offer) (xs : List Line) where
  map-none : (zs : List Line) → zs ≡ map (beside_them best offers xs []) zs
  map-none [] = refl
  map-none (z ∷ zs) = ap (λ ws. z ∷ ws) (map-none zs)

  map-more : (r : Receiver) (rs : List Receiver) (zs : List Line) → map (beside_them best offers xs rs) (map (beside_at best offers xs r) zs) ≡ map (beside_them best offers xs (r ∷ rs)) zs
  map-more r rs [] = refl
  map-more r rs (z ∷ zs) = ap (λ ws. beside_them best offers xs rs (beside_at best offers xs r z) ∷ ws) (map-more r rs zs)

  -- receiver by receiver they are what they are cell by cell
  pub all-each : (zs : List Line) (rs : List Receiver) → beside_all best offers xs zs rs ≡ map (beside_them best offers xs rs) zs
  all-each zs [] = map-none zs
  all-each zs (r ∷ rs) = all-each (map (beside_at best offers xs r) zs) rs ∙ map-more r rs zs

  -- some receivers, and then the others
  pub all-rest : (zs : List Line) (rs : List Receiver) (n : ℕ) → beside_all best offers xs (map (beside_them best offers xs (take n rs)) zs) (drop n rs) ≡ beside_all best offers xs zs rs
  all-rest zs rs n =
      ap (λ ws. beside_all best offers xs ws (drop n rs)) (sym (all-each zs (take n rs)))
      ∙ sym (all-both best offers xs zs (take n rs) (drop n rs))
      ∙ ap (beside_all best offers xs zs) (take-append-drop n rs)

  -- one receiver less
  pub them-next : (rs : List Receiver) (i : ℕ) (r : Receiver) (z : Line) → i < length rs → r ≡ get_or rs i r → beside_them best offers xs (drop (i + 1) rs) (beside_at best offers xs r z) ≡ beside_them best offers xs (drop i rs) z
  them-next rs i r z lt is = sym (ap (λ qs. beside_them best offers xs qs z) (drop_more rs i r lt ∙ ap (λ q. q ∷ drop (i + 1) rs) (sym is)))

  -- what a receiver makes beside results is there where the sender's rule sends to it
  pub one-made : (r : Receiver) (cell : Cube) (row sent new : List Item) (left goes : Bool) → sent ≡ held_by cell xs → left ≡ has_one_left offers (held_by cell xs) → goes ≡ goes_to left best sent r.who
      → (goes ≡ true → new ≡ add_all row (held_by cell r.lines)) → (goes ≡ false → new ≡ row) → new ≡ (beside_at best offers xs r (line row cell)).results
  one-made r cell row sent new left goes same whose is then else =
      let whole : goes ≡ goes_to (has_one_left offers (held_by cell xs)) best (held_by cell xs) r.who = is ∙ ap (λ b. goes_to b best sent r.who) whose ∙ ap (λ (items : List Item). goes_to (has_one_left offers (held_by cell xs)) best items r.who) same in
      by goes refl ∙ ap (λ b. cond b (add_all row (held_by cell r.lines)) row) whole
    where
      by : (b : Bool) → goes ≡ b → new ≡ cond goes (add_all row (held_by cell r.lines)) row
      by true e = then e ∙ ap (λ b. cond b (add_all row (held_by cell r.lines)) row) (sym e)
      by false e = else e ∙ ap (λ b. cond b (add_all row (held_by cell r.lines)) row) (sym e)

  -- and each of them is there once
  pub made-once : (r : Receiver) (cell : Cube) (row : List Item) → HasNoRepeats row → HasNoRepeats (beside_at best offers xs r (line row cell)).results
  made-once r cell row once = by (goes_to (has_one_left offers (held_by cell xs)) best (held_by cell xs) r.who)
    where
      by : (b : Bool) → HasNoRepeats (cond b (add_all row (held_by cell r.lines)) row)
      by true = joined-HasNoRepeats (add_all row (held_by cell r.lines)) row (held_by cell r.lines) once refl
      by false = once

-- ---- what is known of receivers

known-long : (cells : List Cube) (ports : List ℕ) (ks : List Known) (rs : List Receiver) (all : List ℕ) → AreKnown cells ports ks rs all → length ks ≡ length rs
known-long cells ports [] [] all known = refl
known-long cells ports (k ∷ ks) (r ∷ rs) all known = ap suc (known-long cells known.0 ks rs all known.2)
known-long cells ports [] (r ∷ rs) all known = absurd known
known-long cells ports (k ∷ ks) [] all known = absurd known

-- of one more
pub known-push : (cells : List Cube) (ports : List ℕ) (ks : List Known) (rs : List Receiver) (all : List ℕ) (k : Known) (r : Receiver) (more : List ℕ) → AreKnown cells ports ks rs all → IsKnown cells all k r more
    → AreKnown cells ports (ks ++ k ∷ []) (rs ++ r ∷ []) more
known-push cells ports [] [] all k r more known next = (more, subst (λ (ps : List ℕ). IsKnown cells ps k r more) (sym known) next, refl)
known-push cells ports (j ∷ ks) (q ∷ rs) all k r more known next = (known.0, known.1, known-push cells known.0 ks rs all k r more known.2 next)
known-push cells ports [] (q ∷ rs) all k r more known next = absurd known
known-push cells ports (j ∷ ks) [] all k r more known next = absurd known

-- one more of the first receivers is known
pub known-more : (cells same : List Cube) (ports : List ℕ) (ks js : List Known) (rs : List Receiver) (i : ℕ) (all : List ℕ) (k : Known) (r : Receiver) (more : List ℕ) (n : ℕ) → same ≡ cells → i < length rs → r ≡ get_or rs i r
    → js ≡ ks ++ k ∷ [] → n ≡ i + 1 → AreKnown cells ports ks (take i rs) all → IsKnown same all k r more → AreKnown cells ports js (take n rs) more
known-more cells same ports ks js rs i all k r more n e lt is push count known next =
    let front : take i rs ++ r ∷ [] ≡ take n rs = ap (λ q. take i rs ++ q ∷ []) is ∙ sym (take_more rs i r lt) ∙ ap (λ m. take m rs) (sym count) in
    subst (λ qs. AreKnown cells ports js qs more) front
    (subst (λ ls. AreKnown cells ports ls (take i rs ++ r ∷ []) more) (sym push)
    (known-push cells ports ks (take i rs) all k r more known (subst (λ (cs : List Cube). IsKnown cs all k r more) e next)))

-- there is something of each receiver
pub known-within : (cells : List Cube) (zs : List Line) (ks : List Known) (rs : List Receiver) (i : ℕ) → i < length rs → AreKnownBeside cells zs (drop i ks) (drop i rs) → i < length ks
known-within cells zs ks rs i lt known =
    let long : length (drop i ks) ≡ length (drop i rs) = known-long cells known.0 (drop i ks) (drop i rs) known.1 known.3 in
    omega (arith, long, lt, length-drop i ks, length-drop i rs)

-- beside one of some rules
pub one-known : (cells : List Cube) (zs : List Line) (ks : List Known) (rs : List Receiver) (z : Line) → AreKnownBeside cells zs ks rs → Member z zs → AreKnownBeside cells (z ∷ []) ks rs
one-known cells zs ks rs z known stands =
    (known.0, known.1, (λ y k. elim k [ inl same ↦ subst (λ (w : Line). AreTaken known.0 w.results) (sym same) (known.2 z stands) | inr none ↦ elim none [ ] ]), known.3)

-- the next one is known
pub known-next : (cells : List Cube) (zs : List Line) (ks : List Known) (rs : List Receiver) (i : ℕ) (k : Known) (r : Receiver) → i < length rs → k ≡ get_or ks i k → r ≡ get_or rs i r
    → AreKnownBeside cells zs (drop i ks) (drop i rs) → AreKnownBeside cells zs (k ∷ drop (i + 1) ks) (r ∷ drop (i + 1) rs)
known-next cells zs ks rs i k r lt this that known =
    subst (λ js. AreKnownBeside cells zs js (r ∷ drop (i + 1) rs)) (drop_more ks i k (known-within cells zs ks rs i lt known) ∙ ap (λ j. j ∷ drop (i + 1) ks) (sym this))
    (subst (λ qs. AreKnownBeside cells zs (drop i ks) qs) (drop_more rs i r lt ∙ ap (λ q. q ∷ drop (i + 1) rs) (sym that)) known)

pub places-known : (cells : List Cube) (zs : List Line) (ks : List Known) (rs : List Receiver) (k : Known) (r : Receiver) → AreKnownBeside cells zs (k ∷ ks) (r ∷ rs) → k.places.value.items ≡ firsts (cubes_of r.lines) cells
places-known cells zs ks rs k r known = known.3.1.places

pub apart-known : (cells : List Cube) (ks : List Known) (rs : List Receiver) (z : Line) (k : Known) (r : Receiver) → AreKnownBeside cells (z ∷ []) (k ∷ ks) (r ∷ rs) → IsTrue k.apart → GiveNew z.results r.lines
apart-known cells ks rs z k r known apart = give-new known.0 (z ∷ []) r.lines known.2 (known.3.1.free apart) z (inl refl)

-- the others are known beside what it makes
pub rest-known : (best : Pid) (offers : List Offer) (xs : List Line) (cells : List Cube) (zs : List Line) (ks : List Known) (rs : List Receiver) (k : Known) (r : Receiver) → AreKnownBeside cells zs (k ∷ ks) (r ∷ rs)
    → AreKnownBeside cells (map (beside_at best offers xs r) zs) ks rs
rest-known best offers xs cells zs ks rs k r known =
    let more = known.3.0 in
    let is = known.3.1 in
    (more, known.1, beside-taken more best offers xs r zs (taken-kept known.0 more zs is.kept known.2) is.taken, known.3.2)

-- what all give leaves by all of the ports
pub all-taken : (best : Pid) (offers : List Offer) (xs : List Line) (cells : List Cube) (ports : List ℕ) (zs : List Line) (ks : List Known) (rs : List Receiver) (all : List ℕ) → AllTaken ports zs → AreKnown cells ports ks rs all
    → AllTaken all (map (beside_them best offers xs rs) zs)
all-taken best offers xs cells ports zs ks rs all taken known = subst (AllTaken all) (all-each best offers xs zs rs) (by ports zs ks rs taken known)
  where
    by : (ports : List ℕ) (zs : List Line) (ks : List Known) (rs : List Receiver) → AllTaken ports zs → AreKnown cells ports ks rs all → AllTaken all (beside_all best offers xs zs rs)
    by ports zs [] [] taken known = subst (λ (ps : List ℕ). AllTaken ps zs) known taken
    by ports zs (k ∷ ks) (r ∷ rs) taken known =
        by known.0 (map (beside_at best offers xs r) zs) ks rs (beside-taken known.0 best offers xs r zs (taken-kept ports known.0 zs known.1.kept taken) known.1.taken) known.2
    by ports zs [] (r ∷ rs) taken known = absurd known
    by ports zs (k ∷ ks) [] taken known = absurd known
