-- Lists of rules that may have stopped at a limit.
use Rattle.std.proofs.Common.{◌≡◌, ◌<◌, ◌≤◌, ◌+◌, ◌-◌, ℕ, zero, suc, get_or, arith, Bool, true, false, cond, List, [], ◌∷◌, ◌++◌, append_assoc, drop, length, take, refl, inl, inr, sym, ap, ◌∙◌, subst}
use Rattle.std.proofs.Math.Seq.{take-append_seam}
use Rattle.std.proofs.lemmas.List.{append-nil, at_drop_more, length-append, take_more}
use Rattle.classifier.proofs.AddLemmas.{add_lines_append}
use Rattle.classifier.proofs.BlockLemmas.{add_lines-twice}
use Rattle.classifier.proofs.LineLemmas.{each-add_lines, each-product}
use Rattle.classifier.proofs.ShapeLemmas.{distinct-add_lines}
use Rattle.classifier.specs.Items.{Item}
use Rattle.classifier.specs.Lines.{line, add_lines, product, row}
use Rattle.classifier.specs.Meaning.{HasDistinctCubes}
use Rattle.classifier.specs.declared.join.Join.TheVariants.{Union}
use Rattle.classifier.specs.declared.line.Line.{Line}
use Rattle.net_types.proofs.FindLemmas.{Member-take}
use Rattle.net_types.proofs.MeetLemmas.{IsMeet-meet}
use Rattle.net_types.proofs.SetLemmas
use Rattle.net_types.specs.Meets.{IsMeet}
use Rattle.net_types.specs.Sets.{Member}
use Rattle.net_types.specs.declared.address.Pid.{Pid}
use Rattle.net_types.specs.declared.cube.Cube.{Cube}
use Rattle.net_types.specs.declared.route.Offer.{Offer}
use Rattle.block_build.specs.Bounds.{AreMeets, AreTheirMeets, IsAdded, IsEnd, IsGrown, IsReached, IsSome, IsSomeBeside}
use Rattle.block_build.specs.Offers.{goes_to, has_one_left}
use Rattle.block_build.specs.Spreads.{beside, spread, within_rule}
use Rattle.block_build.specs.declared.receive.Receiver.{Receiver}

-- what a place of a list holds is a member
pub Member-got : {A : Type 0} (xs : List A) (i : ℕ) (x : A) → i < length xs → x ≡ get_or xs i x → Member x xs
Member-got [] i x lt e = absurd (omega (arith, lt))
Member-got (y ∷ xs) zero x lt e = inl e
Member-got (y ∷ xs) (suc i) x lt e = inr (Member-got xs i x (omega (arith, lt)) e)

-- ---- a product that may have stopped

product-last : (xs : List Line) (x : Line) (ys : List Line) → product Union (xs ++ x ∷ []) ys ≡ product Union xs ys ++ row Union x ys
product-last [] x ys = append-nil (row Union x ys)
product-last (z ∷ xs) x ys = ap (λ zs. row Union z ys ++ zs) (product-last xs x ys) ∙ sym (append_assoc (row Union z ys) (product Union xs ys) (row Union x ys))

-- what the first rules of a list add, with those of one more
pub added_more : (old xs ys : List Line) (i : ℕ) (x : Line) → i < length xs → x ≡ get_or xs i x
    → add_lines (add_lines old (product Union (take i xs) ys)) (row Union x ys) ≡ add_lines old (product Union (take (i + 1) xs) ys)
added_more old xs ys i x lt e =
    sym (ap (λ zs. add_lines old (product Union zs ys)) (take_more xs i x lt ∙ ap (λ y. take i xs ++ y ∷ []) (sym e))
    ∙ ap (add_lines old) (product-last (take i xs) x ys) ∙ add_lines_append old (product Union (take i xs) ys) (row Union x ys))

module _ (limit : ℕ) (old xs ys new : List Line) (a : IsAdded limit old xs ys new) where
  added_differ : HasDistinctCubes old → HasDistinctCubes new
  added_differ d = subst HasDistinctCubes (sym a.is) (distinct-add_lines old (product Union (take a.taken xs) ys) d)

  added_meets : (atoms : List Cube) → AreMeets atoms old → AreMeets atoms xs → AreMeets atoms ys → AreMeets atoms new
  added_meets atoms kept own theirs =
      subst (AreMeets atoms) (sym a.is)
      (each-add_lines (λ z. IsMeet atoms z.cube) old (product Union (take a.taken xs) ys) kept
      (each-product (λ z. IsMeet atoms z.cube) Union (take a.taken xs) ys (λ x y c h k e. IsMeet-meet atoms x.cube y.cube c (own x (Member-take a.taken xs x h)) (theirs y k) e)))

-- ---- beside one more receiver

pub added_beside : (limit : ℕ) (xs ys made : List Line) → IsAdded limit [] xs ys made → IsSomeBeside limit true xs ys made
added_beside limit xs ys made a = record {
  whole_within = a.whole_within;
  differ = λ _. added_differ limit [] xs ys made a tt;
  meets = λ atoms own theirs. added_meets limit [] xs ys made a atoms (λ z k. elim k [ ]) own theirs;
}

-- ---- within one of the sender's rules

pub one_differs : (x : Line) → HasDistinctCubes (x ∷ [])
one_differs x = (λ k. elim k [ ], tt)

pub one_meets : (atoms : List Cube) (x : Line) (items : List Item) → AreMeets atoms (x ∷ []) → AreMeets atoms (line items x.cube ∷ [])
one_meets atoms x items f z k = elim k [ inl e ↦ subst (λ (w : Line). IsMeet atoms w.cube) (sym e) (f x (inl refl)) | inr none ↦ elim none [ ] ]

-- the step of the loop over the receivers
pub spread_more : (left : Bool) (best : Pid) (items : List Item) (xs made : List Line) (rs : List Receiver) (i : ℕ) (r : Receiver) (goes : Bool) → i < length rs → r ≡ get_or rs i r
    → goes ≡ goes_to left best items r.who → made ≡ cond goes (beside xs r.lines) xs → spread left best items made (drop (i + 1) rs) ≡ spread left best items xs (drop i rs)
spread_more left best items xs made rs i r goes lt at e is =
    ap (λ zs. spread left best items zs (drop (i + 1) rs)) (is ∙ ap (λ b. cond b (beside xs r.lines) xs) e)
    ∙ sym (at_drop_more (spread left best items xs) rs i r lt ∙ ap (λ q. spread left best items xs (q ∷ drop (i + 1) rs)) (sym at))

-- ---- the receivers up to the last one that is reached

-- beside one more receiver, which comes last
spread-push : (left : Bool) (best : Pid) (items : List Item) (xs : List Line) (rs : List Receiver) (r : Receiver)
    → spread left best items xs (rs ++ r ∷ []) ≡ cond (goes_to left best items r.who) (beside (spread left best items xs rs) r.lines) (spread left best items xs rs)
spread-push left best items xs [] r = refl
spread-push left best items xs (q ∷ rs) r = spread-push left best items (cond (goes_to left best items q.who) (beside xs q.lines) xs) rs r

-- the last one that isn't reached may be left out
pub reached_fewer : (left : Bool) (best : Pid) (items : List Item) (rs front others : List Receiver) (r : Receiver) → front ≡ others ++ r ∷ [] → goes_to left best items r.who ≡ false
    → ((xs : List Line) → spread left best items xs front ≡ spread left best items xs rs) → (xs : List Line) → spread left best items xs others ≡ spread left best items xs rs
reached_fewer left best items rs front others r split not_there all xs =
    sym (ap (λ b. cond b (beside (spread left best items xs others) r.lines) (spread left best items xs others)) not_there)
    ∙ sym (spread-push left best items xs others r) ∙ ap (spread left best items xs) (sym split) ∙ all xs

front_of : (others : List Receiver) (r : Receiver) (front : List Receiver) → front ≡ others ++ r ∷ [] → take (length front - 1) front ≡ others
front_of others r front e = ap (λ (rs : List Receiver). take (length rs - 1) rs) e ∙ ap (λ n. take n (others ++ r ∷ [])) less ∙ take-append_seam others (r ∷ [])
  where
    less : length (others ++ r ∷ []) - 1 ≡ length others
    less = let n = length-append others (r ∷ []) in omega (arith, n)

module _ (left : Bool) (best : Pid) (items : List Item) (rs front : List Receiver) (b : Bool) (there : b ≡ true) (e : IsEnd left best items front b) where
  pub front_all : ((xs : List Line) → spread left best items xs front ≡ spread left best items xs rs) → (xs : List Line) → spread left best items xs (take (length front - 1) front) ≡ spread left best items xs rs
  front_all all xs =
      let end = subst (IsEnd left best items front) there e in
      ap (spread left best items xs) (front_of end.0 end.1 front end.2) ∙ reached_fewer left best items rs front end.0 end.1 end.2 end.3 all xs

-- what holds of the values holds of equal ones
pub reached_for : (best : Pid) (offers : List Offer) (x : Line) (rs front : List Receiver) (left : Bool) (items : List Item) → items ≡ x.results → left ≡ has_one_left offers x.results
    → IsReached left best items rs front → IsReached (has_one_left offers x.results) best x.results rs front
reached_for best offers x rs front left items e l f =
    subst (λ is. IsReached (has_one_left offers x.results) best is rs front) e (subst (λ b. IsReached b best items rs front) l f)

module _ (limit : ℕ) (best : Pid) (offers : List Offer) (x : Line) (old : List Line) (rs front : List Receiver) (f : IsReached (has_one_left offers x.results) best x.results rs front) where
  abbrev alone : List Line
  alone = line [] x.cube ∷ []

  abbrev left : Bool
  left = has_one_left offers x.results

  -- where nobody is reached
  pub grown_alone : (new : List Line) → front ≡ [] → new ≡ add_lines old alone → IsGrown limit old (within_rule best offers rs x) rs (x ∷ []) new
  grown_alone new none e = record {
    whole_within = λ _. e ∙ ap (add_lines old) (ap (spread left best x.results alone) (sym none) ∙ f.all alone);
    differ = λ d. subst HasDistinctCubes (sym e) (distinct-add_lines old alone d);
    meets = λ atoms theirs own kept. subst (AreMeets atoms) (sym e) (each-add_lines (λ z. IsMeet atoms z.cube) old alone kept (one_meets atoms x [] own));
  }

  module _ (others : List Receiver) (last : Receiver) (split : front ≡ others ++ last ∷ []) (made : List Line) (m : IsSome limit (spread left best x.results alone others) others (x ∷ []) made) where
    others_theirs : (atoms : List Cube) → AreTheirMeets atoms rs → AreTheirMeets atoms others
    others_theirs atoms theirs r k = theirs r (f.theirs r (subst (Member r) (sym split) (SetLemmas.Member-append_left others (last ∷ []) r k)))

    last_theirs : (atoms : List Cube) → AreTheirMeets atoms rs → AreMeets atoms last.lines
    last_theirs atoms theirs = theirs last (f.theirs last (subst (Member last) (sym split) (SetLemmas.Member-append_right others (last ∷ []) last (inl refl))))

    -- where there are more than the limit before the last receiver
    pub grown_wide : (new : List Line) → new ≡ made → limit < length made → IsGrown limit old (within_rule best offers rs x) rs (x ∷ []) new
    grown_wide new e wide = record {
      whole_within = λ within. absurd (omega (arith, wide, subst (λ (zs : List Line). length zs ≤ limit) e within));
      differ = λ _. subst HasDistinctCubes (sym e) m.differ;
      meets = λ atoms theirs own kept. subst (AreMeets atoms) (sym e) (m.meets atoms (others_theirs atoms theirs) own);
    }

    within_whole : within_rule best offers rs x ≡ beside (spread left best x.results alone others) last.lines
    within_whole =
        sym (f.all alone) ∙ ap (spread left best x.results alone) split ∙ spread-push left best x.results alone others last
        ∙ ap (λ b. cond b (beside (spread left best x.results alone others) last.lines) (spread left best x.results alone others)) (f.last others last split)

    -- where the last receiver's rules are put straight to the rest
    pub grown_last : (new : List Line) → made ≡ spread left best x.results alone others → IsAdded limit old made last.lines new → IsGrown limit old (within_rule best offers rs x) rs (x ∷ []) new
    grown_last new whole a = record {
      whole_within = λ small.
          a.whole_within small ∙ ap (λ xs. add_lines old (product Union xs last.lines)) whole
          ∙ sym (add_lines-twice old [] (product Union (spread left best x.results alone others) last.lines)) ∙ ap (add_lines old) (sym within_whole);
      differ = added_differ limit old made last.lines new a;
      meets = λ atoms theirs own kept. added_meets limit old made last.lines new a atoms kept (m.meets atoms (others_theirs atoms theirs) own) (last_theirs atoms theirs);
    }

  -- where nobody is reached but the last receiver
  pub grown_only : (others : List Receiver) (last : Receiver) → front ≡ others ++ last ∷ [] → others ≡ [] → (new : List Line) → new ≡ add_lines old (row Union (line [] x.cube) last.lines)
      → IsGrown limit old (within_rule best offers rs x) rs (x ∷ []) new
  grown_only others last split none new is = grown_last others last split alone some new whole added
    where
      whole : alone ≡ spread left best x.results alone others
      whole = ap (spread left best x.results alone) (sym none)

      some : IsSome limit (spread left best x.results alone others) others (x ∷ []) alone
      some = record {
        whole_within = λ _. whole;
        differ = one_differs (line [] x.cube);
        meets = λ atoms theirs own. one_meets atoms x [] own;
      }

      all : new ≡ add_lines old (product Union alone last.lines)
      all = is ∙ ap (add_lines old) (sym (append-nil (row Union (line [] x.cube) last.lines)))

      added : IsAdded limit old alone last.lines new
      added = record {
        taken = 1;
        is = all;
        whole_within = λ _. all;
      }

-- ---- within all of them

pub meets-added : (atoms : List Cube) (xs ys : List Line) → AreMeets atoms xs → AreMeets atoms ys → AreMeets atoms (add_lines xs ys)
meets-added atoms xs ys f g = each-add_lines (λ z. IsMeet atoms z.cube) xs ys f g

pub member_meets : (atoms : List Cube) (xs : List Line) (x : Line) → Member x xs → AreMeets atoms xs → AreMeets atoms (x ∷ [])
member_meets atoms xs x k f z m = elim m [ inl e ↦ subst (λ (w : Line). IsMeet atoms w.cube) (sym e) (f x k) | inr none ↦ elim none [ ] ]
