-- What policies make in all cubes.
use Rattle.std.proofs.Common.{◌≡◌, ◌<◌, ◌⊎◌, ◌&&◌, ℕ, true, false, cond, Bool, Option, Some, None, List, length, [], ◌∷◌, ◌++◌, map, filter, inl, inr, refl, sym, ap, ◌∙◌, subst}
use Rattle.std.proofs.Common.{slice_index_or as get_or}
use Rattle.std.proofs.lemmas.List.{append-nil}
use Rattle.std.proofs.lemmas.List.Elements.{filter-append}
use Rattle.net_types.specs.declared.address.Pid.{Pid}
use Rattle.net_types.specs.declared.cube.Cube.{Cube}
use Rattle.net_types.specs.declared.headers.Loc.TheVariants.{Stay}
use Rattle.net_types.specs.Headers.{no_change}
use Rattle.net_types.specs.Policies as model
use Rattle.net_types.specs.Sets.{Member, SameMembers}
use Rattle.net_types.proofs.RisingLemmas.{filter-Member, Member-filter}
use Rattle.classifier.specs.Items.{Item}
use Rattle.policy_compile.specs.declared.memo.Noted.{Noted}
use Rattle.policy_compile.specs.declared.columns.Column.{Column}
use Rattle.policy_compile.specs.declared.columns.Key.{Key}
use Rattle.policy_compile.specs.declared.outcomes.Outcome.{Outcome}
use Rattle.policy_compile.specs.declared.stages.Tested.{Tested}
use Rattle.place_sets.specs.Places.{has_place}
use Rattle.policy_compile.specs.Columns.{AreKept, IsInside, IsKept, KeepSets, Places, Tells, given, outcome_at, set_at, set_of}
use Rattle.policy_compile.proofs.ColumnLemmas.{given-pushed, inside-kept, set-kept, set-read}
use Rattle.policy_compile.specs.Paths.{after_item}
use Rattle.policy_compile.specs.Paths.{AreVisits, pred_at}
use Rattle.policy_compile.proofs.PathLemmas.{visits-behind, visits-kept, visits-same}

-- what a test leaves
pub visits-filtered : (pid_of : List ℕ → Option Pid) (p : model.Pred) (m : Cube) (items made : List Item) → made ≡ filter (λ i. pred_at m i.0 p) items → AreVisits pid_of (model.Match p) m items [] made
visits-filtered pid_of p m items made e =
    subst (AreVisits pid_of (model.Match p) m items []) (sym e)
    (visits-kept pid_of p m items (filter (λ i. pred_at m i.0 p) items) (λ i. (
      λ k. (let s = filter-Member (λ j. pred_at m j.0 p) items i k in (s.stands, s.passes)),
      λ both. Member-filter (λ j. pred_at m j.0 p) items i both.0 both.1,
    )))

-- what is left as it is
unchanged-item : (i : Item) → after_item no_change Stay i ≡ i
unchanged-item i = refl

pub unchanged-items : (items : List Item) → map (after_item no_change Stay) items ≡ items
unchanged-items [] = refl
unchanged-items (i ∷ items) = ap (λ j. j ∷ map (after_item no_change Stay) items) (unchanged-item i) ∙ ap (λ js. i ∷ js) (unchanged-items items)

-- what is added as it is
pub visits-added : (pid_of : List ℕ → Option Pid) (p : model.Policy) (m : Cube) (items made old new : List Item) (used : _) → used ≡ no_change → AreVisits pid_of p m items [] made
    → SameMembers new (old ++ map (after_item used Stay) made) → AreVisits pid_of p m items old new
visits-added pid_of p m items made old new used is f same =
    visits-same pid_of p m items old (old ++ made) new (visits-behind pid_of p m items made old f)
    (subst (λ xs. SameMembers new (old ++ xs)) (ap (λ a. map (after_item a Stay) made) is ∙ unchanged-items made) same)

-- ---- which places of a set are left

kept-longer : (cubes : List Cube) (p : model.Pred) (sets old new : List Places) (x : Tested) (n : Option ℕ) → KeepSets old new → IsKept cubes p sets old x n → IsKept cubes p sets new x n
kept-longer cubes p sets old new x None kept is = record { inside = tt; is = is.is }
kept-longer cubes p sets old new x (Some n) kept is = record {
  inside = inside-kept old new n kept is.inside;
  is = λ k m there. set-kept old new n kept is.inside k ∙ is.is k m there;
}

pub kept-noted : (cubes : List Cube) (p : model.Pred) (sets old new : List Places) (asked news : List (Noted Tested (Option ℕ))) (x : Tested) (n : Option ℕ) → KeepSets old new → AreKept cubes p sets old asked
    → ((e : Noted Tested (Option ℕ)) → Member e news → Member e asked ⊎ (e ≡ record { key = x; value = n })) → IsKept cubes p sets new x n → AreKept cubes p sets new news
kept-noted cubes p sets old new asked news x n kept are noted is = λ e m. elim (noted e m) [
  | inl k ↦ kept-longer cubes p sets old new e.key e.value kept (are e k)
  | inr same ↦ subst (λ (y : Noted Tested (Option ℕ)). IsKept cubes p sets new y.key y.value) (sym same) is
]

-- those at which the predicate holds, too
pub kept-made : (cubes : List Cube) (p : model.Pred) (sets new : List Places) (x : Tested) (n : Option ℕ) (s both : Places) (o : Outcome) → x.places < length sets → s ≡ get_or sets x.places s
    → Tells cubes (λ m. pred_at m x.set p) o → ((k : ℕ) → has_place both k ≡ (has_place s k && outcome_at o k)) → IsInside new n → ((k : ℕ) → set_of new n k ≡ has_place both k) → IsKept cubes p sets new x n
kept-made cubes p sets new x n s both o there at tells are inside is = record {
  inside = inside;
  is = λ k m stands. is k ∙ are k ∙ ap (λ b. b && outcome_at o k) (sym (set-read sets x.places s there at k)) ∙ ap (λ b. set_at sets x.places k && b) (tells k m stands);
}

-- ---- a column more

-- that is left where the predicate holds
pub left-pushed : (f : Key → Bool) (sets : List Places) (cs : List Column) (c : Column) (k : ℕ) (b : Bool) (kept : List Key) → kept ≡ filter f (given sets cs k) → b ≡ (set_at sets c.set k && f c.key)
    → kept ++ cond b (c.key ∷ []) [] ≡ filter f (given sets (cs ++ c ∷ []) k)
left-pushed f sets cs c k b kept are is =
    ap (λ xs. xs ++ cond b (c.key ∷ []) []) are ∙ ap (λ a. filter f (given sets cs k) ++ cond a (c.key ∷ []) []) is ∙ ap (λ xs. filter f (given sets cs k) ++ xs) (one (set_at sets c.set k))
    ∙ sym (filter-append f (given sets cs k) (cond (set_at sets c.set k) (c.key ∷ []) [])) ∙ sym (ap (filter f) (given-pushed sets cs c k))
  where
    tested : (b : Bool) → f c.key ≡ b → cond b (c.key ∷ []) [] ≡ filter f (c.key ∷ [])
    tested true e = sym (ap (λ d. cond d (c.key ∷ []) []) e)
    tested false e = sym (ap (λ d. cond d (c.key ∷ []) []) e)

    one : (a : Bool) → cond (a && f c.key) (c.key ∷ []) [] ≡ filter f (cond a (c.key ∷ []) [])
    one true = tested (f c.key) refl
    one false = refl

-- that isn't left anywhere
pub left-out : (f : Key → Bool) (sets : List Places) (cs : List Column) (c : Column) (k : ℕ) (kept : List Key) → kept ≡ filter f (given sets cs k) → (set_at sets c.set k && f c.key) ≡ false
    → kept ≡ filter f (given sets (cs ++ c ∷ []) k)
left-out f sets cs c k kept are is = sym (append-nil kept) ∙ left-pushed f sets cs c k false kept are (sym is)
