-- The locations that a policy has.
use Rattle.std.proofs.Common.{◌≡◌, ℕ, zero, suc, Option, Some, None, List, [], ◌∷◌, ◌++◌, IfSome, IfOk, Result, Ok, Err, inl, inr, refl, sym, ap}
use Rattle.std.specs.List.{slice_get}
use Rattle.net_types.specs.declared.address.Pid.{Pid}
use Rattle.net_types.specs.declared.headers.Loc.{Loc}
use Rattle.net_types.specs.declared.headers.Loc.TheVariants.{Stay, To, Out, Nowhere}
use Rattle.net_types.specs.Headers.{arrived}
use Rattle.net_types.specs.Sets.{Member}
use Rattle.net_types.specs.Policies as model
use Rattle.net_types.proofs.FindLemmas.{slice_get-Member}
use Rattle.policy_compile.specs.Covered.{Covers, IsCovered, KeepAll}
use Rattle.policy_compile.specs.Groups.{IsClosed}

-- a location with its place
record StandsAt (ls : List Loc) (l : Loc) : Type 0 where
  pub place : ℕ
  pub at : slice_get ls place ≡ Some l

stands-at : (ls : List Loc) (l : Loc) → Member l ls → StandsAt ls l
stands-at [] l m = elim m [ ]
stands-at (x ∷ ls) l (inl e) = record { place = zero; at = ap Some (sym e) }
stands-at (x ∷ ls) l (inr m) = let s = stands-at ls l m in record { place = suc s.place; at = s.at }

pub member-kept : (old new : List Loc) (l : Loc) → KeepAll old new → Member l old → Member l new
member-kept old new l kept m = let s = stands-at old l m in slice_get-Member new s.place l (kept s.place l s.at)

pub pushed-kept : (ls : List Loc) (x : Loc) (n : ℕ) (l : Loc) → slice_get ls n ≡ Some l → slice_get (ls ++ x ∷ []) n ≡ Some l
pushed-kept [] x n l e = absurd (cc)
pushed-kept (y ∷ ls) x zero l e = e
pushed-kept (y ∷ ls) x (suc n) l e = pushed-kept ls x n l e

pub target-kept : (pid_of : List ℕ → Option Pid) (t : model.Target) (old new : List Loc) → KeepAll old new → IsCovered pid_of t old → IsCovered pid_of t new
target-kept pid_of (model.Name n) old new kept is = by (pid_of n) is
  where
    by : (o : Option Pid) → IfSome o (λ (who : Pid). Member (To who) old) → IfSome o (λ (who : Pid). Member (To who) new)
    by None t = t
    by (Some who) m = member-kept old new (To who) kept m
target-kept pid_of (model.Number port) old new kept is = member-kept old new (Out port) kept is

pub covers-kept : (pid_of : List ℕ → Option Pid) (p : model.Policy) (old new : List Loc) → KeepAll old new → Covers pid_of p old → Covers pid_of p new
covers-kept pid_of model.Drop old new kept is = is
covers-kept pid_of model.Pass old new kept is = is
covers-kept pid_of model.Block old new kept is = member-kept old new Nowhere kept is
covers-kept pid_of (model.Fwd t span) old new kept is = target-kept pid_of t old new kept is
covers-kept pid_of (model.Match p) old new kept is = is
covers-kept pid_of (model.Set a span) old new kept is = is
covers-kept pid_of (model.Both p q) old new kept is = (covers-kept pid_of p old new kept is.0, covers-kept pid_of q old new kept is.1)
covers-kept pid_of (model.Then p q) old new kept is = (covers-kept pid_of p old new kept is.0, covers-kept pid_of q old new kept is.1)

-- whoever stays goes nowhere else
pub closed-stay : (ls : List Loc) → IsClosed ls Stay
closed-stay ls = λ l m. m

pub closed-out : (ls : List Loc) (port : _) → Member (Out port) ls → IsClosed ls (Out port)
closed-out ls port there = λ l m. there

pub closed-to : (ls : List Loc) (who : Pid) → Member (To who) ls → IsClosed ls (To who)
closed-to ls who there = λ l m. there

pub closed-nowhere : (ls : List Loc) → Member Nowhere ls → IsClosed ls Nowhere
closed-nowhere ls there = λ l m. there

-- what holds of a value that is there holds in other words
pub ok-map : {A E : Type 0} (r : Result A E) (P Q : A → Type 0) → ((x : A) → P x → Q x) → IfOk r P → IfOk r Q
ok-map (Ok x) P Q f p = f x p
ok-map (Err e) P Q f p = p
