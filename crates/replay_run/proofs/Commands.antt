-- Command lines say what is run.
use Rattle.std.proofs.Common.{◌≡◌, ◌↔◌, ℕ, List, sym, subst, ◌∙◌}
use Rattle.std.specs.Prelude.{Option, Some, None}
use Rattle.events.specs.State.{State}
use Rattle.replay_run.specs.Load.{HasLoaded}
use Rattle.replay_run.specs.Run.{HasReplayed}
use Rattle.replay_run.specs.declared.Status.{Status}
use Rattle.replay_run.specs.declared.Status.TheVariants.{Usage}
use Rattle.replay_run.specs.declared.words.Command.{Command}
use Rattle.replay_run.specs.declared.words.Command.TheVariants.{Load, Replay}

pub no_command : (o : Option Command) (x : Command) → o ≡ None → o ≡ Some x → ⊥
no_command o x e f = let both : None ≡ Some x = sym e ∙ f in cc

pub other_command : (o : Option Command) (seed count : ℕ) → o ≡ Some Replay → o ≡ Some (Load seed count) → ⊥
other_command o seed count e f = let both : Some Replay ≡ Some (Load seed count) = sym e ∙ f in cc

-- a command is run where the words say one
pub ends_otherwise : (status : Status) (o : Option Command) (x : Command) → o ≡ Some x → (status ≡ Usage → ⊥) → (status ≡ Usage) ↔ (o ≡ None)
ends_otherwise status o x said otherwise = (λ e. absurd (otherwise e), λ e. absurd (no_command o x e said))

pub replayed_otherwise : (status : Status) (left left_after held held_after : Option (List ℕ)) (s : State) (before after : ℕ) → HasReplayed status left left_after held held_after s before after → status ≡ Usage → ⊥
replayed_otherwise status left left_after held held_after s before after h is = (subst (λ x. HasReplayed x left left_after held held_after s before after) is h).5

same_load : (m n seed count : ℕ) → Some (Load m n) ≡ Some (Load seed count) → (m ≡ seed) × (n ≡ count)
same_load m n seed count both = (cc, cc)

-- a load of these lines is one of those that the words say
pub loads_said : (status : Status) (o : Option Command) (m n seed count : ℕ) (held held_after : Option (List ℕ)) (s : State) (before after : ℕ) → o ≡ Some (Load m n) → o ≡ Some (Load seed count) → HasLoaded status m n held held_after s before after
    → HasLoaded status seed count held held_after s before after
loads_said status o m n seed count held held_after s before after e f h =
    let is = same_load m n seed count (sym e ∙ f) in
    subst (λ x. HasLoaded status seed x held held_after s before after) is.1 (subst (λ x. HasLoaded status x n held held_after s before after) is.0 h)
