-- The head read in three parts is the head read whole.
use Rattle.std.proofs.Common.{◌≡◌, ℕ, List, Result, Ok, Err, refl}
use Rattle.grammar.specs.Reading.{on_read}
use Rattle.net_types.specs.UpdateReading.{read_head}
use Rattle.bgp_update.specs.Heads.{read_lengths, read_opening, read_parts}

read_on : {F A B C : Type 0} (r : Result A F) (f : A → Result B F) (g : B → Result C F) → on_read (on_read r f) g ≡ on_read r (λ x. on_read (f x) g)
read_on (Ok x) f g = refl
read_on (Err e) f g = refl

pub head_parts : (n : ℕ) (s : List ℕ) → read_head n s ≡ read_parts n s
unfolding read_head read_parts read_opening read_lengths
head_parts n s = simp read_on
