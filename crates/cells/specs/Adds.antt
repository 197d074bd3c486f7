-- Lists to which values are put last, each once.
use Rattle.std.specs.Prelude.{Bool, List, [], ◌∷◌}
use Rattle.indexmap.specs.IndexSet.{insert_key}

-- the first list with each value of the second last, unless an equal one is there
abbrev pub adds : {A : Type 0} → (A → A → Bool) → List A → List A → List A
adds eq kept [] = kept
adds eq kept (x ∷ xs) = adds eq (insert_key eq kept x) xs
