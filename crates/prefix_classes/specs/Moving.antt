-- The moves that a grouping gives of prefixes with tags.
use Rattle.std.specs.Prelude.{◌≡◌, List, map}
use Rattle.std.specs.FinMap.{FinMap}
use Rattle.net_types.specs.Keys.{tag_cmp}
use Rattle.net_types.specs.Sets.{IsRising, Member}
use Rattle.net_types.specs.UpdateSpelling.{is_before}
use Rattle.net_types.specs.declared.address.Tag.{Tag}
use Rattle.net_types.specs.declared.prefix.Prefix.{Prefix}
use Rattle.net_types.specs.declared.route.Part.{Part}
use Rattle.prefix_classes.specs.Placed.{IsLeastBeside}

-- a prefix among these moves to the least of the tags with the signature of its own, which is another one
pub record IsMoveAmong (grouping : FinMap tag_cmp (List Part)) (es : List (Prefix × Tag)) (p : Prefix) (t : Tag) : Type 0 where
  pub from : Tag
  pub had : Member (p, from) es
  pub to : IsLeastBeside grouping from t
  pub other : ¬ (from ≡ t)

-- the moves of these prefixes, in their order
pub record AreMoves (grouping : FinMap tag_cmp (List Part)) (es : List (Prefix × Tag)) (moves : List (Prefix × Tag)) : Type 0 where
  pub rising : IsRising is_before (map (λ m. m.0) moves)
  pub right : (p : Prefix) (t : Tag) → Member (p, t) moves → IsMoveAmong grouping es p t
  pub all : (p : Prefix) (t : Tag) → IsMoveAmong grouping es p t → Member (p, t) moves
