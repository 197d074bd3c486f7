-- The program's levels.
use Rattle.policy_syntax.specs.declared.printing.Level as level
use Rattle.policy_syntax.specs.declared.printing.Level.TheVariants as levels
use Rattle.policy_syntax.specs.Canonical.{Level, Loose, Middle, Tight, Single}

-- where a part stands
abbrev pub level_of : level.Level → Level
level_of levels.Loose = Loose
level_of levels.Middle = Middle
level_of levels.Tight = Tight
level_of levels.Single = Single
