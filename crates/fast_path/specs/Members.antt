-- How the classes of fresh tags get their members (this exchange's own rule).
use Rattle.std.specs.Prelude.{[], ◌∷◌, ◌++◌, if◌then◌else◌}
use Rattle.events.specs.declared.TagChange.{TagChange}
use Rattle.fast_path.specs.Committing.{gives}
use Rattle.fast_path.specs.declared.planned.Class.{Class}

-- the class, with the prefix of a change that gives its tag
abbrev pub joined : TagChange → Class → Class
joined c k = if gives k.tag c then record k { members = k.members ++ c.prefix ∷ [] } else k
