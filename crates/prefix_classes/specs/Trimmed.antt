-- The kept signatures once offers that don't count any more are taken out.
use Rattle.std.specs.Prelude.{List}
use Rattle.net_types.specs.Signatures.{trimmed}
use Rattle.net_types.specs.declared.address.Pid.{Pid}
use Rattle.net_types.specs.declared.address.Tag.{Tag}
use Rattle.prefix_classes.specs.declared.members.Kept.{Kept}

-- what is kept of a tag with its signature trimmed
abbrev pub trimmed_kept : Pid → List Pid → Kept → Kept
trimmed_kept who named k = record k { sig = trimmed who named k.sig }

-- an entry with its signature trimmed
abbrev pub trimmed_entry : Pid → List Pid → Tag × Kept → Tag × Kept
trimmed_entry who named e = (e.0, trimmed_kept who named e.1)
