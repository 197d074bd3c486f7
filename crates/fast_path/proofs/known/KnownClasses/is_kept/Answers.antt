-- What is found in the classes is what is found in what is known.
use Rattle.std.proofs.Common.{List, map, sym, ap, ◌∙◌}
use Rattle.std.specs.Prelude.{None, Some, option_copied}
use Rattle.std.specs.Option.{option_map}
use Rattle.fast_path.specs.Grouping.{part_by}
use Rattle.net_types.specs.Attributes.{same_signature}
use Rattle.net_types.specs.declared.address.Pid.{Pid}
use Rattle.fast_path.proofs.KnownSignatures.{Names, kept_known}
use Rattle.fast_path.proofs.known.KnownClasses.is_kept.Goals as goal

pub returns-in_default-sig_of : goal.returns-in_default-sig_of
returns-in_default-sig_of c =
    let names : Names = option_map (λ e. let n : Pid × List Pid = (e.0, e.1.now) in n) c.self.inside.named in
    sym (kept_known names c.self.inside.classes.now c.args.self.now c.args.tag c.in-Some.tag None c.args.sig.now c.self.view_is c.in-Some.is (sym c.sig_of.ensures ∙ ap option_copied c.in_default-sig_of.is))

pub returns : goal.returns
returns c =
    let names : Names = option_map (λ e. let n : Pid × List Pid = (e.0, e.1.now) in n) c.self.inside.named in
    let kept = sym c.sig_of.ensures ∙ ap option_copied c.in-Some-sig_of.is in
    c.is_same.ensures
    ∙ ap (λ parts. same_signature (map (part_by names) parts) c.items-2.result.now) c.items.ensures
    ∙ ap (same_signature (map (part_by names) c.in-Some-sig_of.kept.now)) c.items-2.ensures
    ∙ sym (kept_known names c.self.inside.classes.now c.args.self.now c.args.tag c.in-Some.tag (Some c.in-Some-sig_of.kept.now) c.args.sig.now c.self.view_is c.in-Some.is kept)
