-- What is found in the classes is what is found in what is known.
use Rattle.std.proofs.Common.{◌≡◌, List, sym, ap, ◌∙◌}
use Rattle.std.specs.Prelude.{Some, None, option_copied}
use Rattle.std.specs.FinMap.{get}
use Rattle.std.specs.Option.{option_and_then, option_map}
use Rattle.events.specs.Sound.{part_of}
use Rattle.fast_path.specs.Grouping.{Known, part_by}
use Rattle.net_types.specs.declared.address.Pid.{Pid}
use Rattle.fast_path.proofs.KnownSignatures.{Names, part_in_known}
use Rattle.fast_path.proofs.known.KnownClasses.part_of.Goals as goal

pub returns-in_default : goal.returns-in_default
returns-in_default c =
    let names : Names = option_map (λ e. let n : Pid × List Pid = (e.0, e.1.now) in n) c.self.inside.named in
    let classes = c.self.inside.classes.now in
    let none : get classes.kept c.args.tag ≡ None = sym c.sig_of.ensures ∙ ap option_copied c.in_default.is in
    sym (ap (λ (k : Known). option_and_then (λ sig. part_of sig c.args.who) (get k.kept c.args.tag)) (sym c.self.view_is) ∙ part_in_known names classes c.args.tag c.args.who
    ∙ ap (option_and_then (λ sig. option_map (part_by names) (part_of sig c.args.who))) none)

pub returns-in-None : goal.returns-in-None
returns-in-None c =
    let names : Names = option_map (λ e. let n : Pid × List Pid = (e.0, e.1.now) in n) c.self.inside.named in
    let classes = c.self.inside.classes.now in
    let sig : get classes.kept c.args.tag ≡ Some c.in-Some.sig.now = sym c.sig_of.ensures ∙ ap option_copied c.in-Some.is in
    let none : part_of c.in-Some.sig.now c.args.who ≡ None = ap (λ parts. part_of parts c.args.who) (sym c.items.ensures) ∙ sym c.part_in.ensures ∙ ap option_copied c.in-None.is in
    sym (ap (λ (k : Known). option_and_then (λ sig. part_of sig c.args.who) (get k.kept c.args.tag)) (sym c.self.view_is) ∙ part_in_known names classes c.args.tag c.args.who
    ∙ ap (option_and_then (λ sig. option_map (part_by names) (part_of sig c.args.who))) sig ∙ ap (option_map (part_by names)) none)

pub returns-in_ok-part_by-in-Some-part_in : goal.returns-in_ok-part_by-in-Some-part_in
returns-in_ok-part_by-in-Some-part_in c =
    let names : Names = option_map (λ e. let n : Pid × List Pid = (e.0, e.1.now) in n) c.self.inside.named in
    let classes = c.self.inside.classes.now in
    let sig : get classes.kept c.args.tag ≡ Some c.in-Some.sig.now = sym c.sig_of.ensures ∙ ap option_copied c.in-Some.is in
    let some : part_of c.in-Some.sig.now c.args.who ≡ Some c.in-Some-part_in.part.now = ap (λ parts. part_of parts c.args.who) (sym c.items.ensures) ∙ sym c.part_in.ensures ∙ ap option_copied c.in-Some-part_in.is in
    ap Some c.in_ok-part_by-in-Some-part_in.ensures
    ∙ sym (ap (λ (k : Known). option_and_then (λ sig. part_of sig c.args.who) (get k.kept c.args.tag)) (sym c.self.view_is) ∙ part_in_known names classes c.args.tag c.args.who
    ∙ ap (option_and_then (λ sig. option_map (part_by names) (part_of sig c.args.who))) sig ∙ ap (option_map (part_by names)) some)
