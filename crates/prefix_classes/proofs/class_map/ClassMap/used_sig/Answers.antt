-- A tag with members is kept, with its signature.
use Rattle.std.proofs.Common.{◌≡◌, sym, ap, ◌∙◌, arith}
use Rattle.std.specs.Prelude.{option_copied}
use Rattle.std.specs.FinMap.{get}
use Rattle.std.specs.FinMap.Entries.{find}
use Rattle.net_types.specs.Keys.{tag_cmp}
use Rattle.prefix_classes.proofs.CountLemmas.{get-sigs, no_sig}
use Rattle.prefix_classes.specs.Classes.{Classes, members}
use Rattle.prefix_classes.specs.Counts.{members_of}
use Rattle.prefix_classes.proofs.class_map.ClassMap.used_sig.Goals as goal

pub unreachable-requires : goal.unreachable-requires
unreachable-requires c =
    let no_entry = no_sig (find tag_cmp c.args.tag c.self.inside.kept.items) (sym c.sig_of.ensures ∙ ap option_copied c.in-None.is) in
    let none : members c.args.self.now.tag c.args.tag ≡ 0 = sym (ap (λ (s : Classes). members s.tag c.args.tag) c.self.view_is) ∙ sym (c.self.invariant.counts c.args.tag) ∙ ap members_of no_entry in
    let some = c.requires in
    omega (arith, none, some)

pub returns : goal.returns
returns c =
    sym (ap option_copied c.in-Some.is) ∙ c.sig_of.ensures
    ∙ sym (get-sigs c.self.inside.kept.items c.args.tag c.self.invariant.sorted) ∙ ap (λ (s : Classes). get s.kept c.args.tag) c.self.view_is
