use Rattle.std.proofs.Common.{◌≡◌, false, sym, ap, subst, ◌∙◌}
use Rattle.std.specs.Prelude.{is_some, option_copied}
use Rattle.std.specs.FinMap.{entries, get}
use Rattle.net_types.proofs.PlaceLemmas.{get_sorted}
use Rattle.net_types.specs.Keys.{tag_cmp}
use Rattle.prefix_classes.proofs.GroupingLemmas.{first_is_beside, own_listed}
use Rattle.prefix_classes.specs.Placed.{AreFirsts, IsLeastBeside}
use Rattle.prefix_classes.proofs.grouping.Grouping.least_beside.Goals as goal

pub first_of-requires : goal.first_of-requires
first_of-requires c =
    let here = sym c.get.ensures ∙ ap option_copied c.in-Some.is in
    own_listed c.self.inside.tags.items c.args.firsts.now.items c.self.invariant (subst (λ m. AreFirsts (entries m) c.args.firsts.now.items) (sym c.self.view_is) c.requires.firsts) c.args.tag c.in-Some.sig.now here

pub unreachable-requires : goal.unreachable-requires
unreachable-requires c =
    let none : is_some (get c.args.self.now c.args.tag) ≡ false = ap is_some (
    ap (λ m. get m c.args.tag) (sym c.self.view_is)
    ∙ get_sorted tag_cmp c.self.inside.tags.items c.args.tag c.self.invariant
    ∙ sym c.get.ensures
    ∙ ap option_copied c.in-None.is) in
    let both = sym c.requires.placed ∙ none in
    cc

pub returns : goal.returns
returns c =
    let here = sym c.get.ensures ∙ ap option_copied c.in-Some.is in
    subst (λ m. IsLeastBeside m c.args.tag c.first_of.result) c.self.view_is
    (first_is_beside c.self.inside.tags.items c.args.firsts.now.items c.self.invariant (subst (λ m. AreFirsts (entries m) c.args.firsts.now.items) (sym c.self.view_is) c.requires.firsts) c.args.tag c.in-Some.sig.now here c.first_of.result c.first_of.ensures)
