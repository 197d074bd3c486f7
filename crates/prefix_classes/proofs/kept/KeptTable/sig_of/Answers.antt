-- What a tag holds is counted, and its signature is what is seen of it.
use Rattle.std.proofs.Common.{◌≤◌, sym, ap, subst, ◌∙◌, arith}
use Rattle.std.specs.Prelude.{List, Option, Some, option_copied}
use Rattle.std.specs.FinMap.Entries.{find}
use Rattle.std.specs.Option.{option_map}
use Rattle.net_types.specs.Keys.{tag_cmp}
use Rattle.net_types.specs.declared.route.Part.{Part}
use Rattle.tag_table.specs.Held.{Held}
use Rattle.prefix_classes.proofs.ShownLemmas.{find-shown, found_counts}
use Rattle.prefix_classes.specs.Slots.{Slots, is_at, shown, shown_sig, sig_of, tags_at}
use Rattle.prefix_classes.specs.declared.kept.Place.{Place}
use Rattle.prefix_classes.specs.declared.members.Kept.{Kept}
use Rattle.prefix_classes.proofs.kept.KeptTable.sig_of.Goals as goal

pub signature-requires : goal.signature-requires
signature-requires c = λ n.
    let held = found_counts n c.args.tag c.self.inside.places.items c.in-Some.place.now (sym c.get.ensures ∙ ap option_copied c.in-Some.is) in
    let counted = c.self.invariant.counted n in
    subst (λ (slots : Slots). is_at n c.in-Some.place.now.held ≤ tags_at slots n) (sym c.deref.ensures.value) (omega (arith, held, counted))

pub returns-in-Some : goal.returns-in-Some
returns-in-Some c =
    (λ i. let sig : Option (List Part) = Some ((c.signature.ensures ∙ ap (λ (slots : Slots). shown_sig slots c.in-Some.place.now.held) c.deref.ensures.value) i) in sig)
    ∙ ap (λ (o : Option Place). option_map sig_of (option_map (shown c.self.inside.shared.items) o)) (sym (ap option_copied c.in-Some.is) ∙ c.get.ensures)
    ∙ ap (option_map sig_of) (sym (find-shown c.self.inside.shared.items c.args.tag c.self.inside.places.items)) ∙ ap (λ (s : Held Kept). option_map sig_of (find tag_cmp c.args.tag s.items)) c.self.view_is

pub returns-in-None : goal.returns-in-None
returns-in-None c =
    ap (λ (o : Option Place). option_map sig_of (option_map (shown c.self.inside.shared.items) o)) (sym (ap option_copied c.in-None.is) ∙ c.get.ensures)
    ∙ ap (option_map sig_of) (sym (find-shown c.self.inside.shared.items c.args.tag c.self.inside.places.items)) ∙ ap (λ (s : Held Kept). option_map sig_of (find tag_cmp c.args.tag s.items)) c.self.view_is
