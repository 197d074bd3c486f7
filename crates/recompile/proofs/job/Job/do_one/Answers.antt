-- One tag is placed, or one pair is built, and is taken out of its list; or nothing is left to do.
use Rattle.net_types.proofs.PassLemmas.{some_there}
use Rattle.std.proofs.Common.{◌∙◌, sym, ap, subst, refl, arith}
use Rattle.std.specs.FinMap.{get}
use Rattle.net_types.specs.Maps.{put_option}
use Rattle.recompile.proofs.CoverLemmas.{built_kept, built_needs, placed_kept, placed_needs, shortened_kept}
use Rattle.recompile.proofs.ListLemmas.{all_but_last, fewer_by_last}
use Rattle.recompile.specs.Covering.{IsKeptUp}
use Rattle.recompile.specs.Setting.{Setting, setting}
use Rattle.recompile.specs.Underway.{Underway}
use Rattle.recompile.specs.Units.{NeedsFewer}
use Rattle.recompile.proofs.job.Job.do_one.Goals as goal

pub returns-in_err-place-clause-kept : goal.returns-in_err-place-clause-kept
returns-in_err-place-clause-kept g c =
    let s : Setting = setting c.args.classes.now (g.B.Blocks.installed c.args.switch.now).table in
    let i = c.self.inside in
    let was : Underway = record { owed = i.owed; placed = i.placed; built = i.built; tags = i.tags.items; pairs = i.pairs.items } in
    shortened_kept s was (record was { placed = c.place.new.self; tags = c.tag_to_do.new.tags.items }) c.in_err-place.ensures.unchanged refl c.tag_to_do.ensures.kept (λ pair has m. m) (omega arith)
    (subst (IsKeptUp s) (sym c.self.view_is) c.requires)

pub returns-in-Some-clause-kept : goal.returns-in-Some-clause-kept
returns-in-Some-clause-kept g c =
    let s : Setting = setting c.args.classes.now (g.B.Blocks.installed c.args.switch.now).table in
    let i = c.self.inside in
    let was : Underway = record { owed = i.owed; placed = i.placed; built = i.built; tags = i.tags.items; pairs = i.pairs.items } in
    let sig = some_there (get c.args.classes.now.kept c.in-Some.tag) c.place.ensures.kept in
    let mid = c.tag_to_do.new.tags in
    placed_kept s was (record was { placed = c.place.new.self; tags = c.pop.new.self.items }) c.in-Some.tag sig.0 c.in-Some.ensures.one sig.1
    (c.in_ok-place.ensures.placed ∙ ap (λ o. put_option c.in-Some.tag o i.placed) sig.1) refl
    (λ u todo m. all_but_last mid.items c.pop.new.self.items mid.len c.in-Some.tag mid.ok.0 c.pop.ensures.rest c.in-Some.ensures.last u (c.tag_to_do.ensures.kept u todo m))
    refl
    (subst (IsKeptUp s) (sym c.self.view_is) c.requires)

pub returns-in-Some-clause-done : goal.returns-in-Some-clause-done
returns-in-Some-clause-done g c = λ more.
    let s : Setting = setting c.args.classes.now (g.B.Blocks.installed c.args.switch.now).table in
    let i = c.self.inside in
    let was : Underway = record { owed = i.owed; placed = i.placed; built = i.built; tags = i.tags.items; pairs = i.pairs.items } in
    let now : Underway = record was { placed = c.place.new.self; tags = c.pop.new.self.items } in
    let sig = some_there (get c.args.classes.now.kept c.in-Some.tag) c.place.ensures.kept in
    let mid = c.tag_to_do.new.tags in
    subst (λ j. NeedsFewer s 1 j now) c.self.view_is
    (placed_needs s was now c.in-Some.tag sig.0 c.in-Some.ensures.one sig.1 (c.in_ok-place.ensures.placed ∙ ap (λ o. put_option c.in-Some.tag o i.placed) sig.1) refl
    (λ u todo m. all_but_last mid.items c.pop.new.self.items mid.len c.in-Some.tag mid.ok.0 c.pop.ensures.rest c.in-Some.ensures.last u (c.tag_to_do.ensures.kept u todo m))
    refl)

pub returns-in_err-build-clause-kept : goal.returns-in_err-build-clause-kept
returns-in_err-build-clause-kept g c =
    let s : Setting = setting c.args.classes.now (g.B.Blocks.installed c.args.switch.now).table in
    let i = c.self.inside in
    let was : Underway = record { owed = i.owed; placed = i.placed; built = i.built; tags = i.tags.items; pairs = i.pairs.items } in
    shortened_kept s was (record was { built = c.build.new.self; tags = c.tag_to_do.new.tags.items; pairs = c.pair_to_do.new.pairs.items }) refl c.in_err-build.ensures.unchanged
    c.tag_to_do.ensures.kept c.pair_to_do.ensures.kept c.pair_to_do.ensures.fewer
    (subst (IsKeptUp s) (sym c.self.view_is) c.requires)

pub returns-in-Some-pair_to_do-clause-kept : goal.returns-in-Some-pair_to_do-clause-kept
returns-in-Some-pair_to_do-clause-kept g c =
    let s : Setting = setting c.args.classes.now (g.B.Blocks.installed c.args.switch.now).table in
    let i = c.self.inside in
    let was : Underway = record { owed = i.owed; placed = i.placed; built = i.built; tags = i.tags.items; pairs = i.pairs.items } in
    let found = c.in-Some-pair_to_do in
    let mid = c.pair_to_do.new.pairs in
    built_kept s was (record was { built = c.build.new.self; tags = c.tag_to_do.new.tags.items; pairs = c.pop-in-Some-pair_to_do.new.self.items })
    found.pair found.old.now found.ensures.found refl c.in_ok-build.ensures.built c.tag_to_do.ensures.kept
    (λ q has m. all_but_last mid.items c.pop-in-Some-pair_to_do.new.self.items mid.len found.pair mid.ok.0 c.pop-in-Some-pair_to_do.ensures.rest found.ensures.last q (c.pair_to_do.ensures.kept q has m))
    (omega (arith, fewer_by_last mid.items c.pop-in-Some-pair_to_do.new.self.items mid.len found.pair mid.ok.0 c.pop-in-Some-pair_to_do.ensures.rest found.ensures.last, c.pair_to_do.ensures.fewer))
    (subst (IsKeptUp s) (sym c.self.view_is) c.requires)

pub returns-in-Some-pair_to_do-clause-done : goal.returns-in-Some-pair_to_do-clause-done
returns-in-Some-pair_to_do-clause-done g c = λ more.
    let s : Setting = setting c.args.classes.now (g.B.Blocks.installed c.args.switch.now).table in
    let i = c.self.inside in
    let was : Underway = record { owed = i.owed; placed = i.placed; built = i.built; tags = i.tags.items; pairs = i.pairs.items } in
    let now : Underway = record was { built = c.build.new.self; tags = c.tag_to_do.new.tags.items; pairs = c.pop-in-Some-pair_to_do.new.self.items } in
    let found = c.in-Some-pair_to_do in
    let mid = c.pair_to_do.new.pairs in
    subst (λ j. NeedsFewer s 1 j now) c.self.view_is
    (built_needs s was now found.pair found.old.now found.ensures.found refl c.in_ok-build.ensures.built c.tag_to_do.ensures.kept
    (λ q has m. all_but_last mid.items c.pop-in-Some-pair_to_do.new.self.items mid.len found.pair mid.ok.0 c.pop-in-Some-pair_to_do.ensures.rest found.ensures.last q (c.pair_to_do.ensures.kept q has m))
    (omega (arith, fewer_by_last mid.items c.pop-in-Some-pair_to_do.new.self.items mid.len found.pair mid.ok.0 c.pop-in-Some-pair_to_do.ensures.rest found.ensures.last, c.pair_to_do.ensures.fewer)))

pub returns-clause-kept : goal.returns-clause-kept
returns-clause-kept g c =
    let s : Setting = setting c.args.classes.now (g.B.Blocks.installed c.args.switch.now).table in
    let i = c.self.inside in
    let was : Underway = record { owed = i.owed; placed = i.placed; built = i.built; tags = i.tags.items; pairs = i.pairs.items } in
    shortened_kept s was (record was { tags = c.tag_to_do.new.tags.items; pairs = c.pair_to_do.new.pairs.items }) refl refl c.tag_to_do.ensures.kept c.pair_to_do.ensures.kept c.pair_to_do.ensures.fewer
    (subst (IsKeptUp s) (sym c.self.view_is) c.requires)
