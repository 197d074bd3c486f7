-- For each predicate there is a classifier that keeps a packet where it holds.
use Rattle.std.proofs.Common.{◌≡◌, Option, Some, None, List, [], ◌∷◌, map, refl, inl, inr, ◌∙◌, subst}
use Rattle.std.proofs.lemmas.List.{append-nil}
use Rattle.classifier.proofs.CompileLemmas
use Rattle.classifier.proofs.CompileLemmas.{Assigns}
use Rattle.classifier.proofs.LineLemmas.{composed-everything, product-everything}
use Rattle.classifier.proofs.ResultLemmas.{assigns-composed, assigns-negated, assigns-product, assigns-tested, cubes-composed, cubes-product, cubes-tested, meaning-all, meaning-composed, meaning-negated, meaning-tested, meaning-union}
use Rattle.classifier.proofs.DecideLemmas.{total}
use Rattle.classifier.proofs.ShapeLemmas.{distinct-add_lines, ends-add_lines, ends-everything}
use Rattle.classifier.proofs.TightLemmas.{cubes-negated, distinct-negated, ends-negated}
use Rattle.classifier.specs.Compiled.{Filters, KeepsFound}
use Rattle.classifier.specs.Items.{Item}
use Rattle.classifier.specs.Lines.{add_lines, composed, line, negated, product, tested, unchanged}
use Rattle.classifier.specs.declared.classifier.Classifier.{Classifier}
use Rattle.classifier.specs.declared.join.Join.TheVariants.{Union}
use Rattle.net_types.proofs.CubeLemmas.{within_refl}
use Rattle.net_types.proofs.PolicyLemmas.{has-test_cube}
use Rattle.net_types.specs.Cubes.{everything}
use Rattle.net_types.specs.Policies.{Pred, Yes, Is, Not, And, Or, one_more, plain, test_cube}
use Rattle.net_types.specs.Sets.{Member}
use Rattle.net_types.specs.declared.cube.Cube.{Cube}

-- ---- the operations

-- these items for all headers
abbrev pub for_all : List Item → Classifier
for_all items = record { lines = line items everything ∷ []; distinct = (λ k. elim k [ ], tt); total = within_refl everything }

pub assigns_for_all : (items : List Item) → Assigns items (for_all items)
assigns_for_all items m k = subst (Member m) (append-nil (map (λ (i : Item). i.0) items)) k

-- the packet as it is in a cube, and nothing elsewhere
abbrev within : Cube → Classifier
within cube = record { lines = add_lines [] (tested cube); distinct = distinct-add_lines [] (tested cube) tt; total = ends-add_lines (tested cube) (inr (inl refl)) }

-- the packet as it is where the other gives nothing
abbrev outside : Classifier → Classifier
outside a = record { lines = negated a.lines; distinct = distinct-negated a.lines a.distinct; total = ends-negated a.lines ∙ a.total }

-- what either gives
abbrev pub either : Classifier → Classifier → Classifier
either a b = record {
  lines = add_lines [] (product Union a.lines b.lines);
  distinct = distinct-add_lines [] (product Union a.lines b.lines) tt;
  total = ends-add_lines (product Union a.lines b.lines) (product-everything Union a.lines b.lines (ends-everything a.lines a.total) (ends-everything b.lines b.total));
}

-- what the second gives of each packet that the first gives
abbrev pub chained : Classifier → Classifier → Classifier
chained a b = record {
  lines = add_lines [] (composed a.lines b.lines);
  distinct = distinct-add_lines [] (composed a.lines b.lines) tt;
  total = ends-add_lines (composed a.lines b.lines) (composed-everything a.lines b.lines (ends-everything a.lines a.total) (ends-everything b.lines b.total));
}

-- ---- predicates

-- a classifier of a predicate
pub record Filter (p : Pred) : Type 0 where
  pub made : Classifier
  pub filters : Filters p made

-- a classifier of the cube that was found, if any
record Found (found : Option Cube) : Type 0 where
  made : Classifier
  keeps : KeepsFound found made

keep_found : (found : Option Cube) → Found found
keep_found (Some cube) = record {
  made = within cube;
  keeps = record { means = meaning-tested cube; cubes = cubes-tested cube; assigns = assigns-tested cube };
}
keep_found None = record { made = for_all []; keeps = CompileLemmas.keeps-none [] (for_all []) refl (meaning-all []) refl (assigns_for_all []) }

negation : (p : Pred) → Filter p → Filter (Not p)
negation p f = record {
  made = outside f.made;
  filters = CompileLemmas.filters-not p f.made (outside f.made) f.filters (λ h l. meaning-negated f.made.lines h l (total f.made.lines f.made.total h)) (cubes-negated f.made.lines) (assigns-negated f.made.lines);
}

disjunction : (p q : Pred) → Filter p → Filter q → Filter (Or p q)
disjunction p q f g = record {
  made = either f.made g.made;
  filters =
      CompileLemmas.filters-or p q f.made g.made (either f.made g.made) f.filters g.filters
      (λ h l. meaning-union f.made.lines g.made.lines h l (total f.made.lines f.made.total h) (total g.made.lines g.made.total h))
      (cubes-product Union f.made.lines g.made.lines) (assigns-product Union f.made.lines g.made.lines);
}

conjunction : (p q : Pred) → Filter p → Filter q → Filter (And p q)
conjunction p q f g = of (one_more (plain p) q) refl
  where
    of : (o : Option (Option Cube)) → one_more (plain p) q ≡ o → Filter (And p q)
    of None e = record {
      made = chained f.made g.made;
      filters =
          CompileLemmas.filters-and p q f.made g.made (chained f.made g.made) e f.filters g.filters
          (meaning-composed f.made.lines g.made.lines (total f.made.lines f.made.total) (total g.made.lines g.made.total))
          (cubes-composed f.made.lines g.made.lines) (assigns-composed f.made.lines g.made.lines);
    }
    of (Some found) e = let k = keep_found found in record { made = k.made; filters = CompileLemmas.filters-plain p q found k.made e k.keeps }

pub filter_of : (p : Pred) → Filter p
filter_of Yes = record {
  made = for_all (unchanged ∷ []);
  filters = CompileLemmas.filters-all (unchanged ∷ []) (for_all (unchanged ∷ [])) (meaning-all (unchanged ∷ [])) refl (assigns_for_all (unchanged ∷ [])) Yes (λ h l. refl) CompileLemmas.no_change_only;
}
filter_of (Is test span) = record {
  made = within (test_cube test);
  filters =
      CompileLemmas.filters-test (Is test span) (test_cube test) (within (test_cube test)) (λ h. has-test_cube test h) (λ x k. k)
      (meaning-tested (test_cube test)) (cubes-tested (test_cube test)) (assigns-tested (test_cube test));
}
filter_of (Not p) = negation p (filter_of p)
filter_of (And p q) = conjunction p q (filter_of p) (filter_of q)
filter_of (Or p q) = disjunction p q (filter_of p) (filter_of q)
