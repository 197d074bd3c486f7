-- For each policy there is a classifier that does what it does, whose cubes are meets of the policy's atoms.
use Rattle.std.proofs.Common.{◌≡◌, ℕ, Option, Some, None, List, [], ◌∷◌, refl, sym, ap}
use Rattle.classifier.proofs.CompileLemmas
use Rattle.classifier.proofs.DecideLemmas.{total}
use Rattle.classifier.proofs.ResultLemmas.{assigns-composed, assigns-product, cubes-composed, cubes-product, meaning-all, meaning-composed, meaning-union}
use Rattle.classifier.specs.Compiled.{IsCompiled}
use Rattle.classifier.specs.Items.{Item}
use Rattle.classifier.specs.Lines.{unchanged}
use Rattle.classifier.specs.Meaning.{carried}
use Rattle.classifier.specs.declared.classifier.Classifier.{Classifier}
use Rattle.classifier.specs.declared.join.Join.TheVariants.{Union}
use Rattle.net_types.specs.Headers.{no_change}
use Rattle.net_types.specs.Policies.{Policy, Drop, Pass, Block, Fwd, Match, Set, Both, Then, Name, Number, Target, den, mods, to_participant}
use Rattle.net_types.specs.Sets.{Member}
use Rattle.net_types.specs.declared.address.Pid.{Pid}
use Rattle.net_types.specs.declared.headers.Assign.{Assign}
use Rattle.net_types.specs.declared.headers.Headers.{Headers}
use Rattle.net_types.specs.declared.headers.Loc.{Loc}
use Rattle.net_types.specs.declared.headers.Loc.TheVariants.{Stay, To, Out, Nowhere}
use Rattle.net_types.specs.declared.headers.Span.{Span}
use Rattle.rule_laws.proofs.CompiledPreds.{assigns_for_all, chained, either, filter_of, for_all}
use Rattle.std.proofs.Common.{map}

-- the packet with an assignment and a location
abbrev only : Assign → Loc → List Item
only m l = (m, l) ∷ []

module _ (named : List ℕ → Option Pid) where
  -- a classifier of a policy
  pub record Compiled (p : Policy) : Type 0 where
    pub made : Classifier
    pub compiled : IsCompiled named p made

  -- the policy does the same to all headers
  same_for_all : (items : List Item) (p : Policy) → ((h : Headers) (l : Loc) → map (carried h l) items ≡ den named p h l) → ((m : Assign) → Member m (map (λ (i : Item). i.0) items) → Member m (mods p)) → Compiled p
  same_for_all items p same among = record {
    made = for_all items;
    compiled = CompileLemmas.compiled-all items (for_all items) (meaning-all items) refl (assigns_for_all items) named p same among;
  }

  sum : (p q : Policy) → Compiled p → Compiled q → Compiled (Both p q)
  sum p q f g = record {
    made = either f.made g.made;
    compiled =
        CompileLemmas.compiled-both named p q f.made g.made (either f.made g.made) f.compiled g.compiled
        (λ h l. meaning-union f.made.lines g.made.lines h l (total f.made.lines f.made.total h) (total g.made.lines g.made.total h))
        (cubes-product Union f.made.lines g.made.lines) (assigns-product Union f.made.lines g.made.lines);
  }

  chain : (p q : Policy) → Compiled p → Compiled q → Compiled (Then p q)
  chain p q f g = record {
    made = chained f.made g.made;
    compiled =
        CompileLemmas.compiled-then named p q f.made g.made (chained f.made g.made) f.compiled g.compiled
        (meaning-composed f.made.lines g.made.lines (total f.made.lines f.made.total) (total g.made.lines g.made.total))
        (cubes-composed f.made.lines g.made.lines) (assigns-composed f.made.lines g.made.lines);
  }

  forward : (target : Target) (span : Span) → Compiled (Fwd target span)
  forward (Number port) span = same_for_all (only no_change (Out port)) (Fwd (Number port) span) (λ h l. refl) (λ m k. k)
  forward (Name name) span = of (named name) refl
    where
      of : (o : Option Pid) → named name ≡ o → Compiled (Fwd (Name name) span)
      of (Some who) e = same_for_all (only no_change (To who)) (Fwd (Name name) span) (λ h l. sym (ap (to_participant h) e)) (λ m k. k)
      of None e = same_for_all [] (Fwd (Name name) span) (λ h l. sym (ap (to_participant h) e)) (CompileLemmas.among-none (no_change ∷ []))

  pub compiled_of : (p : Policy) → Compiled p
  compiled_of Drop = same_for_all [] Drop (λ h l. refl) (CompileLemmas.among-none (no_change ∷ []))
  compiled_of Pass = same_for_all (unchanged ∷ []) Pass (λ h l. refl) (λ m k. k)
  compiled_of Block = same_for_all (only no_change Nowhere) Block (λ h l. refl) (λ m k. k)
  compiled_of (Fwd target span) = forward target span
  compiled_of (Match p) = let f = filter_of p in record { made = f.made; compiled = CompileLemmas.compiled-match named p f.made f.filters }
  compiled_of (Set set span) = same_for_all (only set Stay) (Set set span) (λ h l. refl) (λ m k. k)
  compiled_of (Both p q) = sum p q (compiled_of p) (compiled_of q)
  compiled_of (Then p q) = chain p q (compiled_of p) (compiled_of q)
