-- The set of the pairs of long results.
use Rattle.std.proofs.Common.{◌≡◌, ◌++◌, ◌∷◌, [], Bool, true, false, eqb, ◌&&◌, ◌||◌, cond, List, refl, sym, ap, ◌∙◌}
use Rattle.std.specs.Option.{option_eq}
use Rattle.std.specs.HashSet.{contains}
use Rattle.std.proofs.Math.Bool.{or-false}
use Rattle.net_types.specs.Attributes.{same_ip}
use Rattle.net_types.specs.declared.headers.Loc.{Loc}
use Rattle.net_types.specs.declared.headers.Loc.TheVariants.{Stay, To, Out, Nowhere}
use Rattle.classifier.specs.declared.gathering.Key.{Key}
use Rattle.classifier.specs.Items.{Item, is_among, same_item, same_loc}
use Rattle.classifier.specs.Gathered.{Keys, Knows, key_eq, key_of, kind_of, number_of}

locs_are : (a b : Loc) → (eqb (kind_of a) (kind_of b) && eqb (number_of a) (number_of b)) ≡ same_loc a b
locs_are Stay Stay = refl
locs_are Stay (To y) = refl
locs_are Stay (Out y) = refl
locs_are Stay Nowhere = refl
locs_are (To x) Stay = refl
locs_are (To x) (To y) = refl
locs_are (To x) (Out y) = refl
locs_are (To x) Nowhere = refl
locs_are (Out x) Stay = refl
locs_are (Out x) (To y) = refl
locs_are (Out x) (Out y) = refl
locs_are (Out x) Nowhere = refl
locs_are Nowhere Stay = refl
locs_are Nowhere (To y) = refl
locs_are Nowhere (Out y) = refl
locs_are Nowhere Nowhere = refl

regrouped : (a b c d e : Bool) → ((a && (b && (c && d))) && e) ≡ (a && (b && (c && (d && e))))
regrouped false b c d e = refl
regrouped true false c d e = refl
regrouped true true false d e = refl
regrouped true true true d e = refl

-- the keys of two items are equal where the items are
key_eq_is : (a b : Item) → key_eq (key_of a) (key_of b) ≡ same_item a b
unfolding same_item
key_eq_is a b =
    regrouped (option_eq same_ip a.0.src b.0.src) (option_eq same_ip a.0.dst b.0.dst) (option_eq eqb a.0.sport b.0.sport) (option_eq eqb a.0.dport b.0.dport) (eqb (kind_of a.1) (kind_of b.1) && eqb (number_of a.1) (number_of b.1))
    ∙ ap (λ l. option_eq same_ip a.0.src b.0.src && (option_eq same_ip a.0.dst b.0.dst && (option_eq eqb a.0.sport b.0.sport && (option_eq eqb a.0.dport b.0.dport && l)))) (locs_are a.1 b.1)

pub among-push : (xs : List Item) (y z : Item) → is_among (xs ++ y ∷ []) z ≡ (is_among xs z || same_item y z)
among-push [] y z = or-false (same_item y z)
among-push (x ∷ xs) y z = ap (λ b. same_item x z || b) (among-push xs y z) ∙ sym (or_regroup (same_item x z) (is_among xs z) (same_item y z))
  where
    or_regroup : (a b c : Bool) → ((a || b) || c) ≡ (a || (b || c))
    or_regroup true b c = refl
    or_regroup false b c = refl

-- the set has one more key
pub knows_more : (xs : List Item) (seen next : Keys) (y : Item) → Knows xs seen → ((k : Key) → contains key_eq next k ≡ cond (key_eq (key_of y) k) true (contains key_eq seen k)) → Knows (xs ++ y ∷ []) next
knows_more xs seen next y knows updates z =
    updates (key_of z) ∙ either (key_eq (key_of y) (key_of z)) (contains key_eq seen (key_of z)) ∙ ap (λ b. b || key_eq (key_of y) (key_of z)) (knows z) ∙ ap (λ b. is_among xs z || b) (key_eq_is y z) ∙ sym (among-push xs y z)
  where
    either : (b d : Bool) → cond b true d ≡ (d || b)
    either true true = refl
    either true false = refl
    either false true = refl
    either false false = refl
