-- What is left of entries that rise, after the first of those above a prefix.
use Rattle.std.proofs.Common.{◌≡◌, true, false, cond, Option, List, [], ◌∷◌, sym, ap, subst, ◌∙◌, refl}
use Rattle.std.specs.Prelude.{Some, None}
use Rattle.std.specs.Ordering.{is_lt}
use Rattle.std.specs.declared.cmp.Ordering.TheVariants.{Less, Greater}
use Rattle.std.specs.FinMap.Entries.{is_sorted, below_all}
use Rattle.std.proofs.lemmas.Bool.{and_parts}
use Rattle.net_types.proofs.OrderLemmas.{prefixes_total}
use Rattle.net_types.specs.Keys.{prefix_cmp}
use Rattle.net_types.specs.declared.prefix.Prefix.{Prefix}
use Rattle.prefix_map.specs.Entries.{above, left_after}
use Rattle.net_types.specs.Routes.{first_of_list}
use Rattle.prefix_map.proofs.ListLemmas.{IsBefore, above_all}
use Rattle.net_types.proofs.TieLemmas.{less}
use Rattle.prefix_map.proofs.NodeLemmas.{tied_itself}
use Rattle.prefix_map.proofs.StandLemmas.{turned}
use Rattle.std.proofs.lemmas.Option.{same_Some}

module _ {V : Type 0} where
  pub before_below : (x : Prefix) (es : List (Prefix × V)) → below_all prefix_cmp x es ≡ true → IsBefore x es
  before_below x [] h = tt
  before_below x (e ∷ es) h =
      let parts = and_parts (is_lt (prefix_cmp x e.0)) (below_all prefix_cmp x es) h in
      (less _ parts.0, before_below x es parts.1)

  before_smaller : (q x : Prefix) (es : List (Prefix × V)) → prefix_cmp q x ≡ Less → IsBefore x es → IsBefore q es
  before_smaller q x [] low h = tt
  before_smaller q x (e ∷ es) low h = (prefixes_total.trans q x e.0 low h.0, before_smaller q x es low h.1)

  before_above : (x q : Prefix) (es : List (Prefix × V)) → IsBefore x es → IsBefore x (above q es)
  before_above x q [] h = tt
  before_above x q (e ∷ es) h =
      elim (is_lt (prefix_cmp q e.0)) as (λ b. IsBefore x (cond b (e ∷ above q es) (above q es))) [ true ↦ (h.0, before_above x q es h.1) | false ↦ before_above x q es h.1 ]

  first_above : (x : Prefix) (es : List (Prefix × V)) (e : Prefix × V) → IsBefore x es → first_of_list es ≡ Some e → prefix_cmp x e.0 ≡ Less
  first_above x [] e h is = cc
  first_above x (d ∷ es) e h is = subst (λ (f : Prefix × V). prefix_cmp x f.0 ≡ Less) (same_Some d e is) h.0

  -- nothing of what follows an entry is lost above its prefix
  above_first : (e : Prefix × V) (es : List (Prefix × V)) → IsBefore e.0 es → above e.0 (e ∷ es) ≡ es
  above_first e es h = ap (λ r. cond (is_lt r) (e ∷ above e.0 es) (above e.0 es)) (tied_itself e.0) ∙ above_all e.0 es h

  after_all : (es : List (Prefix × V)) (e : Prefix × V) → is_sorted prefix_cmp es ≡ true → first_of_list es ≡ Some e → es ≡ e ∷ above e.0 es
  after_all [] e rising is = cc
  after_all (d ∷ es) e rising is =
      let parts = and_parts (below_all prefix_cmp d.0 es) (is_sorted prefix_cmp es) rising in
      subst (λ (f : Prefix × V). d ∷ es ≡ f ∷ above f.0 (d ∷ es)) (same_Some d e is) (ap (λ ds. d ∷ ds) (sym (above_first d es (before_below d.0 es parts.0))))

  after_above : (q : Prefix) (es : List (Prefix × V)) (e : Prefix × V) → is_sorted prefix_cmp es ≡ true → first_of_list (above q es) ≡ Some e → above q es ≡ e ∷ above e.0 es
  after_above q [] e rising is = cc
  after_above q (d ∷ es) e rising is =
      let parts = and_parts (below_all prefix_cmp d.0 es) (is_sorted prefix_cmp es) rising in
      let below = before_below d.0 es parts.0 in
      elim (is_lt (prefix_cmp q d.0)) as (λ b. is_lt (prefix_cmp q d.0) ≡ b → first_of_list (cond b (d ∷ above q es) (above q es)) ≡ Some e → cond b (d ∷ above q es) (above q es) ≡ e ∷ above e.0 (d ∷ es)) [
        | true ↦ λ low first.
            subst (λ (f : Prefix × V). d ∷ above q es ≡ f ∷ above f.0 (d ∷ es)) (same_Some d e first)
            (ap (λ ds. d ∷ ds) (above_all q es (before_smaller q d.0 es (less _ low) below) ∙ sym (above_first d es below)))
        | false ↦ λ high first.
            let greater : prefix_cmp e.0 d.0 ≡ Greater = turned d.0 e.0 (first_above d.0 (above q es) e (before_above d.0 q es below) first) in
            after_above q es e parts.1 first ∙ ap (λ r. e ∷ cond (is_lt r) (d ∷ above e.0 es) (above e.0 es)) (sym greater)
      ] refl is

  pub after_left : (last : Option Prefix) (es : List (Prefix × V)) (e : Prefix × V) → is_sorted prefix_cmp es ≡ true → first_of_list (left_after last es) ≡ Some e → left_after last es ≡ e ∷ above e.0 es
  after_left None es e rising is = after_all es e rising is
  after_left (Some last) es e rising is = after_above last es e rising is
