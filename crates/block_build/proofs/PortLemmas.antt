-- A sender's rules of which none tells by which port a packet has to come in.
use Rattle.std.proofs.Common.{◌≡◌, true, false, not, cond, Option, Some, None, List, [], ◌∷◌, ◌++◌, append_assoc, map, refl, inl, inr, sym, ap, ◌∙◌, subst}
use Rattle.std.specs.Prelude.{is_some}
use Rattle.std.proofs.lemmas.Bool.{cases_Bool, and_parts, false≢true}
use Rattle.std.proofs.lemmas.List.{append-nil}
use Rattle.classifier.proofs.ShapeLemmas.{ends-everything, shadowed-there}
use Rattle.classifier.specs.Lines.{add_lines, is_shadowed, line}
use Rattle.classifier.specs.Meaning.{HasDistinctCubes, cubes_of, ends_with_everything}
use Rattle.classifier.specs.declared.line.Line.{Line}
use Rattle.net_types.proofs.SetLemmas
use Rattle.net_types.specs.Cells.{freed_from}
use Rattle.net_types.specs.Cubes.{everything}
use Rattle.net_types.specs.Sets.{Member}
use Rattle.net_types.specs.declared.address.PortNo.{PortNo}
use Rattle.net_types.specs.declared.cube.Cube.{Cube}
use Rattle.block_build.specs.Right.{are_for_any_port}
use Rattle.block_build.specs.Spreads.{restricted}

-- ---- a port makes no difference

not_some : {A : Type 0} (o : Option A) → not (is_some o) ≡ true → o ≡ None
not_some None e = refl
not_some (Some x) e = absurd (false≢true e)

pub restricted_any : (port : PortNo) (xs : List Line) → are_for_any_port xs ≡ true → restricted port xs ≡ xs
restricted_any port [] e = refl
restricted_any port (x ∷ xs) e =
    let parts = and_parts (not (is_some x.cube.inport)) (are_for_any_port xs) e in
    ap (λ o. map (line x.results) (freed_from port x.cube o) ++ restricted port xs) (not_some x.cube.inport parts.0)
    ∙ ap (λ ys. x ∷ ys) (restricted_any port xs parts.1)

-- ---- nothing is put twice

-- a cube of the first rules is none of the others'
distinct_apart : (ks zs : List Line) (c : Cube) → HasDistinctCubes (ks ++ zs) → Member c (cubes_of ks) → Member c (cubes_of zs) → ⊥
distinct_apart [] zs c d k m = elim k [ ]
distinct_apart (x ∷ ks) zs c d (inl e) m =
    d.0 (subst (λ y. Member y (cubes_of (ks ++ zs))) e (subst (Member c) (sym (SetLemmas.map-append (λ (z : Line). z.cube) ks zs)) (SetLemmas.Member-append_right (cubes_of ks) (cubes_of zs) c m)))
distinct_apart (x ∷ ks) zs c d (inr k) m = distinct_apart ks zs c d.1 k m

ends_later : (ks : List Line) (y : Line) (ys : List Line) → ends_with_everything (ks ++ y ∷ ys) ≡ ends_with_everything (y ∷ ys)
ends_later [] y ys = refl
ends_later (x ∷ []) y ys = refl
ends_later (x ∷ (z ∷ ks)) y ys = ends_later (z ∷ ks) y ys

-- the first of the others can be reached
next_reached : (ks : List Line) (y : Line) (ys : List Line) → HasDistinctCubes (ks ++ y ∷ ys) → ends_with_everything (ks ++ y ∷ ys) ≡ true → is_shadowed ks y ≡ false
next_reached ks y ys d t = elim (cases_Bool (is_shadowed ks y)) [
  | inl hidden ↦ absurd (elim (shadowed-there ks y hidden) [
    | inl same ↦ distinct_apart ks (y ∷ ys) y.cube d same (inl refl)
    | inr all ↦ distinct_apart ks (y ∷ ys) everything d all (ends-everything (y ∷ ys) (sym (ends_later ks y ys) ∙ t))
  ])
  | inr reached ↦ reached
]

added_own : (ks xs : List Line) → HasDistinctCubes (ks ++ xs) → ends_with_everything (ks ++ xs) ≡ true → add_lines ks xs ≡ ks ++ xs
added_own ks [] d t = sym (append-nil ks)
added_own ks (y ∷ ys) d t =
    ap (λ b. add_lines (cond b ks (ks ++ y ∷ [])) ys) (next_reached ks y ys d t)
    ∙ added_own (ks ++ y ∷ []) ys (subst HasDistinctCubes (sym same) d) (ap ends_with_everything same ∙ t)
    ∙ same
  where
    same : (ks ++ y ∷ []) ++ ys ≡ ks ++ y ∷ ys
    same = append_assoc ks (y ∷ []) ys

-- the rules at a port are the rules
pub own_at_port : (port : PortNo) (xs : List Line) → are_for_any_port xs ≡ true → HasDistinctCubes xs → ends_with_everything xs ≡ true → add_lines [] (restricted port xs) ≡ xs
own_at_port port xs any d t = ap (add_lines []) (restricted_any port xs any) ∙ added_own [] xs d t
