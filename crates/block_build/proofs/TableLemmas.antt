-- Tables of cells.
use Rattle.std.proofs.Common.{◌≡◌, ◌<◌, ℕ, get_or, List, [], ◌∷◌, ◌++◌, length, inl, inr, refl, sym, ap, ◌∙◌, subst}
use Rattle.std.specs.List.{slice_get}
use Rattle.std.proofs.lemmas.Option.{get_or_from_slice_get, slice_get_within}
use Rattle.cells.specs.Firsts.{firsts}
use Rattle.cells.proofs.BlockLemmas.{Member-slice_get, slice_get-last}
use Rattle.net_types.specs.Sets.{Member}
use Rattle.net_types.specs.declared.cube.Cube.{Cube}
use Rattle.net_types.proofs.SetLemmas.{Member-append_cases}
use Rattle.block_build.specs.Tables.{AreTables, IsAt, IsTable}
use Rattle.block_build.specs.declared.tables.Table.{Table}

-- one table more
pub tables-push : (cells : List Cube) (tables more : List Table) (t : Table) → more ≡ tables ++ t ∷ [] → IsTable cells t → AreTables cells tables → AreTables cells more
tables-push cells tables more t e is are k there = elim (Member-append_cases tables (t ∷ []) k (subst (Member k) e there)) [
  | inl old ↦ are k old
  | inr new ↦ elim new [ inl same ↦ subst (IsTable cells) (sym same) is | inr none ↦ elim none [ ] ]
]

pub table-last : (tables more : List Table) (t : Table) (n : ℕ) → more ≡ tables ++ t ∷ [] → n ≡ length tables → IsAt more t.cubes.items n
table-last tables more t n e last = (t, ap (λ xs. slice_get xs n) e ∙ ap (slice_get (tables ++ t ∷ [])) last ∙ slice_get-last tables t, refl)

-- what the table with a number tells
pub table-places : (cells cubes : List Cube) (tables : List Table) (n : ℕ) (t : Table) → AreTables cells tables → IsAt tables cubes n → t ≡ get_or tables n t → t.firsts.value.items ≡ firsts cubes cells
table-places cells cubes tables n t are at is =
    let same : t ≡ at.0 = is ∙ get_or_from_slice_get tables n at.0 t at.1 in
    ap (λ s. s.firsts.value.items) same ∙ are at.0 (Member-slice_get tables n at.0 at.1) ∙ ap (λ (xs : List Cube). firsts xs cells) at.2

pub table-within : (tables : List Table) (cubes : List Cube) (n : ℕ) → IsAt tables cubes n → n < length tables
table-within tables cubes n at = slice_get_within tables n at.0 at.1
