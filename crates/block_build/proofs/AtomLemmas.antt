-- The cubes of a sender's and of its receivers' rules, in any order.
use Rattle.std.proofs.Common.{◌≡◌, List, ◌++◌, inl, inr, sym, subst}
use Rattle.std.specs.List.Sorted.{IsPermutation}
use Rattle.std.proofs.lemmas.List.Sorted.{IsPermutation-sym}
use Rattle.classifier.proofs.ResultLemmas.{cube-stands}
use Rattle.classifier.specs.Meaning.{cubes_of}
use Rattle.classifier.specs.declared.line.Line.{Line}
use Rattle.net_types.proofs.MemberLemmas.{Member-permutation}
use Rattle.net_types.proofs.SetLemmas
use Rattle.net_types.specs.Meets.{IsMeet}
use Rattle.net_types.specs.Sets.{Member, union_over}
use Rattle.net_types.specs.declared.cube.Cube.{Cube}
use Rattle.block_build.specs.ByCells.{AreTheirs, HasBoth}
use Rattle.block_build.specs.declared.receive.Receiver.{Receiver}

module _ (xs : List Line) (rs : List Receiver) (cubes made : List Cube) (are : cubes ≡ cubes_of xs ++ union_over (λ (r : Receiver). cubes_of r.lines) rs) (moved : IsPermutation cubes made) where
  there : (c : Cube) → Member c (cubes_of xs ++ union_over (λ (r : Receiver). cubes_of r.lines) rs) → Member c made
  there c k = Member-permutation cubes made c moved (subst (Member c) (sym are) k)

  pub atoms-has : HasBoth rs xs made
  atoms-has = record {
    own = λ x k. there x.cube (SetLemmas.Member-append_left (cubes_of xs) (union_over (λ (r : Receiver). cubes_of r.lines) rs) x.cube (cube-stands xs x k));
    theirs = λ r k y i. there y.cube (SetLemmas.Member-append_right (cubes_of xs) (union_over (λ (r : Receiver). cubes_of r.lines) rs) y.cube
        (SetLemmas.Member-union (λ (q : Receiver). cubes_of q.lines) rs r y.cube k (cube-stands r.lines y i)));
  }

  from : (c : Cube) → Member c made → Member c (cubes_of xs ++ union_over (λ (r : Receiver). cubes_of r.lines) rs)
  from c k = subst (Member c) are (Member-permutation made cubes c (IsPermutation-sym cubes made moved) k)

  pub atoms-theirs : AreTheirs rs xs made
  atoms-theirs atoms theirs own c k = elim (SetLemmas.Member-append_cases (cubes_of xs) (union_over (λ (r : Receiver). cubes_of r.lines) rs) c (from c k)) [
    | inl mine ↦ let i = SetLemmas.map-Member (λ (x : Line). x.cube) xs c mine in subst (IsMeet atoms) (sym i.is) (own i.of i.stands)
    | inr other ↦
        let s = SetLemmas.union-Member (λ (r : Receiver). cubes_of r.lines) rs c other in
        let i = SetLemmas.map-Member (λ (x : Line). x.cube) s.of.lines c s.gives in
        subst (IsMeet atoms) (sym i.is) (theirs s.of s.stands i.of i.stands)
  ]
