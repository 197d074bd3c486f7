-- The attributes of a message have types of their own.
use Rattle.std.proofs.Common.{◌≡◌, ℕ, Bool, true, false, cond, eqb, List, [], ◌∷◌, length, Result, Ok, refl, sym, ap, ◌∙◌, subst, inl, inr, arith}
use Rattle.std.specs.Prelude.{Option, Some, None}
use Rattle.std.proofs.lemmas.Bool.{eqb-true, not-true}
use Rattle.grammar.specs.Formats.{AllSpell, ◌>>=◌}
use Rattle.grammar.proofs.Blocks.{AllHold, all_hold}
use Rattle.grammar.proofs.FormatExact.{octet_first}
use Rattle.net_types.specs.AttributeTypes.{type_number, type_of}
use Rattle.net_types.specs.UpdateFormat.{IsWide, attribute, known_value, no_types, number_of, unknown_value, value, wide_value, with_type}
use Rattle.net_types.specs.declared.attribute.Attribute.{Attribute}
use Rattle.net_types.specs.declared.attribute.AttributeType.{AttributeType}
use Rattle.net_types.specs.declared.attribute.AttributeType.TheVariants as types
use Rattle.net_types.specs.declared.route.Segment.{Segment}
use Rattle.net_types.specs.declared.update.Fault.{Fault}
use Rattle.bgp_update.proofs.UpdateExact.{attribute_exact}
use Rattle.bgp_update.specs.Answers.{AreNew}
use Rattle.net_types.specs.UpdateReading.{read_attribute, read_attributes}

pick : (n k : ℕ) (t u : AttributeType) (more : Option AttributeType) (b : Bool) → eqb n k ≡ b → type_number t ≡ k → (more ≡ Some u → type_number u ≡ n) → cond b (Some t) more ≡ Some u → type_number u ≡ n
pick n k t u more true e is later h = let same : u ≡ t = cc in ap type_number same ∙ is ∙ sym (eqb-true n k e)
pick n k t u more false e is later h = later h

none_is : (n : ℕ) (u : AttributeType) → None ≡ Some u → type_number u ≡ n
none_is n u e = cc

-- a number that is a type's is the type's number
pub type_number_of : (n : ℕ) (u : AttributeType) → type_of n ≡ Some u → type_number u ≡ n
type_number_of n u h =
    pick n 1 types.Origin u _ _ refl refl (pick n 2 types.AsPath u _ _ refl refl (pick n 3 types.NextHop u _ _ refl refl (pick n 4 types.MultiExitDisc u _ _ refl refl
    (pick n 5 types.LocalPref u _ _ refl refl (pick n 6 types.AtomicAggregate u _ _ refl refl (pick n 7 types.Aggregator u _ _ refl refl (pick n 8 types.Communities u _ _ refl refl
    (pick n 17 types.As4Path u None _ refl refl (none_is n u))))))))) h

value_17 : (segments : List Segment) → number_of (wide_value segments) ≡ 17
value_17 [] = refl
value_17 (s ∷ segments) = refl

-- an AS4_PATH has its type, whether it is a path or ignored
wide_number : (inner : List ℕ) (x : Attribute) → IsWide inner x → number_of x ≡ 17
wide_number inner x (inl w) = ap number_of w.2 ∙ value_17 w.0
wide_number inner x (inr w) = ap number_of w.2

known_number : (type : AttributeType) (partial : Bool) (inner b : List ℕ) (x : Attribute) → (known_value type partial inner).Spells b x → number_of x ≡ type_number type
unfolding ◌>>=◌
known_number types.Origin partial inner b x sp = ap number_of sp.5.1
known_number types.AsPath partial inner b x sp = ap number_of sp.5.1
known_number types.NextHop partial inner b x sp = ap number_of sp.5.1
known_number types.MultiExitDisc partial inner b x sp = ap number_of sp.1
known_number types.LocalPref partial inner b x sp = ap number_of sp.1
known_number types.AtomicAggregate partial inner b x sp = ap number_of sp.1
known_number types.Aggregator partial inner b x sp = ap number_of sp.1
known_number types.Communities partial inner b x sp = ap number_of sp.1
known_number types.As4Path partial inner b x sp = wide_number inner x sp.1

unknown_number : (transitive : Bool) (number : ℕ) (inner : List ℕ) → number_of (unknown_value transitive number inner) ≡ number
unknown_number true number inner = refl
unknown_number false number inner = refl

value_number : (t : Option AttributeType) (number flags : ℕ) (inner b : List ℕ) (x : Attribute) → type_of number ≡ t → (value t number flags inner).Spells b x → number_of x ≡ number
unfolding ◌>>=◌
value_number None number flags inner b x e sp = ap number_of sp.5.1 ∙ unknown_number _ number inner
value_number (Some type) number flags inner b x e sp = known_number type _ inner _ x sp.5.5 ∙ type_number_of number type e

is_new : (seen : ℕ → Bool) (a : List ℕ) (x : Attribute) → (attribute seen).Spells a x → seen (number_of x) ≡ false
unfolding ◌>>=◌
is_new seen a x sp =
    let number : ℕ = sp.5.2 in
    ap seen (value_number _ sp.5.2 sp.2 _ _ x refl sp.5.5.5.5.5) ∙ not-true (seen sp.5.2) sp.5.5.5.5.4.1

pub all_new : (seen : ℕ → Bool) (s : List ℕ) (xs : List Attribute) → AllSpell attribute with_type seen s xs → AreNew seen xs
all_new seen s [] sp = tt
all_new seen s (x ∷ xs) sp = (is_new seen sp.0 x sp.3, all_new (with_type seen x) sp.1 xs sp.4)

-- what is read of a block has types of its own
pub read_new : (s : List ℕ) (xs : List Attribute) → read_attributes s ≡ Ok xs → AreNew no_types xs
unfolding read_attributes
read_new s xs e = go (all_hold attribute with_type read_attribute attribute_exact (λ seen a x sp. octet_first _ _ a x sp) (length s) no_types s (omega arith))
  where
    go : AllHold attribute with_type no_types s (read_attributes s) → AreNew no_types xs
    go h = all_new no_types s xs (subst (λ (r : Result (List Attribute) Fault). AllHold attribute with_type no_types s r) e h).spells
