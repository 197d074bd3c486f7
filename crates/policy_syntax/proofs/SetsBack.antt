-- The canonical text of a modification is read as the modification.
use Rattle.std.proofs.Common.{◌≡◌, ℕ, ◌+◌, ◌≤◌, Option, Some, None, List, [], ◌∷◌, ◌++◌, length, refl, sym, subst, append_assoc, arith, inl, inr}
use Rattle.std.specs.Prelude.{codes}
use Rattle.std.specs.Fmt.{decimal}
use Rattle.net_types.specs.declared.address.Ip.{Ip}
use Rattle.std.proofs.lemmas.List.{append-nil}
use Rattle.grammar.specs.Rules.{place, word, ◌>>=◌, many, SpellsTimes}
use Rattle.grammar.specs.Octets.{AllPass}
use Rattle.grammar.specs.Tokens.{is_space, number, spaces}
use Rattle.net_types.specs.PolicyGrammar.{span, with_field, Field, SrcIs, DstIs, SportIs, DportIs, assign, assigned, more_assigned, modify}
use Rattle.net_types.specs.declared.headers.Assign.{Assign}
use Rattle.net_types.specs.Headers.{no_change}
use Rattle.net_types.specs.Policies.{Set}
use Rattle.grammar.specs.Tokens.{address, address_text}
use Rattle.policy_syntax.specs.Canonical.{assign_text}
use Rattle.policy_syntax.proofs.ReadBack.{both, ended, no_spaces, signed, decimal_number, Anywhere, field_back, ip_back}
use Rattle.policy_syntax.proofs.FittingPolicies.{SoundField, AllSound, fields_of, IsNonEmpty, SoundAssign}
use Rattle.policy_syntax.proofs.PolicyBack.{SetsBack}

abbrev field_string : Field → List ℕ
field_string (SrcIs ip) = codes "srcip=" ++ address_text ip
field_string (DstIs ip) = codes "dstip=" ++ address_text ip
field_string (SportIs n) = codes "srcport=" ++ decimal n
field_string (DportIs n) = codes "dstport=" ++ decimal n

abbrev more_text : List Field → List ℕ
more_text [] = []
more_text (f ∷ fs) = (44 ∷ field_string f) ++ more_text fs

abbrev with_fields : Assign → List Field → Assign
with_fields a [] = a
with_fields a (f ∷ fs) = with_fields (with_field a f) fs

port_back : (n : ℕ) → n ≤ 65535 → Anywhere (number 0 65535) (decimal n) n
port_back n h at = decimal_number 0 65535 n (omega (arith, h)) (omega arith) h at

assign_back : (f : Field) → SoundField f → Anywhere assign (field_string f) f
assign_back (SrcIs ip) h at = inl (inl (field_back (codes "srcip") address SrcIs (address_text ip) ip (ip_back ip h) at))
assign_back (SportIs n) h at = inl (inr (field_back (codes "srcport") (number 0 65535) SportIs (decimal n) n (port_back n h) at))
assign_back (DstIs ip) h at = inr (inl (field_back (codes "dstip") address DstIs (address_text ip) ip (ip_back ip h) at))
assign_back (DportIs n) h at = inr (inr (field_back (codes "dstport") (number 0 65535) DportIs (decimal n) n (port_back n h) at))

assigned_back : (f : Field) → SoundField f → Anywhere assigned (field_string f) f
unfolding ◌>>=◌
assigned_back f h at = (field_string f, [], f, sym (append-nil (field_string f)), assign_back f h at, ([], [], tt, refl, tt, (refl, refl)))

times_back : (fs : List Field) → AllSound fs → (before : Assign) (at : ℕ) → SpellsTimes with_field more_assigned (length fs) before at (more_text fs) (with_fields before fs)
times_back [] h before at = (refl, refl)
times_back (f ∷ fs) h before at =
    (44 ∷ field_string f, more_text fs, f, refl, signed (codes ",") assigned at (field_string f) f (assigned_back f h.0 _), times_back fs h.1 (with_field before f) _)

list_back : (f : Field) (fs : List Field) → SoundField f → AllSound fs → (start at : ℕ) (t : List ℕ) → AllPass is_space t
    → (e : ℕ) × (modify start).Spells at (codes "modify(" ++ ((field_string f ++ more_text fs) ++ (codes ")" ++ t))) (Set (with_fields (with_field no_change f) fs) (span start e))
list_back f fs h hs start at t all =
    let first = with_field no_change f in
    let set = with_fields first fs in
    let p = at + 6 + 0 + 1 + length (field_string f) + length (more_text fs) + 1 in
    let regroup : (field_string f ++ more_text fs) ++ (codes ")" ++ t) ≡ field_string f ++ (more_text fs ++ (codes ")" ++ t)) = append_assoc (field_string f) (more_text fs) (codes ")" ++ t) in (
      p,
      subst (λ (w : List ℕ). (modify start).Spells at (codes "modify(" ++ w) (Set set (span start p))) (sym regroup)
          (both (word (codes "modify")) _ at (codes "modify") _ tt _ refl (no_spaces _ _ _ _ (signed (codes "(") _ _ _ _
          (both assigned _ _ (field_string f) _ f _ (assigned_back f h _)
          (both (many with_field more_assigned first) _ _ (more_text fs) (codes ")" ++ t) set _ (length fs, times_back fs hs first _)
          (both (word (codes ")")) _ _ (codes ")") t tt _ refl (both place _ _ [] t p _ (refl, omega arith) (ended spaces (λ _. Set set (span start p)) _ t tt all)))))))),
    )

abbrev made : Option Ip → Option Ip → Option ℕ → Option ℕ → Assign
made s d p q = record { src = s; dst = d; sport = p; dport = q }

text_back : (w : List ℕ) (f : Field) (fs : List Field) → w ≡ field_string f ++ more_text fs → SoundField f → AllSound fs → (start at : ℕ) (t : List ℕ) → AllPass is_space t
    → (e : ℕ) × (modify start).Spells at (codes "modify(" ++ (w ++ (codes ")" ++ t))) (Set (with_fields (with_field no_change f) fs) (span start e))
text_back w f fs same h hs start at t all =
    let k = list_back f fs h hs start at t all in
    (k.0, subst (λ (v : List ℕ). (modify start).Spells at (codes "modify(" ++ (v ++ (codes ")" ++ t))) (Set (with_fields (with_field no_change f) fs) (span start k.0))) (sym same) k.1)

cases_back : (s d : Option Ip) (p q : Option ℕ) → AllSound (fields_of s d p q) → IsNonEmpty (fields_of s d p q) → (start at : ℕ) (t : List ℕ) → AllPass is_space t
    → (e : ℕ) × (modify start).Spells at (codes "modify(" ++ (assign_text (made s d p q) ++ (codes ")" ++ t))) (Set (made s d p q) (span start e))
cases_back None None None None h some start at t all = absurd some
cases_back None None None (Some d) h some start at t all = text_back (assign_text (made None None None (Some d))) (DportIs d) ([]) (simp append-nil) h.0 h.1 start at t all
cases_back None None (Some c) None h some start at t all = text_back (assign_text (made None None (Some c) None)) (SportIs c) ([]) refl h.0 h.1 start at t all
cases_back None None (Some c) (Some d) h some start at t all = text_back (assign_text (made None None (Some c) (Some d))) (SportIs c) (DportIs d ∷ []) (simp append-nil) h.0 h.1 start at t all
cases_back None (Some b) None None h some start at t all = text_back (assign_text (made None (Some b) None None)) (DstIs b.0) ([]) refl h.0 h.1 start at t all
cases_back None (Some b) None (Some d) h some start at t all = text_back (assign_text (made None (Some b) None (Some d))) (DstIs b.0) (DportIs d ∷ []) (simp append-nil) h.0 h.1 start at t all
cases_back None (Some b) (Some c) None h some start at t all = text_back (assign_text (made None (Some b) (Some c) None)) (DstIs b.0) (SportIs c ∷ []) refl h.0 h.1 start at t all
cases_back None (Some b) (Some c) (Some d) h some start at t all = text_back (assign_text (made None (Some b) (Some c) (Some d))) (DstIs b.0) (SportIs c ∷ DportIs d ∷ []) (simp append-nil) h.0 h.1 start at t all
cases_back (Some a) None None None h some start at t all = text_back (assign_text (made (Some a) None None None)) (SrcIs a.0) ([]) refl h.0 h.1 start at t all
cases_back (Some a) None None (Some d) h some start at t all = text_back (assign_text (made (Some a) None None (Some d))) (SrcIs a.0) (DportIs d ∷ []) (simp append-nil) h.0 h.1 start at t all
cases_back (Some a) None (Some c) None h some start at t all = text_back (assign_text (made (Some a) None (Some c) None)) (SrcIs a.0) (SportIs c ∷ []) refl h.0 h.1 start at t all
cases_back (Some a) None (Some c) (Some d) h some start at t all = text_back (assign_text (made (Some a) None (Some c) (Some d))) (SrcIs a.0) (SportIs c ∷ DportIs d ∷ []) (simp append-nil) h.0 h.1 start at t all
cases_back (Some a) (Some b) None None h some start at t all = text_back (assign_text (made (Some a) (Some b) None None)) (SrcIs a.0) (DstIs b.0 ∷ []) refl h.0 h.1 start at t all
cases_back (Some a) (Some b) None (Some d) h some start at t all = text_back (assign_text (made (Some a) (Some b) None (Some d))) (SrcIs a.0) (DstIs b.0 ∷ DportIs d ∷ []) (simp append-nil) h.0 h.1 start at t all
cases_back (Some a) (Some b) (Some c) None h some start at t all = text_back (assign_text (made (Some a) (Some b) (Some c) None)) (SrcIs a.0) (DstIs b.0 ∷ SportIs c ∷ []) refl h.0 h.1 start at t all
cases_back (Some a) (Some b) (Some c) (Some d) h some start at t all = text_back (assign_text (made (Some a) (Some b) (Some c) (Some d))) (SrcIs a.0) (DstIs b.0 ∷ SportIs c ∷ DportIs d ∷ []) (simp append-nil) h.0 h.1 start at t all

pub sets_back : SetsBack SoundAssign
sets_back a s start at t sound all = cases_back a.src a.dst a.sport a.dport sound.each sound.some start at t all
