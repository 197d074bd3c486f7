-- Values put last, each once, as sets.
pub use Rattle.cells.proofs.AddsLemmas.{any-Member, Member-any, adds-same, IsDistinct-HasNoRepeats, adds_append, cubes-same, cubes-copied, insert_found, all-Member, adds_more}
use Rattle.std.proofs.Common.{◌≡◌, ℕ, eqb, ◌&&◌, true, Option, None, List, [], ◌∷◌, ◌++◌, refl, inl, inr, ap, ◌∙◌}
use Rattle.std.specs.Option.{option_eq}
use Rattle.std.specs.List.{IsDistinct}
use Rattle.std.proofs.lemmas.Bool.{eqb-true, eq-eqb, and_parts, and_from}
use Rattle.net_types.specs.declared.address.Ip.{Ip}
use Rattle.net_types.specs.Sets.{Member, SameMembers, HasNoRepeats}
use Rattle.net_types.specs.Attributes.{same_ip}
use Rattle.net_types.proofs.WidthTests.{ip_right}
use Rattle.classifier.proofs.ItemLemmas.{option_eq_exact, option_eq_refl}
use Rattle.policy_compile.specs.declared.fields.Fields.{Fields}
use Rattle.policy_compile.specs.Sets.{adds, same_fields, assign_of, assigns_of, fields_of}

-- ---- sets of fields

abbrev built : Option Ip → Option Ip → Option ℕ → Option ℕ → Fields
built src dst sport dport = record { src = src; dst = dst; sport = sport; dport = dport }

-- no fields
abbrev pub blank : Fields
blank = record { src = None; dst = None; sport = None; dport = None }

pub fields_exact : (a b : Fields) → same_fields a b ≡ true → a ≡ b
fields_exact a b h =
    let s = and_parts (option_eq same_ip a.src b.src) (option_eq same_ip a.dst b.dst && (option_eq eqb a.sport b.sport && option_eq eqb a.dport b.dport)) h in
    let d = and_parts (option_eq same_ip a.dst b.dst) (option_eq eqb a.sport b.sport && option_eq eqb a.dport b.dport) s.1 in
    let p = and_parts (option_eq eqb a.sport b.sport) (option_eq eqb a.dport b.dport) d.1 in
    ap (λ x. built x a.dst a.sport a.dport) (option_eq_exact same_ip ip_right a.src b.src s.0)
    ∙ ap (λ x. built b.src x a.sport a.dport) (option_eq_exact same_ip ip_right a.dst b.dst d.0)
    ∙ ap (λ x. built b.src b.dst x a.dport) (option_eq_exact eqb eqb-true a.sport b.sport p.0)
    ∙ ap (λ x. built b.src b.dst b.sport x) (option_eq_exact eqb eqb-true a.dport b.dport p.1)

pub fields_refl : (a : Fields) → same_fields a a ≡ true
fields_refl a =
    and_from _ _ (option_eq_refl same_ip (λ x. eq-eqb x.0 x.0 refl) a.src) (and_from _ _ (option_eq_refl same_ip (λ x. eq-eqb x.0 x.0 refl) a.dst) (and_from _ _ (option_eq_refl eqb (λ x. eq-eqb x x refl) a.sport) (option_eq_refl eqb (λ x. eq-eqb x x refl) a.dport)))

pub fields-same : (ks xs : List Fields) → SameMembers (adds same_fields ks xs) (ks ++ xs)
fields-same = adds-same same_fields fields_exact fields_refl

-- different fields are different assignments
assigns-HasNoRepeats : (fs : List Fields) → HasNoRepeats fs → HasNoRepeats (assigns_of fs)
assigns-HasNoRepeats [] d = tt
assigns-HasNoRepeats (f ∷ fs) d = (λ k. d.0 (own f fs k), assigns-HasNoRepeats fs d.1)
  where
    own : (f : Fields) (gs : List Fields) → Member (assign_of f) (assigns_of gs) → Member f gs
    own f [] k = elim k [ ]
    own f (g ∷ gs) (inl e) = inl (ap fields_of e)
    own f (g ∷ gs) (inr k) = inr (own f gs k)

pub distinct-assigns : (fs : List Fields) → IsDistinct same_fields fs → HasNoRepeats (assigns_of fs)
distinct-assigns fs d = assigns-HasNoRepeats fs (IsDistinct-HasNoRepeats same_fields fields_exact fields_refl fs d)
