-- The test of entries decides whether they are equal.
use Rattle.std.proofs.Common.{◌≡◌, true, ap}
use Rattle.std.specs.Prelude.{Some, unwrap_or}
use Rattle.std.proofs.lemmas.Bool.{and_from, and_parts, eqb-true}
use Rattle.net_types.proofs.EqualLemmas.{IsEqualityTest, from_itself, optional_test}
use Rattle.net_types.proofs.SameLemmas.{attrs_itself, nat_itself}
use Rattle.net_types.specs.Attributes.{same_attrs}
use Rattle.events.specs.Pending.{same_entry}
use Rattle.events.specs.Tags.{same_tag}
use Rattle.events.specs.declared.Entry.{Entry}

pub same_attributes : (a b : Entry) → same_attrs a.attrs b.attrs ≡ true → a.attrs ≡ b.attrs
same_attributes a b e = ap (λ o. unwrap_or o a.attrs) ((optional_test (Some a.attrs) (Some b.attrs)).0 e)

entries_equal : (a b : Entry) → same_entry a b ≡ true → a ≡ b
entries_equal a b e =
    let parts = and_parts (same_tag a.tag b.tag) (same_attrs a.attrs b.attrs) e in
    let attrs : a.attrs ≡ b.attrs = same_attributes a b parts.1 in
    let tags : a.tag.0 ≡ b.tag.0 = eqb-true a.tag.0 b.tag.0 parts.0 in
    λ i. record { attrs = attrs i; tag = record { 0 = tags i } }

entry_itself : (e : Entry) → same_entry e e ≡ true
entry_itself e = and_from (same_tag e.tag e.tag) (same_attrs e.attrs e.attrs) (nat_itself e.tag.0) (attrs_itself e.attrs)

pub entry_test : IsEqualityTest same_entry
entry_test = from_itself same_entry entries_equal entry_itself
