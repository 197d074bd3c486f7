-- What says the same is one thing: tags, signatures and groups.
use Rattle.std.proofs.Common.{◌≡◌, true, List, refl}
use Rattle.std.proofs.lemmas.Bool.{and_from, and_parts, eqb-true}
use Rattle.events.specs.Tags.{Group, same_group, same_tag}
use Rattle.net_types.proofs.EqualLemmas.{IsEqualityTest, from_itself, option_test, signature_test}
use Rattle.net_types.proofs.SameLemmas.{nat_itself}
use Rattle.net_types.specs.Attributes.{same_option, same_signature}
use Rattle.net_types.specs.declared.address.Tag.{Tag}
use Rattle.net_types.specs.declared.route.Part.{Part}

pub tag_same : (t u : Tag) → same_tag t u ≡ true → t ≡ u
tag_same t u e = λ i. record { 0 = eqb-true t.0 u.0 e i }

pub tag_itself : (t : Tag) → same_tag t t ≡ true
tag_itself t = nat_itself t.0

-- tags, where there are any
pub tags_test : IsEqualityTest (same_option same_tag)
tags_test = option_test same_tag (from_itself same_tag tag_same tag_itself)

pub signatures_test : IsEqualityTest (same_option same_signature)
signatures_test = option_test same_signature signature_test

pub signature_itself : (a : List Part) → same_signature a a ≡ true
signature_itself a = (signature_test a a).1 refl

pub group_same : (a b : Group) → same_group a b ≡ true → a ≡ b
group_same a b e =
    let parts = and_parts (same_option same_tag a.before b.before) (same_signature a.after b.after) e in
    λ i. record { before = (tags_test a.before b.before).0 parts.0 i; after = (signature_test a.after b.after).0 parts.1 i }

pub group_itself : (g : Group) → same_group g g ≡ true
group_itself g = and_from (same_option same_tag g.before g.before) (same_signature g.after g.after) ((tags_test g.before g.before).1 refl) (signature_itself g.after)
