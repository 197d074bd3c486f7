-- The canonical message of a sound update spells it.
use Rattle.std.proofs.Common.{◌≡◌, ℕ, ◌+◌, ◌<◌, ◌≤◌, true, List, [], ◌∷◌, ◌++◌, length, flat_map, leb, refl, sym, ap, subst, append_assoc, arith}
use Rattle.std.specs.Prelude.{Option, Some, None, ◌&&◌, ◌==◌}
use Rattle.std.proofs.lemmas.Bool.{and_from, eq-eqb, le-leb}
use Rattle.std.proofs.lemmas.List.{append-nil}
use Rattle.grammar.specs.Formats.{AllSpell, ItemsSpell}
use Rattle.net_types.proofs.SetLemmas.{same_refl}
use Rattle.net_types.specs.Octets.{word}
use Rattle.net_types.specs.SoundUpdates.{HasSoundAttrs, IsSoundUpdate}
use Rattle.net_types.specs.UpdateFormat.{Parts, attribute, head, is_complete, message, no_types, prefix, with_type}
use Rattle.net_types.specs.UpdateSpelling.{AreAttrs, Spells}
use Rattle.net_types.specs.UpdateValue.{said}
use Rattle.net_types.specs.Updates.{announcement, canonical, marker, optional_attrs_octets, prefix_octets, prefixes_octets, update_message, withdrawal}
use Rattle.net_types.specs.declared.address.Ip.{Ip}
use Rattle.net_types.specs.declared.attribute.Attribute.{Attribute}
use Rattle.net_types.specs.declared.prefix.Prefix.{Prefix}
use Rattle.net_types.specs.declared.route.Attrs.{Attrs}
use Rattle.net_types.specs.declared.update.Update.{Update}
use Rattle.bgp_update.proofs.LengthSums.{message_length}
use Rattle.bgp_update.proofs.PathLists.{path_there}
use Rattle.bgp_update.proofs.SpelledAttributes.{IsTaken, all_spell, octets_of, then_spells, two_spells}
use Rattle.bgp_update.proofs.SpelledMessages.{are_said, attributes_of, attrs_new, attrs_taken, optional_of, optional_written, prefixes_spell}
use Rattle.bgp_update.specs.Answers.{AreNew, head_of, parts_of}
use Rattle.bgp_update.specs.RoundTrip.{FitOptional}
use Rattle.net_types.specs.Sets.{Each}

-- ---- attributes where a prefix is announced

taken : (ps : List Prefix) (at : Option Attrs) → HasSoundAttrs ps at → FitOptional at → Each IsTaken (optional_of at)
taken ps None h f = tt
taken [] (Some a) h f = absurd h
taken (p ∷ ps) (Some a) h f = attrs_taken a h f

new : (ps : List Prefix) (at : Option Attrs) → HasSoundAttrs ps at → AreNew no_types (optional_of at)
new ps None h = tt
new [] (Some a) h = absurd h
new (p ∷ ps) (Some a) h = attrs_new a h

complete : (ps : List Prefix) (at : Option Attrs) → HasSoundAttrs ps at → is_complete (said (optional_of at)) ps ≡ true
complete [] at h = refl
complete (p ∷ ps) None h = absurd h
complete (p ∷ ps) (Some a) h = let s = are_said a h in rw (s.origin, s.next_hop, sym (path_there (said (attributes_of a))), s.path) refl

given : (ps : List Prefix) (at : Option Attrs) → HasSoundAttrs ps at → AreAttrs (said (optional_of at)) ps at
given [] None h = tt
given [] (Some a) h = h
given (p ∷ ps) None h = h
given (p ∷ ps) (Some a) h = are_said a h

-- ---- the message

front : (m t k w l a : List ℕ) → m ++ (t ++ (k ++ (w ++ (l ++ (a ++ []))))) ≡ m ++ t ++ k ++ w ++ l ++ a
front m t k w l a = simp (append_assoc, append-nil) refl

head_spells : (n : ℕ) (w a : List ℕ) (ps : List Prefix) (xs : List Attribute) → n ≤ 4096 → 23 + length w + length a ≤ n → ItemsSpell prefix w ps → AllSpell attribute with_type no_types a xs
    → (head n).Spells (marker ++ (word n ++ ((2 ∷ word (length w)) ++ (w ++ (word (length a) ++ (a ++ [])))))) (head_of ps xs)
head_spells n w a ps xs short long withdrawn attributes =
    let header : (leb 19 n && (leb n 4096 && (n == n))) ≡ true = and_from _ _ (le-leb 19 n (omega (arith, long))) (and_from _ _ (le-leb n 4096 short) (eq-eqb n n refl)) in
    then_spells _ _ marker (word n ++ ((2 ∷ word (length w)) ++ (w ++ (word (length a) ++ (a ++ []))))) marker _ (refl, refl)
    (then_spells _ _ [] (word n ++ ((2 ∷ word (length w)) ++ (w ++ (word (length a) ++ (a ++ []))))) tt _ (refl, refl)
    (then_spells _ _ (word n) ((2 ∷ word (length w)) ++ (w ++ (word (length a) ++ (a ++ [])))) n _ (two_spells _ n (omega (arith, short)))
    (then_spells _ _ [] ((2 ∷ word (length w)) ++ (w ++ (word (length a) ++ (a ++ [])))) tt _ (refl, header)
    (then_spells _ _ (2 ∷ []) (word (length w) ++ (w ++ (word (length a) ++ (a ++ [])))) 2 _ refl
    (then_spells _ _ [] (word (length w) ++ (w ++ (word (length a) ++ (a ++ [])))) tt _ (refl, refl)
    (then_spells _ _ [] (word (length w) ++ (w ++ (word (length a) ++ (a ++ [])))) tt _ (refl, le-leb 23 n (omega (arith, long)))
    (then_spells _ _ (word (length w)) (w ++ (word (length a) ++ (a ++ []))) (length w) _ (two_spells _ (length w) (omega (arith, short, long)))
    (then_spells _ _ [] (w ++ (word (length a) ++ (a ++ []))) tt _ (refl, le-leb (length w + 23) n (omega (arith, long)))
    (then_spells _ _ w (word (length a) ++ (a ++ [])) w _ (refl, refl)
    (then_spells _ _ (word (length a)) (a ++ []) (length a) _ (two_spells _ (length a) (omega (arith, short, long)))
    (then_spells _ _ [] (a ++ []) tt _ (refl, le-leb (length w + length a + 23) n (omega (arith, long)))
    (then_spells _ _ [] (a ++ []) ps _ (refl, withdrawn)
    (then_spells _ _ a [] a _ (refl, refl)
    (then_spells _ _ [] [] xs _ (refl, attributes) (refl, refl)))))))))))))))

-- the parts of the canonical message
abbrev canonical_parts : Update → Parts
canonical_parts u = parts_of u.withdrawn (optional_of u.attrs) u.announced

parts_spell : (u : Update) → IsSoundUpdate u → FitOptional u.attrs → length (canonical u) ≤ 4096 → (message (length (canonical u))).Spells (canonical u) (canonical_parts u)
parts_spell u s f short =
    let w : List ℕ = prefixes_octets u.withdrawn in
    let a : List ℕ = optional_attrs_octets u.attrs in
    let n : List ℕ = prefixes_octets u.announced in
    let len : length (canonical u) ≡ 23 + length (prefixes_octets u.withdrawn) + length (optional_attrs_octets u.attrs) + length (prefixes_octets u.announced) =
    message_length (prefixes_octets u.withdrawn) (optional_attrs_octets u.attrs) (prefixes_octets u.announced) in
    let less : length (flat_map octets_of (optional_of u.attrs)) < 65536 = omega (arith, ap length (optional_written u.attrs), len, short) in
    let all : AllSpell attribute with_type no_types (optional_attrs_octets u.attrs) (optional_of u.attrs) =
    subst (λ (t : List ℕ). AllSpell attribute with_type no_types t (optional_of u.attrs)) (optional_written u.attrs)
    (all_spell no_types (optional_of u.attrs) (taken u.announced u.attrs s.attrs f) (new u.announced u.attrs s.attrs) less) in
    subst (λ (k : ℕ). (message k).Spells (canonical u) (canonical_parts u)) (sym len) (
      marker ++ word (23 + length (prefixes_octets u.withdrawn) + length (optional_attrs_octets u.attrs) + length (prefixes_octets u.announced)) ++ (2 ∷ word (length (prefixes_octets u.withdrawn))) ++ prefixes_octets u.withdrawn
          ++ word (length (optional_attrs_octets u.attrs)) ++ optional_attrs_octets u.attrs,
      prefixes_octets u.announced,
      head_of u.withdrawn (optional_of u.attrs),
      u.announced,
      refl,
      subst (λ (t : List ℕ). (head (23 + length (prefixes_octets u.withdrawn) + length (optional_attrs_octets u.attrs) + length (prefixes_octets u.announced))).Spells t (head_of u.withdrawn (optional_of u.attrs)))
          (front marker (word (23 + length (prefixes_octets u.withdrawn) + length (optional_attrs_octets u.attrs) + length (prefixes_octets u.announced))) (2 ∷ word (length (prefixes_octets u.withdrawn))) (prefixes_octets u.withdrawn)
          (word (length (optional_attrs_octets u.attrs))) (optional_attrs_octets u.attrs))
          (head_spells _ (prefixes_octets u.withdrawn) (optional_attrs_octets u.attrs) u.withdrawn (optional_of u.attrs) (omega (arith, len, short)) (omega arith) (prefixes_spell u.withdrawn) all),
      prefixes_spell u.announced,
      complete u.announced u.attrs s.attrs,
      refl,
    )

pub reads_back : (u : Update) → IsSoundUpdate u → FitOptional u.attrs → length (canonical u) ≤ 4096 → Spells (canonical u) u
reads_back u s f short = record {
  parts = canonical_parts u;
  spells = parts_spell u s f short;
  value = record {
    announced = record { rising = s.announced; same = same_refl u.announced };
    withdrawn = record { rising = s.withdrawn; onto = λ p m. record { stands = m; apart = s.apart p m }; back = λ p h. h.stands };
    attrs = given u.announced u.attrs s.attrs;
  };
}

-- ---- updates of one prefix

pub one_announced : (p : Prefix) (a : Attrs) (ip : Ip) → announcement p a ip ≡ canonical (record { withdrawn = []; attrs = Some (record a { next_hop = ip }); announced = p ∷ [] })
one_announced p a ip = ap (update_message [] (optional_attrs_octets (Some (record a { next_hop = ip })))) (sym (append-nil (prefix_octets p)))

pub one_withdrawn : (p : Prefix) → withdrawal p ≡ canonical (record { withdrawn = p ∷ []; attrs = None; announced = [] })
one_withdrawn p = ap (λ (s : List ℕ). update_message s [] []) (sym (append-nil (prefix_octets p)))
